-- The letters that a text spells are those of the generators.
use Rattle.std.proofs.Common.{◌≡◌, ℕ, ◌+◌, ◌-◌, ◌<◌, ◌≤◌, Bool, true, false, ◌&&◌, List, [], ◌∷◌, Option, Some, sym, ap, ◌∙◌, subst, arith, inl, inr}
use Rattle.std.specs.Prelude.{nat_le, length, ◌++◌, ◌≤ℤ◌, ℤ, pos, negsuc, neg_ℤ, unsigned_abs}
use Rattle.std.specs.List.{All, filter_map, cons_option}
use Rattle.std.proofs.lemmas.Bool.{cases_Bool, and_parts, leb-true, cond-true, cond-false}
use Rattle.std.proofs.lemmas.List.Elements.{All-nil, All-cons, All-push}
use Rattle.std.proofs.lemmas.List.Sums.{sum_by_push}
use Rattle.std.proofs.lemmas.Int.{ints}
use Rattle.std.proofs.lemmas.Option.{same_Some, none-some}
use Rattle.sc_theory.specs.declared.Letter.{Letter}
use Rattle.sc_theory.proofs.Reduction.{cases_option}
use Rattle.sc_words.specs.Spelling.{letter_of}
use Rattle.sc_theory.specs.Chains.{no_letter}
use Rattle.sc_words.specs.ChainText.{IsRawLine}
use Rattle.sc_words.specs.declared.lines.RawLine.{RawLine}
use Rattle.sc_words.specs.declared.limits.TheConstants.{MAX_COEFFICIENT}
use Rattle.sc_reduce.specs.Lines.{letters_of}
use Rattle.sc_reduce.proofs.LineLaws.{IsGenerator}

is_small : ℕ → Bool
is_small b = nat_le 97 b && nat_le b 122

is_capital : ℕ → Bool
is_capital b = nat_le 65 b && nat_le b 90

-- a byte between low and low + 25 is a letter
generator_between : (low b : ℕ) (s : Bool) (x : Letter) → low ≤ b → b < low + 26 → ◌≡◌ {A = Option Letter} (Some (record { number = b - low; inverse = s })) (Some x) → IsGenerator x
generator_between low b s x l h e =
    let same : b - low ≡ x.number = ap (λ (y : Letter). y.number) (same_Some (record { number = b - low; inverse = s }) x e) in
    omega arith

generator_of_letter : (b : ℕ) (x : Letter) → letter_of b ≡ Some x → IsGenerator x
unfolding is_small is_capital
generator_of_letter b x h = elim (cases_Bool (is_small b)) [
  | inl small ↦
      let parts = and_parts (nat_le 97 b) (nat_le b 122) small in
      let low : 97 ≤ b = leb-true 97 b parts.0 in
      let high : b ≤ 122 = leb-true b 122 parts.1 in
      generator_between 97 b false x low (omega arith) (sym (cond-true (is_small b) _ _ small) ∙ h)
  | inr other ↦ elim (cases_Bool (is_capital b)) [
    | inl capital ↦
        let parts = and_parts (nat_le 65 b) (nat_le b 90) capital in
        let low : 65 ≤ b = leb-true 65 b parts.0 in
        let high : b ≤ 90 = leb-true b 90 parts.1 in
        generator_between 65 b true x low (omega arith) (sym (cond-false (is_small b) _ _ other ∙ cond-true (is_capital b) _ _ capital) ∙ h)
    | inr none ↦ absurd (none-some x (sym (cond-false (is_small b) _ _ other ∙ cond-false (is_capital b) _ _ none) ∙ h))
  ]
]

-- the letters that bytes spell are those of generators
pub generators_of_text : (bs : List ℕ) → All IsGenerator (filter_map letter_of bs)
generators_of_text [] = All-nil IsGenerator
generators_of_text (b ∷ bs) = elim (cases_option (letter_of b)) [
  | inl absent ↦ subst (All IsGenerator) (ap (λ (o : Option Letter). cons_option o (filter_map letter_of bs)) (sym absent)) (generators_of_text bs)
  | inr there ↦
      subst (All IsGenerator) (ap (λ (o : Option Letter). cons_option o (filter_map letter_of bs)) (sym there.1))
      (All-cons IsGenerator there.0 (filter_map letter_of bs) (generator_of_letter b there.0 there.1) (generators_of_text bs))
]

-- ---- one line more in a list of lines

within_size : (z : ℤ) → unsigned_abs z ≤ MAX_COEFFICIENT → (neg_ℤ (pos MAX_COEFFICIENT) ≤ℤ z) × (z ≤ℤ pos MAX_COEFFICIENT)
within_size (pos n) h = (omega (arith, ints), omega (arith, ints))
within_size (negsuc n) h = (omega (arith, ints), omega (arith, ints))

-- one line more, with its coefficient and its letters in range
pub ranges_more : (ls ls' : List RawLine) (l : RawLine) → ls' ≡ ls ++ l ∷ [] → All IsRawLine ls → unsigned_abs l.coefficient ≤ MAX_COEFFICIENT → All IsGenerator l.word → All IsRawLine ls'
ranges_more ls ls' l e all size word =
    let bounds = within_size l.coefficient size in
    subst (All IsRawLine) (sym e)
    (All-push IsRawLine ls l all (record { low = bounds.0; high = bounds.1; generators = λ k h. word k no_letter h }))

-- one line more adds the letters of its word
pub letters_more : (ls ls' : List RawLine) (l : RawLine) (m n : ℕ) → ls' ≡ ls ++ l ∷ [] → m ≡ letters_of ls → n ≡ length l.word → m + n ≡ letters_of ls'
letters_more ls ls' l m n e so_far one =
    omega (arith, so_far, one, ap letters_of e, sum_by_push (λ (r : RawLine). length r.word) ls l)
