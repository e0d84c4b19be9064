-- What bytes spell.
use Rattle.std.proofs.Common.{◌≡◌, ℕ, zero, suc, ◌<◌, ◌≤◌, Bool, true, false, ◌&&◌, leb, List, [], ◌∷◌, length, get_or, Option, Some, None, is_some, refl, sym, subst, arith, inl, inr}
use Rattle.std.specs.List.{list_all, filter_map}
use Rattle.std.proofs.lemmas.Bool.{cases_Bool, leb-true, and_parts, false≢true}
use Rattle.std.proofs.lemmas.Option.{same_Some, none-some}
use Rattle.sc_theory.specs.declared.Letter.{Letter}
use Rattle.sc_theory.specs.Words.{Word}
use Rattle.sc_theory.specs.Chains.{no_letter}
use Rattle.sc_words.specs.declared.limits.TheConstants.{GENERATORS}
use Rattle.sc_words.specs.Spelling.{letter_byte, letter_of, with_first, word_of}

-- a byte that spells a letter is the letter's own, and the letter is one of the generators
pub record IsByteOf (b : ℕ) (x : Letter) : Type 0 where
  pub byte : letter_byte x ≡ b
  pub generator : x.number < GENERATORS

pub letter_back : (b : ℕ) (x : Letter) → letter_of b ≡ Some x → IsByteOf b x
letter_back b x e =
    elim (cases_Bool (leb 97 b && leb b 122)) [
      | inl small ↦
          let ends = and_parts _ _ small in
          let low : 97 ≤ b = leb-true _ _ ends.0 in
          let high : b ≤ 122 = leb-true _ _ ends.1 in
          subst (IsByteOf b) (same_Some _ _ (rw small at e)) (record { byte = omega arith; generator = omega arith })
      | inr other ↦
          elim (cases_Bool (leb 65 b && leb b 90)) [
            | inl capital ↦
                let ends = and_parts _ _ capital in
                let low : 65 ≤ b = leb-true _ _ ends.0 in
                let high : b ≤ 90 = leb-true _ _ ends.1 in
                subst (IsByteOf b) (same_Some _ _ (rw (other, capital) at e)) (record { byte = omega arith; generator = omega arith })
            | inr neither ↦ absurd (none-some x (rw (other, neither) at e))
          ]
    ]

-- whether each of the bytes spells a letter
abbrev pub are_letters : List ℕ → Bool
are_letters bs = list_all (λ b. is_some (letter_of b)) bs

-- bytes that all spell letters spell the word of these, and others spell no word
pub word_from_letters : (bs : List ℕ) → are_letters bs ≡ true → word_of bs ≡ Some (filter_map letter_of bs)
word_from_letters [] h = refl
word_from_letters (b ∷ bs) h =
    let both = and_parts _ _ h in
    let rest = word_from_letters bs both.1 in
    elim (letter_of b) as (λ (o : Option Letter). letter_of b ≡ o → word_of (b ∷ bs) ≡ Some (filter_map letter_of (b ∷ bs))) [
      | None ↦ λ e. absurd (let some : is_some (letter_of b) ≡ true = both.0 in let none : false ≡ true = rw e at some in false≢true none)
      | Some x ↦ λ e. rw (e, rest) refl
    ] refl

with_none : (o : Option Letter) → with_first o None ≡ None
with_none None = refl
with_none (Some x) = refl

pub word_from_others : (bs : List ℕ) → are_letters bs ≡ false → word_of bs ≡ None
word_from_others [] h = absurd (false≢true (sym h))
word_from_others (b ∷ bs) h =
    elim (letter_of b) as (λ (o : Option Letter). letter_of b ≡ o → word_of (b ∷ bs) ≡ None) [
      | None ↦ λ e. rw e refl
      | Some x ↦ λ e. let others : are_letters bs ≡ false = rw e at h in rw (word_from_others bs others) (with_none (letter_of b))
    ] refl

-- the letters of a word are those of the generators
abbrev pub HasGenerators : Word → Type 0
HasGenerators w = (k : ℕ) → k < length w → (get_or w k no_letter).number < GENERATORS

generators-cons : (x : Letter) (w : Word) → x.number < GENERATORS → HasGenerators w → HasGenerators (x ∷ w)
generators-cons x w h rest zero l = h
generators-cons x w h rest (suc k) l = rest k (omega arith)

-- the letters of a spelled word are those of the generators
pub spelled_generators : (bs : List ℕ) (w : Word) → word_of bs ≡ Some w → HasGenerators w
spelled_generators [] w e = subst HasGenerators (same_Some _ _ e) (λ k l. absurd (omega arith))
spelled_generators (b ∷ bs) w e =
    elim (letter_of b) as (λ (o : Option Letter). letter_of b ≡ o → HasGenerators w) [
      | None ↦ λ first. absurd (none-some w (rw first at e))
      | Some x ↦ λ first.
          elim (word_of bs) as (λ (o : Option Word). word_of bs ≡ o → HasGenerators w) [
            | None ↦ λ rest. absurd (none-some w (rw (first, rest) at e))
            | Some v ↦ λ rest. subst HasGenerators (same_Some _ _ (rw (first, rest) at e)) (generators-cons x v (letter_back b x first).generator (spelled_generators bs v rest))
          ] refl
    ] refl
