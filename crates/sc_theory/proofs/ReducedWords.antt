-- In a word that allows no deletion no letter is followed by its inverse, round the word.
use Rattle.std.proofs.Common.{◌≡◌, ℕ, zero, suc, ◌+◌, ◌<◌, Bool, true, false, not, if◌then◌else◌, [], ◌∷◌, length, get_or, Option, Some, None, inl, inr, arith, refl, sym, ap, subst, ◌∙◌}
use Rattle.std.specs.Option.{option_map, option_or}
use Rattle.std.proofs.lemmas.Bool.{cases_lt, false≢true}
use Rattle.sc_theory.specs.declared.Letter.{Letter}
use Rattle.sc_theory.specs.Words.{Word, inverse_letter, is_inverse, delete_leftmost, delete_ends, last_letter, all_but_last}
use Rattle.sc_theory.specs.Chains.{Chain, IsChain, no_letter, word, first, letter, succ}
use Rattle.sc_theory.specs.Walks.{IsStep}
use Rattle.sc_theory.proofs.Decisions.{is_inverse_of}
use Rattle.sc_theory.proofs.ChainLaws.{at, At, word_inside, letter_place, succ_within, succ_last}

both_none : {A : Type 0} (o p : Option A) → option_or o p ≡ None → (o ≡ None) × (p ≡ None)
both_none None p none = (refl, none)
both_none (Some x) p none = absurd (cc)

map_none : {A B : Type 0} (f : A → B) (o : Option A) → option_map f o ≡ None → o ≡ None
map_none f None none = refl
map_none f (Some x) none = absurd (cc)

-- what stands where a test leads to nothing
test_none : {A : Type 0} (test : Bool) (x : A) (o : Option A) → (if test then Some x else o) ≡ None → (test ≡ false) × (o ≡ None)
test_none false x o none = (refl, none)
test_none true x o none = absurd (cc)

neighbours_apart : (w : Word) (k : ℕ) → delete_leftmost w ≡ None → suc k < length w → is_inverse (get_or w k no_letter) (get_or w (suc k) no_letter) ≡ false
neighbours_apart [] k none inside = absurd (omega arith)
neighbours_apart (x ∷ []) k none inside = absurd (omega arith)
neighbours_apart (x ∷ y ∷ w) zero none inside = (test_none (is_inverse x y) w _ none).0
neighbours_apart (x ∷ y ∷ w) (suc k) none inside =
    neighbours_apart (y ∷ w) k (map_none (λ (rest : Word). x ∷ rest) (delete_leftmost (y ∷ w)) (test_none (is_inverse x y) w _ none).1) (omega arith)

last_is : (x : Letter) (w : Word) → last_letter x w ≡ get_or (x ∷ w) (length w) no_letter
last_is x [] = refl
last_is x (y ∷ w) = last_is y w

ends_apart : (w : Word) (k : ℕ) → delete_ends w ≡ None → suc (suc k) ≡ length w → is_inverse (get_or w 0 no_letter) (get_or w (suc k) no_letter) ≡ false
ends_apart [] k none last = absurd (omega arith)
ends_apart (x ∷ []) k none last = absurd (omega arith)
ends_apart (x ∷ y ∷ w) k none last =
    let e : k ≡ length w = omega arith in
    ap (is_inverse x) (ap (λ (m : ℕ). get_or (y ∷ w) m no_letter) e ∙ sym (last_is y w)) ∙ (test_none (is_inverse x (last_letter y w)) (all_but_last y w) None none).0

-- a letter isn't its own inverse, and is the inverse of its inverse
not_own : (b : Bool) → b ≡ not b → ⊥
not_own false e = cc
not_own true e = cc

not_own_inverse : (x : Letter) → x ≡ inverse_letter x → ⊥
not_own_inverse x e = not_own x.inverse (ap (λ (y : Letter). y.inverse) e)

twice : (b : Bool) → not (not b) ≡ b
twice false = refl
twice true = refl

inverse_twice : (x : Letter) → inverse_letter (inverse_letter x) ≡ x
inverse_twice x = ap (λ (b : Bool). record { number = x.number; inverse = b }) (twice x.inverse)

-- where x is the inverse of y, y passes the test for the inverse of x
pub inverse_before : (x y : Letter) → x ≡ inverse_letter y → is_inverse x y ≡ true
inverse_before x y e = ap (is_inverse x) (sym (inverse_twice y) ∙ sym (ap inverse_letter e)) ∙ is_inverse_of x

inverse_after : (x y : Letter) → x ≡ inverse_letter y → is_inverse y x ≡ true
inverse_after x y e = ap (is_inverse y) e ∙ is_inverse_of y

no_wrap : (w : Word) (k : ℕ) → delete_ends w ≡ None → suc k ≡ length w → get_or w k no_letter ≡ inverse_letter (get_or w 0 no_letter) → ⊥
no_wrap w zero none last e = not_own_inverse (get_or w 0 no_letter) e
no_wrap w (suc k) none last e = false≢true (sym (ends_apart w k none last) ∙ inverse_after _ _ e)

module _ (c : Chain) (is : IsChain c) where
  no_loop_at : (w k : ℕ) → k < length (word c w) → letter c (first c w + k) ≡ inverse_letter (letter c (succ c (first c w + k))) → ⊥
  no_loop_at w k inside loop =
      let reduced = both_none (delete_leftmost (word c w)) (delete_ends (word c w)) (is.reduced w (word_inside c w k inside)) in
      let here = letter_place c w k inside in
      elim (cases_lt (suc k) (length (word c w))) [
        | inl within ↦
            let there = ap (letter c) (succ_within c w k within) ∙ letter_place c w (suc k) within in
            let bad = inverse_before _ _ (sym here ∙ loop ∙ ap inverse_letter there) in
            false≢true (sym (neighbours_apart (word c w) k reduced.0 within) ∙ bad)
        | inr over ↦
            let last : suc k ≡ length (word c w) = omega arith in
            let start : first c w ≡ first c w + 0 = omega arith in
            let there = ap (letter c) (succ_last c w k last ∙ start) ∙ letter_place c w 0 (omega arith) in
            no_wrap (word c w) k reduced.1 last (sym here ∙ loop ∙ ap inverse_letter there)
      ]

  -- no step leads from a position to itself
  pub no_loop : (i : ℕ) → IsStep c i i → ⊥
  no_loop i step =
      let a : At c i = at c i step.from in
      no_loop_at a.w a.k a.in_word (subst (λ (x : ℕ). letter c x ≡ inverse_letter (letter c (succ c x))) a.here step.inverse)
