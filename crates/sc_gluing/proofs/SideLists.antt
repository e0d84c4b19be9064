-- The list of opposite kinds grows by one entry a side.
use Rattle.std.proofs.Common.{◌≡◌, ℕ, ◌+◌, ◌<◌, List, [], ◌∷◌, ◌++◌, length, get_or, inl, inr, arith, sym, ap, ◌∙◌, length-append}
use Rattle.std.proofs.Math.Seq.{get_or-append_seam}
use Rattle.std.proofs.lemmas.List.{get_or_append_left}
use Rattle.std.proofs.lemmas.Bool.{cases_eq}
use Rattle.sc_theory.specs.Chains.{Chain, positions, succ, prev}
use Rattle.sc_gluing.specs.inside.Sides.{AreInside, end_at, AreOpposites}
use Rattle.sc_gluing.specs.Sides.{kind}

-- one entry more
entry_more : {A : Type 0} (d : A) (f : ℕ → A) (xs : List A) (n : ℕ) (x : A) → length xs ≡ n → ((s : ℕ) → s < n → get_or xs s d ≡ f s) → x ≡ f n → (s : ℕ) → s < n + 1 → get_or (xs ++ x ∷ []) s d ≡ f s
entry_more d f xs n x len are e s h =
    elim (cases_eq s n) [
      | inl same ↦ ap (λ (m : ℕ). get_or (xs ++ x ∷ []) m d) (same ∙ sym len) ∙ get_or-append_seam xs x [] d ∙ e ∙ ap f (sym same)
      | inr other ↦ get_or_append_left xs (x ∷ []) d s (omega arith) ∙ are s (omega arith)
    ]

length_more : {A : Type 0} (xs : List A) (n : ℕ) (x : A) → length xs ≡ n → length (xs ++ x ∷ []) ≡ n + 1
length_more xs n x len = omega (arith, length-append xs (x ∷ []))

-- one side more has its opposite kind
pub opposites_more : (c : Chain) (labels afters : List ℕ) (n : ℕ) (opposites : List ℕ) (x : ℕ) → AreOpposites c labels afters n opposites → x ≡ kind (positions c) (prev c (end_at labels afters n)) (succ c (get_or labels n 0)) →
    AreOpposites c labels afters (n + 1) (opposites ++ x ∷ [])
opposites_more c labels afters n opposites x are e = record {
  as_many = length_more opposites n x are.as_many;
  opposites_are = entry_more 0 (λ s. kind (positions c) (prev c (end_at labels afters s)) (succ c (get_or labels s 0))) opposites n x are.as_many are.opposites_are e;
}

-- the sides after sides are sides
pub afters_within : (bound : ℕ) (labels afters : List ℕ) → AreInside bound labels afters → (s : ℕ) → s < length afters → get_or afters s 0 < length afters
afters_within bound labels afters are s h = omega (arith, are.as_many, are.after_inside s (omega (arith, are.as_many)))
