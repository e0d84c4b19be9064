-- That something is never without an answer: from first places, and by values that are chosen number by number.
use Rattle.std.proofs.Common.{◌≡◌, ℕ, zero, suc, ◌<◌, ◌==◌, inl, inr, Option, None, Some, if◌then◌else◌, subst, sym, arith}
use Rattle.std.proofs.lemmas.Bool.{cases_eq, cond-true, cond-false, eq-eqb, ne_eqb}
use Rattle.sc_theory.proofs.Reduction.{cases_option}

-- where no number is the first that has a fact, none has it
none_first : (P : ℕ → Type 0) → ((i : ℕ) → P i → ((j : ℕ) → j < i → ¬ P j) → ⊥) → (n i : ℕ) → i < n → ¬ P i
none_first P never zero i h = absurd (omega arith)
none_first P never (suc n) i h = λ p. never i p (λ j less. none_first P never n j (omega arith))

-- a fact that no number is the first to have is had by none
pub none_at_all : (P : ℕ → Type 0) → ((i : ℕ) → P i → ((j : ℕ) → j < i → ¬ P j) → ⊥) → (i : ℕ) → ¬ P i
none_at_all P never i = none_first P never (suc i) i (omega arith)

-- where no number is the first with a value, none below n has one
pub first_some : {A : Type 0} (f : ℕ → Option A) → ((i : ℕ) (x : A) → f i ≡ Some x → ((j : ℕ) → j < i → f j ≡ None) → ⊥) → (n i : ℕ) → i < n → f i ≡ None
first_some f never zero i h = absurd (omega arith)
first_some f never (suc n) i h = elim (cases_option (f i)) [
  | inl absent ↦ absent
  | inr there ↦ absurd (never i there.0 there.1 (λ j less. first_some f never n j (omega arith)))
]

-- where no number below n is without a value, it can't be that no function has a value for each
pub chosen : (P : ℕ → ℕ → Type 0) (n : ℕ) → ((s : ℕ) → s < n → ((r : ℕ) → ¬ P s r) → ⊥) → ((f : ℕ → ℕ) → ((s : ℕ) → s < n → P s (f s)) → ⊥) → ⊥
chosen P zero some none = none (λ s. 0) (λ s b. absurd (omega (arith, b)))
chosen P (suc n) some none =
    chosen P n (λ s b. some s (omega (arith, b)))
    (λ f h. some n (omega arith) (λ r p. none (λ s. if s == n then r else f s) (λ s b.
    elim (cases_eq s n) [
      | inl e ↦ subst (P s) (sym (cond-true (s == n) r (f s) (eq-eqb s n e))) (subst (λ (k : ℕ). P k r) (sym e) p)
      | inr ne ↦ subst (P s) (sym (cond-false (s == n) r (f s) (ne_eqb s n ne))) (h s (omega (arith, b, ne)))
    ])))
