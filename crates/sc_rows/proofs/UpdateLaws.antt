-- New lists by the rule, and their refusals.
use Rattle.std.specs.Prelude.{◌≡◌, ℕ, ◌+◌, ◌<◌, ◌≤◌, List, length, ℤ, pos, ◌*ℤ◌, ◌<ℤ◌}
use Rattle.std.proofs.Common.{◌∙◌, inl, inr, subst, sym, arith}
use Rattle.std.proofs.Math.ListN.{set}
use Rattle.std.proofs.lemmas.Bool.{cases_eq}
use Rattle.std.proofs.lemmas.List.{get_or-set_same, get_or-set_other}
use Rattle.sc_basis.specs.Products.{at}
use Rattle.sc_basis.specs.Rules.{IsLowest}
use Rattle.sc_basis.proofs.Numbers.{mul_pos, pos_of_mul}
use Rattle.sc_rows.specs.Places.{IsWideBy}
use Rattle.sc_rows.specs.Updates.{joined, IsWideUpdate}
use Rattle.sc_rows.specs.inside.Updates.{AreJoined, IsWideAmong}
use Rattle.sc_rows.specs.declared.fault.RowFault.{RowFault}
use Rattle.sc_rows.specs.declared.fault.RowFault.TheVariants.{Wide, Memory}
use Rattle.sc_rows.specs.declared.update.Update.{Update}

-- the denominator of a ratio in lowest terms is positive, and so is its product with a positive number
pub scale_positive : (m a p q d : ℤ) → pos 0 <ℤ m → pos 0 <ℤ d → IsLowest m a p q → pos 0 <ℤ (d *ℤ p)
scale_positive m a p q d above some ratio = mul_pos d p some (pos_of_mul ratio.factor p ratio.positive (rw ratio.scale above))

-- where an operation at one of the entries is too wide, one of the new list is
pub among_wide : (u : Update) (n : ℕ) (x : ℕ → ℤ) (d : ℤ) (t : ℕ → ℤ) (m a p q : ℤ) (fault : RowFault) → IsLowest m a p q
    → IsWideBy (IsWideAmong u n x t p q) fault → IsWideBy (IsWideUpdate u n x d t m a) fault
among_wide u n x d t m a p q (Wide w) ratio h = record { p = p; q = q; ratio = ratio; wide = inl h }
among_wide u n x d t m a p q Memory ratio h = tt

-- the entry i of ys is made anew as y, where those before are made and the others are still as they were
module _ (u : Update) (i : ℕ) (x t : ℕ → ℤ) (p q : ℤ) (ys : List ℤ) where
  pub made_next : (y : ℤ) → i < length ys → y ≡ joined u (x i *ℤ p) (q *ℤ t i) → AreJoined u i x t p q (at ys) → AreJoined u (i + 1) x t p q (at (set ys i y))
  made_next y inside new made k below =
      elim (cases_eq k i) [
        | inl e ↦ subst (λ (j : ℕ). at (set ys i y) j ≡ joined u (x j *ℤ p) (q *ℤ t j)) (sym e) (get_or-set_same ys i y (pos 0) inside ∙ new)
        | inr apart ↦ get_or-set_other ys i k y (pos 0) apart ∙ made k (omega arith)
      ]

  pub rest_next : (y : ℤ) → ((k : ℕ) → i ≤ k → at ys k ≡ x k) → (k : ℕ) → i + 1 ≤ k → at (set ys i y) k ≡ x k
  rest_next y rest k past = get_or-set_other ys i k y (pos 0) (omega arith) ∙ rest k (omega arith)

  pub stayed_next : at ys i ≡ joined u (x i *ℤ p) (q *ℤ t i) → AreJoined u i x t p q (at ys) → AreJoined u (i + 1) x t p q (at ys)
  stayed_next stayed made k below =
      elim (cases_eq k i) [
        | inl e ↦ subst (λ (j : ℕ). at ys j ≡ joined u (x j *ℤ p) (q *ℤ t j)) (sym e) stayed
        | inr apart ↦ made k (omega arith)
      ]
