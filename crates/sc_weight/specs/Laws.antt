-- Laws of pairs of whole numbers, which every weight has.
use Rattle.std.specs.Prelude.{◌≡◌, ℤ, ◌+ℤ◌}
use Rattle.std.proofs.Common.{arith}
use lib.IntN.{+ℤ_comm, +ℤ_assoc, +ℤ_idr, +ℤ-neg_ℤ_cancel}
use Rattle.std.proofs.lemmas.Int.{ints}
use Rattle.std.proofs.lemmas.Cmp.{int_cmp_total, on_total, then_total}
use Rattle.std.specs.Cmp.{IsTotalOrder}
use Rattle.std.specs.Ordering.{int_cmp, ordering_then}
use Rattle.sc_weight.specs.Levels.{Levels, zero_levels, levels_sum, levels_difference, levels_cmp}

pub levels_cmp_total : {W : Type 0} (levels : W → Levels) → IsTotalOrder (λ (x y : W). levels_cmp (levels x) (levels y))
levels_cmp_total levels = on_total levels (then_total (on_total (λ l. l.bulk) int_cmp_total) (on_total (λ l. l.fine) int_cmp_total))

pub levels_sum_comm : (x y : Levels) → levels_sum x y ≡ levels_sum y x
levels_sum_comm x y = λ i. record { bulk = +ℤ_comm x.bulk y.bulk i; fine = +ℤ_comm x.fine y.fine i }

pub levels_sum_assoc : (x y z : Levels) → levels_sum (levels_sum x y) z ≡ levels_sum x (levels_sum y z)
levels_sum_assoc x y z = λ i. record { bulk = +ℤ_assoc x.bulk y.bulk z.bulk i; fine = +ℤ_assoc x.fine y.fine z.fine i }

pub levels_sum_zero : (x : Levels) → levels_sum x zero_levels ≡ x
levels_sum_zero x = λ i. record { bulk = +ℤ_idr x.bulk i; fine = +ℤ_idr x.fine i }

pub levels_difference_undoes : (x y : Levels) → levels_difference (levels_sum x y) y ≡ x
levels_difference_undoes x y = λ i. record { bulk = +ℤ-neg_ℤ_cancel x.bulk y.bulk i; fine = +ℤ-neg_ℤ_cancel x.fine y.fine i }

int_cmp_sum : (a b c : ℤ) → int_cmp (a +ℤ c) (b +ℤ c) ≡ int_cmp a b
int_cmp_sum a b c = grind (arith, ints)

pub levels_sum_cmp : (x y z : Levels) → levels_cmp (levels_sum x z) (levels_sum y z) ≡ levels_cmp x y
levels_sum_cmp x y z = λ i. ordering_then (int_cmp_sum x.bulk y.bulk z.bulk i) (int_cmp_sum x.fine y.fine z.fine i)
