use Rattle.std.proofs.Common.{◌≡◌, ◌+◌, pos, get_or, take, ◌*ℤ◌}
use Rattle.sc_algebra.specs.Sums.{sum_below}
use Rattle.sc_theory.specs.Chains.{weight, weighted_length}
use Rattle.sc_certificate.specs.Bounds.{IsWithinPrices}
use Rattle.sc_certificate.proofs.bounds.bound_from.Given as goal

abbrev pub invariant-loop-w : goal.invariant-loop-w
invariant-loop-w l = record {
  total : l.total ≡ sum_below (λ w. pos (weight l.chain w) *ℤ get_or l.list.base (l.from + w) (pos 0)) l.w;
  small : IsWithinPrices (weighted_length (take l.w l.chain)) l.total;
}
