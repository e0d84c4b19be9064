use Rattle.std.proofs.Common.{ℕ}
use Rattle.std.specs.Int.{IsGcd}
use Rattle.sc_whole.proofs.divisor.narrow_gcd.Given as goal

-- the numbers so far have the divisors of the first two
abbrev pub invariant-loop-b : goal.invariant-loop-b
invariant-loop-b l = (g : ℕ) → IsGcd l.a l.b g → IsGcd l.fn.x l.fn.y g

abbrev pub decreases-loop-b : goal.decreases-loop-b
decreases-loop-b l = l.b
