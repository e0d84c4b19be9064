use Rattle.std.proofs.Common.{arith}
use Rattle.std.proofs.lemmas.Nat.Gcd.{IsGcd-from_zero, IsGcd-from_mod}
use Rattle.sc_whole.proofs.divisor.gcd_of_sizes.Goals as goal

pub loop-b-preserved : goal.loop-b-preserved
loop-b-preserved c g h = c.loop-b.invariant g (IsGcd-from_mod _ _ g h)

pub returns-then-b-eq0 : goal.returns-then-b-eq0
returns-then-b-eq0 c = c.loop-b.invariant _ (IsGcd-from_zero _ _ (omega arith))

pub returns : goal.returns
returns c = c.loop-b.invariant _ (IsGcd-from_mod _ _ _ c.narrow_gcd.ensures)
