use Rattle.std.proofs.Common.{arith}
use Rattle.std.proofs.Math.Nat.{mul-le-mul}
use Rattle.sc_chain.specs.declared.limits.TheConstants.{MAX_POSITIONS}
use Rattle.sc_chain.proofs.PairPlaces.{few_pairs}
use Rattle.sc_chain.proofs.pairs.Pairs.count.Goals as goal

pub returns-clause-few : goal.returns-clause-few
returns-clause-few c =
    rw (← c.self.view_is)
    (omega (
      arith,
      few_pairs c.self.inside.pairs.items c.self.inside.positions c.self.invariant.pairs,
      mul-le-mul {n₁ = c.self.inside.positions} {m₁ = c.self.inside.positions} {n₂ = MAX_POSITIONS} {m₂ = MAX_POSITIONS} c.self.invariant.few c.self.invariant.few,
    ))
