use Rattle.std.proofs.Common.{◌≢◌, ◌↔◌, ◌^◌, ◌<◌, IsErrOf, arith, sym, subst}
use Rattle.sc_theory.specs.Chains.{Chain, positions}
use Rattle.sc_chain.specs.declared.fault.ChainFault.{ChainFault}
use Rattle.sc_chain.specs.declared.fault.ChainFault.TheVariants.{Memory}
use Rattle.sc_chain.specs.Faults.{AreGenerators, IsFaultOf}
use Rattle.sc_crossing.proofs.DirectionWords.{generators_at, positions_at, only_memory}
use Rattle.sc_crossing.proofs.chains.chain_at.Goals as goal

pub of_reduced-requires-clause-generators : goal.of_reduced-requires-clause-generators
of_reduced-requires-clause-generators c =
    subst AreGenerators (sym c.in_ok-words.ensures)
    (generators_at c.args.quadrant c.args.first.now c.args.second.now c.args.direction c.check_chain.ensures c.check_chain-2.ensures)

pub of_reduced-requires-clause-letters : goal.of_reduced-requires-clause-letters
of_reduced-requires-clause-letters c =
    subst (λ (ws : Chain). positions ws < 2 ^ 32) (sym c.in_ok-words.ensures)
    (omega (arith, positions_at c.args.quadrant c.args.first.now c.args.second.now c.args.direction, c.requires.positions))

pub unreachable-requires : goal.unreachable-requires
unreachable-requires c =
    only_memory c.args.quadrant c.args.first.now c.args.second.now c.args.direction c.check_chain.ensures c.check_chain-2.ensures
    c.requires.words c.requires.positions c.requires.light c.of_reduced.result c.in-Err.fault
    (subst (λ (ws : Chain). (f : ChainFault) → f ≢ Memory → IsErrOf c.of_reduced.result f ↔ IsFaultOf ws f) c.in_ok-words.ensures c.of_reduced.ensures.faults)
    c.in-Err.is c.in_default.not-Memory
