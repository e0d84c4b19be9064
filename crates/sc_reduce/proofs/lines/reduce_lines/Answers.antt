use Rattle.std.proofs.Common.{ap, sym, subst, arith}
use Rattle.sc_theory.specs.Chains.{Chain, positions}
use Rattle.sc_chain.specs.Faults.{AreGenerators, IsFaultOf}
use Rattle.sc_reduce.proofs.LineLaws.{generators_of_chain, positions_of_chain, excess_of_result}
use Rattle.sc_reduce.proofs.lines.reduce_lines.Goals as goal

pub of_reduced-requires-clause-generators : goal.of_reduced-requires-clause-generators
of_reduced-requires-clause-generators c =
    subst AreGenerators (sym c.in_ok-weighted_words.ensures)
    (generators_of_chain c.args.raw.now c.requires.ranges)

pub of_reduced-requires-clause-letters : goal.of_reduced-requires-clause-letters
of_reduced-requires-clause-letters c =
    omega (arith, ap positions c.in_ok-weighted_words.ensures, positions_of_chain c.args.raw.now, c.requires.letters)

pub returns-clause-excess : goal.returns-clause-excess
returns-clause-excess c =
    excess_of_result c.args.raw.now c.requires.ranges c.of_reduced.result
    (λ e ne h. subst (λ (d : Chain). IsFaultOf d e) c.in_ok-weighted_words.ensures ((c.of_reduced.ensures.faults e ne).0 h))
