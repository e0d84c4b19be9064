use Rattle.std.proofs.Common.{◌*◌, ◌≤◌}
use Rattle.sc_theory.specs.Chains.{positions}
use Rattle.sc_chain.specs.Faults.{AreGenerators}
use Rattle.sc_fatgraph.proofs.tests.words_of.Given as goal

abbrev pub invariant-loop-text : goal.invariant-loop-text
invariant-loop-text g l = AreGenerators l.words.items × (positions l.words.items ≤ 100 * l.text-index)
