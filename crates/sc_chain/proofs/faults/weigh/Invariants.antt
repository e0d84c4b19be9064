use Rattle.std.proofs.Common.{◌≡◌, ◌≤◌, ◌*◌, ◌^◌, take}
use Rattle.sc_theory.specs.Chains.{positions, weighted_length}
use Rattle.sc_chain.proofs.faults.weigh.Given as goal

abbrev pub invariant-loop-entry : goal.invariant-loop-entry
invariant-loop-entry l = (l.length ≡ weighted_length (take l.entry-index l.words)) × (l.length ≤ 2 ^ 32 * positions (take l.entry-index l.words))
