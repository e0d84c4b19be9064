use Rattle.std.proofs.Common.{◌≡◌}
use Rattle.sc_theory.specs.Chains.{positions}
use Rattle.sc_theory.specs.Prices.{is_pair}
use Rattle.sc_chain.proofs.PairLists.{all_seconds}
use Rattle.sc_chain.proofs.pairs.inverse_pairs.Given as goal

abbrev pub invariant-loop-p : goal.invariant-loop-p
invariant-loop-p l = l.found.items ≡ all_seconds (is_pair l.chain) (positions l.chain) 0 l.p
