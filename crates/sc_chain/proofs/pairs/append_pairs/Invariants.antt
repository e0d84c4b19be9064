use Rattle.std.proofs.Common.{◌≡◌, ◌++◌}
use Rattle.sc_theory.specs.Prices.{is_pair}
use Rattle.sc_chain.proofs.PairLists.{seconds}
use Rattle.sc_chain.proofs.pairs.append_pairs.Given as goal

abbrev pub invariant-loop-q : goal.invariant-loop-q
invariant-loop-q l = l.pairs.items ≡ l.initial.pairs.items ++ seconds l.p (is_pair l.chain l.p) 0 l.q
