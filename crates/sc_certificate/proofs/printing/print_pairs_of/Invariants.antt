use Rattle.sc_theory.specs.Prices.{is_pair}
use Rattle.sc_chain.proofs.PairLists.{seconds}
use Rattle.sc_certificate.specs.inside.PrintedPairs.{ArePrinted}
use Rattle.sc_certificate.proofs.printing.print_pairs_of.Given as goal

abbrev pub invariant-loop-q : goal.invariant-loop-q
invariant-loop-q l = ArePrinted l.fn.out.items l.prices (seconds l.p (is_pair l.chain l.p) 0 l.q) l.out.items l.left
