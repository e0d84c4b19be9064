use Rattle.sc_theory.specs.Chains.{positions}
use Rattle.sc_theory.specs.Prices.{is_pair}
use Rattle.sc_chain.proofs.PairLists.{all_seconds}
use Rattle.sc_certificate.specs.inside.PrintedPairs.{ArePrinted}
use Rattle.sc_certificate.proofs.printing.print_pair_lines.Given as goal

abbrev pub invariant-loop-p : goal.invariant-loop-p
invariant-loop-p l = ArePrinted l.fn.out.items l.prices (all_seconds (is_pair l.chain) (positions l.chain) 0 l.p) l.out.items l.left
