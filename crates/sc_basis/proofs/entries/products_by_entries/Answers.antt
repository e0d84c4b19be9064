use Rattle.sc_basis.proofs.EntryLaws.{entry_here, product_through, product_whole}
use Rattle.sc_basis.proofs.entries.products_by_entries.Goals as goal

pub returns : goal.returns
returns c = record { here = λ r d m h inside. entry_here r 0 d m h inside; through = product_through; whole = product_whole }
