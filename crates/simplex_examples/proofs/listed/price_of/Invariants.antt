use Rattle.std.proofs.Common.{◌≡◌}
use Rattle.sc_basis.specs.Products.{at, dot}
use Rattle.sc_basis.specs.Bases.{entry_of}
use Rattle.sc_basis.specs.Entries.{reached}
use Rattle.simplex_examples.proofs.listed.price_of.Given as goal

-- the product of the entries that were passed
abbrev pub invariant-loop-n : goal.invariant-loop-n
invariant-loop-n l = record { sum : l.sum ≡ dot (reached l.column l.n) (at l.prices) (entry_of l.column) }
