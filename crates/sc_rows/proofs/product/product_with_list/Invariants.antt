use Rattle.std.proofs.Common.{◌≡◌}
use Rattle.sc_basis.specs.Products.{at, dot}
use Rattle.sc_rows.proofs.product.product_with_list.Given as goal

abbrev pub invariant-loop-index : goal.invariant-loop-index
invariant-loop-index l = record { sum : l.sum ≡ dot l.index (at l.list) (at l.other) }
