use Rattle.std.proofs.Common.{◌≡◌, length, ◌*ℤ◌, rules}
use Rattle.sc_basis.specs.Products.{at}
use Rattle.sc_rows.specs.Lines.{row_of}
use Rattle.sc_simplex.specs.Orders.{headed}
use Rattle.sc_simplex.proofs.OrderLaws.{shifted}
use Rattle.sc_simplex.proofs.leaving.compare_rows.Goals as goal

pub returns-in-Equal : goal.returns-in-Equal
returns-in-Equal c =
    let first : at c.args.along.now c.args.second.row *ℤ c.args.first.value ≡ at c.args.along.now c.args.first.row *ℤ c.args.second.value = search rules in
    shifted c.compare_lines.result (length c.args.rows.now)
    (λ k. at c.args.along.now c.args.second.row *ℤ headed c.args.first.value (row_of c.args.rows.now c.args.first.row) k)
    (λ k. at c.args.along.now c.args.first.row *ℤ headed c.args.second.value (row_of c.args.rows.now c.args.second.row) k)
    first c.compare_lines.ensures
