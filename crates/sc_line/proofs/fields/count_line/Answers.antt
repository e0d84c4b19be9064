use Rattle.std.proofs.Common.{◌≤ℤ◌, pos, FitsSigned, to_z-of_z, rules}
use Rattle.std.specs.Int.{w128}
use Rattle.sc_line.proofs.NumberLaws.{tells_natural}
use Rattle.sc_line.proofs.fields.count_line.Goals as goal

pub returns-clause-tells : goal.returns-clause-tells
returns-clause-tells c =
    let z = c.in_ok-number_line.field-0 in
    let fits : FitsSigned w128 z = search rules in
    let small : pos c.args.low ≤ℤ z = search rules in
    let large : z ≤ℤ pos c.args.high = search rules in
    simp (to_z-of_z fits) (tells_natural c.args.name.now c.args.low c.args.high z c.args.line.now c.in_ok-number_line.ensures.fields small large)
