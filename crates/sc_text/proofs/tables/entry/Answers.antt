use Rattle.std.proofs.Common.{FitsSigned, to_z-of_z, rules}
use Rattle.std.specs.Int.{w128}
use Rattle.sc_line.proofs.LineLaws.{told_is}
use Rattle.sc_text.proofs.tables.entry.Goals as goal

pub returns-clause-ok : goal.returns-clause-ok
returns-clause-ok c =
    let number = c.in_ok-number.ensures.ok in
    let fits : FitsSigned w128 c.in_ok-number.number = search rules in
    let field = told_is c.args.field.now c.in_ok-number_of.field-0 c.in_ok-number.number c.in_ok-number_of.ensures.ok number.0 in
    simp (to_z-of_z fits) (field, (number.1, number.2))
