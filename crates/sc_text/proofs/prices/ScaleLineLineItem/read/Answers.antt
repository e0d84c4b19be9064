use Rattle.std.proofs.Common.{FitsSigned, to_z-of_z, rules}
use Rattle.std.specs.Int.{w128}
use Rattle.sc_line.proofs.NumberLaws.{tells_value}
use Rattle.sc_text.specs.PriceLines.{scale_line, scale_fault, scale_of_line, IsScaleInRange}
use Rattle.sc_text.proofs.KindLaws.{scale_kind}
use Rattle.sc_text.proofs.prices.ScaleLineLineItem.read.Goals as goal

pub returns-clause-ok : goal.returns-clause-ok
returns-clause-ok c =
    let told = c.in_ok-scale_line.ensures.ok in
    let fits : FitsSigned w128 c.in_ok-scale_line.field-0 = search rules in
    simp (to_z-of_z fits) (tells_value scale_fault scale_of_line scale_line IsScaleInRange c.in_ok-scale_line.field-0 c.args.line.now scale_kind told.0 told.1)
