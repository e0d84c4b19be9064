use Rattle.std.proofs.Common.{FitsSigned, to_z-of_z, rules}
use Rattle.std.specs.Int.{w128}
use Rattle.sc_line.proofs.NumberLaws.{tells_value}
use Rattle.sc_text.specs.PriceLines.{base_line, base_fault, base_of_line, IsPriceInRange}
use Rattle.sc_text.proofs.KindLaws.{base_kind}
use Rattle.sc_fan.proofs.lists.BaseLinesNumberedItem.read.Goals as goal

pub returns-clause-ok : goal.returns-clause-ok
returns-clause-ok c =
    let told = c.in_ok-base_line.ensures.ok in
    let fits : FitsSigned w128 c.in_ok-base_line.field-0 = search rules in
    simp (to_z-of_z fits) (tells_value base_fault base_of_line base_line IsPriceInRange c.in_ok-base_line.field-0 c.args.line.now base_kind told.0 told.1)
