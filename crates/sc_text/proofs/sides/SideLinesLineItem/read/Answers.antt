use Rattle.sc_line.proofs.NumberLaws.{tells_value}
use Rattle.sc_text.specs.Sides.{side_line, side_fault, side_of_line, IsSideWithin}
use Rattle.sc_text.proofs.KindLaws.{side_kind}
use Rattle.sc_text.proofs.sides.SideLinesLineItem.read.Goals as goal

pub returns-clause-ok : goal.returns-clause-ok
returns-clause-ok c =
    let told = c.in_ok-side_line.ensures.ok in
    let m = c.args.self.now.limits in
    tells_value (side_fault m) side_of_line side_line (IsSideWithin m) c.in_ok-side_line.field-0 c.args.line.now (side_kind m) told.0 told.1
