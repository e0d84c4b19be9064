use Rattle.sc_line.proofs.NumberLaws.{tells_value}
use Rattle.sc_text.specs.ValueLines.{value_fault, value_of_line, value_line, quotient_of, IsValueInRange}
use Rattle.sc_text.proofs.KindLaws.{value_kind}
use Rattle.sc_certificate.proofs.head.Head.read.Goals as goal

pub returns-clause-ok : goal.returns-clause-ok
returns-clause-ok c =
    let told = c.in_ok-value.ensures.ok in
    tells_value value_fault value_of_line value_line IsValueInRange (quotient_of c.in_ok-value.value) c.args.line.now value_kind told.0 told.1
