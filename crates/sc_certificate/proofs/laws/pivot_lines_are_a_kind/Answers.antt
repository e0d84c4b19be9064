use Rattle.sc_certificate.proofs.PivotLaws.{pivot_kind}
use Rattle.sc_certificate.proofs.laws.pivot_lines_are_a_kind.Goals as goal

pub returns : goal.returns
returns c = pivot_kind
