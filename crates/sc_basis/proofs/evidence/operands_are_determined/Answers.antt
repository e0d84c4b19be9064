use Rattle.sc_basis.proofs.EvidenceLaws.{evidence_unique}
use Rattle.sc_basis.proofs.evidence.operands_are_determined.Goals as goal

pub returns : goal.returns
returns c = record { determined = evidence_unique }
