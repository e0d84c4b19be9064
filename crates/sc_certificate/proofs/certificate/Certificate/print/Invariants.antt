use Rattle.std.proofs.Common.{◌≡◌, ◌++◌, take}
use Rattle.std.specs.List.{flat_map}
use Rattle.sc_certificate.specs.declared.parts.TheConstants.{PARTS}
use Rattle.sc_certificate.specs.CertificateRead.{certificate_of}
use Rattle.sc_certificate.specs.Parts.{part_text}
use Rattle.sc_certificate.proofs.certificate.Certificate.print.Given as goal

abbrev pub invariant-loop-part : goal.invariant-loop-part
invariant-loop-part l = l.out.items ≡ l.fn.out.items ++ flat_map (part_text (certificate_of l.self)) (take l.part-index PARTS)
