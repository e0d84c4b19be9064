-- What a certificate of the program says, and what a reader answers.
use Rattle.std.specs.Prelude.{ℕ, List, Result}
use Rattle.sc_line.specs.declared.fault.TextFault.{TextFault}
use Rattle.sc_line.specs.Lines.{text_of}
use Rattle.sc_line.specs.Formats.{plan_of}
use Rattle.sc_line.specs.Forms.{IsRead}
use Rattle.sc_text.specs.declared.limits.TheConstants.{VERSION_1}
use Rattle.sc_text.specs.ValueLines.{quotient_of}
use Rattle.sc_certificate.specs.declared.certificate.Certificate.{Certificate as CertificateParts}
use Rattle.sc_certificate.specs.Certificates.{Certificate, certificate_form, certificate_due, IsCertificateInRange}

-- what a certificate says
abbrev pub certificate_of : CertificateParts → Certificate
certificate_of s = record {
  chain = s.chain;
  value = quotient_of s.value;
  copies = s.n;
  sides = s.sides.items;
  list = s.list;
  tables = s.tables;
  journal = s.journal.items;
}

-- what a reader of certificate texts answers
abbrev pub IsCertificateRead : List ℕ → Result CertificateParts TextFault → Type 0
IsCertificateRead bytes result =
    IsRead (λ v. text_of ((certificate_form VERSION_1).lines v)) IsCertificateInRange (plan_of (certificate_due VERSION_1)) bytes certificate_of result
