-- The command `check`.
use Rattle.std.specs.Prelude.{◌≡◌, ℕ, List, [], ◌++◌, codes}
use Rattle.sc_theory.specs.Fatgraphs.{IsFatgraph, IsLeast}
use Rattle.sc_fraction.specs.Quotient.{quotient_text}
use Rattle.sc_line.specs.Faults.{IsFirstFault}
use Rattle.sc_text.specs.ValueLines.{Quotient}
use Rattle.sc_certificate.specs.Certificates.{Certificate, certificate_plan}
use Rattle.sc_prices.specs.Conditions.{HasItsValue, AllHold, IsFirstFailing}
use Rattle.sc_app.specs.Notes.{line}
use Rattle.sc_app.specs.Rejections.{rejection}
use Rattle.sc_app.specs.Said.{IsCertificateText}
use Rattle.sc_app.specs.declared.status.Status.{Status}
use Rattle.sc_app.specs.declared.status.Status.TheVariants.{Done, Malformed, Rejected}

-- how the line of a value begins
abbrev pub optimal_label : List ℕ
optimal_label = codes "optimal "

-- the line of a value that is the least
abbrev pub optimal : Quotient → List ℕ
optimal value = line (optimal_label ++ quotient_text value.0 value.1)

-- what `check` answers to an input: by the first malformed line, the first condition of the certificate that fails,
-- or its value where all conditions hold
abbrev pub CheckResponds : List ℕ → Status → List ℕ → Type 0
CheckResponds input (Malformed at kind) text = IsFirstFault certificate_plan input at kind × (text ≡ [])
CheckResponds input (Rejected condition) text =
    (v : Certificate) × IsCertificateText input v × IsFirstFailing v condition × (text ≡ rejection condition)
CheckResponds input Done text = (v : Certificate) × IsCertificateText input v × AllHold v × (text ≡ optimal v.value)
CheckResponds input _ text = ⊥

-- the input is the text of a certificate
abbrev pub CheckAccepts : List ℕ → Type 0
CheckAccepts input = (v : Certificate) × IsCertificateText input v

-- what `check` may answer to an input that it accepts
abbrev pub IsCheckStatus : Status → Type 0
IsCheckStatus Done = Unit {0}
IsCheckStatus (Rejected condition) = Unit {0}
IsCheckStatus _ = ⊥

-- what the line of a value tells: the input is the text of a certificate with a labelled fatgraph that is least, and
-- the text is the line of the certificate's value, which is that of the fatgraph
pub record ShowsLeast (input : List ℕ) (text : List ℕ) : Type 0 where
  pub certificate : Certificate
  pub read : IsCertificateText input certificate
  pub fatgraph : IsFatgraph certificate.chain certificate.copies certificate.sides
  pub least : IsLeast certificate.chain certificate.copies certificate.sides
  pub value : HasItsValue certificate
  pub line : text ≡ optimal certificate.value
