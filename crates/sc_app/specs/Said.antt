-- The surface that an input says, as its text or in a certificate.
use Rattle.std.specs.Prelude.{◌≡◌, ◌⊎◌, ℕ, eqb, Bool, if◌then◌else◌, List, []}
use Rattle.std.specs.List.{starts_with}
use Rattle.sc_theory.specs.Chains.{Chain}
use Rattle.sc_theory.specs.Fatgraphs.{Sides, IsFatgraph}
use Rattle.sc_line.specs.Faults.{Plan, IsFirstFault}
use Rattle.sc_text.specs.Surfaces.{surface_text, surface_plan, IsSurfaceInRange}
use Rattle.sc_fatgraph.specs.Flaws.{IsFirstFlaw}
use Rattle.sc_certificate.specs.Certificates.{Certificate, certificate_text, heading, certificate_plan, IsCertificateInRange}
use Rattle.sc_prices.specs.declared.verdict.Condition.TheVariants.{Flaw}
use Rattle.sc_app.specs.Notes.{line}
use Rattle.sc_app.specs.Rejections.{rejection}
use Rattle.sc_app.specs.Answer.{status_of, text_of}
use Rattle.sc_app.specs.declared.said.Heading.{Heading}
use Rattle.sc_app.specs.declared.said.Heading.TheVariants.{CertificateText, SurfaceText}
use Rattle.sc_app.specs.declared.said.Said.{Said}
use Rattle.sc_app.specs.declared.said.Said.TheVariants.{Fatgraph, Refused}
use Rattle.sc_app.specs.declared.status.Status.{Status}
use Rattle.sc_app.specs.declared.status.Status.TheVariants.{Done, Malformed, Rejected}

-- the input is the text of the certificate
pub record IsCertificateText (input : List ℕ) (v : Certificate) : Type 0 where
  pub text : input ≡ certificate_text v
  pub in_range : IsCertificateInRange v

-- the input is the text of these sides over n copies of the chain
pub record IsTextOf (input : List ℕ) (c : Chain) (n : ℕ) (g : Sides) : Type 0 where
  pub text : input ≡ surface_text c n g
  pub in_range : IsSurfaceInRange c n g

-- the input is the text of a certificate that has these sides over n copies of the chain
pub record IsInCertificate (input : List ℕ) (c : Chain) (n : ℕ) (g : Sides) : Type 0 where
  pub certificate : Certificate
  pub text : IsCertificateText input certificate
  pub chain : certificate.chain ≡ c
  pub copies : certificate.copies ≡ n
  pub sides : certificate.sides ≡ g

-- the input says a surface: as its text, or in a certificate
abbrev pub Says : List ℕ → Chain → ℕ → Sides → Type 0
Says input c n g = IsTextOf input c n g ⊎ IsInCertificate input c n g

-- whether the first line, with its line feed, is that of a certificate
unfoldable pub is_headed_as_certificate : List ℕ → Bool
is_headed_as_certificate input = starts_with eqb input (line heading)

-- the kind of text that the first line heads: a certificate, or else a surface, which is due in place of any other line
abbrev pub heading_of : List ℕ → Heading
heading_of input = if is_headed_as_certificate input then CertificateText else SurfaceText

-- the lines that are due in a text of this kind
abbrev pub plan_of : Heading → Plan
plan_of CertificateText = certificate_plan
plan_of SurfaceText = surface_plan

-- the lines that are due in the input
abbrev pub plan_for : List ℕ → Plan
plan_for input = plan_of (heading_of input)

-- why an input says no labelled fatgraph: its first malformed line, or the first flaw of the surface that it says
abbrev pub Refuses : List ℕ → Status → List ℕ → Type 0
Refuses input (Malformed at kind) text = IsFirstFault (plan_for input) input at kind × (text ≡ [])
Refuses input (Rejected (Flaw kind place)) text =
    (c : Chain) × (n : ℕ) × (g : Sides) × Says input c n g × IsFirstFlaw c n g kind place × (text ≡ rejection (Flaw kind place))
Refuses input _ text = ⊥

-- what a command answers that tells of the labelled fatgraph which its input says: `Tells` is what it may write of a
-- chain, a number of copies and sides
abbrev pub RespondsBySides : (Chain → ℕ → Sides → List ℕ → Type 0) → List ℕ → Status → List ℕ → Type 0
RespondsBySides Tells input Done text =
    (c : Chain) × (n : ℕ) × (g : Sides) × Says input c n g × IsFatgraph c n g × Tells c n g text
RespondsBySides Tells input status text = Refuses input status text

-- the input says a surface
abbrev pub SaysSurface : List ℕ → Type 0
SaysSurface input = (c : Chain) × (n : ℕ) × (g : Sides) × Says input c n g

-- what such a command may answer to an input that says a surface
abbrev pub IsStatusOfSides : Status → Type 0
IsStatusOfSides Done = Unit {0}
IsStatusOfSides (Rejected (Flaw kind place)) = Unit {0}
IsStatusOfSides _ = ⊥

-- what was found in an input: the labelled fatgraph that it says, or why it says none
abbrev pub IsSaid : List ℕ → Said → Type 0
IsSaid input (Fatgraph f) = Says input f.chain f.copies f.sides × IsFatgraph f.chain f.copies f.sides
IsSaid input (Refused answer) = Refuses input (status_of answer) (text_of answer)
