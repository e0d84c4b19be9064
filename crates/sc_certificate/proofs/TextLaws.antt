-- Laws of certificate texts, and of what a reader of them answers.
use Rattle.std.proofs.Common.{◌≡◌, ℕ, List, [], ◌∷◌, Result, Ok, Err, ◌⊎◌, refl, sym, subst}
use Rattle.std.specs.List.{AllByRecursion}
use Rattle.std.specs.Prelude.{IfOk, IfErr, OnOk, IsErrAnd, MatchResult}
use Rattle.sc_line.specs.declared.fault.Kind.{Kind}
use Rattle.sc_line.specs.declared.fault.TextFault.{TextFault}
use Rattle.sc_line.specs.declared.fault.TextFault.TheVariants as text_faults
use Rattle.sc_line.specs.Faults.{IsFaultless, IsFaultOf, IsFirstFault}
use Rattle.sc_line.specs.Formats.{Format, told, plan_of, Reads}
use Rattle.sc_theory.specs.Prices.{Prices, Tables}
use Rattle.sc_text.specs.TableLines.{IsTableInRange}
use Rattle.sc_certificate.specs.Sizes.{AreSmallTables}
use Rattle.sc_line.specs.Forms.{IsToldBy}
use Rattle.sc_line.proofs.TextLaws as texts
use Rattle.sc_text.specs.declared.limits.TheConstants.{VERSION_1}
use Rattle.sc_certificate.specs.declared.certificate.Certificate.{Certificate as CertificateParts}
use Rattle.sc_certificate.specs.Certificates.{Certificate, certificate_form, certificate_due, certificate_text, certificate_plan, IsCertificateInRange}
use Rattle.sc_certificate.specs.CertificateRead.{certificate_of, IsCertificateRead}
use Rattle.sc_certificate.proofs.CertificateLaws.{all_lines, lawful_certificate}

-- the text of a certificate in range has no fault
pub text_is_faultless : (v : Certificate) → IsCertificateInRange v → IsFaultless certificate_plan (certificate_text v)
unfolding certificate_plan
text_is_faultless = texts.text_is_faultless (certificate_form VERSION_1).lines (certificate_due VERSION_1) IsCertificateInRange all_lines lawful_certificate

-- a text without a fault is that of a certificate in range
pub faultless_is_text : (text : List ℕ) → IsFaultless certificate_plan text → (v : Certificate) × IsCertificateInRange v × (text ≡ certificate_text v)
unfolding certificate_plan
faultless_is_text = texts.faultless_is_text (certificate_form VERSION_1).lines (certificate_due VERSION_1) IsCertificateInRange all_lines lawful_certificate

-- certificates in range that have the same text are the same
pub text_is_of_one : (v w : Certificate) → IsCertificateInRange v → IsCertificateInRange w → certificate_text v ≡ certificate_text w → v ≡ w
text_is_of_one = texts.text_is_of_one (certificate_form VERSION_1).lines (certificate_due VERSION_1) IsCertificateInRange all_lines lawful_certificate

-- ---- a certificate that was read

-- a certificate that the lines told, or a fault of the text, is what a reader of certificates answers
pub certificate_read : (bytes : List ℕ) (r : Result CertificateParts TextFault) → IfOk r (λ t. IsToldBy (certificate_due VERSION_1) bytes (certificate_of t)) → IfErr r (IsFaultOf (plan_of (certificate_due VERSION_1)) bytes) → IsCertificateRead bytes r
certificate_read bytes r = texts.text_of_read (certificate_form VERSION_1).lines (certificate_due VERSION_1) IsCertificateInRange all_lines lawful_certificate bytes certificate_of r

module _ (bytes : List ℕ) (r : Result CertificateParts TextFault) (read : IsCertificateRead bytes r) where
  -- a text that was read has no fault
  pub is_faultless : OnOk r (IsFaultless certificate_plan bytes)
  unfolding certificate_plan
  is_faultless = texts.faultless (certificate_form VERSION_1).lines (certificate_due VERSION_1) IsCertificateInRange all_lines lawful_certificate bytes certificate_of r read

  -- a refusal names the first fault of the text, or want of memory
  pub is_malformed : IfErr r (IsFaultOf certificate_plan bytes)
  unfolding certificate_plan
  is_malformed = read.malformed

  -- a text with a fault is refused, by its first fault or for want of memory
  pub only_first : (line : ℕ) (kind : Kind) → IsFirstFault certificate_plan bytes line kind → IsErrAnd r (λ e. (e ≡ text_faults.Malformed line kind) ⊎ (e ≡ text_faults.Memory))
  unfolding certificate_plan
  only_first line kind first = texts.only (certificate_form VERSION_1).lines (certificate_due VERSION_1) IsCertificateInRange all_lines lawful_certificate bytes certificate_of r read line kind first

  -- what is read of the text of a certificate in range is that certificate
  pub is_same : (v : Certificate) → IsCertificateInRange v → bytes ≡ certificate_text v → IfOk r (λ t. certificate_of t ≡ v)
  is_same = texts.reads_again (certificate_form VERSION_1).lines (certificate_due VERSION_1) IsCertificateInRange all_lines lawful_certificate bytes certificate_of r read

  -- the text of a certificate in range is refused for want of memory alone
  pub is_memory : (v : Certificate) → IsCertificateInRange v → bytes ≡ certificate_text v → IfErr r (λ e. e ≡ text_faults.Memory)
  is_memory = texts.memory (certificate_form VERSION_1).lines (certificate_due VERSION_1) IsCertificateInRange all_lines lawful_certificate bytes certificate_of r read

-- what was printed is read as the same certificate, unless memory runs out
pub printed_is_read : (v : Certificate) (r : Result CertificateParts TextFault) → IsCertificateInRange v → IsCertificateRead (certificate_text v) r → MatchResult r (λ t. certificate_of t ≡ v) (λ e. e ≡ text_faults.Memory)
printed_is_read v (Ok t) h read = is_same (certificate_text v) (Ok t) read v h refl
printed_is_read v (Err e) h read = is_memory (certificate_text v) (Err e) read v h refl

-- ---- what its parts told

-- a certificate that lines told is in range
pub told_in_range : (f : Format Certificate) (bytes : List ℕ) (v : Certificate) → f ≡ certificate_due VERSION_1 → IsToldBy f bytes v → IsCertificateInRange v
told_in_range f bytes v e t = lawful_certificate.in_range t.lines v (subst (λ (g : Format Certificate). Reads g t.lines (told v)) e t.reads)

-- tables in range have entries in range
pub small_tables : (n : ℕ) (tables : Tables) → AllByRecursion (IsTableInRange n) tables → AreSmallTables tables
small_tables n [] h = tt
small_tables n (table ∷ tables) h = (h.0.entries_in_range, small_tables n tables h.1)

-- a certificate of what its parts told
pub told_as : (f : Format Certificate) (bytes : List ℕ) (v : Certificate) (list : Prices) (tables : Tables) → f ≡ certificate_due VERSION_1 → IsToldBy f bytes v → list ≡ v.list → tables ≡ v.tables
    → IsToldBy (certificate_due VERSION_1) bytes (record { chain = v.chain; value = v.value; copies = v.copies; sides = v.sides; list = list; tables = tables; journal = v.journal })
told_as f bytes v list tables e t same_list same_tables =
    let w : Certificate = record { chain = v.chain; value = v.value; copies = v.copies; sides = v.sides; list = list; tables = tables; journal = v.journal } in
    let same : v ≡ w = λ i. record { chain = v.chain; value = v.value; copies = v.copies; sides = v.sides; list = sym same_list i; tables = sym same_tables i; journal = v.journal } in
    subst (λ (x : Certificate). IsToldBy (certificate_due VERSION_1) bytes x) same (subst (λ (g : Format Certificate). IsToldBy g bytes v) e t)
