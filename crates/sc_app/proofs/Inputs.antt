-- An input says one surface or certificate.
use Rattle.std.proofs.Common.{◌≡◌, ℕ, inl, inr, List, true, false, refl, ap, ◌∙◌, subst, sym}
use Rattle.std.proofs.lemmas.Bool.{cond-true, cond-false, false≢true}
use Rattle.sc_theory.specs.Chains.{Chain}
use Rattle.sc_theory.specs.Fatgraphs.{Sides}
use Rattle.sc_line.specs.declared.fault.Kind.{Kind}
use Rattle.sc_line.specs.Faults.{Plan, IsFaultless, IsFirstFault}
use Rattle.sc_text.specs.Surfaces.{surface_text, surface_plan}
use Rattle.sc_line.proofs.FaultLaws.{faultless_first}
use Rattle.sc_text.proofs.SurfaceLaws.{faultless_text}
use Rattle.sc_text.proofs.SurfaceLaws.{one_text, SameSurface}
use Rattle.sc_certificate.specs.Certificates.{Certificate, certificate_text, certificate_plan}
use Rattle.sc_certificate.proofs.TextLaws.{text_is_faultless, text_is_of_one}
use Rattle.sc_fan.specs.Fans.{FanSaid, fan_plan}
use Rattle.sc_fan.proofs.TextLaws as fans
use Rattle.sc_app.specs.Svg.{IsFanText}
use Rattle.sc_app.specs.declared.said.Heading.TheVariants.{CertificateText, SurfaceText}
use Rattle.sc_app.specs.Said.{IsCertificateText, IsTextOf, Says, is_headed_as_certificate, plan_of, plan_for}

-- a certificate text has no fault, and is that of one certificate
pub certificate_faultless : (input : List ℕ) (v : Certificate) → IsCertificateText input v → IsFaultless certificate_plan input
certificate_faultless input v t = subst (IsFaultless certificate_plan) (sym t.text) (text_is_faultless v t.in_range)

pub same_certificate : (input : List ℕ) (v w : Certificate) → IsCertificateText input v → IsCertificateText input w → v ≡ w
same_certificate input v w t u = text_is_of_one v w t.in_range u.in_range (sym t.text ∙ u.text)

-- a fan text has no fault, and is that of one fan
pub fan_faultless : (input : List ℕ) (v : FanSaid) → IsFanText input v → IsFaultless fan_plan input
fan_faultless input v t = subst (IsFaultless fan_plan) (sym t.text) (fans.text_is_faultless v t.in_range)

pub same_fan : (input : List ℕ) (v w : FanSaid) → IsFanText input v → IsFanText input w → v ≡ w
same_fan input v w t u = fans.text_is_of_one v w t.in_range u.in_range (sym t.text ∙ u.text)

-- the text of a surface isn't headed as a certificate, and that of a certificate is
surface_heading : (c : Chain) (n : ℕ) (g : Sides) → is_headed_as_certificate (surface_text c n g) ≡ false
unfolding is_headed_as_certificate
surface_heading c n g = refl

certificate_heading : (v : Certificate) → is_headed_as_certificate (certificate_text v) ≡ true
unfolding is_headed_as_certificate
certificate_heading v = refl

plan_of_surface : (input : List ℕ) (c : Chain) (n : ℕ) (g : Sides) → IsTextOf input c n g → plan_for input ≡ surface_plan
plan_of_surface input c n g t =
    ap plan_of (cond-false (is_headed_as_certificate input) CertificateText SurfaceText (ap is_headed_as_certificate t.text ∙ surface_heading c n g))

plan_of_certificate : (input : List ℕ) (v : Certificate) → IsCertificateText input v → plan_for input ≡ certificate_plan
plan_of_certificate input v t =
    ap plan_of (cond-true (is_headed_as_certificate input) CertificateText SurfaceText (ap is_headed_as_certificate t.text ∙ certificate_heading v))

-- ---- surfaces

says_faultless : (input : List ℕ) (c : Chain) (n : ℕ) (g : Sides) → Says input c n g → IsFaultless (plan_for input) input
says_faultless input c n g (inl t) =
    subst (λ (plan : Plan). IsFaultless plan input) (sym (plan_of_surface input c n g t))
    (subst (IsFaultless surface_plan) (sym t.text) (faultless_text c n g t.in_range))
says_faultless input c n g (inr t) =
    subst (λ (plan : Plan). IsFaultless plan input) (sym (plan_of_certificate input t.certificate t.text)) (certificate_faultless input t.certificate t.text)

-- an input that says a surface has no first fault
pub says_no_fault : (input : List ℕ) (c : Chain) (n : ℕ) (g : Sides) (at : ℕ) (kind : Kind) → Says input c n g → IsFirstFault (plan_for input) input at kind → ⊥
says_no_fault input c n g at kind t f = faultless_first (plan_for input) input at kind (says_faultless input c n g t) f

-- no text is that of a surface and that of a certificate
two_headings : (input : List ℕ) (c : Chain) (n : ℕ) (g : Sides) (v : Certificate) → IsTextOf input c n g → IsCertificateText input v → ⊥
two_headings input c n g v t u =
    false≢true (sym (ap is_headed_as_certificate t.text ∙ surface_heading c n g) ∙ ap is_headed_as_certificate u.text ∙ certificate_heading v)

-- an input says one chain, one number of copies and one list of sides
pub same_surface : (input : List ℕ) (c : Chain) (n : ℕ) (g : Sides) (d : Chain) (m : ℕ) (h : Sides) → Says input c n g → Says input d m h → SameSurface c n g d m h
same_surface input c n g d m h (inl t) (inl u) = one_text c n g d m h t.in_range u.in_range (sym t.text ∙ u.text)
same_surface input c n g d m h (inl t) (inr u) = absurd (two_headings input c n g u.certificate t u.text)
same_surface input c n g d m h (inr t) (inl u) = absurd (two_headings input d m h t.certificate u t.text)
same_surface input c n g d m h (inr t) (inr u) =
    let same : t.certificate ≡ u.certificate = same_certificate input t.certificate u.certificate t.text u.text in
    record {
      words = sym t.chain ∙ ap (λ (v : Certificate). v.chain) same ∙ u.chain;
      copies = sym t.copies ∙ ap (λ (v : Certificate). v.copies) same ∙ u.copies;
      sides = sym t.sides ∙ ap (λ (v : Certificate). v.sides) same ∙ u.sides;
    }
