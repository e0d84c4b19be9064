-- Laws of the field of a fraction: fractions in lowest terms, and the fault of a field by its two numbers.
use Rattle.std.proofs.Common.{◌≡◌, ℕ, ◌≤◌, Bool, false, ◌&&◌, eqb, List, [], ◌∷◌, ◌++◌, Option, Some, None, ℤ, pos, ◌*ℤ◌, ◌<ℤ◌, ◌≤ℤ◌, unsigned_abs, refl, sym, ap, subst, ◌∙◌, arith, inl, inr}
use Rattle.std.specs.List.{join_with_byte}
use Rattle.std.specs.Prelude.{int_lt, int_div}
use Rattle.std.proofs.lemmas.Bool.{cases_Bool, and_parts, and_right}
use Rattle.std.proofs.lemmas.Int.{ints}
use Rattle.std.proofs.lemmas.List.Splits.{slice_split_at, slice_split_none, join_with_byte-slice_split}
use Rattle.std.proofs.lemmas.Option.{none-some}
use lib.IntN.{*ℤ_comm}
use Rattle.sc_whole.proofs.DivisorLaws.{gcd_exists}
use Rattle.sc_whole.specs.declared.checked.Wide.{Wide as WideNumber}
use Rattle.sc_whole.specs.Operation.{IsFirstWide}
use Rattle.sc_whole.specs.Spelling.{spelling}
use Rattle.sc_fraction.specs.declared.fault.FracFault.{FracFault}
use Rattle.sc_fraction.specs.declared.fault.FracFault.TheVariants.{Zero, Wide}
use Rattle.sc_fraction.specs.Fault.{IfWide}
use Rattle.sc_fraction.specs.Frac.{numerator, denominator, IsQuotient}
use Rattle.sc_fraction.specs.Ints.{mul_cancel_z}
use Rattle.sc_fraction.proofs.Arithmetic.{size_positive}
use Rattle.sc_fraction.proofs.SameValues.{same_frac}
use Rattle.sc_fraction.specs.Quotient.{quotient_text}
use Rattle.sc_fraction.specs.Steps.{ForReduced}
use Rattle.sc_fraction.specs.declared.frac.Frac.{Frac}
use Rattle.sc_line.specs.declared.fault.Kind.TheVariants.{Form, Range}
use Rattle.sc_line.specs.Lines.{Field, number_of}
use Rattle.sc_line.specs.Faults.{between}
use Rattle.sc_text.specs.ValueLines.{Quotient, quotient_of, halves, are_coprime, quotient_fault, fraction_fault, fraction_up_to_fault, IsFractionUpTo}
use Rattle.sc_line.proofs.LineLaws.{lacking, lacks-spelling_but, number_of-spelling, number_of_is, in_range_test, in_range_from_test}
use Rattle.sc_text.proofs.CoprimeLaws.{coprime_test, coprime_from_test}

-- ---- num/den in lowest terms

-- no step on the way to lowest terms is too wide
pub never_wide : (n d : ℕ) (w : WideNumber) → ForReduced (pos n) (pos d) (λ steps. IsFirstWide steps w) → ⊥
never_wide n d w h =
    let g = gcd_exists n d in
    let above : int_lt (int_div (pos d) (pos g.0)) (pos 0) ≡ false = grind (arith, ints) in
    let first = h g.0 g.1 in
    let none : ⊥ = rw above at first in none

-- a fraction that is n/d and has the denominator d has the numerator n
pub same_numerator : (n d : ℕ) (v : Frac) → 1 ≤ d → IsQuotient (pos n) (pos d) v → denominator v ≡ pos d → numerator v ≡ pos n
same_numerator n d v some same den =
    mul_cancel_z (pos d) (numerator v) (pos n) (omega (arith, ints))
    (*ℤ_comm (pos d) (numerator v) ∙ same ∙ ap (λ (t : ℤ). pos n *ℤ t) den ∙ *ℤ_comm (pos n) (pos d))

-- where the fraction that is n/d has another denominator, n and d have a divisor in common
pub not_lowest : (n d : ℕ) (v : Frac) → 1 ≤ d → IsQuotient (pos n) (pos d) v → (denominator v ≡ pos d → ⊥) → are_coprime n d ≡ false
not_lowest n d v some same other =
    elim (cases_Bool (are_coprime n d)) [
      | inl coprime ↦
          let positive : pos 0 <ℤ pos d = omega (arith, ints) in
          let lowest : Frac = record { num = pos n; den = pos d; positive = positive; reduced = coprime_from_test n d some coprime } in
          absurd (other (ap denominator (same_frac v lowest same)))
      | inr common ↦ common
    ]

-- ---- the fault of a field by the numbers at its first slash

fault_without_den : (nums dens : ℤ → Bool) (num den : Field) (hs : List Field) → halves den ≡ hs → number_of den ≡ None → fraction_fault nums dens (num ∷ hs) ≡ Some Form
fault_without_den nums dens num den [] e h = refl
fault_without_den nums dens num den (a ∷ []) e h =
    let same : den ≡ a = sym (join_with_byte-slice_split 47 den) ∙ ap (join_with_byte 47) e in
    rw (sym (ap number_of same) ∙ h) (no_quotient (number_of num))
  where
    no_quotient : (o : Option ℤ) → quotient_fault nums dens o None ≡ Some Form
    no_quotient None = refl
    no_quotient (Some z) = refl
fault_without_den nums dens num den (a ∷ b ∷ more) e h = refl

-- a field with no number behind its first slash has the fault Form
pub no_denominator : (nums dens : ℤ → Bool) (field num den : Field) → halves field ≡ num ∷ halves den → number_of den ≡ None → fraction_fault nums dens (halves field) ≡ Some Form
no_denominator nums dens field num den e h = rw e (fault_without_den nums dens num den (halves den) refl h)

halves_of_number : (den : Field) (b : ℤ) → number_of den ≡ Some b → halves den ≡ den ∷ []
halves_of_number den b n =
    subst (λ (f : Field). halves f ≡ f ∷ []) (sym (number_of_is den b n)) (slice_split_none (λ x. eqb x 47) (spelling b) (lacking 47 (spelling b) (lacks-spelling_but 47 b (omega arith) (λ e. omega arith))))

-- both are numbers
pub fault_of_numbers : (nums dens : ℤ → Bool) (field num den : Field) (a b : ℤ) → halves field ≡ num ∷ halves den → number_of num ≡ Some a → number_of den ≡ Some b → fraction_fault nums dens (halves field) ≡ quotient_fault nums dens (Some a) (Some b)
fault_of_numbers nums dens field num den a b e m n =
    let alone = halves_of_number den b n in
    rw (e, alone, m, n) refl

-- the parts of the fault of a fraction
pub num_outside : (nums dens : ℤ → Bool) (a b : ℤ) → nums a ≡ false → quotient_fault nums dens (Some a) (Some b) ≡ Some Range
num_outside nums dens a b h = rw h refl

pub den_outside : (nums dens : ℤ → Bool) (a b : ℤ) → dens b ≡ false → quotient_fault nums dens (Some a) (Some b) ≡ Some Range
den_outside nums dens a b h =
    elim (cases_Bool (nums a)) [
      | inl inside ↦ rw (inside, h) refl
      | inr outside ↦ rw outside refl
    ]

pub not_coprime : (nums dens : ℤ → Bool) (a b : ℤ) → are_coprime (unsigned_abs a) (unsigned_abs b) ≡ false → quotient_fault nums dens (Some a) (Some b) ≡ Some Range
not_coprime nums dens a b h =
    let test : (nums a && dens b && are_coprime (unsigned_abs a) (unsigned_abs b)) ≡ false = and_right _ _ h in
    rw test refl

-- a fraction with a denominator above 0 that is brought to lowest terms has no fault
pub no_fault : (n d : ℕ) (fault : FracFault) → (fault ≡ Zero → ⊥) → IfWide fault (λ w. ForReduced (pos n) (pos d) (λ steps. IsFirstWide steps w)) → ⊥
no_fault n d Zero other h = other refl
no_fault n d (Wide w) other h = never_wide n d w h

-- a fraction with a numerator and a denominator up to a greatest number is one of those up to it
pub fraction_in_range : (most : ℕ) (v : Frac) (n d : ℕ) → numerator v ≡ pos n → denominator v ≡ pos d → n ≤ most → 1 ≤ d → d ≤ most → IsFractionUpTo most (quotient_of v)
fraction_in_range most v n d num den n_high d_low d_high = record {
  num_low = subst (λ (t : ℤ). pos 0 ≤ℤ t) (sym num) (omega (arith, ints));
  num_high = subst (λ (t : ℤ). t ≤ℤ pos most) (sym num) (omega (arith, ints));
  den_low = subst (λ (t : ℤ). pos 1 ≤ℤ t) (sym den) (omega (arith, ints));
  den_high = subst (λ (t : ℤ). t ≤ℤ pos most) (sym den) (omega (arith, ints));
  lowest = v.reduced;
}

-- a field with numbers before and behind its first slash is the text of their quotient
pub field_is : (field num den : Field) (a b : ℤ) → halves field ≡ num ∷ halves den → number_of num ≡ Some a → number_of den ≡ Some b → field ≡ quotient_text a b
field_is field num den a b e m n =
    let alone = halves_of_number den b n in
    sym (join_with_byte-slice_split 47 field) ∙ ap (join_with_byte 47) (e ∙ ap (λ (hs : List Field). num ∷ hs) alone) ∙ (λ i. number_of_is num a m i ++ (47 ∷ number_of_is den b n i))

pub not_zero : (d : ℕ) → 1 ≤ d → pos d ≡ pos 0 → ⊥
not_zero d some e = omega (arith, ints, e)

-- ---- the fields of fractions

-- what stands round the slash of a quotient are the spellings of its two numbers
pub halves-quotient_text : (a b : ℤ) → halves (quotient_text a b) ≡ spelling a ∷ spelling b ∷ []
halves-quotient_text a b =
    slice_split_at (λ x. eqb x 47) (spelling a) 47 (spelling b) (lacking 47 (spelling a) (lacks-spelling_but 47 a (omega arith) (λ e. omega arith))) refl
    ∙ ap (λ (rest : List Field). spelling a ∷ rest) (slice_split_none (λ x. eqb x 47) (spelling b) (lacking 47 (spelling b) (lacks-spelling_but 47 b (omega arith) (λ e. omega arith))))

-- the field of a fraction up to a greatest number has no fault
pub good_fraction : (most : ℕ) (v : Quotient) → IsFractionUpTo most v → fraction_up_to_fault most (quotient_text v.0 v.1) ≡ None
good_fraction most v h =
    rw (halves-quotient_text v.0 v.1, number_of-spelling v.0, number_of-spelling v.1, in_range_test (pos 0) (pos most) v.0 h.num_low h.num_high, in_range_test (pos 1) (pos most) v.1 h.den_low h.den_high, coprime_test (unsigned_abs v.0) (unsigned_abs v.1) h.lowest) refl

-- a field is that of a fraction up to a greatest number
pub record IsFractionField (most : ℕ) (f : Field) : Type 0 where
  pub told : Quotient
  pub is : f ≡ quotient_text told.0 told.1
  pub in_range : IsFractionUpTo most told

quotient_test : (most : ℕ) (a b : ℤ) → quotient_fault (between 0 most) (between 1 most) (Some a) (Some b) ≡ None → IsFractionUpTo most (a, b)
quotient_test most a b h =
    elim (cases_Bool (between 0 most a && between 1 most b && are_coprime (unsigned_abs a) (unsigned_abs b))) [
      | inl good ↦
          let both = and_parts _ _ good in
          let ends = and_parts _ _ both.0 in
          let num = in_range_from_test (pos 0) (pos most) a ends.0 in
          let den = in_range_from_test (pos 1) (pos most) b ends.1 in
          let above : pos 0 <ℤ b = omega (arith, ints, den.low_end) in
          record {
            num_low = num.low_end;
            num_high = num.high_end;
            den_low = den.low_end;
            den_high = den.high_end;
            lowest = coprime_from_test (unsigned_abs a) (unsigned_abs b) (size_positive b above) both.1;
          }
      | inr bad ↦ absurd (none-some Range (sym (let fault : Some Range ≡ None = rw bad at h in fault)))
    ]

quotient_from : (most : ℕ) (f a b : Field) (p q : Option ℤ) → f ≡ a ++ (47 ∷ b) → number_of a ≡ p → number_of b ≡ q → quotient_fault (between 0 most) (between 1 most) p q ≡ None → IsFractionField most f
quotient_from most f a b None q e m n h = absurd (none-some Form (sym h))
quotient_from most f a b (Some x) None e m n h = absurd (none-some Form (sym h))
quotient_from most f a b (Some x) (Some y) e m n h = record {
  told = (x, y);
  is = e ∙ (λ i. number_of_is a x m i ++ (47 ∷ number_of_is b y n i));
  in_range = quotient_test most x y h;
}

fraction_of_halves : (most : ℕ) (f : Field) (hs : List Field) → halves f ≡ hs → fraction_fault (between 0 most) (between 1 most) hs ≡ None → IsFractionField most f
fraction_of_halves most f [] e h = absurd (none-some Form (sym h))
fraction_of_halves most f (a ∷ []) e h = absurd (none-some Form (sym h))
fraction_of_halves most f (a ∷ b ∷ []) e h = quotient_from most f a b (number_of a) (number_of b) (sym (join_with_byte-slice_split 47 f) ∙ ap (join_with_byte 47) e) refl refl h
fraction_of_halves most f (a ∷ b ∷ c ∷ more) e h = absurd (none-some Form (sym h))

-- a field without a fault is that of a fraction up to the greatest number
pub fraction_from : (most : ℕ) (f : Field) → fraction_up_to_fault most f ≡ None → IsFractionField most f
fraction_from most f h = fraction_of_halves most f (halves f) refl h
