-- The line of a value, a fraction in lowest terms.
use Rattle.std.specs.Prelude.{ℕ, ◌-◌, ◌%◌, Bool, not, ◌&&◌, ◌==◌, List, [], ◌∷◌, get_or, Option, Some, None, if◌then◌else◌, ℤ, pos, ◌≤ℤ◌, codes, unsigned_abs}
use Rattle.std.specs.List.{slice_split, list_all, range_with_len}
use Rattle.std.specs.Option.{unwrap_or}
use Rattle.std.specs.Int.{IsGcd}
use Rattle.sc_fraction.specs.declared.frac.Frac.{Frac}
use Rattle.sc_fraction.specs.Frac.{numerator, denominator}
use Rattle.sc_fraction.specs.Quotient.{quotient_text}
use Rattle.sc_line.specs.declared.fault.Kind.{Kind}
use Rattle.sc_line.specs.declared.fault.Kind.TheVariants.{Form, Range}
use Rattle.sc_text.specs.declared.limits.TheConstants.{MAX_VALUE}
use Rattle.sc_line.specs.Lines.{Line, Field, spaced, fields, number_of}
use Rattle.sc_line.specs.Faults.{NumberRange, between, named_fault}
use Rattle.sc_line.specs.Forms.{LineKind}

-- a numerator and a denominator
abbrev pub Quotient : Type 0
Quotient = ℤ × ℤ

abbrev pub quotient_of : Frac → Quotient
quotient_of f = (numerator f, denominator f)

-- the line of a fraction
abbrev pub value_line : Quotient → Line
value_line v = spaced (codes "value" ∷ quotient_text v.0 v.1 ∷ [])

-- the numbers round the slash of a field
abbrev pub halves : Field → List Field
halves field = slice_split (λ b. b == 47) field

-- whether no number from 2 on divides both
unfoldable pub are_coprime : ℕ → ℕ → Bool
are_coprime a b = list_all (λ k. not ((a % k == 0) && (b % k == 0))) (range_with_len 2 (b - 1))

-- the fault of a fraction whose numerator and denominator are due to be in these ranges
abbrev pub quotient_fault : NumberRange → NumberRange → Option ℤ → Option ℤ → Option Kind
quotient_fault nums dens (Some a) (Some b) =
    if nums a && dens b && are_coprime (unsigned_abs a) (unsigned_abs b) then None else Some Range
quotient_fault nums dens (Some a) None = Some Form
quotient_fault nums dens None b = Some Form

-- the fault of a field that is due to be such a fraction
abbrev pub fraction_fault : NumberRange → NumberRange → List Field → Option Kind
fraction_fault nums dens [] = Some Form
fraction_fault nums dens (a ∷ []) = Some Form
fraction_fault nums dens (a ∷ b ∷ []) = quotient_fault nums dens (number_of a) (number_of b)
fraction_fault nums dens (a ∷ b ∷ c ∷ more) = Some Form

-- the fault of a field that is due to be a fraction of numbers up to a greatest one
abbrev pub fraction_up_to_fault : ℕ → Field → Option Kind
fraction_up_to_fault most f = fraction_fault (between 0 most) (between 1 most) (halves f)

abbrev pub value_fields_fault : List Field → Option Kind
value_fields_fault [] = Some Form
value_fields_fault (f ∷ []) = fraction_up_to_fault MAX_VALUE f
value_fields_fault (f ∷ g ∷ fs) = Some Form

abbrev pub value_fault : Line → Option Kind
value_fault = named_fault (codes "value") value_fields_fault

-- the fraction that a field writes
abbrev pub half_of_field : ℕ → Field → ℤ
half_of_field i f = unwrap_or (number_of (get_or (halves f) i [])) (pos 0)

abbrev pub quotient_of_field : Field → Quotient
quotient_of_field f = (half_of_field 0 f, half_of_field 1 f)

-- the fraction in a line
abbrev pub value_of_line : Line → Quotient
value_of_line line = quotient_of_field (get_or (fields line) 1 [])

-- a fraction in lowest terms, of a numerator from 0 and a denominator from 1 up to a greatest number
pub record IsFractionUpTo (most : ℕ) (v : Quotient) : Type 0 where
  pub num_low : pos 0 ≤ℤ v.0
  pub num_high : v.0 ≤ℤ pos most
  pub den_low : pos 1 ≤ℤ v.1
  pub den_high : v.1 ≤ℤ pos most
  pub lowest : IsGcd (unsigned_abs v.0) (unsigned_abs v.1) 1

-- what a value may be
abbrev pub IsValueInRange : Quotient → Type 0
IsValueInRange v = IsFractionUpTo MAX_VALUE v

abbrev pub a_value : LineKind Quotient
a_value = record { line = value_line; fault = value_fault; value = value_of_line }
