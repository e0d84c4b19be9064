-- The line of a corner.
use Rattle.std.specs.Prelude.{◌+◌, ◌<◌, nat_lt, Bool, ◌&&◌, List, [], ◌∷◌, get_or, Option, Some, None, if◌then◌else◌, ℤ, pos, neg_ℤ, ◌≤ℤ◌, codes, unsigned_abs}
use Rattle.sc_whole.specs.Spelling.{spelling}
use Rattle.sc_fraction.specs.Quotient.{quotient_text}
use Rattle.sc_line.specs.declared.fault.Kind.{Kind}
use Rattle.sc_line.specs.declared.fault.Kind.TheVariants.{Form, Range}
use Rattle.sc_line.specs.Lines.{Line, Field, spaced, fields, number_of}
use Rattle.sc_line.specs.Faults.{from_to, named_fault}
use Rattle.sc_line.specs.Forms.{LineKind}
use Rattle.sc_text.specs.PriceLines.{number_of_line}
use Rattle.sc_text.specs.ValueLines.{Quotient, quotient_of, quotient_of_field, fraction_up_to_fault, IsFractionUpTo}
use Rattle.sc_fan.specs.declared.limits.TheConstants.{MAX_DIRECTION, MAX_VALUE}
use Rattle.sc_cone.specs.Fans.{Corner as PlaneCorner}
use Rattle.sc_fan.specs.declared.corner.Corner.{Corner}

-- a corner with its value as two numbers
abbrev pub corner_said : Corner → PlaneCorner
corner_said c = record { direction = c.direction; value = quotient_of c.value }

-- the line of a corner
abbrev pub corner_line : PlaneCorner → Line
corner_line c = spaced (codes "corner" ∷ spelling c.direction.s ∷ spelling c.direction.t ∷ quotient_text c.value.0 c.value.1 ∷ [])

-- whether two numbers are a direction: not both are 0, and the first isn't negative
abbrev pub is_direction : ℤ → ℤ → Bool
is_direction s t = from_to (pos 0) MAX_DIRECTION s && from_to (neg_ℤ MAX_DIRECTION) MAX_DIRECTION t && nat_lt 0 (unsigned_abs s + unsigned_abs t)

-- a fault where a number besides is out of its range
abbrev pub or_range : Option Kind → Option Kind
or_range None = Some Range
or_range (Some kind) = Some kind

-- the fault of a direction and a fraction
abbrev pub corner_numbers_fault : Option ℤ → Option ℤ → Option Kind → Option Kind
corner_numbers_fault (Some s) (Some t) fault = if is_direction s t then fault else or_range fault
corner_numbers_fault (Some s) None fault = Some Form
corner_numbers_fault None t fault = Some Form

-- the fault of a field that is due to be the value of a corner
abbrev pub corner_value_fault : Field → Option Kind
corner_value_fault f = fraction_up_to_fault MAX_VALUE f

abbrev pub corner_fields_fault : List Field → Option Kind
corner_fields_fault [] = Some Form
corner_fields_fault (s ∷ []) = Some Form
corner_fields_fault (s ∷ t ∷ []) = Some Form
corner_fields_fault (s ∷ t ∷ f ∷ []) = corner_numbers_fault (number_of s) (number_of t) (corner_value_fault f)
corner_fields_fault (s ∷ t ∷ f ∷ g ∷ fs) = Some Form

abbrev pub corner_fault : Line → Option Kind
corner_fault = named_fault (codes "corner") corner_fields_fault

-- the corner in a line
abbrev pub corner_of_line : Line → PlaneCorner
corner_of_line line = record {
  direction = record { s = number_of_line 1 line; t = number_of_line 2 line };
  value = quotient_of_field (get_or (fields line) 3 []);
}

-- what the value of a corner may be
abbrev pub IsCornerValue : Quotient → Type 0
IsCornerValue v = IsFractionUpTo MAX_VALUE v

-- what a corner may be
pub record IsCornerInRange (c : PlaneCorner) : Type 0 where
  pub s_low : pos 0 ≤ℤ c.direction.s
  pub s_high : c.direction.s ≤ℤ MAX_DIRECTION
  pub t_low : neg_ℤ MAX_DIRECTION ≤ℤ c.direction.t
  pub t_high : c.direction.t ≤ℤ MAX_DIRECTION
  pub somewhere : 0 < unsigned_abs c.direction.s + unsigned_abs c.direction.t
  pub value : IsCornerValue c.value

abbrev pub a_corner : LineKind PlaneCorner
a_corner = record { line = corner_line; fault = corner_fault; value = corner_of_line }
