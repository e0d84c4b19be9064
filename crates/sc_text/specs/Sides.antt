-- The line of a side.
use Rattle.std.specs.Prelude.{◌≤◌, List, [], ◌∷◌, Option, pos, codes}
use Rattle.sc_theory.specs.declared.Side.{Side}
use Rattle.sc_text.specs.declared.limits.Limits.{Limits}
use Rattle.sc_text.specs.declared.limits.TheConstants.{VERSION_1}
use Rattle.sc_line.specs.declared.fault.Kind.{Kind}
use Rattle.sc_line.specs.Lines.{Line, numbers_line, natural_of_line}
use Rattle.sc_line.specs.Faults.{NumberRange, between, numbers_line_fault}
use Rattle.sc_line.specs.Forms.{LineKind}

-- the line of a side
abbrev pub side_line : Side → Line
side_line s = numbers_line (codes "side") (pos s.label ∷ pos s.mate ∷ pos s.next ∷ [])

-- what a line of a side may hold at these limits, and at those of version 1
pub record IsSideWithin (m : Limits) (s : Side) : Type 0 where
  pub label : s.label ≤ m.label
  pub mate : s.mate ≤ m.side
  pub next : s.next ≤ m.side

abbrev pub IsSideInRange : Side → Type 0
IsSideInRange s = IsSideWithin VERSION_1 s

abbrev pub side_ranges : Limits → List NumberRange
side_ranges m = between 0 m.label ∷ between 0 m.side ∷ between 0 m.side ∷ []

abbrev pub side_fault : Limits → Line → Option Kind
side_fault m = numbers_line_fault (codes "side") (side_ranges m)

abbrev pub side_of_line : Line → Side
side_of_line line = record { label = natural_of_line 1 line; mate = natural_of_line 2 line; next = natural_of_line 3 line }

abbrev pub a_side : Limits → LineKind Side
a_side m = record { line = side_line; fault = side_fault m; value = side_of_line }
