-- The line of a pivot.
use Rattle.std.specs.Prelude.{ℕ, ◌<◌, Bool, false, ◌&&◌, List, [], ◌∷◌, map, drop, Option, Some, None, is_some, if◌then◌else◌, pos, int_le, int_lt, codes}
use Rattle.std.specs.List.{list_all}
use Rattle.std.specs.Option.{option_map_or}
use Rattle.sc_whole.specs.Spelling.{spelling}
use Rattle.sc_theory.specs.Chains.{Chain}
use Rattle.sc_theory.specs.Columns.{rows}
use Rattle.sc_theory.specs.Walks.{IsPolygon}
use Rattle.sc_line.specs.declared.fault.Kind.{Kind}
use Rattle.sc_line.specs.declared.fault.Kind.TheVariants.{Form, Range}
use Rattle.sc_chain.specs.declared.polygon.Pivot.{Pivot}
use Rattle.sc_chain.specs.Polygons.{is_polygon}
use Rattle.sc_line.specs.Lines.{Line, Field, spaced, fields, number_of, natural, natural_of_line}
use Rattle.sc_line.specs.Faults.{NumberRange, named_fault}
use Rattle.sc_line.specs.Forms.{LineKind}

-- the line of a pivot: its row, and the positions of its polygon
abbrev pub pivot_line : Pivot → Line
pivot_line p = spaced (codes "pivot" ∷ spelling (pos p.row) ∷ map (λ i. spelling (pos i)) p.polygon)

-- whether a number isn't negative, and whether it is below n besides
abbrev pub is_natural : NumberRange
is_natural z = int_le (pos 0) z

abbrev pub is_below : ℕ → NumberRange
is_below n z = is_natural z && int_lt z (pos n)

-- whether fields are natural numbers, and the numbers that they are
abbrev pub are_naturals : List Field → Bool
are_naturals fs = list_all (λ f. option_map_or is_natural (number_of f) false) fs

abbrev pub naturals_of : List Field → List ℕ
naturals_of fs = map (λ f. natural (number_of f)) fs

-- the fault of fields that are due to be a row of the chain and a polygon
abbrev pub pivot_fields_fault : Chain → List Field → Option Kind
pivot_fields_fault c [] = Some Form
pivot_fields_fault c (row ∷ walk) =
    if is_some (number_of row) && are_naturals walk && is_polygon c (naturals_of walk)
    then (if option_map_or (is_below (rows c)) (number_of row) false then None else Some Range)
    else Some Form

abbrev pub pivot_fault : Chain → Line → Option Kind
pivot_fault c = named_fault (codes "pivot") (pivot_fields_fault c)

-- the pivot in a line
abbrev pub pivot_of_line : Line → Pivot
pivot_of_line line = record { row = natural_of_line 1 line; polygon = naturals_of (drop 2 (fields line)) }

-- what a pivot may be
pub record IsPivotInRange (c : Chain) (p : Pivot) : Type 0 where
  pub row : p.row < rows c
  pub polygon : IsPolygon c p.polygon

-- the line of a pivot of a chain
abbrev pub a_pivot : Chain → LineKind Pivot
a_pivot c = record { line = pivot_line; fault = pivot_fault c; value = pivot_of_line }
