-- The fault of a line, and the first fault of a text.
use Rattle.std.specs.Prelude.{◌≡◌, ℕ, zero, suc, ◌<◌, Bool, true, false, ◌&&◌, ◌==◌, if◌then◌else◌, List, [], ◌∷◌, take, drop, length, Option, Some, None, is_some, ℤ, pos, int_le}
use Rattle.std.specs.Option.{option_map_or}
use Rattle.std.specs.Str.{bytes_eq}
use Rattle.sc_line.specs.declared.fault.Kind.{Kind}
use Rattle.sc_line.specs.declared.fault.Kind.TheVariants.{Form, Range, Ended, Rest}
use Rattle.sc_line.specs.declared.fault.TextFault.{TextFault}
use Rattle.sc_line.specs.declared.fault.TextFault.TheVariants.{Malformed, Memory}
use Rattle.sc_line.specs.Lines.{Line, Field, parts, fields, number_of}

-- a range of whole numbers, as the test whether a number is in it
abbrev pub NumberRange : Type 0
NumberRange = ℤ → Bool

abbrev pub from_to : ℤ → ℤ → NumberRange
from_to low high z = int_le low z && int_le z high

abbrev pub between : ℕ → ℕ → NumberRange
between low high z = from_to (pos low) (pos high) z

-- whether the fields are as many numbers as there are ranges
abbrev pub are_numbers : List NumberRange → List Field → Bool
are_numbers [] [] = true
are_numbers [] (f ∷ fs) = false
are_numbers (r ∷ rs) [] = false
are_numbers (r ∷ rs) (f ∷ fs) = is_some (number_of f) && are_numbers rs fs

-- whether each field is a number in its range
abbrev pub are_in_range : List NumberRange → List Field → Bool
are_in_range [] fs = true
are_in_range (r ∷ rs) [] = false
are_in_range (r ∷ rs) (f ∷ fs) = option_map_or r (number_of f) false && are_in_range rs fs

-- the fault of fields that are due to be numbers in these ranges
abbrev pub numbers_fault : List NumberRange → List Field → Option Kind
numbers_fault ranges fs =
    if are_numbers ranges fs then (if are_in_range ranges fs then None else Some Range) else Some Form

-- the fault of a line that is due word by word
abbrev pub literal_fault : Line → Line → Option Kind
literal_fault due line = if bytes_eq line due then None else Some Form

-- whether a name is the first of the fields
abbrev pub is_named : List ℕ → List Field → Bool
is_named name [] = false
is_named name (f ∷ fs) = bytes_eq f name

-- the fault of a line that is due to be a name and other fields
abbrev pub named_fault : List ℕ → (List Field → Option Kind) → Line → Option Kind
named_fault name others line = if is_named name (fields line) then others (drop 1 (fields line)) else Some Form

-- the fault of a line that is due to be a name and numbers in these ranges
abbrev pub numbers_line_fault : List ℕ → List NumberRange → Line → Option Kind
numbers_line_fault name ranges line = named_fault name (numbers_fault ranges) line

-- ---- a text by its lines

-- what is due in a text after these lines: the fault of a line that stands next, where one may. It goes by the lines
-- before, as these tell how many words and sides come
abbrev pub Plan : Type 0
Plan = List Line → Option (Line → Option Kind)

abbrev pub due_after : Plan → List Line → Option (Line → Option Kind)
due_after plan before = plan before

-- the fault of a line after these lines
abbrev pub line_fault : Plan → List Line → Line → Option Kind
line_fault plan before line = option_map_or (λ fault. fault line) (due_after plan before) (Some Rest)

-- the fault at the first of the parts that come after these lines; the last part of a text isn't ended
abbrev pub part_fault : Plan → List Line → List Line → Option Kind
part_fault plan before [] = None
part_fault plan before (line ∷ next ∷ more) = line_fault plan before line
part_fault plan before (rest ∷ []) =
    if is_some (due_after plan before) then Some Ended else (if length rest == 0 then None else Some Rest)

-- the fault of the line number i of a text, counted from 1
abbrev pub fault_at : Plan → List ℕ → ℕ → Option Kind
fault_at plan text zero = None
fault_at plan text (suc i) = part_fault plan (take i (parts text)) (drop i (parts text))

-- the first line of a text that has a fault, and its kind
pub record IsFirstFault (plan : Plan) (text : List ℕ) (line : ℕ) (kind : Kind) : Type 0 where
  pub here : fault_at plan text line ≡ Some kind
  pub least : (i : ℕ) → i < line → fault_at plan text i ≡ None

-- every line of a text is as it is due
abbrev pub IsFaultless : Plan → List ℕ → Type 0
IsFaultless plan text = (i : ℕ) → fault_at plan text i ≡ None

-- a text that isn't read has this first fault, unless memory ran out
abbrev pub IsFaultOf : Plan → List ℕ → TextFault → Type 0
IsFaultOf plan text (Malformed line kind) = IsFirstFault plan text line kind
IsFaultOf plan text Memory = Unit {0}
