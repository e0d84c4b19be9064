-- The line of a distance table.
use Rattle.std.specs.Prelude.{◌≡◌, ℕ, ◌==◌, ◌&&◌, Bool, true, List, ◌∷◌, map, drop, length, Option, Some, None, is_some, if◌then◌else◌, ℤ, pos, neg_ℤ, ◌≤ℤ◌, codes}
use Rattle.std.specs.List.{list_all, AllByRecursion}
use Rattle.std.specs.Option.{option_map_or}
use Rattle.std.specs.Str.{bytes_eq}
use Rattle.sc_whole.specs.Spelling.{spelling}
use Rattle.sc_line.specs.declared.fault.Kind.{Kind}
use Rattle.sc_line.specs.declared.fault.Kind.TheVariants.{Form, Range}
use Rattle.sc_text.specs.declared.limits.TheConstants.{MAX_ENTRY}
use Rattle.sc_line.specs.Lines.{Line, Field, spaced, fields, number_of}
use Rattle.sc_line.specs.Faults.{named_fault}
use Rattle.sc_line.specs.Forms.{LineKind}
use Rattle.sc_text.specs.PriceLines.{of_size, known_fault}

-- a number or none
abbrev pub Entry : Type 0
Entry = Option ℤ

-- the field of an entry: a number, or `-` for none
abbrev pub entry_field : Entry → Field
entry_field None = codes "-"
entry_field (Some z) = spelling z

-- the line of the table of the start s
abbrev pub from_line : ℕ → List Entry → Line
from_line s entries = spaced (codes "from" ∷ spelling (pos s) ∷ map entry_field entries)

-- whether a field is `-` or a number, whether that is in its range, and the entry that it is
abbrev pub is_entry : Field → Bool
is_entry f = if bytes_eq f (codes "-") then true else is_some (number_of f)

abbrev pub is_entry_in_range : Field → Bool
is_entry_in_range f = if bytes_eq f (codes "-") then true else option_map_or (of_size MAX_ENTRY) (number_of f) true

abbrev pub entry_of : Field → Entry
entry_of f = if bytes_eq f (codes "-") then None else number_of f

-- the fault of fields that are due to be so many entries
abbrev pub entries_fault : ℕ → List Field → Option Kind
entries_fault count fs =
    if (length fs == count) && list_all is_entry fs then (if list_all is_entry_in_range fs then None else Some Range) else Some Form

-- the fault of the line of the table of s, which is due to have so many entries
abbrev pub from_fault : ℕ → ℕ → Line → Option Kind
from_fault count s = named_fault (codes "from") (known_fault (pos s) (entries_fault count))

-- the entries in a line
abbrev pub entries_of_line : Line → List Entry
entries_of_line line = map entry_of (drop 2 (fields line))

-- what an entry may be
abbrev pub IsEntryInRange : Entry → Type 0
IsEntryInRange None = Unit {0}
IsEntryInRange (Some z) = (neg_ℤ MAX_ENTRY ≤ℤ z) × (z ≤ℤ MAX_ENTRY)

-- what a table of so many entries may be
pub record IsTableInRange (count : ℕ) (entries : List Entry) : Type 0 where
  pub count_is : length entries ≡ count
  pub entries_in_range : AllByRecursion IsEntryInRange entries

-- the line of the table of the start s
abbrev pub a_table : ℕ → ℕ → LineKind (List Entry)
a_table count s = record { line = from_line s; fault = from_fault count s; value = entries_of_line }
