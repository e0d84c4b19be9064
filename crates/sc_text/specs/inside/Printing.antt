-- Said by private functions alone: the bytes of the fields of a line that is printed.
use Rattle.std.specs.Prelude.{ℕ, List, ◌∷◌, pos}
use Rattle.std.specs.List.{flat_map}
use Rattle.sc_whole.specs.Spelling.{spelling}
use Rattle.sc_fraction.specs.Frac.{frac_text}
use Rattle.sc_text.specs.declared.printing.Field.{Field}
use Rattle.sc_text.specs.declared.printing.Field.TheVariants.{Text, Number, Letters, Fraction, Numbers, Entries}
use Rattle.sc_text.specs.Words.{spelled}
use Rattle.sc_text.specs.TableLines.{Entry, entry_field}

-- numbers, and the entries of a table, each behind a space
abbrev pub numbers_bytes : List ℕ → List ℕ
numbers_bytes numbers = flat_map (λ n. 32 ∷ spelling (pos n)) numbers

abbrev pub entries_bytes : List Entry → List ℕ
entries_bytes entries = flat_map (λ e. 32 ∷ entry_field e) entries

-- the fields that it stands for, each behind a space
abbrev pub field_bytes : Field → List ℕ
field_bytes (Text text) = 32 ∷ text.now
field_bytes (Number z) = 32 ∷ spelling z
field_bytes (Letters letters) = 32 ∷ spelled letters.now
field_bytes (Fraction fraction) = 32 ∷ frac_text fraction.now
field_bytes (Numbers numbers) = numbers_bytes numbers.now
field_bytes (Entries entries) = entries_bytes entries.now
