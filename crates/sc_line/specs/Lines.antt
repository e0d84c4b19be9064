-- Texts as lines, lines as fields, and fields as numbers.
use Rattle.std.specs.Prelude.{◌≡◌, ℕ, ◌++◌, ◌-◌, ◌==◌, Bool, true, not, List, [], ◌∷◌, map, drop, get_or, slice_index, Option, Some, None, ℤ, pos, negsuc, neg_ℤ, if◌then◌else◌, FitsSigned}
use Rattle.std.specs.List.{slice_split, join_with_byte, flat_map, list_all, AllByRecursion}
use Rattle.std.specs.Int.{w128}
use Rattle.std.specs.Int.Digits.{number_from_digits}
use Rattle.std.specs.Str.{bytes_eq}
use Rattle.sc_whole.specs.Spelling.{spelling}

abbrev pub Line : Type 0
Line = List ℕ

abbrev pub Field : Type 0
Field = List ℕ

-- a line and the line feed that ends it
abbrev pub ended : Line → List ℕ
ended line = line ++ 10 ∷ []

-- the text of these lines
abbrev pub text_of : List Line → List ℕ
text_of lines = flat_map ended lines

-- what stands between the line feeds of a text: its lines, and then the bytes after the last line feed
abbrev pub parts : List ℕ → List Line
parts text = slice_split (λ b. b == 10) text

-- the line of these fields, with one space between them
abbrev pub spaced : List Field → Line
spaced fs = join_with_byte 32 fs

-- the fields of a line: what stands between its spaces
abbrev pub fields : Line → List Field
fields line = slice_split (λ b. b == 32) line

-- the line of a name and numbers
abbrev pub numbers_line : List ℕ → List ℤ → Line
numbers_line name numbers = spaced (name ∷ map spelling numbers)

-- the number that digits write, with a minus sign or without
abbrev pub natural_written : Field → ℕ
natural_written digits = number_from_digits 10 (map (λ b. b - 48) digits)

abbrev pub number_written : Field → ℤ
number_written f = if slice_index f 0 == 45 then neg_ℤ (pos (natural_written (drop 1 f))) else pos (natural_written f)

-- the number of which a field is the one spelling
unfoldable pub number_of : Field → Option ℤ
number_of f = if bytes_eq f (spelling (number_written f)) then Some (number_written f) else None

-- a number as 128 bits hold it: as it is, or not at all
abbrev pub IsNarrowed : ℤ → Option ℤ → Type 0
IsNarrowed z None = FitsSigned w128 z → ⊥
IsNarrowed z (Some x) = x ≡ z

-- a field is a number
pub record TellsNumber (field : Field) (number : Option ℤ) : Type 0 where
  pub value : ℤ
  pub spells : number_of field ≡ Some value
  pub narrowed : IsNarrowed value number

-- the fields of a line of which nothing may be left
abbrev pub fields_left : Option Line → List Field
fields_left None = []
fields_left (Some line) = fields line

-- the number that the first of the fields spells
abbrev pub first_number : List Field → Option ℤ
first_number [] = None
first_number (f ∷ fs) = number_of f

-- the first of the fields was taken, and is a number
pub record TakesNumber (old new : List Field) (number : Option ℤ) : Type 0 where
  pub field : Field
  pub value : ℤ
  pub taken : old ≡ field ∷ new
  pub spells : number_of field ≡ Some value
  pub narrowed : IsNarrowed value number

-- ---- lines of a name and a count

-- the line of a name and a count
abbrev pub count_line : List ℕ → ℕ → Line
count_line name n = numbers_line name (pos n ∷ [])

-- the natural number that was read, and 0 where there is none
abbrev pub natural : Option ℤ → ℕ
natural (Some (pos n)) = n
natural (Some (negsuc n)) = 0
natural None = 0

-- the natural number in a field of a line, and 0 where there is none
abbrev pub natural_of_line : ℕ → Line → ℕ
natural_of_line i line = natural (number_of (get_or (fields line) i []))

abbrev pub count_of_line : Line → ℕ
count_of_line = natural_of_line 1

-- ---- bytes that don't occur

-- whether a list doesn't have a byte
abbrev pub lacks : ℕ → List ℕ → Bool
lacks c bs = list_all (λ b. not (b == c)) bs

abbrev pub AllLack : ℕ → List (List ℕ) → Type 0
AllLack c xss = AllByRecursion (λ xs. lacks c xs ≡ true) xss
