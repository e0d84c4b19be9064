-- Chain texts: their lines, the fields of a line, and the case that a line has.
use Rattle.std.specs.Prelude.{◌≡◌, ℕ, suc, pred, ◌-◌, ◌<◌, ◌≤◌, Bool, false, not, ◌&&◌, ◌||◌, ◌==◌, nat_le, nat_lt, if◌then◌else◌, List, [], ◌∷◌, ◌++◌, length, get_or, map, filter, slice_index, Option, Some, None, IsSome, ℤ, pos, neg_ℤ, ◌≤ℤ◌}
use Rattle.std.specs.List.{slice_split, list_all}
use Rattle.std.specs.Option.{option_map}
use Rattle.std.specs.Str.Lines.{strip_carriage_return}
use Rattle.std.specs.Int.Digits.{number_from_digits}
use Rattle.sc_theory.specs.Words.{Word}
use Rattle.sc_theory.specs.Chains.{no_letter}
use Rattle.sc_words.specs.Spelling.{word_of}
use Rattle.sc_words.specs.declared.lines.RawLine.{RawLine}
use Rattle.sc_line.specs.declared.fault.Kind.{Kind}
use Rattle.sc_line.specs.declared.fault.Kind.TheVariants.{Coefficient, MissingWord, Letter, Extra, NotAscii}
use Rattle.sc_words.specs.declared.limits.TheConstants.{GENERATORS, MAX_COEFFICIENT, COEFFICIENT_DIGITS}

abbrev pub Line : Type 0
Line = List ℕ

abbrev pub Field : Type 0
Field = List ℕ

-- ---- lines and fields

abbrev pub is_line_feed : ℕ → Bool
is_line_feed b = b == 10

-- a space or a tab
abbrev pub is_blank : ℕ → Bool
is_blank b = b == 32 || b == 9

-- the lines of a text: what stands between its line feeds, and what is left behind the last one, if anything is
abbrev pub without_empty_last : List Line → List Line
without_empty_last [] = []
without_empty_last (l ∷ []) = if length l == 0 then [] else l ∷ []
without_empty_last (l ∷ m ∷ more) = l ∷ without_empty_last (m ∷ more)

abbrev pub text_lines : List ℕ → List Line
text_lines text = without_empty_last (slice_split is_line_feed text)

-- the line number n of a text, counted from 1
abbrev pub line_at : List ℕ → ℕ → Line
line_at text n = get_or (text_lines text) (pred n) []

-- the fields: what stands between spaces and tabs
abbrev pub fields : List ℕ → List Field
fields bytes = filter (λ f. not (length f == 0)) (slice_split is_blank bytes)

-- those of a line, without a carriage return at its end
abbrev pub line_fields : Line → List Field
line_fields line = fields (strip_carriage_return line)

-- ---- coefficients

abbrev pub is_digit : ℕ → Bool
is_digit b = nat_le 48 b && nat_le b 57

abbrev pub digits_number : Field → ℕ
digits_number f = number_from_digits 10 (map (λ b. b - 48) f)

-- the size that one to four digits write
abbrev pub size_of : Field → Option ℕ
size_of f =
    if nat_le 1 (length f) && nat_le (length f) COEFFICIENT_DIGITS && list_all is_digit f && nat_le (digits_number f) MAX_COEFFICIENT
    then Some (digits_number f) else None

-- a size behind `+`, `-` or neither
abbrev pub coefficient_of : Field → Option ℤ
coefficient_of [] = None
coefficient_of (b ∷ f) =
    if b == 43 then option_map pos (size_of f)
    else (if b == 45 then option_map (λ n. neg_ℤ (pos n)) (size_of f) else option_map pos (size_of (b ∷ f)))

-- ---- the case of a line: no field or a comment, which say nothing; a word; a coefficient and a word

abbrev pub Entry : Type 0
Entry = Option (ℤ × Word)

abbrev pub is_comment : List Field → Bool
is_comment [] = false
is_comment (f ∷ fs) = slice_index f 0 == 35

abbrev pub with_coefficient : Option ℤ → Option Word → Option Entry
with_coefficient (Some z) (Some w) = Some (Some (z, w))
with_coefficient (Some z) None = None
with_coefficient None o = None

abbrev pub fields_case : List Field → Option Entry
fields_case [] = Some None
fields_case (f ∷ []) = with_coefficient (Some (pos 1)) (word_of f)
fields_case (n ∷ f ∷ []) = with_coefficient (coefficient_of n) (word_of f)
fields_case (n ∷ f ∷ g ∷ more) = None

abbrev pub line_case : Line → Option Entry
line_case line = if is_comment (line_fields line) then Some None else fields_case (line_fields line)

-- ---- the first kind that applies to a line without a case

abbrev pub is_ascii : Line → Bool
is_ascii line = list_all (λ b. nat_lt b 128) line

-- whether a digit, `+` or `-` comes first
abbrev pub begins_number : Field → Bool
begins_number f = is_digit (slice_index f 0) || slice_index f 0 == 43 || slice_index f 0 == 45

-- where a word is due, and it should be the last field
abbrev pub word_kind : Option Word → Kind
word_kind None = Letter
word_kind (Some w) = Extra

-- where a coefficient is due and then a word
abbrev pub number_kind : Option ℤ → List Field → Kind
number_kind None fs = Coefficient
number_kind (Some z) [] = MissingWord
number_kind (Some z) (f ∷ fs) = word_kind (word_of f)

abbrev pub fields_kind : List Field → Kind
fields_kind [] = Letter
fields_kind (f ∷ fs) = if begins_number f then number_kind (coefficient_of f) fs else word_kind (word_of f)

abbrev pub line_kind : Line → Kind
line_kind line = if is_ascii line then fields_kind (line_fields line) else NotAscii

-- ---- a text

-- what the line number n gives
abbrev pub raw_line : ℕ → Option Entry → List RawLine
raw_line n (Some (Some (z, w))) = record { line = n; coefficient = z; word = w } ∷ []
raw_line n (Some None) = []
raw_line n None = []

-- what lines give, the first of which has the number n
abbrev pub raw_lines : ℕ → List Line → List RawLine
raw_lines n [] = []
raw_lines n (l ∷ ls) = raw_line n (line_case l) ++ raw_lines (suc n) ls

-- every line of the text has a case, and this is what they give
pub record IsChainText (text : List ℕ) (read : List RawLine) : Type 0 where
  pub cases : (n : ℕ) → 1 ≤ n → n ≤ length (text_lines text) → IsSome (line_case (line_at text n))
  pub entries : read ≡ raw_lines 1 (text_lines text)

-- this line is the first without a case, and this kind the first that applies to it
pub record IsFirstMalformed (text : List ℕ) (line : ℕ) (kind : Kind) : Type 0 where
  pub counted : 1 ≤ line
  pub in_text : line ≤ length (text_lines text)
  pub no_case : line_case (line_at text line) ≡ None
  pub before : (n : ℕ) → 1 ≤ n → n < line → IsSome (line_case (line_at text n))
  pub kind_is : kind ≡ line_kind (line_at text line)

-- what a line that was read keeps: the size of its coefficient, and the generators of its word
pub record IsRawLine (r : RawLine) : Type 0 where
  pub low : neg_ℤ (pos MAX_COEFFICIENT) ≤ℤ r.coefficient
  pub high : r.coefficient ≤ℤ pos MAX_COEFFICIENT
  pub generators : (k : ℕ) → k < length r.word → (get_or r.word k no_letter).number < GENERATORS
