-- The line of a word.
use Rattle.std.specs.Prelude.{◌≢◌, ℕ, ◌<◌, ◌≤◌, Bool, false, ◌&&◌, nat_le, nat_lt, if◌then◌else◌, List, [], ◌∷◌, map, length, get_or, Option, Some, None, ℤ, pos, codes, is_none}
use Rattle.std.specs.List.{AllByRecursion, list_all}
use Rattle.std.specs.Option.{option_map_or, unwrap_or}
use Rattle.sc_theory.specs.Words.{Word, IsReduced, delete_cyclically}
use Rattle.sc_whole.specs.Spelling.{spelling}
use Rattle.sc_line.specs.declared.fault.Kind.{Kind}
use Rattle.sc_line.specs.declared.fault.Kind.TheVariants.{Form, Range, NotReduced}
use Rattle.sc_line.specs.Lines.{Line, Field, spaced, fields, number_of, natural_of_line}
use Rattle.sc_line.specs.Faults.{between, named_fault}
use Rattle.sc_line.specs.Forms.{LineKind}
use Rattle.sc_words.specs.Spelling.{letter_byte, letter_of, word_of}
use Rattle.sc_text.specs.declared.limits.Limits.{Limits}
use Rattle.sc_text.specs.declared.limits.TheConstants.{VERSION_1}

-- the letters of a word, one behind the other
abbrev pub spelled : Word → Field
spelled w = map letter_byte w

-- the line of a word with its weight
abbrev pub word_line : ℕ × Word → Line
word_line w = spaced (codes "word" ∷ spelling (pos w.0) ∷ spelled w.1 ∷ [])

-- whether a word allows no deletion
abbrev pub is_reduced : Word → Bool
is_reduced w = is_none (delete_cyclically w)

-- what a line of a word may hold at these limits, and at those of version 1
pub record IsWordWithin (m : Limits) (w : ℕ × Word) : Type 0 where
  pub low : 1 ≤ w.0
  pub high : w.0 ≤ m.weight
  pub letters : AllByRecursion (λ x. x.number < m.generators) w.1
  pub some : w.1 ≢ []
  pub reduced : IsReduced w.1

abbrev pub IsWordInRange : ℕ × Word → Type 0
IsWordInRange w = IsWordWithin VERSION_1 w

-- what a word may be where so many letters may come
pub record FitsIn (m : Limits) (room : ℕ) (w : ℕ × Word) : Type 0 where
  pub in_range : IsWordWithin m w
  pub fits : length w.1 ≤ room

-- whether a byte spells a letter of one of so many generators
abbrev pub is_letter_of : ℕ → ℕ → Bool
is_letter_of generators b = option_map_or (λ x. nat_lt x.number generators) (letter_of b) false

-- the word that bytes spell, of letters of so many generators
abbrev pub word_within : ℕ → Field → Option Word
word_within generators bs = if list_all (is_letter_of generators) bs then word_of bs else None

-- the fault of a weight and a word that is to have at most `room` letters
abbrev pub weight_and_word_fault : Limits → ℕ → ℤ → Word → Option Kind
weight_and_word_fault m room weight w =
    if between 1 m.weight weight && nat_le (length w) room then (if is_reduced w then None else Some NotReduced)
    else Some Range

abbrev pub weighted_word_fault : Limits → ℕ → Option ℤ → Option Word → Option Kind
weighted_word_fault m room (Some weight) (Some []) = Some Form
weighted_word_fault m room (Some weight) (Some (x ∷ w)) = weight_and_word_fault m room weight (x ∷ w)
weighted_word_fault m room (Some weight) None = Some Form
weighted_word_fault m room None w = Some Form

abbrev pub word_fields_fault : Limits → ℕ → List Field → Option Kind
word_fields_fault m room [] = Some Form
word_fields_fault m room (weight ∷ []) = Some Form
word_fields_fault m room (weight ∷ letters ∷ []) = weighted_word_fault m room (number_of weight) (word_within m.generators letters)
word_fields_fault m room (weight ∷ letters ∷ f ∷ fs) = Some Form

abbrev pub word_fault : Limits → ℕ → Line → Option Kind
word_fault m room = named_fault (codes "word") (word_fields_fault m room)

abbrev pub word_of_line : Line → ℕ × Word
word_of_line line = (natural_of_line 1 line, unwrap_or (word_of (get_or (fields line) 2 [])) [])

-- the line of a word where so many letters may come
abbrev pub a_word : Limits → ℕ → LineKind (ℕ × Word)
a_word m room = record { line = word_line; fault = word_fault m room; value = word_of_line }
