-- The case of a line or its first kind, as one decision over its fields.
use Rattle.std.specs.Prelude.{List, [], ◌∷◌, Option, Some, None, Result, Ok, Err, ℤ, pos, if◌then◌else◌}
use Rattle.sc_theory.specs.Words.{Word}
use Rattle.sc_words.specs.Spelling.{word_of}
use Rattle.sc_words.specs.ChainText.{Field, coefficient_of, begins_number}
use Rattle.sc_line.specs.declared.fault.Kind.{Kind}
use Rattle.sc_line.specs.declared.fault.Kind.TheVariants.{Coefficient, MissingWord, Letter, Extra}

-- a word that should be the last field
abbrev pub last_word : ℤ → Option Word → List Field → Result (ℤ × Word) Kind
last_word z None fs = Err Letter
last_word z (Some w) [] = Ok (z, w)
last_word z (Some w) (f ∷ fs) = Err Extra

abbrev pub behind_coefficient : Option ℤ → List Field → Result (ℤ × Word) Kind
behind_coefficient None fs = Err Coefficient
behind_coefficient (Some z) [] = Err MissingWord
behind_coefficient (Some z) (f ∷ fs) = last_word z (word_of f) fs

-- the fields of a line, f and those after it
abbrev pub decision : Field → List Field → Result (ℤ × Word) Kind
decision f fs = if begins_number f then behind_coefficient (coefficient_of f) fs else last_word (pos 1) (word_of f) fs
