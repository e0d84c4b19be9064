-- The fields of a line that is printed.
use Rattle.std.specs.Prelude.{ℕ, ◌<◌, List, [], ◌∷◌, map, length, pos, codes, All}
use Rattle.sc_theory.specs.Chains.{Chain}
use Rattle.sc_theory.specs.Fatgraphs.{Sides}
use Rattle.sc_line.specs.Lines.{Line, count_line}
use Rattle.sc_text.specs.Sides.{side_line}
use Rattle.sc_whole.specs.Spelling.{spelling}
use Rattle.sc_fraction.specs.Frac.{frac_text}
use Rattle.sc_words.specs.declared.limits.TheConstants.{GENERATORS}
use Rattle.sc_text.specs.declared.printing.Field.{Field}
use Rattle.sc_text.specs.declared.printing.Field.TheVariants.{Text, Number, Letters, Fraction, Numbers, Entries}
use Rattle.sc_text.specs.Words.{spelled, word_line}
use Rattle.sc_text.specs.TableLines.{entry_field}

-- the fields that it stands for
abbrev pub fields_of : Field → List (List ℕ)
fields_of (Text text) = text.now ∷ []
fields_of (Number z) = spelling z ∷ []
fields_of (Letters letters) = spelled letters.now ∷ []
fields_of (Fraction fraction) = frac_text fraction.now ∷ []
fields_of (Numbers numbers) = map (λ n. spelling (pos n)) numbers.now
fields_of (Entries entries) = map entry_field entries.now

-- its letters are those of the generators
abbrev pub AreSpellable : Field → Type 0
AreSpellable (Text text) = Unit {0}
AreSpellable (Number z) = Unit {0}
AreSpellable (Letters letters) = All (λ x. x.number < GENERATORS) letters.now
AreSpellable (Fraction fraction) = Unit {0}
AreSpellable (Numbers numbers) = Unit {0}
AreSpellable (Entries entries) = Unit {0}

-- the lines of a chain: how many words there are, and the words
abbrev pub words_lines : Chain → List Line
words_lines c = count_line (codes "words") (length c) ∷ map word_line c

-- the lines of sides: how many there are, and the sides
abbrev pub sides_lines : Sides → List Line
sides_lines g = count_line (codes "sides") (length g) ∷ map side_line g
