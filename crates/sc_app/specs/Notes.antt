-- The line that goes to the notes for each status.
use Rattle.std.specs.Prelude.{ℕ, List, [], ◌∷◌, ◌++◌, Option, None, Some, codes}
use Rattle.sc_whole.specs.Spelling.{natural_spelling}
use Rattle.sc_line.specs.declared.fault.Kind.{Kind}
use Rattle.sc_line.specs.declared.fault.Kind.TheVariants.{Coefficient, MissingWord, Letter, Extra, NotAscii, Separator, Form, Range, NotReduced, Ended, Rest}
use Rattle.sc_app.specs.declared.status.Status.{Status}
use Rattle.sc_app.specs.declared.status.Status.TheVariants.{Done, Usage, Malformed, Large, Wide, Budget, Sides, ReadFault, WriteFault, Memory, Rejected}
use Rattle.sc_app.specs.declared.status.What.TheVariants.{Bytes, Words, Positions}

-- a text and LF
abbrev pub line : List ℕ → List ℕ
line text = text ++ 10 ∷ []

-- the forms of the command line
abbrev pub usage : List ℕ
usage = codes "surface | shape | check | svg | scl [--pivots N] | ball [--pivots N] | gen SEED K"

-- the word for a kind of fault
abbrev pub kind_name : Kind → List ℕ
kind_name Coefficient = codes "coefficient"
kind_name MissingWord = codes "missing-word"
kind_name Letter = codes "letter"
kind_name Extra = codes "extra"
kind_name NotAscii = codes "not-ascii"
kind_name Separator = codes "separator"
kind_name Form = codes "form"
kind_name Range = codes "range"
kind_name NotReduced = codes "not-reduced"
kind_name Ended = codes "ended"
kind_name Rest = codes "rest"

-- nothing for Done, else one line
abbrev pub note_of : Status → List ℕ
note_of Done = []
note_of Usage = line (codes "scallop: usage: " ++ usage)
note_of (Malformed at kind) = line (codes "scallop: malformed line " ++ natural_spelling at ++ 32 ∷ kind_name kind)
note_of (Large Bytes) = line (codes "scallop: large bytes")
note_of (Large (Words count)) = line (codes "scallop: large words " ++ natural_spelling count)
note_of (Large (Positions count)) = line (codes "scallop: large positions " ++ natural_spelling count)
note_of Wide = line (codes "scallop: wide")
note_of Budget = line (codes "scallop: budget")
note_of Sides = line (codes "scallop: sides")
note_of ReadFault = line (codes "scallop: read fault")
note_of WriteFault = line (codes "scallop: write fault")
note_of Memory = line (codes "scallop: memory")
note_of (Rejected condition) = line (codes "scallop: rejected")

-- the digits of a number, where there is one
abbrev pub number_text : Option ℕ → List ℕ
number_text None = []
number_text (Some n) = natural_spelling n

-- a line in its parts
abbrev pub text_of : List ℕ → Option ℕ → List ℕ → List ℕ
text_of before number after = before ++ number_text number ++ after
