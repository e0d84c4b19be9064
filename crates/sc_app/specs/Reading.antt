-- What commands read of the source.
use Rattle.std.specs.Prelude.{◌≡◌, ℕ, ◌+◌, ◌^◌, ◌<◌, ◌≤◌, List, [], Option, None, Some, IfSome}
use Rattle.sc_outside.specs.Told.{Delivered}
use Rattle.sc_app.specs.declared.command.Command.{Command}
use Rattle.sc_app.specs.declared.command.Command.TheVariants.{Surface, Shape, Check, Svg, Scl, Ball, Generate}
use Rattle.sc_app.specs.declared.command.Reading.{Reading}
use Rattle.sc_app.specs.declared.command.Reading.TheVariants.{Nothing, AtMost}
use Rattle.sc_app.specs.declared.limits.TheConstants.{MAX_TEXT_BYTES, MAX_CHAIN_BYTES}
use Rattle.sc_app.specs.Kinds.{StatusKind, WithText, WithoutText, PastLimit, Unasked, NotRead, NotWritten, NoMemory}
use Rattle.sc_app.specs.Forms.{form}

-- what each command reads: nothing, or its whole input of at most so many bytes
abbrev pub reads : Command → Reading
reads Surface = AtMost MAX_TEXT_BYTES
reads Shape = AtMost MAX_TEXT_BYTES
reads Check = AtMost MAX_TEXT_BYTES
reads Svg = AtMost MAX_TEXT_BYTES
reads (Scl pivots) = AtMost MAX_CHAIN_BYTES
reads (Ball pivots) = AtMost MAX_CHAIN_BYTES
reads (Generate seed letters) = Nothing

-- the most bytes that are read, short of one too many
abbrev pub most_bytes : Reading → ℕ
most_bytes Nothing = 0
most_bytes (AtMost limit) = limit

-- the most calls on the source: none, or one a byte and one more
abbrev pub most_calls : Reading → ℕ
most_calls Nothing = 0
most_calls (AtMost limit) = limit + 1

-- the most calls on the source with these words; none where they are no form
abbrev pub most_calls_of : Option Command → ℕ
most_calls_of None = 0
most_calls_of (Some c) = most_calls (reads c)

abbrev pub most_turns : List (List ℕ) → ℕ
most_turns words = most_calls_of (form words)

-- the input, where it is told: a command that reads nothing has none, whatever the source tells
abbrev pub given : Reading → Option (List ℕ) → Option (List ℕ)
given Nothing left = Some []
given (AtMost limit) left = left

-- the input of the command that the words ask for, where it is told
abbrev pub given_to : Option Command → Option (List ℕ) → Option (List ℕ)
given_to None left = left
given_to (Some c) left = given (reads c) left

abbrev pub input_for : List (List ℕ) → Option (List ℕ) → Option (List ℕ)
input_for words left = given_to (form words) left

-- the limit is a size that can be read
abbrev pub IsReadable : Reading → Type 0
IsReadable Nothing = Unit {0}
IsReadable (AtMost limit) = limit < 2 ^ 31

-- ---- what is left of the input: before and now

-- where the input was told, every byte of it was read
abbrev pub ReadWhole : Option (List ℕ) → Option (List ℕ) → Type 0
ReadWhole left left' = IfSome left (λ input. left' ≡ Some [])

-- all that the command reads was read
abbrev pub ReadsAll : Reading → Option (List ℕ) → Option (List ℕ) → Type 0
ReadsAll Nothing left left' = left' ≡ left
ReadsAll (AtMost limit) left left' = ReadWhole left left'

-- one byte more than the command's limit was read
abbrev pub ReadPastLimit : Command → Option (List ℕ) → Option (List ℕ) → Type 0
ReadPastLimit c left left' = Delivered left left' (most_bytes (reads c) + 1)

-- not more bytes than the limit were read
abbrev pub ReadWithinLimit : Command → Option (List ℕ) → Option (List ℕ) → Type 0
ReadWithinLimit c left left' = (n : ℕ) × (n ≤ most_bytes (reads c)) × Delivered left left' n

-- neither the bytes of the source nor its count of faults changed
pub record IsUntouched (left left' : Option (List ℕ)) (faults faults' : ℕ) : Type 0 where
  pub same_left : left' ≡ left
  pub same_faults : faults' ≡ faults

-- how much a command that reads may have read when it ends so
abbrev pub ReadsUpTo : StatusKind → ℕ → Option (List ℕ) → Option (List ℕ) → Type 0
ReadsUpTo WithText limit left left' = ReadWhole left left'
ReadsUpTo WithoutText limit left left' = ReadWhole left left'
ReadsUpTo PastLimit limit left left' = Delivered left left' (limit + 1)
ReadsUpTo Unasked limit left left' = ⊥
ReadsUpTo NotRead limit left left' = Unit {0}
ReadsUpTo NotWritten limit left left' = ReadWhole left left'
ReadsUpTo NoMemory limit left left' = (n : ℕ) × (n ≤ limit) × Delivered left left' n

-- the kinds that come without a look at the source
abbrev pub NeedsNoSource : StatusKind → Type 0
NeedsNoSource WithText = Unit {0}
NeedsNoSource WithoutText = Unit {0}
NeedsNoSource PastLimit = ⊥
NeedsNoSource Unasked = ⊥
NeedsNoSource NotRead = ⊥
NeedsNoSource NotWritten = Unit {0}
NeedsNoSource NoMemory = Unit {0}

-- what may have happened to the source when a command that reads so ends by a status of this kind
abbrev pub MayRead : Reading → StatusKind → Option (List ℕ) → Option (List ℕ) → ℕ → ℕ → Type 0
MayRead Nothing kind left left' faults faults' = NeedsNoSource kind × IsUntouched left left' faults faults'
MayRead (AtMost limit) kind left left' faults faults' = ReadsUpTo kind limit left left'
