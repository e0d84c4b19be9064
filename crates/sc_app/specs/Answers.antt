-- What a call of the program may answer.
use Rattle.std.specs.Prelude.{◌≡◌, ℕ, ◌<◌, ◌≤◌, ◌⊎◌, List, [], length, Option, IfSome}
use Rattle.sc_outside.specs.Told.{Took, TookPart}
use Rattle.sc_app.specs.declared.command.Command.{Command}
use Rattle.sc_app.specs.declared.command.Command.TheVariants.{Surface, Shape, Check, Svg, Scl, Ball, Generate}
use Rattle.sc_app.specs.declared.command.Reading.{Reading}
use Rattle.sc_app.specs.declared.command.Reading.TheVariants.{Nothing, AtMost}
use Rattle.sc_app.specs.declared.status.Status.{Status}
use Rattle.sc_app.specs.declared.status.Status.TheVariants.{Usage, Large}
use Rattle.sc_app.specs.declared.status.What.TheVariants.{Bytes}
use Rattle.sc_app.specs.Forms.{IsForm, HasNoForm}
use Rattle.sc_app.specs.Kinds.{StatusKind, WithText, WithoutText, PastLimit, Unasked, NotRead, NotWritten, NoMemory, kind_of}
use Rattle.sc_app.specs.Notes.{note_of}
use Rattle.sc_app.specs.Reading.{reads, given, MayRead, IsUntouched}
use Rattle.sc_app.specs.Said.{SaysSurface, IsStatusOfSides}
use Rattle.sc_app.specs.Surface.{SurfaceResponds}
use Rattle.sc_app.specs.Shape.{ShapeResponds}
use Rattle.sc_app.specs.Svg.{SvgResponds, SvgAccepts, IsSvgStatus}
use Rattle.sc_app.specs.Check.{CheckResponds, CheckAccepts, IsCheckStatus}
use Rattle.sc_app.specs.Scl.{SclResponds, SclAccepts, HasSeveralAnswers, IsSclStatus}
use Rattle.sc_app.specs.Ball.{BallResponds, BallAccepts, HasSeveralBalls, IsBallStatus}
use Rattle.sc_app.specs.Generate.{GenerateResponds, IsSolverStatus}

-- what a command answers to an input that isn't over its limit: the status, and the text for `out`
abbrev pub Responds : Command → List ℕ → Status → List ℕ → Type 0
Responds Surface input status text = SurfaceResponds input status text
Responds Shape input status text = ShapeResponds input status text
Responds Check input status text = CheckResponds input status text
Responds Svg input status text = SvgResponds input status text
Responds (Scl pivots) input status text = SclResponds pivots input status text
Responds (Ball pivots) input status text = BallResponds pivots input status text
Responds (Generate seed letters) input status text = GenerateResponds seed letters status text

-- the same for any input, by what the command reads: one that reads nothing has the empty input
abbrev pub RespondsBy : Reading → Command → List ℕ → Status → List ℕ → Type 0
RespondsBy Nothing c input status text = Responds c [] status text
RespondsBy (AtMost limit) c input status text =
    ((limit < length input) × (status ≡ Large Bytes) × (text ≡ []))
    ⊎ ((length input ≤ limit) × Responds c input status text)

-- what a command answers to an input
abbrev pub AnswersTo : Command → List ℕ → Status → List ℕ → Type 0
AnswersTo c input status text = RespondsBy (reads c) c input status text

-- what the words ask for, as the answer to an input
abbrev pub Answers : List (List ℕ) → List ℕ → Status → List ℕ → Type 0
Answers words input status text = (c : Command) × IsForm c words × AnswersTo c input status text

-- ---- inputs with one answer, and inputs that are accepted

-- the inputs that have one right answer: all but the balanced chains of `scl`, `ball` and `gen`
abbrev pub IsDetermined : Command → List ℕ → Type 0
IsDetermined Surface input = Unit {0}
IsDetermined Shape input = Unit {0}
IsDetermined Check input = Unit {0}
IsDetermined Svg input = Unit {0}
IsDetermined (Scl pivots) input = ¬ HasSeveralAnswers input
IsDetermined (Ball pivots) input = ¬ HasSeveralBalls input
IsDetermined (Generate seed letters) input = ⊥

-- the same for any input, by what the command reads
abbrev pub DeterminedBy : Reading → Command → List ℕ → Type 0
DeterminedBy Nothing c input = IsDetermined c []
DeterminedBy (AtMost limit) c input = IsDetermined c input

-- the words and the input have one right answer, where they have any
abbrev pub HasOneAnswer : List (List ℕ) → List ℕ → Type 0
HasOneAnswer words input = (c : Command) → IsForm c words → DeterminedBy (reads c) c input

-- the command's format and limits allow the input
abbrev pub Allows : Command → List ℕ → Type 0
Allows Surface input = SaysSurface input
Allows Shape input = SaysSurface input
Allows Check input = CheckAccepts input
Allows Svg input = SvgAccepts input
Allows (Scl pivots) input = SclAccepts input
Allows (Ball pivots) input = BallAccepts input
Allows (Generate seed letters) input = Unit {0}

-- the same for any input, by what the command reads
abbrev pub AllowsBy : Reading → Command → List ℕ → Type 0
AllowsBy Nothing c input = Unit {0}
AllowsBy (AtMost limit) c input = (length input ≤ limit) × Allows c input

abbrev pub IsAccepted : Command → List ℕ → Type 0
IsAccepted c input = AllowsBy (reads c) c input

-- what a command may answer to an input that it accepts, besides for want of memory
abbrev pub IsOwnStatus : Command → List ℕ → Status → Type 0
IsOwnStatus Surface input status = IsStatusOfSides status
IsOwnStatus Shape input status = IsStatusOfSides status
IsOwnStatus Check input status = IsCheckStatus status
IsOwnStatus Svg input status = IsSvgStatus input status
IsOwnStatus (Scl pivots) input status = IsSclStatus input status
IsOwnStatus (Ball pivots) input status = IsBallStatus input status
IsOwnStatus (Generate seed letters) input status = IsSolverStatus status

-- an answer of the command's own to the input came, and `out` took its text
abbrev pub IsOwnAnswer : Command → List ℕ → Option (List ℕ) → Option (List ℕ) → Status → Type 0
IsOwnAnswer c input old new status = (text : List ℕ) × IsOwnStatus c input status × AnswersTo c input status text × Took old new text

-- ---- how a command ends

-- where the input is told, this is its answer, and `out` took the text
abbrev pub Delivers : Command → Option (List ℕ) → Option (List ℕ) → Option (List ℕ) → Status → Type 0
Delivers c input old new status =
    IfSome input (λ bytes. (text : List ℕ) × AnswersTo c bytes status text × Took old new text)

-- where the input is told, `out` took a part of the text of its answer
abbrev pub Breaks : Command → Option (List ℕ) → Option (List ℕ) → Option (List ℕ) → Type 0
Breaks c input old new =
    IfSome input (λ bytes. (status : Status) × (text : List ℕ) × AnswersTo c bytes status text × TookPart old new text)

-- how a command ends by a status of a kind: `input` is what it is given, where that is told, `ReadRose` and
-- `WriteRose` that a count of faults rose, and `old` and `new` what `out` had taken before and has taken now
abbrev pub EndsBy : StatusKind → Command → Option (List ℕ) → Type 0 → Type 0 → Option (List ℕ) → Option (List ℕ) → Status → Type 0
EndsBy WithText c input ReadRose WriteRose old new status = Delivers c input old new status
EndsBy WithoutText c input ReadRose WriteRose old new status = Delivers c input old new status × Took old new []
EndsBy PastLimit c input ReadRose WriteRose old new status = Delivers c input old new status × Took old new []
EndsBy Unasked c input ReadRose WriteRose old new status = ⊥
EndsBy NotRead c input ReadRose WriteRose old new status = ReadRose × Took old new []
EndsBy NotWritten c input ReadRose WriteRose old new status = WriteRose × Breaks c input old new
EndsBy NoMemory c input ReadRose WriteRose old new status = Took old new []

-- ---- how a call ends

-- what a call saw of its streams: `left` and `left'` what the source has left before and after, `faults` and
-- `faults'` its count, `ReadRose` and `WriteRose` that the source's count and that of `out` rose, `old` and `new`
-- what `out` took
-- the words ask for nothing: nothing is read or written
pub record IsUnasked (words : List (List ℕ)) (left left' : Option (List ℕ)) (faults faults' : ℕ) (old new : Option (List ℕ)) (status : Status) : Type 0 where
  pub none : HasNoForm words
  pub usage : status ≡ Usage
  pub source : IsUntouched left left' faults faults'
  pub nothing : Took old new []

-- the words ask for a command, which ends so after it read so
pub record IsAsked (words : List (List ℕ)) (left left' : Option (List ℕ)) (faults faults' : ℕ) (ReadRose WriteRose : Type 0) (old new : Option (List ℕ)) (status : Status)
    : Type 0 where
  pub command : Command
  pub words_are : IsForm command words
  pub ends : EndsBy (kind_of status) command (given (reads command) left) ReadRose WriteRose old new status
  pub read : MayRead (reads command) (kind_of status) left left' faults faults'

-- what a call may answer
abbrev pub MayAnswer : List (List ℕ) → Option (List ℕ) → Option (List ℕ) → ℕ → ℕ → Type 0 → Type 0 → Option (List ℕ) → Option (List ℕ) → Status → Type 0
MayAnswer words left left' faults faults' ReadRose WriteRose old new status =
    IsUnasked words left left' faults faults' old new status
    ⊎ IsAsked words left left' faults faults' ReadRose WriteRose old new status

-- a prefix of the text was taken, or all of it
abbrev pub TookUpTo : Option (List ℕ) → Option (List ℕ) → List ℕ → Type 0
TookUpTo old new text = TookPart old new text ⊎ Took old new text

-- a call ends so, with the line of its status on `notes`: `noted` and `noted'` are what that took, `NoteRose` that
-- its count rose
pub record IsCall (words : List (List ℕ)) (left left' : Option (List ℕ)) (faults faults' : ℕ) (ReadRose WriteRose NoteRose : Type 0) (old new noted noted' : Option (List ℕ))
    (status : Status) : Type 0 where
  pub answers : MayAnswer words left left' faults faults' ReadRose WriteRose old new status
  pub notes : TookUpTo noted noted' (note_of status)
  pub whole_note : NoteRose ⊎ Took noted noted' (note_of status)
