-- How a command ends, from what it responds and what the sink took.
use Rattle.std.proofs.Common.{◌≡◌, ℕ, Bool, true, false, ◌≤◌, ◌⊎◌, inl, inr, List, [], Option, None, Some, IfSome, length, subst, sym, arith}
use Rattle.std.proofs.lemmas.List.{drop_all}
use Rattle.sc_outside.specs.Told.{Delivered, Took, TookPart}
use Rattle.sc_app.specs.declared.command.Command.{Command}
use Rattle.sc_app.specs.declared.command.Command.TheVariants.{Surface, Shape, Check, Svg, Scl, Ball, Generate}
use Rattle.sc_app.specs.declared.command.Reading.{Reading}
use Rattle.sc_app.specs.declared.command.Reading.TheVariants.{Nothing, AtMost}
use Rattle.sc_app.specs.declared.status.Status.{Status}
use Rattle.sc_app.specs.declared.status.Status.TheVariants.{Done, Malformed, Large, WriteFault, Rejected, Budget, Wide, Sides}
use Rattle.sc_app.specs.declared.status.What.TheVariants.{Words, Positions}
use Rattle.sc_prices.specs.declared.verdict.Condition.TheVariants.{Flaw}
use Rattle.sc_app.specs.Kinds.{StatusKind, WithText, WithoutText, PastLimit, Unasked, NotRead, NotWritten, NoMemory, kind_of}
use Rattle.sc_app.specs.Reading.{reads, ReadWhole, ReadsUpTo, NeedsNoSource}
use Rattle.sc_app.specs.inside.Reading.{Fits}
use Rattle.sc_theory.specs.Chains.{Chain}
use Rattle.sc_theory.specs.Fatgraphs.{Sides as SideList}
use Rattle.sc_app.specs.Said.{Refuses, RespondsBySides}
use Rattle.sc_app.specs.Surface.{IsReport}
use Rattle.sc_app.specs.Shape.{IsShape}
use Rattle.sc_app.specs.Svg.{IsPicture, FanResponds, RespondsByHead, is_headed_as_fan}
use Rattle.sc_app.specs.Check.{CheckResponds}
use Rattle.sc_app.specs.Scl.{SclResponds}
use Rattle.sc_app.specs.Ball.{BallResponds}
use Rattle.sc_app.specs.Generate.{GenerateResponds}
use Rattle.sc_app.specs.Answers.{Responds, RespondsBy, AnswersTo, EndsBy}

-- ---- a response has a text or none, as the kind of its status says

abbrev Suits : StatusKind → List ℕ → Type 0
Suits WithText text = Unit {0}
Suits WithoutText text = text ≡ []
Suits _ text = ⊥

refusal_suits : (input text : List ℕ) (s : Status) → Refuses input s text → Suits (kind_of s) text
refusal_suits input text (Malformed at kind) r = r.1
refusal_suits input text (Rejected (Flaw kind place)) r = tt
refusal_suits input text _ r = absurd r

sides_suit : (Tells : Chain → ℕ → SideList → List ℕ → Type 0) (input text : List ℕ) (s : Status) → RespondsBySides Tells input s text → Suits (kind_of s) text
sides_suit Tells input text Done r = tt
sides_suit Tells input text s r = refusal_suits input text s r

check_suits : (input text : List ℕ) (s : Status) → CheckResponds input s text → Suits (kind_of s) text
check_suits input text (Malformed at kind) r = r.1
check_suits input text (Rejected condition) r = tt
check_suits input text Done r = tt
check_suits input text _ r = absurd r

scl_suits : (n : ℕ) (input text : List ℕ) (s : Status) → SclResponds n input s text → Suits (kind_of s) text
scl_suits n input text (Malformed at kind) r = r.1
scl_suits n input text (Large (Words count)) r = r.3
scl_suits n input text (Large (Positions count)) r = r.3
scl_suits n input text Done r = tt
scl_suits n input text Budget r = tt
scl_suits n input text Wide r = tt
scl_suits n input text Sides r = tt
scl_suits n input text _ r = absurd r.3

ball_suits : (n : ℕ) (input text : List ℕ) (s : Status) → BallResponds n input s text → Suits (kind_of s) text
ball_suits n input text (Malformed at kind) r = r.1
ball_suits n input text (Large (Words count)) r = r.3.1
ball_suits n input text (Large (Positions count)) r = r.3.1
ball_suits n input text Done r = tt
ball_suits n input text Budget r = tt
ball_suits n input text Wide r = tt
ball_suits n input text Sides r = tt
ball_suits n input text _ r = absurd r.3.1

fan_suits : (input text : List ℕ) (s : Status) → FanResponds input s text → Suits (kind_of s) text
fan_suits input text (Malformed at kind) r = r.1
fan_suits input text Done r = tt
fan_suits input text _ r = absurd r

svg_suits : (head : Bool) (input text : List ℕ) (s : Status) → RespondsByHead head input s text → Suits (kind_of s) text
svg_suits true input text s r = fan_suits input text s r
svg_suits false input text s r = sides_suit IsPicture input text s r

generate_suits : (seed letters : ℕ) (text : List ℕ) (s : Status) → GenerateResponds seed letters s text → Suits (kind_of s) text
generate_suits seed letters text Done r = tt
generate_suits seed letters text Budget r = tt
generate_suits seed letters text Wide r = tt
generate_suits seed letters text Sides r = tt
generate_suits seed letters text _ r = absurd r

suits : (c : Command) (input text : List ℕ) (s : Status) → Responds c input s text → Suits (kind_of s) text
suits Surface input text s r = sides_suit IsReport input text s r
suits Shape input text s r = sides_suit IsShape input text s r
suits Svg input text s r = svg_suits (is_headed_as_fan input) input text s r
suits Check input text s r = check_suits input text s r
suits (Scl pivots) input text s r = scl_suits pivots input text s r
suits (Ball pivots) input text s r = ball_suits pivots input text s r
suits (Generate seed letters) input text s r = generate_suits seed letters text s r

-- ---- so a command ends

needs_none : (k : StatusKind) (text : List ℕ) → Suits k text → NeedsNoSource k
needs_none WithText text h = tt
needs_none WithoutText text h = tt
needs_none _ text h = absurd h

-- a response to an input that fits is an answer
answers : (reading : Reading) (c : Command) (input text : List ℕ) (s : Status) → Fits reading input → Responds c input s text → RespondsBy reading c input s text
answers Nothing c input text s fits r = subst (λ (bytes : List ℕ). Responds c bytes s text) fits r
answers (AtMost limit) c input text s fits r = inr (fits, r)

ends_whole : (k : StatusKind) (c : Command) (input text : List ℕ) (W : Type 0) (old new : Option (List ℕ)) (s : Status) → Suits k text → AnswersTo c input s text → Took old new text
    → EndsBy k c (Some input) ⊥ W old new s
ends_whole WithText c input text W old new s h a took = (text, a, took)
ends_whole WithoutText c input text W old new s h a took = ((text, a, took), subst (Took old new) h took)
ends_whole PastLimit c input text W old new s h a took = absurd h
ends_whole Unasked c input text W old new s h a took = absurd h
ends_whole NotRead c input text W old new s h a took = absurd h
ends_whole NotWritten c input text W old new s h a took = absurd h
ends_whole NoMemory c input text W old new s h a took = absurd h

-- a command that responds, or whose sink failed, ends by a status that says nothing of the source
pub needs_no_source : (c : Command) (W : Type 0) (old new : Option (List ℕ)) (input text : List ℕ) (s r : Status) → Responds c input s text
    → ((r ≡ s) × Took old new text) ⊎ ((r ≡ WriteFault) × W × TookPart old new text) → NeedsNoSource (kind_of r)
needs_no_source c W old new input text s r resp (inl h) =
    subst (λ (x : Status). NeedsNoSource (kind_of x)) (sym h.0) (needs_none (kind_of s) text (suits c input text s resp))
needs_no_source c W old new input text s r resp (inr h) = subst (λ (x : Status). NeedsNoSource (kind_of x)) (sym h.0) tt

-- it ends as its status says: with its text taken, or with a part of it where the sink failed
pub ends : (c : Command) (W : Type 0) (old new : Option (List ℕ)) (input text : List ℕ) (s r : Status) → Fits (reads c) input → Responds c input s text
    → ((r ≡ s) × Took old new text) ⊎ ((r ≡ WriteFault) × W × TookPart old new text) → EndsBy (kind_of r) c (Some input) ⊥ W old new r
ends c W old new input text s r fits resp (inl h) =
    subst (λ (x : Status). EndsBy (kind_of x) c (Some input) ⊥ W old new x) (sym h.0)
    (ends_whole (kind_of s) c input text W old new s (suits c input text s resp) (answers (reads c) c input text s fits resp) h.1)
ends c W old new input text s r fits resp (inr h) =
    subst (λ (x : Status). EndsBy (kind_of x) c (Some input) ⊥ W old new x) (sym h.0)
    (h.1, (s, text, answers (reads c) c input text s fits resp, h.2))

-- ---- the input is what the source told

along : (P : List ℕ → Type 0) (left : Option (List ℕ)) (input : List ℕ) → IfSome left (λ bytes. input ≡ bytes) → P input → IfSome left P
along P None input same p = tt
along P (Some bytes) input same p = subst P same p

-- where the source told its bytes, the command that was given them ends so with what it told
ends_along : (k : StatusKind) (c : Command) (left : Option (List ℕ)) (input : List ℕ) (R W : Type 0) (old new : Option (List ℕ)) (s : Status) → IfSome left (λ bytes. input ≡ bytes)
    → EndsBy k c (Some input) ⊥ W old new s → EndsBy k c left R W old new s
ends_along WithText c left input R W old new s same h = along (λ bytes. (text : List ℕ) × AnswersTo c bytes s text × Took old new text) left input same h
ends_along WithoutText c left input R W old new s same h =
    (along (λ bytes. (text : List ℕ) × AnswersTo c bytes s text × Took old new text) left input same h.0, h.1)
ends_along PastLimit c left input R W old new s same h =
    (along (λ bytes. (text : List ℕ) × AnswersTo c bytes s text × Took old new text) left input same h.0, h.1)
ends_along Unasked c left input R W old new s same h = absurd h
ends_along NotRead c left input R W old new s same h = absurd h.0
ends_along NotWritten c left input R W old new s same h =
    (h.0, along (λ bytes. (t : Status) × (text : List ℕ) × AnswersTo c bytes t text × TookPart old new text) left input same h.1)
ends_along NoMemory c left input R W old new s same h = h

-- the same of a slice of the input
pub ends_along_slice : (k : StatusKind) (c : Command) (left : Option (List ℕ)) (input bytes : List ℕ) (R W : Type 0) (old new : Option (List ℕ)) (s : Status) → bytes ≡ input
    → IfSome left (λ all. input ≡ all) → EndsBy k c (Some bytes) ⊥ W old new s → EndsBy k c left R W old new s
ends_along_slice k c left input bytes R W old new s same told h =
    ends_along k c left input R W old new s told (subst (λ (b : List ℕ). EndsBy k c (Some b) ⊥ W old new s) same h)

delivered : (left left' : Option (List ℕ)) (input : List ℕ) (limit : ℕ) → IfSome left (λ bytes. input ≡ bytes) → ReadWhole left left' → length input ≤ limit
    → (n : ℕ) × (n ≤ limit) × Delivered left left' n
delivered None left' input limit same whole within = (0, omega arith, tt)
delivered (Some bytes) left' input limit same whole within = (
  length bytes,
  subst (λ (l : List ℕ). length l ≤ limit) same within,
  subst (λ (o : Option (List ℕ)). Delivered (Some bytes) o (length bytes)) (sym whole) (omega arith, sym (drop_all (length bytes) bytes (omega arith))),
)

-- what a command read that had its whole input
pub read_whole : (k : StatusKind) (limit : ℕ) (left left' : Option (List ℕ)) (input : List ℕ) → IfSome left (λ bytes. input ≡ bytes) → ReadWhole left left' → length input ≤ limit
    → NeedsNoSource k → ReadsUpTo k limit left left'
read_whole WithText limit left left' input same whole within h = whole
read_whole WithoutText limit left left' input same whole within h = whole
read_whole PastLimit limit left left' input same whole within h = absurd h
read_whole Unasked limit left left' input same whole within h = absurd h
read_whole NotRead limit left left' input same whole within h = absurd h
read_whole NotWritten limit left left' input same whole within h = whole
read_whole NoMemory limit left left' input same whole within h = delivered left left' input limit same whole within
