-- What a call that may answer so has done to its streams, status by status.
use Rattle.std.proofs.Common.{◌≡◌, ◌↔◌, ℕ, ◌+◌, ◌≤◌, ◌⊎◌, inl, inr, List, [], Option, None, Some, IfSome, refl, subst, sym, ap, ◌∙◌, arith}
use Rattle.sc_outside.specs.Told.{Delivered, Took, TookPart}
use Rattle.sc_app.specs.declared.command.Command.{Command}
use Rattle.sc_app.specs.declared.command.Reading.{Reading}
use Rattle.sc_app.specs.declared.command.Reading.TheVariants.{Nothing, AtMost}
use Rattle.sc_app.specs.declared.status.Status.{Status}
use Rattle.sc_app.specs.declared.status.Status.TheVariants.{Done, Usage, Malformed, Large, Wide, Budget, Sides, ReadFault, WriteFault, Memory, Rejected}
use Rattle.sc_app.specs.declared.status.What.TheVariants.{Bytes, Words, Positions}
use Rattle.sc_app.specs.Forms.{IsForm, HasNoForm}
use Rattle.sc_app.specs.Kinds.{StatusKind, WithText, WithoutText, PastLimit, Unasked, NotRead, NotWritten, NoMemory, kind_of, Decides, HasNoText, HadItsInput, Excuses, IsDecided, IsQuiet, IsReadToTheEnd, IsExcused}
use Rattle.sc_app.specs.Reading.{reads, given, given_to, input_for, most_bytes, MayRead, ReadsAll, ReadPastLimit, ReadWithinLimit, IsUntouched}
use Rattle.sc_app.specs.Answers.{Answers, HasOneAnswer, IsAccepted, IsOwnAnswer, Delivers, EndsBy, IsAsked, MayAnswer}
use Rattle.sc_app.proofs.Forms.{one_command, no_command}
use Rattle.sc_app.proofs.OneAnswer.{one_answer, one_text_answer}
use Rattle.sc_app.proofs.Accepted.{own_status}

-- ---- by kinds

memory_alone : (s : Status) → kind_of s ≡ NoMemory → s ≡ Memory
memory_alone Memory e = refl
memory_alone Done e = absurd (cc)
memory_alone (Rejected condition) e = absurd (cc)
memory_alone (Malformed line kind) e = absurd (cc)
memory_alone (Large Bytes) e = absurd (cc)
memory_alone (Large (Words count)) e = absurd (cc)
memory_alone (Large (Positions count)) e = absurd (cc)
memory_alone Wide e = absurd (cc)
memory_alone Budget e = absurd (cc)
memory_alone Sides e = absurd (cc)
memory_alone Usage e = absurd (cc)
memory_alone ReadFault e = absurd (cc)
memory_alone WriteFault e = absurd (cc)

quiet_by : (k : StatusKind) (c : Command) (input : Option (List ℕ)) (R W : Type 0) (old new : Option (List ℕ)) (s : Status) → HasNoText k → EndsBy k c input R W old new s → Took old new []
quiet_by WithText c input R W old new s q h = absurd q
quiet_by WithoutText c input R W old new s q h = h.1
quiet_by PastLimit c input R W old new s q h = h.1
quiet_by Unasked c input R W old new s q h = absurd h
quiet_by NotRead c input R W old new s q h = h.1
quiet_by NotWritten c input R W old new s q h = absurd q
quiet_by NoMemory c input R W old new s q h = h

-- the answer went out, or the status is excused
delivered_or : (k : StatusKind) (c : Command) (input : Option (List ℕ)) (R W : Type 0) (old new : Option (List ℕ)) (s : Status) → EndsBy k c input R W old new s → Delivers c input old new s ⊎ Excuses k
delivered_or WithText c input R W old new s h = inl h
delivered_or WithoutText c input R W old new s h = inl h.0
delivered_or PastLimit c input R W old new s h = inl h.0
delivered_or Unasked c input R W old new s h = absurd h
delivered_or NotRead c input R W old new s h = inr tt
delivered_or NotWritten c input R W old new s h = inr tt
delivered_or NoMemory c input R W old new s h = inr tt

decided_by : (k : StatusKind) (c : Command) (input : Option (List ℕ)) (R W : Type 0) (old new : Option (List ℕ)) (s : Status) → Decides k → EndsBy k c input R W old new s → Delivers c input old new s
decided_by WithText c input R W old new s d h = h
decided_by WithoutText c input R W old new s d h = h.0
decided_by PastLimit c input R W old new s d h = h.0
decided_by Unasked c input R W old new s d h = absurd d
decided_by NotRead c input R W old new s d h = absurd d
decided_by NotWritten c input R W old new s d h = absurd d
decided_by NoMemory c input R W old new s d h = absurd d

-- where no count rose, the answer went out, or there was no memory
faultless_by : (k : StatusKind) (c : Command) (input : Option (List ℕ)) (R W : Type 0) (old new : Option (List ℕ)) (s : Status) → EndsBy k c input R W old new s → ¬ R → ¬ W
    → Delivers c input old new s ⊎ (k ≡ NoMemory)
faultless_by WithText c input R W old new s h r w = inl h
faultless_by WithoutText c input R W old new s h r w = inl h.0
faultless_by PastLimit c input R W old new s h r w = inl h.0
faultless_by Unasked c input R W old new s h r w = absurd h
faultless_by NotRead c input R W old new s h r w = absurd (r h.0)
faultless_by NotWritten c input R W old new s h r w = absurd (w h.0)
faultless_by NoMemory c input R W old new s h r w = inr refl

untouched_by : (reading : Reading) (k : StatusKind) (left left' : Option (List ℕ)) (faults faults' : ℕ) → reading ≡ Nothing → MayRead reading k left left' faults faults' → IsUntouched left left' faults faults'
untouched_by Nothing k left left' faults faults' e m = m.1
untouched_by (AtMost limit) k left left' faults faults' e m = absurd (cc)

past_by : (reading : Reading) (left left' : Option (List ℕ)) (faults faults' : ℕ) → MayRead reading PastLimit left left' faults faults' → Delivered left left' (most_bytes reading + 1)
past_by Nothing left left' faults faults' m = absurd m.0
past_by (AtMost limit) left left' faults faults' m = m

none_delivered : (left : Option (List ℕ)) → Delivered left left 0
none_delivered None = tt
none_delivered (Some bytes) = (omega arith, refl)

within_by : (reading : Reading) (left left' : Option (List ℕ)) (faults faults' : ℕ) → MayRead reading NoMemory left left' faults faults'
    → (n : ℕ) × (n ≤ most_bytes reading) × Delivered left left' n
within_by Nothing left left' faults faults' m = (0, omega arith, subst (λ (o : Option (List ℕ)). Delivered left o 0) (sym m.1.same_left) (none_delivered left))
within_by (AtMost limit) left left' faults faults' m = m

whole_by : (reading : Reading) (k : StatusKind) (left left' : Option (List ℕ)) (faults faults' : ℕ) → HadItsInput k → MayRead reading k left left' faults faults' → ReadsAll reading left left'
whole_by Nothing k left left' faults faults' h m = m.1.same_left
whole_by (AtMost limit) WithText left left' faults faults' h m = m
whole_by (AtMost limit) WithoutText left left' faults faults' h m = m
whole_by (AtMost limit) PastLimit left left' faults faults' h m = absurd h
whole_by (AtMost limit) Unasked left left' faults faults' h m = absurd h
whole_by (AtMost limit) NotRead left left' faults faults' h m = absurd h
whole_by (AtMost limit) NotWritten left left' faults faults' h m = m
whole_by (AtMost limit) NoMemory left left' faults faults' h m = absurd h

-- ---- the command of the words

if_some : {P Q : List ℕ → Type 0} (o : Option (List ℕ)) → ((x : List ℕ) → P x → Q x) → IfSome o P → IfSome o Q
if_some None f h = tt
if_some (Some x) f h = f x h

if_all : {P : List ℕ → Type 0} (o : Option (List ℕ)) → ((x : List ℕ) → P x) → IfSome o P
if_all None f = tt
if_all (Some x) f = f x

-- what holds of the input of the command holds of the input of the words
for_words : (P : List ℕ → Type 0) (words : List (List ℕ)) (c : Command) (left : Option (List ℕ)) → IsForm c words → IfSome (given (reads c) left) P → IfSome (input_for words left) P
for_words P words c left form h = subst (λ (o : Option Command). IfSome (given_to o left) P) (sym form) h

-- ---- a call

module _ (words : List (List ℕ)) (left left' : Option (List ℕ)) (faults faults' : ℕ) (R W : Type 0) (old new : Option (List ℕ)) (s : Status) (m : MayAnswer words left left' faults faults' R W old new s) where
  -- how a command that was asked ends, and what it read, by a status that it is known to end with
  ends_as : (t : Status) → s ≡ t → (h : IsAsked words left left' faults faults' R W old new s) → EndsBy (kind_of t) h.command (given (reads h.command) left) R W old new t
  ends_as t e h = subst (λ (x : Status). EndsBy (kind_of x) h.command (given (reads h.command) left) R W old new x) e h.ends

  read_as : (t : Status) → s ≡ t → (h : IsAsked words left left' faults faults' R W old new s) → MayRead (reads h.command) (kind_of t) left left' faults faults'
  read_as t e h = subst (λ (x : Status). MayRead (reads h.command) (kind_of x) left left' faults faults') e h.read

  -- what each status tells of the words, of what the source still has, and of what the streams took
  pub usage : (s ≡ Usage) ↔ HasNoForm words
  usage = (
    λ e. elim m [ inl h ↦ h.none | inr h ↦ absurd (ends_as Usage e h) ],
    λ none. elim m [ inl h ↦ h.usage | inr h ↦ absurd (no_command words h.command h.words_are none) ],
  )

  pub unread : s ≡ Usage → (left' ≡ left) × (faults' ≡ faults)
  unread e = elim m [ inl h ↦ (h.source.same_left, h.source.same_faults) | inr h ↦ absurd (ends_as Usage e h) ]

  pub untouched : (c : Command) → IsForm c words → reads c ≡ Nothing → IsUntouched left left' faults faults'
  untouched c form none = elim m [
    | inl h ↦ h.source
    | inr h ↦ untouched_by (reads h.command) (kind_of s) left left' faults faults' (ap reads (one_command words h.command c h.words_are form) ∙ none) h.read
  ]

  pub read_past_limit : s ≡ Large Bytes → (c : Command) × IsForm c words × ReadPastLimit c left left'
  read_past_limit e = elim m [
    | inl h ↦ let other : Usage ≡ Large Bytes = sym h.usage ∙ e in absurd (cc)
    | inr h ↦ (h.command, h.words_are, past_by (reads h.command) left left' faults faults' (read_as (Large Bytes) e h))
  ]

  pub read_whole : IsReadToTheEnd s → (c : Command) × IsForm c words × ReadsAll (reads c) left left'
  read_whole end = elim m [
    | inl h ↦ absurd (subst IsReadToTheEnd h.usage end)
    | inr h ↦ (h.command, h.words_are, whole_by (reads h.command) (kind_of s) left left' faults faults' end h.read)
  ]

  pub read_within_limit : s ≡ Memory → (c : Command) × IsForm c words × ReadWithinLimit c left left'
  read_within_limit e = elim m [
    | inl h ↦ let other : Usage ≡ Memory = sym h.usage ∙ e in absurd (cc)
    | inr h ↦ (h.command, h.words_are, within_by (reads h.command) left left' faults faults' (read_as Memory e h))
  ]

  pub read_fault : s ≡ ReadFault → R
  read_fault e = elim m [
    | inl h ↦ let other : Usage ≡ ReadFault = sym h.usage ∙ e in absurd (cc)
    | inr h ↦ (ends_as ReadFault e h).0
  ]

  pub write_fault : s ≡ WriteFault → W
  write_fault e = elim m [
    | inl h ↦ let other : Usage ≡ WriteFault = sym h.usage ∙ e in absurd (cc)
    | inr h ↦ (ends_as WriteFault e h).0
  ]

  pub quiet : IsQuiet s → Took old new []
  quiet q = elim m [
    | inl h ↦ h.nothing
    | inr h ↦ quiet_by (kind_of s) h.command (given (reads h.command) left) R W old new s q h.ends
  ]

  -- by a status that the input decides, `out` took the text of an answer with that status
  pub answered : IsDecided s → IfSome (input_for words left) (λ input. (text : List ℕ) × Answers words input s text × Took old new text)
  answered d = elim m [
    | inl h ↦ absurd (subst IsDecided h.usage d)
    | inr h ↦
        for_words (λ input. (text : List ℕ) × Answers words input s text × Took old new text) words h.command left h.words_are
        (if_some (given (reads h.command) left) (λ input d. (d.0, (h.command, h.words_are, d.1), d.2))
        (decided_by (kind_of s) h.command (given (reads h.command) left) R W old new s d h.ends))
  ]

  -- where a write failed, `out` took a part of the text of an answer
  pub broken : s ≡ WriteFault → IfSome (input_for words left) (λ input. (status : Status) × (text : List ℕ) × Answers words input status text × TookPart old new text)
  broken e = elim m [
    | inl h ↦ let other : Usage ≡ WriteFault = sym h.usage ∙ e in absurd (cc)
    | inr h ↦
        for_words (λ input. (status : Status) × (text : List ℕ) × Answers words input status text × TookPart old new text) words h.command left h.words_are
        (if_some (given (reads h.command) left) (λ input d. (d.0, d.1, (h.command, h.words_are, d.2), d.3)) (ends_as WriteFault e h).1)
  ]

  -- the one answer came, or its want is excused
  abbrev Comes : List ℕ → Type 0
  Comes input = HasOneAnswer words input → (status : Status) (text : List ℕ) → Answers words input status text → ((s ≡ status) × Took old new text) ⊎ IsExcused s

  comes : (h : IsAsked words left left' faults faults' R W old new s) → IfSome (given (reads h.command) left) Comes
  comes h = elim (delivered_or (kind_of s) h.command (given (reads h.command) left) R W old new s h.ends) [
    | inl d ↦
        if_some (given (reads h.command) left)
        (λ input d one status text a. inl (
          one_answer words input d.0 text s status one (h.command, h.words_are, d.1) a,
          subst (Took old new) (one_text_answer words input d.0 text s status one (h.command, h.words_are, d.1) a) d.2,
        )) d
    | inr e ↦ if_all (given (reads h.command) left) (λ input one status text a. inr e)
  ]

  -- where words and input have one right answer, it came, unless its want is excused
  pub complete : IfSome (input_for words left) Comes
  complete = elim m [
    | inl h ↦ if_all (input_for words left) (λ input one status text a. absurd (no_command words a.0 a.1 h.none))
    | inr h ↦ for_words Comes words h.command left h.words_are (comes h)
  ]

  abbrev Completes : Command → List ℕ → Type 0
  Completes c input = IsAccepted c input → ¬ R → ¬ W → IsOwnAnswer c input old new s ⊎ (s ≡ Memory)

  completes : (h : IsAsked words left left' faults faults' R W old new s) → IfSome (given (reads h.command) left) (Completes h.command)
  completes h = own (given (reads h.command) left) (faultless_by (kind_of s) h.command (given (reads h.command) left) R W old new s h.ends)
    where
      own : (input : Option (List ℕ)) → (¬ R → ¬ W → Delivers h.command input old new s ⊎ (kind_of s ≡ NoMemory)) → IfSome input (Completes h.command)
      own None f = tt
      own (Some input) f = λ accepted r w.
          elim (f r w) [
            | inl d ↦ inl (d.0, own_status h.command input d.0 s accepted d.1, d.1, d.2)
            | inr none ↦ inr (memory_alone s none)
          ]

  -- where the command accepts its input and no count rose, an answer of its own came, or there was no memory
  pub completed : (c : Command) → IsForm c words → IfSome (given (reads c) left) (Completes c)
  completed c form = elim m [
    | inl h ↦ absurd (no_command words c form h.none)
    | inr h ↦ subst (λ (d : Command). IfSome (given (reads d) left) (Completes d)) (one_command words h.command c h.words_are form) (completes h)
  ]

  -- the answer of a command that ends by a status with a text
  pub told : (c : Command) (t : Status) → IsForm c words → kind_of t ≡ WithText → s ≡ t → Delivers c (given (reads c) left) old new t
  told c t form text e = elim m [
    | inl h ↦ absurd (no_command words c form h.none)
    | inr h ↦
        let ends = subst (λ (k : StatusKind). EndsBy k h.command (given (reads h.command) left) R W old new t) text (ends_as t e h) in
        subst (λ (d : Command). Delivers d (given (reads d) left) old new t) (one_command words h.command c h.words_are form) ends
  ]

  -- the answer of a command, by any status that the words and the input decide
  pub answer_of : (c : Command) → IsForm c words → IsDecided s → Delivers c (given (reads c) left) old new s
  answer_of c form d = elim m [
    | inl h ↦ absurd (no_command words c form h.none)
    | inr h ↦
        subst (λ (d : Command). Delivers d (given (reads d) left) old new s) (one_command words h.command c h.words_are form)
        (decided_by (kind_of s) h.command (given (reads h.command) left) R W old new s d h.ends)
  ]
