-- Texts in a lawful form, and a reader that has read the lines before a part.
use Rattle.std.proofs.Common.{◌≡◌, ◌≢◌, ℕ, ◌+◌, ◌≤◌, Bool, true, false, cond, eqb, List, [], ◌∷◌, ◌++◌, length, Option, Some, None, Result, Ok, Err, refl, sym, ap, subst, ◌∙◌, arith, ◌⊎◌}
use Rattle.std.specs.Prelude.{IfOk, IfErr, OnOk, IsErrAnd}
use Rattle.std.proofs.lemmas.Bool.{ne_eqb, false≢true}
use Rattle.std.proofs.lemmas.List.{length_push, append_cancel_right}
use Rattle.std.proofs.lemmas.Option.{none-some}
use Rattle.sc_line.specs.declared.fault.Kind.{Kind}
use Rattle.sc_line.specs.declared.fault.Kind.TheVariants.{Ended, Rest}
use Rattle.sc_line.specs.declared.fault.TextFault.{TextFault}
use Rattle.sc_line.specs.declared.fault.TextFault.TheVariants as text_faults
use Rattle.sc_line.specs.declared.fault.LineFault.{LineFault}
use Rattle.sc_line.specs.declared.fault.LineFault.TheVariants.{Malformed}
use Rattle.sc_line.specs.LineFaults.{IsFault, at_line}
use Rattle.sc_line.specs.Lines.{Line, parts, text_of}
use Rattle.sc_line.specs.Faults.{line_fault, part_fault, IsFaultless, IsFaultOf, IsFirstFault}
use Rattle.sc_line.specs.Formats.{Format, told, a_line, is_told, after_lines, plan_of, fault_due, Steps, Reads, IsShort}
use Rattle.sc_line.proofs.FormatLaws.{end_fault, reads_append, reads_once, reads_after, told_is, one_step, short_read, line_fault_of, end_when_told, end_when_due, faultless_if_read, read_if_faultless}
use Rattle.sc_line.specs.Forms.{IsLawful, IsToldBy, IsRead}
use Rattle.sc_line.proofs.LineLaws.{parts-text_of, text_from_parts}
use Rattle.sc_line.proofs.FaultLaws.{HasRead, read_nothing, read_more, fault_at_line, first_fault_here, answered}

-- ---- texts in a lawful form

module _ {V : Type 0} (lines : V → List Line) (due : Format V) (InRange : V → Type 0) (most : ℕ) (law : IsLawful lines due InRange most) where
  parts_are : (v : V) → InRange v → parts (text_of (lines v)) ≡ lines v ++ [] ∷ []
  parts_are v h = parts-text_of (lines v) (law.no_feed v h)

  -- the text of a value in range has no fault
  pub text_is_faultless : (v : V) → InRange v → IsFaultless (plan_of due) (text_of (lines v))
  text_is_faultless v h = faultless_if_read due (text_of (lines v)) (lines v) v (parts_are v h) (law.reads v h)

  -- a text without a fault is that of a value in range
  pub faultless_is_text : (text : List ℕ) → IsFaultless (plan_of due) text → (v : V) × InRange v × (text ≡ text_of (lines v))
  faultless_is_text text good =
      let read = read_if_faultless due text good in (
        read.value,
        law.in_range read.lines read.value read.reads,
        text_from_parts text (lines read.value) (read.are ∙ ap (λ (ls : List Line). ls ++ [] ∷ []) (law.lines_are read.lines read.value read.reads)),
      )

  -- no two values in range have the same text
  pub text_is_of_one : (v w : V) → InRange v → InRange w → text_of (lines v) ≡ text_of (lines w) → v ≡ w
  text_is_of_one v w h k e =
      let same : lines v ≡ lines w = append_cancel_right _ _ ([] ∷ []) (sym (parts_are v h) ∙ ap parts e ∙ parts_are w k) in
      let again = subst (λ (ls : List Line). Reads due ls (told w)) (sym same) (law.reads w k) in
      told_is v w (reads_once due (told v) (told w) (lines v) (law.reads v h) again)

  -- ---- what a reader answers

  -- what was read is the text of a value in range
  pub text_of_read : {X : Type 0} (bytes : List ℕ) (value : X → V) (r : Result X TextFault) → IfOk r (λ x. IsToldBy due bytes (value x)) → IfErr r (IsFaultOf (plan_of due) bytes) → IsRead (λ v. text_of (lines v)) InRange (plan_of due) bytes value r
  text_of_read bytes value (Ok x) good bad = record {
    text = good.text_is ∙ ap text_of (law.lines_are good.lines (value x) good.reads);
    in_range = law.in_range good.lines (value x) good.reads;
    malformed = tt;
  }
  text_of_read bytes value (Err e) good bad = record { text = tt; in_range = tt; malformed = bad }

  module _ {X : Type 0} (bytes : List ℕ) (value : X → V) where
    -- a text that was read has no fault
    pub faultless : (r : Result X TextFault) → IsRead (λ v. text_of (lines v)) InRange (plan_of due) bytes value r → OnOk r (IsFaultless (plan_of due) bytes)
    faultless (Ok x) h = subst (IsFaultless (plan_of due)) (sym h.text) (text_is_faultless (value x) h.in_range)
    faultless (Err e) h = tt

    -- the first fault is answered, unless memory runs out
    pub only : (r : Result X TextFault) → IsRead (λ v. text_of (lines v)) InRange (plan_of due) bytes value r → (line : ℕ) (kind : Kind) → IsFirstFault (plan_of due) bytes line kind
        → IsErrAnd r (λ e. (e ≡ text_faults.Malformed line kind) ⊎ (e ≡ text_faults.Memory))
    only r h line kind first = answered (plan_of due) bytes line kind r (faultless r h) h.malformed first

    -- the text of a value in range is read as that value, unless memory runs out
    pub reads_again : (r : Result X TextFault) → IsRead (λ v. text_of (lines v)) InRange (plan_of due) bytes value r → (v : V) → InRange v → bytes ≡ text_of (lines v) → IfOk r (λ x. value x ≡ v)
    reads_again (Ok x) h v range is = text_is_of_one (value x) v h.in_range range (sym h.text ∙ is)
    reads_again (Err e) h v range is = tt

    -- where the text of a value in range is not read, memory ran out
    pub memory : (r : Result X TextFault) → IsRead (λ v. text_of (lines v)) InRange (plan_of due) bytes value r → (v : V) → InRange v → bytes ≡ text_of (lines v) → IfErr r (λ e. e ≡ text_faults.Memory)
    memory (Ok x) h v range is = tt
    memory (Err (text_faults.Malformed line kind)) h v range is =
        let good = subst (IsFaultless (plan_of due)) (sym is) (text_is_faultless v range) in
        let bad = h.malformed in
        absurd (none-some kind (sym (good line) ∙ bad.here))
    memory (Err text_faults.Memory) h v range is = refl

-- ---- a reader that has read the lines before a part

-- the lines before the rest were read and lead to what is due now; the next line has this number
pub record IsReadUpTo {V : Type 0} (start : Format V) (text : List ℕ) (f : Format V) (rest : List Line) (number : ℕ) : Type 0 where
  pub before : List Line
  pub read : HasRead (plan_of start) text before rest
  pub reads : Reads start before f
  pub number_is : number ≡ length before + 1

module _ {V : Type 0} (start : Format V) (text : List ℕ) where
  -- at the start nothing is read, and the next line is the first
  pub start_reading : IsReadUpTo start text start (parts text) 1
  start_reading = record { before = []; read = read_nothing (plan_of start) text; reads = refl; number_is = refl }

  -- a reader counts no more lines than a text has
  pub few_lines : (f : Format V) (rest : List Line) (number most : ℕ) → IsShort most start → IsReadUpTo start text f rest number → number ≤ most + 1
  few_lines f rest number most short h =
      let few = short_read most start f h.before short h.reads in
      omega (arith, h.number_is)

  fault_is : (f : Format V) (before : List Line) (line : Line) → Reads start before f → line_fault (plan_of start) before line ≡ fault_due f line
  fault_is f before line r = line_fault_of start f before line (reads_after start f before r)

  -- a next line that steps is read too
  pub read_line : (f g : Format V) (line : Line) (after : List Line) (number : ℕ) → IsReadUpTo start text f (line ∷ after) number → after ≢ [] → Steps f g line → IsReadUpTo start text g after (number + 1)
  read_line f g line after number h some step = record {
    before = h.before ++ line ∷ [];
    read = read_more (plan_of start) text h.before (h.before ++ line ∷ []) line after h.read some refl (fault_is f h.before line h.reads ∙ step.good);
    reads = reads_append start f g h.before (line ∷ []) h.reads (one_step f g line step);
    number_is = omega (arith, h.number_is, length_push h.before line);
  }

  -- what keeps the next line from being read, its fault or want of memory, keeps the text from being read
  pub bad_line : (f : Format V) (line : Line) (after : List Line) (number : ℕ) (e : LineFault) → IsReadUpTo start text f (line ∷ after) number → after ≢ [] → IsFault (fault_due f line) e → IsFaultOf (plan_of start) text (at_line number e)
  bad_line f line after number e h some bad =
      fault_at_line (plan_of start) text h.before line after number e h.read some h.number_is (subst (λ (o : Option Kind). IsFault o e) (sym (fault_is f h.before line h.reads)) bad)

  told_line : (f : Format V) (line : Line) → is_told f ≡ true → fault_due f line ≡ Some Rest
  told_line (told v) line h = refl
  told_line (a_line fault rest) line h = absurd (false≢true h)

  -- a line where none is due is the first fault of the text
  pub line_too_many : (f : Format V) (line : Line) (after : List Line) (number : ℕ) → IsReadUpTo start text f (line ∷ after) number → after ≢ [] → is_told f ≡ true → IsFaultOf (plan_of start) text (text_faults.Malformed number Rest)
  line_too_many f line after number h some whole =
      fault_at_line (plan_of start) text h.before line after number (Malformed Rest) h.read some h.number_is (fault_is f h.before line h.reads ∙ told_line f line whole)

  end_is : (f : Format V) (before : List Line) (rest : Line) → after_lines start before ≡ f → part_fault (plan_of start) before (rest ∷ []) ≡ end_fault f rest
  end_is (told v) before [] e = end_when_told start v before [] e
  end_is (told v) before (b ∷ bs) e =
      let some : eqb (length (b ∷ bs)) 0 ≡ false = ne_eqb _ _ (λ none. omega arith) in
      end_when_told start v before (b ∷ bs) e ∙ ap (λ (t : Bool). cond t None (Some Rest)) some
  end_is (a_line fault more) before rest e = end_when_due start fault more before rest e

  bad_end : (f : Format V) (rest : Line) (number : ℕ) (k : Kind) → IsReadUpTo start text f (rest ∷ []) number → end_fault f rest ≡ Some k → IsFaultOf (plan_of start) text (text_faults.Malformed number k)
  bad_end f rest number k h bad =
      first_fault_here (plan_of start) text h.before (rest ∷ []) number k h.read h.number_is (end_is f h.before rest (reads_after start f h.before h.reads) ∙ bad)

  -- the end of the text where a line is due is its first fault
  pub ends_early : (f : Format V) (rest : Line) (number : ℕ) → IsReadUpTo start text f (rest ∷ []) number → is_told f ≡ false → IsFaultOf (plan_of start) text (text_faults.Malformed number Ended)
  ends_early f rest number h due = bad_end f rest number Ended h (early f due)
    where
      early : (g : Format V) → is_told g ≡ false → end_fault g rest ≡ Some Ended
      early (told v) e = absurd (false≢true (sym e))
      early (a_line fault more) e = refl

  -- bytes behind the last line, where no line is due, are the first fault of the text
  pub ends_late : (f : Format V) (v : V) (rest : Line) (number : ℕ) → IsReadUpTo start text f (rest ∷ []) number → f ≡ told v → eqb (length rest) 0 ≡ false → IsFaultOf (plan_of start) text (text_faults.Malformed number Rest)
  ends_late f v rest number h due some = bad_end f rest number Rest h (ap (λ (g : Format V). end_fault g rest) due ∙ late rest some)
    where
      late : (bs : Line) → eqb (length bs) 0 ≡ false → end_fault (told v) bs ≡ Some Rest
      late [] e = absurd (false≢true (sym e))
      late (b ∷ bs) e = refl

  -- where a value is told and no bytes are left, the text tells the value
  pub read_to_end : (f : Format V) (v : V) (rest : Line) (number : ℕ) → IsReadUpTo start text f (rest ∷ []) number → f ≡ told v → rest ≡ [] → IsToldBy start text v
  read_to_end f v rest number h due empty = record {
    lines = h.before;
    reads = subst (λ (g : Format V). Reads start h.before g) due h.reads;
    text_is = text_from_parts text h.before (h.read.cut ∙ (λ i. h.before ++ empty i ∷ []));
  }
