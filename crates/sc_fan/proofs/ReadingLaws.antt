-- Laws of texts that are read from their front.
use Rattle.std.proofs.Common.{◌≡◌, ◌≢◌, ℕ, suc, ◌+◌, ◌-◌, ◌<◌, Bool, true, false, eqb, List, [], ◌∷◌, ◌++◌, length, Option, Some, None, Ok, Err, refl, sym, ap, subst, ◌∙◌, arith, inl, inr, ◌⊎◌}
use Rattle.std.proofs.lemmas.Bool.{ne_eqb, false≢true}
use Rattle.std.proofs.lemmas.List.{length_push}
use Rattle.sc_line.specs.declared.fault.Kind.{Kind}
use Rattle.sc_line.specs.declared.fault.Kind.TheVariants.{Ended, Rest}
use Rattle.sc_line.specs.declared.fault.TextFault.{TextFault}
use Rattle.sc_line.specs.declared.fault.TextFault.TheVariants as text_faults
use Rattle.sc_line.specs.declared.fault.LineFault.{LineFault}
use Rattle.sc_line.specs.declared.fault.LineFault.TheVariants as line_faults
use Rattle.sc_line.specs.LineFaults.{IsFault, at_line}
use Rattle.sc_line.specs.Lines.{Line, parts}
use Rattle.sc_line.specs.Faults.{literal_fault, IsFirstFault, IsFaultOf}
use Rattle.sc_line.specs.Formats.{Format, told, a_line, plan_of, Reads}
use Rattle.sc_line.specs.Forms.{LineKind, Tells, literal_due, one_due, more_due, many_due, and_then, IsLawful, IsToldBy}
use Rattle.sc_line.proofs.LineLaws.{split_some, text_from_parts}
use Rattle.sc_line.proofs.NumberLaws.{good_literal}
use Rattle.sc_line.proofs.TextLaws.{IsReadUpTo, start_reading, read_line, bad_line, line_too_many, ends_early, ends_late, read_to_end}
use Rattle.sc_fan.specs.Reading.{LinesLeft, left_of, IsNext, IsAtEnd, Answer, unless, taken_from, taken, Fails}

-- ---- answers

abbrev ok_answer : {A : Type 0} → A → Answer A
ok_answer x = Ok x

abbrev fault_answer : {A : Type 0} → ℕ × Kind → Answer A
fault_answer e = Err e

abbrev answered : {A : Type 0} → A → Answer A → A
answered d (Ok x) = x
answered d (Err e) = d

abbrev is_answer : {A : Type 0} → Answer A → Bool
is_answer (Ok x) = true
is_answer (Err e) = false

abbrev fault_or : {A : Type 0} → ℕ × Kind → Answer A → ℕ × Kind
fault_or d (Ok x) = d
fault_or d (Err e) = e

pub same_answer : {A : Type 0} (x y : A) → ok_answer x ≡ ok_answer y → x ≡ y
same_answer x y e = ap (answered x) e

same_fault : {A : Type 0} (x y : ℕ × Kind) → fault_answer {A = A} x ≡ fault_answer {A = A} y → x ≡ y
same_fault x y e = ap (fault_or x) e

no_answer : {A : Type 0} (x : A) (e : ℕ × Kind) → ok_answer x ≡ fault_answer e → ⊥
no_answer x e h = false≢true (sym (ap is_answer h))

-- a fault, or none and the answer behind it
record IsBehind {A : Type 0} (o : Option Kind) (answer : Answer A) (x : A) : Type 0 where
  none : o ≡ None
  is : answer ≡ Ok x

behind : {A : Type 0} (o : Option Kind) (n : ℕ) (answer : Answer A) (x : A) → unless o n answer ≡ Ok x → IsBehind o answer x
behind None n answer x e = record { none = refl; is = e }
behind (Some kind) n answer x e = absurd (no_answer x (n, kind) (sym e))

cases_fault : (o : Option Kind) → (o ≡ None) ⊎ ((k : Kind) × (o ≡ Some k))
cases_fault None = inl refl
cases_fault (Some k) = inr (k, refl)

cons_some : (line : Line) (lines : List Line) → line ∷ lines ≢ []
cons_some line lines none = let size : suc (length lines) ≡ 0 = ap length none in absurd (omega (arith, size))

-- ---- one format after another

abbrev after_answer : {A B : Type 0} → Answer A → (A → Answer B) → Answer B
after_answer (Ok x) rest = rest x
after_answer (Err e) rest = Err e

unless_after : {A B : Type 0} (o : Option Kind) (n : ℕ) (answer : Answer A) (rest : A → Answer B) → unless o n (after_answer answer rest) ≡ after_answer (unless o n answer) rest
unless_after None n answer rest = refl
unless_after (Some kind) n answer rest = refl

taken_then : {A V : Type 0} (f : Format A) (rest : A → Format V) (n : ℕ) (parts : List Line) → taken_from (and_then f rest) n parts ≡ after_answer (taken_from f n parts) (λ x. taken (rest x.0) x.1)
unfolding taken
taken_then (told x) rest n parts = refl
taken_then (a_line fault more) rest n [] = refl
taken_then (a_line fault more) rest n (last ∷ []) = refl
taken_then (a_line fault more) rest n (line ∷ next ∷ others) =
    ap (unless (fault line) n) (taken_then (more line) rest (suc n) (next ∷ others))
    ∙ unless_after (fault line) n (taken_from (more line) (suc n) (next ∷ others)) (λ x. taken (rest x.0) x.1)

module _ {A V : Type 0} (f : Format A) (rest : A → Format V) (s : LinesLeft) where
  -- where the first format takes a value, the second one goes on behind it; where it fails, both fail
  pub onward : (t : LinesLeft) (x : A) → taken f s ≡ Ok (x, t) → taken (and_then f rest) s ≡ taken (rest x) t
  unfolding taken
  onward t x e = taken_then f rest s.number s.parts ∙ ap (λ (r : Answer (A × LinesLeft)). after_answer r (λ y. taken (rest y.0) y.1)) e

  pub fails_then : (e : TextFault) → Fails e (taken f s) → Fails e (taken (and_then f rest) s)
  unfolding taken
  fails_then (text_faults.Malformed line kind) h = taken_then f rest s.number s.parts ∙ ap (λ (r : Answer (A × LinesLeft)). after_answer r (λ y. taken (rest y.0) y.1)) h
  fails_then text_faults.Memory h = tt

module _ {A V : Type 0} (whole : Answer (V × LinesLeft)) (f : Format A) (rest : A → Format V) (s : LinesLeft) (is : whole ≡ taken (and_then f rest) s) where
  -- the same of an answer that is known to be theirs
  pub goes_on : (t : LinesLeft) (x : A) → taken f s ≡ Ok (x, t) → whole ≡ taken (rest x) t
  goes_on t x e = is ∙ onward f rest s t x e

  pub fails_on : (e : TextFault) → Fails e (taken f s) → Fails e whole
  fails_on e h = subst (Fails e) (sym is) (fails_then f rest s e h)

-- a value that is told already takes no line
pub told_taken : {V : Type 0} (v : V) (s : LinesLeft) → taken (told v) s ≡ Ok (v, s)
unfolding taken
told_taken v s = refl

-- ---- a line

took : {V : Type 0} (fault : Line → Option Kind) (rest : Line → Format V) (n : ℕ) (line : Line) (more : List Line) → more ≢ [] → taken_from (a_line fault rest) n (line ∷ more) ≡ unless (fault line) n (taken_from (rest line) (suc n) more)
took fault rest n line [] some = absurd (some refl)
took fault rest n line (next ∷ more) some = refl

module _ {V : Type 0} (fault : Line → Option Kind) (rest : Line → Format V) (s t : LinesLeft) (n : ℕ) (line : Line) (h : IsNext s t n line) where
  took_next : taken (a_line fault rest) s ≡ unless (fault line) s.number (taken (rest line) t)
  unfolding taken
  took_next =
      ap (taken_from (a_line fault rest) s.number) h.parts
      ∙ took fault rest s.number line t.parts h.more
      ∙ ap (λ (k : ℕ). unless (fault line) s.number (taken_from (rest line) k t.parts)) (sym h.next)

  -- a line without a fault is taken and the rest goes on; one with a fault fails
  pub line_taken : fault line ≡ None → taken (a_line fault rest) s ≡ taken (rest line) t
  line_taken good = took_next ∙ ap (λ (o : Option Kind). unless o s.number (taken (rest line) t)) good

  pub line_fails : (e : LineFault) → IsFault (fault line) e → Fails (at_line n e) (taken (a_line fault rest) s)
  line_fails (line_faults.Malformed kind) bad = took_next ∙ ap (λ (o : Option Kind). unless o s.number (taken (rest line) t)) bad ∙ ap (λ (k : ℕ). Err (k, kind)) (sym h.number)
  line_fails line_faults.Memory bad = tt

-- where no line feed is left, a line that is due fails
pub line_ends : {V : Type 0} (fault : Line → Option Kind) (rest : Line → Format V) (s : LinesLeft) (e : TextFault) → IsAtEnd s e → Fails e (taken (a_line fault rest) s)
unfolding taken
line_ends fault rest s e h = subst (λ (x : TextFault). Fails x (taken (a_line fault rest) s)) (sym h.fault) (ap (taken_from (a_line fault rest) s.number) h.parts)

-- a line that tells a value
module _ {A : Type 0} (kind : LineKind A) (s : LinesLeft) where
  pub one_taken : (t : LinesLeft) (n : ℕ) (line : Line) (x : A) → IsNext s t n line → Tells kind line x → taken (one_due kind None) s ≡ Ok (x, t)
  one_taken t n line x h tells = line_taken kind.fault (λ l. told (kind.value l)) s t n line h tells.good ∙ told_taken (kind.value line) t ∙ ap (λ (y : A). Ok (y, t)) tells.value_is

  pub one_fails : (t : LinesLeft) (n : ℕ) (line : Line) (e : LineFault) → IsNext s t n line → IsFault (kind.fault line) e → Fails (at_line n e) (taken (one_due kind None) s)
  one_fails t n line e h bad = line_fails kind.fault (λ l. told (kind.value l)) s t n line h e bad

  pub one_ends : (e : TextFault) → IsAtEnd s e → Fails e (taken (one_due kind None) s)
  one_ends e h = line_ends kind.fault (λ l. told (kind.value l)) s e h

-- a line that is due word by word
module _ (text : Line) (s : LinesLeft) where
  pub literal_taken : (t : LinesLeft) (n : ℕ) (line : Line) → IsNext s t n line → line ≡ text → taken (literal_due text false) s ≡ Ok (tt, t)
  literal_taken t n line h e = line_taken (literal_fault text) (λ l. told tt) s t n line h (ap (literal_fault text) e ∙ good_literal text) ∙ told_taken tt t

  pub literal_fails : (t : LinesLeft) (n : ℕ) (line : Line) (e : LineFault) → IsNext s t n line → IsFault (literal_fault text line) e → Fails (at_line n e) (taken (literal_due text false) s)
  literal_fails t n line e h bad = line_fails (literal_fault text) (λ l. told tt) s t n line h e bad

  pub literal_ends : (e : TextFault) → IsAtEnd s e → Fails e (taken (literal_due text false) s)
  literal_ends e h = line_ends (literal_fault text) (λ l. told tt) s e h

-- ---- the next line of a text

module _ (s : LinesLeft) (n : ℕ) (rest : List ℕ) (is : left_of n (parts rest) ≡ s) where
  -- where a line feed is left, what stands before it is the next line
  pub next_is : (line after : List ℕ) → parts rest ≡ line ∷ parts after → IsNext s (left_of (n + 1) (parts after)) n line
  next_is line after found =
      let one : n + 1 ≡ suc n = omega arith in
      record {
        number = ap (λ (l : LinesLeft). l.number) is;
        parts = ap (λ (l : LinesLeft). l.parts) (sym is) ∙ found;
        more = split_some _ after;
        next = one ∙ ap (λ (l : LinesLeft). suc l.number) is;
      }

  -- where none is left, there is no next line
  pub no_next : parts rest ≡ rest ∷ [] → IsAtEnd s (text_faults.Malformed n Ended)
  no_next none = record { last = rest; parts = ap (λ (l : LinesLeft). l.parts) (sym is) ∙ none; fault = ap (λ (l : LinesLeft). text_faults.Malformed l.number Ended) is }

  -- where bytes are left, more than the empty last part is left
  pub bytes_left : eqb (length rest) 0 ≡ false → (text_faults.Malformed n Rest ≡ text_faults.Malformed s.number Rest) × (s.parts ≢ ([] ∷ []))
  bytes_left some = (
    ap (λ (l : LinesLeft). text_faults.Malformed l.number Rest) is,
    (λ end.
        let none : rest ≡ [] = text_from_parts rest [] (ap (λ (l : LinesLeft). l.parts) is ∙ end) in
        false≢true (sym (subst (λ (xs : List ℕ). eqb (length xs) 0 ≡ false) none some))),
  )

-- ---- so many lines

module _ {A : Type 0} (kind : List A → LineKind A) (n : ℕ) (xs : List A) where
  left_more : (x : A) → n - suc (length xs) ≡ n - length (xs ++ x ∷ [])
  left_more x =
      let one : suc (length xs) ≡ length (xs ++ x ∷ []) = omega (arith, length_push xs x) in
      ap (λ (k : ℕ). n - k) one

  -- where fewer than n values stand, one more line is due, and behind it the others
  pub many_more : length xs < n → many_due kind n xs ≡ and_then (one_due (kind xs) None) (λ x. many_due kind n (xs ++ x ∷ []))
  many_more less =
      let one : n - length xs ≡ suc (n - suc (length xs)) = omega arith in
      ap (λ (k : ℕ). more_due kind k xs) one
      ∙ (λ i. a_line (kind xs).fault (λ line. more_due kind (left_more ((kind xs).value line) i) (xs ++ (kind xs).value line ∷ [])))

-- ---- what was taken is in its range

record IsTaken {V : Type 0} (f : Format V) (v : V) : Type 0 where
  lines : List Line
  reads : Reads f lines (told v)

reads_from : {V : Type 0} (f : Format V) (n : ℕ) (parts : List Line) (v : V) (t : LinesLeft) → taken_from f n parts ≡ Ok (v, t) → IsTaken f v
reads_from (told w) n parts v t e = record { lines = []; reads = ap (λ (x : _ × LinesLeft). told x.0) (same_answer (w, left_of n parts) (v, t) e) }
reads_from (a_line fault rest) n [] v t e = absurd (no_answer (v, t) (n, Ended) (sym e))
reads_from (a_line fault rest) n (last ∷ []) v t e = absurd (no_answer (v, t) (n, Ended) (sym e))
reads_from (a_line fault rest) n (line ∷ next ∷ more) v t e =
    let b = behind (fault line) n (taken_from (rest line) (suc n) (next ∷ more)) (v, t) e in
    let r = reads_from (rest line) (suc n) (next ∷ more) v t b.is in
    record { lines = line ∷ r.lines; reads = (b.none, r.reads) }

-- what a lawful format takes is in its range
pub in_range_of : {V : Type 0} (lines : V → List Line) (f : Format V) (InRange : V → Type 0) (most : ℕ) → IsLawful lines f InRange most → (s t : LinesLeft) (v : V) → taken f s ≡ Ok (v, t) → InRange v
unfolding taken
in_range_of lines f InRange most law s t v e = let r = reads_from f s.number s.parts v t e in law.in_range r.lines v r.reads

-- ---- whole texts

module _ {V : Type 0} (start : Format V) (text : List ℕ) where
  record IsReadTo (v : V) (t : LinesLeft) : Type 0 where
    read : IsReadUpTo start text (told v) t.parts t.number
    some : t.parts ≢ []

  reads_to : (f : Format V) (n : ℕ) (ps : List Line) (v : V) (t : LinesLeft) → IsReadUpTo start text f ps n → ps ≢ [] → taken_from f n ps ≡ Ok (v, t) → IsReadTo v t
  reads_to (told w) n ps v t h some e = subst (λ (x : V × LinesLeft). IsReadTo x.0 x.1) (same_answer (w, left_of n ps) (v, t) e) (record { read = h; some = some })
  reads_to (a_line fault rest) n [] v t h some e = absurd (some refl)
  reads_to (a_line fault rest) n (last ∷ []) v t h some e = absurd (no_answer (v, t) (n, Ended) (sym e))
  reads_to (a_line fault rest) n (line ∷ next ∷ more) v t h some e =
      let b = behind (fault line) n (taken_from (rest line) (suc n) (next ∷ more)) (v, t) e in
      let one : n + 1 ≡ suc n = omega arith in
      let read = read_line start text (a_line fault rest) (rest line) line (next ∷ more) n h (cons_some next more) (record { good = b.none; next = refl }) in
      reads_to (rest line) (suc n) (next ∷ more) v t (subst (IsReadUpTo start text (rest line) (next ∷ more)) one read) (cons_some next more) b.is

  stops_at : (f : Format V) (n : ℕ) (ps : List Line) (l : ℕ) (k : Kind) → IsReadUpTo start text f ps n → ps ≢ [] → taken_from f n ps ≡ Err (l, k) → IsFirstFault (plan_of start) text l k
  stops_at (told w) n ps l k h some e = absurd (no_answer (w, left_of n ps) (l, k) e)
  stops_at (a_line fault rest) n [] l k h some e = absurd (some refl)
  stops_at (a_line fault rest) n (last ∷ []) l k h some e =
      subst (λ (x : ℕ × Kind). IsFirstFault (plan_of start) text x.0 x.1) (same_fault {A = V × LinesLeft} (n, Ended) (l, k) e) (ends_early start text (a_line fault rest) last n h refl)
  stops_at (a_line fault rest) n (line ∷ next ∷ more) l k h some e =
      elim (cases_fault (fault line)) [
        | inl good ↦
            let onward : taken_from (rest line) (suc n) (next ∷ more) ≡ Err (l, k) = sym (ap (λ (o : Option Kind). unless o n (taken_from (rest line) (suc n) (next ∷ more))) good) ∙ e in
            let one : n + 1 ≡ suc n = omega arith in
            let read = read_line start text (a_line fault rest) (rest line) line (next ∷ more) n h (cons_some next more) (record { good = good; next = refl }) in
            stops_at (rest line) (suc n) (next ∷ more) l k (subst (IsReadUpTo start text (rest line) (next ∷ more)) one read) (cons_some next more) onward
        | inr bad ↦
            let here : fault_answer {A = V × LinesLeft} (n, bad.0) ≡ fault_answer (l, k) = sym (ap (λ (o : Option Kind). unless o n (taken_from (rest line) (suc n) (next ∷ more))) bad.1) ∙ e in
            subst (λ (x : ℕ × Kind). IsFirstFault (plan_of start) text x.0 x.1) (same_fault {A = V × LinesLeft} (n, bad.0) (l, k) here)
            (bad_line start text (a_line fault rest) line (next ∷ more) n (line_faults.Malformed bad.0) h (cons_some next more) bad.1)
      ]

  late : (v : V) (n : ℕ) (ps : List Line) → IsReadUpTo start text (told v) ps n → ps ≢ [] → ps ≢ ([] ∷ []) → IsFirstFault (plan_of start) text n Rest
  late v n [] h some other = absurd (some refl)
  late v n ([] ∷ []) h some other = absurd (other refl)
  late v n ((b ∷ bs) ∷ []) h some other = ends_late start text (told v) v (b ∷ bs) n h refl (ne_eqb _ _ (λ none. omega arith))
  late v n (line ∷ next ∷ more) h some other = line_too_many start text (told v) line (next ∷ more) n h (cons_some next more) refl

  abbrev pub all_left : LinesLeft
  all_left = left_of 1 (parts text)

  -- a text of which nothing is left tells the value that was taken
  pub whole_text : (v : V) (t : LinesLeft) → taken start all_left ≡ Ok (v, t) → t.parts ≡ [] ∷ [] → IsToldBy start text v
  unfolding taken
  whole_text v t e end =
      let r = reads_to start 1 (parts text) v t (start_reading start text) (split_some _ text) e in
      read_to_end start text (told v) v [] t.number (subst (λ (ps : List Line). IsReadUpTo start text (told v) ps t.number) end r.read) refl refl

  -- a text of which something is left has the fault `Rest` there
  pub text_goes_on : (v : V) (t : LinesLeft) → taken start all_left ≡ Ok (v, t) → t.parts ≢ ([] ∷ []) → IsFaultOf (plan_of start) text (text_faults.Malformed t.number Rest)
  unfolding taken
  text_goes_on v t e more =
      let r = reads_to start 1 (parts text) v t (start_reading start text) (split_some _ text) e in
      late v t.number t.parts r.read r.some more

  -- where what is due fails, the text has that fault
  pub text_stops : (e : TextFault) → Fails e (taken start all_left) → IsFaultOf (plan_of start) text e
  unfolding taken
  text_stops (text_faults.Malformed l k) h = stops_at start 1 (parts text) l k (start_reading start text) (split_some _ text) h
  text_stops text_faults.Memory h = tt
