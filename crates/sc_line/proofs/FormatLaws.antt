-- Laws of formats: which lines are read in a format, and when a text has no fault.
use Rattle.std.proofs.Common.{◌≡◌, ◌≢◌, ℕ, zero, suc, ◌≤◌, cond, eqb, List, [], ◌∷◌, ◌++◌, length, Option, Some, None, is_some, refl, sym, ap, subst, ◌∙◌, append_assoc, arith, inl, inr}
use Rattle.std.proofs.lemmas.Bool.{cases_Bool, eqb-true, false≢true}
use Rattle.std.proofs.lemmas.List.{nil_from_length, length_push}
use Rattle.std.proofs.lemmas.Option.{none-some}
use Rattle.sc_line.specs.declared.fault.Kind.{Kind}
use Rattle.sc_line.specs.declared.fault.Kind.TheVariants.{Ended, Rest}
use Rattle.sc_line.specs.Lines.{Line, parts}
use Rattle.sc_line.specs.Faults.{line_fault, part_fault, IsFaultless}
use Rattle.sc_line.specs.Formats.{Format, told, a_line, due_line, after_line, after_lines, plan_of, fault_due, Steps, Reads, IsShort}
use Rattle.sc_line.proofs.LineLaws.{split_some}
use Rattle.sc_line.proofs.FaultLaws.{HasRead, read_nothing, read_more, read_all, fault_at_part}

abbrev pub end_fault : {V : Type 0} → Format V → Line → Option Kind
end_fault (told v) [] = None
end_fault (told v) (b ∷ bs) = Some Rest
end_fault (a_line fault rest) bs = Some Ended

-- ---- lines that are read in a format

-- lines that lead from f to g, with others behind them that lead from g to h, lead from f to h
pub reads_append : {V : Type 0} (f g h : Format V) (xs ys : List Line) → Reads f xs g → Reads g ys h → Reads f (xs ++ ys) h
reads_append f g h [] ys r s = subst (λ (d : Format _). Reads d ys h) (sym r) s
reads_append (told v) g h (x ∷ xs) ys r s = absurd r
reads_append (a_line fault rest) g h (x ∷ xs) ys r s = (r.0, reads_append (rest x) g h xs ys r.1 s)

-- what is due after lines is determined by them
pub reads_once : {V : Type 0} (f g h : Format V) (lines : List Line) → Reads f lines g → Reads f lines h → g ≡ h
reads_once f g h [] r s = sym r ∙ s
reads_once (told v) g h (x ∷ xs) r s = absurd r
reads_once (a_line fault rest) g h (x ∷ xs) r s = reads_once (rest x) g h xs r.1 s.1

-- what the lines that are read lead to is what is due after them
pub reads_after : {V : Type 0} (f g : Format V) (lines : List Line) → Reads f lines g → after_lines f lines ≡ g
reads_after f g [] r = r
reads_after (told v) g (x ∷ xs) r = absurd r
reads_after (a_line fault rest) g (x ∷ xs) r = reads_after (rest x) g xs r.1

-- what is told is one value
pub told_is : {V : Type 0} (v w : V) → told v ≡ told w → v ≡ w
told_is v w e = ap (value_or v) e
  where
    value_or : {V : Type 0} → V → Format V → V
    value_or v (told w) = w
    value_or v (a_line fault rest) = v

-- no line is due where a value is told
pub line_told : {V : Type 0} (fault : Line → Option Kind) (rest : Line → Format V) (v : V) → a_line fault rest ≡ told v → ⊥
line_told fault rest v e = false≢true (sym (ap (λ (f : Format _). is_some (due_line f)) e))

-- lines behind a value that is told
pub nothing_more : {V : Type 0} (v w : V) (lines : List Line) → Reads (told v) lines (told w) → (lines ≡ []) × (v ≡ w)
nothing_more v w [] r = (refl, told_is v w r)
nothing_more v w (x ∷ xs) r = absurd r

-- one line that steps
pub one_step : {V : Type 0} (f g : Format V) (line : Line) → Steps f g line → Reads f (line ∷ []) g
one_step (told v) g line s = absurd (none-some _ (sym s.good))
one_step (a_line fault rest) g line s = (s.good, sym s.next)

-- ---- how many lines are read

-- what reads at most m lines reads at most n, where m is at most n
pub short_more : {V : Type 0} (m n : ℕ) (f : Format V) → m ≤ n → IsShort m f → IsShort n f
short_more m n (told v) le h = tt
short_more zero n (a_line fault rest) le h = absurd h
short_more (suc m) zero (a_line fault rest) le h = absurd (omega arith)
short_more (suc m) (suc n) (a_line fault rest) le h = λ line good. short_more m n (rest line) (omega arith) (h line good)

-- no more lines are read than the bound says
pub short_read : {V : Type 0} (n : ℕ) (f g : Format V) (lines : List Line) → IsShort n f → Reads f lines g → length lines ≤ n
short_read n f g [] h r = omega arith
short_read n (told v) g (x ∷ xs) h r = absurd r
short_read zero (a_line fault rest) g (x ∷ xs) h r = absurd h
short_read (suc n) (a_line fault rest) g (x ∷ xs) h r =
    let more : length xs ≤ n = short_read n (rest x) g xs (h x r.0) r.1 in
    omega arith

-- ---- texts without a fault

after_lines-append : {V : Type 0} (f : Format V) (xs ys : List Line) → after_lines f (xs ++ ys) ≡ after_lines (after_lines f xs) ys
after_lines-append f [] ys = refl
after_lines-append f (x ∷ xs) ys = after_lines-append (after_line f x) xs ys

-- by the plan of a format, the fault of a line is that of what is due after the lines before it
pub line_fault_of : {V : Type 0} (f g : Format V) (before : List Line) (line : Line) → after_lines f before ≡ g → line_fault (plan_of f) before line ≡ fault_due g line
unfolding plan_of
line_fault_of f (told v) before line e = rw e refl
line_fault_of f (a_line fault rest) before line e = rw e refl

-- where all is told, bytes behind the last line are the fault Rest, and without them there is none
pub end_when_told : {V : Type 0} (f : Format V) (v : V) (before : List Line) (rest : Line) → after_lines f before ≡ told v → part_fault (plan_of f) before (rest ∷ []) ≡ cond (eqb (length rest) 0) None (Some Rest)
unfolding plan_of
end_when_told f v before rest e = rw e refl

-- where a line is due yet, the end of the text is the fault Ended
pub end_when_due : {V : Type 0} (f : Format V) (fault : Line → Option Kind) (more : Line → Format V) (before : List Line) (rest : Line) → after_lines f before ≡ a_line fault more → part_fault (plan_of f) before (rest ∷ []) ≡ Some Ended
unfolding plan_of
end_when_due f fault more before rest e = rw e refl

-- what is due after one line more
pub after_push : {V : Type 0} (f g : Format V) (before : List Line) (line : Line) → after_lines f before ≡ g → after_lines f (before ++ line ∷ []) ≡ after_line g line
after_push f g before line e = after_lines-append f before (line ∷ []) ∙ ap (λ (d : Format _). after_line d line) e

faultless_from : {V : Type 0} (text : List ℕ) (start f : Format V) (before lines : List Line) (v : V) → after_lines start before ≡ f → HasRead (plan_of start) text before (lines ++ [] ∷ []) → Reads f lines (told v) → IsFaultless (plan_of start) text
faultless_from text start f before [] v e read r =
    read_all (plan_of start) text before [] read (end_when_told start v before [] (e ∙ r))
faultless_from text start (told w) before (line ∷ lines) v e read r = absurd r
faultless_from text start (a_line fault rest) before (line ∷ lines) v e read r =
    let some : lines ++ [] ∷ [] ≢ [] = λ none. absurd (omega (arith, ap length none, length_push lines [])) in
    let good = line_fault_of start (a_line fault rest) before line e ∙ r.0 in
    let next = read_more (plan_of start) text before (before ++ line ∷ []) line (lines ++ [] ∷ []) read some refl good in
    faultless_from text start (rest line) (before ++ line ∷ []) lines v (after_push start (a_line fault rest) before line e) next r.1

-- a text whose lines tell a value has no fault
pub faultless_if_read : {V : Type 0} (f : Format V) (text : List ℕ) (lines : List Line) (v : V) → parts text ≡ lines ++ [] ∷ [] → Reads f lines (told v) → IsFaultless (plan_of f) text
faultless_if_read f text lines v e r =
    faultless_from text f f [] lines v refl (subst (HasRead (plan_of f) text []) e (read_nothing (plan_of f) text)) r

-- a text without a fault is read
pub record IsTold {V : Type 0} (f : Format V) (rest : List Line) : Type 0 where
  pub lines : List Line
  pub value : V
  pub are : rest ≡ lines ++ [] ∷ []
  pub reads : Reads f lines (told value)

no_rest : (rest : Line) → cond (eqb (length rest) 0) None (Some Rest) ≡ None → rest ≡ []
no_rest rest h =
    elim (cases_Bool (eqb (length rest) 0)) [
      | inl empty ↦ nil_from_length rest (eqb-true _ _ empty)
      | inr some ↦ absurd (none-some Rest (sym (let fault : Some Rest ≡ None = rw some at h in fault)))
    ]

told_from : {V : Type 0} (text : List ℕ) (start f : Format V) (before rest : List Line) → rest ≢ [] → after_lines start before ≡ f → parts text ≡ before ++ rest → IsFaultless (plan_of start) text → IsTold f rest
told_from text start f before [] some e cut good = absurd (some refl)
told_from text start (told v) before (last ∷ []) some e cut good =
    let here = sym (fault_at_part (plan_of start) text before (last ∷ []) cut) ∙ good (suc (length before)) in
    let empty = no_rest last (sym (end_when_told start v before last e) ∙ here) in
    record { lines = []; value = v; are = ap (λ (l : Line). l ∷ []) empty; reads = refl }
told_from text start (a_line fault more) before (last ∷ []) some e cut good =
    let here = sym (fault_at_part (plan_of start) text before (last ∷ []) cut) ∙ good (suc (length before)) in
    absurd (none-some Ended (sym here ∙ end_when_due start fault more before last e))
told_from text start (told v) before (line ∷ next ∷ others) some e cut good =
    let here = sym (fault_at_part (plan_of start) text before (line ∷ next ∷ others) cut) ∙ good (suc (length before)) in
    absurd (none-some Rest (sym here ∙ line_fault_of start (told v) before line e))
told_from text start (a_line fault more) before (line ∷ next ∷ others) some e cut good =
    let here = sym (fault_at_part (plan_of start) text before (line ∷ next ∷ others) cut) ∙ good (suc (length before)) in
    let passes = sym (line_fault_of start (a_line fault more) before line e) ∙ here in
    let onward = cut ∙ sym (append_assoc before (line ∷ []) (next ∷ others)) in
    let rest = told_from text start (more line) (before ++ line ∷ []) (next ∷ others) (λ none. absurd cc) (after_push start (a_line fault more) before line e) onward good in
    record { lines = line ∷ rest.lines; value = rest.value; are = ap (λ (ls : List Line). line ∷ ls) rest.are; reads = (passes, rest.reads) }

-- the parts of a text without a fault are lines that tell a value, and nothing behind them
pub read_if_faultless : {V : Type 0} (f : Format V) (text : List ℕ) → IsFaultless (plan_of f) text → IsTold f (parts text)
read_if_faultless f text good = told_from text f f [] (parts text) (split_some _ text) refl refl good
