-- Laws of the first fault of a text.
use Rattle.std.proofs.Common.{◌≡◌, ◌≢◌, ℕ, zero, suc, ◌+◌, ◌≤◌, List, [], ◌∷◌, ◌++◌, length, take, drop, Some, None, Result, Ok, Err, refl, sym, ap, subst, ◌∙◌, append_assoc, arith, inl, inr, ◌⊎◌}
use Rattle.std.specs.Prelude.{OnOk, IfErr, IsErrAnd}
use Rattle.std.proofs.lemmas.Bool.{cases_lt, cases_order}
use Rattle.std.proofs.lemmas.List.{take_at, drop_at, drop_all, length_push}
use Rattle.std.proofs.lemmas.Option.{none-some, same_Some}
use Rattle.sc_line.specs.declared.fault.Kind.{Kind}
use Rattle.sc_line.specs.declared.fault.TextFault.{TextFault}
use Rattle.sc_line.specs.declared.fault.TextFault.TheVariants as text_faults
use Rattle.sc_line.specs.Lines.{Line, parts}
use Rattle.sc_line.specs.Faults.{Plan, part_fault, line_fault, fault_at, IsFirstFault, IsFaultless, IsFaultOf}
use Rattle.sc_line.specs.declared.fault.LineFault.{LineFault}
use Rattle.sc_line.specs.declared.fault.LineFault.TheVariants.{Malformed, Memory}
use Rattle.sc_line.specs.LineFaults.{IsFault, at_line}

-- the fault at the part after those that stand before it
pub fault_at_part : (plan : Plan) (text : List ℕ) (before rest : List Line) → parts text ≡ before ++ rest → fault_at plan text (suc (length before)) ≡ part_fault plan before rest
fault_at_part plan text before rest e =
    let front : take (length before) (parts text) ≡ before = ap (take (length before)) e ∙ take_at before rest (length before) refl in
    let back : drop (length before) (parts text) ≡ rest = ap (drop (length before)) e ∙ drop_at before rest (length before) refl in
    ap (λ (b : List Line). part_fault plan b (drop (length before) (parts text))) front ∙ ap (part_fault plan before) back

-- a part that others follow is a line
pub ended_part : (plan : Plan) (before : List Line) (line : Line) (rest : List Line) → rest ≢ [] → part_fault plan before (line ∷ rest) ≡ line_fault plan before line
ended_part plan before line [] h = absurd (h refl)
ended_part plan before line (next ∷ more) h = refl

-- past the last part there is no fault
pub fault_past : (plan : Plan) (text : List ℕ) (i : ℕ) → length (parts text) ≤ i → fault_at plan text (suc i) ≡ None
fault_past plan text i h = ap (part_fault plan (take i (parts text))) (drop_all i (parts text) h)

-- no fault up to a line and none at the next: none up to the next
pub good_more : (plan : Plan) (text : List ℕ) (n : ℕ) → ((i : ℕ) → i ≤ n → fault_at plan text i ≡ None) → fault_at plan text (suc n) ≡ None → (m : ℕ) → m ≡ n + 1 → (i : ℕ) → i ≤ m → fault_at plan text i ≡ None
good_more plan text n below here m e i le =
    elim (cases_lt n i) [
      | inl above ↦ let same : suc n ≡ i = omega arith in subst (λ (k : ℕ). fault_at plan text k ≡ None) same here
      | inr within ↦ below i within
    ]

-- a text without a fault up to its last part has none at all
pub faultless_from : (plan : Plan) (text : List ℕ) (n : ℕ) → ((i : ℕ) → i ≤ n → fault_at plan text i ≡ None) → fault_at plan text (suc n) ≡ None → length (parts text) ≤ n + 1 → IsFaultless plan text
faultless_from plan text n below here len zero = refl
faultless_from plan text n below here len (suc i) =
    elim (cases_lt (suc i) (n + 2)) [
      | inl within ↦ good_more plan text n below here (n + 1) refl (suc i) (omega arith)
      | inr past ↦ fault_past plan text i (omega arith)
    ]

-- no text has two first faults
pub first_fault-unique : (plan : Plan) (text : List ℕ) (l m : ℕ) (j k : Kind) → IsFirstFault plan text l j → IsFirstFault plan text m k → (l ≡ m) × (j ≡ k)
first_fault-unique plan text l m j k p q =
    elim (cases_order l m) [
      | inl same ↦ (same, same_Some j k (sym p.here ∙ ap (fault_at plan text) same ∙ q.here))
      | inr apart ↦ absurd (elim apart [
        | inl less ↦ none-some j (sym (q.least l less) ∙ p.here)
        | inr more ↦ none-some k (sym (p.least m more) ∙ q.here)
      ])
    ]

-- a text without a fault has no first fault
pub faultless_first : (plan : Plan) (text : List ℕ) (l : ℕ) (k : Kind) → IsFaultless plan text → IsFirstFault plan text l k → ⊥
faultless_first plan text l k good p = none-some k (sym (good l) ∙ p.here)

-- ---- a reader that has read the lines before a part

-- the parts of the text are these lines and the rest, and none of the lines has a fault
pub record HasRead (plan : Plan) (text : List ℕ) (before rest : List Line) : Type 0 where
  pub cut : parts text ≡ before ++ rest
  pub good : (i : ℕ) → i ≤ length before → fault_at plan text i ≡ None

-- the fault at the next line, which other parts follow, is that of the line
pub fault_of_line : (plan : Plan) (text : List ℕ) (before : List Line) (line : Line) (after : List Line) → HasRead plan text before (line ∷ after) → after ≢ [] → fault_at plan text (suc (length before)) ≡ line_fault plan before line
fault_of_line plan text before line after h some = fault_at_part plan text before (line ∷ after) h.cut ∙ ended_part plan before line after some

-- a fault at the part that comes next is the first fault of the text
pub first_fault_here : (plan : Plan) (text : List ℕ) (before rest : List Line) (n : ℕ) (k : Kind) → HasRead plan text before rest → n ≡ length before + 1 → part_fault plan before rest ≡ Some k → IsFirstFault plan text n k
first_fault_here plan text before rest n k h at e =
    let next : suc (length before) ≡ n = omega arith in
    record {
      here = subst (λ (i : ℕ). fault_at plan text i ≡ Some k) next (fault_at_part plan text before rest h.cut ∙ e);
      least = λ i lt. h.good i (omega arith);
    }

-- what keeps the next line from being read, its fault or want of memory, keeps the text from being read
pub fault_at_line : (plan : Plan) (text : List ℕ) (before : List Line) (line : Line) (after : List Line) (n : ℕ) (e : LineFault)
    → HasRead plan text before (line ∷ after) → after ≢ [] → n ≡ length before + 1 → IsFault (line_fault plan before line) e → IsFaultOf plan text (at_line n e)
fault_at_line plan text before line after n (Malformed k) h some at e = first_fault_here plan text before (line ∷ after) n k h at (ended_part plan before line after some ∙ e)
fault_at_line plan text before line after n Memory h some at e = tt

-- at the start no line is read
pub read_nothing : (plan : Plan) (text : List ℕ) → HasRead plan text [] (parts text)
read_nothing plan text = record { cut = refl; good = λ i le. let none : 0 ≡ i = omega arith in subst (λ (k : ℕ). fault_at plan text k ≡ None) none refl }

-- a next line without a fault is read too
pub read_more : (plan : Plan) (text : List ℕ) (before now : List Line) (line : Line) (after : List Line)
    → HasRead plan text before (line ∷ after) → after ≢ [] → now ≡ before ++ line ∷ [] → line_fault plan before line ≡ None → HasRead plan text now after
read_more plan text before now line after h some new good =
    let one : length now ≡ length before + 1 = ap length new ∙ length_push before line in
    let here = fault_of_line plan text before line after h some ∙ good in
    record {
      cut = h.cut ∙ sym (append_assoc before (line ∷ []) after) ∙ ap (λ (ls : List Line). ls ++ after) (sym new);
      good = good_more plan text (length before) h.good here (length now) one;
    }

-- where the last part has no fault either, the text has none
pub read_all : (plan : Plan) (text : List ℕ) (before : List Line) (rest : Line) → HasRead plan text before (rest ∷ []) → part_fault plan before (rest ∷ []) ≡ None → IsFaultless plan text
read_all plan text before rest h good =
    let here = fault_at_part plan text before (rest ∷ []) h.cut ∙ good in
    let len : length (parts text) ≤ length before + 1 = omega (arith, ap length h.cut, length_push before rest) in
    faultless_from plan text (length before) h.good here len

-- ---- an answer of a reader

-- a reader of a text with a first fault answers it, or that memory ran out
pub answered : {X : Type 0} (plan : Plan) (text : List ℕ) (l : ℕ) (k : Kind) (r : Result X TextFault) → OnOk r (IsFaultless plan text) → IfErr r (IsFaultOf plan text) → IsFirstFault plan text l k
    → IsErrAnd r (λ e. (e ≡ text_faults.Malformed l k) ⊎ (e ≡ text_faults.Memory))
answered plan text l k (Ok x) good bad h = faultless_first plan text l k good h
answered plan text l k (Err (text_faults.Malformed m j)) good bad h =
    let same = first_fault-unique plan text m l j k bad h in
    inl (λ i. text_faults.Malformed (same.0 i) (same.1 i))
answered plan text l k (Err text_faults.Memory) good bad h = inr refl
