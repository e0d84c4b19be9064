-- Forms: the text of a value and what is due while it is read, written once.
use Rattle.std.specs.Prelude.{◌≡◌, ℕ, zero, suc, ◌-◌, Bool, true, false, List, [], ◌∷◌, ◌++◌, length, Option, Some, None, Result, IfOk, IfErr}
use Rattle.sc_line.specs.declared.fault.Kind.{Kind}
use Rattle.sc_line.specs.declared.fault.TextFault.{TextFault}
use Rattle.sc_line.specs.Lines.{Line, text_of, count_line, count_of_line, AllLack}
use Rattle.sc_line.specs.Faults.{Plan, between, literal_fault, numbers_line_fault, IsFaultOf}
use Rattle.sc_line.specs.Formats.{Format, told, a_line, Reads, IsShort}

-- a kind of lines: the line of a value, the fault of a line, and the value that a line tells
pub record LineKind (A : Type 0) : Type 0 where
  pub line : A → Line
  pub fault : Line → Option Kind
  pub value : Line → A

-- a line without a fault tells this
pub record Tells {A : Type 0} (kind : LineKind A) (line : Line) (x : A) : Type 0 where
  pub good : kind.fault line ≡ None
  pub value_is : kind.value line ≡ x

-- a form of texts: the lines of a value, and what is due where P was read
pub record Form (P V : Type 0) : Type 0 where
  pub lines : V → List Line
  pub due : P → Format V

-- ---- a line that is due word by word

abbrev pub literal_due : Line → Bool → Format (Unit {0})
literal_due text true = told tt
literal_due text false = a_line (literal_fault text) (λ line. told tt)

abbrev pub literal : Line → Form Bool (Unit {0})
literal text = record { lines = λ u. text ∷ []; due = literal_due text }

-- ---- one line that tells a value

abbrev pub one_due : {A : Type 0} → LineKind A → Option A → Format A
one_due kind None = a_line kind.fault (λ line. told (kind.value line))
one_due kind (Some x) = told x

abbrev pub one : {A : Type 0} → LineKind A → Form (Option A) A
one kind = record { lines = λ x. kind.line x ∷ []; due = one_due kind }

-- the lines of a name and a number in a range
abbrev pub count_kind : List ℕ → ℕ → ℕ → LineKind ℕ
count_kind name low high = record { line = count_line name; fault = numbers_line_fault name (between low high ∷ []); value = count_of_line }

-- ---- so many lines, the kind of each by the values before it

abbrev pub lines_after : {A : Type 0} → (List A → LineKind A) → List A → List A → List Line
lines_after kind before [] = []
lines_after kind before (x ∷ xs) = (kind before).line x ∷ lines_after kind (before ++ x ∷ []) xs

-- k more lines
abbrev pub more_due : {A : Type 0} → (List A → LineKind A) → ℕ → List A → Format (List A)
more_due kind zero before = told before
more_due kind (suc k) before = a_line (kind before).fault (λ line. more_due kind k (before ++ (kind before).value line ∷ []))

-- n lines in all
abbrev pub many_due : {A : Type 0} → (List A → LineKind A) → ℕ → List A → Format (List A)
many_due kind n before = more_due kind (n - length before) before

abbrev pub many : {A : Type 0} → (List A → LineKind A) → ℕ → Form (List A) (List A)
many kind n = record { lines = lines_after kind []; due = many_due kind n }

-- ---- a count, and as many lines

-- how many items come, where that was read, and those that were read
pub record Counted (A : Type 0) : Type 0 where
  pub count : Option ℕ
  pub items : List A

abbrev pub counted_from : {A : Type 0} → List ℕ → ℕ → (List A → LineKind A) → Option ℕ → List A → Format (List A)
counted_from name most kind None items = a_line (numbers_line_fault name (between 0 most ∷ [])) (λ line. many_due kind (count_of_line line) items)
counted_from name most kind (Some n) items = many_due kind n items

abbrev pub counted : {A : Type 0} → List ℕ → ℕ → (List A → LineKind A) → Form (Counted A) (List A)
counted name most kind = record {
  lines = λ xs. count_line name (length xs) ∷ lines_after kind [] xs;
  due = λ p. counted_from name most kind p.count p.items;
}

-- ---- one form after another

pub record Both (A B : Type 0) : Type 0 where
  pub first : A
  pub second : B

abbrev pub and_also : {A B : Type 0} → A → B → Both A B
and_also x y = record { first = x; second = y }

abbrev pub and_then : {A V : Type 0} → Format A → (A → Format V) → Format V
and_then (told x) rest = rest x
and_then (a_line fault next) rest = a_line fault (λ line. and_then (next line) rest)

abbrev pub both_due : {A B : Type 0} → Format A → (A → Format B) → Format (Both A B)
both_due f rest = and_then f (λ x. and_then (rest x) (λ y. told (and_also x y)))

-- the second form may go by the value of the first
abbrev pub both : {P Q A B : Type 0} → Form P A → (A → Form Q B) → Form (Both P Q) (Both A B)
both f rest = record {
  lines = λ v. f.lines v.first ++ (rest v.first).lines v.second;
  due = λ p. both_due (f.due p.first) (λ x. (rest x).due p.second);
}

-- the same lines, of another record of the same parts
abbrev pub as_form : {P V W : Type 0} → Form P V → (V → W) → (W → V) → Form P W
as_form f made parts = record { lines = λ w. f.lines (parts w); due = λ p. and_then (f.due p) (λ v. told (made v)) }

-- ---- lawful forms

-- the lines of the values in range are those that are read, and tell the values; and at most so many lines are read
pub record IsLawful {V : Type 0} (lines : V → List Line) (due : Format V) (InRange : V → Type 0) (most : ℕ) : Type 0 where
  pub reads : (x : V) → InRange x → Reads due (lines x) (told x)
  pub lines_are : (ls : List Line) (x : V) → Reads due ls (told x) → ls ≡ lines x
  pub in_range : (ls : List Line) (x : V) → Reads due ls (told x) → InRange x
  pub no_feed : (x : V) → InRange x → AllLack 10 (lines x)
  pub short : IsShort most due

-- ---- texts

-- the lines of a text tell this value
pub record IsToldBy {V : Type 0} (due : Format V) (text : List ℕ) (v : V) : Type 0 where
  pub lines : List Line
  pub reads : Reads due lines (told v)
  pub text_is : text ≡ text_of lines

-- what a reader of a text answers: the value in its range of which the bytes are the text; or the first fault, unless
-- memory runs out
pub record IsRead {X V : Type 0} (text_for : V → List ℕ) (InRange : V → Type 0) (plan : Plan) (bytes : List ℕ) (value : X → V) (result : Result X TextFault) : Type 0 where
  pub text : IfOk result (λ x. bytes ≡ text_for (value x))
  pub in_range : IfOk result (λ x. InRange (value x))
  pub malformed : IfErr result (IsFaultOf plan bytes)
