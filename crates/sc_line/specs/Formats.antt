-- Formats: which line is due in a text, the fault of each, and what the lines tell.
use Rattle.std.specs.Prelude.{◌≡◌, ℕ, zero, suc, Bool, true, false, List, [], ◌∷◌, Option, Some, None}
use Rattle.sc_line.specs.declared.fault.Kind.{Kind}
use Rattle.sc_line.specs.declared.fault.Kind.TheVariants.{Rest}
use Rattle.sc_line.specs.Lines.{Line}
use Rattle.sc_line.specs.Faults.{Plan}

-- what is due in a text: no more line, where the lines before told the value V; or a line, with its fault, and what is
-- due after it
pub data Format (V : Type 0) : Type 0 where
  told : V → Format V
  a_line : (Line → Option Kind) → (Line → Format V) → Format V

-- the fault of the line that is due, where one is
abbrev pub due_line : {V : Type 0} → Format V → Option (Line → Option Kind)
due_line (told v) = None
due_line (a_line fault rest) = Some fault

-- whether no line is due
abbrev pub is_told : {V : Type 0} → Format V → Bool
is_told (told v) = true
is_told (a_line fault rest) = false

-- what is due after a line, and after lines
abbrev pub after_line : {V : Type 0} → Format V → Line → Format V
after_line (told v) line = told v
after_line (a_line fault rest) line = rest line

abbrev pub after_lines : {V : Type 0} → Format V → List Line → Format V
after_lines f [] = f
after_lines f (line ∷ lines) = after_lines (after_line f line) lines

-- the plan of a text in a format
unfoldable pub plan_of : {V : Type 0} → Format V → Plan
plan_of f before = due_line (after_lines f before)

-- the fault of a line, and of the bytes behind the last line, where this is due
abbrev pub fault_due : {V : Type 0} → Format V → Line → Option Kind
fault_due (told v) line = Some Rest
fault_due (a_line fault rest) line = fault line

-- a line without a fault was due, and this is due after it
pub record Steps {V : Type 0} (old new : Format V) (line : Line) : Type 0 where
  pub good : fault_due old line ≡ None
  pub next : new ≡ after_line old line

-- the lines have no fault where they are due, and this is due after them
abbrev pub Reads : {V : Type 0} → Format V → List Line → Format V → Type 0
Reads f [] g = f ≡ g
Reads (told v) (line ∷ lines) g = ⊥
Reads (a_line fault rest) (line ∷ lines) g = (fault line ≡ None) × Reads (rest line) lines g

-- at most so many lines are read
abbrev pub IsShort : {V : Type 0} → ℕ → Format V → Type 0
IsShort n (told v) = Unit {0}
IsShort zero (a_line fault rest) = ⊥
IsShort (suc n) (a_line fault rest) = (line : Line) → fault line ≡ None → IsShort n (rest line)

-- ---- kinds of lines

-- a line of a kind tells a value: the lines without a fault are those of the values in range
pub record IsLineKind {A : Type 0} (fault : Line → Option Kind) (value : Line → A) (line_for : A → Line) (InRange : A → Type 0) : Type 0 where
  pub good : (x : A) → InRange x → fault (line_for x) ≡ None
  pub value_is : (x : A) → InRange x → value (line_for x) ≡ x
  pub in_range : (line : Line) → fault line ≡ None → InRange (value line)
  pub line_is : (line : Line) → fault line ≡ None → line ≡ line_for (value line)
