-- Texts that are read from their front, line by line.
use Rattle.std.specs.Prelude.{◌≡◌, ◌≢◌, ℕ, suc, List, [], ◌∷◌, Option, Some, None, Result, Ok, Err}
use Rattle.sc_line.specs.declared.fault.Kind.{Kind}
use Rattle.sc_line.specs.declared.fault.Kind.TheVariants.{Ended}
use Rattle.sc_line.specs.declared.fault.TextFault.{TextFault}
use Rattle.sc_line.specs.declared.fault.TextFault.TheVariants.{Malformed, Memory}
use Rattle.sc_line.specs.Lines.{Line}
use Rattle.sc_line.specs.Formats.{Format, told, a_line}

-- the number of the next line, and what stands between the line feeds from there on
pub record LinesLeft : Type 0 where
  pub number : ℕ
  pub parts : List Line

abbrev pub left_of : ℕ → List Line → LinesLeft
left_of n parts = record { number = n; parts = parts }

-- a line was taken, and these are left
pub record IsNext (old new : LinesLeft) (n : ℕ) (line : Line) : Type 0 where
  pub number : n ≡ old.number
  pub parts : old.parts ≡ line ∷ new.parts
  pub more : new.parts ≢ []
  pub next : new.number ≡ suc old.number

-- no line feed is left, so the next line isn't ended
pub record IsAtEnd (left : LinesLeft) (e : TextFault) : Type 0 where
  pub last : Line
  pub parts : left.parts ≡ last ∷ []
  pub fault : e ≡ Malformed left.number Ended

-- a fault is a line's number and its kind
abbrev pub Answer : Type 0 → Type 0
Answer A = Result A (ℕ × Kind)

abbrev pub unless : {A : Type 0} → Option Kind → ℕ → Answer A → Answer A
unless None n answer = answer
unless (Some kind) n answer = Err (n, kind)

-- what the lines from the number n on tell where this is due, and the lines behind; or the first fault
abbrev pub taken_from : {V : Type 0} → Format V → ℕ → List Line → Answer (V × LinesLeft)
taken_from (told v) n parts = Ok (v, left_of n parts)
taken_from (a_line fault rest) n [] = Err (n, Ended)
taken_from (a_line fault rest) n (last ∷ []) = Err (n, Ended)
taken_from (a_line fault rest) n (line ∷ next ∷ more) = unless (fault line) n (taken_from (rest line) (suc n) (next ∷ more))

unfoldable pub taken : {V : Type 0} → Format V → LinesLeft → Answer (V × LinesLeft)
taken f left = taken_from f left.number left.parts

-- a reader answers what is taken, unless memory runs out
abbrev pub Fails : {Y : Type 0} → TextFault → Answer Y → Type 0
Fails (Malformed line kind) answer = answer ≡ Err (line, kind)
Fails Memory answer = Unit {0}

abbrev pub Gives : {X Y : Type 0} → (X → Y) → Result X TextFault → Answer Y → Type 0
Gives view (Ok x) answer = answer ≡ Ok (view x)
Gives view (Err e) answer = Fails e answer
