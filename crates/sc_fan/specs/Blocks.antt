-- Formats of a number with the lines that it counts, and of blocks of lines one after another.
use Rattle.std.specs.Prelude.{ℕ, zero, suc, List, [], ◌∷◌, ◌++◌}
use Rattle.sc_line.specs.Lines.{count_of_line}
use Rattle.sc_line.specs.Faults.{between, numbers_line_fault}
use Rattle.sc_line.specs.Formats.{Format, told, a_line}
use Rattle.sc_line.specs.Forms.{and_then}

-- a line of a name and a number in a range, and what is due behind it by the number
abbrev pub headed_due : {V : Type 0} → List ℕ → ℕ → ℕ → (ℕ → Format V) → Format V
headed_due name low high rest = a_line (numbers_line_fault name (between low high ∷ [])) (λ line. rest (count_of_line line))

-- n blocks of lines behind others, each by the values before it
abbrev pub blocks_due : {A : Type 0} → (List A → Format A) → ℕ → List A → Format (List A)
blocks_due block zero before = told before
blocks_due block (suc n) before = and_then (block before) (λ x. blocks_due block n (before ++ x ∷ []))
