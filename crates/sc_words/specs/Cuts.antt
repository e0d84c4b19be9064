-- A text cut behind its first line.
use Rattle.std.specs.Prelude.{◌≡◌, ℕ, ◌⊎◌, List, [], ◌∷◌, ◌++◌}
use Rattle.sc_words.specs.ChainText.{Line, text_lines}

-- other lines may follow the text: its lines and then theirs are those of both together
abbrev pub IsWhole : List ℕ → Type 0
IsWhole text = (more : List ℕ) → text_lines (text ++ more) ≡ text_lines text ++ text_lines more

-- a first line with its end, which only the last line of a text may lack, and the rest
pub record IsCut (text : List ℕ) (line : Line) (rest : List ℕ) : Type 0 where
  pub front : List ℕ
  pub text_is : text ≡ front ++ rest
  pub line_is : text_lines front ≡ line ∷ []
  pub ended : IsWhole front ⊎ (rest ≡ [])
