-- A text cut at its first line whose only field is a slash.
use Rattle.std.specs.Prelude.{◌≡◌, ℕ, ◌+◌, ◌<◌, ◌≤◌, true, false, List, [], ◌∷◌, ◌++◌, length, get_or}
use Rattle.sc_words.specs.ChainText.{Line, text_lines}
use Rattle.sc_two.specs.TwoTexts.{is_separator}

-- none of the lines has a slash as its only field
abbrev pub HasNone : List Line → Type 0
HasNone lines = (k : ℕ) → k < length lines → is_separator (get_or lines k []) ≡ false

-- the part of a text up to a line whose only field is a slash, or up to its end, and the number of its lines
pub record IsPart (text part : List ℕ) (count : ℕ) : Type 0 where
  pub count_is : count ≡ length (text_lines part)
  pub none : HasNone (text_lines part)
  pub short : length part ≤ length text
  pub more : List Line
  pub lines : text_lines text ≡ text_lines part ++ more

-- the rest behind the line with the slash that follows the part
pub record IsFollowed (text part rest : List ℕ) : Type 0 where
  pub line : Line
  pub slash : is_separator line ≡ true
  pub lines : text_lines text ≡ text_lines part ++ line ∷ text_lines rest
  pub short : length part + length rest < length text
