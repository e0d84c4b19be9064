-- Said by private functions alone: a chain text that stands behind other lines.
use Rattle.std.specs.Prelude.{◌≡◌, ℕ, suc, ◌+◌, ◌<◌, ◌≤◌, ◌^◌, List, length, IsSome}
use Rattle.std.specs.List.{All}
use Rattle.sc_line.specs.declared.fault.Kind.{Kind}
use Rattle.sc_line.specs.declared.fault.TextFault.{TextFault}
use Rattle.sc_line.specs.declared.fault.TextFault.TheVariants.{Malformed, Memory}
use Rattle.sc_words.specs.declared.lines.RawLine.{RawLine}
use Rattle.sc_reduce.specs.Lines.{letters_of}
use Rattle.sc_words.specs.ChainText.{text_lines, line_at, line_case, raw_lines, IsRawLine, IsFirstMalformed}

abbrev pub HasRoom : ℕ → RawLine → Type 0
HasRoom by r = r.line + by < 2 ^ 32

-- what the lines of a good chain text give behind so many others
pub record AreLinesBehind (count : ℕ) (text : List ℕ) (read : List RawLine) : Type 0 where
  pub cases : (n : ℕ) → 1 ≤ n → n ≤ length (text_lines text) → IsSome (line_case (line_at text n))
  pub entries : read ≡ raw_lines (suc count) (text_lines text)
  pub ranges : All IsRawLine read
  pub letters : letters_of read ≤ length text

-- the first malformed line of a chain text, numbered behind so many others
pub record IsMalformedBehind (count : ℕ) (text : List ℕ) (line : ℕ) (kind : Kind) : Type 0 where
  pub place : ℕ
  pub line_is : line ≡ count + place
  pub first : IsFirstMalformed text place kind

abbrev pub IsFaultBehind : ℕ → List ℕ → TextFault → Type 0
IsFaultBehind count text (Malformed line kind) = IsMalformedBehind count text line kind
IsFaultBehind count text Memory = Unit {0}
