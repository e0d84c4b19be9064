-- Texts of two chains: the lines of the first, a line whose only field is a slash, and the lines of the second.
use Rattle.std.specs.Prelude.{◌≡◌, ◌≢◌, ℕ, suc, pred, ◌<◌, ◌≤◌, Bool, true, false, ◌&&◌, ◌==◌, if◌then◌else◌, ◌⊎◌, List, [], ◌∷◌, length, take, drop, slice_index, None, IsSome}
use Rattle.sc_line.specs.declared.fault.Kind.{Kind}
use Rattle.sc_line.specs.declared.fault.Kind.TheVariants.{Separator}
use Rattle.sc_words.specs.declared.lines.RawLine.{RawLine}
use Rattle.sc_words.specs.ChainText.{Line, Field, text_lines, line_at, line_fields, line_case, line_kind, raw_lines}

-- whether the only field is a slash
abbrev pub is_slash : List Field → Bool
is_slash [] = false
is_slash (f ∷ []) = length f == 1 && slice_index f 0 == 47
is_slash (f ∷ g ∷ more) = false

abbrev pub is_separator : Line → Bool
is_separator line = is_slash (line_fields line)

-- the line number n separates the chains: it is the first whose only field is a slash
pub record Separates (text : List ℕ) (n : ℕ) : Type 0 where
  pub counted : 1 ≤ n
  pub in_text : n ≤ length (text_lines text)
  pub slash : is_separator (line_at text n) ≡ true
  pub first : (m : ℕ) → 1 ≤ m → m < n → is_separator (line_at text m) ≡ false

-- one line separates, every other line is one of a chain text, and the lines before and behind it give these
pub record IsTwoText (text : List ℕ) (first second : List RawLine) : Type 0 where
  pub separator : ℕ
  pub separates : Separates text separator
  pub cases : (n : ℕ) → 1 ≤ n → n ≤ length (text_lines text) → n ≢ separator → IsSome (line_case (line_at text n))
  pub first_is : first ≡ raw_lines 1 (take (pred separator) (text_lines text))
  pub second_is : second ≡ raw_lines (suc separator) (drop separator (text_lines text))

-- ---- the first malformed line

-- the line number n is one of a chain text, or it separates
abbrev pub IsGoodLine : List ℕ → ℕ → Type 0
IsGoodLine text n = IsSome (line_case (line_at text n)) ⊎ Separates text n

-- the first kind that applies to a line of the text that is not good: a slash too many, or the kind of a chain text
abbrev pub wrong_kind : Line → Kind
wrong_kind line = if is_separator line then Separator else line_kind line

pub record IsWrongLine (text : List ℕ) (line : ℕ) (kind : Kind) : Type 0 where
  pub in_text : line ≤ length (text_lines text)
  pub no_case : line_case (line_at text line) ≡ None
  pub no_separator : ¬ Separates text line
  pub kind_is : kind ≡ wrong_kind (line_at text line)

-- no line separates, and this is the line behind the last
pub record LacksSeparator (text : List ℕ) (line : ℕ) (kind : Kind) : Type 0 where
  pub behind : line ≡ suc (length (text_lines text))
  pub none : (n : ℕ) → 1 ≤ n → n ≤ length (text_lines text) → is_separator (line_at text n) ≡ false
  pub kind_is : kind ≡ Separator

-- this line is the first that isn't good, or that is missing, and this kind the first that applies to it
pub record IsFirstWrong (text : List ℕ) (line : ℕ) (kind : Kind) : Type 0 where
  pub counted : 1 ≤ line
  pub before : (n : ℕ) → 1 ≤ n → n < line → IsGoodLine text n
  pub wrong : IsWrongLine text line kind ⊎ LacksSeparator text line kind
