-- The lines of a price list.
use Rattle.std.specs.Prelude.{ℕ, List, [], ◌∷◌, drop, get_or, Option, Some, if◌then◌else◌, ℤ, pos, neg_ℤ, ◌≤ℤ◌, codes}
use Rattle.std.specs.Option.{unwrap_or}
use Rattle.sc_whole.specs.Spelling.{spelling}
use Rattle.sc_line.specs.declared.fault.Kind.{Kind}
use Rattle.sc_line.specs.declared.fault.Kind.TheVariants.{Form}
use Rattle.sc_text.specs.declared.limits.TheConstants.{MAX_PRICE}
use Rattle.sc_line.specs.Lines.{Line, Field, numbers_line, fields, number_of}
use Rattle.sc_line.specs.Forms.{LineKind}
use Rattle.sc_line.specs.Faults.{NumberRange, from_to, is_named, named_fault, numbers_fault, numbers_line_fault}

-- the numbers of at most this size
abbrev pub of_size : ℤ → NumberRange
of_size most = from_to (neg_ℤ most) most

-- the number in a field of a line, and 0 where there is none
abbrev pub number_of_line : ℕ → Line → ℤ
number_of_line i line = unwrap_or (number_of (get_or (fields line) i [])) (pos 0)

-- the fault of fields that are due to begin with a known number
abbrev pub known_fault : ℤ → (List Field → Option Kind) → List Field → Option Kind
known_fault z others fs = if is_named (spelling z) fs then others (drop 1 fs) else Some Form

-- ---- the scale

abbrev pub scale_line : ℤ → Line
scale_line d = numbers_line (codes "scale") (d ∷ [])

abbrev pub scale_fault : Line → Option Kind
scale_fault = numbers_line_fault (codes "scale") (from_to (pos 1) MAX_PRICE ∷ [])

abbrev pub scale_of_line : Line → ℤ
scale_of_line = number_of_line 1

pub record IsScaleInRange (d : ℤ) : Type 0 where
  pub low : pos 1 ≤ℤ d
  pub high : d ≤ℤ MAX_PRICE

-- ---- the price of a word

abbrev pub base_line : ℤ → Line
base_line z = numbers_line (codes "base") (z ∷ [])

abbrev pub base_fault : Line → Option Kind
base_fault = numbers_line_fault (codes "base") (of_size MAX_PRICE ∷ [])

abbrev pub base_of_line : Line → ℤ
base_of_line = number_of_line 1

-- what a price may be
pub record IsPriceInRange (z : ℤ) : Type 0 where
  pub low : neg_ℤ MAX_PRICE ≤ℤ z
  pub high : z ≤ℤ MAX_PRICE

-- ---- the price of a pair, of which the positions are known

abbrev pub pair_line : ℕ × ℕ → ℤ → Line
pair_line p y = numbers_line (codes "pair") (pos p.0 ∷ pos p.1 ∷ y ∷ [])

abbrev pub pair_fault : ℕ × ℕ → Line → Option Kind
pair_fault p = named_fault (codes "pair") (known_fault (pos p.0) (known_fault (pos p.1) (numbers_fault (of_size MAX_PRICE ∷ []))))

abbrev pub pair_price_of_line : Line → ℤ
pair_price_of_line = number_of_line 3

-- ---- the kinds of lines

abbrev pub a_scale : LineKind ℤ
a_scale = record { line = scale_line; fault = scale_fault; value = scale_of_line }

abbrev pub a_base : LineKind ℤ
a_base = record { line = base_line; fault = base_fault; value = base_of_line }

abbrev pub a_pair : ℕ × ℕ → LineKind ℤ
a_pair p = record { line = pair_line p; fault = pair_fault p; value = pair_price_of_line }
