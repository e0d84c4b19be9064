-- Said by private functions alone: the lines of pairs beside their prices, printed one after another.
use Rattle.std.specs.Prelude.{◌≡◌, ℕ, ℤ, List, ◌++◌, map, length, drop}
use Rattle.std.specs.List.{filter}
use Rattle.sc_theory.specs.Chains.{Chain}
use Rattle.sc_theory.specs.Prices.{is_pair, all_positions}
use Rattle.sc_line.specs.Lines.{text_of}
use Rattle.sc_certificate.specs.Spelled.{pair_lines}

-- the inverse pairs of a chain whose lesser position is p
abbrev pub pairs_from : Chain → ℕ → List (ℕ × ℕ)
pairs_from c p = map (λ q. (p, q)) (filter (is_pair c p) (all_positions c))

-- the lines of these pairs stand behind the old bytes, and the prices behind theirs are left
pub record ArePrinted (old : List ℕ) (prices : List ℤ) (ps : List (ℕ × ℕ)) (new : List ℕ) (left : List ℤ) : Type 0 where
  pub lines : new ≡ old ++ text_of (pair_lines ps prices)
  pub behind : left ≡ drop (length ps) prices
