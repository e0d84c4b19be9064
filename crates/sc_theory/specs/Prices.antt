-- Price lists, the price of a step, 'covers', bound and tight, and the tables that vouch for a list.
use Rattle.std.specs.Prelude.{◌≡◌, ◌≢◌, ℕ, suc, ◌<◌, ◌==◌, ◌&&◌, Bool, nat_lt, if◌then◌else◌, List, [], ◌∷◌, map, length, get_or, Option, Some, None, ℤ, pos, neg_ℤ, ◌+ℤ◌, ◌*ℤ◌, ◌≤ℤ◌}
use Rattle.std.specs.List.{filter, flat_map, range_with_len}
use Rattle.sc_algebra.specs.Sums.{sum_below}
use Rattle.sc_theory.specs.Words.{is_inverse}
use Rattle.sc_theory.specs.Chains.{Chain, positions, weight, first, letter, succ, word_of}
use Rattle.sc_theory.specs.Fatgraphs.{Sides, vertices}
use Rattle.sc_theory.specs.Walks.{IsStep, IsClosedWalk, walk_total}

-- a scale, a price per word, and a price per inverse pair
pub record Prices : Type 0 where
  pub scale : ℤ
  pub base : List ℤ
  pub pair : List ℤ

-- whether p < q are positions with inverse letters
abbrev pub is_pair : Chain → ℕ → ℕ → Bool
is_pair c p q = nat_lt p q && is_inverse (letter c p) (letter c q)

-- the positions in order
abbrev pub all_positions : Chain → List ℕ
all_positions c = range_with_len 0 (positions c)

-- the inverse pairs, by p, then q
abbrev pub pairs : Chain → List (ℕ × ℕ)
pairs c = flat_map (λ p. map (λ q. (p, q)) (filter (is_pair c p) (all_positions c))) (all_positions c)

-- the place of the pair p, q in a list of pairs, and the list's length where it isn't there
abbrev pub place_of : List (ℕ × ℕ) → ℕ → ℕ → ℕ
place_of [] p q = 0
place_of (a ∷ rest) p q = if (a.0 == p) && (a.1 == q) then 0 else suc (place_of rest p q)

-- the price y(p, q) of the positions p and q: y(q, p) is -y(p, q)
abbrev pub pair_price : Chain → Prices → ℕ → ℕ → ℤ
pair_price c list p q =
    if nat_lt p q then get_or list.pair (place_of (pairs c) p q) (pos 0)
    else (if nat_lt q p then neg_ℤ (get_or list.pair (place_of (pairs c) q p) (pos 0)) else pos 0)

-- the price Z(w) of the word that j is the first position of, and 0 where j is none
abbrev pub base_price : Chain → Prices → ℕ → ℤ
base_price c list j = if j == first c (word_of c j) then get_or list.base (word_of c j) (pos 0) else pos 0

-- the price of the step from i to j
abbrev pub price : Chain → Prices → ℕ → ℕ → ℤ
price c list i j = pair_price c list (succ c i) j +ℤ base_price c list j

-- each closed walk has a total price of at least the scale
abbrev pub Covers : Chain → Prices → Type 0
Covers c list = (walk : List ℕ) → IsClosedWalk c walk → list.scale ≤ℤ walk_total (price c list) walk

-- the sum of weight times base price
abbrev pub bound : Chain → Prices → ℤ
bound c list = sum_below (λ w. pos (weight c w) *ℤ get_or list.base w (pos 0)) (length c)

-- the scale times the vertices is the copies times the bound
abbrev pub IsTight : Chain → Prices → ℕ → Sides → Type 0
IsTight c list n g = list.scale *ℤ pos (vertices g) ≡ pos n *ℤ bound c list

-- a table for each start, with an entry or none for each position
abbrev pub Tables : Type 0
Tables = List (List (Option ℤ))

-- the entry of the table of s at the position i
abbrev pub entry : Tables → ℕ → ℕ → Option ℤ
entry tables s i = get_or (get_or tables s []) i None

-- the tables vouch for a threshold: each starts at 0, no step undercuts it, and none comes back for less than the
-- threshold. What is added up may be whole numbers or pairs of them: it is given by a zero, a sum and an order
pub record VouchBy {A : Type 0} (zero : A) (sum : A → A → A) (AtMost : A → A → Type 0) (c : Chain) (price : ℕ → ℕ → A) (threshold : A) (entry : ℕ → ℕ → Option A) : Type 0 where
  pub starts : (s : ℕ) → s < positions c → entry s s ≡ Some zero
  pub goes : (s i j : ℕ) (a : A) → s < positions c → IsStep c i j → entry s i ≡ Some a → j ≢ s →
      (b : A) × (entry s j ≡ Some b) × AtMost b (sum a (price i j))
  pub returns : (s i : ℕ) (a : A) → s < positions c → IsStep c i s → entry s i ≡ Some a →
      AtMost threshold (sum a (price i s))

-- the tables vouch for the list: they do for its scale, at its prices
abbrev pub Vouch : Chain → Prices → Tables → Type 0
Vouch c list tables = VouchBy (pos 0) (λ x y. x +ℤ y) (λ x y. x ≤ℤ y) c (price c list) list.scale (entry tables)
