-- The text of a fan.
use Rattle.std.specs.Prelude.{◌≡◌, ℕ, ◌+◌, ◌-◌, ◌≤◌, false, List, [], ◌∷◌, ◌++◌, map, length, get_or, None, ℤ, codes}
use Rattle.std.specs.List.{AllByRecursion, enumerate_from, flat_map}
use Rattle.sc_theory.specs.Chains.{Chain, positions}
use Rattle.sc_theory.specs.Prices.{Prices, pairs}
use Rattle.sc_cone.specs.declared.Quadrant.{Quadrant}
use Rattle.sc_cone.specs.Cones.{quadrant_chain}
use Rattle.sc_cone.specs.Fans.{Corner as PlaneCorner, no_corner, quadrant_from}
use Rattle.sc_chain.specs.declared.limits.TheConstants.{MAX_WORDS, MAX_POSITIONS}
use Rattle.sc_line.specs.Lines.{Line, text_of, count_line}
use Rattle.sc_line.specs.Faults.{Plan}
use Rattle.sc_line.specs.Formats.{Format, told, plan_of}
use Rattle.sc_line.specs.Forms.{Both, and_also, literal_due, many_due, counted_from, both, and_then, as_form}
use Rattle.sc_text.specs.declared.limits.TheConstants.{VERSION_1}
use Rattle.sc_text.specs.Words.{word_line, a_word, IsWordInRange}
use Rattle.sc_text.specs.Parts.{scale_form, bases_form, pairs_form}
use Rattle.sc_text.specs.Surfaces.{ending}
use Rattle.sc_certificate.specs.Sizes.{IsSmallList, FitsCounts, list_of}
use Rattle.sc_certificate.specs.Spelled.{list_lines}
use Rattle.sc_fan.specs.declared.limits.TheConstants.{MIN_CORNERS, MAX_CORNERS}
use Rattle.sc_fan.specs.Corners.{corner_line, a_corner, IsCornerInRange}
use Rattle.sc_fan.specs.Blocks.{headed_due, blocks_due}

-- what a fan text says: two chains, the corners, and the price list of each edge, which goes from a corner to the next
pub record FanSaid : Type 0 where
  pub first : Chain
  pub second : Chain
  pub corners : List PlaneCorner
  pub lists : List Prices

abbrev pub fan_of : Chain → Chain → List PlaneCorner → List Prices → FanSaid
fan_of a b corners lists = record { first = a; second = b; corners = corners; lists = lists }

-- ---- the chains of the quadrants

-- the quadrant of the edge number i: that of the corner that it goes from
abbrev pub quadrant_at : List PlaneCorner → ℕ → Quadrant
quadrant_at corners i = quadrant_from (get_or corners i no_corner).direction.t

-- the chain for which the list of the edge number i is
abbrev pub edge_chain : Chain → Chain → List PlaneCorner → ℕ → Chain
edge_chain a b corners i = quadrant_chain (quadrant_at corners i) a b

-- ---- the lines

abbrev pub heading : Line
heading = codes "scallop fan 1"

-- a chain under a name: how many words there are, and the words
abbrev pub chain_lines : List ℕ → Chain → List Line
chain_lines name c = count_line name (length c) ∷ map word_line c

-- how many corners there are, and the corners
abbrev pub corners_lines : List PlaneCorner → List Line
corners_lines corners = count_line (codes "corners") (length corners) ∷ map corner_line corners

abbrev pub edge_line : ℕ → Line
edge_line i = count_line (codes "edge") i

-- an edge: its number, and its list for the chain of its quadrant
abbrev pub edge_lines : Chain → Chain → List PlaneCorner → ℕ → Prices → List Line
edge_lines a b corners i list = edge_line i ∷ list_lines (edge_chain a b corners i) list

-- how many edges there are, and the edges
abbrev pub edges_lines : Chain → Chain → List PlaneCorner → List Prices → List Line
edges_lines a b corners lists = count_line (codes "edges") (length lists) ∷ flat_map (λ e. edge_lines a b corners e.0 e.1) (enumerate_from 0 lists)

abbrev pub fan_lines : FanSaid → List Line
fan_lines v =
    heading ∷ (chain_lines (codes "first") v.first ++ (chain_lines (codes "second") v.second ++ (corners_lines v.corners ++ (edges_lines v.first v.second v.corners v.lists ++ ending ∷ []))))

abbrev pub fan_text : FanSaid → List ℕ
fan_text v = text_of (fan_lines v)

-- ---- what is due while a text is read

-- a chain under a name, of at most so many words and letters
abbrev pub chain_due : List ℕ → ℕ → ℕ → Format Chain
chain_due name words letters = counted_from name words (λ c. a_word VERSION_1 (letters - positions c)) None []

abbrev pub second_due : Chain → Format Chain
second_due a = chain_due (codes "second") (MAX_WORDS - length a) (MAX_POSITIONS - positions a)

abbrev pub corners_due : Format (List PlaneCorner)
corners_due = headed_due (codes "corners") MIN_CORNERS MAX_CORNERS (λ n. many_due (λ before. a_corner) n [])

-- a price list, and an edge with its list
abbrev pub ListTold : Type 0
ListTold = Both ℤ (Both (List ℤ) (List ℤ))

abbrev pub list_told : ListTold → Prices
list_told t = list_of t.first t.second.first t.second.second

abbrev pub told_list : Prices → ListTold
told_list list = and_also list.scale (and_also list.base list.pair)

-- a list for so many words and these pairs
abbrev pub prices_due : ℕ → List (ℕ × ℕ) → Format Prices
prices_due words ps = (as_form (both scale_form (λ d. both (bases_form words) (λ base. pairs_form ps))) list_told told_list).due (and_also None (and_also [] []))

abbrev pub list_due : Chain → Format Prices
list_due c = prices_due (length c) (pairs c)

abbrev pub edge_due : Chain → Chain → List PlaneCorner → ℕ → Format Prices
edge_due a b corners i = and_then (literal_due (edge_line i) false) (λ u. list_due (edge_chain a b corners i))

-- one edge fewer than corners
abbrev pub edges_due : Chain → Chain → List PlaneCorner → Format (List Prices)
edges_due a b corners =
    headed_due (codes "edges") (length corners - 1) (length corners - 1) (λ n. blocks_due (λ before. edge_due a b corners (length before)) n [])

abbrev pub fan_due : Format FanSaid
fan_due =
    and_then (literal_due heading false) (λ u. and_then (chain_due (codes "first") MAX_WORDS MAX_POSITIONS) (λ a. and_then (second_due a) (λ b. and_then corners_due (λ corners. and_then (edges_due a b corners) (λ lists. and_then (literal_due ending false) (λ v. told (fan_of a b corners lists)))))))

unfoldable pub fan_plan : Plan
fan_plan = plan_of fan_due

-- ---- the ranges

-- a price list for a chain
pub record IsListFor (c : Chain) (list : Prices) : Type 0 where
  pub small : IsSmallList list
  pub counts : FitsCounts (length c) (length (pairs c)) list

-- what a fan may be
pub record IsFanInRange (v : FanSaid) : Type 0 where
  pub first : AllByRecursion IsWordInRange v.first
  pub second : AllByRecursion IsWordInRange v.second
  pub few_words : length v.first + length v.second ≤ MAX_WORDS
  pub few_letters : positions v.first + positions v.second ≤ MAX_POSITIONS
  pub some_corners : MIN_CORNERS ≤ length v.corners
  pub few_corners : length v.corners ≤ MAX_CORNERS
  pub corners : AllByRecursion IsCornerInRange v.corners
  pub one_fewer : length v.lists ≡ length v.corners - 1
  pub lists : AllByRecursion (λ e. IsListFor (edge_chain v.first v.second v.corners e.0) e.1) (enumerate_from 0 v.lists)
