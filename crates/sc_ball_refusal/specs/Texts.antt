-- The texts of what stops the search for the corners of a quadrant.
use Rattle.std.specs.Prelude.{ℕ, ℤ, List, [], ◌∷◌, ◌++◌, map, length, codes}
use Rattle.std.specs.List.{flat_map}
use Rattle.sc_theory.specs.Chains.{Chain}
use Rattle.sc_chain.specs.declared.polygon.Pivot.{Pivot}
use Rattle.sc_fraction.specs.declared.frac.Frac.{Frac}
use Rattle.sc_fraction.specs.Frac.{frac_text}
use Rattle.sc_line.specs.Lines.{Line, Field, spaced, text_of, numbers_line, count_line}
use Rattle.sc_text.specs.Surfaces.{ending}
use Rattle.sc_certificate.specs.Spelled.{list_lines}
use Rattle.sc_rows.specs.declared.fault.WideAt.{WideAt}
use Rattle.sc_cone.specs.declared.Direction.{Direction}
use Rattle.sc_cone.specs.declared.Quadrant.{Quadrant}
use Rattle.sc_cone.specs.Cones.{chain_of, quadrant_chain}
use Rattle.sc_cone.specs.Searches.{Reached}
use Rattle.sc_crossing.specs.declared.fault.CrossPlace.{CrossPlace}
use Rattle.sc_crossing.specs.declared.fault.CrossPlace.TheVariants.{First, Second, Over}
use Rattle.sc_crossing.specs.Neighbours.{reached_of}
use Rattle.sc_refusal.specs.Texts as refusals
use Rattle.sc_ball_refusal.specs.declared.search.Search.{Search}

-- a search that is shown: its quadrant, the two chains, and the directions with their lists
pub record Shown : Type 0 where
  pub quadrant : Quadrant
  pub first : Chain
  pub second : Chain
  pub entries : List Reached

abbrev pub search_said : Search → Shown
search_said s = record { quadrant = s.quadrant; first = s.first.now; second = s.second.now; entries = map reached_of s.reached.now }

-- ---- the lines of a search

-- the line of a name and a direction
abbrev pub named_direction : Field → Direction → Line
named_direction name d = numbers_line name (d.s ∷ d.t ∷ [])

-- a direction with its list for the quadrant's chain
abbrev pub reached_lines : Chain → Reached → List Line
reached_lines c r = named_direction (codes "at") r.direction ∷ list_lines c r.list

-- how many directions there are, and each with its list
abbrev pub search_lines : Shown → List Line
search_lines v = count_line (codes "search") (length v.entries) ∷ flat_map (reached_lines (quadrant_chain v.quadrant v.first v.second)) v.entries

-- what each text begins with: its heading and the search
abbrev pub front_lines : Line → Shown → List Line
front_lines heading v = heading ∷ search_lines v

-- ---- a direction isn't solved

-- the direction stands before the body of a solver's refusal, whose chain is that of the direction
abbrev pub unsolved_front : Line → Shown → Direction → List Line
unsolved_front heading v d = front_lines heading v ++ named_direction (codes "direction") d ∷ []

abbrev pub chain_at : Shown → Direction → Chain
chain_at v d = chain_of v.quadrant v.first v.second d

abbrev pub budget_text : Shown → Direction → List Pivot → List ℕ → List ℕ
budget_text v d journal improving =
    text_of (unsolved_front refusals.budget_heading v d ++ refusals.budget_body (chain_at v d) journal improving)

abbrev pub wide_text : Shown → Direction → List Pivot → WideAt → List ℕ
wide_text v d journal at = text_of (unsolved_front refusals.wide_heading v d ++ refusals.wide_body (chain_at v d) journal at)

abbrev pub sides_text : Shown → Direction → List Pivot → List ℕ → Frac → ℕ → ℤ → List ℕ
sides_text v d journal part value so_far next =
    text_of (unsolved_front refusals.sides_heading v d ++ refusals.sides_body (chain_at v d) journal part value so_far next)

-- ---- two neighbours have no next direction

abbrev pub ends_line : Direction → Direction → Line
ends_line from to = numbers_line (codes "ends") (from.s ∷ from.t ∷ to.s ∷ to.t ∷ [])

abbrev pub place_name : CrossPlace → Field
place_name First = codes "cross-first"
place_name Second = codes "cross-second"
place_name Over = codes "cross-over"

abbrev pub place_line : CrossPlace → Line
place_line place = spaced (codes "place" ∷ place_name place ∷ [])

abbrev pub operands_line : Frac → Frac → Line
operands_line x y = spaced (codes "operands" ∷ frac_text x ∷ frac_text y ∷ [])

-- an operation of their crossing is too wide
abbrev pub cross_text : Shown → Direction → Direction → CrossPlace → Frac → Frac → List ℕ
cross_text v from to place x y =
    text_of (front_lines refusals.wide_heading v ++ ends_line from to ∷ place_line place ∷ operands_line x y ∷ ending ∷ [])

-- the next direction s, t has too long a chain
abbrev pub length_heading : Line
length_heading = codes "scallop refused length"

abbrev pub between_line : ℤ → ℤ → Line
between_line s t = numbers_line (codes "between") (s ∷ t ∷ [])

abbrev pub length_text : Shown → Direction → Direction → ℤ → ℤ → List ℕ
length_text v from to s t =
    text_of (front_lines length_heading v ++ ends_line from to ∷ between_line s t ∷ ending ∷ [])
