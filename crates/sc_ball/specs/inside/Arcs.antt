-- An arc of a fan that grows along the entries of a search.
use Rattle.std.specs.Prelude.{◌≡◌, ◌⊎◌, ℕ, ◌<◌, List, [], ◌∷◌, ◌++◌, length, get_or, Option, Some, None}
use Rattle.std.specs.Option.{option_map, option_to_list}
use Rattle.sc_theory.specs.Chains.{Chain}
use Rattle.sc_theory.specs.Prices.{Prices}
use Rattle.sc_cone.specs.declared.Direction.{Direction}
use Rattle.sc_cone.specs.declared.Quadrant.{Quadrant}
use Rattle.sc_cone.specs.Directions.{first_end}
use Rattle.sc_cone.specs.Values.{IsTightAt}
use Rattle.sc_cone.specs.Fans.{Corner, Edge, no_corner, IsArc}
use Rattle.sc_cone.specs.Searches.{Reached}

-- the list is the spare one, and where there is none to spare it is the one in use
abbrev pub IsSpareOf : Option Prices → Prices → Option Prices → Type 0
IsSpareOf used list (Some spare) = spare ≡ list
IsSpareOf None list None = ⊥
IsSpareOf (Some used) list None = used ≡ list

abbrev pub list_in : Option Edge → Option Prices
list_in edge = option_map (λ (e : Edge). e.list) edge

-- the list of the edge, if there is one, is tight at the direction
abbrev pub IsTightLast : Quadrant → Chain → Chain → Option Edge → Direction → Type 0
IsTightLast q first second None d = ⊥
IsTightLast q first second (Some e) d = IsTightAt q first second e.list d

-- corners and edges, the last of each apart, from an end of the quadrant to the last of n entries of a search. Its
-- list is there to spare where it isn't that of the last edge
pub record AreArcTo (q : Quadrant) (first second : Chain) (corners : List Corner) (last : Corner) (edges : List Edge) (edge : Option Edge) (spare : Option Prices) (n : ℕ) (r : Reached) : Type 0 where
  pub arc : IsArc q first second (corners ++ last ∷ []) (edges ++ option_to_list edge)
  pub begins : (get_or (corners ++ last ∷ []) 0 no_corner).direction ≡ first_end q
  pub last_is : last.direction ≡ r.direction
  pub whole : edge ≡ None → edges ≡ []
  pub spare_is : IsSpareOf (list_in edge) r.list spare
  pub few : length corners < n

-- a list for the edge between two neighbours, that of the one or of the other, with the other's list where that is
-- another
pub record IsChosen (q : Quadrant) (first second : Chain) (r u : Reached) (list : Prices) (spare : Option Prices) : Type 0 where
  pub of_one : (list ≡ r.list) ⊎ (list ≡ u.list)
  pub at_first : IsTightAt q first second list r.direction
  pub at_second : IsTightAt q first second list u.direction
  pub spare_is : IsSpareOf (Some list) u.list spare
