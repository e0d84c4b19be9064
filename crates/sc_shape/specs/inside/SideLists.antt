-- Said by private functions alone: lists with an entry per side, out of which the components are made.
use Rattle.std.specs.Prelude.{◌≡◌, ℕ, ◌/◌, ◌<◌, Bool, true, ◌&&◌, ◌==◌, List, [], ◌++◌, length, map, get_or}
use Rattle.sc_algebra.specs.Sums.{count_below}
use Rattle.sc_algebra.specs.Permutations.{is_least_for}
use Rattle.sc_theory.specs.Chains.{Chain, word, word_of}
use Rattle.sc_theory.specs.Fatgraphs.{Sides, label, mate, next, turn}
use Rattle.sc_shape.specs.Classes.{entry}
use Rattle.sc_shape.specs.Shapes.{list_below, IsLeastOfComponent, IsLeastOfBoundary}
use Rattle.sc_shape.specs.declared.component.Boundary.{Boundary}
use Rattle.sc_shape.specs.declared.component.Component.{Component}
use Rattle.sc_shape.specs.SideLists.{AreValues, is_own}

-- the mates, the next sides and the turns of the first n sides
pub record AreSteps (g : Sides) (n : ℕ) (mates nexts turns : List ℕ) : Type 0 where
  pub mates_are : AreValues (mate g) n mates
  pub nexts_are : AreValues (next g) n nexts
  pub turns_are : AreValues (turn g) n turns

-- the least side of the component and of the boundary of each side, and of each side that of its vertex
pub record AreLeasts (g : Sides) (components boundaries vertices : List ℕ) : Type 0 where
  pub as_many_components : length components ≡ length g
  pub components_are : (s : ℕ) → s < length g → IsLeastOfComponent g s (entry components s)
  pub as_many_boundaries : length boundaries ≡ length g
  pub boundaries_are : (s : ℕ) → s < length g → IsLeastOfBoundary g s (entry boundaries s)
  pub as_many_vertices : length vertices ≡ length g
  pub vertices_are : (s : ℕ) → s < length g → is_own vertices s ≡ is_least_for (turn g) (length g) s

-- how many of the sides below s that pass the test have each r as their entry
pub record AreTallies (test : ℕ → Bool) (least : List ℕ) (s : ℕ) (counts : List ℕ) : Type 0 where
  pub as_many : length counts ≡ length least
  pub each : (r : ℕ) → r < length least → entry counts r ≡ count_below (λ t. test t && (entry least t == r)) s

-- each entry is the number of an entry
abbrev pub PointInside : List ℕ → Type 0
PointInside least = (s : ℕ) → s < length least → entry least s < length least

-- the boundary with the least side s, its number of sides taken off a list
abbrev pub boundary_with : Chain → Sides → List ℕ → ℕ → Boundary
boundary_with c g lengths s =
    record {
      least = s;
      word = word_of c (label g s);
      degree = entry lengths s / length (word c (word_of c (label g s)));
    }

-- the component with the least side r, its counts taken off lists, without boundaries
abbrev pub bare : List ℕ → List ℕ → ℕ → Component
bare sizes vertices r =
    record {
      least = r;
      sides = entry sizes r;
      vertices = entry vertices r;
      edges = entry sizes r / 2;
      boundaries = [];
    }

-- the component with the boundaries of the sides below s behind those that it has
abbrev pub with_boundaries : Chain → Sides → List ℕ → List ℕ → List ℕ → ℕ → Component → Component
with_boundaries c g components boundaries lengths s x =
    record x { boundaries = x.boundaries ++ map (boundary_with c g lengths) (list_below (λ t. is_own boundaries t && (entry components t == x.least)) s) }

-- what stands past the end of the components
abbrev pub no_component : Component
no_component = record { least = 0; sides = 0; vertices = 0; edges = 0; boundaries = [] }

-- the components stand at the places that a list has at their least sides
pub record AreAtPlaces (components places : List ℕ) (found : List Component) : Type 0 where
  pub inside : (s : ℕ) → s < length components → entry places (entry components s) < length found
  pub here : (s : ℕ) → s < length components → (get_or found (entry places (entry components s)) no_component).least ≡ entry components s
  pub only : (k : ℕ) → k < length found → entry places (get_or found k no_component).least ≡ k

-- the list has for each number that is its own the count of those before it
abbrev pub ArePlaces : List ℕ → ℕ → List ℕ → Type 0
ArePlaces least n places = (r : ℕ) → r < n → is_own least r ≡ true → entry places r ≡ count_below (is_own least) r
