-- The components of a labelled fatgraph and their boundaries.
use Rattle.std.specs.Prelude.{◌≡◌, ℕ, zero, suc, ◌/◌, ◌<◌, ◌≤◌, Bool, ◌&&◌, ◌==◌, if◌then◌else◌, List, [], ◌∷◌, ◌++◌, length, map}
use Rattle.std.specs.Fn.{iterate}
use Rattle.sc_algebra.specs.Sums.{count_below}
use Rattle.sc_algebra.specs.Permutations.{is_least_for}
use Rattle.sc_theory.specs.Chains.{Chain, word, word_of}
use Rattle.sc_theory.specs.Fatgraphs.{Sides, label, mate, next, turn}
use Rattle.sc_shape.specs.Classes.{IsLeastLeading}
use Rattle.sc_shape.specs.declared.component.Boundary.{Boundary}
use Rattle.sc_shape.specs.declared.component.Component.{Component}

-- the numbers below n that pass the test, in order
abbrev pub list_below : (ℕ → Bool) → ℕ → List ℕ
list_below test zero = []
list_below test (suc n) = list_below test n ++ (if test n then n ∷ [] else [])

-- r is the least side of the component of s: the sides to which some steps to mates and to next sides lead
abbrev pub IsLeastOfComponent : Sides → ℕ → ℕ → Type 0
IsLeastOfComponent g s r = IsLeastLeading (mate g) (next g) (length g) s r

-- r is the least side of the boundary of s: the cycle of next on which s lies
pub record IsLeastOfBoundary (g : Sides) (s r : ℕ) : Type 0 where
  pub on_cycle : (k : ℕ) × (iterate (next g) k r ≡ s)
  pub least : (t k : ℕ) → t < length g → iterate (next g) k t ≡ s → r ≤ t

-- the boundary whose least side is s, where `boundary` names the least side of each side's boundary: its word is that
-- of its labels, its degree the number of its sides divided by the length of the word
abbrev pub boundary_of : Chain → Sides → (ℕ → ℕ) → ℕ → Boundary
boundary_of c g boundary s =
    record {
      least = s;
      word = word_of c (label g s);
      degree = count_below (λ t. boundary t == s) (length g) / length (word c (word_of c (label g s)));
    }

-- the component whose least side is r, where `component` and `boundary` name the least side of each side's component
-- and boundary
abbrev pub component_of : Chain → Sides → (ℕ → ℕ) → (ℕ → ℕ) → ℕ → Component
component_of c g component boundary r =
    record {
      least = r;
      sides = count_below (λ s. component s == r) (length g);
      vertices = count_below (λ s. is_least_for (turn g) (length g) s && (component s == r)) (length g);
      edges = count_below (λ s. component s == r) (length g) / 2;
      boundaries = map (boundary_of c g boundary) (list_below (λ s. (boundary s == s) && (component s == r)) (length g));
    }

-- the components of a list of sides over a chain, in the order of their least sides, each with its boundaries in the
-- order of theirs
pub record AreComponents (c : Chain) (g : Sides) (components : List Component) : Type 0 where
  -- the least side of the component of each side, and of its boundary
  pub component : ℕ → ℕ
  pub component_is : (s : ℕ) → s < length g → IsLeastOfComponent g s (component s)
  pub boundary : ℕ → ℕ
  pub boundary_is : (s : ℕ) → s < length g → IsLeastOfBoundary g s (boundary s)
  pub all : components ≡ map (component_of c g component boundary) (list_below (λ r. component r == r) (length g))
