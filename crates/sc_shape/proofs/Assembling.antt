-- The components, made out of lists, are those of the definition.
use Rattle.std.proofs.Common.{◌≡◌, ℕ, ◌/◌, ◌<◌, ◌==◌, ◌&&◌, Bool, true, List, length, map, ◌∙◌, ap, ap₂, arith}
use Rattle.sc_algebra.specs.Sums.{count_below}
use Rattle.sc_algebra.specs.Permutations.{is_least_for}
use Rattle.sc_algebra.proofs.Sums.{count-congr}
use Rattle.sc_theory.specs.Chains.{Chain, word, word_of}
use Rattle.sc_theory.specs.Fatgraphs.{Sides, label, turn}
use Rattle.sc_shape.specs.Classes.{entry}
use Rattle.sc_shape.specs.Shapes.{list_below, boundary_of, component_of, AreComponents}
use Rattle.sc_shape.specs.inside.SideLists.{AreLeasts, AreTallies, bare, boundary_with, with_boundaries}
use Rattle.sc_shape.specs.SideLists.{is_own}
use Rattle.sc_shape.specs.declared.component.Boundary.{Boundary}
use Rattle.sc_shape.specs.declared.component.Component.{Component}
use Rattle.sc_shape.proofs.ListsBelow.{map-list_below, map_map}

module _ (c : Chain) (g : Sides) (components boundaries vertices sizes counts lengths : List ℕ) (l : AreLeasts g components boundaries vertices) (ts : AreTallies (λ _. true) components (length components) sizes) (tc : AreTallies (is_own vertices) components (length components) counts) (tl : AreTallies (λ _. true) boundaries (length boundaries) lengths) where
  boundary_is : (s : ℕ) → s < length g → boundary_with c g lengths s ≡ boundary_of c g (entry boundaries) s
  boundary_is s b =
      let size : entry lengths s ≡ count_below (λ t. entry boundaries t == s) (length g) =
      tl.each s (omega (arith, b, l.as_many_boundaries)) ∙ ap (count_below (λ t. entry boundaries t == s)) l.as_many_boundaries in
      ap (λ (k : ℕ). let y : Boundary = record { least = s; word = word_of c (label g s); degree = k / length (word c (word_of c (label g s))) } in y) size

  component_is : (r : ℕ) → r < length g → with_boundaries c g components boundaries lengths (length g) (bare sizes counts r) ≡ component_of c g (entry components) (entry boundaries) r
  component_is r b =
      let n : ℕ = length g in
      let here : r < length components = omega (arith, b, l.as_many_components) in
      let size : entry sizes r ≡ count_below (λ t. entry components t == r) n =
      ts.each r here ∙ ap (count_below (λ t. entry components t == r)) l.as_many_components in
      let corners : entry counts r ≡ count_below (λ s. is_least_for (turn g) n s && (entry components s == r)) n =
      tc.each r here
      ∙ ap (count_below (λ s. is_own vertices s && (entry components s == r))) l.as_many_components
      ∙ count-congr (λ s. is_own vertices s && (entry components s == r)) (λ s. is_least_for (turn g) n s && (entry components s == r)) n (λ s h. ap (λ (x : Bool). x && (entry components s == r)) (l.vertices_are s h)) in
      let bounds : map (boundary_with c g lengths) (list_below (λ s. is_own boundaries s && (entry components s == r)) n) ≡ map (boundary_of c g (entry boundaries)) (list_below (λ s. is_own boundaries s && (entry components s == r)) n) =
      map-list_below (boundary_with c g lengths) (boundary_of c g (entry boundaries)) (λ s. is_own boundaries s && (entry components s == r)) n (λ s h _. boundary_is s h) in
      ap (λ (k : ℕ). let y : Component = record { least = r; sides = k; vertices = entry counts r; edges = k / 2; boundaries = map (boundary_with c g lengths) (list_below (λ s. is_own boundaries s && (entry components s == r)) n) } in y) size
      ∙ ap₂ (λ (k : ℕ) (bs : List Boundary). let y : Component = record { least = r; sides = count_below (λ t. entry components t == r) n; vertices = k; edges = count_below (λ t. entry components t == r) n / 2; boundaries = bs } in y) corners bounds

  -- components made bare, and then filled with the boundaries, are the components of the fatgraph
  pub assembled : (found filled : List Component) → found ≡ map (bare sizes counts) (list_below (is_own components) (length components)) → filled ≡ map (with_boundaries c g components boundaries lengths (length g)) found → AreComponents c g filled
  assembled found filled listed put = record {
    component = entry components;
    component_is = l.components_are;
    boundary = entry boundaries;
    boundary_is = l.boundaries_are;
    all =
        put
        ∙ ap (λ (xs : List Component). map (with_boundaries c g components boundaries lengths (length g)) xs) listed
        ∙ map_map (with_boundaries c g components boundaries lengths (length g)) (bare sizes counts) (list_below (is_own components) (length components))
        ∙ ap (λ (n : ℕ). map (λ r. with_boundaries c g components boundaries lengths (length g) (bare sizes counts r)) (list_below (is_own components) n)) l.as_many_components
        ∙ map-list_below (λ r. with_boundaries c g components boundaries lengths (length g) (bare sizes counts r)) (component_of c g (entry components) (entry boundaries)) (is_own components) (length g) (λ r h _. component_is r h);
  }
