-- Whether parts are balanced, as a test that computes.
use Rattle.std.proofs.Common.{◌≡◌, ℕ, Bool, true, ◌&&◌, [], ◌∷◌, pos, ◌*ℤ◌}
use Rattle.std.specs.Ordering.{int_eq}
use Rattle.std.specs.List.{AllByRecursion}
use Rattle.std.proofs.lemmas.Bool.{and_parts}
use Rattle.std.proofs.lemmas.Bool.Decides.{Decides-int_eq}
use Rattle.sc_theory.specs.Chains.{Chain}
use Rattle.sc_theory.specs.Walks.{IsPolygon}
use Rattle.sc_theory.specs.Columns.{rows, right_side}
use Rattle.sc_theory.proofs.Decisions.{all_below, all_below_at}
use Rattle.sc_chain.specs.Polygons.{is_polygon}
use Rattle.sc_chain.proofs.PolygonLaws.{polygons_are_decided}
use Rattle.sc_gluing.specs.Cycles.{Parts}
use Rattle.sc_gluing.specs.Gluing.{parts_column, AreBalanced}

abbrev are_polygons : Chain → Parts → Bool
are_polygons c [] = true
are_polygons c (p ∷ parts) = is_polygon c p.0 && are_polygons c parts

abbrev pub are_balanced : Chain → ℕ → Parts → Bool
are_balanced c n parts = are_polygons c parts && all_below (λ k. int_eq (parts_column c parts k) (pos n *ℤ right_side c k)) (rows c)

polygons_from : (c : Chain) (parts : Parts) → are_polygons c parts ≡ true → AllByRecursion (λ p. IsPolygon c p.0) parts
polygons_from c [] e = tt
polygons_from c (p ∷ parts) e =
    let both = and_parts (is_polygon c p.0) (are_polygons c parts) e in
    ((polygons_are_decided c p.0).0 both.0, polygons_from c parts both.1)

-- parts that pass the test are balanced
pub balanced_from : (c : Chain) (n : ℕ) (parts : Parts) → are_balanced c n parts ≡ true → AreBalanced c n parts
balanced_from c n parts e =
    let both = and_parts (are_polygons c parts) (all_below (λ k. int_eq (parts_column c parts k) (pos n *ℤ right_side c k)) (rows c)) e in
    record {
      polygons = polygons_from c parts both.0;
      sums = λ k h. (Decides-int_eq (parts_column c parts k) (pos n *ℤ right_side c k)).0 (all_below_at (λ k. int_eq (parts_column c parts k) (pos n *ℤ right_side c k)) (rows c) k both.1 h);
    }
