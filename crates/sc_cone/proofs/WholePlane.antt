-- The cones of a fan's edges: each lies in its quadrant, values on it are those of the edge's list, and together they
-- cover.
use Rattle.std.proofs.Common.{◌≡◌, ◌⊎◌, ℕ, zero, suc, ◌+◌, ◌-◌, ◌<◌, ◌≤◌, length, ℤ, pos, ◌<ℤ◌, ◌≤ℤ◌, inl, inr, arith, sym, ap, subst, ◌∙◌}
use Rattle.std.proofs.lemmas.Int.{ints}
use Rattle.std.proofs.lemmas.Bool.{cases_lt}
use Rattle.sc_theory.specs.Chains.{IsChain}
use Rattle.sc_cone.specs.declared.Direction.{Direction}
use Rattle.sc_cone.specs.declared.Quadrant.{Quadrant}
use Rattle.sc_cone.specs.declared.Quadrant.TheVariants.{Lower, Upper}
use Rattle.sc_cone.specs.Directions.{down, right, up, IsIn, cross, IsBetween}
use Rattle.sc_cone.specs.Values.{IsTightAt}
use Rattle.sc_cone.specs.Fans.{Corner, Fan, edge, turn_to, quadrant_from, quadrant_of, IsFan}
use Rattle.sc_cone.proofs.Turning.{not_negative, cases_sign, turned}
use Rattle.sc_cone.proofs.Betweens.{tight_between}
use Rattle.sc_cone.proofs.Corners.{Round, round, edge_within, quadrant_below, quadrant_above, before_axis, after_axis}

module _ (f : Fan) (is : IsFan f) where
  all : Round f.first f.second (length f.corners) (turn_to f) (λ i. (edge f i).list)
  all = round f is

  inner : (i : ℕ) → i < length f.edges → suc i < length f.corners
  inner i inside = omega (arith, is.count)

  -- the quadrant of an edge is told by the corner at which it begins
  pub quadrant_is : (i : ℕ) → i < length f.edges → quadrant_from (turn_to f i).t ≡ quadrant_of f i
  quadrant_is i inside = sym (ap (λ (c : Corner). quadrant_from c.direction.t) (is.joins i inside).0)

  -- both ends of an edge lie in its quadrant
  pub edge_in : (i : ℕ) → i < length f.edges → IsIn (quadrant_of f i) (turn_to f i) × IsIn (quadrant_of f i) (turn_to f (suc i))
  edge_in i inside =
      subst (λ (q : Quadrant). IsIn q (turn_to f i) × IsIn q (turn_to f (suc i))) (quadrant_is i inside)
      (edge_within f.first f.second (length f.corners) (turn_to f) (λ j. (edge f j).list) all i (inner i inside))

  -- on the cone of an edge the edge's list is tight
  pub value_on_cone : IsChain f.first → IsChain f.second → (i : ℕ) (x : Direction) → i < length f.edges → IsBetween (turn_to f i) (turn_to f (suc i)) x → IsTightAt (quadrant_of f i) f.first f.second (edge f i).list x
  value_on_cone is_first is_second i x inside between =
      let within = edge_in i inside in
      let tight = is.tight i inside in
      tight_between (quadrant_of f i) f.first f.second (edge f i).list (turn_to f i) (turn_to f (suc i)) x is_first is_second (is.covers i inside) within.0 within.1 (is.left i (inner i inside)) between tight.0 tight.1

  -- ---- every direction lies in the cone of an edge
  -- an edge before the last of k more, or go on
  abbrev Found : Direction → ℕ → ℕ → Type 0
  Found x i k = (j : ℕ) × (i ≤ j) × (j ≤ i + k) × IsBetween (turn_to f j) (turn_to f (suc j)) x

  level : (a : ℤ) → a ≡ pos 0 → pos 0 ≤ℤ a
  level a e = omega (arith, ints)

  by_sign : (x : Direction) (i k : ℕ) → pos 0 ≤ℤ cross (turn_to f i) x → (cross x (turn_to f (suc i)) ≡ pos 0) ⊎ ((pos 0 <ℤ cross x (turn_to f (suc i))) ⊎ (cross x (turn_to f (suc i)) <ℤ pos 0)) → (pos 0 ≤ℤ cross (turn_to f (suc i)) x → Found x (suc i) k) → Found x i (suc k)
  by_sign x i k after (inl flat) rest = (i, omega arith, omega arith, record { after = after; before = level (cross x (turn_to f (suc i))) flat })
  by_sign x i k after (inr (inl beyond)) rest = (i, omega arith, omega arith, record { after = after; before = not_negative (cross x (turn_to f (suc i))) beyond })
  by_sign x i k after (inr (inr over)) rest =
      let more = rest (not_negative (cross (turn_to f (suc i)) x) (turned x (turn_to f (suc i)) over)) in
      (more.0, omega (arith, more.1), omega (arith, more.2), more.3)

  -- of the corners from the number i on, k + 1 more, the first is to the right of x and the last to its left
  found_from : (x : Direction) (k i : ℕ) → pos 0 ≤ℤ cross (turn_to f i) x → pos 0 ≤ℤ cross x (turn_to f (suc (i + k))) → Found x i k
  found_from x zero i after before =
      let e : suc (i + 0) ≡ suc i = omega arith in
      (i, omega arith, omega arith, record { after = after; before = subst (λ (m : ℕ). pos 0 ≤ℤ cross x (turn_to f m)) e before })
  found_from x (suc k) i after before =
      let e : suc (i + suc k) ≡ suc (suc i + k) = omega arith in
      by_sign x i k after (cases_sign (cross x (turn_to f (suc i)))) (λ next. found_from x k (suc i) next (subst (λ (m : ℕ). pos 0 ≤ℤ cross x (turn_to f m)) e before))

  after_down : (x : Direction) → pos 0 ≤ℤ x.s → pos 0 ≤ℤ cross down x
  after_down x h = omega (arith, ints)

  before_right : (x : Direction) → x.t ≤ℤ pos 0 → pos 0 ≤ℤ cross x right
  before_right x h = omega (arith, ints)

  after_right : (x : Direction) → pos 0 ≤ℤ x.t → pos 0 ≤ℤ cross right x
  after_right x h = omega (arith, ints)

  before_up : (x : Direction) → pos 0 ≤ℤ x.s → pos 0 ≤ℤ cross x up
  before_up x h = omega (arith, ints)

  apart_ends : down ≡ right → ⊥
  apart_ends e = omega (arith, ints, ap (λ (d : Direction). d.s) e)

  apart_axes : right ≡ up → ⊥
  apart_axes e = omega (arith, ints, ap (λ (d : Direction). d.s) e)

  some_before : 0 < all.passes.0
  some_before =
      elim (cases_lt 0 all.passes.0) [
        | inl some ↦ some
        | inr none ↦ let e : 0 ≡ all.passes.0 = omega arith in absurd (apart_ends (sym is.begins ∙ ap (turn_to f) e ∙ all.passes.2))
      ]

  some_after : suc all.passes.0 < length f.corners
  some_after =
      elim (cases_lt (suc all.passes.0) (length f.corners)) [
        | inl some ↦ some
        | inr none ↦ absurd (apart_axes (sym all.passes.2 ∙ is.ends all.passes.0 (omega (arith, all.passes.1))))
      ]

  -- each direction of a quadrant lies in the cone of an edge of that quadrant
  pub cones_cover : (q : Quadrant) (x : Direction) → IsIn q x → (i : ℕ) × (i < length f.edges) × (quadrant_of f i ≡ q) × IsBetween (turn_to f i) (turn_to f (suc i)) x
  cones_cover Lower x within =
      let k : ℕ = all.passes.0 - 1 in
      let last : all.passes.0 ≡ suc (0 + k) = omega (arith, some_before) in
      let after : pos 0 ≤ℤ cross (turn_to f 0) x = subst (λ (d : Direction). pos 0 ≤ℤ cross d x) (sym is.begins) (after_down x within.0) in
      let before : pos 0 ≤ℤ cross x (turn_to f (suc (0 + k))) = subst (λ (d : Direction). pos 0 ≤ℤ cross x d) (sym all.passes.2 ∙ ap (turn_to f) last) (before_right x within.1) in
      let found = found_from x k 0 after before in
      let inside : found.0 < length f.edges = omega (arith, found.2, last, all.passes.1, is.count) in
      let below : (turn_to f found.0).t <ℤ pos 0 = before_axis f.first f.second (length f.corners) (turn_to f) (λ j. (edge f j).list) all (all.passes.0 - suc found.0) found.0 (omega (arith, found.2, last)) in
      (found.0, inside, sym (quadrant_is found.0 inside) ∙ quadrant_below (turn_to f found.0).t below, found.3)
  cones_cover Upper x within =
      let k : ℕ = length f.corners - suc (suc all.passes.0) in
      let last : suc (suc (all.passes.0 + k)) ≡ length f.corners = omega (arith, some_after) in
      let after : pos 0 ≤ℤ cross (turn_to f all.passes.0) x = subst (λ (d : Direction). pos 0 ≤ℤ cross d x) (sym all.passes.2) (after_right x within.1) in
      let before : pos 0 ≤ℤ cross x (turn_to f (suc (all.passes.0 + k))) = subst (λ (d : Direction). pos 0 ≤ℤ cross x d) (sym (is.ends (suc (all.passes.0 + k)) last)) (before_up x within.0) in
      let found = found_from x k all.passes.0 after before in
      let inside : found.0 < length f.edges = omega (arith, found.2, last, is.count) in
      let above : pos 0 ≤ℤ (turn_to f found.0).t = after_axis f.first f.second (length f.corners) (turn_to f) (λ j. (edge f j).list) all (found.0 - all.passes.0) found.0 (omega (arith, found.1)) (omega (arith, inside, is.count)) in
      (found.0, inside, sym (quadrant_is found.0 inside) ∙ quadrant_above (turn_to f found.0).t above, found.3)
