-- The corners of a fan are a function of the two chains: going round, neither of two fans can turn further than the
-- other.
use Rattle.std.proofs.Common.{◌≡◌, ℕ, zero, suc, ◌+◌, ◌-◌, ◌<◌, length, ℤ, pos, negsuc, ◌<ℤ◌, ◌≤ℤ◌, inl, inr, arith, refl, sym, ap, subst, ◌∙◌}
use Rattle.std.proofs.lemmas.Int.{ints}
use Rattle.std.proofs.lemmas.Bool.{cases_lt, cases_order}
use Rattle.sc_theory.specs.Chains.{Chain, IsChain}
use Rattle.sc_theory.specs.Prices.{Prices, Covers}
use Rattle.sc_cone.specs.declared.Direction.{Direction}
use Rattle.sc_cone.specs.declared.Quadrant.{Quadrant}
use Rattle.sc_cone.specs.declared.Quadrant.TheVariants.{Lower, Upper}
use Rattle.sc_cone.specs.Directions.{down, right, up, IsIn, IsPrimitive, cross, TurnsLeft, IsBetween}
use Rattle.sc_cone.specs.Cones.{quadrant_chain}
use Rattle.sc_cone.specs.Values.{IsTightAt}
use Rattle.sc_cone.specs.Fans.{Corner, Fan, edge, turn_to, quadrant_from, quadrant_of, IsFan}
use Rattle.sc_cone.proofs.PrimitiveDirections.{same_direction}
use Rattle.sc_cone.proofs.Turning.{not_negative, cases_sign, turned, below_before, above_after}
use Rattle.sc_cone.proofs.Betweens.{tight_between}
use Rattle.sc_cone.proofs.Agreement.{tight_beyond}

-- ---- one step round
-- a covering list that is tight at two directions of a quadrant, the second to the left of the first
pub record Leg (first second : Chain) (q : Quadrant) (d e : Direction) (l : Prices) : Type 0 where
  pub in_d : IsIn q d
  pub in_e : IsIn q e
  pub left : TurnsLeft d e
  pub covers : Covers (quadrant_chain q first second) l
  pub at_d : IsTightAt q first second l d
  pub at_e : IsTightAt q first second l e

module _ (first second : Chain) (is_first : IsChain first) (is_second : IsChain second) (q : Quadrant) where
  -- two lists from d, one to e and one further to u, with the next edge after e: its list at e makes the first one
  -- tight at the next edge's far end too
  pub no_further : (d e u f : Direction) (l m n : Prices) → Leg first second q d e l → Leg first second q d u m → Leg first second q e f n → TurnsLeft e u → IsTightAt q first second l f
  no_further d e u f l m n short long next left =
      let m_e : IsTightAt q first second m e =
      tight_between q first second m d u e is_first is_second long.covers long.in_d long.in_e long.left (record { after = not_negative (cross d e) short.left; before = not_negative (cross e u) left }) long.at_d long.at_e in
      let l_u : IsTightAt q first second l u =
      tight_beyond q first second l m d e u short.in_d short.in_e long.in_e short.left left long.left short.at_d short.at_e long.at_d m_e long.at_e in
      elim (cases_sign (cross f u)) [
        | inl flat ↦ within l_u (record { after = not_negative (cross e f) next.left; before = level (cross f u) flat })
        | inr (inl beyond) ↦ within l_u (record { after = not_negative (cross e f) next.left; before = not_negative (cross f u) beyond })
        | inr (inr over) ↦
            let n_u : IsTightAt q first second n u =
            tight_between q first second n e f u is_first is_second next.covers next.in_d next.in_e next.left (record { after = not_negative (cross e u) left; before = not_negative (cross u f) (turned f u over) }) next.at_d next.at_e in
            tight_beyond q first second l n e u f next.in_d long.in_e next.in_e left (turned f u over) next.left short.at_e l_u next.at_d n_u next.at_e
      ]
    where
      level : (a : ℤ) → a ≡ pos 0 → pos 0 ≤ℤ a
      level a h = omega (arith, ints)

      within : IsTightAt q first second l u → IsBetween e u f → IsTightAt q first second l f
      within l_u is = tight_between q first second l e u f is_first is_second short.covers short.in_e long.in_e left is short.at_e l_u

-- ---- a fan without its values, as functions of the number of a corner
pub record Round (first second : Chain) (n : ℕ) (turn : ℕ → Direction) (list : ℕ → Prices) : Type 0 where
  pub begins : turn 0 ≡ down
  pub passes : (m : ℕ) × (m < n) × (turn m ≡ right)
  pub ends : (k : ℕ) → suc k ≡ n → turn k ≡ up
  pub primitive : (i : ℕ) → i < n → IsPrimitive (turn i)
  pub half : (i : ℕ) → i < n → pos 0 ≤ℤ (turn i).s
  pub left : (i : ℕ) → suc i < n → TurnsLeft (turn i) (turn (suc i))
  pub covers : (i : ℕ) → suc i < n → Covers (quadrant_chain (quadrant_from (turn i).t) first second) (list i)
  pub tight : (i : ℕ) → suc i < n → IsTightAt (quadrant_from (turn i).t) first second (list i) (turn i) × IsTightAt (quadrant_from (turn i).t) first second (list i) (turn (suc i))
  pub apart : (i : ℕ) → suc (suc i) < n → quadrant_from (turn i).t ≡ quadrant_from (turn (suc i)).t → IsTightAt (quadrant_from (turn i).t) first second (list i) (turn (suc (suc i))) → ⊥

-- the directions of a fan's corners, and its edges' lists, are such functions
pub round : (f : Fan) → IsFan f → Round f.first f.second (length f.corners) (turn_to f) (λ i. (edge f i).list)
round f is =
    let from : (i : ℕ) → suc i < length f.corners → quadrant_of f i ≡ quadrant_from (turn_to f i).t =
    λ i inside. ap (λ (c : Corner). quadrant_from c.direction.t) (is.joins i (inner i inside)).0 in
    record {
      begins = is.begins;
      passes = is.passes;
      ends = is.ends;
      primitive = is.primitive;
      half = is.half;
      left = is.left;
      covers = λ i inside. subst (λ (q : Quadrant). Covers (quadrant_chain q f.first f.second) (edge f i).list) (from i inside) (is.covers i (inner i inside));
      tight = λ i inside. subst (λ (q : Quadrant). IsTightAt q f.first f.second (edge f i).list (turn_to f i) × IsTightAt q f.first f.second (edge f i).list (turn_to f (suc i))) (from i inside) (is.tight i (inner i inside));
      apart = λ i inside same at_end.
          is.apart i (inner (suc i) inside) (from i (omega arith) ∙ same ∙ sym (from (suc i) inside))
          (subst (λ (q : Quadrant). IsTightAt q f.first f.second (edge f i).list (turn_to f (suc (suc i)))) (sym (from i (omega arith))) at_end);
    }
  where
    inner : (i : ℕ) → suc i < length f.corners → i < length f.edges
    inner i inside = omega (arith, is.count)

-- ---- signs
pub quadrant_below : (t : ℤ) → t <ℤ pos 0 → quadrant_from t ≡ Lower
quadrant_below (pos t) h = absurd (omega (arith, ints))
quadrant_below (negsuc t) h = refl

pub quadrant_above : (t : ℤ) → pos 0 ≤ℤ t → quadrant_from t ≡ Upper
quadrant_above (pos t) h = refl
quadrant_above (negsuc t) h = absurd (omega (arith, ints))

-- nothing is to the left of the second axis
nothing_after_up : (x : Direction) → pos 0 ≤ℤ x.s → TurnsLeft up x → ⊥
nothing_after_up x low left = omega (arith, ints)

module _ (first second : Chain) (n : ℕ) (turn : ℕ → Direction) (list : ℕ → Prices) (is : Round first second n turn list) where
  -- below the first axis before it is passed, and above it afterwards
  pub before_axis : (k i : ℕ) → i + suc k ≡ is.passes.0 → (turn i).t <ℤ pos 0
  before_axis zero i e =
      let next : turn (suc i) ≡ right = ap turn (omega arith) ∙ is.passes.2 in
      let left : TurnsLeft (turn i) right = subst (λ (x : Direction). TurnsLeft (turn i) x) next (is.left i (omega (arith, is.passes.1))) in
      below_before (turn i).s (turn i).t (pos 1) (pos 0) (is.half i (omega (arith, is.passes.1))) (omega (arith, ints)) (omega (arith, ints)) left
  before_axis (suc k) i e =
      below_before (turn i).s (turn i).t (turn (suc i)).s (turn (suc i)).t (is.half i (omega (arith, is.passes.1))) (is.half (suc i) (omega (arith, is.passes.1))) (at_most_zero (turn (suc i)).t (before_axis k (suc i) (omega arith))) (is.left i (omega (arith, is.passes.1)))
    where
      at_most_zero : (t : ℤ) → t <ℤ pos 0 → t ≤ℤ pos 0
      at_most_zero t h = omega (arith, ints)

  pub after_axis : (k i : ℕ) → is.passes.0 + k ≡ i → i < n → pos 0 ≤ℤ (turn i).t
  after_axis zero i e inside =
      let here : turn i ≡ right = ap turn (omega arith) ∙ is.passes.2 in
      subst (λ (x : Direction). pos 0 ≤ℤ x.t) (sym here) (omega (arith, ints))
  after_axis (suc k) zero e inside = absurd (omega arith)
  after_axis (suc k) (suc i) e inside =
      not_negative (turn (suc i)).t
      (above_after (turn i).s (turn i).t (turn (suc i)).s (turn (suc i)).t (is.half i (omega arith)) (is.half (suc i) inside) (after_axis k i (omega arith) (omega arith)) (is.left i inside))

  -- each edge lies in its quadrant
  pub edge_within : (i : ℕ) → suc i < n → IsIn (quadrant_from (turn i).t) (turn i) × IsIn (quadrant_from (turn i).t) (turn (suc i))
  edge_within i inside =
      elim (cases_lt i is.passes.0) [
        | inl before ↦
            let here : (turn i).t <ℤ pos 0 = before_axis (is.passes.0 - suc i) i (omega arith) in
            subst (λ (q : Quadrant). IsIn q (turn i) × IsIn q (turn (suc i))) (sym (quadrant_below (turn i).t here))
            ((is.half i (omega arith), low (turn i).t here), (is.half (suc i) inside, next before))
        | inr after ↦
            let here : pos 0 ≤ℤ (turn i).t = after_axis (i - is.passes.0) i (omega arith) (omega arith) in
            subst (λ (q : Quadrant). IsIn q (turn i) × IsIn q (turn (suc i))) (sym (quadrant_above (turn i).t here))
            ((is.half i (omega arith), here), (is.half (suc i) inside, after_axis (suc i - is.passes.0) (suc i) (omega arith) inside))
      ]
    where
      low : (t : ℤ) → t <ℤ pos 0 → t ≤ℤ pos 0
      low t h = omega (arith, ints)

      next : i < is.passes.0 → (turn (suc i)).t ≤ℤ pos 0
      next before =
          elim (cases_lt (suc i) is.passes.0) [
            | inl yet ↦ low (turn (suc i)).t (before_axis (is.passes.0 - suc (suc i)) (suc i) (omega arith))
            | inr at ↦
                let there : turn (suc i) ≡ right = ap turn (omega arith) ∙ is.passes.2 in
                subst (λ (x : Direction). x.t ≤ℤ pos 0) (sym there) (omega (arith, ints))
          ]

  -- from each corner to the next goes a leg, with the edge's list
  pub leg : (i : ℕ) → suc i < n → Leg first second (quadrant_from (turn i).t) (turn i) (turn (suc i)) (list i)
  leg i inside =
      let within = edge_within i inside in
      let tight = is.tight i inside in
      record { in_d = within.0; in_e = within.1; left = is.left i inside; covers = is.covers i inside; at_d = tight.0; at_e = tight.1 }

  -- a direction to the left of an edge, in its quadrant: there is a next edge, in the same quadrant
  has_next : (i : ℕ) → suc i < n → (x : Direction) → IsIn (quadrant_from (turn i).t) x → TurnsLeft (turn (suc i)) x → (suc (suc i) < n) × (quadrant_from (turn (suc i)).t ≡ quadrant_from (turn i).t)
  has_next i inside x in_x left = (further, same (quadrant_from (turn i).t) refl)
    where
      right_of : (q : Quadrant) → IsIn q x → pos 0 ≤ℤ x.s
      right_of Lower at = at.0
      right_of Upper at = at.0

      further : suc (suc i) < n
      further =
          elim (cases_lt (suc (suc i)) n) [
            | inl yet ↦ yet
            | inr over ↦
                let top : turn (suc i) ≡ up = is.ends (suc i) (omega arith) in
                absurd (nothing_after_up x (right_of (quadrant_from (turn i).t) in_x) (subst (λ (d : Direction). TurnsLeft d x) top left))
          ]

      same : (q : Quadrant) → quadrant_from (turn i).t ≡ q → quadrant_from (turn (suc i)).t ≡ quadrant_from (turn i).t
      same Lower e =
          let at = subst (λ (q : Quadrant). IsIn q x) e in_x in
          quadrant_below (turn (suc i)).t (below_before (turn (suc i)).s (turn (suc i)).t x.s x.t (is.half (suc i) inside) at.0 at.1 left) ∙ sym e
      same Upper e =
          let at = subst (λ (q : Quadrant). IsIn q (turn (suc i))) e (edge_within i inside).1 in
          quadrant_above (turn (suc i)).t at.1 ∙ sym e

  -- no list that begins where an edge does goes further than it
  pub not_overtaken : IsChain first → IsChain second → (i : ℕ) → suc i < n → (x : Direction) (m : Prices) → Leg first second (quadrant_from (turn i).t) (turn i) x m → TurnsLeft (turn (suc i)) x → ⊥
  not_overtaken is_first is_second i inside x m long left =
      let next = has_next i inside x long.in_e left in
      is.apart i next.0 (sym next.1)
      (no_further first second is_first is_second (quadrant_from (turn i).t) (turn i) (turn (suc i)) x (turn (suc (suc i))) (list i) m (list (suc i))
      (leg i inside) long
      (subst (λ (q : Quadrant). Leg first second q (turn (suc i)) (turn (suc (suc i))) (list (suc i))) next.1 (leg (suc i) next.0)) left)

-- ---- two fans
module _ (first second : Chain) (is_first : IsChain first) (is_second : IsChain second) where
  -- two fans of the same chains have the same directions, as far as both have corners
  pub same_turns : (n n' : ℕ) (turn turn' : ℕ → Direction) (list list' : ℕ → Prices) → Round first second n turn list → Round first second n' turn' list' → (i : ℕ) → i < n → i < n' → turn i ≡ turn' i
  same_turns n n' turn turn' list list' is is' zero inside inside' = is.begins ∙ sym is'.begins
  same_turns n n' turn turn' list list' is is' (suc i) inside inside' =
      let here : turn i ≡ turn' i = same_turns n n' turn turn' list list' is is' i (omega arith) (omega arith) in
      let short : Leg first second (quadrant_from (turn i).t) (turn i) (turn (suc i)) (list i) = leg first second n turn list is i inside in
      let other : Leg first second (quadrant_from (turn' i).t) (turn' i) (turn' (suc i)) (list' i) = leg first second n' turn' list' is' i inside' in
      let moved : Leg first second (quadrant_from (turn i).t) (turn i) (turn' (suc i)) (list' i) = subst (λ (d : Direction). Leg first second (quadrant_from d.t) d (turn' (suc i)) (list' i)) (sym here) other in
      elim (cases_sign (cross (turn (suc i)) (turn' (suc i)))) [
        | inl flat ↦ same_direction (quadrant_from (turn i).t) (turn (suc i)) (turn' (suc i)) short.in_e moved.in_e (is.primitive (suc i) inside) (is'.primitive (suc i) inside') flat
        | inr (inl beyond) ↦ absurd (not_overtaken first second n turn list is is_first is_second i inside (turn' (suc i)) (list' i) moved beyond)
        | inr (inr over) ↦
            absurd (not_overtaken first second n' turn' list' is' is_first is_second i inside' (turn (suc i)) (list i)
            (subst (λ (d : Direction). Leg first second (quadrant_from d.t) d (turn (suc i)) (list i)) here short) (turned (turn (suc i)) (turn' (suc i)) over))
      ]

  not_more : (n n' : ℕ) (turn turn' : ℕ → Direction) (list list' : ℕ → Prices) → Round first second n turn list → Round first second n' turn' list' → n < n' → ⊥
  not_more zero n' turn turn' list list' is is' less = omega (arith, is.passes.1)
  not_more (suc k) n' turn turn' list list' is is' less =
      let top : turn' k ≡ up = sym (same_turns (suc k) n' turn turn' list list' is is' k (omega arith) (omega arith)) ∙ is.ends k refl in
      nothing_after_up (turn' (suc k)) (is'.half (suc k) less) (subst (λ (d : Direction). TurnsLeft d (turn' (suc k))) top (is'.left k less))

  -- and so as many corners
  pub same_count : (n n' : ℕ) (turn turn' : ℕ → Direction) (list list' : ℕ → Prices) → Round first second n turn list → Round first second n' turn' list' → n ≡ n'
  same_count n n' turn turn' list list' is is' =
      elim (cases_order n n') [
        | inl same ↦ same
        | inr (inl less) ↦ absurd (not_more n n' turn turn' list list' is is' less)
        | inr (inr more) ↦ absurd (not_more n' n turn' turn list' list is' is more)
      ]
