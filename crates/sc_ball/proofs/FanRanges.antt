-- The lists of the edges of a fan are for the chains of their quadrants.
use Rattle.std.proofs.Common.{◌≡◌, ℕ, zero, suc, ◌+◌, ◌-◌, ◌<◌, ◌≤◌, List, [], ◌∷◌, ◌++◌, map, length, get_or, ℤ, pos, ◌-ℤ◌, ◌*ℤ◌, ◌≤ℤ◌, ◌<ℤ◌, inl, inr, arith, refl, sym, ap, subst, ◌∙◌}
use Rattle.std.specs.Prelude.{All}
use Rattle.std.specs.List.{AllByRecursion, enumerate_from}
use Rattle.std.proofs.lemmas.Int.{ints}
use Rattle.std.proofs.lemmas.Bool.{cases_lt}
use Rattle.std.proofs.lemmas.List.{length-append, get_or_append_left, get_or-append-add}
use Rattle.sc_algebra.proofs.Ints.{mul-zero, zero-mul}
use Rattle.sc_theory.specs.Chains.{Chain}
use Rattle.sc_theory.specs.Prices.{Prices}
use Rattle.sc_cone.specs.declared.Direction.{Direction}
use Rattle.sc_cone.specs.declared.Quadrant.{Quadrant}
use Rattle.sc_cone.specs.declared.Quadrant.TheVariants.{Lower, Upper}
use Rattle.sc_cone.specs.Directions.{IsIn, TurnsLeft, first_end, last_end}
use Rattle.sc_cone.specs.Cones.{quadrant_chain}
use Rattle.sc_cone.specs.Fans.{Corner, Edge, Fan, no_corner, no_edge, corner, edge, turn_to, quadrant_of, quadrant_from, IsFan, IsHalf}
use Rattle.sc_cone.proofs.WholePlane.{edge_in}
use Rattle.sc_fan.specs.declared.fan.Edge.{Edge as EdgeParts}
use Rattle.sc_fan.specs.Fans.{IsListFor, quadrant_at, edge_chain}
use Rattle.sc_fan.specs.FanRead.{edge_said}

-- a half has two corners at least, its two ends
ends_apart : (q : Quadrant) → first_end q ≡ last_end q → ⊥
ends_apart Lower e = zero_is_not_one (ap (λ (d : Direction). d.s) e)
  where
    zero_is_not_one : pos 0 ≡ pos 1 → ⊥
    zero_is_not_one h = omega (arith, ints, h)
ends_apart Upper e = one_is_not_zero (ap (λ (d : Direction). d.s) e)
  where
    one_is_not_zero : pos 1 ≡ pos 0 → ⊥
    one_is_not_zero h = omega (arith, ints, h)

-- a half has a first and a last corner, and these are two
pub half_has_two : (q : Quadrant) (first second : Chain) (corners : List Corner) (edges : List Edge) → IsHalf q first second corners edges → 2 ≤ length corners
half_has_two q first second corners edges half =
    elim (cases_lt 1 (length corners)) [
      | inl more ↦ omega arith
      | inr one ↦
          let alone : 1 ≡ length corners = omega (arith, half.arc.count) in
          absurd (ends_apart q (sym half.begins ∙ half.ends 0 alone))
    ]

-- no edge lies in both quadrants
on_axis : (t : ℤ) → t ≤ℤ pos 0 → pos 0 ≤ℤ t → t ≡ pos 0
on_axis t h h' = omega (arith, ints)

not_in_both : (d e : Direction) → IsIn Lower d → IsIn Upper d → IsIn Lower e → IsIn Upper e → TurnsLeft d e → ⊥
not_in_both d e low_d high_d low_e high_e left =
    flat d.s d.t e.s e.t (on_axis d.t low_d.1 high_d.1) (on_axis e.t low_e.1 high_e.1) left
  where
    flat : (s t s' t' : ℤ) → t ≡ pos 0 → t' ≡ pos 0 → pos 0 <ℤ (s *ℤ t' -ℤ t *ℤ s') → ⊥
    flat s t s' t' e e' turns =
        let p : s *ℤ t' ≡ pos 0 = ap (λ (x : ℤ). s *ℤ x) e' ∙ mul-zero s in
        let p' : t *ℤ s' ≡ pos 0 = ap (λ (x : ℤ). x *ℤ s') e ∙ zero-mul s' in
        omega (arith, ints, p, p', turns)

module _ (f : Fan) (is : IsFan f) where
  both_in : (i : ℕ) → i < length f.edges → IsIn (quadrant_of f i) (turn_to f i) × IsIn (quadrant_of f i) (turn_to f (suc i))
  both_in i inside = edge_in f is i inside

  turns : (i : ℕ) → i < length f.edges → TurnsLeft (turn_to f i) (turn_to f (suc i))
  turns i inside = is.left i (omega (arith, is.count))

  -- an edge with both ends in a quadrant is of that quadrant
  pub edge_of : (q : Quadrant) (i : ℕ) → i < length f.edges → IsIn q (turn_to f i) → IsIn q (turn_to f (suc i)) → quadrant_of f i ≡ q
  edge_of q i inside here next = one (quadrant_of f i) q (both_in i inside).0 (both_in i inside).1 here next
    where
      one : (p r : Quadrant) → IsIn p (turn_to f i) → IsIn p (turn_to f (suc i)) → IsIn r (turn_to f i) → IsIn r (turn_to f (suc i)) → p ≡ r
      one Lower Lower a b c d = refl
      one Upper Upper a b c d = refl
      one Lower Upper a b c d = absurd (not_in_both (turn_to f i) (turn_to f (suc i)) a c b d (turns i inside))
      one Upper Lower a b c d = absurd (not_in_both (turn_to f i) (turn_to f (suc i)) c a d b (turns i inside))

  -- it is named by the corner that it goes from
  pub named_by_corner : (i : ℕ) → i < length f.edges → quadrant_of f i ≡ quadrant_at f.corners i
  named_by_corner i inside = ap (λ (c : Corner). quadrant_from c.direction.t) (is.joins i inside).0

-- ---- two halves
module _ (first second : Chain) (before : List Corner) (c d : Corner) (after : List Corner) (es fs : List Edge) (same : c ≡ d) (low : IsHalf Lower first second (before ++ c ∷ []) es) (high : IsHalf Upper first second (d ∷ after) fs) (is : IsFan (record { first = first; second = second; corners = before ++ d ∷ after; edges = es ++ fs })) where
  abbrev whole : Fan
  whole = record { first = first; second = second; corners = before ++ d ∷ after; edges = es ++ fs }

  low_size : suc (length es) ≡ length before + 1
  low_size = omega (arith, low.arc.count, length-append before (c ∷ []))

  low_corner : (i : ℕ) → i ≤ length before → corner whole i ≡ get_or (before ++ c ∷ []) i no_corner
  low_corner i inside = sym (ap (λ (x : Corner). get_or (before ++ x ∷ []) i no_corner) same ∙ upto before d after i inside)
    where
      upto : (xs : List Corner) (y : Corner) (ys : List Corner) (i : ℕ) → i ≤ length xs → get_or (xs ++ y ∷ []) i no_corner ≡ get_or (xs ++ y ∷ ys) i no_corner
      upto [] y ys zero inside = refl
      upto [] y ys (suc i) inside = absurd (omega arith)
      upto (x ∷ xs) y ys zero inside = refl
      upto (x ∷ xs) y ys (suc i) inside = upto xs y ys i (omega arith)

  low_within : (i : ℕ) → i ≤ length before → IsIn Lower (turn_to whole i)
  low_within i inside = subst (λ (x : Corner). IsIn Lower x.direction) (sym (low_corner i inside)) (low.arc.within i (omega (arith, length-append before (c ∷ []))))

  high_corner : (k : ℕ) → corner whole (length before + k) ≡ get_or (d ∷ after) k no_corner
  high_corner k = get_or-append-add before (d ∷ after) k no_corner

  high_within : (k : ℕ) → k < length (d ∷ after) → IsIn Upper (turn_to whole (length before + k))
  high_within k inside = subst (λ (x : Corner). IsIn Upper x.direction) (sym (high_corner k)) (high.arc.within k inside)

  abbrev HasList : Quadrant → Edge → Type 0
  HasList q e = IsListFor (quadrant_chain q first second) e.list

  -- the list of each edge of both halves is for the chain of the edge's quadrant
  pub lists_of_two : All (HasList Lower) es → All (HasList Upper) fs → (i : ℕ) → i < length (es ++ fs) → IsListFor (edge_chain first second (before ++ d ∷ after) i) (edge whole i).list
  lists_of_two low_lists high_lists i inside =
      elim (cases_lt i (length es)) [
        | inl here ↦
            let q : quadrant_of whole i ≡ Lower = edge_of whole is Lower i inside (low_within i (omega (arith, low_size))) (low_within (suc i) (omega (arith, low_size))) in
            let e : get_or es i no_edge ≡ edge whole i = sym (get_or_append_left es fs no_edge i here) in
            of_quadrant Lower (sym q ∙ named_by_corner whole is i inside) (subst (HasList Lower) e (low_lists i no_edge here))
        | inr past ↦
            let k : ℕ = i - length es in
            let place : length before + k ≡ i = omega (arith, low_size) in
            let next : length before + suc k ≡ suc i = omega (arith, low_size) in
            let room : k < length fs = omega (arith, length-append es fs) in
            let from : IsIn Upper (turn_to whole i) = subst (λ (j : ℕ). IsIn Upper (turn_to whole j)) place (high_within k (omega (arith, high.arc.count))) in
            let to : IsIn Upper (turn_to whole (suc i)) = subst (λ (j : ℕ). IsIn Upper (turn_to whole j)) next (high_within (suc k) (omega (arith, high.arc.count))) in
            let q : quadrant_of whole i ≡ Upper = edge_of whole is Upper i inside from to in
            let there : length es + k ≡ i = omega arith in
            let e : get_or fs k no_edge ≡ edge whole i = sym (get_or-append-add es fs k no_edge) ∙ ap (edge whole) there in
            of_quadrant Upper (sym q ∙ named_by_corner whole is i inside) (subst (HasList Upper) e (high_lists k no_edge room))
      ]
    where
      of_quadrant : (q : Quadrant) → q ≡ quadrant_at (before ++ d ∷ after) i → HasList q (edge whole i) → IsListFor (edge_chain first second (before ++ d ∷ after) i) (edge whole i).list
      of_quadrant q e list = subst (λ (p : Quadrant). HasList p (edge whole i)) e list

-- ---- the lists by their numbers
-- what holds of the element of each number holds of all elements, and so of the lists of edges by number
pub by_number : {A : Type 0} (P : A → Type 0) (none : A) (xs : List A) → ((i : ℕ) → i < length xs → P (get_or xs i none)) → AllByRecursion P xs
by_number P none [] h = tt
by_number P none (x ∷ xs) h = (h 0 (omega arith), by_number P none xs (λ i inside. h (suc i) (omega arith)))

pub lists_by_number : (P : ℕ → Prices → Type 0) (k : ℕ) (edges : List EdgeParts) → ((i : ℕ) → i < length edges → P (k + i) (get_or (map edge_said edges) i no_edge).list) → AllByRecursion (λ (e : ℕ × Prices). P e.0 e.1) (enumerate_from k (map (λ (e : EdgeParts). e.list) edges))
lists_by_number P k [] h = tt
lists_by_number P k (e ∷ edges) h =
    let start : k + 0 ≡ k = omega arith in
    (subst (λ (n : ℕ). P n e.list) start (h 0 (omega arith)), lists_by_number P (k + 1) edges (λ i inside. shifted i (h (suc i) (omega arith))))
  where
    shifted : (i : ℕ) → P (k + suc i) (get_or (map edge_said edges) i no_edge).list → P (k + 1 + i) (get_or (map edge_said edges) i no_edge).list
    shifted i p = let e' : k + suc i ≡ k + 1 + i = omega arith in subst (λ (n : ℕ). P n (get_or (map edge_said edges) i no_edge).list) e' p
