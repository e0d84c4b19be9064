-- The fan of two halves.
use Rattle.std.proofs.Common.{◌≡◌, ℕ, zero, suc, ◌+◌, ◌-◌, ◌<◌, ◌≤◌, List, [], ◌∷◌, ◌++◌, length, get_or, ℤ, pos, ◌<ℤ◌, ◌≤ℤ◌, inl, inr, arith, refl, sym, ap, subst, ◌∙◌}
use Rattle.std.proofs.lemmas.Int.{ints}
use Rattle.std.proofs.lemmas.Bool.{cases_lt}
use Rattle.std.proofs.lemmas.List.{length-append, get_or_append_left, get_or-append-add}
use Rattle.sc_theory.specs.Chains.{Chain}
use Rattle.sc_theory.specs.Prices.{Prices, Covers}
use Rattle.sc_cone.specs.declared.Direction.{Direction}
use Rattle.sc_cone.specs.declared.Quadrant.{Quadrant}
use Rattle.sc_cone.specs.declared.Quadrant.TheVariants.{Lower, Upper}
use Rattle.sc_cone.specs.Directions.{IsIn, IsPrimitive, TurnsLeft}
use Rattle.sc_cone.specs.Cones.{chain_of, quadrant_chain}
use Rattle.sc_cone.specs.Values.{IsValueOf, IsTightAt}
use Rattle.sc_cone.specs.Fans.{Corner, Edge, Fan, no_corner, no_edge, corner, edge, turn_to, quadrant_from, quadrant_of, IsFan, IsHalf}
use Rattle.sc_cone.proofs.Turning.{below_before, above_after}
use Rattle.sc_cone.proofs.Corners.{quadrant_below, quadrant_above}

tight_moved : (first second : Chain) (q r : Quadrant) (l m : Prices) (d e : Direction) → q ≡ r → l ≡ m → d ≡ e → IsTightAt q first second l d → IsTightAt r first second m e
tight_moved first second q r l m d e of_q of_l of_d tight =
    subst (λ (x : Direction). IsTightAt r first second m x) of_d
    (subst (λ (x : Prices). IsTightAt r first second x d) of_l (subst (λ (x : Quadrant). IsTightAt x first second l d) of_q tight))

value_at : (first second : Chain) (q : Quadrant) (c d : Corner) → c ≡ d → IsValueOf (chain_of q first second c.direction) c.value.0 c.value.1 → IsValueOf (chain_of q first second d.direction) d.value.0 d.value.1
value_at first second q c d e v = subst (λ (x : Corner). IsValueOf (chain_of q first second x.direction) x.value.0 x.value.1) e v

other_side : Lower ≡ Upper → ⊥
other_side e = cc

low_corner : (before : List Corner) (c : Corner) (after : List Corner) (i : ℕ) → i ≤ length before → get_or (before ++ c ∷ []) i no_corner ≡ get_or (before ++ c ∷ after) i no_corner
low_corner [] c after zero inside = refl
low_corner [] c after (suc i) inside = absurd (omega arith)
low_corner (b ∷ before) c after zero inside = refl
low_corner (b ∷ before) c after (suc i) inside = low_corner before c after i (omega arith)

module _ (first second : Chain) (before : List Corner) (c : Corner) (after : List Corner) (es fs : List Edge) (low : IsHalf Lower first second (before ++ c ∷ []) es) (high : IsHalf Upper first second (c ∷ after) fs) where
  abbrev whole : Fan
  whole = record { first = first; second = second; corners = before ++ c ∷ after; edges = es ++ fs }

  all_corners : length (before ++ c ∷ after) ≡ length before + suc (length after)
  all_corners = length-append before (c ∷ after)

  low_corners : length (before ++ c ∷ []) ≡ length before + 1
  low_corners = length-append before (c ∷ [])

  low_edges : length es ≡ length before
  low_edges = omega (arith, low.arc.count, low_corners)

  all_edges : length (es ++ fs) ≡ length before + length fs
  all_edges = omega (arith, length-append es fs, low_edges)

  corner_low : (i : ℕ) → i ≤ length before → get_or (before ++ c ∷ []) i no_corner ≡ corner whole i
  corner_low i inside = low_corner before c after i inside

  corner_high : (i : ℕ) → length before ≤ i → get_or (c ∷ after) (i - length before) no_corner ≡ corner whole i
  corner_high i past =
      let e : length before + (i - length before) ≡ i = omega arith in
      sym (get_or-append-add before (c ∷ after) (i - length before) no_corner) ∙ ap (corner whole) e

  edge_low : (i : ℕ) → i < length before → get_or es i no_edge ≡ edge whole i
  edge_low i inside = sym (get_or_append_left es fs no_edge i (omega (arith, low_edges)))

  edge_high : (i : ℕ) → length before ≤ i → get_or fs (i - length before) no_edge ≡ edge whole i
  edge_high i past =
      let e : length es + (i - length before) ≡ i = omega (arith, low_edges) in
      sym (get_or-append-add es fs (i - length before) no_edge) ∙ ap (edge whole) e

  turn_low : (i : ℕ) → i ≤ length before → (get_or (before ++ c ∷ []) i no_corner).direction ≡ turn_to whole i
  turn_low i inside = ap (λ (x : Corner). x.direction) (corner_low i inside)

  turn_high : (i : ℕ) → length before ≤ i → (get_or (c ∷ after) (i - length before) no_corner).direction ≡ turn_to whole i
  turn_high i past = ap (λ (x : Corner). x.direction) (corner_high i past)

  after_next : (i : ℕ) → length before ≤ i → suc (i - length before) ≡ suc i - length before
  after_next i past = omega arith

  within_low : (i : ℕ) → i ≤ length before → IsIn Lower (turn_to whole i)
  within_low i inside = subst (IsIn Lower) (turn_low i inside) (low.arc.within i (omega (arith, low_corners)))

  within_high : (i : ℕ) → length before ≤ i → i < length (before ++ c ∷ after) → IsIn Upper (turn_to whole i)
  within_high i past inside = subst (IsIn Upper) (turn_high i past) (high.arc.within (i - length before) (omega (arith, all_corners)))

  left_at : (i : ℕ) → suc i < length (before ++ c ∷ after) → TurnsLeft (turn_to whole i) (turn_to whole (suc i))
  left_at i inside =
      elim (cases_lt i (length before)) [
        | inl here ↦
            subst (λ (d : Direction). TurnsLeft d (turn_to whole (suc i))) (turn_low i (omega arith))
            (subst (λ (d : Direction). TurnsLeft (get_or (before ++ c ∷ []) i no_corner).direction d) (turn_low (suc i) (omega arith)) (low.arc.left i (omega (arith, low_corners))))
        | inr past ↦
            let next : (get_or (c ∷ after) (suc (i - length before)) no_corner).direction ≡ turn_to whole (suc i) =
            ap (λ (k : ℕ). (get_or (c ∷ after) k no_corner).direction) (after_next i past) ∙ turn_high (suc i) (omega arith) in
            subst (λ (d : Direction). TurnsLeft d (turn_to whole (suc i))) (turn_high i past)
            (subst (λ (d : Direction). TurnsLeft (get_or (c ∷ after) (i - length before) no_corner).direction d) next (high.arc.left (i - length before) (omega (arith, all_corners))))
      ]

  below_axis : (i : ℕ) → i < length before → (turn_to whole i).t <ℤ pos 0
  below_axis i inside =
      let here = within_low i (omega arith) in
      let next = within_low (suc i) (omega arith) in
      below_before (turn_to whole i).s (turn_to whole i).t (turn_to whole (suc i)).s (turn_to whole (suc i)).t here.0 next.0 next.1 (left_at i (omega (arith, all_corners)))

  above_axis : (i : ℕ) → length before ≤ i → suc i < length (before ++ c ∷ after) → pos 0 <ℤ (turn_to whole (suc i)).t
  above_axis i past inside =
      let here = within_high i past (omega arith) in
      let next = within_high (suc i) (omega arith) inside in
      above_after (turn_to whole i).s (turn_to whole i).t (turn_to whole (suc i)).s (turn_to whole (suc i)).t here.0 next.0 here.1 (left_at i inside)

  joins_at : (i : ℕ) → i < length (es ++ fs) → ((edge whole i).from ≡ corner whole i) × ((edge whole i).to ≡ corner whole (suc i))
  joins_at i inside =
      elim (cases_lt i (length before)) [
        | inl here ↦
            let joined = low.arc.joins i (omega (arith, low_edges)) in
            (ap (λ (x : Edge). x.from) (sym (edge_low i here)) ∙ joined.0 ∙ corner_low i (omega arith), ap (λ (x : Edge). x.to) (sym (edge_low i here)) ∙ joined.1 ∙ corner_low (suc i) (omega arith))
        | inr past ↦
            let joined = high.arc.joins (i - length before) (omega (arith, all_edges)) in (
              ap (λ (x : Edge). x.from) (sym (edge_high i past)) ∙ joined.0 ∙ corner_high i past,
              ap (λ (x : Edge). x.to) (sym (edge_high i past)) ∙ joined.1 ∙ ap (λ (k : ℕ). get_or (c ∷ after) k no_corner) (after_next i past) ∙ corner_high (suc i) (omega arith),
            )
      ]

  from_turn : (i : ℕ) → i < length (es ++ fs) → quadrant_of whole i ≡ quadrant_from (turn_to whole i).t
  from_turn i inside = ap (λ (x : Corner). quadrant_from x.direction.t) (joins_at i inside).0

  lower_edge : (i : ℕ) → i < length before → quadrant_of whole i ≡ Lower
  lower_edge i inside = from_turn i (omega (arith, all_edges)) ∙ quadrant_below (turn_to whole i).t (below_axis i inside)

  upper_edge : (i : ℕ) → length before ≤ i → i < length (es ++ fs) → quadrant_of whole i ≡ Upper
  upper_edge i past inside =
      from_turn i inside ∙ quadrant_above (turn_to whole i).t (within_high i past (omega (arith, all_edges, all_corners, high.arc.count))).1

  list_low : (i : ℕ) → i < length before → (get_or es i no_edge).list ≡ (edge whole i).list
  list_low i inside = ap (λ (x : Edge). x.list) (edge_low i inside)

  list_high : (i : ℕ) → length before ≤ i → (get_or fs (i - length before) no_edge).list ≡ (edge whole i).list
  list_high i past = ap (λ (x : Edge). x.list) (edge_high i past)

  values_at : (i : ℕ) (q : Quadrant) → i < length (before ++ c ∷ after) → IsIn q (turn_to whole i) → IsValueOf (chain_of q first second (turn_to whole i)) (corner whole i).value.0 (corner whole i).value.1
  values_at i Lower inside is =
      elim (cases_lt (length before) i) [
        | inl past ↦ absurd (beyond i past inside is)
        | inr here ↦ value_at first second Lower (get_or (before ++ c ∷ []) i no_corner) (corner whole i) (corner_low i here) (low.arc.values i (omega (arith, low_corners)))
      ]
    where
      above : (t : ℤ) → pos 0 <ℤ t → t ≤ℤ pos 0 → ⊥
      above t h k = omega (arith, ints)

      beyond : (i : ℕ) → length before < i → i < length (before ++ c ∷ after) → IsIn Lower (turn_to whole i) → ⊥
      beyond zero past inside is = omega arith
      beyond (suc i) past inside is = above (turn_to whole (suc i)).t (above_axis i (omega arith) inside) is.1
  values_at i Upper inside is =
      elim (cases_lt i (length before)) [
        | inl here ↦ absurd (below (turn_to whole i).t (below_axis i here) is.1)
        | inr past ↦ value_at first second Upper (get_or (c ∷ after) (i - length before) no_corner) (corner whole i) (corner_high i past) (high.arc.values (i - length before) (omega (arith, all_corners)))
      ]
    where
      below : (t : ℤ) → t <ℤ pos 0 → pos 0 ≤ℤ t → ⊥
      below t h k = omega (arith, ints)

  covers_at : (i : ℕ) → i < length (es ++ fs) → Covers (quadrant_chain (quadrant_of whole i) first second) (edge whole i).list
  covers_at i inside =
      elim (cases_lt i (length before)) [
        | inl here ↦
            subst (λ (q : Quadrant). Covers (quadrant_chain q first second) (edge whole i).list) (sym (lower_edge i here))
            (subst (λ (l : Prices). Covers (quadrant_chain Lower first second) l) (list_low i here) (low.arc.covers i (omega (arith, low_edges))))
        | inr past ↦
            subst (λ (q : Quadrant). Covers (quadrant_chain q first second) (edge whole i).list) (sym (upper_edge i past inside))
            (subst (λ (l : Prices). Covers (quadrant_chain Upper first second) l) (list_high i past) (high.arc.covers (i - length before) (omega (arith, all_edges))))
      ]

  tight_at : (i : ℕ) → i < length (es ++ fs) → IsTightAt (quadrant_of whole i) first second (edge whole i).list (turn_to whole i) × IsTightAt (quadrant_of whole i) first second (edge whole i).list (turn_to whole (suc i))
  tight_at i inside =
      elim (cases_lt i (length before)) [
        | inl here ↦
            let both = low.arc.tight i (omega (arith, low_edges)) in (
              tight_moved first second Lower (quadrant_of whole i) _ (edge whole i).list _ (turn_to whole i) (sym (lower_edge i here)) (list_low i here) (turn_low i (omega arith)) both.0,
              tight_moved first second Lower (quadrant_of whole i) _ (edge whole i).list _ (turn_to whole (suc i)) (sym (lower_edge i here)) (list_low i here) (turn_low (suc i) (omega arith)) both.1,
            )
        | inr past ↦
            let both = high.arc.tight (i - length before) (omega (arith, all_edges)) in (
              tight_moved first second Upper (quadrant_of whole i) _ (edge whole i).list _ (turn_to whole i) (sym (upper_edge i past inside)) (list_high i past) (turn_high i past) both.0,
              tight_moved first second Upper (quadrant_of whole i) _ (edge whole i).list _ (turn_to whole (suc i)) (sym (upper_edge i past inside)) (list_high i past) (ap (λ (k : ℕ). (get_or (c ∷ after) k no_corner).direction) (after_next i past) ∙ turn_high (suc i) (omega arith)) both.1,
            )
      ]

  apart_at : (i : ℕ) → suc i < length (es ++ fs) → quadrant_of whole i ≡ quadrant_of whole (suc i) → IsTightAt (quadrant_of whole i) first second (edge whole i).list (turn_to whole (suc (suc i))) → ⊥
  apart_at i inside same tight =
      elim (cases_lt i (length before)) [
        | inl here ↦ elim (cases_lt (suc i) (length before)) [
          | inl next ↦
              low.arc.apart i (omega (arith, low_edges))
              (tight_moved first second (quadrant_of whole i) Lower (edge whole i).list _ (turn_to whole (suc (suc i))) _ (lower_edge i here) (sym (list_low i here)) (sym (turn_low (suc (suc i)) (omega arith))) tight)
          | inr over ↦ absurd (other_side (sym (lower_edge i here) ∙ same ∙ upper_edge (suc i) over inside))
        ]
        | inr past ↦
            high.arc.apart (i - length before) (omega (arith, all_edges))
            (tight_moved first second (quadrant_of whole i) Upper (edge whole i).list _ (turn_to whole (suc (suc i))) _ (upper_edge i past (omega arith)) (sym (list_high i past)) (sym (ap (λ (k : ℕ). (get_or (c ∷ after) k no_corner).direction) (twice i past) ∙ turn_high (suc (suc i)) (omega arith))) tight)
      ]
    where
      twice : (i : ℕ) → length before ≤ i → suc (suc (i - length before)) ≡ suc (suc i) - length before
      twice i past = omega arith

  -- halves in the two quadrants that share the corner on the first axis are together a fan
  pub fan_of_halves : IsFan (record { first = first; second = second; corners = before ++ c ∷ after; edges = es ++ fs })
  fan_of_halves = record {
    begins = sym (turn_low 0 (omega arith)) ∙ low.begins;
    passes = (length before, omega (arith, all_corners), sym (turn_low (length before) (omega arith)) ∙ low.ends (length before) (omega (arith, low_corners)));
    ends = λ k last. sym (turn_high k (omega (arith, all_corners))) ∙ high.ends (k - length before) (omega (arith, all_corners));
    primitive = λ i inside.
        elim (cases_lt i (length before)) [
          | inl here ↦ subst IsPrimitive (turn_low i (omega arith)) (low.arc.primitive i (omega (arith, low_corners)))
          | inr past ↦ subst IsPrimitive (turn_high i past) (high.arc.primitive (i - length before) (omega (arith, all_corners)))
        ];
    half = λ i inside.
        elim (cases_lt i (length before)) [
          | inl here ↦ (within_low i (omega arith)).0
          | inr past ↦ (within_high i past inside).0
        ];
    left = left_at;
    values = values_at;
    count = omega (arith, all_edges, all_corners, high.arc.count);
    joins = joins_at;
    covers = covers_at;
    tight = tight_at;
    apart = apart_at;
  }
