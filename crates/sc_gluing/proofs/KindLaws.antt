-- Places of kinds matched in their order are sides of steps matched in theirs: what the lists come to is the glued
-- surface.
use Rattle.std.proofs.Common.{◌≡◌, ℕ, ◌*◌, ◌/◌, ◌<◌, ◌≤◌, Bool, ◌&&◌, eqb, List, map, length, get_or, inl, inr, arith, sym, ap, ap₂, subst, ◌∙◌}
use Rattle.std.proofs.Math.Bool.{and_comm}
use Rattle.std.proofs.lemmas.Nat.{mul-add-lt, div-mul-add}
use Rattle.std.proofs.lemmas.List.{get_or-map, length-map}
use Rattle.std.proofs.lemmas.Grind.{same_number_lists}
use Rattle.std.proofs.lemmas.Bool.{cases_eq, and_from, and_left, and_right, eq-eqb, ne_eqb}
use Rattle.sc_algebra.specs.Sums.{count_below}
use Rattle.sc_algebra.proofs.Sums.{count-congr}
use Rattle.sc_theory.specs.declared.Side.{Side}
use Rattle.sc_theory.specs.Chains.{Chain, positions, succ, prev}
use Rattle.sc_theory.specs.Fatgraphs.{Sides, no_side, mate}
use Rattle.sc_theory.specs.Walks.{IsStep}
use Rattle.sc_theory.proofs.ChainLaws.{neighbours}
use Rattle.sc_gluing.specs.Cycles.{at, after, goes, rank}
use Rattle.sc_gluing.specs.Gluing.{AreMatched, IsGlued}
use Rattle.sc_gluing.specs.Matching.{so_far, ArePartners, AreMatchable}
use Rattle.sc_gluing.specs.Sides.{AreGlueable, kind}
use Rattle.sc_gluing.specs.inside.Sides.{AreInside, end_at, AreKinds, AreOpposites, AreMatchedSides, AreMates, AreSides}
use Rattle.sc_gluing.proofs.CycleLaws.{size, after_inside, after_apart, begins_step}
use Rattle.sc_gluing.proofs.GluedLaws.{rank_is, rank_below_opposite, one_partner}

-- ---- numbers of steps
same_from : (p x y a b : ℕ) → y < p → b < p → kind p x y ≡ kind p a b → (x ≡ a) × (y ≡ b)
same_from p x y a b h k e =
    let first : x ≡ a = sym (div-mul-add x p y h) ∙ ap (λ (m : ℕ). m / p) e ∙ div-mul-add a p b k in
    (first, omega (arith, e, ap (λ (m : ℕ). m * p) first))

-- the test of the number of a step is that of its two positions
kind_test : (p x y a b : ℕ) → y < p → b < p → eqb (kind p x y) (kind p a b) ≡ (eqb x a && eqb y b)
kind_test p x y a b h k =
    elim (cases_eq x a) [
      | inl same ↦ elim (cases_eq y b) [
        | inl equal ↦ eq-eqb (kind p x y) (kind p a b) (ap₂ (kind p) same equal) ∙ sym (and_from (eqb x a) (eqb y b) (eq-eqb x a same) (eq-eqb y b equal))
        | inr other ↦ ne_eqb (kind p x y) (kind p a b) (λ e. other (same_from p x y a b h k e).1) ∙ sym (and_right (eqb x a) (eqb y b) (ne_eqb y b other))
      ]
      | inr other ↦ ne_eqb (kind p x y) (kind p a b) (λ e. other (same_from p x y a b h k e).0) ∙ sym (and_left (eqb x a) (eqb y b) (ne_eqb x a other))
    ]

same_tests : (x y a b : ℕ) → (x ≡ y → a ≡ b) → (a ≡ b → x ≡ y) → eqb x y ≡ eqb a b
same_tests x y a b f g =
    elim (cases_eq x y) [
      | inl same ↦ eq-eqb x y same ∙ sym (eq-eqb a b (f same))
      | inr other ↦ ne_eqb x y other ∙ sym (ne_eqb a b (λ e. other (g e)))
    ]

module _ (c : Chain) (labels afters : List ℕ) (is : AreGlueable c labels afters) where
  abbrev ws : List (List ℕ)
  ws = is.cycles

  sides_are : length labels ≡ size ws
  sides_are = ap (λ (xs : List ℕ). length xs) is.laid.labels_are

  label_is : (s : ℕ) → get_or labels s 0 ≡ at ws s
  label_is s = ap (λ (xs : List ℕ). get_or xs s 0) is.laid.labels_are

  end_is : (s : ℕ) → s < size ws → end_at labels afters s ≡ at ws (after ws s)
  end_is s h = label_is (get_or afters s 0) ∙ ap (at ws) (is.laid.afters_are s (omega (arith, sides_are)))

  step : (s : ℕ) → s < size ws → IsStep c (at ws s) (at ws (after ws s))
  step s h = begins_step c ws s is.are.closed h

  -- each label is a position, and each side after a side is a side
  pub inside : AreInside (positions c) labels afters
  inside = record {
    as_many = is.laid.as_many;
    label_below = λ s h. subst (λ (x : ℕ). x < positions c) (sym (label_is s)) (step s (omega (arith, sides_are))).from;
    after_inside = λ s h. omega (arith, is.laid.afters_are s h, after_inside ws s (omega (arith, sides_are)), sides_are);
  }

  -- no two sides have the same side after them
  pub afters_apart : (s t : ℕ) → s < length labels → t < length labels → get_or afters s 0 ≡ get_or afters t 0 → s ≡ t
  afters_apart s t h k e =
      after_apart ws s t (omega (arith, sides_are)) (omega (arith, sides_are)) (sym (is.laid.afters_are s h) ∙ e ∙ is.laid.afters_are t k)

  -- ---- the lists of kinds
  module _ (kinds opposites : List ℕ) (are : AreKinds c labels afters (length labels) kinds) (other : AreOpposites c labels afters (length labels) opposites) where
    abbrev bound : ℕ
    bound = positions c

    kind_is : (s : ℕ) → s < size ws → get_or kinds s 0 ≡ kind bound (at ws s) (at ws (after ws s))
    kind_is s h = are.kinds_are s (omega (arith, sides_are)) ∙ ap₂ (kind bound) (label_is s) (end_is s h)

    opposite_is : (s : ℕ) → s < size ws → get_or opposites s 0 ≡ kind bound (prev c (at ws (after ws s))) (succ c (at ws s))
    opposite_is s h = other.opposites_are s (omega (arith, sides_are)) ∙ ap₂ (λ (x y : ℕ). kind bound (prev c x) (succ c y)) (end_is s h) (label_is s)

    -- as many of a kind as steps between the two positions
    kinds_so_far : (i j s : ℕ) → j < bound → s ≤ size ws → so_far kinds (kind bound i j) s ≡ count_below (goes ws i j) s
    kinds_so_far i j s h within =
        count-congr _ (goes ws i j) s (λ t below.
        let k : t < size ws = omega arith in
        ap (λ (x : ℕ). eqb x (kind bound i j)) (kind_is t k)
        ∙ kind_test bound (at ws t) (at ws (after ws t)) i j (step t k).to h)

    -- as many with the same opposite as steps between the same positions
    opposites_so_far : (s : ℕ) → s < size ws → so_far opposites (get_or opposites s 0) s ≡ rank ws s
    opposites_so_far s h =
        count-congr _ (goes ws (at ws s) (at ws (after ws s))) s (λ t below.
        let k : t < size ws = omega arith in
        ap₂ eqb (opposite_is t k) (opposite_is s h)
        ∙ kind_test bound (prev c (at ws (after ws t))) (succ c (at ws t)) (prev c (at ws (after ws s))) (succ c (at ws s))
        (neighbours c (at ws t) (step t k).from).succ_inside (neighbours c (at ws s) (step s h).from).succ_inside
        ∙ swapped (eqb (prev c (at ws (after ws t))) (prev c (at ws (after ws s)))) (eqb (succ c (at ws t)) (succ c (at ws s))) (eqb (at ws t) (at ws s)) (eqb (at ws (after ws t)) (at ws (after ws s)))
        (same_tests _ _ _ _
        (λ e. sym (neighbours c (at ws (after ws t)) (step t k).to).succ-prev ∙ ap (succ c) e ∙ (neighbours c (at ws (after ws s)) (step s h).to).succ-prev)
        (λ e. ap (prev c) e))
        (same_tests _ _ _ _
        (λ e. sym (neighbours c (at ws t) (step t k).from).prev-succ ∙ ap (prev c) e ∙ (neighbours c (at ws s) (step s h).from).prev-succ)
        (λ e. ap (succ c) e)))
      where
        swapped : (x y a b : Bool) → x ≡ b → y ≡ a → (x && y) ≡ (a && b)
        swapped x y a b e f = ap₂ (λ (u v : Bool). u && v) e f ∙ and_comm b a

    succ_below : (s : ℕ) → s < size ws → succ c (at ws s) < bound
    succ_below s h = (neighbours c (at ws s) (step s h).from).succ_inside

    -- of each kind there are as many as opposite kinds ask for
    pub kinds_matchable : AreMatchable kinds opposites (bound * bound)
    kinds_matchable = record {
      as_many = other.as_many ∙ sym are.as_many;
      kinds_below = λ s h.
          let k : s < size ws = omega (arith, are.as_many, sides_are) in
          subst (λ (x : ℕ). x < bound * bound) (sym (kind_is s k)) (mul-add-lt (at ws s) bound (at ws (after ws s)) bound (step s k).from (step s k).to);
      opposites_below = λ s h.
          let k : s < size ws = omega (arith, are.as_many, sides_are) in
          subst (λ (x : ℕ). x < bound * bound) (sym (opposite_is s k))
          (mul-add-lt (prev c (at ws (after ws s))) bound (succ c (at ws s)) bound (neighbours c (at ws (after ws s)) (step s k).to).prev_inside (succ_below s k));
      enough = λ s h.
          let k : s < size ws = omega (arith, are.as_many, sides_are) in
          let all : so_far kinds (get_or opposites s 0) (length kinds) ≡ count_below (goes ws (prev c (at ws (after ws s))) (succ c (at ws s))) (size ws) =
          ap₂ (so_far kinds) (opposite_is s k) (are.as_many ∙ sides_are) ∙ kinds_so_far (prev c (at ws (after ws s))) (succ c (at ws s)) (size ws) (succ_below s k) (omega arith) in
          omega (arith, opposites_so_far s k, all, rank_below_opposite c is.copies ws is.are s k);
    }

    -- the step at a side is matched with the one at its partner
    pub partner_matched : (partners : List ℕ) → ArePartners kinds opposites partners → (s : ℕ) → s < size ws → AreMatched c ws s (get_or partners s 0)
    partner_matched partners paired s h =
        let k : s < length kinds = omega (arith, are.as_many, sides_are) in
        let t : ℕ = get_or partners s 0 in
        let there : t < size ws = omega (arith, paired.inside s k, are.as_many, sides_are) in
        let i : ℕ = prev c (at ws (after ws s)) in
        let j : ℕ = succ c (at ws s) in
        let both : (at ws t ≡ i) × (at ws (after ws t) ≡ j) = same_from bound (at ws t) (at ws (after ws t)) i j (step t there).to (succ_below s h) (sym (kind_is t there) ∙ paired.opposite s k ∙ opposite_is s h) in
        record {
          forth = both.1;
          back = sym (ap (succ c) both.0 ∙ (neighbours c (at ws (after ws s)) (step s h).to).succ-prev);
          ranks =
              sym (opposites_so_far s h) ∙ sym (paired.in_order s k)
              ∙ ap (λ (x : ℕ). so_far kinds x t) (opposite_is s h)
              ∙ kinds_so_far i j t (succ_below s h) (omega arith)
              ∙ sym (rank_is ws i j t both.0 both.1);
        }

  -- ---- the surface
  pub sides_glued : (partners mates : List ℕ) (g : Sides) → AreMatchedSides c labels afters partners → AreMates afters partners (length labels) mates → AreSides labels afters mates (length labels) g → IsGlued c ws g
  sides_glued partners mates g matched mated made = record {
    labels = same_labels ∙ is.laid.labels_are;
    mates = λ s t h k m.
        let u : s < length labels = omega (arith, made.as_many) in
        let p : ℕ = get_or partners s 0 in
        let same : p ≡ t = one_partner c is.copies ws is.are s p t (omega (arith, matched.inside s u, sides_are)) (omega (arith, made.as_many, sides_are)) (matched.matched is s u) m in
        mate_after s u ∙ ap (after ws) same;
    nexts = λ s h.
        let u : s < length labels = omega (arith, made.as_many) in
        ap (λ (x : Side). x.next) (made.sides_are s u)
        ∙ sym (ap (mate g) (sym (is.laid.afters_are s u)) ∙ mate_of (get_or afters s 0) (inside.after_inside s u));
  }
    where
      same_labels : map (λ s. s.label) g ≡ labels
      same_labels =
          same_number_lists (map (λ s. s.label) g) labels (length-map g (λ (s : Side). s.label) ∙ made.as_many)
          (λ k h. let here : k < length g = omega (arith, length-map g (λ (s : Side). s.label)) in
          get_or-map (λ (s : Side). s.label) g k no_side 0 here ∙ ap (λ (x : Side). x.label) (made.sides_are k (omega (arith, made.as_many))))

      mate_of : (s : ℕ) → s < length labels → mate g s ≡ get_or mates s 0
      mate_of s h = ap (λ (x : Side). x.mate) (made.sides_are s h)

      mate_after : (s : ℕ) → s < length labels → mate g (after ws s) ≡ after ws (get_or partners s 0)
      mate_after s h =
          ap (mate g) (sym (is.laid.afters_are s h)) ∙ mate_of (get_or afters s 0) (inside.after_inside s h)
          ∙ mated.mates_are s h ∙ is.laid.afters_are (get_or partners s 0) (matched.inside s h)

-- partners of kinds are matched sides
pub partners_are_matched : (c : Chain) (labels afters kinds opposites partners : List ℕ) → AreKinds c labels afters (length labels) kinds → AreOpposites c labels afters (length labels) opposites → ArePartners kinds opposites partners → AreMatchedSides c labels afters partners
partners_are_matched c labels afters kinds opposites partners are other paired = record {
  as_many = paired.as_many ∙ are.as_many;
  inside = λ s h. omega (arith, paired.inside s (omega (arith, are.as_many)), are.as_many);
  matched = λ is s h. partner_matched c labels afters is kinds opposites are other partners paired s (omega (arith, sides_are c labels afters is));
}
