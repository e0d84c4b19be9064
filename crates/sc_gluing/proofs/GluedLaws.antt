-- A surface that is glued of closed walks with balanced steps is a labelled fatgraph, and the gluing fixes it.
use Rattle.std.proofs.Common.{◌≡◌, ℕ, ◌<◌, true, eqb, List, length, get_or, arith, refl, sym, ap, ap₂, subst, ◌∙◌}
use Rattle.std.proofs.lemmas.List.{ext_get_or, get_or-map, length-map}
use Rattle.std.proofs.lemmas.Bool.{and_parts, and_from, eqb-true, eq-eqb}
use Rattle.sc_algebra.specs.Sums.{count_below}
use Rattle.sc_algebra.proofs.Sums.{count-congr}
use Rattle.sc_algebra.proofs.Permutations.{onto}
use Rattle.sc_theory.specs.declared.Side.{Side}
use Rattle.sc_theory.specs.Words.{inverse_letter}
use Rattle.sc_theory.specs.Chains.{Chain, positions, letter, first, succ, prev}
use Rattle.sc_theory.specs.Fatgraphs.{Sides, no_side, label, mate, next, quota, sides_at, IsFatgraph}
use Rattle.sc_theory.specs.Walks.{IsStep}
use Rattle.sc_theory.proofs.WordLaws.{inverse_letter-inverse_letter}
use Rattle.sc_theory.proofs.ChainLaws.{neighbours}
use Rattle.sc_gluing.specs.Cycles.{at, after, goes, rank, AreCycles}
use Rattle.sc_gluing.specs.Gluing.{AreMatched, IsGlued}
use Rattle.sc_gluing.proofs.CycleLaws.{size, after_inside, after_apart, after_permutes, begins_step}
use Rattle.sc_gluing.proofs.Ranks.{Kth, kth, rank_below, same_rank}
use Rattle.sc_gluing.proofs.StepCounts.{no_own_inverse, opposite_steps, passes_word}

-- each side begins the step between its positions
goes_itself : (ws : List (List ℕ)) (s : ℕ) → goes ws (at ws s) (at ws (after ws s)) s ≡ true
goes_itself ws s = and_from _ _ (eq-eqb (at ws s) (at ws s) refl) (eq-eqb (at ws (after ws s)) (at ws (after ws s)) refl)

goes_from : (ws : List (List ℕ)) (i j s : ℕ) → at ws s ≡ i → at ws (after ws s) ≡ j → goes ws i j s ≡ true
goes_from ws i j s e h = and_from _ _ (eq-eqb (at ws s) i e) (eq-eqb (at ws (after ws s)) j h)

-- the rank of a side that begins a step from i to j
pub rank_is : (ws : List (List ℕ)) (i j s : ℕ) → at ws s ≡ i → at ws (after ws s) ≡ j → rank ws s ≡ count_below (goes ws i j) s
rank_is ws i j s e h = ap₂ (λ (x y : ℕ). count_below (goes ws x y) s) e h

turned : {c : Chain} {ws : List (List ℕ)} {s t : ℕ} → AreMatched c ws s t → AreMatched c ws t s
turned m = record { forth = m.back; back = m.forth; ranks = sym m.ranks }

-- the side whose step is matched with that of s
pub record Partner (c : Chain) (ws : List (List ℕ)) (s : ℕ) : Type 0 where
  pub side : ℕ
  pub inside : side < size ws
  pub matched : AreMatched c ws s side

module _ (c : Chain) (n : ℕ) (ws : List (List ℕ)) (is : AreCycles c n ws) where
  step : (s : ℕ) → s < size ws → IsStep c (at ws s) (at ws (after ws s))
  step s h = begins_step c ws s is.closed h

  -- among the steps that it may be matched with there is one of its rank
  pub rank_below_opposite : (s : ℕ) → s < size ws → rank ws s < count_below (goes ws (prev c (at ws (after ws s))) (succ c (at ws s))) (size ws)
  rank_below_opposite s h =
      let i : ℕ = at ws s in
      let j : ℕ = at ws (after ws s) in
      subst (λ (x : ℕ). rank ws s < x) (opposite_steps c n ws is i j (step s h)) (rank_below (goes ws i j) (size ws) s h (goes_itself ws s))

  -- the step that begins at a side is matched with one
  pub partner : (s : ℕ) → s < size ws → Partner c ws s
  partner s h =
      let i : ℕ = at ws s in
      let j : ℕ = at ws (after ws s) in
      let a : ℕ = prev c j in
      let b : ℕ = succ c i in
      let here : IsStep c i j = step s h in
      let found : Kth (goes ws a b) (size ws) (rank ws s) = kth (goes ws a b) (size ws) (rank ws s) (rank_below_opposite s h) in
      let t : ℕ = found.number in
      let both : (eqb (at ws t) a ≡ true) × (eqb (at ws (after ws t)) b ≡ true) = and_parts _ _ found.passes in
      let from : at ws t ≡ a = eqb-true (at ws t) a both.0 in
      let to : at ws (after ws t) ≡ b = eqb-true (at ws (after ws t)) b both.1 in
      record {
        side = t;
        inside = found.inside;
        matched = record {
          forth = to;
          back = sym (ap (succ c) from ∙ (neighbours c j here.to).succ-prev);
          ranks = sym (rank_is ws a b t from to ∙ found.rank);
        };
      }

  -- a step is matched with one other alone, and never with itself
  pub one_partner : (s t u : ℕ) → t < size ws → u < size ws → AreMatched c ws s t → AreMatched c ws s u → t ≡ u
  one_partner s t u h k m o =
      let start : at ws t ≡ at ws u = sym (neighbours c (at ws t) (step t h).from).prev-succ ∙ ap (prev c) (sym m.back ∙ o.back) ∙ (neighbours c (at ws u) (step u k).from).prev-succ in
      let end : at ws (after ws t) ≡ at ws (after ws u) = m.forth ∙ sym o.forth in
      same_rank (goes ws (at ws u) (at ws (after ws u))) t u (goes_from ws _ _ t start end) (goes_itself ws u)
      (sym (rank_is ws _ _ t start end) ∙ sym m.ranks ∙ o.ranks)

  pub no_own_partner : (s : ℕ) → s < size ws → AreMatched c ws s s → ⊥
  no_own_partner s h m =
      let here = step s h in
      no_own_inverse (letter c (at ws (after ws s))) (here.inverse ∙ ap (λ (x : ℕ). inverse_letter (letter c x)) (sym m.forth))

  -- ---- the surface
  module _ (g : Sides) (glued : IsGlued c ws g) where
    sides_are : length g ≡ size ws
    sides_are = sym (length-map g (λ (s : Side). s.label)) ∙ ap (λ (xs : List ℕ). length xs) glued.labels

    label_is : (s : ℕ) → s < length g → label g s ≡ at ws s
    label_is s h = sym (get_or-map (λ (x : Side). x.label) g s no_side 0 h) ∙ ap (λ (xs : List ℕ). get_or xs s 0) glued.labels

    -- a side as the one after a side, and the one that its mate comes after
    record Met (u : ℕ) : Type 0 where
      side : ℕ
      inside : side < size ws
      leads : after ws side ≡ u
      other : Partner c ws side
      mate_is : mate g u ≡ after ws other.side

    met_after : (s : ℕ) → s < size ws → Met (after ws s)
    met_after s h =
        let p : Partner c ws s = partner s h in
        record {
          side = s;
          inside = h;
          leads = refl;
          other = p;
          mate_is = glued.mates s p.side (omega (arith, sides_are)) (omega (arith, sides_are, p.inside)) p.matched;
        }

    met : (u : ℕ) → u < length g → Met u
    met u h =
        let from : (s : ℕ) × (s < size ws) × (after ws s ≡ u) = onto (after_permutes ws) u (omega (arith, sides_are)) in
        subst Met from.2 (met_after from.0 from.1)

    mate_after : (s : ℕ) (h : s < size ws) → mate g (after ws s) ≡ after ws (partner s h).side
    mate_after s h = let p : Partner c ws s = partner s h in glued.mates s p.side (omega (arith, sides_are)) (omega (arith, sides_are, p.inside)) p.matched

    next_is : (s : ℕ) (h : s < size ws) → next g s ≡ after ws (partner s h).side
    next_is s h = glued.nexts s (omega (arith, sides_are)) ∙ mate_after s h

    mates_inside : (u : ℕ) → u < length g → mate g u < length g
    mates_inside u h = let m : Met u = met u h in omega (arith, sides_are, m.mate_is, after_inside ws m.other.side m.other.inside)

    mates_back : (u : ℕ) → u < length g → mate g (mate g u) ≡ u
    mates_back u h =
        let m : Met u = met u h in
        let p : Partner c ws m.side = m.other in
        ap (mate g) m.mate_is ∙ glued.mates p.side m.side (omega (arith, sides_are, p.inside)) (omega (arith, sides_are, m.inside)) (turned p.matched) ∙ m.leads

    mates_move : (u : ℕ) → u < length g → mate g u ≡ u → ⊥
    mates_move u h e =
        let m : Met u = met u h in
        let p : Partner c ws m.side = m.other in
        let same : p.side ≡ m.side = after_apart ws p.side m.side p.inside m.inside (sym m.mate_is ∙ e ∙ sym m.leads) in
        no_own_partner m.side m.inside (subst (AreMatched c ws m.side) same p.matched)

    mates_inverse : (u : ℕ) → u < length g → letter c (label g (mate g u)) ≡ inverse_letter (letter c (label g u))
    mates_inverse u h =
        let m : Met u = met u h in
        let p : Partner c ws m.side = m.other in
        let s : ℕ = m.side in
        let here : IsStep c (at ws s) (at ws (after ws s)) = step s m.inside in
        let there : label g (mate g u) ≡ succ c (at ws s) = label_is (mate g u) (mates_inside u h) ∙ ap (at ws) m.mate_is ∙ p.matched.forth in
        let own : label g u ≡ at ws (after ws s) = label_is u h ∙ ap (at ws) (sym m.leads) in
        ap (letter c) there
        ∙ sym (inverse_letter-inverse_letter (letter c (succ c (at ws s))))
        ∙ ap inverse_letter (sym here.inverse ∙ ap (letter c) (sym own))

    nexts_inside : (s : ℕ) → s < length g → next g s < length g
    nexts_inside s h = let k : s < size ws = omega (arith, sides_are) in omega (arith, sides_are, next_is s k, after_inside ws (partner s k).side (partner s k).inside)

    nexts_apart : (s t : ℕ) → s < length g → t < length g → next g s ≡ next g t → s ≡ t
    nexts_apart s t h k e =
        let hs : s < size ws = omega (arith, sides_are) in
        let ht : t < size ws = omega (arith, sides_are) in
        let p : Partner c ws s = partner s hs in
        let q : Partner c ws t = partner t ht in
        let same : p.side ≡ q.side = after_apart ws p.side q.side p.inside q.inside (sym (next_is s hs) ∙ e ∙ next_is t ht) in
        one_partner q.side s t hs ht (turned (subst (AreMatched c ws s) same p.matched)) (turned q.matched)

    nexts_follow : (s : ℕ) → s < length g → label g (next g s) ≡ succ c (label g s)
    nexts_follow s h =
        let k : s < size ws = omega (arith, sides_are) in
        label_is (next g s) (nexts_inside s h) ∙ ap (at ws) (next_is s k) ∙ (partner s k).matched.forth ∙ ap (succ c) (sym (label_is s h))

    sides_counted : (w : ℕ) → w < length c → sides_at g (first c w) ≡ quota c n w
    sides_counted w inside =
        count-congr (λ s. eqb (label g s) (first c w)) (λ s. eqb (at ws s) (first c w)) (length g) (λ s h. ap (λ (x : ℕ). eqb x (first c w)) (label_is s h))
        ∙ ap (count_below (λ s. eqb (at ws s) (first c w))) sides_are
        ∙ passes_word c n ws is w inside

    labels_inside : (s : ℕ) → s < length g → label g s < positions c
    labels_inside s h = subst (λ (x : ℕ). x < positions c) (sym (label_is s h)) (step s (omega (arith, sides_are))).from

    -- a surface that is glued of cycles is a labelled fatgraph over n copies
    pub cycles_fatgraph : 0 < n → IsFatgraph c n g
    cycles_fatgraph some = record {
      copies = some;
      labels = labels_inside;
      mates = mates_inside;
      nexts = nexts_inside;
      back = mates_back;
      moves = mates_move;
      inverse = mates_inverse;
      apart = nexts_apart;
      follows = nexts_follow;
      counts = sides_counted;
    }

    -- to turn is to go on along the cycles
    pub turn_is : (s : ℕ) → s < length g → mate g (next g s) ≡ after ws s
    turn_is s h =
        let k : s < size ws = omega (arith, sides_are) in
        ap (mate g) (glued.nexts s h) ∙ mates_back (after ws s) (omega (arith, sides_are, after_inside ws s k))

    -- the glued surface has as many sides as the cycles have places
    pub sides_along : length g ≡ size ws
    sides_along = sides_are

-- ---- the gluing fixes the sides
same_side : (x y : Side) → x.label ≡ y.label → x.mate ≡ y.mate → x.next ≡ y.next → x ≡ y
same_side x y e f h =
    ap (λ (a : ℕ). record { label = a; mate = x.mate; next = x.next }) e
    ∙ ap (λ (a : ℕ). record { label = y.label; mate = a; next = x.next }) f
    ∙ ap (λ (a : ℕ). record { label = y.label; mate = y.mate; next = a }) h

module _ (c : Chain) (n : ℕ) (ws : List (List ℕ)) (is : AreCycles c n ws) (g h : Sides) (first : IsGlued c ws g) (second : IsGlued c ws h) where
  same_mates : (u : ℕ) → u < size ws → mate g u ≡ mate h u
  same_mates u inside =
      let from : (s : ℕ) × (s < size ws) × (after ws s ≡ u) = onto (after_permutes ws) u inside in
      let s : ℕ = from.0 in
      ap (mate g) (sym from.2) ∙ mate_after c n ws is g first s from.1 ∙ sym (mate_after c n ws is h second s from.1) ∙ ap (mate h) from.2

  same_sides_at : (u : ℕ) → u < length g → get_or g u no_side ≡ get_or h u no_side
  same_sides_at u inside =
      let here : u < size ws = omega (arith, sides_are c n ws is g first) in
      let there : u < length h = omega (arith, sides_are c n ws is h second) in
      same_side (get_or g u no_side) (get_or h u no_side)
      (label_is c n ws is g first u inside ∙ sym (label_is c n ws is h second u there))
      (same_mates u here)
      (first.nexts u inside ∙ same_mates (after ws u) (after_inside ws u here) ∙ sym (second.nexts u there))

  -- two surfaces that are glued of the same cycles are the same
  pub one_gluing : g ≡ h
  one_gluing = ext_get_or no_side g h (sides_are c n ws is g first ∙ sym (sides_are c n ws is h second)) same_sides_at
