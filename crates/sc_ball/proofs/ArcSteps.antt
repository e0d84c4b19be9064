-- How an arc begins at the first entry of a search, and goes on to the next.
use Rattle.std.proofs.Common.{◌≡◌, ℕ, suc, ◌<◌, List, [], ◌∷◌, ◌++◌, length, get_or, Option, Some, None, inl, inr, arith, refl, sym, ap, subst, ◌∙◌}
use Rattle.std.specs.Prelude.{option_to_list}
use Rattle.std.proofs.lemmas.List.{length-append, append_assoc}
use Rattle.sc_theory.specs.Chains.{Chain, IsChain}
use Rattle.sc_theory.specs.Prices.{Prices, Covers}
use Rattle.sc_cone.specs.declared.Direction.{Direction}
use Rattle.sc_cone.specs.declared.Quadrant.{Quadrant}
use Rattle.sc_cone.specs.Directions.{TurnsLeft, first_end, last_end}
use Rattle.sc_cone.specs.Cones.{quadrant_chain}
use Rattle.sc_cone.specs.Values.{IsTightAt}
use Rattle.sc_cone.specs.Fans.{Corner, Edge, no_corner, no_edge, IsGoodCorner, IsArc, IsHalf}
use Rattle.sc_cone.specs.Searches.{Reached}
use Rattle.sc_cone.proofs.Arcs.{arc_of_one, at_before, at_here, arc_pushed, arc_extended}
use Rattle.sc_ball.specs.inside.Neighbours.{IsClosed}
use Rattle.sc_ball.specs.inside.Arcs.{IsSpareOf, IsTightLast, list_in, AreArcTo, IsChosen}

-- the corner of the first entry is an arc without edges, with the entry's list to spare
pub arc_begun : (q : Quadrant) (first second : Chain) (c : Corner) (r : Reached) → IsGoodCorner q first second c → c.direction ≡ first_end q → c.direction ≡ r.direction → AreArcTo q first second [] c [] None (Some r.list) 1 r
arc_begun q first second c r good begins is = record {
  arc = arc_of_one q first second c good;
  begins = begins;
  last_is = is;
  whole = λ e. refl;
  spare_is = refl;
  few = omega arith;
}

module _ (q : Quadrant) (first second : Chain) where
  not_tight_last : (edges : List Edge) (edge : Option Edge) (d : Direction) → (edge ≡ None → edges ≡ []) → (IsTightLast q first second edge d → ⊥) → (k : ℕ) → suc k ≡ length (edges ++ option_to_list edge) → IsTightAt q first second (get_or (edges ++ option_to_list edge) k no_edge).list d → ⊥
  not_tight_last edges None d whole not_tight k last tight =
      let none : length (edges ++ []) ≡ 0 = ap (λ (es : List Edge). length (es ++ [])) (whole refl) in
      omega (arith, none, last)
  not_tight_last edges (Some e) d whole not_tight k last tight =
      let place : k ≡ length edges = omega (arith, last, length-append edges (e ∷ [])) in
      not_tight (subst (λ (f : Edge). IsTightAt q first second f.list d) (at_here no_edge edges e [] k place) tight)

  module _ (corners : List Corner) (last : Corner) (edges : List Edge) (spare : Option Prices) (n : ℕ) (r u : Reached) (x : Corner) where
    -- where the last edge's list is tight at the next corner too, the edge goes on to it
    pub arc_goes_on : (e : Edge) → IsChain first → IsChain second → AreArcTo q first second corners last edges (Some e) spare n r → IsGoodCorner q first second x → x.direction ≡ u.direction → TurnsLeft r.direction x.direction → IsTightAt q first second e.list x.direction → AreArcTo q first second corners x edges (Some (record { from = e.from; to = x; list = e.list })) (Some u.list) (suc n) u
    arc_goes_on e is_first is_second so_far good is left tight =
        let count : suc (length (edges ++ e ∷ [])) ≡ length (corners ++ last ∷ []) = so_far.arc.count in
        let some : 0 < length corners = omega (arith, count, length-append edges (e ∷ []), length-append corners (last ∷ [])) in
        record {
          arc = arc_extended q first second is_first is_second corners last edges e x so_far.arc good (subst (λ (d : Direction). TurnsLeft d x.direction) (sym so_far.last_is) left) tight;
          begins = ap (λ (c : Corner). c.direction) (at_before no_corner corners (x ∷ []) 0 some ∙ sym (at_before no_corner corners (last ∷ []) 0 some)) ∙ so_far.begins;
          last_is = is;
          whole = λ f. cc;
          spare_is = refl;
          few = omega (arith, so_far.few);
        }

    -- else the edge ends at its last corner, and one with a list that is tight at both corners goes on from there
    pub arc_pushed_on : (edge : Option Edge) (list : Prices) (left_over : Option Prices) → AreArcTo q first second corners last edges edge spare n r → IsGoodCorner q first second x → x.direction ≡ u.direction → TurnsLeft r.direction x.direction → (IsTightLast q first second edge x.direction → ⊥) → Covers (quadrant_chain q first second) list → IsTightAt q first second list r.direction → IsTightAt q first second list x.direction → IsSpareOf (Some list) u.list left_over → AreArcTo q first second (corners ++ last ∷ []) x (edges ++ option_to_list edge) (Some (record { from = last; to = x; list = list })) left_over (suc n) u
    arc_pushed_on edge list left_over so_far good is left not_tight covers at_r at_x left_is =
        let here : IsTightAt q first second list last.direction = subst (IsTightAt q first second list) (sym so_far.last_is) at_r in
        let turns : TurnsLeft last.direction x.direction = subst (λ (d : Direction). TurnsLeft d x.direction) (sym so_far.last_is) left in
        let pushed = arc_pushed q first second corners last (edges ++ option_to_list edge) x list so_far.arc good turns covers here at_x (not_tight_last edges edge x.direction so_far.whole not_tight) in
        let some : 0 < length (corners ++ last ∷ []) = omega (arith, length-append corners (last ∷ [])) in
        record {
          arc = subst (λ (cs : List Corner). IsArc q first second cs ((edges ++ option_to_list edge) ++ (record { from = last; to = x; list = list }) ∷ [])) (sym (append_assoc corners (last ∷ []) (x ∷ []))) pushed;
          begins = ap (λ (c : Corner). c.direction) (at_before no_corner (corners ++ last ∷ []) (x ∷ []) 0 some) ∙ so_far.begins;
          last_is = is;
          whole = λ f. cc;
          spare_is = left_is;
          few = omega (arith, so_far.few, length-append corners (last ∷ []));
        }

  -- at the end of the quadrant it is a half of the fan
  pub half_of_arc : (corners : List Corner) (last : Corner) (edges : List Edge) (edge : Option Edge) (spare : Option Prices) (n : ℕ) (r : Reached) → AreArcTo q first second corners last edges edge spare n r → r.direction ≡ last_end q → IsHalf q first second (corners ++ last ∷ []) (edges ++ option_to_list edge)
  half_of_arc corners last edges edge spare n r so_far is_end = record {
    begins = so_far.begins;
    ends = λ k is_last. ap (λ (c : Corner). c.direction) (at_here no_corner corners last [] k (omega (arith, is_last, length-append corners (last ∷ [])))) ∙ so_far.last_is ∙ is_end;
    arc = so_far.arc;
  }

  -- where the list to spare isn't tight at the second of two directions, an edge takes the second one's list
  pub second_chosen : (r u : Reached) (edge : Option Edge) → IsTightAt q first second u.list u.direction → (spare : Prices) → IsClosed q first second r u → IsSpareOf (list_in edge) r.list (Some spare) → (IsTightAt q first second spare u.direction → ⊥) → IsChosen q first second r u u.list None
  second_chosen r u edge there spare closed is beyond = elim closed [
    | inl tight ↦ absurd (beyond (subst (λ (l : Prices). IsTightAt q first second l u.direction) (sym is) tight))
    | inr tight ↦ record { of_one = inr refl; at_first = tight; at_second = there; spare_is = refl }
  ]
