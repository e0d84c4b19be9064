-- The examples are fans.
use Rattle.std.proofs.Common.{◌≡◌, ◌≢◌, ℕ, zero, suc, ◌<◌, [], ◌∷◌, get_or, ℤ, pos, ◌*ℤ◌, ◌<ℤ◌, arith, refl, ap, rules}
use Rattle.sc_theory.specs.Words.{IsReduced}
use Rattle.sc_theory.specs.Chains.{Chain, IsChain, word}
use Rattle.sc_theory.specs.Fatgraphs.{Sides, IsFatgraph}
use Rattle.sc_theory.specs.Prices.{Prices, Tables, Vouch, Covers, IsTight}
use Rattle.sc_theory.specs.Examples.{opposite_words, annulus, commutator, torus, side}
use Rattle.sc_theory.proofs.Decisions.{vouches}
use Rattle.sc_theory.proofs.SmallChains.{opposite_words_chain, commutator_chain}
use Rattle.sc_theory.proofs.Vouching.{covers}
use Rattle.sc_cone.specs.declared.Direction.{Direction}
use Rattle.sc_cone.specs.declared.Quadrant.{Quadrant}
use Rattle.sc_cone.specs.declared.Quadrant.TheVariants.{Lower, Upper}
use Rattle.sc_cone.specs.Directions.{down, right, up, first_end, last_end, IsIn, IsPrimitive}
use Rattle.sc_cone.specs.Cones.{chain_of, quadrant_chain}
use Rattle.sc_cone.specs.Values.{IsTightAt, list_num, list_den}
use Rattle.sc_cone.specs.Fans.{Corner, no_corner, IsFan, IsGoodCorner, IsHalf}
use Rattle.sc_cone.specs.Examples.{upper_list, lower_list, flat_fan, four_corners, other_commutator, commutators_list, commutators_fan}
use Rattle.sc_cone.proofs.ConeWords.{is_chain}
use Rattle.sc_cone.proofs.ConeChains.{covers_all}
use Rattle.sc_cone.proofs.ValueLaws.{value_from_tight, value_moved}
use Rattle.sc_cone.proofs.Sweeps.{first_within, last_within, first_primitive, last_primitive, ends_turn}
use Rattle.sc_cone.proofs.Arcs.{arc_of_one, arc_pushed}
use Rattle.sc_cone.proofs.Halves.{fan_of_halves}
use Rattle.sc_cone.proofs.SameFans.{as_many}
use Rattle.std.specs.Prelude.{Some, List, Option, None, negsuc, ◌++◌}

-- the annulus between the words of the second chain, which come after those of the first
abbrev pub second_annulus : Sides
second_annulus = side 2 1 0 ∷ side 3 0 1 ∷ []

abbrev pub second_annulus_below : Sides
second_annulus_below = side 3 1 0 ∷ side 2 0 1 ∷ []

abbrev pub upper_tables : Tables
upper_tables =
    (Some (pos 0) ∷ Some (pos 1) ∷ Some (pos 1) ∷ Some (pos 1) ∷ [])
    ∷ (Some (pos 0) ∷ Some (pos 0) ∷ Some (pos 0) ∷ Some (pos 1) ∷ [])
    ∷ (Some (pos 1) ∷ Some (pos 1) ∷ Some (pos 0) ∷ Some (pos 1) ∷ [])
    ∷ (Some (pos 0) ∷ Some (pos 1) ∷ Some (pos 0) ∷ Some (pos 0) ∷ [])
    ∷ []

abbrev pub lower_tables : Tables
lower_tables =
    (Some (pos 0) ∷ Some (pos 1) ∷ Some (pos 1) ∷ Some (pos 1) ∷ [])
    ∷ (Some (pos 0) ∷ Some (pos 0) ∷ Some (pos 1) ∷ Some (pos 0) ∷ [])
    ∷ (Some (pos 0) ∷ Some (pos 1) ∷ Some (pos 0) ∷ Some (pos 0) ∷ [])
    ∷ (Some (pos 1) ∷ Some (pos 1) ∷ Some (pos 1) ∷ Some (pos 0) ∷ [])
    ∷ []

-- the torus over the second word
abbrev pub other_torus : Sides
other_torus = side 4 2 1 ∷ side 5 3 2 ∷ side 6 0 3 ∷ side 7 1 0 ∷ []

abbrev pub no_walk : List (Option ℤ)
no_walk = None ∷ None ∷ None ∷ None ∷ []

abbrev pub walks_from : ℕ → List (Option ℤ)
walks_from zero = Some (pos 0) ∷ Some (negsuc 8) ∷ Some (negsuc 17) ∷ Some (negsuc 8) ∷ []
walks_from (suc zero) = Some (pos 10) ∷ Some (pos 0) ∷ Some (negsuc 7) ∷ Some (pos 1) ∷ []
walks_from (suc (suc zero)) = Some (pos 19) ∷ Some (pos 9) ∷ Some (pos 0) ∷ Some (pos 10) ∷ []
walks_from (suc (suc (suc k))) = Some (pos 10) ∷ Some (pos 0) ∷ Some (negsuc 8) ∷ Some (pos 0) ∷ []

abbrev pub commutators_tables : Tables
commutators_tables =
    (walks_from 0 ++ no_walk) ∷ (walks_from 1 ++ no_walk) ∷ (walks_from 2 ++ no_walk) ∷ (walks_from 3 ++ no_walk)
    ∷ (no_walk ++ walks_from 0) ∷ (no_walk ++ walks_from 1) ∷ (no_walk ++ walks_from 2) ∷ (no_walk ++ walks_from 3) ∷ []

no_edges : (k : ℕ) → suc k ≡ 0 → ⊥
no_edges k e = omega arith

two_entries : (c d : Corner) (k : ℕ) → suc k ≡ 2 → (get_or (c ∷ d ∷ []) k no_corner).direction ≡ d.direction
two_entries c d k last = let e : k ≡ 1 = omega arith in ap (λ (i : ℕ). (get_or (c ∷ d ∷ []) i no_corner).direction) e

-- a list that is tight at an end for a fatgraph, and the value there as a fraction
record AtEnd (first second : Chain) (q : Quadrant) (list : Prices) (d : Direction) (num den : ℤ) : Type 0 where
  sides : Sides
  fatgraph : IsFatgraph (chain_of q first second d) 1 sides
  tight : IsTight (chain_of q first second d) list 1 sides
  same : num *ℤ list_den list ≡ list_num (chain_of q first second d) list *ℤ den

module _ (first second : Chain) (is_first : IsChain first) (is_second : IsChain second) (num den : ℤ) (positive : pos 0 <ℤ den) where
  abbrev at : Direction → Corner
  at d = record { direction = d; value = (num, den) }

  tight_end : (q : Quadrant) (list : Prices) (d : Direction) → pos 0 <ℤ list.scale → Covers (quadrant_chain q first second) list → AtEnd first second q list d num den → IsTightAt q first second list d
  tight_end q list d above covers there =
      value_from_tight (chain_of q first second d) list 1 there.sides (is_chain q first second d is_first is_second) above ((covers_all q first second list d).0 covers) there.fatgraph there.tight

  good_end : (q : Quadrant) (list : Prices) (d : Direction) → IsIn q d → IsPrimitive d → AtEnd first second q list d num den → IsTightAt q first second list d → IsGoodCorner q first second (at d)
  good_end q list d within primitive there tight = record {
    within = within;
    primitive = primitive;
    value = value_moved (chain_of q first second d) (list_num (chain_of q first second d) list) (list_den list) num den tight positive there.same;
  }

  half : (q : Quadrant) (list : Prices) → pos 0 <ℤ list.scale → Covers (quadrant_chain q first second) list → AtEnd first second q list (first_end q) num den → AtEnd first second q list (last_end q) num den → IsHalf q first second (at (first_end q) ∷ at (last_end q) ∷ []) (record { from = at (first_end q); to = at (last_end q); list = list } ∷ [])
  half q list above covers here there =
      let tight_here = tight_end q list (first_end q) above covers here in
      let tight_there = tight_end q list (last_end q) above covers there in
      record {
        begins = refl;
        ends = two_entries (at (first_end q)) (at (last_end q));
        arc =
            arc_pushed q first second [] (at (first_end q)) [] (at (last_end q)) list
            (arc_of_one q first second (at (first_end q)) (good_end q list (first_end q) (first_within q) (first_primitive q) here tight_here))
            (good_end q list (last_end q) (last_within q) (last_primitive q) there tight_there)
            (ends_turn q) covers tight_here tight_there (λ k e. absurd (no_edges k e));
      }

  three_corners : (low high : Prices) → pos 0 <ℤ low.scale → pos 0 <ℤ high.scale → Covers (quadrant_chain Lower first second) low → Covers (quadrant_chain Upper first second) high → AtEnd first second Lower low down num den → AtEnd first second Lower low right num den → AtEnd first second Upper high right num den → AtEnd first second Upper high up num den → IsFan (record { first = first; second = second; corners = at down ∷ at right ∷ at up ∷ []; edges = record { from = at down; to = at right; list = low } ∷ record { from = at right; to = at up; list = high } ∷ [] })
  three_corners low high low_above high_above low_covers high_covers low_down low_right high_right high_up =
      fan_of_halves first second (at down ∷ []) (at right) (at up ∷ []) (record { from = at down; to = at right; list = low } ∷ []) (record { from = at right; to = at up; list = high } ∷ [])
      (half Lower low low_above low_covers low_down low_right) (half Upper high high_above high_covers high_right high_up)

one_above : pos 0 <ℤ pos 1
one_above = record { lt = tt }

two_above : pos 0 <ℤ pos 2
two_above = record { lt = tt }

covers_by : (c : Chain) (list : Prices) (tables : Tables) → pos 0 <ℤ list.scale → Vouch c list tables → Covers c list
covers_by c list tables above vouch = covers c list tables above vouch

-- ---- the words a and A twice

flat_down : AtEnd opposite_words opposite_words Lower lower_list down (pos 0) (pos 1)
flat_down = record { sides = second_annulus_below; fatgraph = search rules; tight = refl; same = refl }

flat_right_below : AtEnd opposite_words opposite_words Lower lower_list right (pos 0) (pos 1)
flat_right_below = record { sides = annulus; fatgraph = search rules; tight = refl; same = refl }

flat_right : AtEnd opposite_words opposite_words Upper upper_list right (pos 0) (pos 1)
flat_right = record { sides = annulus; fatgraph = search rules; tight = refl; same = refl }

flat_up : AtEnd opposite_words opposite_words Upper upper_list up (pos 0) (pos 1)
flat_up = record { sides = second_annulus; fatgraph = search rules; tight = refl; same = refl }

pub flat_fan_is : IsFan flat_fan
flat_fan_is =
    three_corners opposite_words opposite_words opposite_words_chain opposite_words_chain (pos 0) (pos 1) one_above lower_list upper_list one_above one_above
    (covers_by (quadrant_chain Lower opposite_words opposite_words) lower_list lower_tables one_above (vouches (quadrant_chain Lower opposite_words opposite_words) lower_list lower_tables refl))
    (covers_by (quadrant_chain Upper opposite_words opposite_words) upper_list upper_tables one_above (vouches (quadrant_chain Upper opposite_words opposite_words) upper_list upper_tables refl))
    flat_down flat_right_below flat_right flat_up

pub four_corners_refused : IsFan four_corners → ⊥
four_corners_refused is =
    let same : ◌≡◌ {A = ℕ} 3 4 = as_many flat_fan four_corners refl refl opposite_words_chain opposite_words_chain flat_fan_is is in
    omega arith

-- ---- two commutators

other_words : (w : ℕ) → w < 1 → word other_commutator w ≢ []
other_words zero inside = λ e. cc
other_words (suc w) inside = absurd (omega arith)

other_reduced : (w : ℕ) → w < 1 → IsReduced (word other_commutator w)
other_reduced zero inside = refl
other_reduced (suc w) inside = absurd (omega arith)

other_chain : IsChain other_commutator
other_chain = record { words = other_words; reduced = other_reduced }

torus_down : AtEnd commutator other_commutator Lower commutators_list down (pos 1) (pos 2)
torus_down = record { sides = other_torus; fatgraph = search rules; tight = refl; same = refl }

torus_right_below : AtEnd commutator other_commutator Lower commutators_list right (pos 1) (pos 2)
torus_right_below = record { sides = torus; fatgraph = search rules; tight = refl; same = refl }

torus_right : AtEnd commutator other_commutator Upper commutators_list right (pos 1) (pos 2)
torus_right = record { sides = torus; fatgraph = search rules; tight = refl; same = refl }

torus_up : AtEnd commutator other_commutator Upper commutators_list up (pos 1) (pos 2)
torus_up = record { sides = other_torus; fatgraph = search rules; tight = refl; same = refl }

pub commutators_fan_is : IsFan commutators_fan
commutators_fan_is =
    three_corners commutator other_commutator commutator_chain other_chain (pos 1) (pos 2) two_above commutators_list commutators_list one_above one_above
    (covers_by (quadrant_chain Lower commutator other_commutator) commutators_list commutators_tables one_above (vouches (quadrant_chain Lower commutator other_commutator) commutators_list commutators_tables refl))
    (covers_by (quadrant_chain Upper commutator other_commutator) commutators_list commutators_tables one_above (vouches (quadrant_chain Upper commutator other_commutator) commutators_list commutators_tables refl))
    torus_down torus_right_below torus_right torus_up
