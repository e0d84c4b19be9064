-- Where a chain has no weighted length, some list is tight at all directions of a quadrant: no two neighbours are open.
use Rattle.std.proofs.Common.{◌≡◌, ◌≢◌, ℕ, zero, suc, ◌+◌, ◌*◌, ◌<◌, [], ◌∷◌, length, get_or, ℤ, pos, ◌*ℤ◌, ◌<ℤ◌, ◌≤ℤ◌, arith, refl, sym, ap, ◌∙◌}
use Rattle.std.proofs.lemmas.Int.{ints}
use Rattle.std.proofs.lemmas.List.Sums.{sum_by-cons}
use Rattle.sc_algebra.proofs.Ints.{mul-zero, zero-mul}
use Rattle.sc_algebra.proofs.Sums.{sum_zero_each}
use Rattle.sc_theory.specs.Words.{Word}
use Rattle.sc_theory.specs.Chains.{Chain, IsChain, weight, word, weighted_length}
use Rattle.sc_theory.specs.Fatgraphs.{IsFatgraph}
use Rattle.sc_theory.specs.Prices.{Prices, Covers, bound}
use Rattle.sc_cone.specs.declared.Direction.{Direction}
use Rattle.sc_cone.specs.declared.Quadrant.{Quadrant}
use Rattle.sc_cone.specs.declared.Quadrant.TheVariants.{Lower, Upper}
use Rattle.sc_cone.specs.Directions.{down, right, up, IsIn, cross, TurnsLeft}
use Rattle.sc_cone.specs.Cones.{chain_of, quadrant_chain}
use Rattle.sc_cone.specs.Values.{IsValueOf, IsTightAt, list_num, list_den}
use Rattle.sc_cone.specs.Searches.{Reached, IsReached, IsOpen}
use Rattle.sc_cone.proofs.ConeChains.{covers_all}
use Rattle.sc_cone.proofs.ConeWords.{is_chain}
use Rattle.sc_cone.proofs.Forms.{length_by_form}
use Rattle.sc_cone.proofs.ValueLaws.{value_from_tight, above_from_value}
use Rattle.sc_cone.proofs.Betweens.{tight_between}
use Rattle.sc_cone.proofs.Turning.{not_negative, below_before, above_after, right_part, left_part}

nonempty : (w : Word) → w ≢ [] → 0 < length w
nonempty [] other = absurd (other refl)
nonempty (x ∷ w) other = omega arith

zero_from_product : (a n : ℕ) → 0 < n → a * n ≡ 0 → a ≡ 0
zero_from_product zero n some e = refl
zero_from_product (suc a) n some e = absurd (omega arith)

weights_none : (u : ℕ × Word) (c : Chain) → u.0 ≡ 0 → ((w : ℕ) → weight c w ≡ 0) → (w : ℕ) → weight (u ∷ c) w ≡ 0
weights_none u c here rest zero = here
weights_none u c here rest (suc w) = rest w

no_weight : (c : Chain) → ((w : ℕ) → w < length c → word c w ≢ []) → weighted_length c ≡ 0 → (w : ℕ) → weight c w ≡ 0
no_weight [] words none w = refl
no_weight (u ∷ c) words none w =
    let parts : u.0 * length u.1 + weighted_length c ≡ 0 = sym (sum_by-cons (λ (v : ℕ × Word). v.0 * length v.1) u c) ∙ none in
    weights_none u c (zero_from_product u.0 (length u.1) (nonempty u.1 (words 0 (omega arith))) (omega (arith, parts)))
    (no_weight c (λ v inside. words (suc v) (omega arith)) (omega (arith, parts))) w

-- over a chain without weights the fatgraph without sides is one, and every covering list is tight for it
no_sides : (c : Chain) → ((w : ℕ) → weight c w ≡ 0) → IsFatgraph c 1 []
no_sides c none = record {
  copies = omega arith;
  labels = λ s inside. absurd (omega arith);
  mates = λ s inside. absurd (omega arith);
  nexts = λ s inside. absurd (omega arith);
  back = λ s inside. absurd (omega arith);
  moves = λ s inside. absurd (omega arith);
  inverse = λ s inside. absurd (omega arith);
  apart = λ s t inside there. absurd (omega arith);
  follows = λ s inside. absurd (omega arith);
  counts = λ w inside. sym (ap (λ (m : ℕ). 1 * m) (none w));
}

no_bound : (c : Chain) (list : Prices) → ((w : ℕ) → weight c w ≡ 0) → bound c list ≡ pos 0
no_bound c list none =
    sum_zero_each (λ w. pos (weight c w) *ℤ get_or list.base w (pos 0)) (length c)
    (λ w inside. ap (λ (m : ℕ). pos m *ℤ get_or list.base w (pos 0)) (none w) ∙ zero-mul (get_or list.base w (pos 0)))

tight_at_nothing : (c : Chain) (list : Prices) → IsChain c → weighted_length c ≡ 0 → pos 0 <ℤ list.scale → Covers c list → IsValueOf c (list_num c list) (list_den list)
tight_at_nothing c list chain none above covers =
    let weights : (w : ℕ) → weight c w ≡ 0 = no_weight c chain.words none in
    value_from_tight c list 1 [] chain above covers (no_sides c weights)
    (mul-zero list.scale ∙ sym (ap (λ (b : ℤ). pos 1 *ℤ b) (no_bound c list weights)))

only_first : (l m : ℕ) → l ≡ 0 → 1 * l + 0 * m ≡ 0
only_first l m e = omega arith

only_second : (l m : ℕ) → m ≡ 0 → 0 * l + 1 * m ≡ 0
only_second l m e = omega arith

module _ (q : Quadrant) (first second : Chain) (is_first : IsChain first) (is_second : IsChain second) (list : Prices) (above : pos 0 <ℤ list.scale) (covers : Covers (quadrant_chain q first second) list) where
  tight_at : (d : Direction) → weighted_length (chain_of q first second d) ≡ 0 → IsTightAt q first second list d
  tight_at d none =
      tight_at_nothing (chain_of q first second d) list (is_chain q first second d is_first is_second) none above ((covers_all q first second list d).0 covers)

  at_right : weighted_length first ≡ 0 → IsTightAt q first second list right
  at_right none = tight_at right (length_by_form q first second right ∙ only_first (weighted_length first) (weighted_length second) none)

  at_up : weighted_length second ≡ 0 → IsTightAt q first second list up
  at_up none = tight_at up (length_by_form q first second up ∙ only_second (weighted_length first) (weighted_length second) none)

  at_down : weighted_length second ≡ 0 → IsTightAt q first second list down
  at_down none = tight_at down (length_by_form q first second down ∙ only_second (weighted_length first) (weighted_length second) none)

right_in : (q : Quadrant) → IsIn q right
right_in Lower = (omega (arith, ints), omega (arith, ints))
right_in Upper = (omega (arith, ints), omega (arith, ints))

up_in : IsIn Upper up
up_in = (omega (arith, ints), omega (arith, ints))

down_in : IsIn Lower down
down_in = (omega (arith, ints), omega (arith, ints))

-- the areas with the axes
to_right : (d : Direction) → d.t <ℤ pos 0 → TurnsLeft d right
to_right d h = omega (arith, ints)

to_right_or_at : (d : Direction) → d.t ≤ℤ pos 0 → pos 0 ≤ℤ cross d right
to_right_or_at d h = omega (arith, ints)

from_right : (d : Direction) → pos 0 <ℤ d.t → TurnsLeft right d
from_right d h = omega (arith, ints)

from_right_or_at : (d : Direction) → pos 0 ≤ℤ d.t → pos 0 ≤ℤ cross right d
from_right_or_at d h = omega (arith, ints)

to_up : (d : Direction) → pos 0 <ℤ d.s → TurnsLeft d up
to_up d h = omega (arith, ints)

to_up_or_at : (d : Direction) → pos 0 ≤ℤ d.s → pos 0 ≤ℤ cross d up
to_up_or_at d h = omega (arith, ints)

from_down : (d : Direction) → pos 0 <ℤ d.s → TurnsLeft down d
from_down d h = omega (arith, ints)

from_down_or_at : (d : Direction) → pos 0 ≤ℤ d.s → pos 0 ≤ℤ cross down d
from_down_or_at d h = omega (arith, ints)

closed_without_first : (q : Quadrant) (first second : Chain) (r u : Reached) → IsChain first → IsChain second → IsReached q first second r → IsReached q first second u → IsIn q r.direction → IsIn q u.direction → TurnsLeft r.direction u.direction → weighted_length first ≡ 0 → IsOpen q first second r u → ⊥
closed_without_first Upper first second r u is_first is_second got_r got_u in_r in_u left none both_open =
    let d = r.direction in
    let e = u.direction in
    let above : pos 0 <ℤ u.list.scale = above_from_value (chain_of Upper first second e) u.list got_u.tight in
    both_open.back
    (tight_between Upper first second u.list right e d is_first is_second got_u.covers (right_in Upper) in_u (from_right e (above_after d.s d.t e.s e.t in_r.0 in_u.0 in_r.1 left))
    (record { after = from_right_or_at d in_r.1; before = not_negative (cross d e) left })
    (at_right Upper first second is_first is_second u.list above got_u.covers none) got_u.tight)
closed_without_first Lower first second r u is_first is_second got_r got_u in_r in_u left none both_open =
    let d = r.direction in
    let e = u.direction in
    let above : pos 0 <ℤ r.list.scale = above_from_value (chain_of Lower first second d) r.list got_r.tight in
    both_open.beyond
    (tight_between Lower first second r.list d right e is_first is_second got_r.covers in_r (right_in Lower) (to_right d (below_before d.s d.t e.s e.t in_r.0 in_u.0 in_u.1 left))
    (record { after = not_negative (cross d e) left; before = to_right_or_at e in_u.1 })
    got_r.tight (at_right Lower first second is_first is_second r.list above got_r.covers none))

closed_without_second : (q : Quadrant) (first second : Chain) (r u : Reached) → IsChain first → IsChain second → IsReached q first second r → IsReached q first second u → IsIn q r.direction → IsIn q u.direction → TurnsLeft r.direction u.direction → weighted_length second ≡ 0 → IsOpen q first second r u → ⊥
closed_without_second Upper first second r u is_first is_second got_r got_u in_r in_u left none both_open =
    let d = r.direction in
    let e = u.direction in
    let above : pos 0 <ℤ r.list.scale = above_from_value (chain_of Upper first second d) r.list got_r.tight in
    both_open.beyond
    (tight_between Upper first second r.list d up e is_first is_second got_r.covers in_r up_in (to_up d (right_part d.s d.t e.s e.t in_r.1 in_u.0 in_u.1 left))
    (record { after = not_negative (cross d e) left; before = to_up_or_at e in_u.0 })
    got_r.tight (at_up Upper first second is_first is_second r.list above got_r.covers none))
closed_without_second Lower first second r u is_first is_second got_r got_u in_r in_u left none both_open =
    let d = r.direction in
    let e = u.direction in
    let above : pos 0 <ℤ u.list.scale = above_from_value (chain_of Lower first second e) u.list got_u.tight in
    both_open.back
    (tight_between Lower first second u.list down e d is_first is_second got_u.covers down_in in_u (from_down e (left_part d.s d.t e.s e.t in_r.0 in_r.1 in_u.1 left))
    (record { after = from_down_or_at d in_r.0; before = not_negative (cross d e) left })
    (at_down Lower first second is_first is_second u.list above got_u.covers none) got_u.tight)

some_length : (n : ℕ) → (n ≡ 0 → ⊥) → 0 < n
some_length zero none = absurd (none refl)
some_length (suc n) none = omega arith

-- where neighbours are open both chains have a weighted length above 0
pub first_has_length : (q : Quadrant) (first second : Chain) (r u : Reached) → IsChain first → IsChain second → IsReached q first second r → IsReached q first second u → IsIn q r.direction → IsIn q u.direction → TurnsLeft r.direction u.direction → IsOpen q first second r u → 0 < weighted_length first
first_has_length q first second r u is_first is_second got_r got_u in_r in_u left both_open =
    some_length (weighted_length first) (λ none. closed_without_first q first second r u is_first is_second got_r got_u in_r in_u left none both_open)

pub second_has_length : (q : Quadrant) (first second : Chain) (r u : Reached) → IsChain first → IsChain second → IsReached q first second r → IsReached q first second u → IsIn q r.direction → IsIn q u.direction → TurnsLeft r.direction u.direction → IsOpen q first second r u → 0 < weighted_length second
second_has_length q first second r u is_first is_second got_r got_u in_r in_u left both_open =
    some_length (weighted_length second) (λ none. closed_without_second q first second r u is_first is_second got_r got_u in_r in_u left none both_open)
