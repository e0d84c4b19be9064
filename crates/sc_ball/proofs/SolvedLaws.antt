-- A solution of the chain of a direction solves the direction.
use Rattle.std.proofs.Common.{◌≡◌, ℕ, zero, suc, ◌*◌, ◌<◌, ◌≤◌, ◌&&◌, nat_lt, List, map, length, ℤ, pos, negsuc, ◌-ℤ◌, ◌*ℤ◌, ◌≤ℤ◌, ◌<ℤ◌, unsigned_abs, arith, sym, ap, subst, ◌∙◌}
use Rattle.std.specs.Int.{◌∣◌}
use Rattle.std.specs.List.{flat_map, filter, range_with_len}
use Rattle.std.proofs.lemmas.Int.{ints}
use Rattle.std.proofs.lemmas.Nat.Gcd.{le_of_dvd}
use Rattle.sc_algebra.proofs.Ints.{mul_comm, mul-le_factor, cancel_le, pos-le}
use Rattle.sc_theory.specs.Words.{is_inverse}
use Rattle.sc_theory.specs.Chains.{Chain, IsChain, positions, letter}
use Rattle.sc_theory.specs.Fatgraphs.{Sides, IsLeast, cost, edges, vertices}
use Rattle.sc_theory.specs.Prices.{Prices, pairs}
use Rattle.sc_theory.proofs.VertexLaws.{cost_not_negative}
use Rattle.sc_fraction.specs.declared.frac.Frac.{Frac}
use Rattle.sc_fraction.specs.Frac.{numerator, denominator, IsQuotient}
use Rattle.sc_text.specs.ValueLines.{quotient_of}
use Rattle.sc_fatgraph.specs.Surfaces.{IsSmallFatgraph}
use Rattle.sc_certificate.specs.Sizes.{IsSmallList, FitsCounts}
use Rattle.sc_solve.specs.declared.solution.Solution.{Solution}
use Rattle.sc_solve.specs.Solutions.{IsSolution}
use Rattle.sc_solve.proofs.CertificateRanges.{lift_counts}
use Rattle.sc_assembly.proofs.Wholes.{size, denominator_is, divides_from_times}
use Rattle.sc_cone.specs.declared.Direction.{Direction}
use Rattle.sc_cone.specs.declared.Quadrant.{Quadrant}
use Rattle.sc_cone.specs.Cones.{second_words, chain_of, quadrant_chain}
use Rattle.sc_cone.specs.Values.{IsValueOf}
use Rattle.sc_cone.proofs.SameWords.{Same}
use Rattle.sc_cone.proofs.ConeChains.{same_quadrant, covers_all}
use Rattle.sc_cone.proofs.ConeWords.{is_chain}
use Rattle.sc_cone.proofs.ValueLaws.{value_from_tight, value_from_least, value_moved}
use Rattle.sc_crossing.specs.Lengths.{IsLight}
use Rattle.sc_fan.specs.Corners.{IsCornerValue}
use Rattle.sc_ball.specs.declared.solved.Solved.{Solved}
use Rattle.sc_ball.specs.inside.Solved.{IsSmall, IsSolvedIn}

-- ---- the value
cost_within : (g : Sides) → cost g ≤ℤ pos (length g)
cost_within g = below (vertices g) (edges g) (length g) (omega arith)
  where
    below : (v e n : ℕ) → e ≤ n → (pos e -ℤ pos v) ≤ℤ pos n
    below v e n h = omega (arith, ints)

not_negative : (z d k : ℤ) (m : ℕ) → pos 0 ≤ℤ k → pos 0 <ℤ d → 0 < m → z *ℤ pos m ≡ k *ℤ d → pos 0 ≤ℤ z
not_negative (pos z) d k m low above some e = omega (arith, ints)
not_negative (negsuc z) d k zero low above some e = absurd (omega arith)
not_negative (negsuc z) (pos d) (pos k) (suc m) low above some e = absurd (grind (arith, ints))
not_negative (negsuc z) (pos d) (negsuc k) (suc m) low above some e = absurd (omega (arith, ints))
not_negative (negsuc z) (negsuc d) k (suc m) low above some e = absurd (omega (arith, ints))

-- the value of a surface within the limits is that of a corner
value_in_range : (k : ℤ) (m n : ℕ) (v : Frac) → pos 0 ≤ℤ k → k ≤ℤ pos m → m ≤ 1048576 → 0 < n → n ≤ 2097152 → IsQuotient k (pos n) v → IsCornerValue (quotient_of v)
value_in_range k m n v low high few some few_copies is =
    let divides : size v ∣ n = divides_from_times v n k (mul_comm (pos n) (numerator v) ∙ is) in
    let within : size v ≤ n = le_of_dvd some divides in
    let den_high : denominator v ≤ℤ pos n = subst (λ (z : ℤ). z ≤ℤ pos n) (sym (denominator_is v)) (pos-le (size v) n within) in
    let num_high : numerator v ≤ℤ k = cancel_le n (numerator v) k some (subst (λ (z : ℤ). z ≤ℤ (pos n *ℤ k)) (sym (mul_comm (pos n) (numerator v) ∙ is))
    (subst (λ (z : ℤ). (k *ℤ denominator v) ≤ℤ z) (mul_comm k (pos n)) (mul-le_factor k (denominator v) (pos n) low den_high))) in
    record {
      num_low = not_negative (numerator v) (denominator v) k n low v.positive some is;
      num_high = up_to (numerator v) k m 2147483647 num_high high (omega (arith, few));
      den_low = at_least_one (denominator v) v.positive;
      den_high = up_to (denominator v) (pos n) n 2147483647 den_high (same_le n) (omega (arith, few_copies));
      lowest = v.reduced;
    }
  where
    up_to : (a b : ℤ) (m most : ℕ) → a ≤ℤ b → b ≤ℤ pos m → m ≤ most → a ≤ℤ pos most
    up_to a b m most h h' h'' = omega (arith, ints)

    same_le : (n : ℕ) → pos n ≤ℤ pos n
    same_le n = omega (arith, ints)

    at_least_one : (d : ℤ) → pos 0 <ℤ d → pos 1 ≤ℤ d
    at_least_one d h = omega (arith, ints)

-- ---- the direction
-- chains with the same words have the same pairs
pairs_same : (c d : Chain) → Same c d → pairs c ≡ pairs d
pairs_same c d same =
    let p : letter c ≡ letter d = λ k. λ i. same.letter i k in
    let q : positions c ≡ positions d = same.all in
    λ k. flat_map (λ (a : ℕ). map (λ (b : ℕ). (a, b)) (filter (λ (b : ℕ). nat_lt a b && is_inverse (p k a) (p k b)) (range_with_len 0 (q k)))) (range_with_len 0 (q k))

module _ (q : Quadrant) (first second : Chain) (is_first : IsChain first) (is_second : IsChain second) (d : Direction) where
  abbrev chain : Chain
  chain = chain_of q first second d

  fits_quadrant : (list : Prices) → FitsCounts (length chain) (length (pairs chain)) list → FitsCounts (length (quadrant_chain q first second)) (length (pairs (quadrant_chain q first second))) list
  fits_quadrant list fits =
      let same = same_quadrant first (second_words q second) (unsigned_abs d.s) (unsigned_abs d.t) in
      record {
        base = fits.base ∙ same.size;
        pair = fits.pair ∙ ap (λ (ps : List (ℕ × ℕ)). length ps) (pairs_same chain (quadrant_chain q first second) same);
      }

  module _ (light : IsLight first second d) (small : IsSmall d) (s : Solution) (surface : IsSmallFatgraph s.fatgraph) (list_small : IsSmallList s.list) where
    abbrev solved : Solved
    solved = record { reached = record { direction = d; list = s.list }; value = s.value }

    solved_by : (budget : ℕ) → IsSolution chain budget s → IsLeast chain s.n s.fatgraph.sides → IsSolvedIn q first second solved
    solved_by budget solution least =
        let chained : IsChain chain = is_chain q first second d is_first is_second in
        let above : pos 0 <ℤ s.list.scale = scale_above s.list.scale list_small.scale.low in
        let at_d : IsValueOf chain (cost s.fatgraph.sides) (pos (2 * s.n)) = value_from_least chain s.n s.fatgraph.sides solution.fatgraph least in
        let some : 0 < 2 * s.n = omega (arith, solution.fatgraph.copies) in
        let few_copies : s.n ≤ 1048576 = omega (arith, solution.copies, surface.few_copies) in
        let few_sides : length s.fatgraph.sides ≤ 1048576 = omega (arith, surface.few_sides) in
        record {
          reached = record {
            covers = (covers_all q first second s.list d).1 solution.covers;
            tight = value_from_tight chain s.list s.n s.fatgraph.sides chained above solution.covers solution.fatgraph solution.tight;
          };
          value = value_moved chain (cost s.fatgraph.sides) (pos (2 * s.n)) (numerator s.value) (denominator s.value) at_d s.value.positive solution.value;
          light = light;
          small = small;
          in_range = value_in_range (cost s.fatgraph.sides) (length s.fatgraph.sides) (2 * s.n) s.value (cost_not_negative chain s.n s.fatgraph.sides solution.fatgraph chained) (cost_within s.fatgraph.sides) few_sides some (omega (arith, few_copies)) solution.value;
          list = record { small = list_small; counts = fits_quadrant s.list (lift_counts chain solution.prices s.list solution.lift) };
        }
      where
        scale_above : (z : ℤ) → pos 1 ≤ℤ z → pos 0 <ℤ z
        scale_above z h = omega (arith, ints)

    -- a least solution of the chain of a direction solves the direction
    pub solved_is : (c : Chain) (budget : ℕ) → c ≡ chain → IsSolution c budget s → IsLeast c s.n s.fatgraph.sides → IsSolvedIn q first second solved
    solved_is c budget is solution least =
        solved_by budget (subst (λ (k : Chain). IsSolution k budget s) is solution) (subst (λ (k : Chain). IsLeast k s.n s.fatgraph.sides) is least)
