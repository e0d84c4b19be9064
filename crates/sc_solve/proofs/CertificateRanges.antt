-- The certificate of a solution keeps the ranges of its text.
use Rattle.std.proofs.Common.{◌≡◌, ℕ, zero, suc, ◌*◌, ◌<◌, ◌≤◌, List, [], ◌∷◌, length, ℤ, pos, negsuc, ◌-ℤ◌, ◌*ℤ◌, ◌≤ℤ◌, ◌<ℤ◌, arith, sym, subst, ◌∙◌}
use Rattle.std.specs.Int.{◌∣◌}
use Rattle.std.specs.List.{AllByRecursion, range_with_len}
use Rattle.std.proofs.lemmas.Int.{ints}
use Rattle.std.proofs.lemmas.List.{length-map}
use Rattle.std.proofs.lemmas.List.FromFn.{length-range_with_len}
use Rattle.std.proofs.lemmas.Nat.Gcd.{le_of_dvd}
use Rattle.sc_algebra.proofs.Ints.{mul_comm, mul-le_factor, cancel_le, pos-le}
use Rattle.sc_theory.specs.Chains.{Chain, positions}
use Rattle.sc_theory.specs.Fatgraphs.{Sides, cost, edges, vertices}
use Rattle.sc_theory.specs.Prices.{Prices, Tables, pairs}
use Rattle.sc_theory.proofs.VertexLaws.{cost_not_negative}
use Rattle.sc_chain.specs.Faults.{IsSmallChain}
use Rattle.sc_chain.specs.declared.polygon.Pivot.{Pivot}
use Rattle.sc_fraction.specs.declared.frac.Frac.{Frac}
use Rattle.sc_fraction.specs.Frac.{numerator, denominator, IsQuotient}
use Rattle.sc_text.specs.declared.limits.TheConstants.{MAX_PIVOTS}
use Rattle.sc_text.specs.TableLines.{IsTableInRange}
use Rattle.sc_text.specs.Words.{IsWordInRange}
use Rattle.sc_text.specs.Surfaces.{IsChainInRange}
use Rattle.sc_fatgraph.specs.Surfaces.{Surface, IsSmallFatgraph}
use Rattle.sc_fatgraph.specs.Texts.{HaveWeights}
use Rattle.sc_fatgraph.proofs.TextRanges.{surface_in_range}
use Rattle.sc_certificate.specs.Certificates.{IsCertificateInRange}
use Rattle.sc_certificate.specs.PivotLines.{IsPivotInRange}
use Rattle.sc_certificate.specs.Sizes.{IsSmallList, AreSmallTables, FitsCounts, AreTablesOf}
use Rattle.sc_prices.specs.Conditions.{stated}
use Rattle.sc_assembly.proofs.Wholes.{size, denominator_is, divides_from_times}
use Rattle.sc_rows.specs.declared.prices.PriceRows.{PriceRows}
use Rattle.sc_solve.specs.PriceLevels.{lifted_price}
use Rattle.sc_solve.specs.Lifts.{IsLift}

-- ---- the value
cost_within : (g : Sides) → cost g ≤ℤ pos (length g)
cost_within g = below (vertices g) (edges g) (length g) (omega arith)
  where
    below : (v e n : ℕ) → e ≤ n → (pos e -ℤ pos v) ≤ℤ pos n
    below v e n h = omega (arith, ints)

-- a value of a positive multiple of its denominator
numerator_low : (z d : ℤ) (k : ℤ) (m : ℕ) → pos 0 ≤ℤ k → pos 0 <ℤ d → 0 < m → z *ℤ pos m ≡ k *ℤ d → pos 0 ≤ℤ z
numerator_low (pos z) d k m low above some e = omega (arith, ints)
numerator_low (negsuc z) d k zero low above some e = absurd (omega arith)
numerator_low (negsuc z) (pos d) (pos k) (suc m) low above some e = absurd (grind (arith, ints))
numerator_low (negsuc z) (pos d) (negsuc k) (suc m) low above some e = absurd (omega (arith, ints))
numerator_low (negsuc z) (negsuc d) k (suc m) low above some e = absurd (omega (arith, ints))

positive : (v : Frac) → pos 0 <ℤ denominator v
positive v = v.positive

value_in_range : (k : ℤ) (n most : ℕ) (v : Frac) → pos 0 ≤ℤ k → k ≤ℤ pos most → 0 < n → IsQuotient k (pos n) v → (pos 0 ≤ℤ numerator v) × (numerator v ≤ℤ pos most) × (pos 1 ≤ℤ denominator v) × (denominator v ≤ℤ pos n)
value_in_range k n most v low high some is =
    let divides : size v ∣ n = divides_from_times v n k (mul_comm (pos n) (numerator v) ∙ is) in
    let within : size v ≤ n = le_of_dvd some divides in
    let den_high : denominator v ≤ℤ pos n = subst (λ (z : ℤ). z ≤ℤ pos n) (sym (denominator_is v)) (pos-le (size v) n within) in
    let num_high : numerator v ≤ℤ k = cancel_le n (numerator v) k some (subst (λ (z : ℤ). z ≤ℤ (pos n *ℤ k)) (sym (mul_comm (pos n) (numerator v) ∙ is))
    (subst (λ (z : ℤ). (k *ℤ denominator v) ≤ℤ z) (mul_comm k (pos n)) (mul-le_factor k (denominator v) (pos n) low den_high))) in
    (numerator_low (numerator v) (denominator v) k n low (positive v) some is, chained (numerator v) k (pos most) num_high high, at_least_one (denominator v) (positive v), den_high)
  where
    chained : (a b c : ℤ) → a ≤ℤ b → b ≤ℤ c → a ≤ℤ c
    chained a b c h h' = omega (arith, ints)

    at_least_one : (d : ℤ) → pos 0 <ℤ d → pos 1 ≤ℤ d
    at_least_one d h = omega (arith, ints)

-- ---- lists
weights_at : (c : Chain) → AllByRecursion IsWordInRange c → HaveWeights c
weights_at [] all w inside = absurd (omega arith)
weights_at (v ∷ c) all zero inside = (all.0.low, all.0.high)
weights_at (v ∷ c) all (suc w) inside = weights_at c all.1 w (omega arith)

tables_in_range : (n : ℕ) (tables : Tables) → AllByRecursion (λ table. length table ≡ n) tables → AreSmallTables tables → AllByRecursion (IsTableInRange n) tables
tables_in_range n [] sizes small = tt
tables_in_range n (table ∷ tables) sizes small = (record { count_is = sizes.0; entries_in_range = small.0 }, tables_in_range n tables sizes.1 small.1)

-- a lift has a base price for each word of its chain and a price for each pair
pub lift_counts : (c : Chain) (p : PriceRows) (list : Prices) → IsLift c p list → FitsCounts (length c) (length (pairs c)) list
lift_counts c p list lift =
    subst (FitsCounts (length c) (length (pairs c))) (sym lift.list_is)
    (record {
      base = length-map (range_with_len (length (pairs c)) (length c)) (lifted_price p lift.factor) ∙ length-range_with_len (length (pairs c)) (length c);
      pair = length-map (range_with_len 0 (length (pairs c))) (lifted_price p lift.factor) ∙ length-range_with_len 0 (length (pairs c));
    })

-- ---- the certificate
-- a certificate whose parts are in their ranges, over a surface of the chain with its value, is in its range
pub certificate_in_range : (c : Chain) (f : Surface) (v : Frac) (list : Prices) (tables : Tables) (journal : List Pivot) → IsSmallChain c → IsChainInRange c → f.chain ≡ c → IsSmallFatgraph f → IsQuotient (cost f.sides) (pos (2 * f.copies)) v
    → IsSmallList list → FitsCounts (length c) (length (pairs c)) list → AreTablesOf (positions c) tables → AreSmallTables tables → length journal ≤ MAX_PIVOTS → AllByRecursion (IsPivotInRange c) journal
    → IsCertificateInRange (stated f v list tables journal)
certificate_in_range c f v list tables journal small in_range over surface value list_small counts sizes tables_small few pivots =
    let own : IsSmallChain f.chain = subst IsSmallChain (sym over) small in
    let chain : IsChainInRange f.chain = subst IsChainInRange (sym over) in_range in
    let text = surface_in_range f own surface (weights_at f.chain chain.words) in
    let low : pos 0 ≤ℤ cost f.sides = cost_not_negative f.chain f.copies f.sides surface.fatgraph own.chain in
    let some : 0 < 2 * f.copies = omega (arith, surface.fatgraph.copies) in
    let ranges = value_in_range (cost f.sides) (2 * f.copies) (length f.sides) v low (cost_within f.sides) some value in
    let few_sides : length f.sides ≤ 2097152 = omega (arith, surface.few_sides) in
    let few_copies : 2 * f.copies ≤ 2097152 = omega (arith, surface.few_copies) in
    record {
      chain = chain;
      value = record {
        num_low = ranges.0;
        num_high = up_to (numerator v) (length f.sides) 2097152 ranges.1 few_sides;
        den_low = ranges.2;
        den_high = up_to (denominator v) (2 * f.copies) 2097152 ranges.3 few_copies;
        lowest = v.reduced;
      };
      some_copies = text.low;
      few_copies = text.high;
      few_sides = text.count;
      sides = text.sides;
      list = list_small;
      counts = subst (λ (d : Chain). FitsCounts (length d) (length (pairs d)) list) (sym over) counts;
      table_count = subst (λ (d : Chain). length tables ≡ positions d) (sym over) sizes.count;
      tables = subst (λ (d : Chain). AllByRecursion (IsTableInRange (positions d)) tables) (sym over) (tables_in_range (positions c) tables sizes.entries tables_small);
      few_pivots = few;
      journal = subst (λ (d : Chain). AllByRecursion (IsPivotInRange d) journal) (sym over) pivots;
    }
  where
    up_to : (z : ℤ) (m most : ℕ) → z ≤ℤ pos m → m ≤ most → z ≤ℤ pos most
    up_to z m most h h' = omega (arith, ints)
