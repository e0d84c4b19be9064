-- What the optimal last basis of a journal of polygons gives: values, balanced parts, and the vertices of what is
-- glued of them.
use Rattle.std.proofs.Common.{◌≡◌, ℕ, zero, suc, ◌+◌, ◌*◌, ◌/◌, ◌<◌, List, [], ◌∷◌, length, get_or, set, replicate, nat_lt, Bool, true, false, cond, slice_get, Option, Some, None, ℤ, pos, negsuc, ◌*ℤ◌, ◌≤ℤ◌, unsigned_abs, arith, refl, sym, ap, subst, ◌∙◌}
use Rattle.std.specs.Prelude.{sum, IfSome}
use Rattle.std.specs.Option.{option_map}
use Rattle.std.specs.List.{AllByRecursion}
use Rattle.std.proofs.lemmas.Int.{ints}
use Rattle.std.proofs.Math.ListN.{get_or-map}
use Rattle.sc_algebra.specs.Sums.{sum_below}
use Rattle.sc_algebra.proofs.Ints.{mul_comm, pos-mul}
use Rattle.sc_algebra.proofs.Sums.{sum-congr}
use Rattle.sc_theory.specs.Chains.{Chain, weight}
use Rattle.sc_theory.specs.Prices.{pairs}
use Rattle.sc_theory.specs.Walks.{IsPolygon}
use Rattle.sc_theory.specs.Columns.{rows, column, right_side, word_at}
use Rattle.sc_chain.specs.declared.polygon.Pivot.{Pivot}
use Rattle.sc_basis.specs.Products.{dot, IsNonNegative}
use Rattle.sc_basis.specs.Bases.{Column, Basis, item, columns, entries_at, fine_cost, fine_costs}
use Rattle.sc_basis.specs.Standing.{BasisNumbers, Stands}
use Rattle.sc_basis.specs.Pivots.{Improves}
use Rattle.sc_basis.specs.Journals.{IsReached}
use Rattle.sc_basis.specs.Values.{value, AreMultiples}
use Rattle.sc_basis.proofs.JournalLaws.{journal_reached}
use Rattle.sc_basis.proofs.ValueLaws.{bulk_of_right_side, unit_value, columns_sum, fine_price}
use Rattle.sc_fraction.specs.declared.frac.Frac.{Frac}
use Rattle.sc_fraction.specs.Frac.{numerator, IsQuotient}
use Rattle.sc_gluing.specs.Gluing.{AreBalanced}
use Rattle.sc_rows.specs.Standing.{PricesStand, entries_of}
use Rattle.sc_simplex.specs.Optima.{IsSumOfColumns}
use Rattle.sc_rows.specs.declared.prices.PriceRows.{PriceRows}
use Rattle.sc_assembly.specs.declared.parts.Part.{Part}
use Rattle.sc_assembly.specs.Multiples.{IsTimes, AreCounts, counted, AreValues}
use Rattle.sc_assembly.proofs.Wholes.{size, Divide, common, times_from_divides}
use Rattle.sc_assembly.proofs.OneMultiple.{values_from_one}
use Rattle.sc_solve.specs.PolygonColumns.{column_entries, IsPolygonColumn}
use Rattle.sc_solve.specs.Solutions.{last_basis, IsJournalOf, IsOptimalEnd, exchanged, last_items, pivots_of, ArePartsFrom}
use Rattle.sc_solve.specs.inside.Assembling.{valued}
use Rattle.sc_solve.specs.EntryLaws.{entry_is}
use Rattle.sc_solve.proofs.PolygonJournals.{entries_of_items, length-last_items}
use Rattle.sc_solve.proofs.PartCounts.{times, multiples_from, weighed, weighed_by_rows, column_weighed, sum_weighed}

-- ---- the right side
not_below : (n : ℕ) → pos 0 ≤ℤ pos n
not_below n = omega (arith, ints)

chosen : (b : Bool) (n : ℕ) → pos 0 ≤ℤ cond b (pos 0) (pos n)
chosen true n = not_below 0
chosen false n = not_below n

-- no weight is negative
pub right_side_positive : (c : Chain) → IsNonNegative (rows c) (right_side c)
right_side_positive c k inside = chosen (nat_lt k (length (pairs c))) (weight c (word_at c k))

by_places : (P : Column → Type 0) (xs : List Column) → ((j : ℕ) (x : Column) → slice_get xs j ≡ Some x → P x) → AllByRecursion P xs
by_places P [] h = tt
by_places P (x ∷ xs) h = (h 0 x refl, by_places P xs (λ j y at. h (suc j) y at))

-- ---- rows with prices
abbrev mixed : BasisNumbers → PriceRows → BasisNumbers
mixed t p =
    record {
      row = t.row;
      denominator = t.denominator;
      bulk = entries_of p.bulk;
      bulk_scale = p.bulk.scale;
      fine = entries_of p.fine;
      fine_scale = p.fine.scale;
    }

mixed_stands : (r : ℕ) (basis : Basis) (t : BasisNumbers) (p : PriceRows) → Stands r basis t → PricesStand r basis p → Stands r basis (mixed t p)
mixed_stands r basis t p rows prices =
    record {
      rows = rows.rows;
      rows_coprime = rows.rows_coprime;
      bulk = prices.bulk;
      bulk_coprime = prices.bulk_coprime;
      fine = prices.fine;
      fine_coprime = prices.fine_coprime;
    }

-- ---- items
item_is : (c : Chain) (journal : List Pivot) (i : ℕ) → item (last_basis c journal) i ≡ option_map (column_entries c) (get_or (last_items c journal) i None)
item_is c journal i =
    ap (λ (basis : Basis). get_or basis i None) (sym (entries_of_items c journal)) ∙ get_or-map (option_map (column_entries c)) (last_items c journal) i None

item_of : (c : Chain) (journal : List Pivot) (i : ℕ) (x : Option (List ℕ)) → get_or (last_items c journal) i None ≡ x → item (last_basis c journal) i ≡ option_map (column_entries c) x
item_of c journal i x at = item_is c journal i ∙ ap (option_map (column_entries c)) at

all-set : (P : Option (List ℕ) → Type 0) (items : List (Option (List ℕ))) (i : ℕ) (x : Option (List ℕ)) → AllByRecursion P items → P x → AllByRecursion P (set items i x)
all-set P [] i x all h = tt
all-set P (y ∷ items) zero x all h = (h, all.1)
all-set P (y ∷ items) (suc i) x all h = (all.0, all-set P items i x all.1 h)

all_exchanged : (c : Chain) (items : List (Option (List ℕ))) (journal : List Pivot) → AllByRecursion (λ o. IfSome o (IsPolygon c)) items → AllByRecursion (λ p. IsPolygon c p.polygon) journal → AllByRecursion (λ o. IfSome o (IsPolygon c)) (exchanged items journal)
all_exchanged c items [] all polygons = all
all_exchanged c items (p ∷ journal) all polygons =
    all_exchanged c (set items p.row (Some p.polygon)) journal (all-set (λ o. IfSome o (IsPolygon c)) items p.row (Some p.polygon) all polygons.0) polygons.1

no_items : (c : Chain) (n : ℕ) → AllByRecursion (λ o. IfSome o (IsPolygon c)) (replicate n None)
no_items c zero = tt
no_items c (suc n) = (tt, no_items c n)

-- ---- parts with values
-- items beside values are parts from the row i on, where each value is that of its row as a quotient
pub parts_from : (c : Chain) (t : BasisNumbers) (i : ℕ) (items : List (Option (List ℕ))) (values : List Frac) → length values ≡ length items
    → ((k j : ℕ) (f : Frac) → j ≡ i + k → slice_get values k ≡ Some f → IsQuotient (value (rows c) (right_side c) t j) (t.denominator j) f)
    → ArePartsFrom c t i items (valued items values)
parts_from c t i [] values len is = tt
parts_from c t i (x ∷ items) [] len is = absurd (omega arith)
parts_from c t i (None ∷ items) (v ∷ values) len is = parts_from c t (suc i) items values (omega arith) (λ k j f e at. is (suc k) j f (omega arith) at)
parts_from c t i (Some walk ∷ items) (v ∷ values) len is =
    (refl, is 0 i v (omega arith) refl, parts_from c t (suc i) items values (omega arith) (λ k j f e at. is (suc k) j f (omega arith) at))

-- where no value is negative, no part has a negative value
pub none_negative : (items : List (Option (List ℕ))) (values : List Frac) → ((k : ℕ) (f : Frac) → slice_get values k ≡ Some f → pos 0 ≤ℤ numerator f) → AllByRecursion (λ p. pos 0 ≤ℤ numerator p.value) (valued items values)
none_negative [] values is = tt
none_negative (x ∷ items) [] is = tt
none_negative (None ∷ items) (v ∷ values) is = none_negative items values (λ k f at. is (suc k) f at)
none_negative (Some walk ∷ items) (v ∷ values) is = (is 0 v refl, none_negative items values (λ k f at. is (suc k) f at))

size_is : (z : ℤ) → pos 0 ≤ℤ z → z ≡ pos (unsigned_abs z)
size_is (pos n) h = refl
size_is (negsuc n) h = absurd (omega (arith, ints))

some_counts : (n : ℕ) (parts : List Part) → Divide parts n → AllByRecursion (λ p. pos 0 ≤ℤ numerator p.value) parts → (counts : List ℕ) × AreCounts n parts counts
some_counts n [] divide all = ([], tt)
some_counts n (p ∷ parts) divide all =
    let rest = some_counts n parts divide.1 all.1 in
    let q : ℕ = n / size p.value in
    let whole : pos q *ℤ numerator p.value ≡ pos (q * unsigned_abs (numerator p.value)) = ap (λ (z : ℤ). pos q *ℤ z) (size_is (numerator p.value) all.0) ∙ sym (pos-mul q (unsigned_abs (numerator p.value))) in
    (q * unsigned_abs (numerator p.value) ∷ rest.0, (subst (λ (m : ℤ). IsTimes n p.value m) whole (times_from_divides p.value n divide.0), rest.1))

counted_polygons : (c : Chain) (t : BasisNumbers) (i n : ℕ) (items : List (Option (List ℕ))) (parts : List Part) (counts : List ℕ) → ArePartsFrom c t i items parts → AreCounts n parts counts → AllByRecursion (λ o. IfSome o (IsPolygon c)) items → AllByRecursion (λ p. IsPolygon c p.0) (counted parts counts)
counted_polygons c t i n [] [] counts are those all = tt
counted_polygons c t i n [] (p ∷ parts) counts are those all = absurd are
counted_polygons c t i n (None ∷ items) parts counts are those all = counted_polygons c t (suc i) n items parts counts are those all.1
counted_polygons c t i n (Some walk ∷ items) [] counts are those all = absurd are
counted_polygons c t i n (Some walk ∷ items) (p ∷ parts) [] are those all = absurd those
counted_polygons c t i n (Some walk ∷ items) (p ∷ parts) (m ∷ counts) are those all =
    (subst (IsPolygon c) (sym are.0) all.0, counted_polygons c t (suc i) n items parts counts are.2 those.1 all.1)

-- ---- an optimal last basis
module _ (c : Chain) (budget : ℕ) (journal : List Pivot) (p : PriceRows) (t : BasisNumbers) (balance : IsSumOfColumns (IsPolygonColumn c) (rows c) (right_side c)) (lawful : IsJournalOf c budget journal) (end : IsOptimalEnd c journal p) (stands : Stands (rows c) (last_basis c journal) t) where
  reached : IsReached (rows c) (right_side c) (last_basis c journal)
  reached = journal_reached (rows c) (right_side c) (pivots_of c journal) (right_side_positive c) lawful.lawful

  none_improves : AllByRecursion (λ x. ¬ Improves (rows c) (mixed t p) x) balance.columns
  none_improves =
      by_places (λ x. ¬ Improves (rows c) (mixed t p) x) balance.columns
      (λ j x at. let known = balance.are_columns j x at in subst (λ (y : Column). ¬ Improves (rows c) (mixed t p) y) (sym known.1.entries_are) (end.optimal known.0 known.1.polygon))

  -- the product of the bulk prices with the right side is 0
  pub bulk_is_none : dot (rows c) (entries_of p.bulk) (right_side c) ≡ pos 0
  bulk_is_none =
      bulk_of_right_side (rows c) (right_side c) (last_basis c journal) (mixed t p) balance.columns reached (mixed_stands (rows c) (last_basis c journal) t p stands end.stands) balance.sum
      none_improves

  unit_is_none : (k j : ℕ) → j ≡ 0 + k → k < length (last_items c journal) → get_or (last_items c journal) k None ≡ None → value (rows c) (right_side c) t j ≡ pos 0
  unit_is_none k j e inside none =
      let same : k ≡ j = omega arith in
      let within : j < rows c = omega (arith, length-last_items c journal) in
      unit_value (rows c) (right_side c) (last_basis c journal) (mixed t p) balance.columns reached (mixed_stands (rows c) (last_basis c journal) t p stands end.stands) balance.sum
      none_improves j within
      (item_of c journal j None (ap (λ (i : ℕ). get_or (last_items c journal) i None) (sym same) ∙ none))

  module _ (parts : List Part) (n : ℕ) (counts : List ℕ) (are : ArePartsFrom c t 0 (last_items c journal) parts) (those : AreCounts n parts counts) where
    are_multiples : AreMultiples (rows c) (right_side c) t (pos n) (times (last_items c journal) counts)
    are_multiples i inside = multiples_from c t n 0 (last_items c journal) parts counts are those unit_is_none i i (omega arith) (omega (arith, length-last_items c journal))

    by_rows : (H : List ℕ → ℤ) (F : ℕ → ℤ) → ((k : ℕ) (walk : List ℕ) → k < length (last_items c journal) → get_or (last_items c journal) k None ≡ Some walk → F k ≡ H walk)
        → weighed H (counted parts counts) ≡ sum_below (λ k. times (last_items c journal) counts k *ℤ F k) (rows c)
    by_rows H F same =
        weighed_by_rows c t H F n 0 (last_items c journal) parts counts are those same
        ∙ ap (λ (m : ℕ). sum_below (λ k. times (last_items c journal) counts k *ℤ F k) m) (length-last_items c journal)

    column_here : (k : ℕ) → k < rows c → (i : ℕ) (walk : List ℕ) → i < length (last_items c journal) → get_or (last_items c journal) i None ≡ Some walk → columns (last_basis c journal) i k ≡ column c walk k
    column_here k inside i walk within at = ap (λ (o : Option Column). entries_at i o k) (item_of c journal i (Some walk) at) ∙ entry_is (column c walk) (rows c) k inside

    -- the parts, each as often as its count says, balance over n copies
    pub parts_balance : AreBalanced c n (counted parts counts)
    parts_balance = record {
      polygons = counted_polygons c t 0 n (last_items c journal) parts counts are those (all_exchanged c (replicate (rows c) None) journal (no_items c (rows c)) lawful.polygons);
      sums = λ k inside.
          column_weighed c (counted parts counts) k
          ∙ by_rows (λ walk. column c walk k) (λ i. columns (last_basis c journal) i k) (column_here k inside)
          ∙ sym (columns_sum (rows c) (right_side c) (last_basis c journal) t (pos n) (times (last_items c journal) counts) reached stands are_multiples k inside);
    }

    cost_here : (i : ℕ) (walk : List ℕ) → i < length (last_items c journal) → get_or (last_items c journal) i None ≡ Some walk → fine_costs (last_basis c journal) i ≡ pos 1
    cost_here i walk within at = ap fine_cost (item_of c journal i (Some walk) at)

    -- n times the fine price of the right side is the scale times the number of polygons
    pub fine_price_is : pos n *ℤ dot (rows c) (entries_of p.fine) (right_side c) ≡ p.fine.scale *ℤ pos (sum counts)
    fine_price_is =
        fine_price (rows c) (right_side c) (last_basis c journal) (mixed t p) (pos n) (times (last_items c journal) counts) reached (mixed_stands (rows c) (last_basis c journal) t p stands end.stands) are_multiples
        ∙ ap (λ (x : ℤ). p.fine.scale *ℤ x)
        (sum-congr (λ i. fine_costs (last_basis c journal) i *ℤ times (last_items c journal) counts i) (λ i. times (last_items c journal) counts i *ℤ fine_costs (last_basis c journal) i) (rows c)
        (λ i inside. mul_comm (fine_costs (last_basis c journal) i) (times (last_items c journal) counts i))
        ∙ sym (by_rows (λ walk. pos 1) (fine_costs (last_basis c journal)) cost_here)
        ∙ sum_weighed n parts counts those)

  -- so parts of the last basis without a negative value have the values of a solution
  pub are_values : (parts : List Part) → ArePartsFrom c t 0 (last_items c journal) parts → AllByRecursion (λ q. pos 0 ≤ℤ numerator q.value) parts → AreValues c parts
  are_values parts are all =
      let whole = common parts in
      let some = some_counts whole.0 parts whole.2 all in
      values_from_one c parts whole.0 some.0 whole.1 some.1 (parts_balance parts whole.0 some.0 are some.1)
