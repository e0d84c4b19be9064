-- From the answer of the simplex over polygons to solutions, and to what stops the search.
use Rattle.std.proofs.Common.{◌≡◌, ℕ, suc, ◌+◌, ◌*◌, ◌^◌, ◌<◌, ◌≤◌, ltb, List, [], ◌∷◌, length, map, slice_get, ℤ, pos, ◌*ℤ◌, ◌<ℤ◌, inl, inr, arith, refl, sym, ap, subst, ◌∙◌, length-append}
use Rattle.std.specs.Prelude.{sum, Bool, ◌⊎◌}
use Rattle.std.specs.List.{AllByRecursion, range_with_len, filter, flat_map}
use Rattle.std.proofs.lemmas.Bool.{cases_lt, cases_Bool, le-ltb, cond-false}
use Rattle.std.proofs.lemmas.List.{length-map, get_or_past}
use Rattle.std.proofs.lemmas.List.FromFn.{get_or-map-range_with_len, length-range_with_len}
use Rattle.sc_theory.specs.Chains.{Chain, IsChain, IsBalanced, no_word, weight, positions}
use Rattle.sc_theory.specs.Fatgraphs.{IsFatgraph, IsLeast, cost}
use Rattle.sc_theory.specs.Prices.{Prices, pairs, is_pair, all_positions, Covers, IsTight, Vouch, bound}
use Rattle.sc_theory.specs.Columns.{rows, right_side, word_at}
use Rattle.sc_theory.proofs.Leastness.{least}
use Rattle.sc_chain.specs.Faults.{IsSmallChain}
use Rattle.sc_chain.specs.declared.polygon.Pivot.{Pivot}
use Rattle.sc_basis.specs.Products.{at}
use Rattle.sc_basis.specs.Bases.{Column as Entries}
use Rattle.sc_basis.specs.Standing.{Stands}
use Rattle.sc_basis.specs.Journals.{Journal}
use Rattle.sc_fraction.specs.declared.frac.Frac.{Frac}
use Rattle.sc_fraction.specs.Frac.{IsQuotient}
use Rattle.sc_fatgraph.specs.Surfaces.{Surface}
use Rattle.sc_text.specs.declared.limits.TheConstants.{MAX_PIVOTS}
use Rattle.sc_text.specs.Surfaces.{IsChainInRange}
use Rattle.sc_certificate.specs.Certificates.{IsCertificateInRange}
use Rattle.sc_certificate.specs.PivotLines.{IsPivotInRange}
use Rattle.sc_prices.specs.Conditions.{stated, AllHold}
use Rattle.sc_rows.specs.Standing.{PricesStand}
use Rattle.sc_rows.specs.declared.fault.WideAt.{WideAt}
use Rattle.sc_rows.specs.declared.prices.PriceRows.{PriceRows}
use Rattle.sc_simplex.specs.declared.column.Column.{Column}
use Rattle.sc_simplex.specs.declared.column.KeyPivot.{KeyPivot}
use Rattle.sc_simplex.specs.declared.solving.Optimum.{Optimum}
use Rattle.sc_simplex.specs.declared.solving.SimplexFault.{SimplexFault}
use Rattle.sc_simplex.specs.declared.solving.SimplexFault.TheVariants as simplex_faults
use Rattle.sc_simplex.specs.Columns.{key_of}
use Rattle.sc_simplex.specs.NamedJournals.{basis_of, first_seen, pivot_key}
use Rattle.sc_simplex.specs.Oracles.{ImprovesAt}
use Rattle.sc_simplex.specs.Optima.{IsOptimum, IsShownAfter, IsSumOfColumns, AreValues as AreBasisValues, IsStopped as IsSimplexStopped}
use Rattle.sc_simplex.specs.WideOperations.{IsWideOperation}
use Rattle.sc_simplex.proofs.FirstSeen.{length_first_seen}
use Rattle.sc_assembly.proofs.SeedColumns.{feasible as seed}
use Rattle.sc_assembly.specs.declared.parts.Part.{Part}
use Rattle.sc_assembly.specs.Multiples.{AreValues}
use Rattle.sc_solve.specs.PolygonColumns.{column_entries, IsPolygonColumn}
use Rattle.sc_solve.specs.Searches.{IsWideSearch}
use Rattle.sc_solve.specs.Lifts.{IsLift, IsLiftFault}
use Rattle.sc_solve.specs.ListTables.{AreDistances}
use Rattle.sc_solve.specs.Solutions.{pivots_of, last_items, IsJournalOf, IsOptimalEnd, ArePartsFrom, ArePartsOf, IsGluedOf, distinct_polygons, IsSolution, certificate_of, IsStopped, IsUsedUp, IsWideAfter, IsWideInLift, HasManyCopies}
use Rattle.sc_solve.specs.inside.Assembling.{named_pivot, valued, IsMadeOf, IsPartStop}
use Rattle.sc_solve.specs.inside.Endings.{IsEndingBy, IsEnding, IsEndingOf, ArePolygonKeys, HasPolygons, IsStopOf, IsUnlifted, IsUnglued, IsCertified}
use Rattle.sc_solve.specs.declared.assembling.PartStop.{PartStop}
use Rattle.sc_solve.specs.declared.assembling.PartStop.TheVariants as part_stops
use Rattle.sc_solve.specs.declared.ending.Ending.{Ending}
use Rattle.sc_solve.specs.declared.lifting.LiftFault.{LiftFault}
use Rattle.sc_solve.specs.declared.lifting.LiftFault.TheVariants as lift_faults
use Rattle.sc_solve.specs.declared.solution.Solution.{Solution}
use Rattle.sc_solve.specs.declared.solution.SolveFault.{SolveFault}
use Rattle.sc_solve.specs.declared.solution.SolveFault.TheVariants.{Budget, Wide, Sides, Memory}
use Rattle.sc_solve.proofs.PolygonJournals.{named_pivots, named_polygons, named_walks, journal_named, journal_in_range, length-last_items}
use Rattle.sc_solve.proofs.LastBases.{bulk_is_none, fine_price_is, are_values, parts_from, none_negative}
use Rattle.sc_solve.proofs.Feasible.{feasible}
use Rattle.sc_solve.proofs.Tightness.{lift_is_tight}
use Rattle.sc_solve.proofs.CertificateRanges.{certificate_in_range, lift_counts}

-- ---- how many rows there are
length-kept : {X : Type 0} (p : X → Bool) (xs : List X) → length (filter p xs) ≤ length xs
length-kept p [] = omega arith
length-kept p (x ∷ xs) = elim (cases_Bool (p x)) [
  | inl e ↦ rw e (omega (arith, length-kept p xs))
  | inr e ↦ rw e (omega (arith, length-kept p xs))
]

more_rows : (a b n k : ℕ) → a ≤ n → b ≤ k * n → a + b ≤ suc k * n
more_rows a b n k h h' = omega (arith, h, h')

length-flat : {X Y : Type 0} (h : X → List Y) (n : ℕ) (xs : List X) → ((x : X) → length (h x) ≤ n) → length (flat_map h xs) ≤ length xs * n
length-flat h n [] few = omega arith
length-flat h n (x ∷ xs) few =
    subst (λ (k : ℕ). k ≤ length (x ∷ xs) * n) (sym (length-append (h x) (flat_map h xs))) (more_rows (length (h x)) (length (flat_map h xs)) n (length xs) (few x) (length-flat h n xs few))

abbrev pairs_with : Chain → ℕ → List (ℕ × ℕ)
pairs_with c p = map (λ q. (p, q)) (filter (is_pair c p) (all_positions c))

few_with : (c : Chain) (p : ℕ) → length (pairs_with c p) ≤ positions c
few_with c p =
    let pair : ℕ → ℕ × ℕ = λ q. (p, q) in
    let own : length (pairs_with c p) ≡ length (filter (is_pair c p) (all_positions c)) = length-map (filter (is_pair c p) (all_positions c)) pair in
    let all : length (all_positions c) ≡ positions c = length-range_with_len 0 (positions c) in
    omega (arith, own, all, length-kept (is_pair c p) (all_positions c))

few_pairs : (c : Chain) → length (pairs c) ≤ positions c * positions c
few_pairs c =
    subst (λ (m : ℕ). length (pairs c) ≤ m * positions c) (length-range_with_len 0 (positions c)) (length-flat (pairs_with c) (positions c) (all_positions c) (few_with c))

square : (n : ℕ) → n ≤ 64 → n * n ≤ 64 * 64
square n h = grind (arith, h)

pub rows_few : (c : Chain) → IsSmallChain c → rows c < 2 ^ 32
rows_few c small = omega (arith, few_pairs c, square (positions c) small.few_positions, small.few_words)

-- ---- the right side as a list
past_rows : (c : Chain) (k : ℕ) → rows c ≤ k → right_side c k ≡ pos 0
past_rows c k past =
    let np : ℕ = length (pairs c) in
    let pair_past : np ≤ k = omega arith in
    let word_past : length c ≤ word_at c k = omega arith in
    cond-false (ltb k np) (pos 0) (pos (weight c (word_at c k))) (le-ltb k np pair_past)
    ∙ ap (λ (w : ℕ × List _). pos w.0) (get_or_past c (word_at c k) no_word word_past)

length-side : (c : Chain) (side : List ℤ) → side ≡ map (right_side c) (range_with_len 0 (rows c)) → length side ≡ rows c
length-side c side is = ap (λ (xs : List ℤ). length xs) is ∙ length-map (range_with_len 0 (rows c)) (right_side c) ∙ length-range_with_len 0 (rows c)

side_at : (c : Chain) (side : List ℤ) → side ≡ map (right_side c) (range_with_len 0 (rows c)) → (k : ℕ) → at side k ≡ right_side c k
side_at c side is k =
    elim (cases_lt k (rows c)) [
      | inl inside ↦ ap (λ (xs : List ℤ). at xs k) is ∙ get_or-map-range_with_len (right_side c) 0 (rows c) k k (pos 0) inside (omega arith)
      | inr past ↦ get_or_past side k (pos 0) (subst (λ (n : ℕ). n ≤ k) (sym (length-side c side is)) past) ∙ sym (past_rows c k past)
    ]

-- the list of the right side has a number for each row, and these are the numbers of the right side
pub side_size : (c : Chain) (side : List ℤ) → side ≡ map (right_side c) (range_with_len 0 (rows c)) → length side ≡ rows c
side_size = length-side

pub side_is : (c : Chain) (side : List ℤ) → side ≡ map (right_side c) (range_with_len 0 (rows c)) → at side ≡ right_side c
side_is c side is = λ i. λ k. side_at c side is k i

-- the right side of a balanced chain is a sum of columns of its polygons
pub balance_of : (c : Chain) → IsChain c → IsBalanced c → IsSumOfColumns (IsPolygonColumn c) (rows c) (right_side c)
balance_of c chain balanced = feasible c (seed c chain balanced).0 (right_side c) (seed c chain balanced).1 (λ k inside. refl)

-- from the oracle's chain and the list of the right side to the chain and its right side
module _ (c own : Chain) (side : List ℤ) (same : own ≡ c) (side_list : side ≡ map (right_side c) (range_with_len 0 (rows c))) where
  -- what holds of the oracle's chain and of the list holds of the chain and its right side, and the other way
  pub over_side : (P : Chain → ℕ → (ℕ → ℤ) → Type 0) → P own (length side) (at side) → P c (rows c) (right_side c)
  over_side P h =
      subst (λ (d : Chain). P d (rows c) (right_side c)) same
      (subst (λ (b : ℕ → ℤ). P own (rows c) b) (side_is c side side_list) (subst (λ (r : ℕ). P own r (at side)) (length-side c side side_list) h))

  pub for_side : (P : Chain → ℕ → (ℕ → ℤ) → Type 0) → P c (rows c) (right_side c) → P own (length side) (at side)
  for_side P h =
      subst (λ (r : ℕ). P own r (at side)) (sym (length-side c side side_list))
      (subst (λ (b : ℕ → ℤ). P own (rows c) b) (sym (side_is c side side_list)) (subst (λ (d : Chain). P d (rows c) (right_side c)) (sym same) h))

-- ---- the optimal basis
-- an optimum within a budget of pivots has no more columns than that
pub few_columns : (c : Chain) (budget : ℕ) (o : Optimum) → IsOptimum (IsPolygonColumn c) (rows c) (right_side c) budget o → length o.columns ≤ budget
few_columns c budget o is =
    omega (arith, length-map o.columns key_of, ap (λ (ks : List (List ℕ)). length ks) is.items.keys, length_first_seen (map pivot_key o.journal.items), length-map o.journal.items pivot_key, is.within)

-- the keys in the journal of an optimum over the polygons are polygons
pub optimum_polygons : (c : Chain) (budget : ℕ) (o : Optimum) → IsOptimum (IsPolygonColumn c) (rows c) (right_side c) budget o → ArePolygonKeys c o.journal.items
optimum_polygons c budget o is = named_polygons c o.journal.items is.pivots is.lawful.named

distinct_named : (ks : List KeyPivot) (columns : List Column) (n : ℕ) → map key_of columns ≡ first_seen (map pivot_key ks) → n ≡ length columns → n ≡ distinct_polygons (map named_pivot ks)
distinct_named ks columns n keys e =
    e ∙ sym (length-map columns key_of) ∙ ap (λ (xs : List (List ℕ)). length xs) keys ∙ ap (λ (xs : List (List ℕ)). length (first_seen xs)) (sym (named_walks ks))

ending_named : (c : Chain) (budget : ℕ) (o : Optimum) (n : ℕ) → IsOptimum (IsPolygonColumn c) (rows c) (right_side c) budget o → n ≡ length o.columns → IsEndingBy c budget (map named_pivot o.journal.items) o.prices o.values.items n
ending_named c budget o n is e =
    let same : pivots_of c (map named_pivot o.journal.items) ≡ is.pivots = named_pivots c o.journal.items is.pivots is.lawful.named in
    record {
      lawful = journal_named c budget o.journal.items is.pivots is.lawful is.within;
      optimal = record {
        stands = subst (λ (ps : Journal). PricesStand (rows c) (basis_of (rows c) ps) o.prices) (sym same) is.prices;
        optimal = λ walk polygon. is.optimal walk (column_entries c walk) (record { polygon = polygon; entries_are = refl });
      };
      numbers = is.numbers;
      stands = subst (λ (ps : Journal). Stands (rows c) (basis_of (rows c) ps) is.numbers) (sym same) is.stands;
      values_are = subst (λ (ps : Journal). AreBasisValues (rows c) (right_side c) ps is.numbers o.values.items) (sym same) is.values;
      columns_are = distinct_named o.journal.items o.columns n is.items.keys e;
    }

-- what is taken over from an optimum over the polygons is an ending
pub ending_is : (c : Chain) (budget : ℕ) (o : Optimum) (e : Ending) → IsOptimum (IsPolygonColumn c) (rows c) (right_side c) budget o → IsEndingOf o e → IsEnding c budget e
ending_is c budget o e is of =
    subst (λ (js : List Pivot). IsEndingBy c budget js e.prices e.values.items e.columns) (sym of.journal)
    (subst (λ (p : PriceRows). IsEndingBy c budget (map named_pivot o.journal.items) p e.values.items e.columns) (sym of.prices)
    (subst (λ (vs : List Frac). IsEndingBy c budget (map named_pivot o.journal.items) o.prices vs e.columns) (sym (ap (λ (v : _). v.items) of.values))
    (ending_named c budget o e.columns is of.columns)))

-- ---- what stops the simplex
-- the keys that are told where the simplex is stopped over the polygons are polygons
pub stop_polygons : (c : Chain) (b : ℕ → ℤ) (budget : ℕ) (fault : SimplexFault) → IsSimplexStopped (IsPolygonColumn c) (IsWideSearch c) (rows c) b budget fault → HasPolygons c fault
stop_polygons c b budget (simplex_faults.Budget journal column) is = (named_polygons c journal.items is.pivots is.lawful.named, is.known.polygon)
stop_polygons c b budget (simplex_faults.Wide journal at) is = named_polygons c journal.items is.pivots is.lawful.named
stop_polygons c b budget simplex_faults.Memory is = tt

wide_named : (c : Chain) (budget : ℕ) (ks : List KeyPivot) (ps : Journal) (at : WideAt) → pivots_of c (map named_pivot ks) ≡ ps
    → IsShownAfter (IsWideSearch c) (rows c) ps at ⊎ IsWideOperation (IsPolygonColumn c) (rows c) (right_side c) budget (length ks) ps at
    → IsShownAfter (IsWideSearch c) (rows c) (pivots_of c (map named_pivot ks)) at ⊎ IsWideOperation (IsPolygonColumn c) (rows c) (right_side c) budget (length (map named_pivot ks)) (pivots_of c (map named_pivot ks)) at
    ⊎ IsWideInLift c (map named_pivot ks) at
wide_named c budget ks ps at same (inl shown) = inl (subst (λ (qs : Journal). IsShownAfter (IsWideSearch c) (rows c) qs at) (sym same) shown)
wide_named c budget ks ps at same (inr wide) =
    inr (inl (subst (λ (n : ℕ). IsWideOperation (IsPolygonColumn c) (rows c) (right_side c) budget n (pivots_of c (map named_pivot ks)) at) (sym (length-map ks named_pivot))
    (subst (λ (qs : Journal). IsWideOperation (IsPolygonColumn c) (rows c) (right_side c) budget (length ks) qs at) (sym same) wide)))

-- what stops the simplex over the polygons stops the search for a solution
pub stop_is : (c : Chain) (budget : ℕ) (fault : SimplexFault) (stop : SolveFault) → IsSimplexStopped (IsPolygonColumn c) (IsWideSearch c) (rows c) (right_side c) budget fault → IsStopOf fault stop → IsStopped c budget stop
stop_is c budget (simplex_faults.Budget journal column) (Budget pivots improving) is of =
    let same : pivots_of c (map named_pivot journal.items) ≡ is.pivots = named_pivots c journal.items is.pivots is.lawful.named in
    subst (λ (js : List Pivot). IsUsedUp c budget js improving) (sym of.0)
    (subst (λ (walk : List ℕ). IsUsedUp c budget (map named_pivot journal.items) walk) (sym of.1)
    (record {
      lawful = journal_named c budget journal.items is.pivots is.lawful (omega (arith, is.used));
      used = length-map journal.items named_pivot ∙ is.used;
      prices = is.prices;
      stands = subst (λ (ps : Journal). PricesStand (rows c) (basis_of (rows c) ps) is.prices) (sym same) is.stands;
      polygon = is.known.polygon;
      improves = subst (λ (es : Entries). ImprovesAt (rows c) is.prices es) is.known.entries_are is.improves;
    }))
stop_is c budget (simplex_faults.Budget journal column) (Wide pivots at) is of = absurd of
stop_is c budget (simplex_faults.Budget journal column) (Sides pivots part so_far next) is of = absurd of
stop_is c budget (simplex_faults.Budget journal column) Memory is of = absurd of
stop_is c budget (simplex_faults.Wide journal at) (Budget pivots improving) is of = absurd of
stop_is c budget (simplex_faults.Wide journal at) (Wide pivots at') is of =
    let same : pivots_of c (map named_pivot journal.items) ≡ is.pivots = named_pivots c journal.items is.pivots is.lawful.named in
    subst (λ (js : List Pivot). IsWideAfter c budget js at') (sym of.0)
    (subst (λ (w : WideAt). IsWideAfter c budget (map named_pivot journal.items) w) (sym of.1)
    (record {
      lawful = journal_named c budget journal.items is.pivots is.lawful is.within;
      wide = wide_named c budget journal.items is.pivots at same is.wide;
    }))
stop_is c budget (simplex_faults.Wide journal at) (Sides pivots part so_far next) is of = absurd of
stop_is c budget (simplex_faults.Wide journal at) Memory is of = absurd of
stop_is c budget simplex_faults.Memory (Budget pivots improving) is of = absurd of
stop_is c budget simplex_faults.Memory (Wide pivots at) is of = absurd of
stop_is c budget simplex_faults.Memory (Sides pivots part so_far next) is of = absurd of
stop_is c budget simplex_faults.Memory Memory is of = tt

-- ---- the parts of an ending
-- each pivot of a journal is in a row that there is
pub end_rows : (c : Chain) (budget : ℕ) (journal : List Pivot) → IsJournalOf c budget journal → AllByRecursion (λ p. p.row < rows c) journal
end_rows c budget journal is = only_rows journal (journal_in_range c budget journal is)
  where
    only_rows : (js : List Pivot) → AllByRecursion (IsPivotInRange c) js → AllByRecursion (λ p. p.row < rows c) js
    only_rows [] all = tt
    only_rows (p ∷ js) all = (all.0.row, only_rows js all.1)

module _ (c : Chain) (budget : ℕ) (journal : List Pivot) (p : PriceRows) (values : List Frac) (columns : ℕ) (is : IsEndingBy c budget journal p values columns) where
  -- the items of the last basis with the values of an ending are its parts, by the ending's numbers
  pub ending_parts : ArePartsFrom c is.numbers 0 (last_items c journal) (valued (last_items c journal) values)
  ending_parts =
      parts_from c is.numbers 0 (last_items c journal) values (is.values_are.size ∙ sym (length-last_items c journal))
      (λ k j f e at. (let here : k ≡ j = omega (arith, e) in is.values_are.values j f (ap (λ (i : ℕ). slice_get values i) (sym here) ∙ at)))

  -- so they are the parts of the last basis
  pub parts_of_ending : ArePartsOf c journal (valued (last_items c journal) values)
  parts_of_ending = record { numbers = is.numbers; stands = is.stands; in_order = ending_parts }

  -- and their values balance: so many of the columns as the values say come to the right side
  pub ending_values : IsSumOfColumns (IsPolygonColumn c) (rows c) (right_side c) → AreValues c (valued (last_items c journal) values)
  ending_values balance =
      are_values c budget journal p is.numbers balance is.lawful is.optimal is.stands (valued (last_items c journal) values) ending_parts (none_negative (last_items c journal) values is.values_are.not_negative)

  -- a lift is tight for a surface that is glued of the parts
  pub ending_tight : (list : Prices) (f : Surface) → IsSumOfColumns (IsPolygonColumn c) (rows c) (right_side c) → IsLift c p list → IsMadeOf c (valued (last_items c journal) values) f → IsTight c list f.copies f.sides
  ending_tight list f balance lift made =
      subst (λ (v : ℕ). list.scale *ℤ pos v ≡ pos f.copies *ℤ bound c list) (sym made.vertices_are)
      (lift_is_tight c p list f.copies (sum made.counts) lift (bulk_is_none c budget journal p is.numbers balance is.lawful is.optimal is.stands)
      (fine_price_is c budget journal p is.numbers balance is.lawful is.optimal is.stands (valued (last_items c journal) values) f.copies made.counts ending_parts made.are_counts))

-- ---- solutions
solution_by : (c : Chain) (budget : ℕ) (e : Ending) (list : Prices) (f : Surface) (s : Solution) → IsEnding c budget e → IsSumOfColumns (IsPolygonColumn c) (rows c) (right_side c) → IsLift c e.prices list → Covers c list
    → IsMadeOf c (valued (last_items c e.journal.items) e.values.items) f → IsCertified c e list f s → IsSolution c budget s
solution_by c budget e list f s is balance lift covers made certified =
    let journal : s.journal.items ≡ e.journal.items = ap (λ (v : _). v.items) certified.journal_is in
    record {
      journal = subst (IsJournalOf c budget) (sym journal) is.lawful;
      prices = e.prices;
      optimal = subst (λ (js : List Pivot). IsOptimalEnd c js e.prices) (sym journal) is.optimal;
      lift = subst (IsLift c e.prices) (sym certified.list_is) lift;
      covers = subst (Covers c) (sym certified.list_is) covers;
      copies = ap (λ (g : Surface). g.copies) certified.surface_is ∙ sym certified.copies_are;
      glued = subst (λ (js : List Pivot). IsGluedOf c js s.fatgraph) (sym journal)
          (subst (IsGluedOf c e.journal.items) (sym certified.surface_is)
          (record {
            over = made.over;
            parts = valued (last_items c e.journal.items) e.values.items;
            are_parts = parts_of_ending c budget e.journal.items e.prices e.values.items e.columns is;
            least = made.least;
            counts = made.counts;
            are_counts = made.are_counts;
            glued = made.glued;
          }));
      fatgraph = subst (λ (g : Surface). IsFatgraph c s.n g.sides) (sym certified.surface_is)
          (subst (λ (n : ℕ). IsFatgraph c n f.sides) (sym certified.copies_are) made.fatgraph);
      value = subst (λ (g : Surface). IsQuotient (cost g.sides) (pos (2 * s.n)) s.value) (sym certified.surface_is)
          (subst (λ (n : ℕ). IsQuotient (cost f.sides) (pos (2 * n)) s.value) (sym certified.copies_are) certified.value_is);
      tight = subst (λ (l : Prices). IsTight c l s.n s.fatgraph.sides) (sym certified.list_is)
          (subst (λ (g : Surface). IsTight c list s.n g.sides) (sym certified.surface_is)
          (subst (λ (n : ℕ). IsTight c list n f.sides) (sym certified.copies_are) (ending_tight c budget e.journal.items e.prices e.values.items e.columns is list f balance lift made)));
      vouch = subst (λ (l : Prices). Vouch c l s.tables) (sym certified.list_is) certified.vouch;
      least_totals = subst (λ (l : Prices). AreDistances c l s.tables) (sym certified.list_is) certified.least_totals;
      columns = certified.columns_are ∙ is.columns_are ∙ ap distinct_polygons (sym journal);
    }

-- an ending, its lift, which covers, and a surface that is made of its parts are a solution
pub solution_is : (c : Chain) (budget : ℕ) (e : Ending) (list : Prices) (f : Surface) (s : Solution) → IsEnding c budget e → IsSumOfColumns (IsPolygonColumn c) (rows c) (right_side c) → IsLift c e.prices list → Covers c list
    → IsMadeOf c (valued (last_items c e.journal.items) e.values.items) f → IsCertified c e list f s → IsSolution c budget s
solution_is = solution_by

-- the certificate of what is certified over a small chain is in its range
pub solution_readable : (c : Chain) (budget : ℕ) (e : Ending) (list : Prices) (f : Surface) (s : Solution) → IsEnding c budget e → IsSmallChain c → IsLift c e.prices list → f.chain ≡ c → IsCertified c e list f s
    → IsChainInRange c → budget ≤ MAX_PIVOTS → IsCertificateInRange (certificate_of s)
solution_readable c budget e list f s is small lift over certified in_range few =
    let journal : s.journal.items ≡ e.journal.items = ap (λ (v : _). v.items) certified.journal_is in
    let few_pivots : length e.journal.items ≤ MAX_PIVOTS = omega (arith, is.lawful.within, few) in
    subst (λ (g : Surface). IsCertificateInRange (stated g s.value s.list s.tables s.journal.items)) (sym certified.surface_is)
    (subst (λ (l : Prices). IsCertificateInRange (stated f s.value l s.tables s.journal.items)) (sym certified.list_is)
    (subst (λ (js : List Pivot). IsCertificateInRange (stated f s.value list s.tables js)) (sym journal)
    (certificate_in_range c f s.value list s.tables e.journal.items small in_range over certified.surface certified.value_is certified.small_list (lift_counts c e.prices list lift) certified.sizes certified.small_tables
    few_pivots (journal_in_range c budget e.journal.items is.lawful))))

scale_positive : (c : Chain) (p : PriceRows) (list : Prices) → IsLift c p list → pos 0 <ℤ p.fine.scale → pos 0 <ℤ list.scale
scale_positive c p list lift above = subst (λ (l : Prices). pos 0 <ℤ l.scale) (sym lift.list_is) above

-- the labelled fatgraph of a solution is least, and all conditions hold of its certificate
pub solution_least : (c : Chain) (budget : ℕ) (s : Solution) → IsChain c → IsSolution c budget s → IsLeast c s.n s.fatgraph.sides
solution_least c budget s chain is = least c s.list s.n s.fatgraph.sides chain (scale_positive c is.prices s.list is.lift is.optimal.stands.prices.fine_scale) is.covers is.fatgraph is.tight

pub solution_conditions : (c : Chain) (budget : ℕ) (s : Solution) → IsSolution c budget s → AllHold (certificate_of s)
solution_conditions c budget s is =
    let over : s.fatgraph.chain ≡ c = is.glued.over in
    record {
      fatgraph = subst (λ (d : Chain). IsFatgraph d s.fatgraph.copies s.fatgraph.sides) (sym over) (subst (λ (n : ℕ). IsFatgraph c n s.fatgraph.sides) (sym is.copies) is.fatgraph);
      value = subst (λ (n : ℕ). IsQuotient (cost s.fatgraph.sides) (pos (2 * n)) s.value) (sym is.copies) is.value;
      tables = subst (λ (d : Chain). Vouch d s.list s.tables) (sym over) is.vouch;
      tight = subst (λ (d : Chain). IsTight d s.list s.fatgraph.copies s.fatgraph.sides) (sym over) (subst (λ (n : ℕ). IsTight c s.list n s.fatgraph.sides) (sym is.copies) is.tight);
    }

-- ---- what stops lift and gluing
-- what stops the lift after an ending stops the search for a solution
pub unlifted_is : (c : Chain) (budget : ℕ) (e : Ending) (fault : LiftFault) (stop : SolveFault) → IsEnding c budget e → IsLiftFault c e.prices fault → IsUnlifted e.journal.items fault stop → IsStopped c budget stop
unlifted_is c budget e (lift_faults.Wide at) (Budget pivots improving) is wide of = absurd of
unlifted_is c budget e (lift_faults.Wide at) (Wide pivots at') is wide of =
    subst (λ (js : List Pivot). IsWideAfter c budget js at') (sym of.0)
    (subst (λ (w : WideAt). IsWideAfter c budget e.journal.items w) (sym of.1)
    (record { lawful = is.lawful; wide = inr (inr (record { prices = e.prices; optimal = is.optimal; wide = wide })) }))
unlifted_is c budget e (lift_faults.Wide at) (Sides pivots part so_far next) is wide of = absurd of
unlifted_is c budget e (lift_faults.Wide at) Memory is wide of = absurd of
unlifted_is c budget e lift_faults.Memory (Budget pivots improving) is wide of = absurd of
unlifted_is c budget e lift_faults.Memory (Wide pivots at) is wide of = absurd of
unlifted_is c budget e lift_faults.Memory (Sides pivots part so_far next) is wide of = absurd of
unlifted_is c budget e lift_faults.Memory Memory is wide of = tt

-- what stops the gluing after an ending stops the search for a solution
pub unglued_is : (c : Chain) (budget : ℕ) (e : Ending) (fault : PartStop) (stop : SolveFault) → IsEnding c budget e → IsPartStop c (valued (last_items c e.journal.items) e.values.items) fault → IsUnglued e.journal.items fault stop → IsStopped c budget stop
unglued_is c budget e (part_stops.Sides part so_far next) (Budget pivots improving) is many of = absurd of
unglued_is c budget e (part_stops.Sides part so_far next) (Wide pivots at) is many of = absurd of
unglued_is c budget e (part_stops.Sides part so_far next) (Sides pivots part' so_far' next') is many of =
    subst (λ (js : List Pivot). HasManyCopies c budget js part' so_far' next') (sym of.0)
    (subst (λ (q : Part). HasManyCopies c budget e.journal.items q so_far' next') (sym of.1)
    (subst (λ (n : ℕ). HasManyCopies c budget e.journal.items part n next') (sym of.2)
    (subst (λ (z : ℤ). HasManyCopies c budget e.journal.items part so_far z) (sym of.3)
    (record {
      lawful = is.lawful;
      prices = e.prices;
      optimal = is.optimal;
      parts = valued (last_items c e.journal.items) e.values.items;
      are_parts = parts_of_ending c budget e.journal.items e.prices e.values.items e.columns is;
      place = many.place;
      part_is = many.part_is;
      many = many.many;
    }))))
unglued_is c budget e (part_stops.Sides part so_far next) Memory is many of = absurd of
unglued_is c budget e part_stops.Memory (Budget pivots improving) is many of = absurd of
unglued_is c budget e part_stops.Memory (Wide pivots at) is many of = absurd of
unglued_is c budget e part_stops.Memory (Sides pivots part so_far next) is many of = absurd of
unglued_is c budget e part_stops.Memory Memory is many of = tt
