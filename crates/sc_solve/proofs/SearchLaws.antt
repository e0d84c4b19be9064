-- What a search at the prices of a square finds, in the terms of the prices of the rows.
use Rattle.std.proofs.Common.{◌≡◌, ℕ, List, [], ◌∷◌, Option, Some, None, ℤ, ◌+ℤ◌, inr, refl, sym, ap, ap₂, subst, subst₂, ◌∙◌}
use Rattle.sc_theory.specs.Chains.{Chain, IsChain}
use Rattle.sc_theory.specs.Walks.{IsStep, IsClosedWalk}
use Rattle.sc_theory.specs.Columns.{rows}
use Rattle.sc_theory.proofs.WalkTotals.{walk_total-congr}
use Rattle.sc_weight.specs.Levels.{Levels, levels_sum}
use Rattle.sc_weight.specs.Evidence.{IsFirstWideLevel}
use Rattle.sc_whole.specs.declared.checked.Op.TheVariants.{Add}
use Rattle.sc_rows.specs.declared.prices.PriceRows.{PriceRows}
use Rattle.sc_simplex.specs.Oracles.{ImprovesAt}
use Rattle.sc_tables.specs.Walks.{WalksAlong, end_of}
use Rattle.sc_tables.specs.Totals.{total_along, open_total, closed_total, bulk_of, fine_of, IsBelow, IsAtMost}
use Rattle.sc_tables.specs.Tables.{AllAtLeast, IsPolygonBelow}
use Rattle.sc_tables.specs.CheapPolygons.{IsWideWalk, IsTableFault}
use Rattle.sc_tables.proofs.WalkLaws.{walks_front, walks_rest}
use Rattle.sc_weight.specs.declared.level.Level.{Level}
use Rattle.sc_whole.specs.declared.checked.Wide.{Wide as Operation}
use Rattle.sc_basis.specs.Bases.{Column as Entries}
use Rattle.sc_rows.specs.Places.{IsWideBy}
use Rattle.sc_tables.specs.declared.tables.TableFault.{TableFault}
use Rattle.sc_tables.specs.declared.tables.TableFault.TheVariants.{Wide as TableWide, Memory as TableMemory}
use Rattle.sc_solve.specs.Searches.{IsWideSearch}
use Rattle.sc_solve.specs.inside.Searches.{MatchCheap, refusal_of_table}
use Rattle.sc_solve.specs.PriceLevels.{price_levels, threshold_of}
use Rattle.sc_solve.specs.PolygonColumns.{column_entries, IsPolygonColumn}
use Rattle.sc_solve.proofs.PolygonPrices.{improves_from}

-- two prices that are the same on the steps of a chain
module _ (c : Chain) (f g : ℕ → ℕ → Levels) (same : (i j : ℕ) → IsStep c i j → f i j ≡ g i j) where
  -- they give each closed walk one total, so what is known of the totals at one holds at the other
  pub closed_same : (walk : List ℕ) → IsClosedWalk c walk → closed_total f walk ≡ closed_total g walk
  closed_same walk closed =
      let bulk = walk_total-congr c (bulk_of f) (bulk_of g) (λ i j step. ap (λ (l : Levels). l.bulk) (same i j step)) walk closed in
      let fine = walk_total-congr c (fine_of f) (fine_of g) (λ i j step. ap (λ (l : Levels). l.fine) (same i j step)) walk closed in
      λ k. record { bulk = bulk k; fine = fine k }

  pub all_same : (t : Levels) → AllAtLeast c f t → AllAtLeast c g t
  all_same t all walk closed = subst (IsAtMost t) (closed_same walk closed) (all walk closed)

  pub below_same : (t : Levels) (walk : List ℕ) → IsPolygonBelow c f t walk → IsPolygonBelow c g t walk
  below_same t walk is = record { polygon = is.polygon; below = subst (λ (x : Levels). IsBelow x t) (closed_same walk is.polygon.closed) is.below }

  along_same : (h k : ℕ → ℕ → ℤ) → ((i j : ℕ) → IsStep c i j → h i j ≡ k i j) → (i : ℕ) (js : List ℕ) → WalksAlong c i js → total_along h i js ≡ total_along k i js
  along_same h k alike i [] walks = refl
  along_same h k alike i (j ∷ js) walks = ap₂ (λ (x y : ℤ). x +ℤ y) (alike i j walks.0) (along_same h k alike j js walks.1)

  open_same : (i : ℕ) (js : List ℕ) → WalksAlong c i js → open_total f i js ≡ open_total g i js
  open_same i js walks =
      let bulk = along_same (bulk_of f) (bulk_of g) (λ a b step. ap (λ (l : Levels). l.bulk) (same a b step)) i js walks in
      let fine = along_same (fine_of f) (fine_of g) (λ a b step. ap (λ (l : Levels). l.fine) (same a b step)) i js walks in
      λ k. record { bulk = bulk k; fine = fine k }

  pub wide_same : (walk : List ℕ) (level : Level) (wide : Operation) → IsWideWalk c f walk level wide → IsWideWalk c g walk level wide
  wide_same walk level wide is = record {
    start = is.start;
    front = is.front;
    last = is.last;
    is = is.is;
    steps = is.steps;
    few = is.few;
    evidence =
        subst₂ (λ (x y : Levels). IsFirstWideLevel Add (levels_sum x y) x y (record { level = level; wide = wide }))
        (open_same is.start is.front (walks_front c is.start is.front (is.last ∷ []) is.steps))
        (same (end_of is.start is.front) is.last (walks_rest c is.start is.front (is.last ∷ []) is.steps).0)
        is.evidence;
  }

-- and what a search answers is the same at both
pub match_same : (c : Chain) (f g : ℕ → ℕ → Levels) (t : Levels) → ((i j : ℕ) → IsStep c i j → f i j ≡ g i j) → (o : Option (List ℕ)) → MatchCheap c f t o → MatchCheap c g t o
match_same c f g t same (Some walk) is = below_same c f g same t walk is
match_same c f g t same None is = all_same c f g same t is

-- a fault of tables at the prices of the rows is told as a refusal of the search
pub table_fault_is : (c : Chain) (p : PriceRows) (f : ℕ → ℕ → Levels) → ((i j : ℕ) → IsStep c i j → f i j ≡ price_levels c p i j) → (fault : TableFault) → IsTableFault c f fault → IsWideBy (IsWideSearch c p) (refusal_of_table fault)
table_fault_is c p f same (TableWide walk level wide) is = inr (record {
  level = level;
  walk = walk.items;
  told = refl;
  place = refl;
  first = refl;
  second = refl;
  entering = refl;
  leaving = refl;
  wide = wide_same c f (price_levels c p) same walk.items level wide is;
})
table_fault_is c p f same TableMemory is = tt

-- the column of a polygon that was found
pub answer_is : (c : Chain) (p : PriceRows) (walk key : List ℕ) (entries : Entries) → IsChain c → IsPolygonBelow c (price_levels c p) (threshold_of p) walk → key ≡ walk → IsPolygonColumn c key entries →
    IsPolygonColumn c key entries × ImprovesAt (rows c) p entries
answer_is c p walk key entries chain below e is =
    (is, subst (ImprovesAt (rows c) p) (sym (is.entries_are ∙ ap (column_entries c) e)) (improves_from c chain p walk below.polygon.closed below.below))
