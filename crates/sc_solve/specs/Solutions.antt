-- What `extremal` answers: a journal of polygons to an optimal basis, and what is made of that basis.
use Rattle.std.specs.Prelude.{◌≡◌, ◌⊎◌, ℕ, suc, ◌≤◌, ◌*◌, List, [], ◌∷◌, map, set, replicate, length, slice_get, Option, Some, None, ℤ, pos}
use Rattle.std.specs.List.{AllByRecursion}
use Rattle.sc_theory.specs.Chains.{Chain}
use Rattle.sc_theory.specs.Fatgraphs.{IsFatgraph, cost}
use Rattle.sc_theory.specs.Walks.{IsPolygon}
use Rattle.sc_theory.specs.Columns.{rows, right_side}
use Rattle.sc_theory.specs.Prices.{Covers, IsTight, Vouch}
use Rattle.sc_chain.specs.declared.polygon.Pivot.{Pivot}
use Rattle.sc_basis.specs.Bases.{Basis, unit_basis}
use Rattle.sc_basis.specs.Standing.{BasisNumbers, Stands}
use Rattle.sc_basis.specs.Journals.{Journal, IsJournal, basis_after}
use Rattle.sc_basis.specs.Values.{value}
use Rattle.sc_fraction.specs.Frac.{IsQuotient}
use Rattle.sc_fatgraph.specs.Surfaces.{Surface}
use Rattle.sc_gluing.specs.Cycles.{copies_of}
use Rattle.sc_gluing.specs.Gluing.{IsGlued}
use Rattle.sc_rows.specs.Standing.{PricesStand}
use Rattle.sc_rows.specs.declared.fault.WideAt.{WideAt}
use Rattle.sc_rows.specs.declared.prices.PriceRows.{PriceRows}
use Rattle.sc_simplex.specs.NamedJournals.{RisesAlong, first_seen}
use Rattle.sc_simplex.specs.Oracles.{ImprovesAt}
use Rattle.sc_simplex.specs.Optima.{IsShownAfter}
use Rattle.sc_simplex.specs.WideOperations.{IsWideOperation}
use Rattle.sc_assembly.specs.declared.parts.Part.{Part}
use Rattle.sc_assembly.specs.Multiples.{IsLeastWhole, AreCounts, counted, HasManySides}
use Rattle.sc_certificate.specs.Certificates.{Certificate}
use Rattle.sc_prices.specs.Conditions.{stated}
use Rattle.sc_solve.specs.PolygonColumns.{column_entries, IsPolygonColumn}
use Rattle.sc_solve.specs.Searches.{IsWideSearch}
use Rattle.sc_solve.specs.Lifts.{IsLift, IsWideLift}
use Rattle.sc_solve.specs.ListTables.{AreDistances}
use Rattle.sc_solve.specs.declared.solution.Solution.{Solution}
use Rattle.sc_solve.specs.declared.solution.SolveFault.{SolveFault}
use Rattle.sc_solve.specs.declared.solution.SolveFault.TheVariants.{Budget, Wide, Sides, Memory}

-- ---- journals of polygons
-- the pivots in which the columns of the polygons enter
abbrev pub pivots_of : Chain → List Pivot → Journal
pivots_of c journal = map (λ p. (p.row, column_entries c p.polygon)) journal

-- the basis that they lead to from that of the unit columns
abbrev pub last_basis : Chain → List Pivot → Basis
last_basis c journal = basis_after (unit_basis (rows c)) (pivots_of c journal)

-- lawful pivots of polygons from the basis of the unit columns, at most so many. Their rise value grows
pub record IsJournalOf (c : Chain) (budget : ℕ) (journal : List Pivot) : Type 0 where
  pub polygons : AllByRecursion (λ p. IsPolygon c p.polygon) journal
  pub lawful : IsJournal (rows c) (right_side c) (pivots_of c journal)
  pub rises : RisesAlong (rows c) (right_side c) (pivots_of c journal)
  pub within : length journal ≤ budget

-- the prices are those of the last basis, and no polygon improves it
pub record IsOptimalEnd (c : Chain) (journal : List Pivot) (prices : PriceRows) : Type 0 where
  pub stands : PricesStand (rows c) (last_basis c journal) prices
  pub optimal : (walk : List ℕ) → IsPolygon c walk → ¬ ImprovesAt (rows c) prices (column_entries c walk)

-- ---- the parts of the last basis
-- what stands in each row after the pivots: a polygon, or none where it is the unit column
abbrev pub exchanged : List (Option (List ℕ)) → List Pivot → List (Option (List ℕ))
exchanged items [] = items
exchanged items (p ∷ journal) = exchanged (set items p.row (Some p.polygon)) journal

abbrev pub last_items : Chain → List Pivot → List (Option (List ℕ))
last_items c journal = exchanged (replicate (rows c) None) journal

-- from the row i on, row by row: the polygons with their values
abbrev pub ArePartsFrom : Chain → BasisNumbers → ℕ → List (Option (List ℕ)) → List Part → Type 0
ArePartsFrom c t i [] [] = Unit {0}
ArePartsFrom c t i [] (p ∷ parts) = ⊥
ArePartsFrom c t i (None ∷ items) parts = ArePartsFrom c t (suc i) items parts
ArePartsFrom c t i (Some walk ∷ items) [] = ⊥
ArePartsFrom c t i (Some walk ∷ items) (p ∷ parts) =
    (p.polygon ≡ walk) × IsQuotient (value (rows c) (right_side c) t i) (t.denominator i) p.value
    × ArePartsFrom c t (suc i) items parts

-- the polygons of the last basis with their values, in the order of the rows
pub record ArePartsOf (c : Chain) (journal : List Pivot) (parts : List Part) : Type 0 where
  pub numbers : BasisNumbers
  pub stands : Stands (rows c) (last_basis c journal) numbers
  pub in_order : ArePartsFrom c numbers 0 (last_items c journal) parts

-- the surface that is glued of the parts of the last basis: over the least number of copies that makes each value
-- whole, each polygon so often as its value says
pub record IsGluedOf (c : Chain) (journal : List Pivot) (f : Surface) : Type 0 where
  pub over : f.chain ≡ c
  pub parts : List Part
  pub are_parts : ArePartsOf c journal parts
  pub least : IsLeastWhole parts f.copies
  pub counts : List ℕ
  pub are_counts : AreCounts f.copies parts counts
  pub glued : IsGlued c (copies_of (counted parts counts)) f.sides

-- ---- solutions
-- how many different polygons a journal has
abbrev pub distinct_polygons : List Pivot → ℕ
distinct_polygons journal = length (first_seen (map (λ p. p.polygon) journal))

-- an optimal basis at the end of a lawful journal, the surface that is glued of it with its value, and the lift of its
-- prices, which covers the chain and is tight for the surface, with tables that vouch for it and hold the least totals
pub record IsSolution (c : Chain) (budget : ℕ) (s : Solution) : Type 0 where
  pub journal : IsJournalOf c budget s.journal.items
  pub prices : PriceRows
  pub optimal : IsOptimalEnd c s.journal.items prices
  pub lift : IsLift c prices s.list
  pub covers : Covers c s.list
  pub copies : s.fatgraph.copies ≡ s.n
  pub glued : IsGluedOf c s.journal.items s.fatgraph
  pub fatgraph : IsFatgraph c s.n s.fatgraph.sides
  pub value : IsQuotient (cost s.fatgraph.sides) (pos (2 * s.n)) s.value
  pub tight : IsTight c s.list s.n s.fatgraph.sides
  pub vouch : Vouch c s.list s.tables
  pub least_totals : AreDistances c s.list s.tables
  pub columns : s.columns ≡ distinct_polygons s.journal.items

-- what a certificate says of a solution
abbrev pub certificate_of : Solution → Certificate
certificate_of s = stated s.fatgraph s.value s.list s.tables s.journal.items

-- ---- what stops the search
-- all pivots of the budget are made, and the polygon improves the last basis
pub record IsUsedUp (c : Chain) (budget : ℕ) (journal : List Pivot) (improving : List ℕ) : Type 0 where
  pub lawful : IsJournalOf c budget journal
  pub used : length journal ≡ budget
  pub prices : PriceRows
  pub stands : PricesStand (rows c) (last_basis c journal) prices
  pub polygon : IsPolygon c improving
  pub improves : ImprovesAt (rows c) prices (column_entries c improving)

-- after the journal, whose last basis is optimal, an operation of the lift is too wide, or a lifted number too large
pub record IsWideInLift (c : Chain) (journal : List Pivot) (at : WideAt) : Type 0 where
  pub prices : PriceRows
  pub optimal : IsOptimalEnd c journal prices
  pub wide : IsWideLift c prices at

-- after the journal an operation is too wide: of the search for an improving polygon, of the values or of the next
-- pivot, or of the lift
pub record IsWideAfter (c : Chain) (budget : ℕ) (journal : List Pivot) (at : WideAt) : Type 0 where
  pub lawful : IsJournalOf c budget journal
  pub wide : IsShownAfter (IsWideSearch c) (rows c) (pivots_of c journal) at
      ⊎ IsWideOperation (IsPolygonColumn c) (rows c) (right_side c) budget (length journal) (pivots_of c journal) at
      ⊎ IsWideInLift c journal at

-- the last basis is optimal, and the least number of copies that makes the values of its parts whole has too many
-- sides. The part is the first whose denominator leads there
pub record HasManyCopies (c : Chain) (budget : ℕ) (journal : List Pivot) (part : Part) (so_far : ℕ) (next : ℤ) : Type 0 where
  pub lawful : IsJournalOf c budget journal
  pub prices : PriceRows
  pub optimal : IsOptimalEnd c journal prices
  pub parts : List Part
  pub are_parts : ArePartsOf c journal parts
  pub place : ℕ
  pub part_is : slice_get parts place ≡ Some part
  pub many : HasManySides c parts place so_far next

-- want of memory says nothing
abbrev pub IsStopped : Chain → ℕ → SolveFault → Type 0
IsStopped c budget (Budget journal improving) = IsUsedUp c budget journal.items improving
IsStopped c budget (Wide journal at) = IsWideAfter c budget journal.items at
IsStopped c budget (Sides journal part so_far next) = HasManyCopies c budget journal.items part so_far next
IsStopped c budget Memory = Unit {0}
