-- The end of the search for an optimal basis.
use Rattle.std.specs.Prelude.{◌≡◌, ℕ, ◌*◌, Bool, true, false, List, map, length, pos}
use Rattle.std.specs.List.{AllByRecursion}
use Rattle.sc_theory.specs.Chains.{Chain, positions}
use Rattle.sc_theory.specs.Fatgraphs.{cost}
use Rattle.sc_theory.specs.Walks.{IsPolygon}
use Rattle.sc_theory.specs.Columns.{rows, right_side}
use Rattle.sc_theory.specs.Prices.{Prices, Vouch}
use Rattle.sc_chain.specs.declared.polygon.Pivot.{Pivot}
use Rattle.sc_basis.specs.Standing.{BasisNumbers, Stands}
use Rattle.sc_fraction.specs.declared.frac.Frac.{Frac}
use Rattle.sc_fraction.specs.Frac.{IsQuotient}
use Rattle.sc_fatgraph.specs.Surfaces.{Surface, IsSmallFatgraph}
use Rattle.sc_certificate.specs.Sizes.{IsSmallList, AreSmallTables, AreTablesOf}
use Rattle.sc_rows.specs.declared.prices.PriceRows.{PriceRows}
use Rattle.sc_simplex.specs.declared.column.KeyPivot.{KeyPivot}
use Rattle.sc_simplex.specs.declared.solving.Optimum.{Optimum}
use Rattle.sc_simplex.specs.declared.solving.SimplexFault.{SimplexFault}
use Rattle.sc_simplex.specs.declared.solving.SimplexFault.TheVariants as simplex_faults
use Rattle.sc_simplex.specs.Optima.{AreValues}
use Rattle.sc_solve.specs.ListTables.{AreDistances}
use Rattle.sc_solve.specs.Solutions.{pivots_of, last_basis, IsJournalOf, IsOptimalEnd, distinct_polygons}
use Rattle.sc_solve.specs.inside.Assembling.{named_pivot}
use Rattle.sc_solve.specs.declared.assembling.PartStop.{PartStop}
use Rattle.sc_solve.specs.declared.assembling.PartStop.TheVariants as part_stops
use Rattle.sc_solve.specs.declared.ending.Ending.{Ending}
use Rattle.sc_solve.specs.declared.lifting.LiftFault.{LiftFault}
use Rattle.sc_solve.specs.declared.lifting.LiftFault.TheVariants as lift_faults
use Rattle.sc_solve.specs.declared.solution.Solution.{Solution}
use Rattle.sc_solve.specs.declared.solution.SolveFault.{SolveFault}
use Rattle.sc_solve.specs.declared.solution.SolveFault.TheVariants.{Budget, Wide, Sides, Memory}

-- ---- the optimal basis

-- a lawful journal to an optimal basis, with its prices and the values of its items, and the number of different
-- polygons
pub record IsEndingBy (c : Chain) (budget : ℕ) (journal : List Pivot) (prices : PriceRows) (values : List Frac) (columns : ℕ) : Type 0 where
  pub lawful : IsJournalOf c budget journal
  pub optimal : IsOptimalEnd c journal prices
  pub numbers : BasisNumbers
  pub stands : Stands (rows c) (last_basis c journal) numbers
  pub values_are : AreValues (rows c) (right_side c) (pivots_of c journal) numbers values
  pub columns_are : columns ≡ distinct_polygons journal

abbrev pub IsEnding : Chain → ℕ → Ending → Type 0
IsEnding c budget e = IsEndingBy c budget e.journal.items e.prices e.values.items e.columns

-- what is taken over from the answer of the simplex
pub record IsEndingOf (o : Optimum) (e : Ending) : Type 0 where
  pub journal : e.journal.items ≡ map named_pivot o.journal.items
  pub prices : e.prices ≡ o.prices
  pub values : e.values ≡ o.values
  pub columns : e.columns ≡ length o.columns

-- ---- what stops the search

abbrev pub ArePolygonKeys : Chain → List KeyPivot → Type 0
ArePolygonKeys c journal = AllByRecursion (λ k. IsPolygon c k.key.items) journal

-- the keys of a fault are polygons
abbrev pub HasPolygons : Chain → SimplexFault → Type 0
HasPolygons c (simplex_faults.Budget journal column) = ArePolygonKeys c journal.items × IsPolygon c column.key.items
HasPolygons c (simplex_faults.Wide journal at) = ArePolygonKeys c journal.items
HasPolygons c simplex_faults.Memory = Unit {0}

-- the same fault over polygons
abbrev pub IsStopOf : SimplexFault → SolveFault → Type 0
IsStopOf (simplex_faults.Budget journal column) (Budget pivots improving) = (pivots.items ≡ map named_pivot journal.items) × (improving ≡ column.key.items)
IsStopOf (simplex_faults.Budget journal column) (Wide pivots at) = ⊥
IsStopOf (simplex_faults.Budget journal column) (Sides pivots part so_far next) = ⊥
IsStopOf (simplex_faults.Budget journal column) Memory = ⊥
IsStopOf (simplex_faults.Wide journal at) (Budget pivots improving) = ⊥
IsStopOf (simplex_faults.Wide journal at) (Wide pivots at') = (pivots.items ≡ map named_pivot journal.items) × (at' ≡ at)
IsStopOf (simplex_faults.Wide journal at) (Sides pivots part so_far next) = ⊥
IsStopOf (simplex_faults.Wide journal at) Memory = ⊥
IsStopOf simplex_faults.Memory (Budget pivots improving) = ⊥
IsStopOf simplex_faults.Memory (Wide pivots at) = ⊥
IsStopOf simplex_faults.Memory (Sides pivots part so_far next) = ⊥
IsStopOf simplex_faults.Memory Memory = Unit {0}

-- ---- the solution of parts that are there

-- the solution has this surface with its value, this list with its tables, and what is known of the basis
pub record IsCertified (c : Chain) (e : Ending) (list : Prices) (f : Surface) (s : Solution) : Type 0 where
  pub surface_is : s.fatgraph ≡ f
  pub surface : IsSmallFatgraph f
  pub small_list : IsSmallList list
  pub small_tables : AreSmallTables s.tables
  pub copies_are : s.n ≡ f.copies
  pub list_is : s.list ≡ list
  pub journal_is : s.journal ≡ e.journal
  pub columns_are : s.columns ≡ e.columns
  pub value_is : IsQuotient (cost f.sides) (pos (2 * f.copies)) s.value
  pub sizes : AreTablesOf (positions c) s.tables
  pub vouch : Vouch c list s.tables
  pub least_totals : AreDistances c list s.tables

-- ---- why there is none

-- all pivots of a budget are made
abbrev pub is_budget : SolveFault → Bool
is_budget (Budget journal improving) = true
is_budget (Wide journal at) = false
is_budget (Sides journal part so_far next) = false
is_budget Memory = false

-- the fault of the lift after these pivots
abbrev pub IsUnlifted : List Pivot → LiftFault → SolveFault → Type 0
IsUnlifted journal (lift_faults.Wide at) (Budget pivots improving) = ⊥
IsUnlifted journal (lift_faults.Wide at) (Wide pivots at') = (pivots.items ≡ journal) × (at' ≡ at)
IsUnlifted journal (lift_faults.Wide at) (Sides pivots part so_far next) = ⊥
IsUnlifted journal (lift_faults.Wide at) Memory = ⊥
IsUnlifted journal lift_faults.Memory (Budget pivots improving) = ⊥
IsUnlifted journal lift_faults.Memory (Wide pivots at) = ⊥
IsUnlifted journal lift_faults.Memory (Sides pivots part so_far next) = ⊥
IsUnlifted journal lift_faults.Memory Memory = Unit {0}

-- the stop of gluing after these pivots
abbrev pub IsUnglued : List Pivot → PartStop → SolveFault → Type 0
IsUnglued journal (part_stops.Sides part so_far next) (Budget pivots improving) = ⊥
IsUnglued journal (part_stops.Sides part so_far next) (Wide pivots at) = ⊥
IsUnglued journal (part_stops.Sides part so_far next) (Sides pivots part' so_far' next') = (pivots.items ≡ journal) × (part' ≡ part) × (so_far' ≡ so_far) × (next' ≡ next)
IsUnglued journal (part_stops.Sides part so_far next) Memory = ⊥
IsUnglued journal part_stops.Memory (Budget pivots improving) = ⊥
IsUnglued journal part_stops.Memory (Wide pivots at) = ⊥
IsUnglued journal part_stops.Memory (Sides pivots part so_far next) = ⊥
IsUnglued journal part_stops.Memory Memory = Unit {0}
