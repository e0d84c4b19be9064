-- What is true of tries of few pivots is true of those of more.
use Rattle.std.proofs.Common.{◌≡◌, ℕ, ◌≤◌, true, List, inl, inr, arith, refl, subst}
use Rattle.std.specs.Prelude.{◌⊎◌}
use Rattle.sc_theory.specs.Chains.{Chain}
use Rattle.sc_theory.specs.Columns.{rows, right_side}
use Rattle.sc_chain.specs.declared.polygon.Pivot.{Pivot}
use Rattle.sc_basis.specs.Journals.{Journal}
use Rattle.sc_rows.specs.declared.fault.WideAt.{WideAt}
use Rattle.sc_simplex.specs.Optima.{IsShownAfter}
use Rattle.sc_simplex.specs.Oracles.{ColumnsBy}
use Rattle.sc_simplex.specs.WideOperations.{IsWideOperation}
use Rattle.sc_solve.specs.PolygonColumns.{IsPolygonColumn}
use Rattle.sc_solve.specs.Searches.{IsWideSearch}
use Rattle.sc_solve.specs.Solutions.{pivots_of, IsJournalOf, IsSolution, IsStopped, IsUsedUp, IsWideInLift}
use Rattle.sc_solve.specs.inside.Endings.{is_budget}
use Rattle.sc_solve.specs.declared.solution.Solution.{Solution}
use Rattle.sc_solve.specs.declared.solution.SolveFault.{SolveFault}
use Rattle.sc_solve.specs.declared.solution.SolveFault.TheVariants.{Budget, Wide, Sides, Memory}

module _ (c : Chain) (most budget : ℕ) (few : most ≤ budget) where
  journal_within : (js : List Pivot) → IsJournalOf c most js → IsJournalOf c budget js
  journal_within js is = record { polygons = is.polygons; lawful = is.lawful; rises = is.rises; within = omega (arith, is.within, few) }

  -- a solution within few pivots is one within the budget, and so is what stops the search
  pub solution_within : (s : Solution) → IsSolution c most s → IsSolution c budget s
  solution_within s is =
      record {
        journal = journal_within s.journal.items is.journal;
        prices = is.prices;
        optimal = is.optimal;
        lift = is.lift;
        covers = is.covers;
        copies = is.copies;
        glued = is.glued;
        fatgraph = is.fatgraph;
        value = is.value;
        tight = is.tight;
        vouch = is.vouch;
        least_totals = is.least_totals;
        columns = is.columns;
      }

  operation_within : (C : ColumnsBy) (r : ℕ) (b : ℕ → _) (used : ℕ) (ps : Journal) (at : WideAt) → IsWideOperation C r b most used ps at → IsWideOperation C r b budget used ps at
  operation_within C r b used ps at is =
      record {
        place = is.place;
        tells = is.tells;
        entering = is.entering;
        told = is.told;
        evidence = is.evidence;
        left = λ e. omega (arith, is.left e, few);
      }

  wide_within : (js : List Pivot) (n : ℕ) (at : WideAt)
      → IsShownAfter (IsWideSearch c) (rows c) (pivots_of c js) at ⊎ IsWideOperation (IsPolygonColumn c) (rows c) (right_side c) most n (pivots_of c js) at ⊎ IsWideInLift c js at
      → IsShownAfter (IsWideSearch c) (rows c) (pivots_of c js) at ⊎ IsWideOperation (IsPolygonColumn c) (rows c) (right_side c) budget n (pivots_of c js) at ⊎ IsWideInLift c js at
  wide_within js n at (inl shown) = inl shown
  wide_within js n at (inr (inl wide)) = inr (inl (operation_within (IsPolygonColumn c) (rows c) (right_side c) n (pivots_of c js) at wide))
  wide_within js n at (inr (inr wide)) = inr (inr wide)

  -- unless it is for want of pivots, and the budget has more
  pub stop_within : (fault : SolveFault) → (is_budget fault ≡ true → budget ≤ most) → IsStopped c most fault → IsStopped c budget fault
  stop_within (Budget journal improving) whole is =
      let all : budget ≤ most = whole refl in
      let same : most ≡ budget = omega (arith, few, all) in
      subst (λ (n : ℕ). IsUsedUp c n journal.items improving) same is
  stop_within (Wide journal at) whole is = record { lawful = journal_within journal.items is.lawful; wide = wide_within journal.items _ at is.wide }
  stop_within (Sides journal part so_far next) whole is =
      record {
        lawful = journal_within journal.items is.lawful;
        prices = is.prices;
        optimal = is.optimal;
        parts = is.parts;
        are_parts = is.are_parts;
        place = is.place;
        part_is = is.part_is;
        many = is.many;
      }
  stop_within Memory whole is = tt
