-- From the state in which the solver ends to what it answers.
use Rattle.std.specs.Prelude.{◌≡◌, ℕ, suc, ◌<◌, ◌≤◌, true, false, List, [], ◌∷◌, map, length, get_or, slice_get, Option, Some, None, Result, Ok, Err, OnOk, ℤ, pos, ◌*ℤ◌, ◌≤ℤ◌, ◌<ℤ◌}
use Rattle.std.specs.List.{AllByRecursion}
use Rattle.std.specs.Option.{option_map}
use Rattle.std.specs.Vec.{vec_items}
use Rattle.std.proofs.Common.{refl, sym, ap, subst, ◌∙◌, inl, inr, true≢false}
use Rattle.std.proofs.Math.Path.{subst₂}
use Rattle.std.proofs.lemmas.List.{get_or-replicate}
use Rattle.std.proofs.lemmas.Option.{none-some, slice_get_within}
use Rattle.sc_algebra.proofs.Ints.{mul_comm, mul-zero, zero-mul}
use Rattle.sc_basis.specs.Products.{dot, IsNonNegative}
use Rattle.sc_basis.specs.Bases.{Column as Entries, unit_basis}
use Rattle.sc_basis.specs.Standing.{BasisNumbers, Stands}
use Rattle.sc_basis.specs.Pivots.{Improves}
use Rattle.sc_basis.specs.Journals.{Journal, IsJournal, IsReached}
use Rattle.sc_basis.specs.Evidence.{Place, needs_entering}
use Rattle.sc_basis.specs.Values.{value}
use Rattle.sc_basis.proofs.Numbers.{cancel_pos, mul_le, le_of_mul}
use Rattle.sc_basis.proofs.JournalLaws.{reached_after, reached_start, journal_reached}
use Rattle.sc_basis.proofs.RisingJournals.{prefixes_rise}
use Rattle.sc_basis.proofs.ValueLaws.{value_not_negative, unit_value}
use Rattle.sc_fraction.specs.declared.frac.Frac.{Frac}
use Rattle.sc_fraction.specs.Frac.{IsQuotient, numerator, denominator}
use Rattle.sc_rows.specs.Lines.{Line, row_of, den_of}
use Rattle.sc_rows.specs.Standing.{RowsStand, PricesStand, numbers_of}
use Rattle.sc_rows.specs.Places.{IsWideBy}
use Rattle.sc_rows.specs.declared.fault.WideAt.{WideAt}
use Rattle.sc_rows.specs.declared.fault.RowFault.{RowFault}
use Rattle.sc_rows.specs.declared.fault.RowFault.TheVariants.{Wide as RowWide, Memory as RowMemory}
use Rattle.sc_rows.specs.declared.prices.PriceRows.{PriceRows}
use Rattle.sc_rows.proofs.StandingLaws.{stand_together}
use Rattle.sc_simplex.specs.declared.column.Column.{Column}
use Rattle.sc_simplex.specs.declared.column.Item.{Item}
use Rattle.sc_simplex.specs.declared.column.Item.TheVariants.{Unit as UnitOf}
use Rattle.sc_simplex.specs.declared.column.KeyPivot.{KeyPivot}
use Rattle.sc_simplex.specs.declared.oracle.OracleFault.{OracleFault}
use Rattle.sc_simplex.specs.declared.oracle.OracleFault.TheVariants.{Wide as OracleWide, Memory as OracleMemory}
use Rattle.sc_simplex.specs.declared.solving.Optimum.{Optimum}
use Rattle.sc_simplex.specs.declared.solving.SimplexFault.{SimplexFault}
use Rattle.sc_simplex.specs.declared.solving.SimplexFault.TheVariants.{Budget, Wide, Memory}
use Rattle.sc_simplex.specs.declared.state.State.{State}
use Rattle.sc_simplex.specs.Columns.{key_of}
use Rattle.sc_simplex.specs.inside.Evidence.{IsWideSomeValue, IsWideFor, IsWideTold, speaks_of_column}
use Rattle.sc_simplex.specs.NamedJournals.{AreNamed, RisesAlong, IsLawfulBy, basis_of, first_seen, pivot_key}
use Rattle.sc_simplex.specs.Optima.{IsItem, AreColumns, AreItems, AreValues, no_item, IsOptimum, IsUsedUp, IsWideAfter, IsStopped, IsSumOfColumns}
use Rattle.sc_simplex.specs.Oracles.{ColumnsBy, ShownBy, ImprovesAt, NoneImproves, IsShown}
use Rattle.sc_simplex.specs.inside.States.{IsState}
use Rattle.sc_simplex.specs.inside.Stops.{IsStopBy, IsStopByOracle, IsMadeOf}
use Rattle.sc_simplex.specs.WideOperations.{TellsPlace, IsEnteringTold}
use Rattle.sc_simplex.proofs.ToldLaws.{needs, told_silent}
use Rattle.sc_simplex.proofs.WideLaws.{value_for}

-- the numbers and items of the unit columns, without columns and pivots, are a state
pub start_state : (C : ColumnsBy) (r : ℕ) (b : ℕ → ℤ) (s : State) → RowsStand r (unit_basis r) s.rows → PricesStand r (unit_basis r) s.prices → length s.basis.items ≡ r
    → ((i : ℕ) → i < r → get_or s.basis.items i no_item ≡ UnitOf i) → s.columns ≡ [] → s.journal.items ≡ [] → IsState C r b s
start_state C r b s rows prices size units columns journal =
    record {
      pivots = [];
      named = subst (λ (l : List KeyPivot). AreNamed C l []) (sym journal) tt;
      lawful = tt;
      rows = rows;
      prices = prices;
      items = record {
        size = size;
        items = λ i l. subst₂ (λ (o : Option Entries) (x : Item). IsItem s.columns i o x) (sym (get_or-replicate r i None None l)) (sym (units i l)) refl;
        stored = subst (λ (l : List Column). AreColumns C l) (sym columns) (λ j own at. absurd (none-some own at));
        keys = ap (map key_of) columns ∙ ap (λ (l : List KeyPivot). first_seen (map pivot_key l)) (sym journal);
      };
    }

rises_along : (r : ℕ) (b : ℕ → ℤ) (ps : Journal) → IsNonNegative r b → IsJournal r b ps → RisesAlong r b ps
rises_along r b ps positive lawful m n t t' less small stands after =
    prefixes_rise r b (reached_after r b) (unit_basis r) ps m n t t' (reached_start r b positive) lawful less small stands after

-- ---- values
quotient_not_negative : (n d a e : ℤ) → pos 0 <ℤ d → pos 0 <ℤ e → n *ℤ d ≡ a *ℤ e → pos 0 ≤ℤ a → pos 0 ≤ℤ n
quotient_not_negative n d a e p q same h =
    le_of_mul d (pos 0) n p
    (subst₂ (λ (x y : ℤ). x ≤ℤ y) (mul-zero e ∙ sym (mul-zero d)) (mul_comm e a ∙ sym same ∙ mul_comm n d) (mul_le e (pos 0) a q h))

quotient_zero : (n d a e : ℤ) → pos 0 <ℤ d → n *ℤ d ≡ a *ℤ e → a ≡ pos 0 → n ≡ pos 0
quotient_zero n d a e p same none =
    cancel_pos d n (pos 0) p (mul_comm d n ∙ same ∙ ap (λ (z : ℤ). z *ℤ e) none ∙ zero-mul e ∙ sym (mul-zero d))

refused_all : (C : ColumnsBy) (r : ℕ) (rows : List Line) (p : PriceRows) (cs : List Entries) → NoneImproves C r p → ((j : ℕ) (c : Entries) → slice_get cs j ≡ Some c → (key : List ℕ) × C key c)
    → AllByRecursion (λ c. ¬ Improves r (numbers_of rows p) c) cs
refused_all C r rows p [] none known = tt
refused_all C r rows p (c ∷ cs) none known =
    let k = known 0 c refl in
    (none k.0 c k.1, refused_all C r rows p cs none (λ j d at. known (suc j) d at))

module _ (C : ColumnsBy) (r : ℕ) (b : ℕ → ℤ) (budget : ℕ) (s : State) (positive : IsNonNegative r b) (state : IsState C r b s) where
  -- the journal of a state is lawful
  pub lawful_by : IsLawfulBy C r b s.journal.items state.pivots
  lawful_by = record { named = state.named; lawful = state.lawful; rises = rises_along r b state.pivots positive state.lawful }

  stands : Stands r (basis_of r state.pivots) (numbers_of s.rows s.prices)
  stands = stand_together r (basis_of r state.pivots) s.rows s.prices state.rows state.prices

  reached : IsReached r b (basis_of r state.pivots)
  reached = journal_reached r b state.pivots positive state.lawful

  are_values : (list : List Frac) → NoneImproves C r s.prices → IsSumOfColumns C r b → length list ≡ length s.rows
      → ((i : ℕ) (f : Frac) → slice_get list i ≡ Some f → IsQuotient (dot (length s.rows) (row_of s.rows i) b) (den_of s.rows i) f)
      → AreValues r b state.pivots (numbers_of s.rows s.prices) list
  are_values list none sum size quotients =
      record {
        size = size ∙ state.rows.size;
        values = quotient;
        not_negative = λ i f at.
            quotient_not_negative (numerator f) (den_of s.rows i) (value r b (numbers_of s.rows s.prices) i) (denominator f) (state.rows.give i (inside i f at)).positive f.positive (quotient i f at)
            (value_not_negative r b (basis_of r state.pivots) (numbers_of s.rows s.prices) reached stands i (inside i f at));
        units = λ i f at unit.
            quotient_zero (numerator f) (den_of s.rows i) (value r b (numbers_of s.rows s.prices) i) (denominator f) (state.rows.give i (inside i f at)).positive (quotient i f at)
            (unit_value r b (basis_of r state.pivots) (numbers_of s.rows s.prices) sum.columns reached stands sum.sum (refused_all C r s.rows s.prices sum.columns none sum.are_columns) i (inside i f at) unit);
      }
    where
      inside : (i : ℕ) (f : Frac) → slice_get list i ≡ Some f → i < r
      inside i f at = subst (λ (n : ℕ). i < n) (size ∙ state.rows.size) (slice_get_within list i f at)

      quotient : (i : ℕ) (f : Frac) → slice_get list i ≡ Some f → IsQuotient (value r b (numbers_of s.rows s.prices) i) (den_of s.rows i) f
      quotient i f at = subst (λ (n : ℕ). IsQuotient (dot n (row_of s.rows i) b) (den_of s.rows i) f) state.rows.size (quotients i f at)

  -- where no column improves its prices, what is made of a state is an optimum
  pub optimum_of : (o : Optimum) → length s.journal.items ≤ budget → NoneImproves C r s.prices → IsSumOfColumns C r b → IsMadeOf s b o → IsOptimum C r b budget o
  optimum_of o within none sum made =
      record {
        pivots = state.pivots;
        lawful = subst (λ v. IsLawfulBy C r b v.items state.pivots) (sym made.journal) lawful_by;
        within = subst (λ v. length v.items ≤ budget) (sym made.journal) within;
        numbers = numbers_of s.rows s.prices;
        stands = stands;
        prices = subst (λ (p : PriceRows). PricesStand r (basis_of r state.pivots) p) (sym made.prices) state.prices;
        optimal = subst (λ (p : PriceRows). NoneImproves C r p) (sym made.prices) none;
        items = subst (λ v. AreItems C r state.pivots v.items o.basis.items o.columns) (sym made.journal)
            (subst (λ v. AreItems C r state.pivots s.journal.items v.items o.columns) (sym made.basis)
            (subst (λ (l : List Column). AreItems C r state.pivots s.journal.items s.basis.items l) (sym made.columns) state.items));
        values = are_values o.values.items none sum made.size made.values;
      }

  pub used_up : (column : Column) → length s.journal.items ≡ budget → C column.key.items column.entries.items → ImprovesAt r s.prices column.entries.items → IsUsedUp C r b budget s.journal.items column
  used_up column used known improves =
      record { pivots = state.pivots; lawful = lawful_by; used = used; prices = s.prices; stands = state.prices; known = known; improves = improves }

  module _ (shows : ShownBy) (within : length s.journal.items ≤ budget) where
    -- what is shown at the prices of a state is shown after its journal
    pub shown_after : (at : WideAt) → shows s.prices at → IsWideAfter C shows r b budget s.journal.items at
    shown_after at shown =
        record { pivots = state.pivots; lawful = lawful_by; within = within; wide = inl (record { prices = s.prices; stands = state.prices; shown = shown }) }

    operation_after : (at : WideAt) → IsWideTold C r b (numbers_of s.rows s.prices) at → ((place : Place) → TellsPlace place at → needs_entering place ≡ true → length s.journal.items < budget)
        → IsWideAfter C shows r b budget s.journal.items at
    operation_after at h left =
        record {
          pivots = state.pivots;
          lawful = lawful_by;
          within = within;
          wide = inr (record {
            place = h.place;
            tells = h.tells;
            entering = h.entering;
            told = h.told;
            evidence = record {
              lawful = state.lawful;
              numbers = numbers_of s.rows s.prices;
              stands = stands;
              entering_told = h.entering_told;
              leaving_told = h.leaving_told;
              operands = h.operands;
            };
            left = left h.place h.tells;
          });
        }

    -- an operation of the pivot, for which there was budget left
    pub pivot_after : (at : WideAt) → length s.journal.items < budget → IsWideTold C r b (numbers_of s.rows s.prices) at → IsWideAfter C shows r b budget s.journal.items at
    pivot_after at less h = operation_after at h (λ place tells e. less)

    -- an operation of the values
    pub value_after : (at : WideAt) → IsWideSomeValue s.rows b at → IsWideAfter C shows r b budget s.journal.items at
    value_after at h =
        operation_after at
        (told_silent C r b (numbers_of s.rows s.prices) [] at (subst (λ (n : ℕ). IsWideFor n b (numbers_of s.rows s.prices) [] at) state.rows.size (value_for b s.rows s.prices [] at h)) (silent at h))
        (λ place tells e. absurd (true≢false (sym e ∙ needs place at false tells (silent at h))))
      where
        silent : (w : WideAt) → IsWideSomeValue s.rows b w → speaks_of_column w.place ≡ false
        silent w (i, inside, (k, within, inl mul)) = ap (λ (z : WideAt). speaks_of_column z.place) mul.0
        silent w (i, inside, (k, within, inr add)) = ap (λ (z : WideAt). speaks_of_column z.place) add.0

-- ---- faults
-- a refusal of rows and prices, and one of the oracle, stop the search after the pivots so far
pub stopped_by : (C : ColumnsBy) (shows : ShownBy) (r : ℕ) (b : ℕ → ℤ) (budget : ℕ) (ks : List KeyPivot) (P : WideAt → Type 0) (fault : SimplexFault) (f : RowFault)
    → ((at : WideAt) → P at → IsWideAfter C shows r b budget ks at) → IsStopBy fault ks f → IsWideBy P f → IsStopped C shows r b budget fault
stopped_by C shows r b budget ks P (Budget js c) f after stop wide = absurd stop
stopped_by C shows r b budget ks P (Wide js at) (RowWide w) after stop wide =
    subst₂ (λ (l : List KeyPivot) (z : WideAt). IsWideAfter C shows r b budget l z) (sym stop.0) (sym stop.1) (after w wide)
stopped_by C shows r b budget ks P (Wide js at) RowMemory after stop wide = absurd stop
stopped_by C shows r b budget ks P Memory f after stop wide = tt

pub stopped_by_oracle : (C : ColumnsBy) (shows : ShownBy) (r : ℕ) (b : ℕ → ℤ) (budget : ℕ) (ks : List KeyPivot) (P : WideAt → Type 0) (fault : SimplexFault) (f : OracleFault)
    → ((at : WideAt) → P at → IsWideAfter C shows r b budget ks at) → IsStopByOracle fault ks f → IsShown P f → IsStopped C shows r b budget fault
stopped_by_oracle C shows r b budget ks P (Budget js c) f after stop wide = absurd stop
stopped_by_oracle C shows r b budget ks P (Wide js at) (OracleWide w) after stop wide =
    subst₂ (λ (l : List KeyPivot) (z : WideAt). IsWideAfter C shows r b budget l z) (sym stop.0) (sym stop.1) (after w wide)
stopped_by_oracle C shows r b budget ks P (Wide js at) OracleMemory after stop wide = absurd stop
stopped_by_oracle C shows r b budget ks P Memory f after stop wide = tt

-- ---- by other words
-- none of fewer columns improves; a refusal shows what its evidence implies; what is told of columns is told of more
pub none_by : (C D : ColumnsBy) (r n : ℕ) (p : PriceRows) → r ≡ n → ((key : List ℕ) (c : Entries) → D key c → C key c) → NoneImproves C r p → NoneImproves D n p
none_by C D r n p e back none = subst (λ (m : ℕ). NoneImproves D m p) e (λ key c known. none key c (back key c known))

pub shown_by : (P Q : WideAt → Type 0) → ((w : WideAt) → P w → Q w) → (f : OracleFault) → IsShown P f → IsShown Q f
shown_by P Q weaker (OracleWide w) h = weaker w h
shown_by P Q weaker OracleMemory h = tt

entering_by : (C D : ColumnsBy) → ((key : List ℕ) (c : Entries) → C key c → D key c) → (o : Option (List ℕ)) (e : Option Entries) → IsEnteringTold C o e → IsEnteringTold D o e
entering_by C D all None None h = tt
entering_by C D all None (Some c) h = absurd h
entering_by C D all (Some key) None h = absurd h
entering_by C D all (Some key) (Some c) h = all key c h

pub told_by : (C D : ColumnsBy) (r : ℕ) (b : ℕ → ℤ) (t : BasisNumbers) (w : WideAt) → ((key : List ℕ) (c : Entries) → C key c → D key c) → IsWideTold C r b t w → IsWideTold D r b t w
told_by C D r b t w all h =
    record {
      place = h.place;
      tells = h.tells;
      entering = h.entering;
      told = entering_by C D all (option_map vec_items w.entering) h.entering h.told;
      entering_told = h.entering_told;
      leaving_told = h.leaving_told;
      operands = h.operands;
    }

-- an answer that is no refusal has what it has where it is none
pub from_ok : {A E : Type 0} (r : Result A E) (P : Type 0) → ((e : E) → r ≡ Err e → ⊥) → OnOk r P → P
from_ok (Ok a) P never h = h
from_ok (Err e) P never h = absurd (never e refl)
