-- The state after one more pivot, and what it needs to be pivoted.
use Rattle.std.specs.Prelude.{◌≡◌, ℕ, zero, suc, ◌<◌, ◌≤◌, List, [], ◌∷◌, ◌++◌, length, map, get_or, set, slice_get, Option, Some, None, ℤ, pos, ◌≤ℤ◌, ◌<ℤ◌}
use Rattle.std.proofs.Common.{arith, refl, sym, ap, ap₂, subst, ◌∙◌, inl, inr}
use Rattle.std.proofs.lemmas.Int.{ints}
use Rattle.std.proofs.lemmas.Bool.{cases_eq, cases_lt}
use Rattle.std.proofs.lemmas.List.{length-set, get_or-set_same, get_or-set_other, get_or_past, get_or-replicate, length-replicate, length-map, map-append}
use Rattle.std.proofs.lemmas.Option.{none-some, same_Some}
use Rattle.sc_basis.specs.Products.{dot, IsNonNegative}
use Rattle.sc_basis.specs.Bases.{Column as Entries, entry_of, Basis, item, unit_basis}
use Rattle.sc_basis.specs.Standing.{Stands}
use Rattle.sc_basis.specs.Pivots.{Pivot, IsLawful, IsLeaving, after_pivot}
use Rattle.sc_basis.specs.Journals.{Journal, basis_after}
use Rattle.sc_basis.proofs.JournalLaws.{lawful_joined, after_joined, journal_reached}
use Rattle.sc_basis.proofs.BoundedColumns.{bounded_column}
use Rattle.sc_rows.specs.Lines.{Line}
use Rattle.sc_rows.specs.Standing.{RowsStand, PricesStand, numbers_of}
use Rattle.sc_rows.proofs.StandingLaws.{stand_together}
use Rattle.sc_simplex.specs.declared.column.Column.{Column}
use Rattle.sc_simplex.specs.declared.column.Item.{Item}
use Rattle.sc_simplex.specs.declared.column.Item.TheVariants.{Unit as UnitOf, Column as ColumnAt}
use Rattle.sc_simplex.specs.declared.column.KeyPivot.{KeyPivot}
use Rattle.sc_simplex.specs.declared.state.State.{State}
use Rattle.sc_simplex.specs.Columns.{key_of, IsKeyAt}
use Rattle.sc_simplex.specs.Oracles.{ColumnsBy, ImprovesAt}
use Rattle.sc_simplex.specs.NamedJournals.{AreNamed, basis_of, first_seen, pivot_key}
use Rattle.sc_simplex.specs.Optima.{IsItem, AreColumns, AreItems, no_item}
use Rattle.sc_simplex.specs.inside.States.{IsState, IsReady, RowsFollow, PricesFollow, IsPushed, IsNoted}
use Rattle.sc_simplex.proofs.FirstSeen.{Known, New, one_more_key, length_first_seen}

-- ---- named journals
-- one more pivot with its key's column is named by one more key
pub named_more : (C : ColumnsBy) (ks : List KeyPivot) (ps : Journal) (k : KeyPivot) (p : Pivot) → AreNamed C ks ps → k.row ≡ p.0 → C k.key.items p.1 → AreNamed C (ks ++ k ∷ []) (ps ++ p ∷ [])
named_more C [] [] k p named row known = (row, known, tt)
named_more C [] (q ∷ ps) k p named row known = absurd named
named_more C (j ∷ ks) [] k p named row known = absurd named
named_more C (j ∷ ks) (q ∷ ps) k p named row known = (named.0, named.1, named_more C ks ps k p named.2 row known)

-- an item of a basis that a named journal leads to is a column that there is
item_after : (C : ColumnsBy) (basis : Basis) (p : Pivot) (key : List ℕ) → C key p.1 → ((i : ℕ) (own : Entries) → item basis i ≡ Some own → (k : List ℕ) × C k own)
    → (i : ℕ) (own : Entries) → item (after_pivot basis p) i ≡ Some own → (k : List ℕ) × C k own
item_after C basis p key known before i own at =
    elim (cases_eq i p.0) [
      | inr apart ↦ before i own (sym (get_or-set_other basis p.0 i (Some p.1) None apart) ∙ at)
      | inl e ↦ elim (cases_lt p.0 (length basis)) [
        | inl inside ↦ (key, subst (λ (c : Entries). C key c) (same_Some p.1 own (sym (get_or-set_same basis p.0 (Some p.1) None inside) ∙ ap (λ (j : ℕ). item (after_pivot basis p) j) (sym e) ∙ at)) known)
        | inr past ↦ absurd (none-some own (sym (get_or_past (after_pivot basis p) i None (past_end e past)) ∙ at))
      ]
    ]
  where
    past_end : i ≡ p.0 → length basis ≤ p.0 → length (after_pivot basis p) ≤ i
    past_end e past = omega (arith, length-set basis p.0 (Some p.1))

items_known : (C : ColumnsBy) (basis : Basis) (ks : List KeyPivot) (ps : Journal) → AreNamed C ks ps → ((i : ℕ) (own : Entries) → item basis i ≡ Some own → (k : List ℕ) × C k own)
    → (i : ℕ) (own : Entries) → item (basis_after basis ps) i ≡ Some own → (k : List ℕ) × C k own
items_known C basis [] [] named before i own at = before i own at
items_known C basis [] (p ∷ ps) named before i own at = absurd named
items_known C basis (k ∷ ks) [] named before i own at = absurd named
items_known C basis (k ∷ ks) (p ∷ ps) named before i own at =
    items_known C (after_pivot basis p) ks ps named.2 (item_after C basis p k.key.items named.1 before) i own at

no_units : (C : ColumnsBy) (r i : ℕ) (own : Entries) → item (unit_basis r) i ≡ Some own → (k : List ℕ) × C k own
no_units C r i own at =
    elim (cases_lt i r) [
      | inl inside ↦ absurd (none-some own (sym (get_or-replicate r i None None inside) ∙ at))
      | inr past ↦ absurd (none-some own (sym (get_or_past (unit_basis r) i None (past_units past)) ∙ at))
    ]
  where
    past_units : r ≤ i → length (unit_basis r) ≤ i
    past_units past = subst (λ (n : ℕ). n ≤ i) (sym (length-replicate r None)) past

-- ---- ready for a pivot
-- a state is ready to be pivoted by a column that improves it
pub ready : (C : ColumnsBy) (r : ℕ) (b : ℕ → ℤ) (s : State) (long : ℕ → ℤ) (key : List ℕ) (c : Entries) → IsNonNegative r b → IsState C r b s
    → ((k : List ℕ) (d : Entries) → C k d → pos 1 ≤ℤ dot r long (entry_of d)) → C key c → ImprovesAt r s.prices c → IsReady r s.rows s.prices c
ready C r b s long key c positive state lengths known improves =
    let stands : Stands r (basis_of r state.pivots) (numbers_of s.rows s.prices) = stand_together r (basis_of r state.pivots) s.rows s.prices state.rows state.prices in
    let found = bounded_column r b (basis_of r state.pivots) (numbers_of s.rows s.prices) c long (journal_reached r b state.pivots positive state.lawful) stands
    (λ i own inside at. let k = items_known C (unit_basis r) s.journal.items state.pivots state.named (no_units C r) i own at in
    above (dot r long (entry_of own)) (lengths k.0 own k.1))
    (above (dot r long (entry_of c)) (lengths key c known)) improves in
    record {
      basis = basis_of r state.pivots;
      rows_stand = state.rows;
      prices_stand = state.prices;
      improves = improves;
      some = found.0;
      inside = found.1;
      positive = found.2;
    }
  where
    above : (z : ℤ) → pos 1 ≤ℤ z → pos 0 <ℤ z
    above z h = omega (arith, ints)

-- ---- items and columns after the pivot
item_kept : (columns new : List Column) (i : ℕ) (o : Option Entries) (x : Item) → ((j : ℕ) (own : Column) → slice_get columns j ≡ Some own → slice_get new j ≡ Some own) → IsItem columns i o x → IsItem new i o x
item_kept columns new i None (UnitOf k) kept h = h
item_kept columns new i None (ColumnAt j) kept h = h
item_kept columns new i (Some c) (UnitOf k) kept h = h
item_kept columns new i (Some c) (ColumnAt j) kept h = (h.0, kept j h.0 h.1, h.2)

column_at : (columns : List Column) (j : ℕ) (key : List ℕ) → IsKeyAt columns j key → (own : Column) × (slice_get columns j ≡ Some own) × (own.key.items ≡ key)
column_at [] j key at = absurd (none-some key at)
column_at (c ∷ cs) zero key at = (c, refl, same_Some c.key.items key at)
column_at (c ∷ cs) (suc j) key at = column_at cs j key at

pushed_kept : (columns : List Column) (column : Column) (j : ℕ) (own : Column) → slice_get columns j ≡ Some own → slice_get (columns ++ column ∷ []) j ≡ Some own
pushed_kept [] column j own at = absurd (none-some own at)
pushed_kept (c ∷ cs) column zero own at = at
pushed_kept (c ∷ cs) column (suc j) own at = pushed_kept cs column j own at

pushed_last : (columns : List Column) (column : Column) → slice_get (columns ++ column ∷ []) (length columns) ≡ Some column
pushed_last [] column = refl
pushed_last (c ∷ cs) column = pushed_last cs column

pushed_stored : (C : ColumnsBy) (columns : List Column) (column : Column) → AreColumns C columns → C column.key.items column.entries.items → AreColumns C (columns ++ column ∷ [])
pushed_stored C [] column stored known zero own at = subst (λ (x : Column). C x.key.items x.entries.items) (same_Some column own at) known
pushed_stored C [] column stored known (suc j) own at = absurd (none-some own at)
pushed_stored C (c ∷ cs) column stored known zero own at = stored zero own at
pushed_stored C (c ∷ cs) column stored known (suc j) own at = pushed_stored C cs column (λ k o e. stored (suc k) o e) known j own at

-- what a push says of the columns
record ArePushed (C : ColumnsBy) (columns new : List Column) (column : Column) (place : ℕ) (ks : List (List ℕ)) : Type 0 where
  own : Column
  here : slice_get new place ≡ Some own
  entries : own.entries.items ≡ column.entries.items
  kept : (j : ℕ) (o : Column) → slice_get columns j ≡ Some o → slice_get new j ≡ Some o
  stored : AreColumns C new
  keys : map key_of new ≡ first_seen (ks ++ column.key.items ∷ [])

are_pushed : (C : ColumnsBy) (columns new : List Column) (column : Column) (place : ℕ) (ks : List (List ℕ)) → ((key : List ℕ) (c d : Entries) → C key c → C key d → c ≡ d)
    → map key_of columns ≡ first_seen ks → AreColumns C columns → C column.key.items column.entries.items → IsPushed columns new column place → ArePushed C columns new column place ks
are_pushed C columns new column place ks one keys stored known pushed =
    elim (one_more_key ks column.key.items) [
      | inl seen ↦ old_key seen
      | inr fresh ↦ new_key fresh
    ]
  where
    old_key : Known ks column.key.items → ArePushed C columns new column place ks
    old_key seen =
        let at : IsKeyAt columns seen.place column.key.items = ap (λ (l : List (List ℕ)). slice_get l seen.place) keys ∙ seen.at in
        let p = pushed.0 seen.place at in
        let own = column_at columns seen.place column.key.items at in
        record {
          own = own.0;
          here = ap₂ (λ (l : List Column) (j : ℕ). slice_get l j) p.1 p.0 ∙ own.1;
          entries = one column.key.items own.0.entries.items column.entries.items (subst (λ (key : List ℕ). C key own.0.entries.items) own.2 (stored seen.place own.0 own.1)) known;
          kept = λ j o e. ap (λ (l : List Column). slice_get l j) p.1 ∙ e;
          stored = subst (λ (l : List Column). AreColumns C l) (sym p.1) stored;
          keys = ap (map key_of) p.1 ∙ keys ∙ sym seen.same;
        }

    new_key : New ks column.key.items → ArePushed C columns new column place ks
    new_key fresh =
        let p = pushed.1 (λ i at. fresh.nowhere i (sym (ap (λ (l : List (List ℕ)). slice_get l i) keys) ∙ at)) in
        record {
          own = column;
          here = ap₂ (λ (l : List Column) (j : ℕ). slice_get l j) p.1 p.0 ∙ pushed_last columns column;
          entries = refl;
          kept = λ j o e. ap (λ (l : List Column). slice_get l j) p.1 ∙ pushed_kept columns column j o e;
          stored = subst (λ (l : List Column). AreColumns C l) (sym p.1) (pushed_stored C columns column stored known);
          keys = ap (map key_of) p.1 ∙ map-append key_of columns (column ∷ []) ∙ ap (λ (l : List (List ℕ)). l ++ column.key.items ∷ []) keys ∙ sym fresh.last;
        }

items_after : (C : ColumnsBy) (r : ℕ) (ps : Journal) (journal : List KeyPivot) (basis : List Item) (columns new : List Column) (row : ℕ) (column : Column) (place : ℕ) (last : KeyPivot)
    → AreItems C r ps journal basis columns → length (basis_of r ps) ≡ r → row < r → last.key.items ≡ column.key.items → ArePushed C columns new column place (map pivot_key journal)
    → AreItems C r (ps ++ (row, column.entries.items) ∷ []) (journal ++ last ∷ []) (set basis row (ColumnAt place)) new
items_after C r ps journal basis columns new row column place last old size inside key pushed =
    record {
      size = length-set basis row (ColumnAt place) ∙ old.size;
      items = λ i l. subst (λ (q : Basis). IsItem new i (item q i) (get_or (set basis row (ColumnAt place)) i no_item)) (sym (after_joined (unit_basis r) ps ((row, column.entries.items) ∷ []))) (at i l);
      stored = pushed.stored;
      keys = pushed.keys ∙ ap first_seen (sym (map-append pivot_key journal (last ∷ []) ∙ ap (λ (k : List ℕ). map pivot_key journal ++ k ∷ []) key));
    }
  where
    at : (i : ℕ) → i < r → IsItem new i (item (after_pivot (basis_of r ps) (row, column.entries.items)) i) (get_or (set basis row (ColumnAt place)) i no_item)
    at i l =
        elim (cases_eq i row) [
          | inl e ↦ subst (λ (j : ℕ). IsItem new j (item (after_pivot (basis_of r ps) (row, column.entries.items)) j) (get_or (set basis row (ColumnAt place)) j no_item)) (sym e)
              (subst (λ (o : Option Entries). IsItem new row o (get_or (set basis row (ColumnAt place)) row no_item))
              (sym (get_or-set_same (basis_of r ps) row (Some column.entries.items) None (subst (λ (n : ℕ). row < n) (sym size) inside)))
              (subst (λ (x : Item). IsItem new row (Some column.entries.items) x) (sym (get_or-set_same basis row (ColumnAt place) no_item (subst (λ (n : ℕ). row < n) (sym old.size) inside)))
              (pushed.own, pushed.here, pushed.entries)))
          | inr apart ↦ subst (λ (o : Option Entries). IsItem new i o (get_or (set basis row (ColumnAt place)) i no_item)) (sym (get_or-set_other (basis_of r ps) row i (Some column.entries.items) None apart))
              (subst (λ (x : Item). IsItem new i (item (basis_of r ps) i) x) (sym (get_or-set_other basis row i (ColumnAt place) no_item apart))
              (item_kept columns new i (item (basis_of r ps) i) (get_or basis i no_item) pushed.kept (old.items i l)))
        ]

-- ---- the whole state after the pivot
-- after the pivot of a column that improves, in the leaving row, with the numbers that follow and the column noted,
-- there is a state again
pub state_after : (C : ColumnsBy) (r : ℕ) (b : ℕ → ℤ) (old mid new : State) (row : ℕ) (column : Column) → ((key : List ℕ) (c d : Entries) → C key c → C key d → c ≡ d)
    → IsState C r b old → C column.key.items column.entries.items → ImprovesAt r old.prices column.entries.items → IsLeaving r b (numbers_of old.rows old.prices) column.entries.items row
    → RowsFollow r old.rows mid.rows row column.entries.items → PricesFollow r old.rows old.prices mid.prices row column.entries.items
    → mid.basis ≡ old.basis → mid.columns ≡ old.columns → mid.journal ≡ old.journal → IsNoted mid new row column → IsState C r b new
state_after C r b old mid new row column one state known improves leaves rows prices basis columns journal noted =
    let p : Pivot = (row, column.entries.items) in
    let lawful : IsLawful r b (basis_of r state.pivots) p =
    record {
      numbers = numbers_of old.rows old.prices;
      stands = stand_together r (basis_of r state.pivots) old.rows old.prices state.rows state.prices;
      improves = improves;
      leaves = leaves;
    } in
    let next : basis_of r (state.pivots ++ p ∷ []) ≡ after_pivot (basis_of r state.pivots) p = after_joined (unit_basis r) state.pivots (p ∷ []) in
    let pushed : IsPushed old.columns new.columns column noted.place = subst (λ (l : List Column). IsPushed l new.columns column noted.place) columns noted.pushed in
    let noted_basis : new.basis.items ≡ set old.basis.items row (ColumnAt noted.place) = noted.basis ∙ ap (λ v. set v.items row (ColumnAt noted.place)) basis in
    let noted_journal : new.journal.items ≡ old.journal.items ++ noted.last ∷ [] = noted.journal ∙ ap (λ v. v.items ++ noted.last ∷ []) journal in
    record {
      pivots = state.pivots ++ p ∷ [];
      named = subst (λ (l : List KeyPivot). AreNamed C l (state.pivots ++ p ∷ [])) (sym noted_journal)
          (named_more C old.journal.items state.pivots noted.last p state.named noted.last_row (subst (λ (k : List ℕ). C k column.entries.items) (sym noted.last_key) known));
      lawful = lawful_joined r b (unit_basis r) state.pivots (p ∷ []) state.lawful (lawful, tt);
      rows = subst (λ (q : Basis). RowsStand r q new.rows) (sym next) (subst (λ (l : List Line). RowsStand r (after_pivot (basis_of r state.pivots) p) l) (sym noted.rows) (rows (basis_of r state.pivots) state.rows));
      prices = subst (λ (q : Basis). PricesStand r q new.prices) (sym next)
          (subst (λ v. PricesStand r (after_pivot (basis_of r state.pivots) p) v) (sym noted.prices) (prices (basis_of r state.pivots) state.rows state.prices));
      items = subst (λ (l : List KeyPivot). AreItems C r (state.pivots ++ p ∷ []) l new.basis.items new.columns) (sym noted_journal)
          (subst (λ (l : List Item). AreItems C r (state.pivots ++ p ∷ []) (old.journal.items ++ noted.last ∷ []) l new.columns) (sym noted_basis)
          (items_after C r state.pivots old.journal.items old.basis.items old.columns new.columns row column noted.place noted.last state.items state.rows.items leaves.inside noted.last_key
          (are_pushed C old.columns new.columns column noted.place (map pivot_key old.journal.items) one state.items.keys state.items.stored known pushed)));
    }

-- no more columns than pivots
pub columns_few : (C : ColumnsBy) (r : ℕ) (ps : Journal) (journal : List KeyPivot) (basis : List Item) (columns : List Column) → AreItems C r ps journal basis columns → length columns ≤ length journal
columns_few C r ps journal basis columns items =
    omega (arith, length-map columns key_of, ap length items.keys, length_first_seen (map pivot_key journal), length-map journal pivot_key)

-- the same columns by other words
pub state_by : (C D : ColumnsBy) (r : ℕ) (b : ℕ → ℤ) (s : State) → ((key : List ℕ) (c : Entries) → C key c → D key c) → IsState C r b s → IsState D r b s
state_by C D r b s all state =
    record {
      pivots = state.pivots;
      named = named_by s.journal.items state.pivots state.named;
      lawful = state.lawful;
      rows = state.rows;
      prices = state.prices;
      items = record { size = state.items.size; items = state.items.items; stored = λ j own at. all own.key.items own.entries.items (state.items.stored j own at); keys = state.items.keys };
    }
  where
    named_by : (ks : List KeyPivot) (ps : Journal) → AreNamed C ks ps → AreNamed D ks ps
    named_by [] [] named = tt
    named_by [] (p ∷ ps) named = absurd named
    named_by (k ∷ ks) [] named = absurd named
    named_by (k ∷ ks) (p ∷ ps) named = (named.0, all k.key.items p.1 named.1, named_by ks ps named.2)
