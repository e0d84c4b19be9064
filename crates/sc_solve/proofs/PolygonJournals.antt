-- Journals of polygons, and the journals of columns that they name.
use Rattle.std.proofs.Common.{◌≡◌, ℕ, zero, suc, ◌≤◌, List, [], ◌∷◌, ◌++◌, length, map, set, replicate, Option, Some, None, ℤ, refl, sym, ap, ap₂, subst, ◌∙◌}
use Rattle.std.specs.Option.{option_map}
use Rattle.std.specs.List.{AllByRecursion}
use Rattle.std.proofs.lemmas.List.{map-set, length-set, length-map, length-replicate}
use Rattle.sc_theory.specs.Chains.{Chain}
use Rattle.sc_theory.specs.Walks.{IsPolygon}
use Rattle.sc_theory.specs.Columns.{rows, right_side}
use Rattle.sc_chain.specs.declared.polygon.Pivot.{Pivot}
use Rattle.sc_basis.specs.Bases.{Column, Basis, unit_basis}
use Rattle.sc_basis.specs.Pivots.{Pivot as ColumnPivot, after_pivot}
use Rattle.sc_basis.specs.Journals.{Journal, IsJournal, LawfulFrom, basis_after}
use Rattle.sc_simplex.specs.declared.column.KeyPivot.{KeyPivot}
use Rattle.sc_simplex.specs.NamedJournals.{AreNamed, IsLawfulBy, RisesAlong, pivot_key}
use Rattle.sc_certificate.specs.PivotLines.{IsPivotInRange}
use Rattle.sc_solve.specs.PolygonColumns.{column_entries, IsPolygonColumn}
use Rattle.sc_solve.specs.Solutions.{pivots_of, last_basis, IsJournalOf, exchanged, last_items}
use Rattle.sc_solve.specs.inside.Assembling.{named_pivot}

-- ---- the journal that is named
same_pivot : (p : ColumnPivot) (row : ℕ) (entries : Column) → row ≡ p.0 → p.1 ≡ entries → (row, entries) ≡ p
same_pivot p row entries e h = ap₂ (λ (i : ℕ) (c : Column). (i, c)) e (sym h)

-- the pivots of the polygons that a journal names are the journal's
pub named_pivots : (c : Chain) (ks : List KeyPivot) (ps : Journal) → AreNamed (IsPolygonColumn c) ks ps → pivots_of c (map named_pivot ks) ≡ ps
named_pivots c [] [] named = refl
named_pivots c [] (p ∷ ps) named = absurd named
named_pivots c (k ∷ ks) [] named = absurd named
named_pivots c (k ∷ ks) (p ∷ ps) named =
    ap₂ (λ (q : ColumnPivot) (qs : Journal). q ∷ qs) (same_pivot p k.row (column_entries c k.key.items) named.0 named.1.entries_are) (named_pivots c ks ps named.2)

-- where columns are named by polygons, each key of a journal is a polygon
pub named_polygons : (c : Chain) (ks : List KeyPivot) (ps : Journal) → AreNamed (IsPolygonColumn c) ks ps → AllByRecursion (λ k. IsPolygon c k.key.items) ks
named_polygons c [] [] named = tt
named_polygons c [] (p ∷ ps) named = absurd named
named_polygons c (k ∷ ks) [] named = absurd named
named_polygons c (k ∷ ks) (p ∷ ps) named = (named.1.polygon, named_polygons c ks ps named.2)

polygons_named : (c : Chain) (ks : List KeyPivot) → AllByRecursion (λ k. IsPolygon c k.key.items) ks → AllByRecursion (λ p. IsPolygon c p.polygon) (map named_pivot ks)
polygons_named c [] all = tt
polygons_named c (k ∷ ks) all = (all.0, polygons_named c ks all.1)

-- the polygons of named pivots are their keys
pub named_walks : (ks : List KeyPivot) → map (λ p. p.polygon) (map named_pivot ks) ≡ map pivot_key ks
named_walks [] = refl
named_walks (k ∷ ks) = ap (λ (walks : List (List ℕ)). k.key.items ∷ walks) (named_walks ks)

-- a lawful journal of columns within the budget is a journal of the polygons that name them
pub journal_named : (c : Chain) (budget : ℕ) (ks : List KeyPivot) (ps : Journal) → IsLawfulBy (IsPolygonColumn c) (rows c) (right_side c) ks ps → length ks ≤ budget → IsJournalOf c budget (map named_pivot ks)
journal_named c budget ks ps is within =
    let same : pivots_of c (map named_pivot ks) ≡ ps = named_pivots c ks ps is.named in
    record {
      polygons = polygons_named c ks (named_polygons c ks ps is.named);
      lawful = subst (λ (qs : Journal). IsJournal (rows c) (right_side c) qs) (sym same) is.lawful;
      rises = subst (λ (qs : Journal). RisesAlong (rows c) (right_side c) qs) (sym same) is.rises;
      within = subst (λ (n : ℕ). n ≤ budget) (sym (length-map ks named_pivot)) within;
    }

-- ---- the rows of lawful pivots
rows_from : (c : Chain) (b : ℕ → ℤ) (basis : Basis) (journal : List Pivot) → AllByRecursion (λ p. IsPolygon c p.polygon) journal → LawfulFrom (rows c) b basis (pivots_of c journal) → AllByRecursion (IsPivotInRange c) journal
rows_from c b basis [] all lawful = tt
rows_from c b basis (p ∷ journal) all lawful = (record { row = lawful.0.leaves.inside; polygon = all.0 }, rows_from c b (after_pivot basis (p.row, column_entries c p.polygon)) journal all.1 lawful.1)

-- each pivot of a journal is in the range of a certificate's pivots
pub journal_in_range : (c : Chain) (budget : ℕ) (journal : List Pivot) → IsJournalOf c budget journal → AllByRecursion (IsPivotInRange c) journal
journal_in_range c budget journal is = rows_from c (right_side c) (unit_basis (rows c)) journal is.polygons is.lawful

-- ---- what stands in the rows
entries_exchanged : (c : Chain) (items : List (Option (List ℕ))) (journal : List Pivot) → map (option_map (column_entries c)) (exchanged items journal) ≡ basis_after (map (option_map (column_entries c)) items) (pivots_of c journal)
entries_exchanged c items [] = refl
entries_exchanged c items (p ∷ journal) =
    entries_exchanged c (set items p.row (Some p.polygon)) journal
    ∙ ap (λ (basis : Basis). basis_after basis (pivots_of c journal)) (map-set (option_map (column_entries c)) items p.row (Some p.polygon))

-- a map of copies of x is as many copies of the image of x
pub map-replicate : {A B : Type 0} (f : A → B) (n : ℕ) (x : A) → map f (replicate n x) ≡ replicate n (f x)
map-replicate f zero x = refl
map-replicate f (suc n) x = ap (λ (xs : List _). f x ∷ xs) (map-replicate f n x)

-- the columns of what stands in the rows after a journal are the last basis
pub entries_of_items : (c : Chain) (journal : List Pivot) → map (option_map (column_entries c)) (last_items c journal) ≡ last_basis c journal
entries_of_items c journal =
    entries_exchanged c (replicate (rows c) None) journal
    ∙ ap (λ (basis : Basis). basis_after basis (pivots_of c journal)) (map-replicate (option_map (column_entries c)) (rows c) None)

length-exchanged : (items : List (Option (List ℕ))) (journal : List Pivot) → length (exchanged items journal) ≡ length items
length-exchanged items [] = refl
length-exchanged items (p ∷ journal) = length-exchanged (set items p.row (Some p.polygon)) journal ∙ length-set items p.row (Some p.polygon)

pub length-last_items : (c : Chain) (journal : List Pivot) → length (last_items c journal) ≡ rows c
length-last_items c journal = length-exchanged (replicate (rows c) None) journal ∙ length-replicate (rows c) None

-- after one more pivot its polygon stands in its row, and the others stay
pub exchanged-push : (items : List (Option (List ℕ))) (journal : List Pivot) (p : Pivot) → exchanged items (journal ++ p ∷ []) ≡ set (exchanged items journal) p.row (Some p.polygon)
exchanged-push items [] p = refl
exchanged-push items (q ∷ journal) p = exchanged-push (set items q.row (Some q.polygon)) journal p
