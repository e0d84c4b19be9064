-- What the oracle over polygons owes of its columns.
use Rattle.std.specs.Prelude.{◌≡◌, ℕ, List, [], ◌∷◌, length, ℤ, pos, ◌≤ℤ◌}
use Rattle.std.proofs.Common.{arith, refl, sym, subst, ◌∙◌}
use Rattle.std.proofs.lemmas.Int.{ints}
use Rattle.sc_theory.specs.Chains.{Chain}
use Rattle.sc_theory.specs.Walks.{IsClosedWalk}
use Rattle.sc_theory.specs.Columns.{rows, column, length_row}
use Rattle.sc_theory.proofs.ColumnLaws.{length_product}
use Rattle.sc_basis.specs.Products.{dot}
use Rattle.sc_basis.specs.Bases.{Column as Entries, entry_of, IsAscending}
use Rattle.sc_basis.proofs.ProductLaws.{dot-congr}
use Rattle.sc_solve.specs.PolygonColumns.{column_entries, IsPolygonColumn}
use Rattle.sc_solve.specs.EntryLaws.{entries_ascend, entry_is}

pub columns_ascend : (c : Chain) (key : List ℕ) (entries : Entries) → IsPolygonColumn c key entries → IsAscending (rows c) 0 entries
columns_ascend c key entries is = subst (IsAscending (rows c) 0) (sym is.entries_are) (entries_ascend (column c key) (rows c))

pub one_column : (c : Chain) (key : List ℕ) (entries others : Entries) → IsPolygonColumn c key entries → IsPolygonColumn c key others → entries ≡ others
one_column c key entries others is also = is.entries_are ∙ sym also.entries_are

long_walk : (c : Chain) (walk : List ℕ) → IsClosedWalk c walk → pos 1 ≤ℤ pos (length walk)
long_walk c [] closed = absurd closed
long_walk c (i ∷ js) closed = omega (arith, ints)

pub columns_are_long : (c : Chain) (key : List ℕ) (entries : Entries) → IsPolygonColumn c key entries → pos 1 ≤ℤ dot (rows c) (length_row c) (entry_of entries)
columns_are_long c key entries is =
    subst (λ (es : Entries). pos 1 ≤ℤ dot (rows c) (length_row c) (entry_of es)) (sym is.entries_are)
    (subst (λ (z : ℤ). pos 1 ≤ℤ z)
    (sym (dot-congr (rows c) (length_row c) (length_row c) (entry_of (column_entries c key)) (column c key) (λ k _. refl) (λ k inside. entry_is (column c key) (rows c) k inside)
    ∙ length_product c key is.polygon.closed))
    (long_walk c key is.polygon.closed))
