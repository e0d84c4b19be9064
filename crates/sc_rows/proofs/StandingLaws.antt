-- Rows and prices that stand for a basis.
use Rattle.std.specs.Prelude.{◌≡◌, ℕ, ◌<◌, List, length, get_or, None, Some, ℤ, pos, ◌*ℤ◌, ◌<ℤ◌}
use Rattle.std.proofs.Common.{arith, sym, ap, ◌∙◌}
use Rattle.std.proofs.lemmas.Int.{ints}
use Rattle.std.proofs.lemmas.List.{length-replicate}
use Rattle.std.proofs.Math.ListN.{length-set}
use Rattle.sc_algebra.proofs.Ints.{one-mul}
use Rattle.sc_basis.specs.Products.{dot, unit}
use Rattle.sc_basis.specs.Bases.{Column, Basis, entry_of, unit_basis, columns}
use Rattle.sc_basis.specs.Standing.{Gives, Stands}
use Rattle.sc_basis.specs.Pivots.{after_pivot}
use Rattle.sc_basis.proofs.Units.{dot-columns-units}
use Rattle.sc_basis.proofs.Pivoting.{rows_after}
use Rattle.sc_rows.specs.Lines.{Line, no_line, row_of, den_of}
use Rattle.sc_rows.specs.inside.Lines.{IsUnitLine}
use Rattle.sc_rows.specs.Standing.{RowsStand, PricesStand, numbers_of}
use Rattle.sc_rows.specs.declared.prices.PriceRows.{PriceRows}
use Rattle.sc_rows.proofs.RowLaws.{ArePutIn, rows_pivoted, coprime_again, over_one}

unit_gives : (r i : ℕ) (line : Line) → i < r → IsUnitLine r i line → Gives r (columns (unit_basis r)) (unit i) (λ k. get_or line.entries k (pos 0)) line.den
unit_gives r i line inside h =
    record {
      positive = let one : line.den ≡ pos 1 = h.den in omega (arith, ints);
      product = λ j m.
          dot-columns-units r j (λ k. get_or line.entries k (pos 0)) m ∙ h.entries j m
          ∙ sym (ap (λ (d : ℤ). d *ℤ unit i j) h.den ∙ one-mul (unit i j));
    }

-- the rows of the identity stand for the basis of the unit columns
pub unit_rows_stand : (r : ℕ) (rows : List Line) → length rows ≡ r → ((i : ℕ) → i < r → IsUnitLine r i (get_or rows i no_line)) → RowsStand r (unit_basis r) rows
unit_rows_stand r rows size units =
    record {
      items = length-replicate r None;
      size = size;
      give = λ i l. unit_gives r i (get_or rows i no_line) l (units i l);
      coprime = λ i l. over_one r (row_of rows i) (den_of rows i) (units i l).den;
    }

-- the rows that a pivot makes stand for the basis after it
pub rows_stand_after : (rows new : List Line) (a : ℕ → ℤ) (l : ℕ) (basis : Basis) (c : Column) → l < length rows → pos 0 <ℤ a l → ArePutIn rows new a l
    → RowsStand (length rows) basis rows → ((i : ℕ) → i < length rows → a i ≡ dot (length rows) (row_of rows i) (entry_of c))
    → RowsStand (length rows) (after_pivot basis (l, c)) new
rows_stand_after rows new a l basis c inside above put old products =
    record {
      items = length-set basis l (Some c) ∙ old.items;
      size = put.size;
      give = rows_after (length rows) basis (row_of rows) (den_of rows) (row_of new) (den_of new) a c l old.items inside old.give products above (rows_pivoted rows new a l put);
      coprime = coprime_again rows new a l put;
    }

-- rows and prices that stand for a basis are numbers that stand for it
pub stand_together : (r : ℕ) (basis : Basis) (rows : List Line) (p : PriceRows) → RowsStand r basis rows → PricesStand r basis p → Stands r basis (numbers_of rows p)
stand_together r basis rows p h k =
    record {
      rows = h.give;
      rows_coprime = h.coprime;
      bulk = k.bulk;
      bulk_coprime = k.bulk_coprime;
      fine = k.fine;
      fine_coprime = k.fine_coprime;
    }
