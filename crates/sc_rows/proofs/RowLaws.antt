-- The new rows of a pivot, and the rows of the units.
use Rattle.std.specs.Prelude.{◌≡◌, ◌≢◌, ℕ, ◌<◌, List, length, get_or, Option, None, ℤ, pos, ◌-ℤ◌, ◌*ℤ◌, ◌<ℤ◌}
use Rattle.std.proofs.Common.{arith, sym, ap, ◌∙◌, subst, inl, inr, refl}
use Rattle.std.proofs.lemmas.Int.{ints}
use Rattle.std.proofs.lemmas.Bool.{cases_eq}
use Rattle.std.proofs.Math.Nat.{eq-one_of_dvd-one}
use Rattle.sc_algebra.proofs.Ints.{zero-mul}
use Rattle.sc_basis.specs.Products.{at, IsCoprime, IsReduced}
use Rattle.sc_basis.specs.Pivots.{RowsPivoted}
use Rattle.sc_basis.proofs.Numbers.{mul_pos, pos_of_mul}
use Rattle.sc_basis.proofs.RuleLaws.{row_by_rule}
use Rattle.sc_rows.specs.Lines.{Line, AreRows, no_line, row_of, den_of}
use Rattle.sc_rows.specs.inside.Lines.{IsUnitLine}
use Rattle.sc_rows.specs.Places.{IsWideBy}
use Rattle.sc_rows.specs.inside.Updates.{IsUpdated}
use Rattle.sc_rows.specs.Updates.{IsWideUpdate}
use Rattle.sc_rows.specs.inside.Fresh.{IsRowPivoted, AreFresh, chosen}
use Rattle.sc_rows.specs.Evidence.{IsWidePivot}
use Rattle.sc_rows.specs.declared.fault.RowFault.{RowFault}
use Rattle.sc_rows.specs.declared.fault.RowFault.TheVariants.{Wide, Memory}
use Rattle.sc_rows.specs.declared.update.Update.TheVariants.{Row}

-- ---- one row
-- a row whose product is 0 stays
pub stays : (rows : List Line) (a : ℕ → ℤ) (l i : ℕ) → AreRows rows → i < length rows → pos 0 <ℤ a l → a i ≡ pos 0 → IsRowPivoted rows a l i (get_or rows i no_line)
stays rows a l i h inside above none =
    record {
      size = h.sizes i inside;
      reduced =
          record {
            factor = a l;
            positive = above;
            entries = λ k below.
                let gone : a i *ℤ row_of rows l k ≡ pos 0 = ap (λ (t : ℤ). t *ℤ row_of rows l k) none ∙ zero-mul (row_of rows l k) in
                omega (arith, ints);
            scale = refl;
            coprime = h.coprime i inside;
          };
    }

-- a row by the rule
pub made : (rows : List Line) (a : ℕ → ℤ) (l i : ℕ) (left new : Line) → IsReduced (length rows) (at left.entries) left.den (row_of rows l) (a l)
    → IsUpdated (Row i l) (length rows) (row_of rows i) (den_of rows i) (at left.entries) left.den (a i) new → length new.entries ≡ length rows → IsRowPivoted rows a l i new
made rows a l i left new reduced updated size =
    record {
      size = size;
      reduced = row_by_rule (length rows) (row_of rows i) (row_of rows l) (at left.entries) (at new.entries) (den_of rows i) new.den left.den (a l) (a i) updated.p updated.q reduced updated.ratio updated.reduced;
    }

-- a refusal in the new row of a row whose product isn't 0 is one of the pivot
pub moving_wide : (rows : List Line) (a : ℕ → ℤ) (l i : ℕ) (left : Line) (fault : RowFault) → i < length rows → i ≢ l → a i ≢ pos 0
    → IsReduced (length rows) (at left.entries) left.den (row_of rows l) (a l)
    → IsWideBy (IsWideUpdate (Row i l) (length rows) (row_of rows i) (den_of rows i) (at left.entries) left.den (a i)) fault
    → IsWideBy (IsWidePivot rows a l) fault
moving_wide rows a l i left (Wide w) inside other moves reduced wide =
    record {
      moving = i;
      inside = inside;
      other = other;
      moves = moves;
      left = record { entries = at left.entries; scale = left.den; reduced = reduced };
      wide = wide;
    }
moving_wide rows a l i left Memory inside other moves reduced wide = tt

-- ---- all rows
-- what is put in the places of the rows
pub record ArePutIn (rows new : List Line) (a : ℕ → ℤ) (l : ℕ) : Type 0 where
  pub size : length new ≡ length rows
  pub left_size : length (get_or new l no_line).entries ≡ length rows
  pub left : IsReduced (length rows) (row_of new l) (den_of new l) (row_of rows l) (a l)
  pub others : (i : ℕ) → i < length rows → i ≢ l → IsRowPivoted rows a l i (get_or new i no_line)

-- the leaving row over its product and the new rows, each in its place
pub put_together : (rows new : List Line) (fresh : List (Option Line)) (a : ℕ → ℤ) (l : ℕ) (left : Line) → length left.entries ≡ length rows
    → IsReduced (length rows) (at left.entries) left.den (row_of rows l) (a l) → AreFresh rows a l (length rows) fresh
    → length new ≡ length rows → get_or new l no_line ≡ left
    → ((i : ℕ) → i < length rows → i ≢ l → get_or new i no_line ≡ chosen (get_or fresh i None) (get_or rows i no_line)) → ArePutIn rows new a l
put_together rows new fresh a l left left_size reduced are size here others =
    record {
      size = size;
      left_size = ap (λ (line : Line). length line.entries) here ∙ left_size;
      left = subst (λ (line : Line). IsReduced (length rows) (at line.entries) line.den (row_of rows l) (a l)) (sym here) reduced;
      others = λ i inside apart. subst (λ (line : Line). IsRowPivoted rows a l i line) (sym (others i inside apart)) (are i inside apart);
    }

-- the rows that are put in are those that a pivot makes
pub rows_pivoted : (rows new : List Line) (a : ℕ → ℤ) (l : ℕ) → ArePutIn rows new a l → RowsPivoted (length rows) (row_of rows) (den_of rows) (row_of new) (den_of new) a l
rows_pivoted rows new a l h = record { left = h.left; others = λ i inside apart. (h.others i inside apart).reduced }

den_positive : (n : ℕ) (v w : ℕ → ℤ) (d e : ℤ) → pos 0 <ℤ e → IsReduced n v d w e → pos 0 <ℤ d
den_positive n v w d e above h = pos_of_mul h.factor d h.positive (rw h.scale above)

-- the new rows have no common divisor with their denominators
pub coprime_again : (rows new : List Line) (a : ℕ → ℤ) (l : ℕ) → ArePutIn rows new a l → (i : ℕ) → i < length rows → IsCoprime (length rows) (row_of new i) (den_of new i)
coprime_again rows new a l h i below =
    elim (cases_eq i l) [
      | inl e ↦ subst (λ (j : ℕ). IsCoprime (length rows) (row_of new j) (den_of new j)) (sym e) h.left.coprime
      | inr apart ↦ (h.others i below apart).reduced.coprime
    ]

-- the new rows are as long as the old ones, over positive denominators, without a common divisor
pub are_rows_again : (rows new : List Line) (a : ℕ → ℤ) (l : ℕ) → l < length rows → pos 0 <ℤ a l → AreRows rows → ArePutIn rows new a l → AreRows new
are_rows_again rows new a l inside above old h =
    record {
      sizes = λ i below. size i (rw h.size at below) ∙ sym h.size;
      dens = λ i below. den i (rw h.size at below);
      coprime = λ i below. subst (λ (n : ℕ). IsCoprime n (row_of new i) (den_of new i)) (sym h.size) (coprime_again rows new a l h i (rw h.size at below));
    }
  where
    size : (i : ℕ) → i < length rows → length (get_or new i no_line).entries ≡ length rows
    size i below =
        elim (cases_eq i l) [
          | inl e ↦ ap (λ (j : ℕ). length (get_or new j no_line).entries) e ∙ h.left_size
          | inr apart ↦ (h.others i below apart).size
        ]

    den : (i : ℕ) → i < length rows → pos 0 <ℤ den_of new i
    den i below =
        elim (cases_eq i l) [
          | inl e ↦ subst (λ (j : ℕ). pos 0 <ℤ den_of new j) (sym e) (den_positive (length rows) (row_of new l) (row_of rows l) (den_of new l) (a l) above h.left)
          | inr apart ↦
              den_positive (length rows) (row_of new i) (λ k. a l *ℤ row_of rows i k -ℤ a i *ℤ row_of rows l k) (den_of new i) (a l *ℤ den_of rows i)
              (mul_pos (a l) (den_of rows i) above (old.dens i below)) (h.others i below apart).reduced
        ]

-- ---- the rows of the units
-- no list has a common divisor with the denominator 1
pub over_one : (n : ℕ) (v : ℕ → ℤ) (d : ℤ) → d ≡ pos 1 → IsCoprime n v d
over_one n v d one = subst (λ (e : ℤ). IsCoprime n v e) (sym one) (λ g of_one of_v. eq-one_of_dvd-one of_one)

-- the rows of the identity have the right lengths and denominators, without a common divisor
pub are_unit_rows : (r : ℕ) (rows : List Line) → length rows ≡ r → ((i : ℕ) → i < r → IsUnitLine r i (get_or rows i no_line)) → AreRows rows
are_unit_rows r rows size units =
    record {
      sizes = λ i below. (units i (rw size at below)).size ∙ sym size;
      dens = λ i below. let one : den_of rows i ≡ pos 1 = (units i (rw size at below)).den in omega (arith, ints);
      coprime = λ i below. over_one (length rows) (row_of rows i) (den_of rows i) (units i (rw size at below)).den;
    }
