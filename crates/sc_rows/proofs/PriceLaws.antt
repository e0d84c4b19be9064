-- The new prices of a pivot, and the prices of the units.
use Rattle.std.specs.Prelude.{◌≡◌, ◌⊎◌, ℕ, ◌<◌, List, length, None, Some, ℤ, pos, negsuc, ◌*ℤ◌, ◌<ℤ◌}
use Rattle.std.proofs.Common.{sym, ap, ◌∙◌, subst, inl, inr}
use Rattle.std.proofs.lemmas.List.{length-replicate, length-set}
use Rattle.sc_weight.specs.declared.level.Level.{Level}
use Rattle.sc_weight.specs.declared.level.Level.TheVariants.{Bulk, Fine}
use Rattle.sc_basis.specs.Products.{at, dot, IsReduced}
use Rattle.sc_basis.specs.Bases.{Column, Basis, entry_of, unit_basis, bulk_cost, fine_cost, bulk_costs, fine_costs}
use Rattle.sc_basis.specs.Pivots.{PricesPivoted, after_pivot}
use Rattle.sc_basis.proofs.Numbers.{pos_of_mul}
use Rattle.sc_basis.proofs.Units.{item-units, dot-columns-units}
use Rattle.sc_basis.proofs.RuleLaws.{price_by_rule}
use Rattle.sc_basis.proofs.Pivoting.{prices_after}
use Rattle.sc_rows.specs.Lines.{Line, row_of, den_of}
use Rattle.sc_rows.specs.Standing.{ArePrices, RowsStand, PricesStand, entries_of, gap_at}
use Rattle.sc_rows.specs.Places.{IsWideBy}
use Rattle.sc_rows.specs.inside.Updates.{IsUpdated}
use Rattle.sc_rows.specs.Updates.{IsWideUpdate}
use Rattle.sc_rows.specs.Evidence.{IsWideGap, IsWidePrices, IsWidePricePivot}
use Rattle.sc_rows.specs.inside.NewPrices.{IsNewPrices, IsWideAtLevel}
use Rattle.sc_rows.specs.declared.fault.RowFault.{RowFault}
use Rattle.sc_rows.specs.declared.fault.RowFault.TheVariants.{Wide, Memory}
use Rattle.sc_rows.specs.declared.fault.WideAt.{WideAt}
use Rattle.sc_rows.specs.declared.prices.PriceRow.{PriceRow}
use Rattle.sc_rows.specs.declared.prices.PriceRows.{PriceRows}
use Rattle.sc_rows.specs.declared.update.Update.TheVariants.{Prices}
use Rattle.sc_rows.proofs.UpdateLaws.{scale_positive}
use Rattle.sc_rows.proofs.RowLaws.{over_one}

-- ---- one level
-- what is new, at the size r that the prices have
updated_at : (r : ℕ) (level : Level) (p new : PriceRow) (l : ℕ) (left : Line) (c : Column) → length p.entries.items ≡ r → IsNewPrices level p l left c new
    → IsUpdated (Prices level l) r (entries_of p) p.scale (at left.entries) left.den (gap_at r p level c) (record { entries = new.entries.items; den = new.scale })
updated_at r level p new l left c size h =
    subst (λ (n : ℕ). IsUpdated (Prices level l) n (entries_of p) p.scale (at left.entries) left.den (gap_at n p level c) (record { entries = new.entries.items; den = new.scale })) size h

-- the leaving row over its product z with the column
over_dot : (r : ℕ) (left : Line) (w : ℕ → ℤ) (c : Column) (z : ℤ) → z ≡ dot r w (entry_of c) → IsReduced r (at left.entries) left.den w z → IsReduced r (at left.entries) left.den w (dot r w (entry_of c))
over_dot r left w c z e h = subst (λ (t : ℤ). IsReduced r (at left.entries) left.den w t) e h

-- the new prices of a level are those that a pivot makes of the old ones
pub prices_made : (r : ℕ) (level : Level) (p new : PriceRow) (l : ℕ) (left : Line) (c : Column) (w : ℕ → ℤ) (z : ℤ) → length p.entries.items ≡ r → z ≡ dot r w (entry_of c)
    → IsReduced r (at left.entries) left.den w z → IsNewPrices level p l left c new
    → PricesPivoted r (entries_of p) p.scale (entries_of new) new.scale (gap_at r p level c) w (dot r w (entry_of c))
prices_made r level p new l left c w z size e reduced h =
    let u = updated_at r level p new l left c size h in
    price_by_rule r (entries_of p) w (at left.entries) (entries_of new) p.scale new.scale left.den (dot r w (entry_of c)) (gap_at r p level c) u.p u.q (over_dot r left w c z e reduced) u.ratio u.reduced

-- the leaving row over its positive product has a positive denominator
pub left_positive : (r : ℕ) (left : Line) (w : ℕ → ℤ) (c : Column) (z : ℤ) → z ≡ dot r w (entry_of c) → pos 0 <ℤ dot r w (entry_of c) → IsReduced r (at left.entries) left.den w z → pos 0 <ℤ left.den
left_positive r left w c z e above h = pos_of_mul h.factor left.den h.positive (rw (h.scale, e) above)

-- the new prices have a positive scale
pub new_scale_positive : (level : Level) (p new : PriceRow) (l : ℕ) (left : Line) (c : Column) → pos 0 <ℤ p.scale → pos 0 <ℤ left.den → IsNewPrices level p l left c new → pos 0 <ℤ new.scale
new_scale_positive level p new l left c some above h =
    pos_of_mul h.reduced.factor new.scale h.reduced.positive (
    rw h.reduced.scale (scale_positive left.den (gap_at (length p.entries.items) p level c) h.p h.q p.scale above some h.ratio)
    )

level_wide : (r : ℕ) (level : Level) (p : PriceRow) (l : ℕ) (left : Line) (c : Column) (v : ℕ → ℤ) (z : ℤ) (w : WideAt) → length p.entries.items ≡ r → z ≡ dot r v (entry_of c)
    → IsReduced r (at left.entries) left.den v z → IsWideAtLevel level p l left c w → IsWideGap r p level c w ⊎ IsWidePrices r p level c v l w
level_wide r level p l left c v z w size e reduced (inl h) = inl (subst (λ (n : ℕ). IsWideGap n p level c w) size h)
level_wide r level p l left c v z w size e reduced (inr h) =
    inr (
    record {
      left = record { entries = at left.entries; scale = left.den; reduced = over_dot r left v c z e reduced };
      wide = subst (λ (n : ℕ). IsWideUpdate (Prices level l) n (entries_of p) p.scale (at left.entries) left.den (gap_at n p level c) w) size h;
    }
    )

-- a refusal at the bulk level, or at the fine one, is one of the pivot of the prices
pub bulk_wide : (r : ℕ) (p : PriceRows) (l : ℕ) (left : Line) (c : Column) (v : ℕ → ℤ) (z : ℤ) (fault : RowFault) → ArePrices r p → z ≡ dot r v (entry_of c)
    → IsReduced r (at left.entries) left.den v z → IsWideBy (IsWideAtLevel Bulk p.bulk l left c) fault → IsWideBy (IsWidePricePivot r p c v l) fault
bulk_wide r p l left c v z (Wide w) prices e reduced h = inr (inl (level_wide r Bulk p.bulk l left c v z w prices.bulk_size e reduced h))
bulk_wide r p l left c v z Memory prices e reduced h = tt

pub fine_wide : (r : ℕ) (p : PriceRows) (l : ℕ) (left : Line) (c : Column) (v : ℕ → ℤ) (z : ℤ) (fault : RowFault) → ArePrices r p → z ≡ dot r v (entry_of c)
    → IsReduced r (at left.entries) left.den v z → IsWideBy (IsWideAtLevel Fine p.fine l left c) fault → IsWideBy (IsWidePricePivot r p c v l) fault
fine_wide r p l left c v z (Wide w) prices e reduced h = inr (inr (level_wide r Fine p.fine l left c v z w prices.fine_size e reduced h))
fine_wide r p l left c v z Memory prices e reduced h = tt

-- ---- both levels
-- the prices that a pivot makes stand for the basis after it
pub prices_stand_after : (rows : List Line) (p new : PriceRows) (l : ℕ) (basis : Basis) (c : Column) → l < length rows → pos 0 <ℤ dot (length rows) (row_of rows l) (entry_of c)
    → ArePrices (length rows) new
    → PricesPivoted (length rows) (entries_of p.bulk) p.bulk.scale (entries_of new.bulk) new.bulk.scale (gap_at (length rows) p.bulk Bulk c) (row_of rows l) (dot (length rows) (row_of rows l) (entry_of c))
    → PricesPivoted (length rows) (entries_of p.fine) p.fine.scale (entries_of new.fine) new.fine.scale (gap_at (length rows) p.fine Fine c) (row_of rows l) (dot (length rows) (row_of rows l) (entry_of c))
    → RowsStand (length rows) basis rows → PricesStand (length rows) basis p → PricesStand (length rows) (after_pivot basis (l, c)) new
prices_stand_after rows p new l basis c inside above prices bulk fine h k =
    record {
      items = length-set basis l (Some c) ∙ k.items;
      prices = prices;
      bulk = prices_after (length rows) basis bulk_cost (entries_of p.bulk) (entries_of new.bulk) (row_of rows l) p.bulk.scale new.bulk.scale (den_of rows l) c l k.items inside k.bulk (h.give l inside) above bulk;
      bulk_coprime = bulk.coprime;
      fine = prices_after (length rows) basis fine_cost (entries_of p.fine) (entries_of new.fine) (row_of rows l) p.fine.scale new.fine.scale (den_of rows l) c l k.items inside k.fine (h.give l inside) above fine;
      fine_coprime = fine.coprime;
    }

-- ---- the prices of the units
-- bulk prices -1 and fine prices 0, over 1, stand for the basis of the unit columns
pub unit_prices_stand : (r : ℕ) (p : PriceRows) → ArePrices r p → ((k : ℕ) → k < r → entries_of p.bulk k ≡ negsuc 0) → p.bulk.scale ≡ pos 1
    → ((k : ℕ) → k < r → entries_of p.fine k ≡ pos 0) → p.fine.scale ≡ pos 1 → PricesStand r (unit_basis r) p
unit_prices_stand r p prices bulk bulk_one fine fine_one =
    record {
      items = length-replicate r None;
      prices = prices;
      bulk =
          record {
            positive = prices.bulk_scale;
            product = λ j m.
                dot-columns-units r j (entries_of p.bulk) m ∙ bulk j m ∙ ap (λ o. pos 1 *ℤ bulk_cost o) (sym (item-units r j m))
                ∙ ap (λ (d : ℤ). d *ℤ bulk_costs (unit_basis r) j) (sym bulk_one);
          };
      bulk_coprime = over_one r (entries_of p.bulk) p.bulk.scale bulk_one;
      fine =
          record {
            positive = prices.fine_scale;
            product = λ j m.
                dot-columns-units r j (entries_of p.fine) m ∙ fine j m ∙ ap (λ o. pos 1 *ℤ fine_cost o) (sym (item-units r j m))
                ∙ ap (λ (d : ℤ). d *ℤ fine_costs (unit_basis r) j) (sym fine_one);
          };
      fine_coprime = over_one r (entries_of p.fine) p.fine.scale fine_one;
    }
