-- The prices of a basis at two levels, as prices of the steps of a chain.
use Rattle.std.specs.Prelude.{◌≡◌, ℕ, ◌<◌, map, length, ℤ, pos, ◌+ℤ◌, ◌*ℤ◌}
use Rattle.std.specs.List.{range_with_len}
use Rattle.sc_theory.specs.Chains.{Chain}
use Rattle.sc_theory.specs.Prices.{Prices, pairs, price}
use Rattle.sc_weight.specs.Levels.{Levels}
use Rattle.sc_weight.specs.declared.level.Level.{Level}
use Rattle.sc_weight.specs.declared.level.Level.TheVariants.{Bulk, Fine}
use Rattle.sc_rows.specs.Standing.{entries_of}
use Rattle.sc_rows.specs.declared.prices.PriceRow.{PriceRow}
use Rattle.sc_rows.specs.declared.prices.PriceRows.{PriceRows}

-- a number for each row over a scale, as a price list: the rows of the pairs come first, and after them those of the
-- words
abbrev pub list_by : Chain → (ℕ → ℤ) → ℤ → Prices
list_by c v scale =
    record {
      scale = scale;
      base = map v (range_with_len (length (pairs c)) (length c));
      pair = map v (range_with_len 0 (length (pairs c)));
    }

-- the prices of a level
abbrev pub row_at : PriceRows → Level → PriceRow
row_at p Bulk = p.bulk
row_at p Fine = p.fine

abbrev pub list_at : Chain → PriceRows → Level → Prices
list_at c p level = list_by c (entries_of (row_at p level)) (row_at p level).scale

-- the price of the step from i to j at both levels
abbrev pub price_levels : Chain → PriceRows → ℕ → ℕ → Levels
price_levels c p i j = record { bulk = price c (list_at c p Bulk) i j; fine = price c (list_at c p Fine) i j }

-- 0 in bulk, and the fine scale: what each closed walk costs at least where the basis is optimal
abbrev pub threshold_of : PriceRows → Levels
threshold_of p = record { bulk = pos 0; fine = p.fine.scale }

-- the bulk price of each row is 0
abbrev pub HaveNoBulk : ℕ → PriceRows → Type 0
HaveNoBulk r p = (k : ℕ) → k < r → entries_of p.bulk k ≡ pos 0

-- a fine price plus so many times the bulk price, for each row, and their list over the fine scale
abbrev pub lifted_price : PriceRows → ℤ → ℕ → ℤ
lifted_price p factor k = entries_of p.fine k +ℤ factor *ℤ entries_of p.bulk k

abbrev pub lifted_list : Chain → PriceRows → ℤ → Prices
lifted_list c p factor = list_by c (lifted_price p factor) p.fine.scale
