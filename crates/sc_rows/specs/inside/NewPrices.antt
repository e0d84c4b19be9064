-- The new prices of a level, by the leaving row over its product.
use Rattle.std.specs.Prelude.{◌⊎◌, ℕ, length}
use Rattle.sc_weight.specs.declared.level.Level.{Level}
use Rattle.sc_basis.specs.Products.{at}
use Rattle.sc_basis.specs.Bases.{Column}
use Rattle.sc_rows.specs.Lines.{Line}
use Rattle.sc_rows.specs.Standing.{entries_of, gap_at}
use Rattle.sc_rows.specs.inside.Updates.{IsUpdated}
use Rattle.sc_rows.specs.Updates.{IsWideUpdate}
use Rattle.sc_rows.specs.Evidence.{IsWideGap}
use Rattle.sc_rows.specs.declared.fault.WideAt.{WideAt}
use Rattle.sc_rows.specs.declared.prices.PriceRow.{PriceRow}
use Rattle.sc_rows.specs.declared.update.Update.TheVariants.{Prices}

-- the prices new in place of p, where the row l leaves
abbrev pub IsNewPrices : Level → PriceRow → ℕ → Line → Column → PriceRow → Type 0
IsNewPrices level p l left c new =
    IsUpdated (Prices level l) (length p.entries.items) (entries_of p) p.scale (at left.entries) left.den (gap_at (length p.entries.items) p level c)
    (record { entries = new.entries.items; den = new.scale })

abbrev pub IsWideAtLevel : Level → PriceRow → ℕ → Line → Column → WideAt → Type 0
IsWideAtLevel level p l left c w =
    IsWideGap (length p.entries.items) p level c w
    ⊎ IsWideUpdate (Prices level l) (length p.entries.items) (entries_of p) p.scale (at left.entries) left.den (gap_at (length p.entries.items) p level c) w
