-- New rows and new prices by the rule with a ratio in lowest terms.
use Rattle.std.specs.Prelude.{◌⊎◌, ℕ, ◌<◌, Some, ℤ, ◌+ℤ◌, ◌-ℤ◌, ◌*ℤ◌}
use Rattle.sc_whole.specs.declared.checked.Op.{Op}
use Rattle.sc_whole.specs.declared.checked.Op.TheVariants.{Add, Sub, Mul}
use Rattle.sc_basis.specs.Rules.{IsLowest}
use Rattle.sc_rows.specs.Places.{spot, IsWide}
use Rattle.sc_rows.specs.declared.fault.Place.TheVariants.{RowLeft, RowRight, RowMinus, RowScale, PriceLeft, PriceRight, PriceAdd, PriceScale}
use Rattle.sc_rows.specs.declared.fault.WideAt.{WideAt}
use Rattle.sc_rows.specs.declared.spot.Spot.{Spot}
use Rattle.sc_rows.specs.declared.update.Update.{Update}
use Rattle.sc_rows.specs.declared.update.Update.TheVariants.{Row, Prices}

-- the leaving row is taken away from a row, and added to prices
abbrev pub join_op : Update → Op
join_op (Row i l) = Sub
join_op (Prices level l) = Add

abbrev pub joined : Update → ℤ → ℤ → ℤ
joined (Row i l) x y = x -ℤ y
joined (Prices level l) x y = x +ℤ y

-- ---- the operations at the entry k, and at the scale

abbrev pub left_spot : Update → ℕ → Spot
left_spot (Row i l) k = spot RowLeft i k (Some l)
left_spot (Prices level l) k = spot (PriceLeft level) k 0 (Some l)

abbrev pub right_spot : Update → ℕ → Spot
right_spot (Row i l) k = spot RowRight i k (Some l)
right_spot (Prices level l) k = spot (PriceRight level) k 0 (Some l)

abbrev pub join_spot : Update → ℕ → Spot
join_spot (Row i l) k = spot RowMinus i k (Some l)
join_spot (Prices level l) k = spot (PriceAdd level) k 0 (Some l)

abbrev pub scale_spot : Update → Spot
scale_spot (Row i l) = spot RowScale i 0 (Some l)
scale_spot (Prices level l) = spot (PriceScale level) 0 0 (Some l)

-- ---- what comes of it

-- at the entry k one of three operations is too wide
abbrev pub IsWideEntry : Update → ℕ → ℤ → ℤ → ℤ → ℤ → WideAt → Type 0
IsWideEntry u k x t p q w =
    IsWide (left_spot u k) Mul x p w ⊎ IsWide (right_spot u k) Mul q t w ⊎ IsWide (join_spot u k) (join_op u) (x *ℤ p) (q *ℤ t) w

pub record IsWideUpdate (u : Update) (n : ℕ) (x : ℕ → ℤ) (d : ℤ) (t : ℕ → ℤ) (m a : ℤ) (w : WideAt) : Type 0 where
  pub p : ℤ
  pub q : ℤ
  pub ratio : IsLowest m a p q
  pub wide : ((k : ℕ) × (k < n) × IsWideEntry u k (x k) (t k) p q w) ⊎ IsWide (scale_spot u) Mul d p w
