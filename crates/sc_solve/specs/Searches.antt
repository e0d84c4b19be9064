-- What the prices of steps and the totals of walks show that don't fit, for given prices of a basis.
use Rattle.std.specs.Prelude.{◌≡◌, ◌⊎◌, ℕ, ◌<◌, List, length, Some, None, pos}
use Rattle.std.specs.Option.{option_map}
use Rattle.std.specs.Vec.{vec_items}
use Rattle.sc_theory.specs.Chains.{Chain, succ}
use Rattle.sc_theory.specs.Walks.{IsStep}
use Rattle.sc_theory.specs.Prices.{pairs, pair_price, base_price}
use Rattle.sc_weight.specs.declared.level.Level.{Level}
use Rattle.sc_whole.specs.declared.checked.Op.TheVariants.{Add, Sub}
use Rattle.sc_rows.specs.Standing.{entries_of}
use Rattle.sc_rows.specs.Places.{spot, IsWide}
use Rattle.sc_rows.specs.declared.fault.Place.TheVariants.{TurnPrice, StepPrice, WalkSum}
use Rattle.sc_rows.specs.declared.fault.WideAt.{WideAt}
use Rattle.sc_rows.specs.declared.prices.PriceRows.{PriceRows}
use Rattle.sc_tables.specs.CheapPolygons.{IsWideWalk}
use Rattle.sc_solve.specs.PriceLevels.{row_at, list_at, price_levels}

-- 0 minus the price of a pair
pub record IsWideTurn (c : Chain) (p : PriceRows) (w : WideAt) : Type 0 where
  pub level : Level
  pub row : ℕ
  pub inside : row < length (pairs c)
  pub wide : IsWide (spot (TurnPrice level) row 0 None) Sub (pos 0) (entries_of (row_at p level) row) w

-- the price of a step: that of the pair of the next position and its end, plus the base price of the end
pub record IsWideStep (c : Chain) (p : PriceRows) (w : WideAt) : Type 0 where
  pub level : Level
  pub from : ℕ
  pub to : ℕ
  pub step : IsStep c from to
  pub wide : IsWide (spot (StepPrice level) from to None) Add (pair_price c (list_at c p level) (succ c from) to) (base_price c (list_at c p level) to) w

-- the total of a walk, by its last step; the walk is told
pub record IsWideTotal (c : Chain) (p : PriceRows) (w : WideAt) : Type 0 where
  pub level : Level
  pub walk : List ℕ
  pub told : option_map vec_items w.walk ≡ Some walk
  pub place : w.place ≡ WalkSum level
  pub first : w.first ≡ 0
  pub second : w.second ≡ 0
  pub entering : w.entering ≡ None
  pub leaving : w.leaving ≡ None
  pub wide : IsWideWalk c (price_levels c p) walk level w.wide

-- the price of a step from the prices of rows
abbrev pub IsWidePrice : Chain → PriceRows → WideAt → Type 0
IsWidePrice c p w = IsWideTurn c p w ⊎ IsWideStep c p w

-- what a search for cheap polygons may meet
abbrev pub IsWideSearch : Chain → PriceRows → WideAt → Type 0
IsWideSearch c p w = IsWidePrice c p w ⊎ IsWideTotal c p w
