-- The lift: the prices of a basis at two levels as one price list.
use Rattle.std.specs.Prelude.{◌≡◌, ◌⊎◌, ℕ, ◌<◌, None, ℤ, pos, neg_ℤ, ◌+ℤ◌, ◌*ℤ◌, ◌≤ℤ◌, unsigned_abs}
use Rattle.sc_theory.specs.Chains.{Chain, positions}
use Rattle.sc_theory.specs.Walks.{IsStep}
use Rattle.sc_theory.specs.Prices.{Prices, price}
use Rattle.sc_theory.specs.Columns.{rows}
use Rattle.sc_weight.specs.declared.level.Level.TheVariants.{Fine}
use Rattle.sc_whole.specs.Operation.{step}
use Rattle.sc_whole.specs.declared.checked.Op.TheVariants.{Add, Sub, Mul, Size}
use Rattle.sc_text.specs.declared.limits.TheConstants.{MAX_PRICE}
use Rattle.sc_text.specs.PriceLines.{IsPriceInRange, IsScaleInRange}
use Rattle.sc_rows.specs.Standing.{entries_of}
use Rattle.sc_rows.specs.Places.{spot, wide_at, IsWide}
use Rattle.sc_rows.specs.declared.fault.Place.TheVariants.{LiftTurn, LiftMul, LiftAdd, LiftBulk, LiftSum, LiftSize}
use Rattle.sc_rows.specs.declared.fault.WideAt.{WideAt}
use Rattle.sc_rows.specs.declared.prices.PriceRows.{PriceRows}
use Rattle.sc_solve.specs.declared.lifting.LiftFault.{LiftFault}
use Rattle.sc_solve.specs.declared.lifting.LiftFault.TheVariants.{Wide, Memory}
use Rattle.sc_solve.specs.PriceLevels.{list_at, HaveNoBulk, lifted_list}
use Rattle.sc_solve.specs.Searches.{IsWidePrice}

-- the greatest size of the price of a step, and 0 where there is no step
pub record IsGreatestSize (c : Chain) (price : ℕ → ℕ → ℤ) (size : ℤ) : Type 0 where
  pub low : (i j : ℕ) → IsStep c i j → neg_ℤ size ≤ℤ price i j
  pub high : (i j : ℕ) → IsStep c i j → price i j ≤ℤ size
  pub reached : (size ≡ pos 0) ⊎ ((i : ℕ) × (j : ℕ) × IsStep c i j × (size ≡ pos (unsigned_abs (price i j))))

abbrev pub IsGreatestFine : Chain → PriceRows → ℤ → Type 0
IsGreatestFine c p size = IsGreatestSize c (price c (list_at c p Fine)) size

-- by what bulk prices are multiplied: the fine scale plus the positions times the greatest size of a fine step price
pub record IsFullFactor (c : Chain) (p : PriceRows) (factor : ℤ) : Type 0 where
  pub some_bulk : ¬ HaveNoBulk (rows c) p
  pub size : ℤ
  pub greatest : IsGreatestFine c p size
  pub factor_is : factor ≡ p.fine.scale +ℤ pos (positions c) *ℤ size

-- and 0 where all of them are 0
abbrev pub IsFactor : Chain → PriceRows → ℤ → Type 0
IsFactor c p factor = (HaveNoBulk (rows c) p × (factor ≡ pos 0)) ⊎ IsFullFactor c p factor

-- the list is the lift: each fine price plus the factor times the bulk price, over the fine scale
pub record IsLift (c : Chain) (p : PriceRows) (list : Prices) : Type 0 where
  pub factor : ℤ
  pub is_factor : IsFactor c p factor
  pub list_is : list ≡ lifted_list c p factor

-- ---- what doesn't fit

-- 0 minus the price of a step
pub record IsWideTurned (c : Chain) (price : ℕ → ℕ → ℤ) (w : WideAt) : Type 0 where
  pub from : ℕ
  pub to : ℕ
  pub is_step : IsStep c from to
  pub wide : IsWide (spot LiftTurn from to None) Sub (pos 0) (price from to) w

-- 0 minus the fine price of a step
pub record IsWideLiftTurn (c : Chain) (p : PriceRows) (w : WideAt) : Type 0 where
  pub some_bulk : ¬ HaveNoBulk (rows c) p
  pub turned : IsWideTurned c (price c (list_at c p Fine)) w

-- the positions times a size, or a scale plus that
abbrev pub IsWideSum : ℤ → ℕ → ℤ → WideAt → Type 0
IsWideSum scale count size w = IsWide (spot LiftMul 0 0 None) Mul (pos count) size w ⊎ IsWide (spot LiftAdd 0 0 None) Add scale (pos count *ℤ size) w

-- of the fine scale and the greatest size
pub record IsWideFactor (c : Chain) (p : PriceRows) (w : WideAt) : Type 0 where
  pub some_bulk : ¬ HaveNoBulk (rows c) p
  pub size : ℤ
  pub greatest : IsGreatestFine c p size
  pub wide : IsWideSum p.fine.scale (positions c) size w

-- 2^90: what lifted numbers are below in size
abbrev pub size_limit : ℤ
size_limit = MAX_PRICE +ℤ pos 1

-- the number of a row, or the scale under the number of rows, is too large
abbrev pub IsLargeAt : ℕ → ℤ → WideAt → Type 0
IsLargeAt k x w = w ≡ wide_at (spot LiftSize k 0 None) (step Size x size_limit)

-- the lifted price of a row: the product, the sum, or its size
abbrev pub IsWideNumber : ℕ → ℤ → ℤ → ℤ → WideAt → Type 0
IsWideNumber row fine factor bulk w =
    IsWide (spot LiftBulk row 0 None) Mul factor bulk w
    ⊎ IsWide (spot LiftSum row 0 None) Add fine (factor *ℤ bulk) w
    ⊎ (IsLargeAt row (fine +ℤ factor *ℤ bulk) w × ¬ IsPriceInRange (fine +ℤ factor *ℤ bulk))

abbrev pub IsWideRow : PriceRows → ℤ → ℕ → WideAt → Type 0
IsWideRow p factor row w = IsWideNumber row (entries_of p.fine row) factor (entries_of p.bulk row) w

pub record IsWideLifted (c : Chain) (p : PriceRows) (w : WideAt) : Type 0 where
  pub factor : ℤ
  pub is_factor : IsFactor c p factor
  pub row : ℕ
  pub inside : row < rows c
  pub wide : IsWideRow p factor row w

-- the size of the scale
abbrev pub IsLargeScale : Chain → PriceRows → WideAt → Type 0
IsLargeScale c p w = IsLargeAt (rows c) p.fine.scale w × ¬ IsScaleInRange p.fine.scale

-- in the factor, in a price, or in the scale
abbrev pub IsWideBefore : Chain → PriceRows → WideAt → Type 0
IsWideBefore c p w = IsWidePrice c p w ⊎ IsWideLiftTurn c p w ⊎ IsWideFactor c p w

abbrev pub IsWideLift : Chain → PriceRows → WideAt → Type 0
IsWideLift c p w = IsWideBefore c p w ⊎ IsWideLifted c p w ⊎ IsLargeScale c p w

abbrev pub IsLiftFault : Chain → PriceRows → LiftFault → Type 0
IsLiftFault c p (Wide w) = IsWideLift c p w
IsLiftFault c p Memory = Unit {0}
