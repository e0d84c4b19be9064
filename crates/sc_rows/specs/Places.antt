-- Where an operation stands, and a result there that is outside 128 bits.
use Rattle.std.specs.Prelude.{◌≡◌, ◌⊎◌, ℕ, ◌<◌, Option, None, ℤ, ◌*ℤ◌}
use Rattle.sc_whole.specs.Operation.{step, StepFits}
use Rattle.sc_whole.specs.declared.checked.Op.{Op}
use Rattle.sc_whole.specs.declared.checked.Op.TheVariants.{Add, Mul}
use Rattle.sc_whole.specs.declared.checked.Wide.{Wide as Operation}
use Rattle.sc_basis.specs.Products.{before}
use Rattle.sc_rows.specs.declared.fault.Place.{Place}
use Rattle.sc_rows.specs.declared.fault.Place.TheVariants.{AlongMul, AlongAdd, ValueMul, ValueAdd, GapMul, GapAdd}
use Rattle.sc_rows.specs.declared.fault.WideAt.{WideAt}
use Rattle.sc_rows.specs.declared.fault.RowFault.{RowFault}
use Rattle.sc_rows.specs.declared.fault.RowFault.TheVariants.{Wide, Memory}
use Rattle.sc_rows.specs.declared.spot.Spot.{Spot}
use Rattle.sc_rows.specs.declared.product.Product.{Product}
use Rattle.sc_rows.specs.declared.product.Product.TheVariants.{Along, Value, Gap}

abbrev pub spot : Place → ℕ → ℕ → Option ℕ → Spot
spot place first second leaving = record { place = place; first = first; second = second; leaving = leaving }

-- the refusal of an operation at a spot: no walk and no entering column are told
abbrev pub wide_at : Spot → Operation → WideAt
wide_at s wide =
    record {
      place = s.place;
      first = s.first;
      second = s.second;
      wide = wide;
      walk = None;
      entering = None;
      leaving = s.leaving;
    }

-- w is the refusal of this operation, whose exact result is outside 128 bits
abbrev pub IsWide : Spot → Op → ℤ → ℤ → WideAt → Type 0
IsWide s op x y w = (w ≡ wide_at s (step op x y)) × ¬ StepFits (step op x y)

-- where it isn't want of memory, the refusal is one of these
abbrev pub IsWideBy : (WideAt → Type 0) → RowFault → Type 0
IsWideBy P (Wide w) = P w
IsWideBy P Memory = Unit {0}

-- ---- products of lists
-- the operations at the index k of a product
abbrev pub mul_spot : Product → ℕ → Spot
mul_spot (Along i) k = spot AlongMul i k None
mul_spot (Value i) k = spot ValueMul i k None
mul_spot (Gap level) k = spot (GapMul level) k 0 None

abbrev pub add_spot : Product → ℕ → Spot
add_spot (Along i) k = spot AlongAdd i k None
add_spot (Value i) k = spot ValueAdd i k None
add_spot (Gap level) k = spot (GapAdd level) k 0 None

-- at the index k the product of x and y is too wide, or the sum before it plus that product
abbrev pub IsWideTerm : Product → ℕ → ℤ → ℤ → ℤ → WideAt → Type 0
IsWideTerm product k sum x y w = IsWide (mul_spot product k) Mul x y w ⊎ IsWide (add_spot product k) Add sum (x *ℤ y) w

-- at one of the n indices
abbrev pub IsWideProduct : Product → ℕ → (ℕ → ℤ) → (ℕ → ℤ) → WideAt → Type 0
IsWideProduct product n v c w = (k : ℕ) × (k < n) × IsWideTerm product k (before v c k) (v k) (c k) w
