-- Lists of whole numbers as functions from the index, and their products.
use Rattle.std.specs.Prelude.{◌≡◌, ℕ, ◌<◌, ◌==◌, if◌then◌else◌, List, get_or, ℤ, pos, ◌*ℤ◌, ◌≤ℤ◌, ◌<ℤ◌, unsigned_abs}
use Rattle.std.specs.Int.{◌∣◌}
use Rattle.sc_algebra.specs.Sums.{sum_below}

-- the entry k of a list of numbers
abbrev pub at : List ℤ → ℕ → ℤ
at xs k = get_or xs k (pos 0)

-- x 0 * y 0 + .. + x (r - 1) * y (r - 1)
abbrev pub dot : ℕ → (ℕ → ℤ) → (ℕ → ℤ) → ℤ
dot r x y = sum_below (λ k. x k *ℤ y k) r

-- the part of a product that is summed before the index k
abbrev pub before : (ℕ → ℤ) → (ℕ → ℤ) → ℕ → ℤ
before x y k = dot k x y

-- 1 at i and 0 elsewhere
abbrev pub unit : ℕ → ℕ → ℤ
unit i k = if k == i then pos 1 else pos 0

-- none of x is negative
abbrev pub IsNonNegative : ℕ → (ℕ → ℤ) → Type 0
IsNonNegative r x = (k : ℕ) → k < r → pos 0 ≤ℤ x k

-- 1 is the one common divisor of v and d
abbrev pub IsCoprime : ℕ → (ℕ → ℤ) → ℤ → Type 0
IsCoprime r v d = (g : ℕ) → g ∣ unsigned_abs d → ((k : ℕ) → k < r → g ∣ unsigned_abs (v k)) → g ≡ 1

-- v over d is w over e with a common divisor of all of w and e taken out, so that none is left
pub record IsReduced (r : ℕ) (v : ℕ → ℤ) (d : ℤ) (w : ℕ → ℤ) (e : ℤ) : Type 0 where
  pub factor : ℤ
  pub positive : pos 0 <ℤ factor
  pub entries : (k : ℕ) → k < r → factor *ℤ v k ≡ w k
  pub scale : factor *ℤ d ≡ e
  pub coprime : IsCoprime r v d
