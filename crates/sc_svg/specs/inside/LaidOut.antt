-- The lists of a layout.
use Rattle.std.specs.Prelude.{◌≡◌, ℕ, ◌+◌, ◌*◌, ◌<◌, ◌≢◌, ◌==◌, ◌++◌, true, List, length}
use Rattle.std.specs.Fn.{iterate}
use Rattle.std.specs.List.{count_by}
use Rattle.sc_algebra.specs.Sums.{count_below}
use Rattle.sc_algebra.specs.Permutations.{is_least_for}
use Rattle.sc_shape.specs.Classes.{entry}
use Rattle.sc_shape.specs.SideLists.{is_own}
use Rattle.sc_svg.specs.Layout.{orbit_size, order_below, sides_along}
use Rattle.sc_svg.specs.Drawings.{last_side}

-- the x of the i-th side of the orbit whose least side is r
abbrev pub x_in_orbit : (ℕ → ℕ) → ℕ → ℕ → ℕ → ℕ
x_in_orbit t n r i = 20 * (length (order_below t n r) + i + 1 + count_below (is_least_for t n) r)

-- the orbits whose least side is below r are laid out: the sides in order, the x of each, 0 at the others, and at the
-- least side of each orbit its last
pub record AreLaidBelow (t : ℕ → ℕ) (n r : ℕ) (order xs lasts : List ℕ) : Type 0 where
  pub as_many : length xs ≡ n
  pub as_many_lasts : length lasts ≡ n
  pub order_is : order ≡ order_below t n r
  pub room : count_by (λ x. x == 0) xs + length order ≡ n
  pub placed : (q i : ℕ) → q < r → is_least_for t n q ≡ true → i < orbit_size t n q → entry xs (iterate t i q) ≡ x_in_orbit t n q i
  pub free : (u : ℕ) → u < n → ((q i : ℕ) → q < r → iterate t i q ≢ u) → entry xs u ≡ 0
  pub lasts_are : (q : ℕ) → q < r → is_least_for t n q ≡ true → entry lasts q ≡ last_side t n q

-- the orbits before that of `start` are laid out, and no side of this one
pub record IsLaidTo (t : ℕ → ℕ) (n start : ℕ) (order xs : List ℕ) : Type 0 where
  pub as_many : length xs ≡ n
  pub order_is : order ≡ order_below t n start
  pub room : count_by (λ x. x == 0) xs + length order ≡ n
  pub free : (i : ℕ) → entry xs (iterate t i start) ≡ 0

-- an orbit is laid behind others, up to its last side
pub record LaysOrbit (t : ℕ → ℕ) (n start : ℕ) (order xs : List ℕ) (last : ℕ) (order' xs' : List ℕ) : Type 0 where
  pub order_is : order' ≡ order ++ sides_along t (orbit_size t n start) start
  pub room : count_by (λ x. x == 0) xs' + length order' ≡ n
  pub placed : (i : ℕ) → i < orbit_size t n start → entry xs' (iterate t i start) ≡ x_in_orbit t n start i
  pub others : (u : ℕ) → ((i : ℕ) → iterate t i start ≢ u) → entry xs' u ≡ entry xs u
  pub last_is : last ≡ last_side t n start

-- whether each number is the least one of its orbit
abbrev pub AreLeastOfOrbits : (ℕ → ℕ) → ℕ → List ℕ → Type 0
AreLeastOfOrbits t n least = (s : ℕ) → s < n → is_own least s ≡ is_least_for t n s
