-- Where the sides of a surface stand in its drawing: vertex by vertex along a line.
use Rattle.std.specs.Prelude.{◌≡◌, ℕ, zero, suc, ◌+◌, ◌*◌, ◌<◌, Bool, true, ◌&&◌, not, ◌==◌, List, [], ◌∷◌, length}
use Rattle.std.specs.Fn.{iterate}
use Rattle.std.specs.List.{flat_map}
use Rattle.sc_algebra.specs.Sums.{count_below}
use Rattle.sc_algebra.specs.Permutations.{is_least_for}
use Rattle.sc_shape.specs.Shapes.{list_below}

-- whether none of the first k iterates after s is s: t s, t (t s), ..
abbrev pub is_apart : (ℕ → ℕ) → ℕ → ℕ → Bool
is_apart t zero s = true
is_apart t (suc k) s = is_apart t k s && not (iterate t (suc k) s == s)

-- how many numbers the orbit of s has: how many steps can be made from s without coming back, to none of them being one
abbrev pub orbit_size : (ℕ → ℕ) → ℕ → ℕ → ℕ
orbit_size t n s = count_below (λ k. is_apart t k s) n

-- s, t s, t (t s), .., k of them
abbrev pub sides_along : (ℕ → ℕ) → ℕ → ℕ → List ℕ
sides_along t zero s = []
sides_along t (suc k) s = s ∷ sides_along t k (t s)

-- the sides of the orbits whose least side is below r, orbit by orbit, each from its least side
abbrev pub order_below : (ℕ → ℕ) → ℕ → ℕ → List ℕ
order_below t n r = flat_map (λ q. sides_along t (orbit_size t n q) q) (list_below (is_least_for t n) r)

-- the x of each side: the side number k in the order, lying in the orbit number o, stands at 20 (k + 1 + o)
abbrev pub AreLaidOut : (ℕ → ℕ) → ℕ → (ℕ → ℕ) → Type 0
AreLaidOut t n x = (r i : ℕ) → r < n → is_least_for t n r ≡ true → i < orbit_size t n r →
    x (iterate t i r) ≡ 20 * (length (order_below t n r) + i + 1 + count_below (is_least_for t n) r)
