-- Numbers below a bound whose kinds are matched in their order.
use Rattle.std.specs.Prelude.{◌≡◌, ℕ, ◌<◌, ◌≤◌, ◌==◌, List, length, get_or}
use Rattle.sc_algebra.specs.Sums.{count_below}

-- how many of the first s entries are k
abbrev pub so_far : List ℕ → ℕ → ℕ → ℕ
so_far xs k s = count_below (λ t. get_or xs t 0 == k) s

-- for each place the partner is the place whose kind is the opposite of its own, with as many of that kind before it as
-- there are places with the same opposite before the first
pub record ArePartners (kinds opposites partners : List ℕ) : Type 0 where
  pub as_many : length partners ≡ length kinds
  pub inside : (s : ℕ) → s < length kinds → get_or partners s 0 < length kinds
  pub opposite : (s : ℕ) → s < length kinds → get_or kinds (get_or partners s 0) 0 ≡ get_or opposites s 0
  pub in_order : (s : ℕ) → s < length kinds → so_far kinds (get_or opposites s 0) (get_or partners s 0) ≡ so_far opposites (get_or opposites s 0) s

-- as many opposite kinds as kinds: there are enough of each for the places that ask for it
pub record AreMatchable (kinds opposites : List ℕ) (bound : ℕ) : Type 0 where
  pub as_many : length opposites ≡ length kinds
  pub kinds_below : (s : ℕ) → s < length kinds → get_or kinds s 0 < bound
  pub opposites_below : (s : ℕ) → s < length kinds → get_or opposites s 0 < bound
  pub enough : (s : ℕ) → s < length kinds → so_far opposites (get_or opposites s 0) s < so_far kinds (get_or opposites s 0) (length kinds)

-- ---- what is known on the way

-- the first place of kind k from s on, or the end
pub record IsNext (kinds : List ℕ) (k s t : ℕ) : Type 0 where
  pub from : s ≤ t
  pub until : t ≤ length kinds
  pub none_between : so_far kinds k t ≡ so_far kinds k s
  pub kind : t < length kinds → get_or kinds t 0 ≡ k
