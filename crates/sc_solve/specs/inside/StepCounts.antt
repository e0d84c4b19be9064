-- Steps of a closed walk between two positions, counted.
use Rattle.std.specs.Prelude.{ℕ, ◌==◌, ◌&&◌, if◌then◌else◌, ℤ, pos}

-- 1 at the step from i to j, 0 at the others
abbrev pub step_between : ℕ → ℕ → ℕ → ℕ → ℤ
step_between i j a b = if (a == i) && (b == j) then pos 1 else pos 0
