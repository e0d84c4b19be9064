-- Said by private functions alone: multiples of the values of parts that are whole numbers.
use Rattle.std.specs.Prelude.{ℕ, ◌^◌, ◌<◌, pos}
use Rattle.sc_fraction.specs.declared.frac.Frac.{Frac}
use Rattle.sc_assembly.specs.Multiples.{IsTimes}

-- n times the fraction is a number that fits 32 bits
abbrev pub IsCountable : ℕ → Frac → Type 0
IsCountable n v = (m : ℕ) × (m < 2 ^ 32) × IsTimes n v (pos m)
