-- The lists that the seed surface is made with: the numbers of the letters at its sides, and their mates.
use Rattle.std.specs.Prelude.{ℕ, ◌+◌, ◌*◌, if◌then◌else◌}
use Rattle.sc_theory.specs.declared.Letter.{Letter}

-- the number of a letter
abbrev pub code : Letter → ℕ
code x = 2 * x.number + (if x.inverse then 1 else 0)
