-- What leads from the answer of the simplex to a solution.
use Rattle.std.specs.Prelude.{ℕ, ◌<◌}
use Rattle.sc_assembly.specs.declared.counting.PartsFault.{PartsFault}
use Rattle.sc_assembly.specs.declared.counting.PartsFault.TheVariants as parts_faults

-- the place that is told is one of n
abbrev pub IsWithin : ℕ → PartsFault → Type 0
IsWithin n (parts_faults.Sides part so_far next) = part < n
IsWithin n parts_faults.Memory = Unit {0}
