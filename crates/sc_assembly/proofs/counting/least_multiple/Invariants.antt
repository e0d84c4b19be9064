use Rattle.std.proofs.Common.{◌≤◌, take}
use Rattle.sc_assembly.specs.Multiples.{IsLeastCommon}
use Rattle.sc_assembly.proofs.counting.least_multiple.Given as goal

abbrev pub invariant-loop-i : goal.invariant-loop-i
invariant-loop-i l = record {
  common : IsLeastCommon (take l.i l.parts) l.so_far;
  within : l.so_far ≤ l.limit;
}
