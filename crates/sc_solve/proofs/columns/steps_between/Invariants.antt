use Rattle.std.proofs.Common.{◌≡◌, ◌≤◌, drop, pos, ◌+ℤ◌}
use Rattle.sc_theory.specs.Walks.{total_back}
use Rattle.sc_solve.specs.inside.StepCounts.{step_between}
use Rattle.sc_solve.proofs.columns.steps_between.Given as goal

abbrev pub invariant-loop-next : goal.invariant-loop-next
invariant-loop-next l = record {
  few : l.count ≤ l.next-index;
  total : pos l.count +ℤ total_back (step_between l.from l.to) l.first l.here (drop l.next-index l.rest) ≡ total_back (step_between l.from l.to) l.first l.first l.rest;
}
