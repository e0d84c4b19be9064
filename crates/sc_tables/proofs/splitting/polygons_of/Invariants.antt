use Rattle.std.proofs.Common.{drop}
use Rattle.sc_tables.proofs.SplitSteps.{IsSplitSoFar}
use Rattle.sc_tables.proofs.splitting.polygons_of.Given as goal

abbrev pub invariant-loop-position : goal.invariant-loop-position
invariant-loop-position l = IsSplitSoFar l.chain l.walk l.path.items (drop l.position-index l.walk) l.polygons.items
