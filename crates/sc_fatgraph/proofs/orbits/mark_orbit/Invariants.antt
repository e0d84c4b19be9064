use Rattle.std.proofs.Common.{not}
use Rattle.std.specs.List.{count_by}
use Rattle.sc_fatgraph.proofs.MarkWalks.{WalksOn}
use Rattle.sc_fatgraph.proofs.orbits.mark_orbit.Given as goal

abbrev pub invariant-loop-marks : goal.invariant-loop-marks
invariant-loop-marks l = WalksOn l.sides l.initial.marks l.start l.marks l.side

abbrev pub decreases-loop-marks : goal.decreases-loop-marks
decreases-loop-marks l = count_by not l.marks
