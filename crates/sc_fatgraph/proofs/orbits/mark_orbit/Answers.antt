use Rattle.sc_fatgraph.proofs.MarkWalks.{walk_goes_on}
use Rattle.sc_fatgraph.proofs.orbits.mark_orbit.Goals as goal

pub loop-marks-preserved : goal.loop-marks-preserved
loop-marks-preserved c =
    walk_goes_on c.args.sides.now c.args.marks.now c.args.start c.loop-marks.marks c.loop-marks.side c.requires.ribbon c.loop-marks.invariant
