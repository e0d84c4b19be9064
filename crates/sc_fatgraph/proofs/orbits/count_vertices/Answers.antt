use Rattle.std.proofs.Common.{arith}
use Rattle.sc_fatgraph.proofs.MarkedOrbits.{count_stays, count_grows}
use Rattle.sc_fatgraph.proofs.orbits.count_vertices.Goals as goal
use Rattle.sc_fatgraph.proofs.orbits.count_vertices.Goals.{then-not-marks-start, else-not-marks-start}

pub overflow_add-vertices : goal.overflow_add-vertices
overflow_add-vertices c = omega (arith, c.loop-start.invariant.few, c.requires.few)

pub loop-start-preserved : goal.loop-start-preserved
loop-start-preserved c =
    let g = c.args.sides.now in
    let before = c.loop-start.invariant in
    elim c.if-not-marks-start.branch [
      | then-not-marks-start w ↦
          let walked = w.mark_orbit.ensures in
          rw (w.marks-is, w.vertices-is)
          (count_grows g c.loop-start.marks w.mark_orbit.new.marks c.loop-start.start c.loop-start.vertices c.requires.ribbon c.loop-start-test.true before w.if-not-marks-start.true w.mark_orbit.auto.marks walked.still_closed walked.marked walked.kept walked.in_orbit)
      | else-not-marks-start w ↦
          rw (w.marks-is, w.vertices-is)
          (count_stays g c.loop-start.marks c.loop-start.start c.loop-start.vertices c.requires.ribbon c.loop-start-test.true before w.if-not-marks-start.false)
    ]
