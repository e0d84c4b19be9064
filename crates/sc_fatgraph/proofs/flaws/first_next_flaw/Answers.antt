use Rattle.std.proofs.Common.{arith}
use Rattle.sc_fatgraph.proofs.NextMarks.{nexts_grow}
use Rattle.sc_fatgraph.proofs.flaws.first_next_flaw.Goals as goal

pub loop-s-preserved : goal.loop-s-preserved
loop-s-preserved c =
    nexts_grow c.args.sides.now c.loop-s.marks c.loop-s.s (c.requires.nexts c.loop-s.s c.loop-s-test.true) c.loop-s.invariant c.if-marks-next.false

pub returns : goal.returns
returns c = λ p flaw. c.loop-s.invariant.flawless p (omega (arith, flaw.0, c.loop-s-test.false)) flaw
