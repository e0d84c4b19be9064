use Rattle.std.proofs.Common.{sym, arith}
use Rattle.sc_chain.proofs.Marks.{no_marks, mark_next, repeats, none_repeats}
use Rattle.sc_chain.proofs.polygon.is_simple.Goals as goal

pub loop-position-init : goal.loop-position-init
loop-position-init c = no_marks c.args.walk.now

pub returns-then-seen-position : goal.returns-then-seen-position
returns-then-seen-position c =
    sym (repeats c.args.walk.now c.loop-position.position-index c.loop-position.seen c.loop-position.invariant c.loop-position-test.true c.if-seen-position.true)

pub loop-position-preserved : goal.loop-position-preserved
loop-position-preserved c =
    mark_next c.args.walk.now c.loop-position.position-index c.loop-position.seen c.loop-position.invariant
    (c.requires c.loop-position.position-index c.loop-position-test.true) c.if-seen-position.false

pub returns : goal.returns
returns c =
    sym (none_repeats c.args.walk.now c.loop-position.position-index c.loop-position.seen c.loop-position.invariant (omega (arith, c.loop-position-test.false)))
