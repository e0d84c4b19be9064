use Rattle.std.proofs.Common.{ap, take, ◌∙◌}
use Rattle.sc_theory.specs.Words.{delete_leftmost}
use Rattle.sc_theory.proofs.Reduction.{delete_leftmost-free_reduction}
use Rattle.sc_reduce.proofs.Stack.{free_reduction_more}
use Rattle.sc_reduce.proofs.free.free_reduce.Goals as goal

pub push_letter-requires : goal.push_letter-requires
push_letter-requires c =
    ap delete_leftmost c.loop-letter.invariant ∙ delete_leftmost-free_reduction (take c.loop-letter.letter-index c.as_slice-letter-items.result.now)

pub loop-letter-preserved : goal.loop-letter-preserved
loop-letter-preserved c =
    free_reduction_more c.as_slice-letter-items.result.now c.loop-letter.letter-index _ c.loop-letter.stack.items c.push_letter.new.stack.items c.loop-letter-test.true c.loop-letter.invariant c.in_ok-push_letter.ensures
