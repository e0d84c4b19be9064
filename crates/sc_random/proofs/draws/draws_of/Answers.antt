use Rattle.sc_random.specs.Drawn.{draws_of}
use Rattle.sc_random.proofs.DrawnWords.{drawn_next, drawn_last}
use Rattle.sc_random.proofs.draws.draws_of.Goals as goal

pub loop-turn-preserved : goal.loop-turn-preserved
loop-turn-preserved c =
    rw c.in_ok-push.ensures.items
    (drawn_next c.loop-turn.generator c.next_word.new.self c.loop-turn.draws.items c.next_word.result c.args.count c.loop-turn._turn (draws_of c.args.seed c.args.count)
    c.loop-turn-test.true c.loop-turn.invariant c.next_word.ensures)

pub returns : goal.returns
returns c = drawn_last c.loop-turn.generator c.loop-turn.draws.items c.args.count c.loop-turn._turn (draws_of c.args.seed c.args.count) c.loop-turn-test.false c.loop-turn.invariant
