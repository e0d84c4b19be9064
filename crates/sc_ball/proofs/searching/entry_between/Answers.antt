use Rattle.std.proofs.Common.{◌≡◌, true, false, refl}
use Rattle.sc_crossing.specs.Neighbours.{reached_of}
use Rattle.sc_ball.proofs.SearchLaws.{open_unless}
use Rattle.sc_ball.proofs.searching.entry_between.Goals as goal

pub returns-then-are_closed-clause-entry : goal.returns-then-are_closed-clause-entry
returns-then-are_closed-clause-entry c = (c.if-are_closed.ensures c.args.quadrant c.requires.from c.requires.to).0 refl

pub next_entry-requires-clause-gap : goal.next_entry-requires-clause-gap
next_entry-requires-clause-gap c =
    c.requires.gap
    (open_unless c.args.quadrant c.args.first.now c.args.second.now (reached_of c.args.from.now.reached) (reached_of c.args.to.now.reached)
    (λ closed. let e : false ≡ true = (c.if-are_closed.ensures c.args.quadrant c.requires.from c.requires.to).1 closed in cc))

pub returns-clause-entry : goal.returns-clause-entry
returns-clause-entry c = (
  open_unless c.args.quadrant c.args.first.now c.args.second.now (reached_of c.args.from.now.reached) (reached_of c.args.to.now.reached)
      (λ closed. let e : false ≡ true = (c.if-are_closed.ensures c.args.quadrant c.requires.from c.requires.to).1 closed in cc),
  c.in_ok-entry.ensures.direction,
  c.in_ok-entry.ensures.solved,
)
