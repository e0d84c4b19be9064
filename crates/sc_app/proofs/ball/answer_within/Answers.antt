use Rattle.std.proofs.Common.{ap, ◌∙◌, subst, sym}
use Rattle.sc_reduce.specs.Lines.{chain_of}
use Rattle.sc_text.specs.Surfaces.{IsChainInRange}
use Rattle.sc_app.proofs.Balls.{parts_in_range}
use Rattle.sc_app.proofs.ball.answer_within.Goals as goal

pub answer_chains-requires-clause-first_in_range : goal.answer_chains-requires-clause-first_in_range
answer_chains-requires-clause-first_in_range c =
    subst IsChainInRange (sym (c.in_ok-first.ensures ∙ ap chain_of c.split_at.ensures.front)) (parts_in_range c.args.lines.now c.args.count c.requires.ranges c.requires.within).0

pub answer_chains-requires-clause-second_in_range : goal.answer_chains-requires-clause-second_in_range
answer_chains-requires-clause-second_in_range c =
    subst IsChainInRange (sym (c.in_ok-second.ensures ∙ ap chain_of c.split_at.ensures.back)) (parts_in_range c.args.lines.now c.args.count c.requires.ranges c.requires.within).1
