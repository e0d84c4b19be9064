use Rattle.std.proofs.Common.{List, sym, subst, ◌∙◌}
use Rattle.sc_ball.specs.declared.solved.Solved.{Solved}
use Rattle.sc_ball.specs.inside.Searched.{IsSearchedTo}
use Rattle.sc_ball.proofs.SearchLaws.{searched_ends}
use Rattle.sc_ball.proofs.searching.ends.Goals as goal

pub returns-clause-searched : goal.returns-clause-searched
returns-clause-searched c =
    subst (λ (entries : List Solved). IsSearchedTo c.args.quadrant c.args.first.now c.args.second.now entries 1) (sym c.in_ok-entries.ensures)
    (searched_ends c.args.quadrant c.args.first.now c.args.second.now c.in_ok-one.one c.in_ok-other.other (c.in_ok-one.ensures.direction ∙ c.first_end-from.ensures) (c.in_ok-other.ensures.direction ∙ c.last_end-to.ensures) c.in_ok-one.ensures.solved c.in_ok-other.ensures.solved)
