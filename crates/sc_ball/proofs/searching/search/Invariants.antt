use Rattle.std.proofs.Common.{◌+◌, ◌-◌, ◌*◌, ◌<◌, length}
use Rattle.sc_ball.specs.inside.Searched.{IsSearchedTo}
use Rattle.sc_ball.specs.inside.Halves.{most_entries}
use Rattle.sc_ball.proofs.searching.search.Given as goal

abbrev pub invariant-loop-place : goal.invariant-loop-place
invariant-loop-place l = record {
  searched : IsSearchedTo l.quadrant l.first l.second l.entries.items (l.place + 1);
  inside : l.place < length l.entries.items;
}

-- each step has an entry more or goes on by one, and there are no more entries than that
abbrev pub decreases-loop-place : goal.decreases-loop-place
decreases-loop-place l = 2 * most_entries - (length l.entries.items + l.place)
