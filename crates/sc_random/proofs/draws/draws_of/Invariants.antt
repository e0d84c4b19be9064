use Rattle.std.proofs.Common.{◌≡◌, ◌++◌, ◌-◌}
use Rattle.rand_core.specs.Steps.{first_words}
use Rattle.rand_pcg.specs.Pcg.{pcg32}
use Rattle.sc_random.specs.Drawn.{draws_of}
use Rattle.sc_random.proofs.draws.draws_of.Given as goal

abbrev pub invariant-loop-turn : goal.invariant-loop-turn
invariant-loop-turn l = l.draws.items ++ first_words pcg32 (l.count - l._turn) l.generator ≡ draws_of l.seed l.count
