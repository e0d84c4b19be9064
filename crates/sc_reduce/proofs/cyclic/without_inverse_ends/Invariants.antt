use Rattle.std.proofs.Common.{◌≡◌, None, length, ◌≤◌}
use Rattle.sc_theory.specs.Words.{delete_leftmost, cyclic_reduction}
use Rattle.sc_reduce.proofs.cyclic.without_inverse_ends.Given as goal

-- the rest allows no free deletion, and its reduction is that of the whole
abbrev pub invariant-loop-rest : goal.invariant-loop-rest
invariant-loop-rest l =
    record {
      free : delete_leftmost l.rest ≡ None;
      same : cyclic_reduction l.rest ≡ cyclic_reduction l.letters;
      short : length l.rest ≤ length l.letters;
    }

abbrev pub decreases-loop-rest : goal.decreases-loop-rest
decreases-loop-rest l = length l.rest
