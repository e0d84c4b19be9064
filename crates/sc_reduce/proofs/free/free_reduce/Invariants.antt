use Rattle.std.proofs.Common.{◌≡◌, take}
use Rattle.sc_theory.specs.Words.{free_reduction}
use Rattle.sc_reduce.proofs.free.free_reduce.Given as goal

-- the stack is the free reduction of the letters so far
abbrev pub invariant-loop-letter : goal.invariant-loop-letter
invariant-loop-letter l = l.stack.items ≡ free_reduction (take l.letter-index l.letter-items)
