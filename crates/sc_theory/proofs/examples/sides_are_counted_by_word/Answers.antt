use Rattle.std.proofs.Common.{◌≡◌, ℕ, arith, lit<}
use Rattle.sc_theory.proofs.examples.sides_are_counted_by_word.Goals as goal

pub returns-clause-refused : goal.returns-clause-refused
returns-clause-refused c is = let twice : ◌≡◌ {A = ℕ} 2 1 = is.counts 0 (lit< tt) in absurd (omega arith)
