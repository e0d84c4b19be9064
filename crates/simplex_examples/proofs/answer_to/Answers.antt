use Rattle.std.proofs.Common.{List, length, ℤ, sym, subst}
use Rattle.sc_basis.specs.Products.{at, IsNonNegative}
use Rattle.sc_simplex.specs.Optima.{IsSumOfColumns}
use Rattle.simplex_examples.specs.declared.problem.Problem.{Problem}
use Rattle.simplex_examples.specs.Problems.{IsListed}
use Rattle.simplex_examples.specs.ProblemLaws.{AreSound, sound_at}
use Rattle.simplex_examples.proofs.answer_to.Goals as goal

sound : (p : Problem) → AreSound p.rhs.now p.lengths.now p.listings.now p.shares
sound p = sound_at p.rhs.now p.lengths.now p.listings.now p.shares p.sound

pub solve-answer-requires-clause-not_negative : goal.solve-answer-requires-clause-not_negative
solve-answer-requires-clause-not_negative c =
    subst (λ (l : List ℤ). IsNonNegative (length l) (at l)) (sym c.in_ok-rhs.ensures.items) (sound c.args.problem.now).not_negative

pub solve-answer-requires-clause-feasible : goal.solve-answer-requires-clause-feasible
solve-answer-requires-clause-feasible c =
    subst (λ (l : List ℤ). IsSumOfColumns (IsListed c.new-oracle.result.problem.now.listings.now) (length l) (at l)) (sym c.in_ok-rhs.ensures.items)
    (subst (λ (p : Problem). IsSumOfColumns (IsListed p.listings.now) (length c.args.problem.now.rhs.now) (at c.args.problem.now.rhs.now)) (sym c.new-oracle.ensures) (sound c.args.problem.now).feasible)
