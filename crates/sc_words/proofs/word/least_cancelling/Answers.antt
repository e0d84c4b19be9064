use Rattle.std.proofs.Common.{arith}
use Rattle.sc_theory.proofs.Rounds.{reduced_from_places}
use Rattle.sc_words.proofs.word.least_cancelling.Goals as goal

pub returns : goal.returns
returns c = reduced_from_places c.args.word.now (λ k h. c.loop-place.invariant k (omega (arith, c.loop-place-test.false)))
