use Rattle.sc_theory.proofs.Rounds.{least_cancelling, unreduced_from_cancelling}
use Rattle.sc_theory.proofs.words.least_cancelling_place.Goals as goal

pub returns-clause-found : goal.returns-clause-found
returns-clause-found c = least_cancelling

pub returns-clause-unreduced : goal.returns-clause-unreduced
returns-clause-unreduced c = unreduced_from_cancelling
