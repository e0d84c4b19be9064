use Rattle.sc_algebra.proofs.Sums.{sum-add, sum-neg, sum-mul_left, sum-const, sum-le, sum-append, sum-exchange}
use Rattle.sc_algebra.proofs.laws_of_sums.Goals as goal

pub returns : goal.returns
returns c = record { added = sum-add; negated = sum-neg; multiplied = sum-mul_left; constant = sum-const; compared = sum-le; cut = sum-append; exchanged = sum-exchange }
