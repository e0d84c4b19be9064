use Rattle.std.proofs.Common.{arith}
use Rattle.sc_theory.specs.Chains.{word_of}
use Rattle.sc_theory.proofs.ChainLaws.{place, first-suc, word_of_place, letter_place}
use Rattle.sc_theory.proofs.chains.positions_are_places.Goals as goal

pub returns : goal.returns
returns c = record {
  in_chain = λ c i inside. (place c i inside).in_chain;
  in_word = λ c i inside. let p = place c i inside in (p.from, omega (arith, p.below, first-suc c (word_of c i)));
  word = word_of_place;
  letter = letter_place;
}
