use Rattle.sc_theory.proofs.ChainLaws.{neighbours}
use Rattle.sc_theory.proofs.chains.next_and_previous_are_inverse.Goals as goal

pub returns : goal.returns
returns c = record {
  next = λ c i inside. let n = neighbours c i inside in (n.succ_inside, n.succ_word);
  previous = λ c i inside. let n = neighbours c i inside in (n.prev_inside, n.prev_word);
  back = λ c i inside. (neighbours c i inside).prev-succ;
  forth = λ c i inside. (neighbours c i inside).succ-prev;
}
