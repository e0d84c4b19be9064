use Rattle.std.proofs.Common.{◌-◌, [], sym}
use Rattle.sc_theory.specs.Chains.{positions}
use Rattle.sc_line.specs.Forms.{literal_due, counted_from, both_due}
use Rattle.sc_text.specs.Words.{a_word}
use Rattle.sc_certificate.proofs.front.Front.new.Goals as goal

pub returns : goal.returns
returns c = λ i.
    both_due (literal_due (c.new.ensures.text i) (c.new.ensures.unread i)) (λ u. counted_from (c.new-2.ensures.name i) (c.new-2.ensures.most i) (λ b. a_word (c.new-2.ensures.kind i).limits ((c.new-2.ensures.kind i).letters - positions b)) (c.new-2.ensures.uncounted i) (c.new-2.ensures.unread i))

pub invariant_of-result : goal.invariant_of-result
invariant_of-result c = record {
  lines = [];
  reads = λ i.
      both_due (literal_due (sym c.new.ensures.text i) (sym c.new.ensures.unread i)) (λ u. counted_from (sym c.new-2.ensures.name i) (sym c.new-2.ensures.most i) (λ b. a_word (sym c.new-2.ensures.kind i).limits ((sym c.new-2.ensures.kind i).letters - positions b)) (sym c.new-2.ensures.uncounted i) (sym c.new-2.ensures.unread i));
}
