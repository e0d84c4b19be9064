use Rattle.std.proofs.Common.{◌-◌}
use Rattle.sc_theory.specs.Chains.{positions}
use Rattle.sc_line.specs.Forms.{literal_due, one_due, counted_from, both_due, count_kind}
use Rattle.sc_text.specs.Words.{a_word}
use Rattle.sc_text.specs.Sides.{a_side}
use Rattle.sc_text.proofs.surface.surface_lines.Goals as goal

pub returns : goal.returns
returns c = λ i.
    both_due (literal_due (c.new.ensures.text i) (c.new.ensures.unread i)) (λ u.
    both_due (counted_from (c.new-2.ensures.name i) (c.new-2.ensures.most i) (λ b. a_word (c.new-2.ensures.kind i).limits ((c.new-2.ensures.kind i).letters - positions b)) (c.new-2.ensures.uncounted i) (c.new-2.ensures.unread i)) (λ w.
    both_due (one_due (count_kind (c.new-3.ensures.kind i).name.now (c.new-3.ensures.kind i).low (c.new-3.ensures.kind i).high) (c.new-3.ensures.unread i)) (λ n.
    both_due (counted_from (c.new-4.ensures.name i) (c.new-4.ensures.most i) (λ b. a_side (c.new-4.ensures.kind i).limits) (c.new-4.ensures.uncounted i) (c.new-4.ensures.unread i)) (λ g.
    literal_due (c.new-5.ensures.text i) (c.new-5.ensures.unread i)))))
