use Rattle.std.proofs.Common.{length}
use Rattle.sc_theory.specs.Chains.{positions}
use Rattle.sc_theory.specs.Prices.{pairs}
use Rattle.sc_theory.specs.Columns.{pair_at}
use Rattle.sc_line.specs.Forms.{literal_due, one_due, many_due, counted_from, both_due, count_kind}
use Rattle.sc_text.specs.Sides.{a_side}
use Rattle.sc_text.specs.PriceLines.{a_scale, a_base, a_pair}
use Rattle.sc_text.specs.TableLines.{a_table}
use Rattle.sc_certificate.specs.PivotLines.{a_pivot}
use Rattle.sc_certificate.proofs.reader.new_body.Goals as goal

pub returns : goal.returns
returns c = λ h i.
    both_due (one_due (count_kind (c.new.ensures.kind i).name.now (c.new.ensures.kind i).low (c.new.ensures.kind i).high) (c.new.ensures.unread i)) (λ n.
    both_due (counted_from (c.new-2.ensures.name i) (c.new-2.ensures.most i) (λ b. a_side (c.new-2.ensures.kind i).limits) (c.new-2.ensures.uncounted i) (c.new-2.ensures.unread i)) (λ g.
    both_due (one_due a_scale (c.new-3.ensures.unread i)) (λ d.
    both_due (many_due (λ b. a_base) (length h.chain) (c.new-4.ensures.unread i)) (λ base.
    both_due (many_due (λ b. a_pair (pair_at h.chain (length b))) (length (pairs h.chain)) (c.new-5.ensures.unread i)) (λ pair.
    both_due (many_due (λ b. a_table (positions h.chain) (length b)) (positions h.chain) (c.new-6.ensures.unread i)) (λ tables.
    both_due (counted_from (c.new-7.ensures.name i) (c.new-7.ensures.most i) (λ b. a_pivot h.chain) (c.new-7.ensures.uncounted i) (c.new-7.ensures.unread i)) (λ journal.
    literal_due (c.new-8.ensures.text i) (c.new-8.ensures.unread i))))))))
