use Rattle.std.proofs.Common.{sym, ◌∙◌}
use Rattle.sc_words.proofs.TextLaws.{fields_of_blanks, field_before_blank, field_without_blank}
use Rattle.sc_words.proofs.fields.split_field.Goals as goal

pub returns-in_err-start : goal.returns-in_err-start
returns-in_err-start c = rw c.from_residual.ensures (fields_of_blanks c.args.bytes.now (sym c.nonblank_at.ensures ∙ c.in_err-start.was))

pub returns-in-Some : goal.returns-in-Some
returns-in-Some c =
    rw (c.split_at-in-Some.ensures.back, c.split_at.ensures.back) (field_before_blank c.args.bytes.now c.in_ok-start.start c.in-Some.end (sym c.nonblank_at.ensures ∙ c.in_ok-start.was) (sym (rw c.split_at.ensures.back at c.blank_at.ensures) ∙ c.in-Some.is))

pub returns-in-None : goal.returns-in-None
returns-in-None c =
    rw c.split_at.ensures.back (field_without_blank c.args.bytes.now c.in_ok-start.start (sym c.nonblank_at.ensures ∙ c.in_ok-start.was) (sym (rw c.split_at.ensures.back at c.blank_at.ensures) ∙ c.in-None.is))
