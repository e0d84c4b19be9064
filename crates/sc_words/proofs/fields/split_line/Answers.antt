use Rattle.std.proofs.Common.{◌<◌, length, sym, ◌∙◌, arith}
use Rattle.std.proofs.lemmas.Bool.Decides.{nat_tests}
use Rattle.sc_words.proofs.TextLaws.{line_before_feed, line_without_feed}
use Rattle.sc_words.proofs.Cuts.{cut_at_feed, cut_without_feed}
use Rattle.sc_words.proofs.fields.split_line.Goals as goal

pub returns-in-Some-clause-lines : goal.returns-in-Some-clause-lines
returns-in-Some-clause-lines c = rw c.split_at.ensures.back (line_before_feed c.args.text.now c.in-Some.end (sym c.line_feed_at.ensures ∙ c.in-Some.is))

pub returns-in-Some-clause-cut : goal.returns-in-Some-clause-cut
returns-in-Some-clause-cut c = rw c.split_at.ensures.back (cut_at_feed c.args.text.now c.in-Some.end (sym c.line_feed_at.ensures ∙ c.in-Some.is))

pub returns-in-None-clause-lines : goal.returns-in-None-clause-lines
returns-in-None-clause-lines c =
    let some : 0 < length c.args.text.now = grind (arith, nat_tests, c.if-is_empty.ensures) in
    line_without_feed c.args.text.now some (sym c.line_feed_at.ensures ∙ c.in-None.is)

pub returns-in-None-clause-cut : goal.returns-in-None-clause-cut
returns-in-None-clause-cut c =
    let some : 0 < length c.args.text.now = grind (arith, nat_tests, c.if-is_empty.ensures) in
    cut_without_feed c.args.text.now some (sym c.line_feed_at.ensures ∙ c.in-None.is)
