use Rattle.std.proofs.Common.{ℕ, subst}
use Rattle.std.proofs.lemmas.Result.{IfOk-weaker}
use Rattle.sc_line.specs.Forms.{Tells}
use Rattle.sc_text.specs.Words.{a_word}
use Rattle.sc_text.proofs.words.WordLinesLineItem.read.Goals as goal

pub returns-clause-ok : goal.returns-clause-ok
returns-clause-ok c =
    let m = c.args.self.now.limits in
    IfOk-weaker c.word_line.result _ _
    (λ w (h : Tells (a_word m c.room_behind.result) c.args.line.now w).
    subst (λ (n : ℕ). Tells (a_word m n) c.args.line.now w) c.room_behind.ensures h)
    c.word_line.ensures.tells
