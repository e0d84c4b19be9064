use Rattle.std.proofs.Common.{◌≡◌, ◌∷◌, false, sym, ◌∙◌, ap}
use Rattle.sc_words.specs.ChainText.{line_fields, is_comment, fields}
use Rattle.sc_words.proofs.DecisionLaws.{case_of_ascii, case_of_other}
use Rattle.sc_words.proofs.cases.case_of.Goals as goal

pub returns-in-Err : goal.returns-in-Err
returns-in-Err c =
    let e : line_fields c.args.line.now ≡ c.in-Some.first.now ∷ fields c.next.new.self.rest.now =
    ap fields (sym (c.of-fields.ensures ∙ c.without_carriage_return.ensures)) ∙ c.in-Some.ensures.steps in
    let other : is_comment (c.in-Some.first.now ∷ fields c.next.new.self.rest.now) ≡ false = sym c.begins_comment.ensures ∙ c.if-begins_comment.false in
    case_of_other c.args.line.now c.in-Some.first.now (fields c.next.new.self.rest.now) c.in-Err.field-0 e other c.in-Err.ensures (sym c.is_ascii.ensures ∙ c.if-not-is_ascii.true)

pub returns-in-Err-2 : goal.returns-in-Err-2
returns-in-Err-2 c =
    let e : line_fields c.args.line.now ≡ c.in-Some.first.now ∷ fields c.next.new.self.rest.now =
    ap fields (sym (c.of-fields.ensures ∙ c.without_carriage_return.ensures)) ∙ c.in-Some.ensures.steps in
    let other : is_comment (c.in-Some.first.now ∷ fields c.next.new.self.rest.now) ≡ false = sym c.begins_comment.ensures ∙ c.if-begins_comment.false in
    case_of_ascii c.args.line.now c.in-Some.first.now (fields c.next.new.self.rest.now) c.in-Err.field-0 e other c.in-Err.ensures (sym c.is_ascii.ensures ∙ c.if-not-is_ascii.false)
