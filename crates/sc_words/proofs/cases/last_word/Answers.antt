use Rattle.std.proofs.Common.{◌≡◌, ℤ, Ok, sym, ◌∙◌, ap, arith}
use Rattle.std.specs.List.{filter_map}
use Rattle.std.proofs.lemmas.Int.{ints}
use mir.Val.{to_z, of_z}
use mir.Syntax.{w32}
use Rattle.sc_words.specs.Spelling.{letter_of}
use Rattle.sc_words.specs.ChainText.{fields}
use Rattle.sc_words.proofs.DecisionLaws.{last_word_letter, last_word_extra, last_word_ok}
use Rattle.sc_words.proofs.cases.last_word.Goals as goal

pub returns-then-not-are_letters : goal.returns-then-not-are_letters
returns-then-not-are_letters c =
    last_word_letter c.args.coefficient c.args.word.now (fields c.args.rest.rest.now) (sym c.are_letters.ensures ∙ c.if-not-are_letters.true)

pub returns-in-None : goal.returns-in-None
returns-in-None c =
    let fit : to_z w32 (of_z w32 c.args.coefficient) ≡ c.args.coefficient = omega (arith, ints) in
    last_word_ok c.args.coefficient c.args.word.now (fields c.args.rest.rest.now) (sym c.are_letters.ensures ∙ c.if-not-are_letters.false) c.in-None.ensures.steps.0
    ∙ ap (λ (z : ℤ). Ok (z, filter_map letter_of c.args.word.now)) (sym fit)

pub returns-in-Some : goal.returns-in-Some
returns-in-Some c =
    last_word_extra c.args.coefficient c.args.word.now c.in-Some.field-0.now (fields c.next.new.self.rest.now) (fields c.args.rest.rest.now) (sym c.are_letters.ensures ∙ c.if-not-are_letters.false) c.in-Some.ensures.steps
