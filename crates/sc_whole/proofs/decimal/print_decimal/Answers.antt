use Rattle.std.proofs.Common.{◌≡◌, arith}
use Rattle.std.proofs.lemmas.Grind.{common_steps}
use Rattle.sc_whole.specs.Spelling.{spelling}
use Rattle.sc_whole.proofs.SpellingLaws.{printed_is_spelling}
use Rattle.sc_whole.proofs.decimal.print_decimal.Goals as goal

pub returns-clause-printed : goal.returns-clause-printed
returns-clause-printed c =
    let text : c.format.result.now ≡ spelling c.args.x = printed_is_spelling _ _ c.ranges.x c.format.ensures.text in
    grind (arith, common_steps)
