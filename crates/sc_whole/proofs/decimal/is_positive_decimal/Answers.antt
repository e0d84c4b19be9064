use Rattle.std.proofs.Common.{◌≢◌, ◌<◌, ◌≤◌, length, get_or, arith, sym, true≢false}
use Rattle.std.proofs.lemmas.Grind.{common_steps}
use Rattle.sc_whole.proofs.SpellingLaws.{positive_spellings, first_of_positive_spelling}
use Rattle.sc_whole.proofs.decimal.is_positive_decimal.Goals as goal

pub returns-then-is_empty : goal.returns-then-is_empty
returns-then-is_empty c =
    let first : get_or c.args.text.now 0 0 ≤ 48 = grind (arith, common_steps) in
    (λ h. absurd (true≢false (sym h)), λ h. absurd (omega (arith, first_of_positive_spelling c.args.text.now h)))

pub returns : goal.returns
returns c =
    let some : 0 < length c.args.text.now = grind (arith, common_steps) in
    let plain : get_or c.args.text.now 0 0 ≢ 48 = grind (arith, common_steps) in
    let same = positive_spellings c.args.text.now some plain in
    (λ h. same.0 (c.are_digits.ensures.0 h), λ h. c.are_digits.ensures.1 (same.1 h))
