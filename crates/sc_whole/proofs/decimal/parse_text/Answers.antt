use Rattle.std.proofs.Common.{◌≡◌, ap, ◌∙◌, rules}
use Rattle.std.specs.Result.{result_ok}
use Rattle.std.specs.Str.{IsUtf8}
use Rattle.sc_whole.proofs.SpellingLaws.{parse_spelling, IsUtf8-spelling}
use Rattle.sc_whole.proofs.decimal.parse_text.Goals as goal

pub returns-in_err-ok : goal.returns-in_err-ok
returns-in_err-ok c x fits e = let text : IsUtf8 c.args.text.now = IsUtf8-spelling _ x e in search rules

pub returns : goal.returns
returns c x fits e =
    let same : c.in_ok-ok.field-0.now ≡ c.args.text.now = search rules in
    c.ok-2.ensures.value ∙ ap result_ok (parse_spelling c.in_ok-ok.field-0.now x c.parse.result fits (same ∙ e) c.parse.ensures.value.0)
