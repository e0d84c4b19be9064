use Rattle.std.proofs.Common.{◌≡◌, ◌∙◌, ◌++◌, take, drop, sym, ap}
use Rattle.std.proofs.lemmas.List.{map-append, take-append-drop}
use Rattle.sc_text.specs.Words.{spelled}
use Rattle.sc_line.proofs.PrintLaws.{stopped, on_err}
use Rattle.sc_text.proofs.printing.print_letters.Goals as goal

pub returns-in_err-push-clause-err : goal.returns-in_err-push-clause-err
returns-in_err-push-clause-err c =
    let i = c.loop-letter.letter-index in
    let letters = c.args.letters.now in
    let whole : spelled letters ≡ spelled (take i letters) ++ spelled (drop i letters) = ap spelled (sym (take-append-drop i letters)) ∙ map-append _ (take i letters) (drop i letters) in
    on_err _ (stopped _ c.loop-letter.out.items _ (spelled (take i letters)) (spelled (drop i letters)) _ c.loop-letter.invariant c.in_err-push.ensures.items whole)
