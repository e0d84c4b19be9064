use Rattle.std.proofs.Common.{◌≡◌, sym, ◌∙◌}
use Rattle.std.proofs.lemmas.Bool.Decides.{Decides-eqb}
use Rattle.std.proofs.lemmas.Slice.Eq.{slice_eq-Decides}
use Rattle.sc_whole.specs.Spelling.{spelling}
use Rattle.sc_whole.proofs.SpellingLaws.{printed_is_spelling}
use Rattle.sc_whole.proofs.decimal.is_spelling_of.Goals as goal

pub returns : goal.returns
returns c =
    let text : c.as_bytes.result.now ≡ spelling c.args.x = c.as_bytes.ensures.value ∙ printed_is_spelling _ _ c.ranges.x c.format.ensures.text in
    let same = slice_eq-Decides Decides-eqb _ _ _ c.eq.ensures in (
      λ h. same.0 h ∙ text,
      λ e. same.1 (e ∙ sym text),
    )
