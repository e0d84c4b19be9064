use Rattle.std.proofs.Common.{◌∙◌, sym, subst}
use Rattle.std.specs.List.{All}
use Rattle.sc_reduce.proofs.LineLaws.{IsGenerator}
use Rattle.sc_reduce.proofs.Spelled.{generators_of_text}
use Rattle.sc_reduce.proofs.tests.word.Goals as goal

pub returns : goal.returns
returns c =
    subst (All IsGenerator) (sym (c.from_letters.ensures ∙ c.in_ok-letters_of.ensures.letters)) (generators_of_text c.as_bytes.result.now)
