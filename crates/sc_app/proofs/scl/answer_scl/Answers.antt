use Rattle.std.proofs.Common.{◌≤◌, length, arith, subst, sym, ◌∙◌, ap}
use Rattle.std.proofs.lemmas.Result.{IfOk-weaker}
use Rattle.sc_text.specs.Surfaces.{IsChainInRange}
use Rattle.sc_reduce.specs.Lines.{letters_of, chain_of, IsWithin}
use Rattle.sc_reduce.proofs.TextLetters.{letters_of_text}
use Rattle.sc_app.specs.Answer.{status_of, text_of}
use Rattle.sc_app.proofs.Ranges.{chain_of_text}
use Rattle.sc_app.proofs.Reports.{valued}
use Rattle.sc_app.proofs.scl.answer_scl.Goals as goal

pub reduce_lines-requires-clause-letters : goal.reduce_lines-requires-clause-letters
reduce_lines-requires-clause-letters c =
    let few : letters_of c.in-Ok.lines.items ≤ length c.args.input.now = letters_of_text c.args.input.now c.in-Ok.lines.items c.in-Ok.ensures.ok in
    omega (arith, few, ap letters_of c.as_slice.ensures.value, c.requires.few_bytes)

pub value_of-requires-clause-chain_in_range : goal.value_of-requires-clause-chain_in_range
value_of-requires-clause-chain_in_range c =
    let within = subst (λ lines. IsWithin (chain_of lines)) c.as_slice.ensures.value c.in-Ok-reduce_lines.ensures.within in
    subst IsChainInRange (sym (c.in-Ok-reduce_lines.ensures.ok ∙ ap chain_of c.as_slice.ensures.value)) (chain_of_text c.args.input.now c.in-Ok.lines.items c.in-Ok.ensures.ok within)

pub returns-in-Ok-reduce_lines : goal.returns-in-Ok-reduce_lines
returns-in-Ok-reduce_lines c =
    IfOk-weaker c.value_of.result _ _
    (λ answer h. valued c.args.pivots c.args.input.now c.in-Ok.lines.items c.in-Ok-reduce_lines.chain c.in-Ok.ensures.ok (c.in-Ok-reduce_lines.ensures.ok ∙ ap chain_of c.as_slice.ensures.value)
    (subst (λ lines. IsWithin (chain_of lines)) c.as_slice.ensures.value c.in-Ok-reduce_lines.ensures.within) (status_of answer) (text_of answer) h)
    c.value_of.ensures
