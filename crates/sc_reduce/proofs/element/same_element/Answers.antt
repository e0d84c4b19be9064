use Rattle.std.proofs.Common.{◌∙◌, sym, rules}
use Rattle.std.proofs.lemmas.Slice.Eq.{slice_eq-Decides}
use Rattle.sc_theory.proofs.Normal.{same_reductions}
use Rattle.sc_reduce.proofs.element.same_element.Goals as goal

pub returns : goal.returns
returns c =
    let test = slice_eq-Decides (λ a b. search rules) c.as_slice.result.now c.as_slice-2.result.now c.eq.result c.eq.ensures in
    let first = c.as_slice.ensures ∙ c.in_ok-first.ensures in
    let second = c.as_slice-2.ensures ∙ c.in_ok-second.ensures in
    let law = same_reductions c.args.u.now c.args.v.now in
    (λ t. law.1 (sym first ∙ test.0 t ∙ second), λ s. test.1 (first ∙ law.0 s ∙ sym second))
