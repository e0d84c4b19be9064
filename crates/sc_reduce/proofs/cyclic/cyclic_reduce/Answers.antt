use Rattle.std.proofs.Common.{◌≡◌, ◌∙◌, ap}
use Rattle.std.proofs.lemmas.Result.{IfOk-weaker}
use Rattle.sc_theory.specs.Words.{Word, delete_leftmost, cyclic_reduction}
use Rattle.sc_theory.proofs.Reduction.{delete_leftmost-free_reduction}
use Rattle.sc_theory.proofs.Cyclic.{cyclic_reduction-free_reduction}
use Rattle.sc_reduce.proofs.cyclic.cyclic_reduce.Goals as goal

pub without_inverse_ends-requires : goal.without_inverse_ends-requires
without_inverse_ends-requires c =
    ap delete_leftmost (c.as_slice.ensures ∙ c.in_ok-reduced.ensures) ∙ delete_leftmost-free_reduction c.args.word.now

pub returns : goal.returns
returns c =
    IfOk-weaker c.from_slice.result (λ (v : Word). v ≡ c.without_inverse_ends.result.now) (λ (v : Word). v ≡ cyclic_reduction c.args.word.now)
    (λ v e.
    e
    ∙ c.without_inverse_ends.ensures
    ∙ ap cyclic_reduction (c.as_slice.ensures ∙ c.in_ok-reduced.ensures)
    ∙ cyclic_reduction-free_reduction c.args.word.now)
    c.from_slice.ensures
