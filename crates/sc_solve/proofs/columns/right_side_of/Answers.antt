use Rattle.std.proofs.Common.{◌++◌, ◌∷◌, [], List, ℤ, ap₂, sym, ◌∙◌, FitsSigned, to_z-of_z, arith, rules}
use Rattle.std.specs.Int.{w128}
use Rattle.std.proofs.lemmas.List.FromFn.{map-range_with_len_more}
use Rattle.sc_theory.specs.Columns.{right_side}
use Rattle.sc_solve.proofs.columns.right_side_of.Goals as goal

pub loop-row-preserved : goal.loop-row-preserved
loop-row-preserved c =
    let fits : FitsSigned w128 c.side_at.result = search rules in
    let items = simp (to_z-of_z fits) at c.in_ok-push.ensures.items in
    items
    ∙ ap₂ (λ (xs : List ℤ) (x : ℤ). xs ++ x ∷ []) c.loop-row.invariant c.side_at.ensures
    ∙ sym (map-range_with_len_more (right_side c.args.chain.now) 0 c.loop-row.row c.loop-row.row (omega arith))
