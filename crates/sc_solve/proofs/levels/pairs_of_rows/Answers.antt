use Rattle.std.proofs.Common.{◌++◌, ◌∷◌, [], List, ap₂, refl, sym, ◌∙◌}
use Rattle.std.proofs.lemmas.List.FromFn.{map-range_with_len_more}
use Rattle.sc_weight.specs.declared.pair.Pair.{Pair}
use Rattle.sc_solve.specs.inside.PriceLevels.{pair_of_row}
use Rattle.sc_solve.proofs.levels.pairs_of_rows.Goals as goal

pub loop-n-preserved : goal.loop-n-preserved
loop-n-preserved c =
    c.in_ok-push.ensures.items
    ∙ ap₂ (λ (xs : List Pair) (x : Pair). xs ++ x ∷ []) c.loop-n.invariant c.pair_of_row.ensures
    ∙ sym (map-range_with_len_more (pair_of_row c.args.prices.now) c.args.first c.loop-n.n _ refl)
