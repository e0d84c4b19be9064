use Rattle.std.proofs.Common.{◌+◌, ◌++◌, ◌∷◌, [], List, ℤ, ap₂, refl, sym, subst, ◌∙◌, FitsSigned, to_z, of_z, to_z-of_z, arith, rules}
use Rattle.std.specs.Int.{w128}
use Rattle.std.specs.List.{AllByRecursion}
use Rattle.std.proofs.lemmas.Result.{err_from_is_err_and}
use Rattle.std.proofs.lemmas.List.FromFn.{map-range_with_len_more}
use Rattle.sc_text.specs.PriceLines.{IsPriceInRange}
use Rattle.sc_solve.specs.PriceLevels.{lifted_price}
use Rattle.sc_solve.proofs.LiftedRows.{all_more}
use Rattle.sc_solve.proofs.lifting.lifted_rows.Goals as goal

pub returns-in_err-price-clause-faults : goal.returns-in_err-price-clause-faults
returns-in_err-price-clause-faults c =
    let p = err_from_is_err_and c.from_residual-in_err-price.result c.from_residual-in_err-price.ensures.1 in
    let fits : FitsSigned w128 c.args.factor = search rules in
    let faults = simp (to_z-of_z fits) at c.in_err-price.ensures.faults in
    rw (p.1, p.2) (c.args.first + c.loop-n.n, omega arith, faults)

pub loop-n-preserved : goal.loop-n-preserved
loop-n-preserved c =
    let fits : FitsSigned w128 c.in_ok-price.price = search rules in
    let items = simp (to_z-of_z fits) at c.in_ok-push.ensures.items in
    record {
      items =
          items
          ∙ ap₂ (λ (xs : List ℤ) (x : ℤ). xs ++ x ∷ []) c.loop-n.invariant.items c.in_ok-price.ensures.price
          ∙ sym (map-range_with_len_more (lifted_price c.args.prices.now (to_z w128 (of_z w128 c.args.factor))) c.args.first c.loop-n.n _ refl);
      small = subst (AllByRecursion IsPriceInRange) (sym items) (all_more IsPriceInRange c.loop-n.list.items c.in_ok-price.price c.loop-n.invariant.small c.in_ok-price.ensures.small);
    }
