use Rattle.std.proofs.Common.{◌≡◌, ℕ, ◌<◌, List, length, arith, refl, sym, ap, subst, ◌∙◌}
use Rattle.std.proofs.lemmas.Option.{slice_get_read}
use Rattle.std.proofs.lemmas.Result.{err_from_is_err_and}
use Rattle.sc_theory.specs.Chains.{succ}
use Rattle.sc_theory.specs.Walks.{IsStep}
use Rattle.sc_theory.specs.Prices.{pairs}
use Rattle.sc_tables.specs.StepPrices.{pair_levels}
use Rattle.sc_tables.proofs.StepCells.{pairs_fit, pair_is, row_at, step_at, step_is, turn_is}
use Rattle.sc_weight.specs.Levels.{Levels, levels_sum}
use Rattle.sc_weight.specs.Evidence.{IsFirstWideLevel}
use Rattle.sc_whole.specs.declared.checked.Op.TheVariants.{Add}
use Rattle.sc_tables.proofs.prices.step_price.Goals as goal
use Rattle.sc_tables.proofs.prices.step_price.Given.{Over}
use Rattle.sc_tables.proofs.prices.step_price.Goals.{In_ok-price}

pub signed-requires : goal.signed-requires
signed-requires g c = pairs_fit c.args.chain.now c.in-Some.row c.requires.few (subst (λ ps. c.in-Some.row < length ps) c.requires.pairs c.in-Some.ensures.in_range)

pub returns-in_err-price-clause-faults : goal.returns-in_err-price-clause-faults
returns-in_err-price-clause-faults g c =
    let inside : c.in-Some.row < length c.args.pair.now = omega (arith, c.in-Some.ensures.in_range, c.requires.pair) in
    let p = err_from_is_err_and c.from_residual.result c.from_residual.ensures.1 in
    rw (p.1, p.2) (turn_is g.W.Weight.levels c.args.chain.now c.args.pair.now c.args.base.now c.in-Some.row c.index-pair-row.result _
    (slice_get_read c.args.pair.now _ c.in-Some.row c.index-pair-row.result refl inside c.index-pair-row.is)
    c.in_err-price.ensures.faults)

pub overflow_cast-result : goal.overflow_cast-result
overflow_cast-result g c = omega (arith, c.requires.few, c.requires.from)

pub overflow_cast-result-in-Err : goal.overflow_cast-result-in-Err
overflow_cast-result-in-Err g c = omega (arith, c.requires.few, c.requires.to)

-- at the price of the pair
priced : (g : Over) (c : In_ok-price g) → IsStep c.args.chain.now c.args.from c.args.to × (g.W.Weight.levels c.in_ok-price.price ≡ pair_levels g.W.Weight.levels c.args.chain.now c.args.pair.now (succ c.args.chain.now c.args.from) c.args.to)
priced g c =
    let inside : c.in-Some.row < length c.args.pair.now = omega (arith, c.in-Some.ensures.in_range, c.requires.pair) in
    let here = slice_get_read c.args.pair.now _ c.in-Some.row c.index-pair-row.result refl inside c.index-pair-row.is in
    let at = row_at c.args.chain.now c.args.pairs.now c.args.from c.args.to c.succ.result c.in-Some.row c.in-Some.sign c.requires.pairs c.succ.ensures.succ c.in-Some.ensures.row in
    let size : length c.args.pair.now ≡ length (pairs c.args.chain.now) = c.requires.pair ∙ ap (λ (ps : List (ℕ × ℕ)). length ps) c.requires.pairs in (
      step_at c.args.chain.now c.args.from c.args.to c.succ.result c.requires.from c.requires.to c.succ.ensures.succ ((c.in-Some.ensures.inverse c.args.chain.now c.requires.pairs c.succ.ensures.in_range c.requires.to).0 refl),
      c.in_ok-price.ensures.price ∙ sym (pair_is g.W.Weight.levels c.args.chain.now c.args.pair.now (succ c.args.chain.now c.args.from) c.args.to c.in-Some.row c.index-pair-row.result size here c.in-Some.sign at),
    )

pub returns-in-Ok-clause-price : goal.returns-in-Ok-clause-price
returns-in-Ok-clause-price g c =
    let p = priced g ((goal.at.returns-in-Ok-clause-price g c).In_ok-price) in
    (p.0, step_is g.W.Weight.levels c.args.chain.now c.args.pair.now c.args.base.now c.args.from c.args.to (g.W.Weight.levels c.in_ok-price.price) (g.W.Weight.levels c.base_at.result) (g.W.Weight.levels c.in-Ok.sum) p.1 c.base_at.ensures c.in-Ok.ensures.sum)

pub returns-in-Err-clause-faults : goal.returns-in-Err-clause-faults
returns-in-Err-clause-faults g c =
    let p = priced g ((goal.at.returns-in-Err-clause-faults g c).In_ok-price) in (
      p.0,
      subst (λ (z : Levels). IsFirstWideLevel Add (levels_sum (pair_levels g.W.Weight.levels c.args.chain.now c.args.pair.now (succ c.args.chain.now c.args.from) c.args.to) z) (pair_levels g.W.Weight.levels c.args.chain.now c.args.pair.now (succ c.args.chain.now c.args.from) c.args.to) z c.in-Err.fault) c.base_at.ensures
          (subst (λ (y : Levels). IsFirstWideLevel Add (levels_sum y (g.W.Weight.levels c.base_at.result)) y (g.W.Weight.levels c.base_at.result) c.in-Err.fault) p.1 c.in-Err.ensures.evidence),
    )
