use Rattle.std.proofs.Common.{◌≡◌, Ok, FitsSigned, to_z-of_z, rules, sym, subst}
use Rattle.std.specs.Int.{w128}
use Rattle.std.proofs.lemmas.Result.{err_from_is_err_and}
use Rattle.sc_theory.specs.Prices.{Prices}
use Rattle.sc_fan.specs.Fans.{prices_due}
use Rattle.sc_fan.specs.Reading.{taken}
use Rattle.sc_fan.proofs.ReaderLaws.{scale_stops, bases_stop, pairs_stop, list_taken, list_in_range}
use Rattle.sc_fan.proofs.lists.read_list.Goals as goal

pub returns-in_err-scale : goal.returns-in_err-scale
returns-in_err-scale c =
    let p = err_from_is_err_and c.from_residual.result c.from_residual.ensures.1 in
    rw (p.1, p.2) (scale_stops c.args.words c.args.pairs.now c.args.lines.now c.in_err-scale.field-0.0 c.in_err-scale.ensures)

pub returns-in_err-base : goal.returns-in_err-base
returns-in_err-base c =
    let p = err_from_is_err_and c.from_residual-in_err-base.result c.from_residual-in_err-base.ensures.1 in
    rw (p.1, p.2) (bases_stop c.args.words c.args.pairs.now c.args.lines.now c.in_ok-scale.scale c.scale.new.self c.in_ok-scale.ensures c.in_err-base.field-0.0 c.in_err-base.ensures)

pub returns-in_err-pair : goal.returns-in_err-pair
returns-in_err-pair c =
    let p = err_from_is_err_and c.from_residual-in_err-pair.result c.from_residual-in_err-pair.ensures.1 in
    rw (p.1, p.2)
    (pairs_stop c.args.words c.args.pairs.now c.args.lines.now c.in_ok-scale.scale c.scale.new.self c.in_ok-scale.ensures c.in_ok-base.base.items c.items.new.self c.in_ok-base.ensures
    c.in_err-pair.field-0.0 c.in_err-pair.ensures)

pub of_small-requires : goal.of_small-requires
of_small-requires c =
    let fits : FitsSigned w128 c.in_ok-scale.scale = search rules in
    simp (to_z-of_z fits)
    (list_in_range c.args.words c.args.pairs.now c.args.lines.now c.scale.new.self c.items.new.self c.items-2.new.self c.in_ok-scale.scale c.in_ok-base.base.items c.in_ok-pair.pair.items c.in_ok-scale.ensures c.in_ok-base.ensures c.in_ok-pair.ensures)

pub returns : goal.returns
returns c =
    let fits : FitsSigned w128 c.in_ok-scale.scale = search rules in
    let list = simp (to_z-of_z fits) at c.of_small.ensures in
    subst (λ (l : Prices). taken (prices_due c.args.words c.args.pairs.now) c.args.lines.now ≡ Ok (l, c.items-2.new.self)) (sym list)
    (list_taken c.args.words c.args.pairs.now c.args.lines.now c.in_ok-scale.scale c.scale.new.self c.in_ok-scale.ensures c.in_ok-base.base.items c.items.new.self c.in_ok-base.ensures c.in_ok-pair.pair.items c.items-2.new.self c.in_ok-pair.ensures)
