use Rattle.std.proofs.Common.{◌≡◌, true, false, refl, sym, subst}
use Rattle.std.specs.Option.{option_map}
use Rattle.sc_fraction.specs.Frac.{numerator, denominator}
use Rattle.sc_cone.specs.Cones.{chain_of}
use Rattle.sc_cone.specs.Values.{IsValueOf}
use Rattle.sc_fan.specs.declared.corner.Corner.{Corner as CornerParts}
use Rattle.sc_fan.specs.FanRead.{edge_said}
use Rattle.sc_ball.specs.inside.Arcs.{IsTightLast}
use Rattle.sc_ball.proofs.arcs.grown.Goals as goal

pub returns-then-goes_on : goal.returns-then-goes_on
returns-then-goes_on c q n r arc step =
    let value = subst (λ (x : CornerParts). IsValueOf (chain_of q c.args.first.now c.args.second.now x.direction) (numerator x.value) (denominator x.value)) (sym c.corner_of-end.ensures) step.solved.value in
    c.extended.ensures q c.args.first.now c.args.second.now n r c.check_chain.ensures.chain c.check_chain-2.ensures.chain arc step
    (subst (λ (x : CornerParts). IsTightLast q c.args.first.now c.args.second.now (option_map edge_said c.args.arc.edge) x.direction) c.corner_of-end.ensures ((c.if-goes_on.ensures q value).0 refl))

pub returns-else-goes_on : goal.returns-else-goes_on
returns-else-goes_on c q n r arc step =
    let value = subst (λ (x : CornerParts). IsValueOf (chain_of q c.args.first.now c.args.second.now x.direction) (numerator x.value) (denominator x.value)) (sym c.corner_of-end.ensures) step.solved.value in
    c.pushed.ensures q n r arc step
    (λ tight. let e : false ≡ true = (c.if-goes_on.ensures q value).1 (subst (λ (x : CornerParts). IsTightLast q c.args.first.now c.args.second.now (option_map edge_said c.args.arc.edge) x.direction) (sym c.corner_of-end.ensures) tight) in cc)
