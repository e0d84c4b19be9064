use Rattle.std.proofs.Common.{◌≡◌, ◌+◌, ◌*◌, ℕ, List, get_or, sym, subst}
use Rattle.sc_theory.specs.Chains.{positions, succ, prev}
use Rattle.sc_gluing.specs.inside.Sides.{end_at, AreOpposites}
use Rattle.sc_gluing.specs.Sides.{kind}
use Rattle.sc_gluing.proofs.SideLists.{opposites_more}
use Rattle.sc_gluing.proofs.sides.opposites_of.Goals as goal

same_kind : (bound i j p x y : ℕ) → p ≡ bound → x ≡ i → y ≡ j → x * p + y ≡ kind bound i j
same_kind bound i j p x y e f g = cc

pub loop-side-preserved : goal.loop-side-preserved
loop-side-preserved c =
    let chain = c.args.chain.now in
    let labels : List ℕ = c.args.labels.now in
    let afters : List ℕ = c.args.afters.now in
    let s : ℕ = c.loop-side.side in
    subst (λ (xs : List ℕ). AreOpposites chain labels afters (s + 1) xs) (sym c.in_ok-push.ensures.items)
    (opposites_more chain labels afters s c.loop-side.opposites.items (c.prev-from.result * c.positions-positions.result + c.succ-to.result) c.loop-side.invariant
    (same_kind (positions chain) (prev chain (end_at labels afters s)) (succ chain (get_or labels s 0)) _ _ _ c.positions-positions.ensures.positions c.prev-from.ensures.prev c.succ-to.ensures.succ))
