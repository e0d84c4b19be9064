use Rattle.std.proofs.Common.{◌≡◌, ◌<◌, ◌-◌, ℕ, suc, length, arith, subst}
use Rattle.sc_gluing.specs.inside.Matching.{AreLinked}
use Rattle.sc_gluing.proofs.Linking.{one_linked}
use Rattle.sc_gluing.proofs.matching.link.Goals as goal

pub loop-here-preserved : goal.loop-here-preserved
loop-here-preserved c =
    let l = c.loop-here in
    let here : ℕ = l.here - 1 in
    let up : l.here ≡ suc here = omega arith in
    let inside : here < length c.args.kinds.now = omega (arith, l.auto.here) in
    one_linked c.args.kinds.now l.firsts l.following here
    (subst (λ (n : ℕ). AreLinked c.args.kinds.now n l.firsts l.following) up l.invariant) inside (omega (arith, c.requires.below here inside, l.auto.firsts))
