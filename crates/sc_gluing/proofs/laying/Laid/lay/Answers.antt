use Rattle.std.proofs.Common.{◌≡◌, ℕ, length, arith, subst}
use Rattle.sc_gluing.proofs.LaidCopies.{IsLaidSoFar, whole_laid}
use Rattle.sc_gluing.proofs.laying.Laid.lay.Goals as goal

pub returns-clause-laid : goal.returns-clause-laid
returns-clause-laid c =
    let old = c.args.self.now in
    let new = c.loop-place.self in
    let end : c.loop-place.place ≡ length c.args.walk.now = omega arith in
    whole_laid c.args.walk.now old.labels.items old.afters.items new.labels.items new.afters.items
    (subst (λ (n : ℕ). IsLaidSoFar c.args.walk.now old.labels.items old.afters.items n new.labels.items new.afters.items) end c.loop-place.invariant)
