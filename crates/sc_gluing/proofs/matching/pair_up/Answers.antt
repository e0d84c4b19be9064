use Rattle.std.proofs.Common.{◌<◌, ◌+◌, ℕ, List, length, get_or, set, arith, sym, subst}
use Rattle.sc_gluing.proofs.Linking.{ArePaired, one_paired}
use Rattle.sc_gluing.proofs.matching.pair_up.Goals as goal

pub loop-kind-preserved : goal.loop-kind-preserved
loop-kind-preserved c =
    let l = c.loop-kind in
    let s : ℕ = l.kind-index in
    let kinds : List ℕ = c.args.kinds.now in
    let opposites : List ℕ = c.args.opposites.now in
    let following : List ℕ = c.args.following.now in
    let kind : ℕ = get_or opposites s 0 in
    let inside : s < length kinds = omega (arith, c.requires.matchable.as_many) in
    subst (λ (xs : List ℕ). ArePaired kinds opposites (s + 1) (set l.cursors kind (get_or following (get_or l.cursors kind 0) 0)) xs) (sym c.in_ok-push.ensures.items)
    (one_paired kinds opposites l.cursors following l.partners.items (length c.args.cursors.now) s c.requires.matchable (sym l.auto.cursors) l.invariant inside
    (λ t h. c.requires.linked.next t (omega arith) h))
