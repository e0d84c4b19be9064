use Rattle.std.proofs.Common.{◌≡◌, List, ℕ, ◌∷◌, ◌++◌, sym, subst}
use Rattle.sc_theory.specs.Walks.{IsClosedWalk, HasNoRepeat}
use Rattle.sc_tables.proofs.SplitSteps.{rest_whole, passed_closed, passed_simple}
use Rattle.sc_tables.proofs.splitting.pass.Goals as goal

pub polygon_of-requires-clause-closed : goal.polygon_of-requires-clause-closed
polygon_of-requires-clause-closed c =
    subst (IsClosedWalk c.args.chain.now) (sym (rest_whole c.as_slice-passed.result.now c.in-Some.from))
    (passed_closed c.args.chain.now c.as_slice-passed.result.now c.args.position c.in-Some.from c.in-Some.ensures.found.0 c.in-Some.ensures.found.1 (subst (λ (ys : List ℕ). (a b : List ℕ) → ys ≡ a ++ c.args.position ∷ b → IsClosedWalk c.args.chain.now (c.args.position ∷ b)) (sym c.as_slice-passed.ensures.value) c.requires.returns))

pub polygon_of-requires-clause-simple : goal.polygon_of-requires-clause-simple
polygon_of-requires-clause-simple c =
    subst HasNoRepeat (sym (rest_whole c.as_slice-passed.result.now c.in-Some.from))
    (passed_simple c.args.chain.now c.as_slice-passed.result.now c.args.position c.in-Some.from c.in-Some.ensures.found.0 c.in-Some.ensures.found.1 (subst HasNoRepeat (sym c.as_slice-passed.ensures.value) c.requires.simple))
