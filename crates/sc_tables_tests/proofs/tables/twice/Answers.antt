use Rattle.std.proofs.Common.{List, ℕ, ◌++◌, sym, subst, ap₂, ◌∙◌}
use Rattle.sc_theory.specs.Walks.{IsClosedWalk}
use Rattle.sc_tables.proofs.WalkLaws.{closed_twice}
use Rattle.sc_tables_tests.proofs.tables.twice.Goals as goal

pub returns : goal.returns
returns c =
    subst (IsClosedWalk c.args.chain.now) (sym (c.in_ok-extend_from_slice.ensures.items ∙ ap₂ (λ (xs ys : List ℕ). xs ++ ys) (c.in_ok-walk.ensures.items ∙ c.walk.ensures.walk) c.walk-2.ensures.walk))
    (closed_twice c.args.chain.now c.args.polygon.now c.requires.closed)
