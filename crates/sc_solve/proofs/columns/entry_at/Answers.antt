use Rattle.std.proofs.Common.{ℕ, ℤ, ◌-ℤ◌, arith, sym, ap, ap₂, ◌∙◌, FitsSigned, to_z-of_z, rules}
use Rattle.std.specs.Int.{w128}
use Rattle.sc_theory.specs.Columns.{steps_of}
use Rattle.sc_solve.proofs.PairRows.{pair_inside, entry_of_pair}
use Rattle.sc_solve.proofs.columns.entry_at.Goals as goal

pub prev-requires : goal.prev-requires
prev-requires c = (pair_inside c.args.chain.now c.args.pairs.now c.args.row c.pair_at-p.result c.requires.pairs c.pair_at-p.ensures.pair (omega arith)).0

pub prev-requires-then-row-count : goal.prev-requires-then-row-count
prev-requires-then-row-count c = (pair_inside c.args.chain.now c.args.pairs.now c.args.row c.pair_at-p.result c.requires.pairs c.pair_at-p.ensures.pair (omega arith)).1

pub returns-then-row-count : goal.returns-then-row-count
returns-then-row-count c =
    let fits : FitsSigned w128 c.difference.result = search rules in
    simp (to_z-of_z fits)
    (c.difference.ensures
    ∙ ap₂ (λ (x y : ℤ). x -ℤ y)
    (c.steps_between-there.ensures.steps ∙ ap (λ (m : ℕ). steps_of c.args.walk.now m c.pair_at-p.result.1) c.prev.ensures.prev)
    (c.steps_between-back.ensures.steps ∙ ap (λ (m : ℕ). steps_of c.args.walk.now m c.pair_at-p.result.0) c.prev-then-row-count.ensures.prev)
    ∙ sym (entry_of_pair c.args.chain.now c.args.walk.now c.args.pairs.now c.args.row c.pair_at-p.result c.requires.pairs c.pair_at-p.ensures.pair (omega arith)))
