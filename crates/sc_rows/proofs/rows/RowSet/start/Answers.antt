use Rattle.std.proofs.Common.{◌≡◌, ◌<◌, ◌∙◌, arith, subst, ℕ, get_or}
use Rattle.sc_rows.specs.inside.Lines.{IsUnitLine}
use Rattle.sc_rows.specs.Lines.{no_line}
use Rattle.sc_rows.proofs.RowLaws.{are_unit_rows}
use Rattle.sc_rows.proofs.StandingLaws.{unit_rows_stand}
use Rattle.sc_rows.proofs.rows.RowSet.start.Goals as goal

pub invariant_of-result : goal.invariant_of-result
invariant_of-result c =
    let all : c.loop-index.index ≡ c.args.r = omega arith in
    are_unit_rows c.args.r c.loop-index.rows.items (c.loop-index.invariant.size ∙ all)
    (subst (λ (n : ℕ). (i : ℕ) → i < n → IsUnitLine c.args.r i (get_or c.loop-index.rows.items i no_line)) all c.loop-index.invariant.units)

pub returns-clause-stands : goal.returns-clause-stands
returns-clause-stands c =
    let all : c.loop-index.index ≡ c.args.r = omega arith in
    unit_rows_stand c.args.r c.loop-index.rows.items (c.loop-index.invariant.size ∙ all)
    (subst (λ (n : ℕ). (i : ℕ) → i < n → IsUnitLine c.args.r i (get_or c.loop-index.rows.items i no_line)) all c.loop-index.invariant.units)
