use Rattle.std.proofs.Common.{◌<◌, List, sym, subst}
use Rattle.std.specs.List.{AllByRecursion}
use Rattle.sc_theory.specs.Columns.{rows}
use Rattle.sc_chain.specs.declared.polygon.Pivot.{Pivot}
use Rattle.sc_fraction.specs.declared.frac.Frac.{Frac}
use Rattle.sc_assembly.specs.Multiples.{AreValues}
use Rattle.sc_solve.specs.Solutions.{last_items}
use Rattle.sc_solve.specs.inside.Assembling.{valued, IsMadeOf, IsPartStop}
use Rattle.sc_solve.proofs.CertificateRanges.{lift_counts}
use Rattle.sc_solve.proofs.EndingLaws.{rows_few, balance_of, end_rows, ending_values, solution_is, solution_readable, unglued_is}
use Rattle.sc_solve.proofs.solving.glued_solution.Goals as goal

pub surface_of-requires-clause-few : goal.surface_of-requires-clause-few
surface_of-requires-clause-few c = rows_few c.args.chain.now c.check_chain.ensures

pub surface_of-requires-clause-rows : goal.surface_of-requires-clause-rows
surface_of-requires-clause-rows c =
    let e = c.args.ending in
    subst (λ (js : List Pivot). AllByRecursion (λ p. p.row < rows c.args.chain.now) js) (sym c.as_slice-journal.ensures.value)
    (end_rows c.args.chain.now c.requires.ending.0 e.journal.items c.requires.ending.1.lawful)

pub surface_of-requires-clause-values : goal.surface_of-requires-clause-values
surface_of-requires-clause-values c =
    let e = c.args.ending in
    let chain = c.args.chain.now in
    subst (λ (js : List Pivot). AreValues chain (valued (last_items chain js) c.as_slice.result.now)) (sym c.as_slice-journal.ensures.value)
    (subst (λ (vs : List Frac). AreValues chain (valued (last_items chain e.journal.items) vs)) (sym c.as_slice.ensures.value)
    (ending_values chain c.requires.ending.0 e.journal.items e.prices e.values.items e.columns c.requires.ending.1 (balance_of chain c.check_chain.ensures.chain c.requires.balanced)))

pub certified-requires-clause-sizes : goal.certified-requires-clause-sizes
certified-requires-clause-sizes c = lift_counts c.args.chain.now c.args.ending.prices c.args.list c.requires.lift

pub returns-in_ok-solution-in-Ok-clause-solution :
    goal.returns-in_ok-solution-in-Ok-clause-solution
returns-in_ok-solution-in-Ok-clause-solution c =
    let e = c.args.ending in
    let chain = c.args.chain.now in
    let f = c.in-Ok.fatgraph in
    let made : IsMadeOf chain (valued (last_items chain e.journal.items) e.values.items) f =
    subst (λ (js : List Pivot). IsMadeOf chain (valued (last_items chain js) e.values.items) f) c.as_slice-journal.ensures.value
    (subst (λ (vs : List Frac). IsMadeOf chain (valued (last_items chain c.as_slice-journal.result.now) vs) f) c.as_slice.ensures.value c.in-Ok.ensures.made) in
    λ budget is. solution_is chain budget e c.args.list f c.in_ok-solution-in-Ok.solution is (balance_of chain c.check_chain.ensures.chain c.requires.balanced) c.requires.lift c.requires.covers made c.in_ok-solution-in-Ok.ensures

pub returns-in_ok-solution-in-Ok-clause-readable :
    goal.returns-in_ok-solution-in-Ok-clause-readable
returns-in_ok-solution-in-Ok-clause-readable c = λ budget is in_range few.
    solution_readable c.args.chain.now budget c.args.ending c.args.list c.in-Ok.fatgraph c.in_ok-solution-in-Ok.solution is c.check_chain.ensures c.requires.lift c.in-Ok.ensures.made.over c.in_ok-solution-in-Ok.ensures in_range few

pub returns-in-Err-clause-stopped : goal.returns-in-Err-clause-stopped
returns-in-Err-clause-stopped c =
    let e = c.args.ending in
    let chain = c.args.chain.now in
    let stop : IsPartStop chain (valued (last_items chain e.journal.items) e.values.items) c.in-Err.stop =
    subst (λ (js : List Pivot). IsPartStop chain (valued (last_items chain js) e.values.items) c.in-Err.stop) c.as_slice-journal.ensures.value
    (subst (λ (vs : List Frac). IsPartStop chain (valued (last_items chain c.as_slice-journal.result.now) vs) c.in-Err.stop) c.as_slice.ensures.value c.in-Err.ensures.stopped) in
    λ budget is. unglued_is chain budget e c.in-Err.stop c.unglued.result is stop c.unglued.ensures
