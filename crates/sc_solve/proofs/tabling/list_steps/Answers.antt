use Rattle.std.proofs.Common.{◌∙◌, map, ap}
use Rattle.sc_solve.specs.ListSteps.{plain}
use Rattle.sc_solve.proofs.ListTotals.{steps_by_list, no_step_fault}
use Rattle.sc_solve.proofs.tabling.list_steps.Goals as goal

pub returns-in-Ok : goal.returns-in-Ok
returns-in-Ok c =
    steps_by_list c.args.chain.now c.args.list.now c.in-Ok.prices c.in_ok-pair.pair.items c.in_ok-base.base.items
    (c.in_ok-pair.ensures ∙ ap (map plain) c.pair.ensures.pair) (c.in_ok-base.ensures ∙ ap (map plain) c.base.ensures.base) c.in-Ok.ensures.steps c.in-Ok.ensures.prices

pub unreachable-requires : goal.unreachable-requires
unreachable-requires c =
    no_step_fault c.args.chain.now c.args.list.now c.pair.ensures.small c.in_ok-pair.pair.items c.in_ok-base.base.items
    (c.in_ok-pair.ensures ∙ ap (map plain) c.pair.ensures.pair) (c.in_ok-base.ensures ∙ ap (map plain) c.base.ensures.base) c.in-Err.fault c.in-Err.ensures.faults c.in_default.not-Memory
