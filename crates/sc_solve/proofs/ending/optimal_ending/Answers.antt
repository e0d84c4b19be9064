use Rattle.std.proofs.Common.{◌^◌, ◌<◌, ◌≤◌, length, arith}
use Rattle.sc_theory.specs.Columns.{right_side}
use Rattle.sc_solve.proofs.EndingLaws.{few_columns, optimum_polygons, ending_is, stop_polygons, stop_is}
use Rattle.sc_solve.proofs.ending.optimal_ending.Goals as goal

pub polygon_ending-requires-clause-polygons : goal.polygon_ending-requires-clause-polygons
polygon_ending-requires-clause-polygons c = optimum_polygons c.args.chain.now c.args.budget c.in-Ok.optimum c.in-Ok.ensures.optimum

pub polygon_ending-requires-clause-few : goal.polygon_ending-requires-clause-few
polygon_ending-requires-clause-few c =
    let few : length c.in-Ok.optimum.columns ≤ c.args.budget = few_columns c.args.chain.now c.args.budget c.in-Ok.optimum c.in-Ok.ensures.optimum in
    let budget : c.args.budget < 2 ^ 32 = c.ranges.budget.fits in
    omega arith

pub stop_of-requires : goal.stop_of-requires
stop_of-requires c = stop_polygons c.args.chain.now (right_side c.args.chain.now) c.args.budget c.in-Err.fault c.in-Err.ensures.stopped

pub returns-in_ok-found-in-Ok-clause-ending : goal.returns-in_ok-found-in-Ok-clause-ending
returns-in_ok-found-in-Ok-clause-ending c = ending_is c.args.chain.now c.args.budget c.in-Ok.optimum c.in_ok-found-in-Ok.found c.in-Ok.ensures.optimum c.in_ok-found-in-Ok.ensures

pub returns-in_ok-stop-in-Err-clause-stopped : goal.returns-in_ok-stop-in-Err-clause-stopped
returns-in_ok-stop-in-Err-clause-stopped c = stop_is c.args.chain.now c.args.budget c.in-Err.fault c.in_ok-stop-in-Err.stop c.in-Err.ensures.stopped c.in_ok-stop-in-Err.ensures
