use Rattle.std.proofs.Common.{rules, to_z-of_z, FitsSigned}
use Rattle.std.specs.Int.{w128}
use Rattle.sc_svg.proofs.fan.print_line.Goals as goal

pub returns : goal.returns
returns c =
    let from_x : FitsSigned w128 c.args.from.x = search rules in
    let from_y : FitsSigned w128 c.args.from.y = search rules in
    let to_x : FitsSigned w128 c.args.to.x = search rules in
    let to_y : FitsSigned w128 c.args.to.y = search rules in
    simp to_z-of_z at c.print_pieces.ensures
