use Rattle.std.proofs.Common.{to_z-of_z}
use Rattle.sc_simplex.proofs.Ratios.{never_refused}
use Rattle.sc_simplex.proofs.values.ratio.Goals as goal

pub unreachable-requires : goal.unreachable-requires
unreachable-requires c =
    let zero = simp (to_z-of_z c.ranges.den) at c.new.ensures.zero in
    let evidence = simp (to_z-of_z c.ranges.num, to_z-of_z c.ranges.den) at c.new.ensures.evidence in
    never_refused c.args.num c.args.den c.new.result c.requires zero evidence c.in_default.not-Ok
