use Rattle.std.proofs.Common.{ℤ, pos, ◌<ℤ◌, to_z, of_z, to_z-of_z, sym, subst}
use Rattle.std.specs.Int.{w128}
use Rattle.sc_crossing.proofs.Refusals.{never_refused}
use Rattle.sc_crossing.proofs.form.fraction.Goals as goal

pub unreachable-requires : goal.unreachable-requires
unreachable-requires c =
    never_refused (to_z w128 (of_z w128 c.args.num)) (to_z w128 (of_z w128 c.args.den)) c.in-Err.field-0
    (subst (λ (z : ℤ). pos 0 <ℤ z) (sym (to_z-of_z c.ranges.den)) c.requires) c.in-Err.ensures.zero c.in-Err.ensures.evidence
