use Rattle.std.proofs.Common.{inl, inr, FitsSigned, to_z-of_z, rules}
use Rattle.std.specs.Int.{w128}
use Rattle.std.proofs.lemmas.Result.{err_from_is_err_and}
use Rattle.sc_rows.proofs.update.new_entry.Goals as goal

pub returns-in_err-left-clause-evidence : goal.returns-in_err-left-clause-evidence
returns-in_err-left-clause-evidence c =
    let den : FitsSigned w128 c.args.ratio.den = search rules in
    let wide = simp (to_z-of_z c.ranges.x, to_z-of_z den, c.left_spot.ensures) at c.in_err-left.ensures.evidence in
    let p = err_from_is_err_and c.from_residual.result c.from_residual.ensures.1 in
    rw (p.1, p.2) (inl wide)

pub returns-in_err-right-clause-evidence : goal.returns-in_err-right-clause-evidence
returns-in_err-right-clause-evidence c =
    let num : FitsSigned w128 c.args.ratio.num = search rules in
    let wide = simp (to_z-of_z num, to_z-of_z c.ranges.t, c.right_spot.ensures) at c.in_err-right.ensures.evidence in
    let p = err_from_is_err_and c.from_residual-in_err-right.result c.from_residual-in_err-right.ensures.1 in
    rw (p.1, p.2) (inr (inl wide))

pub returns-in_err-joined-clause-evidence : goal.returns-in_err-joined-clause-evidence
returns-in_err-joined-clause-evidence c =
    let den : FitsSigned w128 c.args.ratio.den = search rules in
    let num : FitsSigned w128 c.args.ratio.num = search rules in
    let left : FitsSigned w128 c.in_ok-left.left = search rules in
    let right : FitsSigned w128 c.in_ok-right.right = search rules in
    let left_is = simp (to_z-of_z c.ranges.x, to_z-of_z den) at c.in_ok-left.ensures.value in
    let right_is = simp (to_z-of_z num, to_z-of_z c.ranges.t) at c.in_ok-right.ensures.value in
    let wide = simp (to_z-of_z left, to_z-of_z right) at c.in_err-joined.ensures.evidence in
    let p = err_from_is_err_and c.from_residual-in_err-joined.result c.from_residual-in_err-joined.ensures.1 in
    rw (p.1, p.2) (inr (inr (rw (left_is, right_is) at wide)))
