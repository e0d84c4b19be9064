use Rattle.std.proofs.Common.{◌≡◌, inr, ◌∙◌, ap, ◌*ℤ◌, length, FitsSigned, to_z-of_z, rules}
use Rattle.std.specs.Int.{w128}
use Rattle.std.proofs.lemmas.Result.{err_from_is_err_and}
use Rattle.sc_basis.specs.Products.{at}
use Rattle.sc_basis.proofs.Pivoting.{reduced_same}
use Rattle.sc_rows.specs.Lines.{Line}
use Rattle.sc_rows.specs.Updates.{joined}
use Rattle.sc_rows.proofs.UpdateLaws.{scale_positive, among_wide}
use Rattle.sc_rows.proofs.update.updated.Goals as goal

pub returns-in_err-entries-clause-evidence : goal.returns-in_err-entries-clause-evidence
returns-in_err-entries-clause-evidence c =
    let den : c.left.inside.den ≡ c.args.left.now.den = ap (λ (l : Line). l.den) c.left.view_is in
    let entries : c.as_slice.result.now ≡ c.args.left.now.entries = c.as_slice.ensures.value ∙ ap (λ (l : Line). l.entries) c.left.view_is in
    let fits : FitsSigned w128 c.left.inside.den = search rules in
    let ratio_was = simp (to_z-of_z c.ranges.product, to_z-of_z fits) at c.lowest-ratio.ensures in
    let ratio = simp den at ratio_was in
    let wide = simp entries at c.in_err-entries.ensures.evidence in
    let p = err_from_is_err_and c.from_residual.result c.from_residual.ensures.1 in
    rw (p.1, p.2) (
    among_wide c.args.update (length c.args.list.now) (at c.args.list.now) c.args.den (at c.args.left.now.entries) c.args.left.now.den c.args.product c.lowest-ratio.result.den c.lowest-ratio.result.num _ ratio wide
    )

pub returns-in_err-den-clause-evidence : goal.returns-in_err-den-clause-evidence
returns-in_err-den-clause-evidence c =
    let den : c.left.inside.den ≡ c.args.left.now.den = ap (λ (l : Line). l.den) c.left.view_is in
    let fits : FitsSigned w128 c.left.inside.den = search rules in
    let ratio_den : FitsSigned w128 c.lowest-ratio.result.den = search rules in
    let ratio_was = simp (to_z-of_z c.ranges.product, to_z-of_z fits) at c.lowest-ratio.ensures in
    let ratio = simp den at ratio_was in
    let wide = simp (to_z-of_z c.ranges.den, to_z-of_z ratio_den, c.scale_spot.ensures) at c.in_err-den.ensures.evidence in
    let p = err_from_is_err_and c.from_residual-in_err-den.result c.from_residual-in_err-den.ensures.1 in
    rw (p.1, p.2) (record { p = c.lowest-ratio.result.den; q = c.lowest-ratio.result.num; ratio = ratio; wide = inr wide })

pub reduce-requires : goal.reduce-requires
reduce-requires c =
    let den : c.left.inside.den ≡ c.args.left.now.den = ap (λ (l : Line). l.den) c.left.view_is in
    let fits : FitsSigned w128 c.left.inside.den = search rules in
    let ratio_den : FitsSigned w128 c.lowest-ratio.result.den = search rules in
    let new : FitsSigned w128 c.in_ok-den.den = search rules in
    let ratio_was = simp (to_z-of_z c.ranges.product, to_z-of_z fits) at c.lowest-ratio.ensures in
    let ratio = simp den at ratio_was in
    let value = simp (to_z-of_z c.ranges.den, to_z-of_z ratio_den) at c.in_ok-den.ensures.value in
    rw (to_z-of_z new, value) (scale_positive c.args.left.now.den c.args.product c.lowest-ratio.result.den c.lowest-ratio.result.num c.args.den c.requires.left_den c.requires.den ratio)

pub returns-clause-updated : goal.returns-clause-updated
returns-clause-updated c =
    let den : c.left.inside.den ≡ c.args.left.now.den = ap (λ (l : Line). l.den) c.left.view_is in
    let entries : c.as_slice.result.now ≡ c.args.left.now.entries = c.as_slice.ensures.value ∙ ap (λ (l : Line). l.entries) c.left.view_is in
    let fits : FitsSigned w128 c.left.inside.den = search rules in
    let ratio_den : FitsSigned w128 c.lowest-ratio.result.den = search rules in
    let new : FitsSigned w128 c.in_ok-den.den = search rules in
    let ratio_was = simp (to_z-of_z c.ranges.product, to_z-of_z fits) at c.lowest-ratio.ensures in
    let ratio = simp den at ratio_was in
    let value = simp (to_z-of_z c.ranges.den, to_z-of_z ratio_den) at c.in_ok-den.ensures.value in
    let joined_entries = simp entries at c.in_ok-entries.ensures.entries in
    let reduced = simp (c.in_ok-entries.ensures.size, to_z-of_z new) at c.reduce.ensures.reduced in
    record {
      p = c.lowest-ratio.result.den;
      q = c.lowest-ratio.result.num;
      ratio = ratio;
      reduced = reduced_same (length c.args.list.now) (at c.reduce.result.entries) c.reduce.result.den (at c.in_ok-entries.entries.items)
          (λ k. joined c.args.update (at c.args.list.now k *ℤ c.lowest-ratio.result.den) (c.lowest-ratio.result.num *ℤ at c.args.left.now.entries k))
          c.in_ok-den.den (c.args.den *ℤ c.lowest-ratio.result.den) joined_entries value reduced;
    }
