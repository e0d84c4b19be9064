use Rattle.std.proofs.Common.{◌∙◌, sym, arith, FitsSigned, to_z-of_z, rules}
use Rattle.std.specs.Int.{w128}
use Rattle.std.proofs.lemmas.Result.{err_from_is_err_and}
use Rattle.sc_basis.specs.Products.{at}
use Rattle.sc_rows.proofs.UpdateLaws.{made_next, rest_next, stayed_next}
use Rattle.sc_rows.proofs.update.change_entries.Goals.{then-not-stays+in_ok-entry, else-not-stays}
use Rattle.sc_rows.proofs.update.change_entries.Goals as goal

pub returns-in_err-entry-clause-evidence : goal.returns-in_err-entry-clause-evidence
returns-in_err-entry-clause-evidence c =
    let x : FitsSigned w128 (at c.loop-index.entries c.loop-index.index) = search rules in
    let t : FitsSigned w128 (at c.args.left.now c.loop-index.index) = search rules in
    let was = c.loop-index.invariant.rest c.loop-index.index (search rules) in
    let now_wide = simp (to_z-of_z x, to_z-of_z t) at c.in_err-entry.ensures.evidence in
    let wide = simp was at now_wide in
    let p = err_from_is_err_and c.from_residual.result c.from_residual.ensures.1 in
    rw (p.1, p.2) (c.loop-index.index, search rules, wide)

pub loop-index-preserved : goal.loop-index-preserved
loop-index-preserved c =
    let x : FitsSigned w128 (at c.loop-index.entries c.loop-index.index) = search rules in
    let t : FitsSigned w128 (at c.args.left.now c.loop-index.index) = search rules in
    let was = c.loop-index.invariant.rest c.loop-index.index (search rules) in
    elim c.if-not-stays.branch [
      | then-not-stays+in_ok-entry w ↦
          let new : FitsSigned w128 w.in_ok-entry.entry = search rules in
          let now_value = simp (to_z-of_z x, to_z-of_z t) at w.in_ok-entry.ensures.value in
          let value = simp was at now_value in
          let set_so = simp (to_z-of_z new) at w.entries-is in
          rw set_so (record {
            done = made_next c.args.update c.loop-index.index (at c.args.entries.now) (at c.args.left.now) c.args.ratio.den c.args.ratio.num c.loop-index.entries w.in_ok-entry.entry
                (search rules) value c.loop-index.invariant.done;
            rest = rest_next c.args.update c.loop-index.index (at c.args.entries.now) (at c.args.left.now) c.args.ratio.den c.args.ratio.num c.loop-index.entries w.in_ok-entry.entry
                c.loop-index.invariant.rest;
          })
      | else-not-stays w ↦
          let now_stays = simp (to_z-of_z x, to_z-of_z t) at (c.stays.ensures w.if-not-stays.false c.args.update) in
          let stays = simp was at now_stays in
          rw (w.entries-is) (record {
            done = stayed_next c.args.update c.loop-index.index (at c.args.entries.now) (at c.args.left.now) c.args.ratio.den c.args.ratio.num c.loop-index.entries
                (was ∙ sym stays) c.loop-index.invariant.done;
            rest = λ k past. c.loop-index.invariant.rest k (omega arith);
          })
    ]
