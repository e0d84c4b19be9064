use Rattle.std.proofs.Common.{◌≡◌, ◌≢◌, ◌∙◌, sym, ap, length, get_or, pos, FitsSigned, to_z, of_z, to_z-of_z, rules}
use Rattle.std.specs.Int.{w128}
use Rattle.std.proofs.lemmas.Result.{err_from_is_err_and}
use Rattle.sc_basis.specs.Products.{at}
use Rattle.sc_rows.specs.Lines.{Line, no_line, den_of}
use Rattle.sc_rows.proofs.Pushed.{same_read}
use Rattle.sc_rows.proofs.RowLaws.{stays, made, moving_wide}
use Rattle.sc_rows.proofs.rows.fresh_row.Goals as goal

pub returns-then-product-eq0-clause-fresh : goal.returns-then-product-eq0-clause-fresh
returns-then-product-eq0-clause-fresh c =
    let fits : FitsSigned w128 (at c.args.along.now c.args.index) = search rules in
    let none : at c.args.along.now c.args.index ≡ pos 0 = sym (to_z-of_z fits) ∙ ap (to_z w128) c.if-product-eq0.true in
    λ apart. stays c.args.rows.now (at c.args.along.now) c.args.leaving c.args.index c.requires.rows c.requires.index c.requires.positive none

pub returns-in_err-updated-clause-evidence : goal.returns-in_err-updated-clause-evidence
returns-in_err-updated-clause-evidence c =
    let line : get_or c.args.rows.now c.args.index no_line ≡ c.index-rows-index.result = same_read c.args.rows.now c.args.index c.index-rows-index.result no_line c.requires.index c.index-rows-index.is in
    let entries : c.as_slice.result.now ≡ (get_or c.args.rows.now c.args.index no_line).entries = c.as_slice.ensures.value ∙ ap (λ (l : Line). l.entries) (c.row.view_is ∙ sym line) in
    let den : c.row.inside.den ≡ den_of c.args.rows.now c.args.index = ap (λ (l : Line). l.den) (c.row.view_is ∙ sym line) in
    let product : FitsSigned w128 (at c.args.along.now c.args.index) = search rules in
    let fits : FitsSigned w128 c.row.inside.den = search rules in
    let moves : at c.args.along.now c.args.index ≢ pos 0 = λ z. c.if-product-eq0.false (ap (of_z w128) z) in
    let clean = simp (to_z-of_z product, to_z-of_z fits) at c.in_err-updated.ensures.evidence in
    let own = simp (entries, den) at clean in
    let wide = simp (c.requires.rows.sizes c.args.index c.requires.index) at own in
    let p = err_from_is_err_and c.from_residual.result c.from_residual.ensures.1 in
    rw (p.1, p.2) (
    moving_wide c.args.rows.now (at c.args.along.now) c.args.leaving c.args.index c.args.left.now _ c.requires.index c.if-index-leaving.false moves c.requires.left wide
    )

pub returns-clause-fresh : goal.returns-clause-fresh
returns-clause-fresh c =
    let line : get_or c.args.rows.now c.args.index no_line ≡ c.index-rows-index.result = same_read c.args.rows.now c.args.index c.index-rows-index.result no_line c.requires.index c.index-rows-index.is in
    let entries : c.as_slice.result.now ≡ (get_or c.args.rows.now c.args.index no_line).entries = c.as_slice.ensures.value ∙ ap (λ (l : Line). l.entries) (c.row.view_is ∙ sym line) in
    let den : c.row.inside.den ≡ den_of c.args.rows.now c.args.index = ap (λ (l : Line). l.den) (c.row.view_is ∙ sym line) in
    let product : FitsSigned w128 (at c.args.along.now c.args.index) = search rules in
    let fits : FitsSigned w128 c.row.inside.den = search rules in
    let clean = simp (to_z-of_z product, to_z-of_z fits) at c.in_ok-updated.ensures.updated in
    let own = simp (entries, den) at clean in
    let updated = simp (c.requires.rows.sizes c.args.index c.requires.index) at own in
    let size = c.in_ok-updated.ensures.size ∙ ap length entries ∙ c.requires.rows.sizes c.args.index c.requires.index in
    λ apart. made c.args.rows.now (at c.args.along.now) c.args.leaving c.args.index c.args.left.now c.in_ok-updated.field-0 c.requires.left updated size
