use Rattle.std.proofs.Common.{◌≡◌, ◌∙◌, ◌+◌, ◌<◌, ℕ, List, ◌∷◌, map, length, codes, false, pos, ℤ, refl, sym, ap, subst}
use Rattle.std.proofs.lemmas.Bool.{false≢true}
use Rattle.std.proofs.lemmas.Result.{err_from_is_err_and}
use Rattle.sc_whole.specs.Spelling.{spelling}
use Rattle.sc_theory.specs.Columns.{rows}
use Rattle.sc_theory.specs.Walks.{IsPolygon}
use Rattle.sc_line.specs.Lines.{fields, IsNarrowed}
use Rattle.sc_certificate.specs.PivotLines.{is_below}
use Rattle.sc_certificate.proofs.PivotLaws.{line_walk_bad, line_no_polygon, line_row_far, line_of_pivot}
use Rattle.sc_certificate.proofs.pivots.pivot_line.Goals as goal
use Rattle.sc_certificate.proofs.pivots.pivot_line.Goals.{After-of-fields}

row_count_is : (c : After-of-fields) → c.count.result + c.words.result ≡ rows c.args.chain.now
row_count_is c = λ i. (c.count.ensures.count ∙ ap (λ (ps : List (ℕ × ℕ)). length ps) c.requires) i + c.words.ensures.words i

pub returns-in_err-walk-clause-err : goal.returns-in_err-walk-clause-err
returns-in_err-walk-clause-err c =
    let named : fields c.args.line.now ≡ codes "pivot" ∷ c.name.new.self = sym c.of-fields.ensures ∙ c.in_ok-name.ensures.ok in
    let p = err_from_is_err_and c.from_residual-in_err-walk.result c.from_residual-in_err-walk.ensures.1 in
    rw (p.1, p.2) (line_walk_bad c.args.chain.now c.args.line.now c.name.new.self named c.number.new.self c.in_ok-row.row c.in_err-walk.field-0.0 c.in_ok-row.ensures.ok (c.in_err-walk.ensures.err c.args.chain.now c.words.ensures.small.few_positions))

pub returns-in_default-clause-err : goal.returns-in_default-clause-err
returns-in_default-clause-err c =
    let named : fields c.args.line.now ≡ codes "pivot" ∷ c.name.new.self = sym c.of-fields.ensures ∙ c.in_ok-name.ensures.ok in
    line_no_polygon c.args.chain.now c.args.line.now c.name.new.self named c.number.new.self c.in_ok-row.row c.in_ok-walk.walk.items c.in_ok-row.ensures.ok c.in_ok-walk.ensures.ok
    (λ polygon. false≢true (c.in_default.ensures.polygon.1 polygon))

pub returns-in_err-row-2-clause-err : goal.returns-in_err-row-2-clause-err
returns-in_err-row-2-clause-err c =
    let named : fields c.args.line.now ≡ codes "pivot" ∷ c.name.new.self = sym c.of-fields.ensures ∙ c.in_ok-name.ensures.ok in
    let p = err_from_is_err_and c.from_residual-in_err-row-2.result c.from_residual-in_err-row-2.ensures.1 in
    let count = row_count_is (goal.at.returns-in_err-row-2-clause-err c).After-of-fields in
    let far : (z : ℤ) → IsNarrowed z c.in_ok-row.row → is_below (rows c.args.chain.now) z ≡ false = λ z narrowed. subst (λ (n : ℕ). is_below n z ≡ false) count (c.in_err-row-2.ensures.err.1 z narrowed) in
    rw (p.1, p.2, c.in_err-row-2.ensures.err.0)
    (line_row_far c.args.chain.now c.args.line.now c.name.new.self named c.number.new.self c.in_ok-row.row c.in_ok-walk.walk.items c.in_ok-row.ensures.ok c.in_ok-walk.ensures.ok (c.in-Some.ensures.polygon.0 refl) far)

pub returns-clause-ok : goal.returns-clause-ok
returns-clause-ok c =
    let named : fields c.args.line.now ≡ codes "pivot" ∷ c.name.new.self = sym c.of-fields.ensures ∙ c.in_ok-name.ensures.ok in
    let count = row_count_is (goal.at.returns-clause-ok c).After-of-fields in
    let walk : c.number.new.self ≡ map (λ i. spelling (pos i)) c.in-Some.polygon = c.in_ok-walk.ensures.ok ∙ ap (λ (w : List ℕ). map (λ i. spelling (pos i)) w) (sym c.in-Some.ensures.walk) in (
      line_of_pivot c.args.chain.now c.args.line.now c.name.new.self named c.number.new.self c.in_ok-row.row c.in_ok-row-2.row c.in-Some.polygon c.in_ok-row.ensures.ok c.in_ok-row-2.ensures.ok.0 walk,
      record {
        row = subst (λ (n : ℕ). c.in_ok-row-2.row < n) count c.in_ok-row-2.ensures.ok.1;
        polygon = subst (IsPolygon c.args.chain.now) (sym c.in-Some.ensures.walk) (c.in-Some.ensures.polygon.0 refl);
      },
    )
