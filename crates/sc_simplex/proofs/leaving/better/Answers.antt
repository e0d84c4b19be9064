use Rattle.std.proofs.Common.{◌≡◌, ◌∙◌, ℕ, length, pos, ◌<ℤ◌, Option, FitsSigned, to_z, of_z, to_z-of_z, add-one, sym, subst, rules}
use Rattle.std.specs.Int.{w128}
use Rattle.sc_basis.specs.Products.{at, dot}
use Rattle.sc_rows.specs.Lines.{row_of}
use Rattle.sc_simplex.specs.inside.Leaving.{IsBestRow, IsBest}
use Rattle.sc_simplex.specs.declared.leaving.Best.{Best}
use Rattle.sc_simplex.proofs.OrderLaws.{best_taken, best_stays}
use Rattle.sc_simplex.proofs.leaving.better.Goals as goal

pub returns-in-Less-clause-best : goal.returns-in-Less-clause-best
returns-in-Less-clause-best c =
    let fits : FitsSigned w128 c.in_ok-value.field-0 = search rules in
    let value : to_z w128 (of_z w128 c.in_ok-value.field-0) ≡ dot (length c.args.rows.now) (row_of c.args.rows.now c.args.index) (at c.args.rhs.now.items) = to_z-of_z fits ∙ c.in_ok-value.ensures.value in
    let positive : pos 0 <ℤ at c.args.along.now c.args.index = search rules in
    let best : IsBestRow c.args.rows.now (at c.args.rhs.now.items) (at c.args.along.now) c.args.index c.in-Some.least =
    subst (λ (o : Option Best). IsBest c.args.rows.now (at c.args.rhs.now.items) (at c.args.along.now) c.args.index o) c.in-Some.is c.requires.best in
    subst (λ (n : ℕ). IsBestRow c.args.rows.now (at c.args.rhs.now.items) (at c.args.along.now) n (record { row = c.args.index; value = to_z w128 (of_z w128 c.in_ok-value.field-0) })) (sym (add-one c.args.index))
    (best_taken c.args.rows.now (at c.args.rhs.now.items) (at c.args.along.now) c.args.index _ c.in-Some.least value positive best c.compare_rows.result c.in-Less.is c.compare_rows.ensures)

pub returns-in_default-compare_rows-clause-best : goal.returns-in_default-compare_rows-clause-best
returns-in_default-compare_rows-clause-best c =
    let fits : FitsSigned w128 c.in_ok-value.field-0 = search rules in
    let value : to_z w128 (of_z w128 c.in_ok-value.field-0) ≡ dot (length c.args.rows.now) (row_of c.args.rows.now c.args.index) (at c.args.rhs.now.items) = to_z-of_z fits ∙ c.in_ok-value.ensures.value in
    let positive : pos 0 <ℤ at c.args.along.now c.args.index = search rules in
    let best : IsBestRow c.args.rows.now (at c.args.rhs.now.items) (at c.args.along.now) c.args.index c.in-Some.least =
    subst (λ (o : Option Best). IsBest c.args.rows.now (at c.args.rhs.now.items) (at c.args.along.now) c.args.index o) c.in-Some.is c.requires.best in
    subst (λ (n : ℕ). IsBestRow c.args.rows.now (at c.args.rhs.now.items) (at c.args.along.now) n c.in-Some.least) (sym (add-one c.args.index))
    (best_stays c.args.rows.now (at c.args.rhs.now.items) (at c.args.along.now) c.args.index _ c.in-Some.least value positive best c.compare_rows.result c.in_default-compare_rows.not-Less c.requires.index c.requires.apart c.compare_rows.ensures)
