use Rattle.std.proofs.Common.{◌≡◌, ◌∙◌, subst, List, FitsSigned, to_z-of_z, rules}
use Rattle.std.specs.Int.{w128}
use Rattle.sc_basis.specs.Products.{at}
use Rattle.sc_rows.specs.Lines.{Line, AreRows}
use Rattle.sc_rows.proofs.RowLaws.{ArePutIn, put_together, rows_pivoted, are_rows_again}
use Rattle.sc_rows.proofs.StandingLaws.{rows_stand_after}
use Rattle.sc_rows.proofs.rows.RowSet.pivot.Goals as goal

put : (c : goal.After-put_all_in) → ArePutIn c.args.self.now c.put_all_in.new.rows.items (at c.args.along.now.items) c.args.row
put c =
    let rows : c.as_slice.result.now ≡ c.args.self.now = c.as_slice.ensures.value ∙ c.self.view_is in
    let rows_again : c.as_slice-2.result.now ≡ c.args.self.now = c.as_slice-2.ensures.value ∙ c.self.view_is in
    let along : c.as_slice-along.result.now ≡ c.args.along.now.items = c.as_slice-along.ensures.value in
    let product : FitsSigned w128 (at c.as_slice-along.result.now c.args.row) = search rules in
    let clean = simp (to_z-of_z product) at c.in_ok-left.ensures.reduced in
    let reduced = simp (rows, along) at clean in
    let left_size = simp rows at c.in_ok-left.ensures.size in
    let fresh = simp (rows_again, along) at c.in_ok-fresh.ensures.fresh in
    let size = simp c.self.view_is at c.put_all_in.ensures.size in
    let others = simp c.self.view_is at c.put_all_in.ensures.others in
    put_together c.args.self.now c.put_all_in.new.rows.items c.in_ok-fresh.fresh.items (at c.args.along.now.items) c.args.row c.in_ok-left.left left_size reduced fresh size c.put_all_in.ensures.left others

pub invariant_of-self : goal.invariant_of-self
invariant_of-self c =
    let old : AreRows c.args.self.now = subst (λ (rows : List Line). AreRows rows) c.self.view_is c.self.invariant in
    are_rows_again c.args.self.now c.put_all_in.new.rows.items (at c.args.along.now.items) c.args.row c.requires.inside c.requires.positive old (put c)

pub returns-clause-pivoted : goal.returns-clause-pivoted
returns-clause-pivoted c = rows_pivoted c.args.self.now c.put_all_in.new.rows.items (at c.args.along.now.items) c.args.row (put c)

pub returns-clause-stands : goal.returns-clause-stands
returns-clause-stands c =
    λ basis column old products.
    rows_stand_after c.args.self.now c.put_all_in.new.rows.items (at c.args.along.now.items) c.args.row basis column c.requires.inside c.requires.positive (put c) old products
