use Rattle.std.proofs.Common.{◌≡◌, ◌∙◌, sym, ap, arith, length, ℕ, FitsSigned, to_z-of_z, rules}
use Rattle.std.specs.Int.{w128}
use Rattle.sc_basis.specs.Products.{at, dot}
use Rattle.sc_basis.specs.Bases.{entry_of}
use Rattle.sc_basis.specs.Entries.{reached, index_at, number_at}
use Rattle.sc_basis.proofs.EntryLaws.{index_inside, product_whole}
use Rattle.sc_rows.proofs.Terms.{column_term}
use Rattle.simplex_examples.proofs.listed.price_of.Goals as goal

pub bounds-prices-row : goal.bounds-prices-row
bounds-prices-row c = index_inside (length c.args.prices.now) 0 c.args.column.now c.loop-n.n c.requires c.loop-n-test.true

pub loop-n-preserved : goal.loop-n-preserved
loop-n-preserved c =
    let x : FitsSigned w128 (at c.args.prices.now (index_at c.args.column.now c.loop-n.n)) = search rules in
    let y : FitsSigned w128 (number_at c.args.column.now c.loop-n.n) = search rules in
    let new : FitsSigned w128 c.in_ok-sum.sum = search rules in
    let next = simp (to_z-of_z x, to_z-of_z y) at c.in_ok-sum.ensures in
    record {
      sum = to_z-of_z new
          ∙ column_term (length c.args.prices.now) (at c.args.prices.now) c.args.column.now c.loop-n.n _ _ c.requires c.loop-n-test.true c.loop-n.invariant.sum next;
    }

pub returns : goal.returns
returns c =
    let all : c.loop-n.n ≡ length c.args.column.now = omega arith in
    c.loop-n.invariant.sum
    ∙ ap (λ (n : ℕ). dot (reached c.args.column.now n) (at c.args.prices.now) (entry_of c.args.column.now)) all
    ∙ sym (product_whole (length c.args.prices.now) (at c.args.prices.now) c.args.column.now c.requires)
