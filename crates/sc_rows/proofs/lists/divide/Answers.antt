use Rattle.std.proofs.Common.{subst, sym, unsigned_abs, FitsSigned, to_z-of_z, rules}
use Rattle.std.specs.Int.{◌∣◌, w128}
use Rattle.sc_basis.specs.Products.{at}
use Rattle.sc_rows.proofs.lists.divide.Goals as goal

pub quotient-requires-clause-divides : goal.quotient-requires-clause-divides
quotient-requires-clause-divides c =
    let fits : FitsSigned w128 (at c.loop-index.entries c.loop-index.index) = search rules in
    simp (to_z-of_z fits) (
    subst (λ x. c.args.divisor ∣ unsigned_abs x) (sym (c.loop-index.invariant.rest c.loop-index.index (search rules)))
    (c.requires.divides c.loop-index.index c.loop-index-test.true)
    )
