use Rattle.std.proofs.Common.{ℕ, inl, inr, ap, subst, ◌∙◌, pos, ◌+ℤ◌, ◌*ℤ◌, FitsSigned, to_z-of_z, rules}
use Rattle.std.specs.Int.{w128}
use Rattle.std.proofs.lemmas.Result.{err_from_is_err_and}
use Rattle.sc_weight.specs.Levels.{Levels}
use Rattle.sc_weight.specs.declared.level.Level.TheVariants.{Fine}
use Rattle.sc_theory.specs.Prices.{price}
use Rattle.sc_solve.specs.PriceLevels.{list_at}
use Rattle.sc_solve.specs.inside.Lifts.{fine_in}
use Rattle.sc_solve.specs.Lifts.{IsWideSum}
use Rattle.sc_solve.proofs.Sizes.{greatest_same, turned_same}
use Rattle.sc_solve.proofs.lifting.full_factor.Goals as goal

pub returns-in_err-size-clause-faults : goal.returns-in_err-size-clause-faults
returns-in_err-size-clause-faults c =
    let p = err_from_is_err_and c.from_residual-in_err-size.result c.from_residual-in_err-size.ensures.1 in
    rw (p.1, p.2) (inr (inl (record {
      some_bulk = c.requires.some_bulk;
      turned =
          turned_same c.args.chain.now (fine_in c.in_ok-steps.steps) (price c.args.chain.now (list_at c.args.chain.now c.args.prices.now Fine))
          (λ i j step. ap (λ (l : Levels). l.fine) (c.in_ok-steps.ensures.prices i j step)) _ c.in_err-size.ensures.faults;
    })))

pub returns-in_err-factor-clause-faults : goal.returns-in_err-factor-clause-faults
returns-in_err-factor-clause-faults c =
    let p = err_from_is_err_and c.from_residual-in_err-factor.result c.from_residual-in_err-factor.ensures.1 in
    let fits : FitsSigned w128 c.in_ok-size.size = search rules in
    let fits_scale : FitsSigned w128 c.args.prices.now.fine.scale = search rules in
    let wide = simp (to_z-of_z fits, to_z-of_z fits_scale) at c.in_err-factor.ensures.faults in
    rw (p.1, p.2) (inr (inr (record {
      some_bulk = c.requires.some_bulk;
      size = c.in_ok-size.size;
      greatest =
          greatest_same c.args.chain.now (fine_in c.in_ok-steps.steps) (price c.args.chain.now (list_at c.args.chain.now c.args.prices.now Fine))
          (λ i j step. ap (λ (l : Levels). l.fine) (c.in_ok-steps.ensures.prices i j step)) _ c.in_ok-size.ensures.greatest;
      wide = subst (λ (n : ℕ). IsWideSum c.args.prices.now.fine.scale n c.in_ok-size.size c.in_err-factor.field-0.0) c.positions.ensures.positions wide;
    })))

pub returns-clause-factor : goal.returns-clause-factor
returns-clause-factor c =
    let fits : FitsSigned w128 c.in_ok-size.size = search rules in
    let fits_factor : FitsSigned w128 c.in_ok-factor.factor = search rules in
    let fits_scale : FitsSigned w128 c.args.prices.now.fine.scale = search rules in
    let value = simp (to_z-of_z fits, to_z-of_z fits_scale) at c.in_ok-factor.ensures.factor in
    record {
      some_bulk = c.requires.some_bulk;
      size = c.in_ok-size.size;
      greatest =
          greatest_same c.args.chain.now (fine_in c.in_ok-steps.steps) (price c.args.chain.now (list_at c.args.chain.now c.args.prices.now Fine))
          (λ i j step. ap (λ (l : Levels). l.fine) (c.in_ok-steps.ensures.prices i j step)) _ c.in_ok-size.ensures.greatest;
      factor_is = simp (to_z-of_z fits_factor) (value ∙ ap (λ (n : ℕ). c.args.prices.now.fine.scale +ℤ pos n *ℤ c.in_ok-size.size) c.positions.ensures.positions);
    }
