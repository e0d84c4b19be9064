use Rattle.std.proofs.Common.{◌≡◌, ℕ, ◌+◌, ◌<◌, List, length, inl, inr, ap, arith, ◌∙◌, FitsSigned, to_z-of_z, rules}
use Rattle.std.specs.Int.{w128}
use Rattle.std.proofs.lemmas.Result.{err_from_is_err_and}
use Rattle.sc_theory.specs.Prices.{pairs}
use Rattle.sc_solve.specs.Lifts.{IsWideBefore, IsWideRow, IsWideLift}
use Rattle.sc_solve.proofs.LiftedRows.{refused_by}
use Rattle.sc_solve.proofs.lifting.lifted.Goals as goal

pub returns-in_err-factor-clause-faults : goal.returns-in_err-factor-clause-faults
returns-in_err-factor-clause-faults c =
    let p = err_from_is_err_and c.from_residual.result c.from_residual.ensures.1 in
    rw (p.1, p.2) (refused_by (IsWideBefore c.args.chain.now c.args.prices.now) (IsWideLift c.args.chain.now c.args.prices.now) (λ w is. inl is) _ c.in_err-factor.ensures.faults)

pub returns-in_err-pair-clause-faults : goal.returns-in_err-pair-clause-faults
returns-in_err-pair-clause-faults c =
    let count : c.count-count.result ≡ length (pairs c.args.chain.now) = c.count-count.ensures.count ∙ ap (λ (ps : List (ℕ × ℕ)). length ps) c.requires.pairs in
    let fits : FitsSigned w128 c.in_ok-factor.factor = search rules in
    let faults = simp (to_z-of_z fits) at c.in_err-pair.ensures.faults in
    let p = err_from_is_err_and c.from_residual-in_err-pair.result c.from_residual-in_err-pair.ensures.1 in
    rw (p.1, p.2) (
    refused_by (λ w. (row : ℕ) × (row < 0 + c.count-count.result) × IsWideRow c.args.prices.now c.in_ok-factor.factor row w) (IsWideLift c.args.chain.now c.args.prices.now)
    (λ w is. inr (inl (record { factor = c.in_ok-factor.factor; is_factor = c.in_ok-factor.ensures.factor; row = is.0; inside = omega (arith, is.1, count); wide = is.2 }))) _ faults)

pub returns-in_err-base-clause-faults : goal.returns-in_err-base-clause-faults
returns-in_err-base-clause-faults c =
    let count : c.count-count.result ≡ length (pairs c.args.chain.now) = c.count-count.ensures.count ∙ ap (λ (ps : List (ℕ × ℕ)). length ps) c.requires.pairs in
    let words : c.words-words.result ≡ length c.args.chain.now = c.words-words.ensures.words in
    let fits : FitsSigned w128 c.in_ok-factor.factor = search rules in
    let faults = simp (to_z-of_z fits) at c.in_err-base.ensures.faults in
    let p = err_from_is_err_and c.from_residual-in_err-base.result c.from_residual-in_err-base.ensures.1 in
    rw (p.1, p.2) (
    refused_by (λ w. (row : ℕ) × (row < c.count-count.result + c.words-words.result) × IsWideRow c.args.prices.now c.in_ok-factor.factor row w) (IsWideLift c.args.chain.now c.args.prices.now)
    (λ w is. inr (inl (record { factor = c.in_ok-factor.factor; is_factor = c.in_ok-factor.ensures.factor; row = is.0; inside = omega (arith, is.1, count, words); wide = is.2 }))) _ faults)
