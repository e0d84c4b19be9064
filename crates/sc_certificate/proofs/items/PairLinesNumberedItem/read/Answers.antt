use Rattle.std.proofs.Common.{◌≡◌, ℕ, length, get_or, FitsSigned, to_z-of_z, rules, subst, ◌∙◌}
use Rattle.std.specs.Int.{w128}
use Rattle.sc_theory.specs.Columns.{pair_at}
use Rattle.sc_line.specs.Forms.{Tells}
use Rattle.sc_line.proofs.NumberLaws.{tells_value}
use Rattle.sc_text.specs.PriceLines.{pair_line, pair_fault, pair_price_of_line, IsPriceInRange, a_pair}
use Rattle.sc_text.proofs.KindLaws.{pair_kind}
use Rattle.sc_certificate.proofs.items.PairLinesNumberedItem.read.Goals as goal

pub returns-clause-ok : goal.returns-clause-ok
returns-clause-ok c =
    let told = c.in_ok-pair_line.ensures.ok in
    let y = c.in_ok-pair_line.field-0 in
    let at = c.pair_at-p.result in
    let place : at ≡ pair_at c.args.head.now.chain (length c.args.before.now) = c.pair_at-p.ensures.pair ∙ (λ i. get_or (c.pairs.ensures i) (length c.args.before.now) (0, 0)) in
    let fits : FitsSigned w128 y = search rules in
    simp (to_z-of_z fits) (subst (λ (p : ℕ × ℕ). Tells (a_pair p) c.args.line.now y) place (tells_value (pair_fault at) pair_price_of_line (pair_line at) IsPriceInRange y c.args.line.now (pair_kind at) told.0 told.1))
