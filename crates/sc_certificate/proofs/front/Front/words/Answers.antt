use Rattle.std.proofs.Common.{◌≡◌, ap, sym, subst, ◌∙◌}
use Rattle.sc_line.specs.Formats.{told}
use Rattle.sc_line.specs.Forms.{and_also}
use Rattle.sc_theory.specs.Chains.{Chain}
use Rattle.sc_text.specs.Surfaces.{IsChainInRange}
use Rattle.sc_certificate.specs.Fronts.{FrontSoFar, front_at, IsReached}
use Rattle.sc_certificate.proofs.LineLaws.{words_told, words_in_range}
use Rattle.sc_certificate.proofs.front.Front.words.Goals as goal

pub returns-clause-told : goal.returns-clause-told
returns-clause-told c =
    let words : c.args.self.now.words.items ≡ c.values.result.now = ap (λ (p : FrontSoFar). p.words.items) (sym c.self.view_is) ∙ sym c.values.ensures in
    words_told c.args.self.now c.requires ∙ ap (λ (ws : Chain). told (and_also tt ws)) words

pub returns-clause-in_range : goal.returns-clause-in_range
returns-clause-in_range c =
    let words : c.args.self.now.words.items ≡ c.values.result.now = ap (λ (p : FrontSoFar). p.words.items) (sym c.self.view_is) ∙ sym c.values.ensures in
    let reached = subst (λ (p : FrontSoFar). IsReached (front_at p)) c.self.view_is c.self.invariant in
    subst IsChainInRange words (words_in_range c.args.self.now reached c.requires)
