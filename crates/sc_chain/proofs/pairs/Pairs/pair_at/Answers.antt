use Rattle.std.proofs.Common.{◌≡◌, ◌<◌, ◌∙◌, ℕ, List, length, get_or, ap, subst, sym}
use Rattle.std.proofs.lemmas.List.{get_or_default}
use Rattle.sc_chain.specs.Pairs.{row_in}
use Rattle.sc_chain.proofs.PairPlaces.{row_once}
use Rattle.sc_chain.proofs.pairs.Pairs.pair_at.Goals as goal

pub returns-clause-row : goal.returns-clause-row
returns-clause-row c =
    let ps : List (ℕ × ℕ) = c.self.inside.pairs.items in
    let inside : c.args.row < length ps = subst (λ (l : List (ℕ × ℕ)). c.args.row < length l) (sym c.self.view_is) c.requires in
    let is : c.index.result.now ≡ get_or ps c.args.row (0, 0) = c.index.ensures ∙ get_or_default ps c.args.row c.index.result.now (0, 0) inside in
    ap (λ (l : List (ℕ × ℕ)). row_in l c.index.result.now.0 c.index.result.now.1) (sym c.self.view_is)
    ∙ ap (λ (a : ℕ × ℕ). row_in ps a.0 a.1) is
    ∙ row_once ps c.self.inside.positions c.args.row c.self.invariant.pairs inside
