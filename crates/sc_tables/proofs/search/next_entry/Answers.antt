use Rattle.std.proofs.Common.{◌≡◌, ℕ, List, ◌∷◌, [], ◌++◌, length, Some, None, sym, subst, ◌∙◌, slice_get}
use Rattle.sc_tables.specs.declared.search.Node.{Node}
use Rattle.sc_tables.specs.Totals.{IsBelow, IsAtMost}
use Rattle.sc_tables.specs.inside.Searches.{Grows, IsGrowing}
use Rattle.sc_tables.specs.Searches.{IsNext}
use Rattle.sc_tables.proofs.Best.{under_each-along, found-along}
use Rattle.sc_tables.proofs.Growing.{next_start, next_none, next_kept, next_new, walks_last, grows_last}
use Rattle.sc_tables.proofs.search.next_entry.Goals as goal

pub returns-then-place-round-clause-next : goal.returns-then-place-round-clause-next
returns-then-place-round-clause-next g c =
    next_start g.W.Weight.levels c.args.prices.now c.args.nodes.now.items c.args.round.fresh c.args.round.end c.args.round.start c.args.place c.args.entry c.requires.growing.within c.requires.entry c.if-place-round.true

pub returns-in_default-clause-next : goal.returns-in_default-clause-next
returns-in_default-clause-next g c =
    next_none g.W.Weight.levels c.args.prices.now c.args.nodes.now.items c.args.round.fresh c.args.round.end c.args.round.start c.args.place c.args.entry c.requires.growing.within c.requires.entry
    (under_each-along g.W.Weight.levels c.args.prices.now c.as_slice-walks.result.now c.args.nodes.now.items c.args.round.fresh c.args.round.end c.args.place c.in_ok-best.field-0 None c.as_slice-walks.ensures.value c.in_default.is c.in_ok-best.ensures.under_each)

pub returns-then-not-is_better-clause-next : goal.returns-then-not-is_better-clause-next
returns-then-not-is_better-clause-next g c =
    next_kept g.W.Weight.levels c.args.prices.now c.args.nodes.now.items c.args.round.fresh c.args.round.end c.args.round.start c.args.place c.args.entry c.requires.growing.within c.requires.entry
    c.in-Some.best
    (under_each-along g.W.Weight.levels c.args.prices.now c.as_slice-walks.result.now c.args.nodes.now.items c.args.round.fresh c.args.round.end c.args.place c.in_ok-best.field-0 (Some c.in-Some.best) c.as_slice-walks.ensures.value c.in-Some.is c.in_ok-best.ensures.under_each)
    (subst (λ (ns : List (Node g.row.W.Denot)). (n : ℕ) × (x : Node g.row.W.Denot) × (c.args.entry ≡ Some n) × (slice_get ns n ≡ Some x) × IsAtMost (g.W.Weight.levels x.total) (g.W.Weight.levels c.in-Some.best.total)) c.as_slice-walks.ensures.value
    (c.is_better.ensures.kept c.if-not-is_better.true))

pub returns-clause-growing : goal.returns-clause-growing
returns-clause-growing g c =
    let found = found-along g.W.Weight.levels c.args.prices.now c.as_slice-walks.result.now c.args.nodes.now.items c.args.round.fresh c.args.round.end c.args.place c.in_ok-best.field-0 (Some c.in-Some.best) c.as_slice-walks.ensures.value c.in-Some.is c.in_ok-best.ensures.found in
    subst (λ (ns : List (Node g.row.W.Denot)). IsGrowing g.W.Weight.levels c.args.prices.now c.args.round.start c.args.round.steps c.args.round.end ns) (sym c.in_ok-push.ensures.items)
    (walks_last g.W.Weight.levels c.args.prices.now c.args.nodes.now.items c.args.round.start c.args.round.steps c.args.round.end c.args.place c.in-Some.best c.requires.place c.if-place-round.false found.0 found.1 c.requires.growing)

pub returns-clause-grows : goal.returns-clause-grows
returns-clause-grows g c =
    subst (λ (ns : List (Node g.row.W.Denot)). Grows c.args.nodes.now.items ns) (sym c.in_ok-push.ensures.items) (grows_last c.args.nodes.now.items _)

pub returns-clause-next : goal.returns-clause-next
returns-clause-next g c =
    let len : c.len-node.result ≡ length c.args.nodes.now.items = c.len-node.ensures ∙ c.args.nodes.now.ok.0 in
    let next =
    next_new g.W.Weight.levels c.args.prices.now c.args.nodes.now.items c.args.round.fresh c.args.round.end c.args.round.start c.args.place c.args.entry c.requires.growing.within c.requires.entry
    c.if-place-round.false c.in-Some.best c.args.round.steps
    (under_each-along g.W.Weight.levels c.args.prices.now c.as_slice-walks.result.now c.args.nodes.now.items c.args.round.fresh c.args.round.end c.args.place c.in_ok-best.field-0 (Some c.in-Some.best) c.as_slice-walks.ensures.value c.in-Some.is c.in_ok-best.ensures.under_each)
    (subst (λ (ns : List (Node g.row.W.Denot)). (n : ℕ) (x : Node g.row.W.Denot) → c.args.entry ≡ Some n → slice_get ns n ≡ Some x → IsBelow (g.W.Weight.levels c.in-Some.best.total) (g.W.Weight.levels x.total)) c.as_slice-walks.ensures.value
    (c.is_better.ensures.better c.if-not-is_better.false)) in
    subst (λ (ns : List (Node g.row.W.Denot)). IsNext g.W.Weight.levels c.args.prices.now ns c.args.round.fresh c.args.round.end c.args.round.start c.args.place c.args.entry (Some c.len-node.result)) (sym c.in_ok-push.ensures.items)
    (subst (λ (n : ℕ). IsNext g.W.Weight.levels c.args.prices.now (c.args.nodes.now.items ++ record { place = c.args.place; before = c.in-Some.best.node; steps = c.args.round.steps; total = c.in-Some.best.total } ∷ []) c.args.round.fresh c.args.round.end c.args.round.start c.args.place c.args.entry (Some n)) (sym len) next)
