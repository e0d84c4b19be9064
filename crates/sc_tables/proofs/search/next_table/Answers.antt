use Rattle.std.proofs.Common.{◌≡◌, ℕ, ◌+◌, List, length, get_or, Option, None, sym, subst}
use Rattle.sc_tables.specs.inside.Searches.{IsGrowing}
use Rattle.sc_tables.specs.Searches.{IsNext}
use Rattle.sc_tables.proofs.NextTables.{AreNextBelow, table_entry, table_step}
use Rattle.sc_tables.proofs.search.next_table.Goals as goal

pub next_entry-requires-clause-entry : goal.next_entry-requires-clause-entry
next_entry-requires-clause-entry g c =
    table_entry g.W.Weight.levels c.args.prices.now c.args.nodes.now.items c.loop-place.nodes.items c.args.round.fresh c.args.round.start c.args.round.steps c.args.table.now c.loop-place.next.items c.loop-place.place
    c.args.round.end c.requires.end c.requires.entries c.loop-place-test.true c.loop-place.invariant.grows

pub loop-place-preserved : goal.loop-place-preserved
loop-place-preserved g c =
    let len : c.args.round.end ≡ length c.args.nodes.now.items = c.requires.end in
    let growing = subst (λ (n : ℕ). IsGrowing g.W.Weight.levels c.args.prices.now c.args.round.start c.args.round.steps n c.next_entry.new.nodes.items) len c.in_ok-next_entry.ensures.growing in
    let next = subst (λ (n : ℕ). IsNext g.W.Weight.levels c.args.prices.now c.next_entry.new.nodes.items c.args.round.fresh n c.args.round.start c.loop-place.place (get_or c.args.table.now c.loop-place.place None) c.in_ok-next_entry.field-0) len c.in_ok-next_entry.ensures.next in
    subst (λ (os : List (Option ℕ)). AreNextBelow g.W.Weight.levels c.args.prices.now c.args.nodes.now.items c.next_entry.new.nodes.items c.args.round.fresh c.args.round.start c.args.round.steps c.args.table.now os (c.loop-place.place + 1)) (sym c.in_ok-push.ensures.items)
    (table_step g.W.Weight.levels c.args.prices.now c.args.nodes.now.items c.loop-place.nodes.items c.args.round.fresh c.args.round.start c.args.round.steps c.args.table.now c.loop-place.next.items c.loop-place.place
    c.next_entry.new.nodes.items c.in_ok-next_entry.field-0 c.loop-place.invariant c.requires.entries c.loop-place-test.true c.in_ok-next_entry.ensures.grows growing next)
