use Rattle.std.proofs.Common.{◌≡◌, ◌+◌, ◌<◌, ℕ, List, length, get_or, None, arith, sym, subst, ◌∙◌}
use Rattle.std.proofs.lemmas.Result.{err_from_is_err_and}
use Rattle.sc_tables.specs.declared.search.Node.{Node}
use Rattle.sc_tables.specs.inside.Searches.{AllReach, IsStop, IsGrowing}
use Rattle.sc_tables.specs.Searches.{IsNext}
use Rattle.sc_tables.specs.inside.States.{IsState}
use Rattle.sc_tables.proofs.Best.{at_none}
use Rattle.sc_tables.proofs.States.{first_state, next_state, still_done}
use Rattle.sc_tables.proofs.explore.explore.Goals as goal

pub loop-done-init : goal.loop-done-init
loop-done-init g c =
    first_state g.W.Weight.levels c.args.chain.now c.args.prices.now (g.W.Weight.levels c.args.threshold.now) c.args.start c.args.trails.now.nodes.items c.args.trails.now.table.items
    (omega (arith, c.requires.prices.side)) c.requires.begun

pub returns-in_err-closed-clause-stops : goal.returns-in_err-closed-clause-stops
returns-in_err-closed-clause-stops g c =
    let p = err_from_is_err_and c.from_residual.result c.from_residual.ensures.1 in
    rw (p.1, p.2) (record {
      end = length c.loop-done.trails.nodes.items;
      to = c.args.start;
      inside = omega (arith, c.requires.prices.side);
      before = λ n x below here. omega (arith, c.loop-done.invariant.walks.few n x here, c.positions-done-end.ensures.positions);
      stop_is = subst (λ (ns : List (Node g.row.W.Denot)). IsStop g.W.Weight.levels c.args.prices.now ns (length ns) c.args.start c.in_err-closed.field-0.0) c.as_slice.ensures.value c.in_err-closed.ensures.stops;
    })

pub returns-in_err-advance-clause-stops : goal.returns-in_err-advance-clause-stops
returns-in_err-advance-clause-stops g c =
    let p = err_from_is_err_and c.from_residual-in_err-advance.result c.from_residual-in_err-advance.ensures.1 in
    let (j, inside, is) = c.in_err-advance.ensures.stops in
    rw (p.1, p.2) (record {
      end = c.len-end.result;
      to = j;
      inside = inside;
      before = λ n x below here. omega (arith, c.in_err-advance.ensures.growing.before n x below here, c.positions-done-end.ensures.positions);
      stop_is = is;
    })

pub returns-then-len-end-clause-done : goal.returns-then-len-end-clause-done
returns-then-len-end-clause-done g c =
    let reach : AllReach g.W.Weight.levels c.args.prices.now c.as_slice.result.now (g.W.Weight.levels c.args.threshold.now) c.loop-done.fresh c.args.start =
    at_none c.in_ok-closed.closed _ c.if-is_some.ensures c.in_ok-closed.ensures.reach in
    let reach_all : AllReach g.W.Weight.levels c.args.prices.now c.loop-done.trails.nodes.items (g.W.Weight.levels c.args.threshold.now) c.loop-done.fresh c.args.start =
    subst (λ (ns : List (Node g.row.W.Denot)). AllReach g.W.Weight.levels c.args.prices.now ns (g.W.Weight.levels c.args.threshold.now) c.loop-done.fresh c.args.start) c.as_slice.ensures.value reach in
    let still : length c.advance.new.trails.nodes.items ≡ length c.loop-done.trails.nodes.items =
    sym (c.len.ensures ∙ c.advance.new.trails.nodes.ok.0) ∙ c.if-len-end.true ∙ c.len-end.ensures ∙ c.loop-done.trails.nodes.ok.0 in
    let inside : c.args.start < c.args.prices.now.side = omega (arith, c.requires.prices.side) in
    let end : c.len-end.result ≡ length c.loop-done.trails.nodes.items = c.len-end.ensures ∙ c.loop-done.trails.nodes.ok.0 in
    let growing = subst (λ (n : ℕ). IsGrowing g.W.Weight.levels c.args.prices.now c.args.start (c.loop-done.done + 1) n c.advance.new.trails.nodes.items) end c.in_ok-advance.ensures.growing in
    let next = subst (λ (n : ℕ). (j : ℕ) → j < c.args.prices.now.side → IsNext g.W.Weight.levels c.args.prices.now c.advance.new.trails.nodes.items c.loop-done.fresh n c.args.start j (get_or c.loop-done.trails.table.items j None) (get_or c.advance.new.trails.table.items j None)) end c.in_ok-advance.ensures.next in
    still_done g.W.Weight.levels c.args.chain.now c.args.prices.now (g.W.Weight.levels c.args.threshold.now) c.args.start c.loop-done.done c.loop-done.fresh c.loop-done.trails.nodes.items c.loop-done.trails.table.items
    c.requires.prices inside c.loop-done.invariant reach_all
    c.advance.new.trails.nodes.items c.advance.new.trails.table.items growing c.in_ok-advance.ensures.grows c.in_ok-advance.ensures.len next still

pub loop-done-preserved : goal.loop-done-preserved
loop-done-preserved g c =
    let reach : AllReach g.W.Weight.levels c.args.prices.now c.as_slice.result.now (g.W.Weight.levels c.args.threshold.now) c.loop-done.fresh c.args.start =
    at_none c.in_ok-closed.closed _ c.if-is_some.ensures c.in_ok-closed.ensures.reach in
    let reach_all : AllReach g.W.Weight.levels c.args.prices.now c.loop-done.trails.nodes.items (g.W.Weight.levels c.args.threshold.now) c.loop-done.fresh c.args.start =
    subst (λ (ns : List (Node g.row.W.Denot)). AllReach g.W.Weight.levels c.args.prices.now ns (g.W.Weight.levels c.args.threshold.now) c.loop-done.fresh c.args.start) c.as_slice.ensures.value reach in
    let end : c.len-end.result ≡ length c.loop-done.trails.nodes.items = c.len-end.ensures ∙ c.loop-done.trails.nodes.ok.0 in
    let inside : c.args.start < c.args.prices.now.side = omega (arith, c.requires.prices.side) in
    let growing = subst (λ (n : ℕ). IsGrowing g.W.Weight.levels c.args.prices.now c.args.start (c.loop-done.done + 1) n c.advance.new.trails.nodes.items) end c.in_ok-advance.ensures.growing in
    let next = subst (λ (n : ℕ). (j : ℕ) → j < c.args.prices.now.side → IsNext g.W.Weight.levels c.args.prices.now c.advance.new.trails.nodes.items c.loop-done.fresh n c.args.start j (get_or c.loop-done.trails.table.items j None) (get_or c.advance.new.trails.table.items j None)) end c.in_ok-advance.ensures.next in
    subst (λ (n : ℕ). IsState g.W.Weight.levels c.args.chain.now c.args.prices.now (g.W.Weight.levels c.args.threshold.now) c.args.start (c.loop-done.done + 1) n c.advance.new.trails.nodes.items c.advance.new.trails.table.items) (sym end)
    (next_state g.W.Weight.levels c.args.chain.now c.args.prices.now (g.W.Weight.levels c.args.threshold.now) c.args.start c.loop-done.done c.loop-done.fresh c.loop-done.trails.nodes.items c.loop-done.trails.table.items
    c.requires.prices inside c.loop-done.invariant reach_all
    c.advance.new.trails.nodes.items c.advance.new.trails.table.items growing c.in_ok-advance.ensures.grows c.in_ok-advance.ensures.len next)
