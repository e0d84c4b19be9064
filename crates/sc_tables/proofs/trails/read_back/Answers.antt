use Rattle.std.proofs.Common.{◌≡◌, ℕ, List, get_or, sym, subst, ap, ◌∙◌, refl, arith, reverse}
use Rattle.std.proofs.lemmas.Option.{slice_get_read, slice_get-get_or}
use Rattle.sc_tables.proofs.ReadingBack.{IsReadTo, read_next, read_last}
use Rattle.sc_tables.specs.inside.Trails.{ReadsTo}
use Rattle.sc_tables.proofs.trails.read_back.Goals as goal

pub loop-here-preserved : goal.loop-here-preserved
loop-here-preserved g c =
    subst (λ (ys : List ℕ). IsReadTo g.W.Weight.levels c.args.nodes.now c.args.node c.index-nodes-here.result.before ys) (sym c.in_ok-push.ensures.items)
    (read_next g.W.Weight.levels c.args.nodes.now c.args.node c.loop-here.here c.index-nodes-here.result c.loop-here.walk.items c.loop-here.invariant c.requires.linked c.loop-here-test.true
    (slice_get_read c.args.nodes.now _ c.loop-here.here c.index-nodes-here.result refl c.loop-here.invariant.inside c.index-nodes-here.is))

pub overflow_cast-nodes : goal.overflow_cast-nodes
overflow_cast-nodes g c = omega (arith, c.requires.linked.place 0 (get_or c.args.nodes.now 0 c.index-nodes-0.result) (slice_get-get_or c.args.nodes.now 0 c.index-nodes-0.result c.requires.linked.some))

pub returns : goal.returns
returns g c =
    let none : c.loop-here.here ≡ 0 = omega arith in
    let read = read_last g.W.Weight.levels c.args.nodes.now c.args.node c.loop-here.here (get_or c.args.nodes.now 0 c.index-nodes-0.result) c.loop-here.walk.items c.loop-here.invariant none (slice_get-get_or c.args.nodes.now 0 c.index-nodes-0.result c.requires.linked.some) in
    subst (λ (ys : List ℕ). ReadsTo g.W.Weight.levels c.args.nodes.now c.args.node ys) (sym (c.reverse.ensures.items ∙ ap (λ (ys : List ℕ). reverse ys) c.in_ok-push-2.ensures.items)) read
