use Rattle.std.proofs.Common.{◌<◌, ◌≤◌, ℕ, List, length, Option, IfSome, arith, sym, subst}
use Rattle.std.proofs.lemmas.Option.{slice_get_within}
use Rattle.sc_theory.specs.Chains.{positions}
use Rattle.sc_tables.specs.declared.search.Node.{Node}
use Rattle.sc_tables.specs.inside.Searches.{Closes}
use Rattle.sc_tables.specs.inside.Trails.{AreLinked, ReadsTo}
use Rattle.sc_tables.specs.inside.CheapPolygons.{ShowsStop}
use Rattle.sc_tables.proofs.ReadingBack.{linked_from, closed_below, stop_shown}
use Rattle.sc_tables.proofs.tables.closed_walk.Given.{Over}
use Rattle.sc_tables.proofs.tables.closed_walk.Goals as goal
use Rattle.sc_tables.proofs.tables.closed_walk.Goals.{After-explore, In-Some}

linked : (g : Over) (c : After-explore g) → AreLinked c.explore.new.trails.nodes.items
linked g c =
    let few : positions c.args.chain.now ≤ 64 = c.positions.ensures.small.few_positions in
    linked_from g.W.Weight.levels c.args.prices.now c.args.start (positions c.args.chain.now) c.explore.new.trails.nodes.items (omega (arith, c.requires.prices.side)) few c.explore.ensures.walks

pub stop_fault-requires-clause-linked : goal.stop_fault-requires-clause-linked
stop_fault-requires-clause-linked g c =
    subst (λ (ns : List (Node g.row.W.Denot)). AreLinked ns) (sym c.as_slice.ensures.value) (linked g ((goal.at.stop_fault-requires-clause-linked g c).After-explore))

pub returns-in-Err-clause-faults : goal.returns-in-Err-clause-faults
returns-in-Err-clause-faults g c =
    stop_shown g.W.Weight.levels c.args.prices.now c.explore.new.trails.nodes.items c.args.chain.now c.args.start c.in-Err.stop c.in_ok-stop_fault-in-Err.field-0 c.requires.prices c.explore.ensures.walks c.in-Err.ensures.stops
    (subst (λ (ns : List (Node g.row.W.Denot)). ShowsStop g.W.Weight.levels ns c.in-Err.stop c.in_ok-stop_fault-in-Err.field-0) c.as_slice.ensures.value c.in_ok-stop_fault-in-Err.ensures)

pub read_back-requires-clause-linked : goal.read_back-requires-clause-linked
read_back-requires-clause-linked g c =
    subst (λ (ns : List (Node g.row.W.Denot)). AreLinked ns) (sym c.as_slice-in-Some.ensures.value) (linked g ((goal.at.read_back-requires-clause-linked g c).After-explore))

closes : (g : Over) (c : In-Some g) → Closes g.W.Weight.levels c.args.prices.now c.explore.new.trails.nodes.items (g.W.Weight.levels c.args.threshold.now) c.args.start c.in-Some.node
closes g c =
    subst (λ (o : Option ℕ). IfSome o (Closes g.W.Weight.levels c.args.prices.now c.explore.new.trails.nodes.items (g.W.Weight.levels c.args.threshold.now) c.args.start)) c.in-Some.is c.in-Ok.ensures.closes

pub read_back-requires-clause-node : goal.read_back-requires-clause-node
read_back-requires-clause-node g c =
    let is = closes g ((goal.at.read_back-requires-clause-node g c).In-Some) in
    subst (λ (ns : List (Node g.row.W.Denot)). c.in-Some.node < length ns) (sym c.as_slice-in-Some.ensures.value) (slice_get_within c.explore.new.trails.nodes.items c.in-Some.node is.here is.here_is)

pub returns-in_ok-read_back-in-Some-clause-closed : goal.returns-in_ok-read_back-in-Some-clause-closed
returns-in_ok-read_back-in-Some-clause-closed g c =
    let is = closes g ((goal.at.returns-in_ok-read_back-in-Some-clause-closed g c).In-Some) in
    let reads = subst (λ (ns : List (Node g.row.W.Denot)). ReadsTo g.W.Weight.levels ns c.in-Some.node c.in_ok-read_back-in-Some.field-0.items) c.as_slice-in-Some.ensures.value c.in_ok-read_back-in-Some.ensures in
    let inside : c.args.start < c.args.prices.now.side = omega (arith, c.requires.prices.side) in
    closed_below g.W.Weight.levels c.args.chain.now c.args.prices.now (g.W.Weight.levels c.args.threshold.now) c.args.start (positions c.args.chain.now) c.in-Some.node c.explore.new.trails.nodes.items c.in_ok-read_back-in-Some.field-0.items
    c.requires.prices inside c.explore.ensures.walks is reads
