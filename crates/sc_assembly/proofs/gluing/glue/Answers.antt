use Rattle.std.proofs.Common.{◌≡◌, ◌<◌, length, arith, sym, ap, subst, ◌∙◌}
use Rattle.std.proofs.lemmas.Result.{IfOk-weaker}
use Rattle.sc_theory.specs.Fatgraphs.{Sides, vertices, IsFatgraph}
use Rattle.sc_gluing.specs.Cycles.{Parts, copies_of, labels_of}
use Rattle.sc_gluing.specs.Gluing.{IsGlued}
use Rattle.sc_gluing.proofs.StepCounts.{cycles_of_parts}
use Rattle.sc_gluing.proofs.GluedLaws.{cycles_fatgraph, sides_along}
use Rattle.sc_gluing.proofs.GluedVertices.{cycles_vertices, length-copies_of}
use Rattle.sc_assembly.specs.Multiples.{counted}
use Rattle.sc_assembly.proofs.CountedParts.{few_sides, sum-counted}
use Rattle.sc_assembly.proofs.gluing.glue.Goals as goal

pub fatgraph_of-requires-clause-few_sides : goal.fatgraph_of-requires-clause-few_sides
fatgraph_of-requires-clause-few_sides c =
    let m = c.args.multiples.now in
    let chain = c.args.chain.now in
    let ps : Parts = counted m.parts.items m.counts.items in
    let len : length c.from_vec.result ≡ length (labels_of (copies_of ps)) =
    ap (λ (xs : Sides). length xs) c.from_vec.ensures ∙ sides_along chain m.n (copies_of ps) (cycles_of_parts chain m.n ps c.requires.balanced) c.in_ok-sides.sides.items c.in_ok-sides.ensures in
    omega (arith, len, few_sides chain m.n _ ps c.requires.balanced c.requires.few_sides)

pub fatgraph_of-requires-clause-fatgraph : goal.fatgraph_of-requires-clause-fatgraph
fatgraph_of-requires-clause-fatgraph c =
    let m = c.args.multiples.now in
    let chain = c.args.chain.now in
    let ps : Parts = counted m.parts.items m.counts.items in
    let some : 0 < m.n = omega (arith, c.requires.some_copies) in
    subst (IsFatgraph chain m.n) (sym c.from_vec.ensures)
    (cycles_fatgraph chain m.n (copies_of ps) (cycles_of_parts chain m.n ps c.requires.balanced) c.in_ok-sides.sides.items c.in_ok-sides.ensures some)

pub returns-clause-glued : goal.returns-clause-glued
returns-clause-glued c =
    let m = c.args.multiples.now in
    let ps : Parts = counted m.parts.items m.counts.items in
    IfOk-weaker c.fatgraph_of.result _ _ (λ f h. subst (IsGlued c.args.chain.now (copies_of ps)) (sym (h ∙ c.from_vec.ensures)) c.in_ok-sides.ensures) c.fatgraph_of.ensures.sides

pub returns-clause-vertices : goal.returns-clause-vertices
returns-clause-vertices c =
    let m = c.args.multiples.now in
    let chain = c.args.chain.now in
    let ps : Parts = counted m.parts.items m.counts.items in
    IfOk-weaker c.fatgraph_of.result _ _
    (λ f h. ap vertices (h ∙ c.from_vec.ensures)
    ∙ cycles_vertices chain m.n (copies_of ps) c.in_ok-sides.sides.items (cycles_of_parts chain m.n ps c.requires.balanced) c.in_ok-sides.ensures
    ∙ length-copies_of ps ∙ sum-counted m.parts.items m.counts.items c.requires.as_many)
    c.fatgraph_of.ensures.sides
