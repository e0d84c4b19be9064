use Rattle.std.proofs.Common.{◌≡◌, ℕ, ◌+◌, ◌*◌, List, length, arith, sym, ap, ◌∙◌, subst}
use Rattle.sc_algebra.specs.Permutations.{is_least_for}
use Rattle.sc_algebra.proofs.Sums.{count-le}
use Rattle.sc_theory.specs.Fatgraphs.{turn, vertices}
use Rattle.sc_theory.proofs.FatgraphLaws.{turn_permutes}
use Rattle.sc_svg.specs.inside.LaidOut.{AreLaidBelow, AreLeastOfOrbits}
use Rattle.sc_svg.proofs.Orbits.{order_inside}
use Rattle.sc_svg.proofs.Drawn.{lasts_inside, drawn_from}
use Rattle.sc_svg.proofs.drawing.draw.Goals as goal

pub overflow_add-places : goal.overflow_add-places
overflow_add-places c =
    let g = c.args.fatgraph.now.sides in
    omega (arith, count-le (is_least_for (turn g) (length g)) (length g), c.len.ensures.value, c.len.ensures.fatgraph.few_sides, c.in_ok-layout.ensures.vertices)

pub overflow_mul-base : goal.overflow_mul-base
overflow_mul-base c =
    let g = c.args.fatgraph.now.sides in
    omega (arith, count-le (is_least_for (turn g) (length g)) (length g), c.len.ensures.value, c.len.ensures.fatgraph.few_sides, c.in_ok-layout.ensures.vertices)

pub overflow_add-base : goal.overflow_add-base
overflow_add-base c =
    let g = c.args.fatgraph.now.sides in
    omega (arith, count-le (is_least_for (turn g) (length g)) (length g), c.len.ensures.value, c.len.ensures.fatgraph.few_sides, c.in_ok-layout.ensures.vertices)

pub overflow_mul-places : goal.overflow_mul-places
overflow_mul-places c =
    let g = c.args.fatgraph.now.sides in
    omega (arith, count-le (is_least_for (turn g) (length g)) (length g), c.len.ensures.value, c.len.ensures.fatgraph.few_sides, c.in_ok-layout.ensures.vertices)

pub overflow_add-places-2 : goal.overflow_add-places-2
overflow_add-places-2 c =
    let g = c.args.fatgraph.now.sides in
    omega (arith, count-le (is_least_for (turn g) (length g)) (length g), c.len.ensures.value, c.len.ensures.fatgraph.few_sides, c.in_ok-layout.ensures.vertices)

pub overflow_add-base-2 : goal.overflow_add-base-2
overflow_add-base-2 c =
    let g = c.args.fatgraph.now.sides in
    omega (arith, count-le (is_least_for (turn g) (length g)) (length g), c.len.ensures.value, c.len.ensures.fatgraph.few_sides, c.in_ok-layout.ensures.vertices)

pub overflow_add-base-3 : goal.overflow_add-base-3
overflow_add-base-3 c =
    let g = c.args.fatgraph.now.sides in
    omega (arith, count-le (is_least_for (turn g) (length g)) (length g), c.len.ensures.value, c.len.ensures.fatgraph.few_sides, c.in_ok-layout.ensures.vertices)

pub print_vertices-requires-clause-inside : goal.print_vertices-requires-clause-inside
print_vertices-requires-clause-inside c =
    let f = c.args.fatgraph.now in
    let g = f.sides in
    let n : ℕ = length g in
    let least : List ℕ = c.as_slice.result.now in
    let lasts : List ℕ = c.as_slice-2.result.now in
    let P : List ℕ → Type 0 = AreLeastOfOrbits (turn g) n in
    let are : AreLeastOfOrbits (turn g) n least = subst P (sym c.as_slice.ensures.value) c.in_ok-layout.ensures.least in
    let size : length least ≡ n = ap (λ (ys : List ℕ). length ys) c.as_slice.ensures.value ∙ c.in_ok-layout.ensures.as_many in
    let h : AreLaidBelow (turn g) n n c.in_ok-layout.layout.order.items c.in_ok-layout.layout.xs.items lasts = rw c.as_slice-2.ensures.value c.in_ok-layout.ensures.laid in
    λ s l own. omega (arith, size, lasts_inside (turn g) n (turn_permutes f.chain f.copies g c.len.ensures.fatgraph.fatgraph) c.in_ok-layout.layout.order.items c.in_ok-layout.layout.xs.items lasts least are h s (omega (arith, l, size)) own)

pub print_letters-requires-clause-inside : goal.print_letters-requires-clause-inside
print_letters-requires-clause-inside c =
    let f = c.args.fatgraph.now in
    let g = f.sides in
    let n : ℕ = length g in
    let order : List ℕ = c.as_slice-3.result.now in
    let is = c.as_slice-3.ensures.value ∙ c.in_ok-layout.ensures.laid.order_is in
    let same = ap (λ (ys : List _). length ys) (c.as_slice-sides.ensures ∙ c.sides.ensures.value) in
    rw (is, same) (order_inside (turn g) n (turn_permutes f.chain f.copies g c.len.ensures.fatgraph.fatgraph) n (omega arith))

pub returns : goal.returns
returns c =
    let f = c.args.fatgraph.now in
    let g = f.sides in
    let n : ℕ = length g in
    let least : List ℕ = c.as_slice.result.now in
    let lasts : List ℕ = c.as_slice-2.result.now in
    let order : List ℕ = c.as_slice-3.result.now in
    let xs : List ℕ = c.as_slice-xs.result.now in
    let P : List ℕ → Type 0 = AreLeastOfOrbits (turn g) n in
    let are : AreLeastOfOrbits (turn g) n least = subst P (sym c.as_slice.ensures.value) c.in_ok-layout.ensures.least in
    let size : length least ≡ n = ap (λ (ys : List ℕ). length ys) c.as_slice.ensures.value ∙ c.in_ok-layout.ensures.as_many in
    let h : AreLaidBelow (turn g) n n order xs lasts = rw (c.as_slice-3.ensures.value, c.as_slice-xs.ensures.value, c.as_slice-2.ensures.value) c.in_ok-layout.ensures.laid in
    let places : ℕ = c.len.result + c.in_ok-layout.layout.vertices in
    let all : places ≡ n + vertices g = omega (arith, c.len.ensures.value, c.in_ok-layout.ensures.vertices) in
    drawn_from f.chain c.chain.result.now g c.as_slice-sides.result.now order xs lasts least (20 * places + 20) (10 * places + 20) c.new-out.result.items c.print_head.new.out.items c.print_vertices.new.out.items c.print_edges.new.out.items c.print_letters.new.out.items c.extend_from_slice.new.self.items
    are h c.chain.ensures.value (c.as_slice-sides.ensures ∙ c.sides.ensures.value) size (omega (arith, all)) (omega (arith, all)) c.new-out.ensures.items
    c.in_ok-print_head.ensures c.in_ok-print_vertices.ensures c.in_ok-print_edges.ensures c.in_ok-print_letters.ensures c.in_ok-extend_from_slice.ensures.items
