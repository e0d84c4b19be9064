use Rattle.std.proofs.Common.{◌≡◌, ℕ, ◌+◌, ◌*◌, ◌<◌, List, length, arith, refl, ap, ◌∙◌}
use Rattle.std.proofs.lemmas.List.{length_push}
use Rattle.sc_algebra.specs.Sums.{count_below}
use Rattle.sc_algebra.specs.Permutations.{is_least_for}
use Rattle.sc_algebra.proofs.Sums.{count-le}
use Rattle.sc_fatgraph.proofs.MarkedOrbits.{turn_permutes}
use Rattle.sc_theory.specs.Fatgraphs.{turn}
use Rattle.sc_svg.proofs.LayingOut.{room_left, side_below, lays_on, lays_end}
use Rattle.sc_svg.proofs.layout.lay_vertex.Goals as goal

pub overflow_add-xs-in-loop-next : goal.overflow_add-xs-in-loop-next
overflow_add-xs-in-loop-next c =
    let g = c.args.sides.now in
    let n : ℕ = length g in
    let room : length c.loop-next.order.items < n = room_left (turn g) n (turn_permutes g c.requires.ribbon) c.args.start c.requires.inside c.args.order.now.items c.args.xs.now c.requires.laid c.loop-next.side c.loop-next.order.items c.loop-next.xs c.loop-next.invariant in
    omega (arith, room, c.len.ensures, c.loop-next.order.ok.0, c.requires.number, count-le (is_least_for (turn g) n) c.args.start, c.requires.inside, c.requires.few)

pub overflow_mul-xs : goal.overflow_mul-xs
overflow_mul-xs c =
    let g = c.args.sides.now in
    let n : ℕ = length g in
    let room : length c.loop-next.order.items < n = room_left (turn g) n (turn_permutes g c.requires.ribbon) c.args.start c.requires.inside c.args.order.now.items c.args.xs.now c.requires.laid c.loop-next.side c.loop-next.order.items c.loop-next.xs c.loop-next.invariant in
    omega (arith, room, c.len.ensures, c.loop-next.order.ok.0, c.requires.number, count-le (is_least_for (turn g) n) c.args.start, c.requires.inside, c.requires.few)

pub bounds-xs-side : goal.bounds-xs-side
bounds-xs-side c =
    let g = c.args.sides.now in
    let below : c.loop-next.side < length g = side_below (turn g) (length g) (turn_permutes g c.requires.ribbon) c.args.start c.requires.inside c.args.order.now.items c.args.xs.now c.requires.laid c.loop-next.side c.loop-next.order.items c.loop-next.xs c.loop-next.invariant in
    omega (arith, below, c.loop-next.invariant.as_many)

pub bounds-sides-side : goal.bounds-sides-side
bounds-sides-side c =
    let g = c.args.sides.now in
    side_below (turn g) (length g) (turn_permutes g c.requires.ribbon) c.args.start c.requires.inside c.args.order.now.items c.args.xs.now c.requires.laid c.loop-next.side c.loop-next.order.items c.loop-next.xs c.loop-next.invariant

pub returns-then-next-start : goal.returns-then-next-start
returns-then-next-start c =
    let g = c.args.sides.now in
    let x : ℕ = 20 * (c.len.result + 1 + c.args.vertex) in
    let is : x ≡ 20 * (length c.loop-next.order.items + 1 + count_below (is_least_for (turn g) (length g)) c.args.start) = omega (arith, c.len.ensures, c.loop-next.order.ok.0, c.requires.number) in
    rw c.in_ok-push.ensures.items
    (lays_end (turn g) (length g) (turn_permutes g c.requires.ribbon) c.args.start c.requires.inside c.args.order.now.items c.args.xs.now c.requires.laid c.loop-next.side (turn g c.loop-next.side) c.loop-next.order.items c.loop-next.xs x c.loop-next.invariant is refl c.if-next-start.true)

pub loop-next-smaller : goal.loop-next-smaller
loop-next-smaller c =
    let g = c.args.sides.now in
    let n : ℕ = length g in
    let room : length c.loop-next.order.items < n = room_left (turn g) n (turn_permutes g c.requires.ribbon) c.args.start c.requires.inside c.args.order.now.items c.args.xs.now c.requires.laid c.loop-next.side c.loop-next.order.items c.loop-next.xs c.loop-next.invariant in
    let longer : length c.push.new.self.items ≡ length c.loop-next.order.items + 1 = ap (λ (ys : List ℕ). length ys) c.in_ok-push.ensures.items ∙ length_push c.loop-next.order.items c.loop-next.side in
    omega (arith, room, longer)

pub loop-next-preserved : goal.loop-next-preserved
loop-next-preserved c =
    let g = c.args.sides.now in
    let x : ℕ = 20 * (c.len.result + 1 + c.args.vertex) in
    let is : x ≡ 20 * (length c.loop-next.order.items + 1 + count_below (is_least_for (turn g) (length g)) c.args.start) = omega (arith, c.len.ensures, c.loop-next.order.ok.0, c.requires.number) in
    rw c.in_ok-push.ensures.items
    (lays_on (turn g) (length g) (turn_permutes g c.requires.ribbon) c.args.start c.requires.inside c.args.order.now.items c.args.xs.now c.requires.laid c.loop-next.side (turn g c.loop-next.side) c.loop-next.order.items c.loop-next.xs x c.loop-next.invariant is refl c.if-next-start.false)
