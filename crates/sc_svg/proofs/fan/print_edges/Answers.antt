use Rattle.std.proofs.Common.{◌≡◌, ◌<◌, ◌-◌, true, length, take, drop}
use Rattle.sc_svg.specs.declared.spot.Spot.{Spot}
use Rattle.sc_svg.specs.Fans.{has_point}
use Rattle.sc_svg.proofs.Greatest.{some_sizes}
use Rattle.sc_svg.proofs.Fans.{edge_next, first_edges, at_other, at_first}
use Rattle.sc_svg.proofs.fan.print_edges.Goals as goal

pub loop-to-init : goal.loop-to-init
loop-to-init c =
    let corners = c.args.corners.now in
    let k = c.args.greatest in
    let first = c.first-item.result in
    let P : Spot → Type 0 = λ d. has_point d ≡ true → 0 < k.over in
    (first_edges k corners first c.args.out.now.items c.in-len1-up.len_at_least c.first-item.is, at_first P corners first (some_sizes corners k c.requires.greatest) c.in-len1-up.len_at_least c.first-item.is)

pub print_edge-requires-clause-some_to : goal.print_edge-requires-clause-some_to
print_edge-requires-clause-some_to c =
    let corners = c.args.corners.now in
    let k = c.args.greatest in
    let P : Spot → Type 0 = λ d. has_point d ≡ true → 0 < k.over in
    at_other P corners c.loop-to.to-index c.to-item.result (some_sizes corners k c.requires.greatest) c.loop-to-test.true c.to-item.is

pub loop-to-preserved : goal.loop-to-preserved
loop-to-preserved c =
    let corners = c.args.corners.now in
    let k = c.args.greatest in
    let rest = take (length corners - 1) (drop 1 corners) in
    let P : Spot → Type 0 = λ d. has_point d ≡ true → 0 < k.over in (
      edge_next k c.loop-to.from c.to-item.result rest c.loop-to.to-index c.loop-to.out.items c.print_edge.new.out.items _ c.loop-to-test.true c.to-item.is c.loop-to.invariant.0 c.in_ok-print_edge.ensures,
      at_other P corners c.loop-to.to-index c.to-item.result (some_sizes corners k c.requires.greatest) c.loop-to-test.true c.to-item.is,
    )
