use Rattle.std.proofs.Common.{arith}
use Rattle.sc_line.proofs.PrintLaws.{on_err}
use Rattle.sc_theory.specs.Prices.{pairs}
use Rattle.sc_fan.proofs.Ranges.{fits, piece_more, piece_part, pieces_done}
use Rattle.sc_fan.proofs.printing.print_edge_lines.Goals as goal

pub print_edge-requires : goal.print_edge-requires
print_edge-requires c =
    fits (pairs c.args.upper.now) (pairs c.args.lower.now) c.args.corners.now c.args.edges.now c.loop-number.number c.index-corners-number.result c.index-edges-number.result (pairs c.chain_behind-chain.result.now) c.loop-number-test.true
    (omega (arith, c.loop-number-test.true, c.requires.few)) c.index-corners-number.is c.index-edges-number.is c.chain_behind-chain.ensures
    c.requires

pub returns-in_err-print_edge-clause-err : goal.returns-in_err-print_edge-clause-err
returns-in_err-print_edge-clause-err c =
    on_err _ (piece_part (pairs c.args.upper.now) (pairs c.args.lower.now) c.args.corners.now c.args.edges.now c.loop-number.number c.index-corners-number.result c.index-edges-number.result (pairs c.chain_behind-chain.result.now) c.loop-number-test.true
    (omega (arith, c.loop-number-test.true, c.requires.few)) c.index-corners-number.is c.index-edges-number.is c.chain_behind-chain.ensures
    c.args.out.now.items c.loop-number.out.items c.print_edge.new.out.items c.loop-number.invariant c.in_err-print_edge.ensures.err)

pub loop-number-preserved : goal.loop-number-preserved
loop-number-preserved c =
    piece_more (pairs c.args.upper.now) (pairs c.args.lower.now) c.args.corners.now c.args.edges.now c.loop-number.number c.index-corners-number.result c.index-edges-number.result (pairs c.chain_behind-chain.result.now) c.loop-number-test.true
    (omega (arith, c.loop-number-test.true, c.requires.few)) c.index-corners-number.is c.index-edges-number.is c.chain_behind-chain.ensures
    c.args.out.now.items c.loop-number.out.items c.print_edge.new.out.items c.loop-number.invariant c.in_ok-print_edge.ensures.ok

pub returns-clause-ok : goal.returns-clause-ok
returns-clause-ok c =
    pieces_done (pairs c.args.upper.now) (pairs c.args.lower.now) c.args.corners.now c.args.edges.now c.loop-number.number c.args.out.now.items c.loop-number.out.items (omega (arith, c.loop-number-test.false)) c.loop-number.invariant
