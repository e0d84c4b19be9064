use Rattle.std.proofs.lemmas.Result.{on_err_weaker, on_ok_weaker}
use Rattle.sc_line.proofs.PrintLaws.{on_err}
use Rattle.sc_fan.proofs.Pieces.{corners_pieces, in_pieces, front_of, part_of}
use Rattle.sc_fan.proofs.printing.print_corners.Goals as goal

pub returns-in_err-print_count_line-clause-err : goal.returns-in_err-print_count_line-clause-err
returns-in_err-print_count_line-clause-err c =
    on_err _ (front_of c.args.out.now.items c.print_count_line.new.out.items _ _ _ (corners_pieces c.args.corners.now) c.in_err-print_count_line.ensures.err)

pub returns-clause-ok : goal.returns-clause-ok
returns-clause-ok c =
    on_ok_weaker c.print_corner_lines.result
    (λ all. in_pieces c.args.out.now.items c.print_count_line.new.out.items c.print_corner_lines.new.out.items _ _ _ (corners_pieces c.args.corners.now) c.in_ok-print_count_line.ensures.ok all)
    c.print_corner_lines.ensures.ok

pub returns-clause-err : goal.returns-clause-err
returns-clause-err c =
    on_err_weaker c.print_corner_lines.result
    (λ part. part_of c.args.out.now.items c.print_count_line.new.out.items c.print_corner_lines.new.out.items _ _ _ (corners_pieces c.args.corners.now) c.in_ok-print_count_line.ensures.ok part)
    c.print_corner_lines.ensures.err
