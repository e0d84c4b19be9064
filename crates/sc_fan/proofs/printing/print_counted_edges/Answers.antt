use Rattle.std.proofs.Common.{refl, length, codes}
use Rattle.std.proofs.lemmas.Result.{on_err_weaker}
use Rattle.sc_line.specs.Lines.{ended, count_line}
use Rattle.sc_line.specs.Printing.{AppendsPart}
use Rattle.sc_line.proofs.PrintLaws.{on_err}
use Rattle.sc_theory.specs.Prices.{pairs}
use Rattle.sc_fan.specs.inside.Printing.{edges_text, counted_edges_text}
use Rattle.sc_fan.proofs.Pieces.{front_of, part_of}
use Rattle.sc_fan.proofs.printing.print_counted_edges.Goals as goal

pub returns-in_err-print_count_line-clause-err : goal.returns-in_err-print_count_line-clause-err
returns-in_err-print_count_line-clause-err c =
    on_err _ (front_of c.args.out.now.items c.print_count_line.new.out.items (ended (count_line (codes "edges") (length c.args.edges.now))) (edges_text (pairs c.args.upper.now) (pairs c.args.lower.now) c.args.corners.now c.args.edges.now) _ refl c.in_err-print_count_line.ensures.err)

pub returns-clause-err : goal.returns-clause-err
returns-clause-err c =
    on_err_weaker c.print_edge_lines.result
    (λ (part : AppendsPart c.print_count_line.new.out.items c.print_edge_lines.new.out.items (edges_text (pairs c.args.upper.now) (pairs c.args.lower.now) c.args.corners.now c.args.edges.now)).
    part_of c.args.out.now.items c.print_count_line.new.out.items c.print_edge_lines.new.out.items (ended (count_line (codes "edges") (length c.args.edges.now))) (edges_text (pairs c.args.upper.now) (pairs c.args.lower.now) c.args.corners.now c.args.edges.now) (counted_edges_text (pairs c.args.upper.now) (pairs c.args.lower.now) c.args.corners.now c.args.edges.now) refl c.in_ok-print_count_line.ensures.ok part)
    c.print_edge_lines.ensures.err
