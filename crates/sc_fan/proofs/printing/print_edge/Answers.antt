use Rattle.std.proofs.Common.{refl}
use Rattle.std.proofs.lemmas.Result.{on_err_weaker}
use Rattle.sc_theory.specs.Prices.{pairs}
use Rattle.sc_line.specs.Lines.{ended}
use Rattle.sc_line.specs.Printing.{AppendsPart}
use Rattle.sc_line.proofs.PrintLaws.{on_err}
use Rattle.sc_fan.specs.Fans.{edge_line}
use Rattle.sc_certificate.specs.Spelled.{list_text}
use Rattle.sc_fan.specs.inside.Printing.{edge_text}
use Rattle.sc_fan.proofs.Pieces.{front_of, part_of}
use Rattle.sc_fan.proofs.printing.print_edge.Goals as goal

pub returns-in_err-print_count_line-clause-err : goal.returns-in_err-print_count_line-clause-err
returns-in_err-print_count_line-clause-err c =
    on_err _ (front_of c.args.out.now.items c.print_count_line.new.out.items (ended (edge_line c.args.number)) (list_text (pairs c.args.chain.now) c.args.list.now) _ refl c.in_err-print_count_line.ensures.err)

pub returns-clause-err : goal.returns-clause-err
returns-clause-err c =
    on_err_weaker c.print_list.result
    (λ (part : AppendsPart c.print_count_line.new.out.items c.print_list.new.out.items (list_text (pairs c.args.chain.now) c.args.list.now)).
    part_of c.args.out.now.items c.print_count_line.new.out.items c.print_list.new.out.items (ended (edge_line c.args.number)) (list_text (pairs c.args.chain.now) c.args.list.now) (edge_text (pairs c.args.chain.now) c.args.number c.args.list.now) refl c.in_ok-print_count_line.ensures.ok part)
    c.print_list.ensures.err
