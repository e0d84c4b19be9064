use Rattle.std.proofs.lemmas.Result.{on_err_weaker}
use Rattle.sc_line.specs.Lines.{text_of}
use Rattle.sc_line.specs.Printing.{AppendsPart}
use Rattle.sc_line.proofs.PrintLaws.{on_err, front_lines, then_lines}
use Rattle.sc_line.proofs.print.BehindPrintPart.print.Goals as goal

pub returns-in_err-print-clause-err : goal.returns-in_err-print-clause-err
returns-in_err-print-clause-err g c =
    on_err _
    (front_lines c.args.out.now.items c.print.new.out.items (g.A.PrintPart.lines c.args.self.now.first) (g.B.PrintPart.lines c.args.self.now.second)
    c.in_err-print.ensures.err)

pub returns-clause-err : goal.returns-clause-err
returns-clause-err g c =
    on_err_weaker c.print-2.result
    (λ (part : AppendsPart c.print.new.out.items c.print-2.new.out.items (text_of (g.B.PrintPart.lines c.args.self.now.second))).
    then_lines c.args.out.now.items c.print.new.out.items c.print-2.new.out.items (g.A.PrintPart.lines c.args.self.now.first) (g.B.PrintPart.lines c.args.self.now.second) c.in_ok-print.ensures.ok part)
    c.print-2.ensures.err
