use Rattle.std.proofs.Common.{[], arith}
use Rattle.std.specs.List.{enumerate_from}
use Rattle.std.proofs.lemmas.List.FromFn.{length-enumerate_from}
use Rattle.sc_text.specs.TableLines.{from_line}
use Rattle.sc_line.proofs.PrintLaws.{on_err}
use Rattle.sc_certificate.proofs.PrintedLines.{lines_more, lines_part, lines_done}
use Rattle.sc_certificate.proofs.Pieces.{table_line}
use Rattle.sc_certificate.proofs.parts.print_tables.Goals as goal

pub returns-in_err-print_from_line-clause-err : goal.returns-in_err-print_from_line-clause-err
returns-in_err-print_from_line-clause-err c =
    let i = c.loop-start.start in
    let tables = c.args.tables.now in
    on_err _
    (lines_part (λ e. from_line e.0 e.1) (enumerate_from 0 tables) i (0, []) (from_line i c.table.result.now)
    (omega (arith, length-enumerate_from 0 tables, c.loop-start-test.true, c.len-start-end.ensures.count))
    (table_line tables i c.table.result.now (omega (arith, c.loop-start-test.true, c.len-start-end.ensures.count)) c.table.ensures.table)
    c.args.out.now.items c.loop-start.out.items c.print_from_line.new.out.items c.loop-start.invariant c.in_err-print_from_line.ensures.err)

pub loop-start-preserved : goal.loop-start-preserved
loop-start-preserved c =
    let i = c.loop-start.start in
    let tables = c.args.tables.now in
    lines_more (λ e. from_line e.0 e.1) (enumerate_from 0 tables) i (0, []) (from_line i c.table.result.now)
    (omega (arith, length-enumerate_from 0 tables, c.loop-start-test.true, c.len-start-end.ensures.count))
    (table_line tables i c.table.result.now (omega (arith, c.loop-start-test.true, c.len-start-end.ensures.count)) c.table.ensures.table)
    c.args.out.now.items c.loop-start.out.items c.print_from_line.new.out.items c.loop-start.invariant c.in_ok-print_from_line.ensures.ok

pub returns-clause-ok : goal.returns-clause-ok
returns-clause-ok c =
    lines_done (λ e. from_line e.0 e.1) (enumerate_from 0 c.args.tables.now) c.loop-start.start c.args.out.now.items c.loop-start.out.items
    (omega (arith, length-enumerate_from 0 c.args.tables.now, c.loop-start-test.false, c.len-start-end.ensures.count)) c.loop-start.invariant
