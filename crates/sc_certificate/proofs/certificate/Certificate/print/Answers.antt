use Rattle.sc_certificate.specs.CertificateRead.{certificate_of}
use Rattle.sc_line.proofs.PrintLaws.{on_err}
use Rattle.sc_certificate.proofs.Pieces.{part_more, part_stopped, parts_done}
use Rattle.sc_certificate.proofs.certificate.Certificate.print.Goals as goal

pub returns-in_err-print_part-clause-err : goal.returns-in_err-print_part-clause-err
returns-in_err-print_part-clause-err c =
    on_err _
    (part_stopped (certificate_of c.args.self.now) c.loop-part.part-index _ c.loop-part-test.true c.args.out.now.items c.loop-part.out.items c.print_part.new.out.items
    c.loop-part.invariant c.requires.in_range.counts.pair c.in_err-print_part.ensures.err)

pub loop-part-preserved : goal.loop-part-preserved
loop-part-preserved c =
    part_more (certificate_of c.args.self.now) c.loop-part.part-index _ c.loop-part-test.true c.args.out.now.items c.loop-part.out.items c.print_part.new.out.items
    c.loop-part.invariant c.in_ok-print_part.ensures.ok

pub returns-clause-ok : goal.returns-clause-ok
returns-clause-ok c =
    parts_done (certificate_of c.args.self.now) c.loop-part.part-index c.args.out.now.items c.loop-part.out.items c.requires.in_range.counts.pair c.loop-part-test.false c.loop-part.invariant
