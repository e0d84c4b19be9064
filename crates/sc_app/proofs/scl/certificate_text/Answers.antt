use Rattle.std.proofs.Common.{◌∙◌}
use Rattle.sc_certificate.specs.Certificates.{certificate_text}
use Rattle.sc_app.proofs.Reports.{printed}
use Rattle.sc_app.proofs.scl.certificate_text.Goals as goal

pub returns : goal.returns
returns c =
    printed certificate_text c.args.solution c.args.chain c.in_ok-sides.sides.items c.new-text.result.items c.print.new.out.items c.requires.over c.requires.copies
    (c.in_ok-sides.ensures.items ∙ c.as_slice.ensures ∙ c.sides.ensures.value) c.new-text.ensures.items c.in_ok-print.ensures.ok
