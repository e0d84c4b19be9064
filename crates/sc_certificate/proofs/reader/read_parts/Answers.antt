use Rattle.std.proofs.Common.{FitsSigned, to_z-of_z, rules, sym, subst}
use Rattle.std.specs.Int.{w128}
use Rattle.sc_line.specs.Formats.{Format, IsShort}
use Rattle.sc_certificate.specs.Certificates.{Certificate}
use Rattle.sc_certificate.proofs.CertificateLaws.{short_certificate}
use Rattle.sc_certificate.proofs.TextLaws.{certificate_read, told_in_range, small_tables, told_as}
use Rattle.sc_certificate.proofs.reader.read_parts.Goals as goal

pub read_by_lines-requires : goal.read_by_lines-requires
read_by_lines-requires c = record { short = subst (λ (f : Format Certificate). IsShort 4000000000 f) (sym c.new-lines.ensures) short_certificate }

pub of_small-requires : goal.of_small-requires
of_small-requires c =
    let range = told_in_range _ c.args.bytes.now _ c.new-lines.ensures c.in_ok-chain.ensures.ok in
    let fits : FitsSigned w128 c.in_ok-chain.out.1.1.0 = search rules in
    simp (to_z-of_z fits) range.list

pub of_small-requires-2 : goal.of_small-requires-2
of_small-requires-2 c =
    let range = told_in_range _ c.args.bytes.now _ c.new-lines.ensures c.in_ok-chain.ensures.ok in
    small_tables _ _ range.tables

pub returns : goal.returns
returns c =
    let fits : FitsSigned w128 c.in_ok-chain.out.1.1.0 = search rules in
    let list = simp (to_z-of_z fits) at c.of_small.ensures in
    certificate_read c.args.bytes.now _ (told_as _ c.args.bytes.now _ _ _ c.new-lines.ensures c.in_ok-chain.ensures.ok list c.of_small-2.ensures) tt
