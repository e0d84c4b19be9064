use Rattle.std.proofs.Common.{◌≡◌, ◌+◌, ◌∙◌, length, List, ap, sym, subst, arith}
use Rattle.std.proofs.lemmas.Result.{err_from_is_err_and}
use Rattle.sc_theory.specs.Prices.{Prices}
use Rattle.sc_cone.specs.declared.Quadrant.TheVariants.{Lower, Upper}
use Rattle.sc_line.specs.Formats.{Format}
use Rattle.sc_fan.specs.Reading.{taken, Fails}
use Rattle.sc_fan.proofs.ReaderLaws.{edges_for}
use Rattle.sc_fan.proofs.reading.read_edges_of.Goals as goal

pub quadrant_pairs-requires : goal.quadrant_pairs-requires
quadrant_pairs-requires c = c.requires.chains Upper

pub quadrant_pairs-requires-2 : goal.quadrant_pairs-requires-2
quadrant_pairs-requires-2 c = c.requires.chains Lower

pub returns-in_err-edges-clause-told : goal.returns-in_err-edges-clause-told
returns-in_err-edges-clause-told c =
    let words : c.words.result + c.words-2.result ≡ length c.args.first.now + length c.args.second.now = omega (arith, c.words.ensures.words, c.words-2.ensures.words) in
    let same = edges_for c.args.first.now c.args.second.now c.args.corners.now (c.words.result + c.words-2.result) c.in_ok-upper.upper c.in_ok-lower.lower words c.in_ok-upper.ensures c.in_ok-lower.ensures in
    let bad = subst (λ (f : Format (List Prices)). Fails c.in_err-edges.field-0.0 (taken f c.args.lines.now)) same c.in_err-edges.ensures.told in
    let p = err_from_is_err_and c.from_residual-in_err-edges.result c.from_residual-in_err-edges.ensures.1 in
    rw (p.1, p.2) bad

pub returns-clause-told : goal.returns-clause-told
returns-clause-told c =
    let words : c.words.result + c.words-2.result ≡ length c.args.first.now + length c.args.second.now = omega (arith, c.words.ensures.words, c.words-2.ensures.words) in
    let same = edges_for c.args.first.now c.args.second.now c.args.corners.now (c.words.result + c.words-2.result) c.in_ok-upper.upper c.in_ok-lower.lower words c.in_ok-upper.ensures c.in_ok-lower.ensures in
    ap (λ (f : Format (List Prices)). taken f c.args.lines.now) (sym same) ∙ c.in_ok-edges.ensures.told
