use Rattle.std.proofs.Common.{◌≡◌, ◌≤ℤ◌, [], ◌∷◌, Some, codes, pos, rules}
use Rattle.std.proofs.lemmas.Result.{err_from_is_err_and}
use Rattle.sc_line.specs.Lines.{numbers_line}
use Rattle.sc_line.specs.Faults.{between, numbers_line_fault}
use Rattle.sc_fan.specs.Fans.{edge_line}
use Rattle.sc_fan.proofs.ReadingLaws.{literal_ends}
use Rattle.sc_fan.proofs.ReaderLaws.{edge_taken, edge_fails}
use Rattle.sc_fan.proofs.lines.Lines.edge.Goals as goal

pub returns-in_err-number : goal.returns-in_err-number
returns-in_err-number c =
    let p = err_from_is_err_and c.from_residual.result c.from_residual.ensures.1 in
    rw (p.1, p.2) (literal_ends (edge_line c.args.edge) c.args.self.now c.in_err-number.field-0.0 c.in_err-number.ensures.err)

pub returns-in-Ok : goal.returns-in-Ok
returns-in-Ok c =
    let z = c.in-Ok.field-0 in
    let low : pos c.args.edge ≤ℤ z = search rules in
    let high : z ≤ℤ pos c.args.edge = search rules in
    let line : c.in_ok-number.line.now ≡ numbers_line (codes "edge") (z ∷ []) = search rules in
    edge_taken c.args.self.now c.next.new.self c.in_ok-number.number c.args.edge z c.in_ok-number.line.now c.in_ok-number.ensures.ok line low high

pub returns-in-Err : goal.returns-in-Err
returns-in-Err c =
    let bad : numbers_line_fault (codes "edge") (between c.args.edge c.args.edge ∷ []) c.in_ok-number.line.now ≡ Some c.in-Err.field-0 = search rules in
    edge_fails c.args.self.now c.next.new.self c.in_ok-number.number c.args.edge c.in-Err.field-0 c.in_ok-number.line.now c.in_ok-number.ensures.ok bad
