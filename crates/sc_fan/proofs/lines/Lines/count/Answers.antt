use Rattle.std.proofs.Common.{◌≡◌, ◌≤ℤ◌, [], ◌∷◌, Some, pos, nat_abs, FitsSigned, to_z-of_z, rules}
use Rattle.std.specs.Int.{w128}
use Rattle.std.proofs.lemmas.Result.{err_from_is_err_and}
use Rattle.sc_line.specs.declared.fault.LineFault.TheVariants.{Malformed}
use Rattle.sc_line.specs.Faults.{between, numbers_line_fault}
use Rattle.sc_line.specs.Forms.{count_kind}
use Rattle.sc_line.proofs.NumberLaws.{tells_natural}
use Rattle.sc_fan.proofs.ReadingLaws.{one_taken, one_fails, one_ends}
use Rattle.sc_fan.proofs.lines.Lines.count.Goals as goal

pub returns-in_err-number : goal.returns-in_err-number
returns-in_err-number c =
    let p = err_from_is_err_and c.from_residual.result c.from_residual.ensures.1 in
    rw (p.1, p.2) (one_ends (count_kind c.args.name.now c.args.low c.args.high) c.args.self.now c.in_err-number.field-0.0 c.in_err-number.ensures.err)

pub returns-in-Ok : goal.returns-in-Ok
returns-in-Ok c =
    let z = c.in-Ok.count in
    let fits : FitsSigned w128 z = search rules in
    let small : pos c.args.low ≤ℤ z = search rules in
    let large : z ≤ℤ pos c.args.high = search rules in
    let tells = tells_natural c.args.name.now c.args.low c.args.high z c.in_ok-number.line.now c.in-Ok.ensures.fields small large in
    simp (to_z-of_z fits) (one_taken (count_kind c.args.name.now c.args.low c.args.high) c.args.self.now c.next.new.self c.in_ok-number.number c.in_ok-number.line.now (nat_abs z) c.in_ok-number.ensures.ok tells)

pub returns-in-Err : goal.returns-in-Err
returns-in-Err c =
    let bad : numbers_line_fault c.args.name.now (between c.args.low c.args.high ∷ []) c.in_ok-number.line.now ≡ Some c.in-Err.kind = search rules in
    one_fails (count_kind c.args.name.now c.args.low c.args.high) c.args.self.now c.next.new.self c.in_ok-number.number c.in_ok-number.line.now (Malformed c.in-Err.kind) c.in_ok-number.ensures.ok bad
