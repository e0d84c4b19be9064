use Rattle.std.proofs.Common.{◌≡◌, ◌∙◌, pos, Some, FitsSigned, of_z, refl, sym, ap, rules}
use Rattle.std.specs.Int.{w128}
use Rattle.std.proofs.lemmas.Option.{same_Some, none-some}
use Rattle.std.proofs.lemmas.Result.{err_from_is_err_and}
use Rattle.sc_line.proofs.LineLaws.{taken_is, other_number, no_number}
use Rattle.sc_line.proofs.fields.Fields.known.Goals as goal

pub returns-in_err-next-clause-err : goal.returns-in_err-next-clause-err
returns-in_err-next-clause-err c =
    let p = err_from_is_err_and c.from_residual.result c.from_residual.ensures.1 in
    rw (p.1, p.2) (c.in_err-next.ensures.err.0, no_number c.args.self.now (pos c.args.number) c.in_err-next.ensures.err.1)

pub returns-in-Some-clause-ok : goal.returns-in-Some-clause-ok
returns-in-Some-clause-ok c =
    let same : c.in-Some.next ≡ pos c.args.number = search rules in
    taken_is c.args.self.now c.number.new.self c.in_ok-next.field-0 (pos c.args.number) c.in_ok-next.ensures.ok (c.in-Some.is ∙ ap Some same)

pub returns-in_default-clause-err : goal.returns-in_default-clause-err
returns-in_default-clause-err c =
    let fits : FitsSigned w128 (pos c.args.number) = search rules in
    let from : c.from.result ≡ pos c.args.number = c.from.ensures in (
      refl,
      other_number c.args.self.now c.number.new.self c.in_ok-next.field-0 (pos c.args.number) fits c.in_ok-next.ensures.ok
          (λ e. c.if-next-from.false (ap (of_z w128) (same_Some _ _ (sym c.in-Some.is ∙ e) ∙ sym from))),
    )

pub returns-in_default-2-clause-err : goal.returns-in_default-2-clause-err
returns-in_default-2-clause-err c =
    let fits : FitsSigned w128 (pos c.args.number) = search rules in (
      refl,
      other_number c.args.self.now c.number.new.self c.in_ok-next.field-0 (pos c.args.number) fits c.in_ok-next.ensures.ok
          (λ e. none-some (pos c.args.number) (sym c.in_default.is ∙ e)),
    )
