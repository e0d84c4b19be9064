use Rattle.std.proofs.Common.{◌≡◌, [], ◌∷◌, codes}
use Rattle.std.proofs.lemmas.Result.{IfOk-weaker}
use Rattle.sc_fraction.specs.Frac.{frac_text}
use Rattle.sc_line.specs.Lines.{fields}
use Rattle.sc_text.specs.ValueLines.{quotient_of, IsValueInRange}
use Rattle.sc_line.proofs.LineLaws.{line_from_fields}
use Rattle.sc_text.proofs.values.value_line.Goals as goal

pub returns-clause-ok : goal.returns-clause-ok
returns-clause-ok c =
    IfOk-weaker _ _ _
    (λ v (h : (c.in-Some.field.now ≡ frac_text v) × IsValueInRange (quotient_of v)).
    let all : fields c.args.line.now ≡ codes "value" ∷ frac_text v ∷ [] =
    cc (c.of-fields.ensures, c.in_ok-name.ensures.ok, c.in-Some.ensures.some, c.in_ok-end.ensures.ok, h.0) in
    (line_from_fields c.args.line.now _ all, h.1))
    c.fraction_of.ensures.ok
