use Rattle.std.proofs.Common.{◌≡◌, refl, ◌∙◌}
use Rattle.sc_line.specs.Lines.{fields}
use Rattle.sc_line.proofs.LineLaws.{split_some}
use Rattle.sc_line.proofs.fields.Fields.end.Goals as goal

pub returns-in-Some-clause-err : goal.returns-in-Some-clause-err
returns-in-Some-clause-err c =
    let left : fields c.in-Some.field-0.now ≡ c.args.self.now = rw c.in-Some.is at c.self.view_is in
    (refl, λ e. split_some _ c.in-Some.field-0.now (left ∙ e))
