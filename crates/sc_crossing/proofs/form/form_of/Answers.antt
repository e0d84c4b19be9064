use Rattle.std.proofs.Common.{ℕ, ℤ, subst}
use Rattle.sc_fraction.specs.Frac.{IsQuotient}
use Rattle.sc_crossing.specs.inside.Sizes.{form_from}
use Rattle.sc_crossing.proofs.FormNumbers.{first_form_is}
use Rattle.sc_crossing.proofs.form.form_of.Goals as goal

pub returns : goal.returns
returns c = (
  subst (λ (z : ℤ). IsQuotient z c.args.list.now.scale c.form_part.result) (first_form_is c.args.first.now c.args.list.now) c.form_part.ensures,
  subst (λ (k : ℕ). IsQuotient (form_from c.args.second.now c.args.list.now k) c.args.list.now.scale c.form_part-2.result) c.words.ensures.words c.form_part-2.ensures,
)
