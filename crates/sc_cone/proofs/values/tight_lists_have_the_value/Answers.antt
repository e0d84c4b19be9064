use Rattle.sc_cone.proofs.ValueLaws.{tight_is, value_from_tight, tight_from_value, above_from_value}
use Rattle.sc_cone.proofs.values.tight_lists_have_the_value.Goals as goal

pub returns : goal.returns
returns c = record {
  fraction = tight_is;
  value = value_from_tight;
  back = λ c list v. (above_from_value c list v, (v.copies, v.sides, v.fatgraph, tight_from_value c list v));
}
