use Rattle.sc_cone.proofs.ValueLaws.{unique, value_moved, value_from_least}
use Rattle.sc_cone.proofs.values.values_are_unique.Goals as goal

pub returns : goal.returns
returns c = record { unique = unique; same = value_moved; by_least = value_from_least }
