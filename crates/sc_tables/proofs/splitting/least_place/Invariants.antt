use Rattle.sc_tables.specs.inside.Splits.{IsLeastPlace}
use Rattle.sc_tables.proofs.splitting.least_place.Given as goal

abbrev pub invariant-loop-place : goal.invariant-loop-place
invariant-loop-place l = IsLeastPlace l.walk l.place l.least
