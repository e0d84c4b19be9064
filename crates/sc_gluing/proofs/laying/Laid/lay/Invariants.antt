use Rattle.sc_gluing.proofs.LaidCopies.{IsLaidSoFar}
use Rattle.sc_gluing.proofs.laying.Laid.lay.Given as goal

abbrev pub invariant-loop-place : goal.invariant-loop-place
invariant-loop-place l = IsLaidSoFar l.walk l.initial.self.labels.items l.initial.self.afters.items l.place l.self.labels.items l.self.afters.items
