use Rattle.sc_basis.specs.Bases.{unit_basis}
use Rattle.sc_basis.proofs.JournalLaws.{reached_after, reached_start}
use Rattle.sc_basis.proofs.RisingJournals.{prefixes_rise, prefixes_differ}
use Rattle.sc_basis.proofs.rises.journals_rise.Goals as goal

pub returns-clause-longer : goal.returns-clause-longer
returns-clause-longer c =
    λ r b ps m n t t' positive lawful less small stands after.
    prefixes_rise r b (reached_after r b) (unit_basis r) ps m n t t' (reached_start r b positive) lawful less small stands after

pub returns-clause-once : goal.returns-clause-once
returns-clause-once c =
    λ r b ps m n positive lawful less small. prefixes_differ r b (reached_after r b) (unit_basis r) ps m n (reached_start r b positive) lawful less small
