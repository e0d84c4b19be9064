use Rattle.sc_fan.proofs.ReadingLaws.{next_is, no_next}
use Rattle.sc_fan.proofs.lines.Lines.next.Goals as goal

pub returns-in-None-clause-err : goal.returns-in-None-clause-err
returns-in-None-clause-err c = no_next c.args.self.now c.self.inside.number c.self.inside.rest.now c.self.view_is c.in-None.ensures.none

pub returns-in-Some-clause-ok : goal.returns-in-Some-clause-ok
returns-in-Some-clause-ok c = next_is c.args.self.now c.self.inside.number c.self.inside.rest.now c.self.view_is c.in-Some.line.now c.in-Some.after.now c.in-Some.ensures.found
