use Rattle.std.proofs.Common.{sym, ◌∙◌}
use Rattle.sc_fan.proofs.ReadingLaws.{bytes_left}
use Rattle.sc_fan.proofs.lines.Lines.end.Goals as goal

pub returns-else-is_empty-clause-err : goal.returns-else-is_empty-clause-err
returns-else-is_empty-clause-err c = bytes_left c.args.self.now c.self.inside.number c.self.inside.rest.now c.self.view_is (sym c.is_empty.ensures ∙ c.if-is_empty.false)
