use Rattle.std.proofs.Common.{sym, ◌∙◌}
use Rattle.sc_line.proofs.PartLaws.{counted_told}
use Rattle.sc_line.proofs.counted.CountedLinePart.finish.Goals as goal

pub returns-clause-some : goal.returns-clause-some
returns-clause-some g c =
    counted_told c.args.self.name.now c.args.self.most (g.K.LineItem.kind c.args.self.kind c.args.context.now) c.args.self.count c.args.self.values.items
    (sym c.is_whole.ensures ∙ c.if-not-is_whole.false)
