use Rattle.sc_fatgraph.proofs.LabelCounts.{LabelsBelow}
use Rattle.sc_fatgraph.proofs.flaws.count_labels.Given as goal

abbrev pub invariant-loop-s : goal.invariant-loop-s
invariant-loop-s l = LabelsBelow l.chain l.sides l.tally l.s
