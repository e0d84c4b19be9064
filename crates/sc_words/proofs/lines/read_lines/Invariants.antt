use Rattle.sc_words.proofs.ReadingLaws.{IsReading}
use Rattle.sc_words.proofs.lines.read_lines.Given as goal

abbrev pub invariant-loop-text : goal.invariant-loop-text
invariant-loop-text l =
    (goal.iterator-loop-text).can_next l.text-iterator ×
    (goal.iterator-loop-text).is_finite l.text-iterator ×
    IsReading l.bytes l.text-iterator.rest.now l.line l.read.items
