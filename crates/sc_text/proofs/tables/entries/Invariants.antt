use Rattle.sc_text.proofs.EntryLaws.{HasEntries}
use Rattle.sc_text.proofs.tables.entries.Given as goal

abbrev pub invariant-loop-turn : goal.invariant-loop-turn
invariant-loop-turn l = HasEntries l.fn.fields l.fields l._turn l.all_in_range l.table.items
