use Rattle.std.proofs.Common.{◌∙◌, Some, ap, subst}
use Rattle.sc_text.proofs.EntryLaws.{HasEntries, one_more, one_wide}
use Rattle.sc_text.proofs.tables.entries.Goals as goal
use Rattle.sc_text.proofs.tables.entries.Goals.{in-Ok+in_ok-push-in-Ok, in-Err-Range}

pub loop-turn-preserved : goal.loop-turn-preserved
loop-turn-preserved c =
    let before = subst (λ fs. HasEntries c.args.fields fs c.loop-turn._turn c.loop-turn.all_in_range c.loop-turn.table.items) c.in-Some.ensures.some c.loop-turn.invariant in
    elim c.match-entry.branch [
      | in-Ok+in_ok-push-in-Ok w ↦
          rw (w.all_in_range-is, w.table-is, w.in_ok-push-in-Ok.ensures.items)
          (one_more c.args.fields c.next.new.self c.loop-turn._turn c.loop-turn.all_in_range c.loop-turn.table.items c.in-Some.field.now w.in-Ok.entry before w.in-Ok.ensures.ok.0 w.in-Ok.ensures.ok.1)
      | in-Err-Range w ↦
          rw (w.all_in_range-is, w.table-is)
          (one_wide c.args.fields c.next.new.self c.loop-turn._turn c.loop-turn.all_in_range c.loop-turn.table.items c.in-Some.field.now before (w.in-Err-Range.ensures.err ∙ ap Some w.in-Err-Range.field-0-is))
    ]
