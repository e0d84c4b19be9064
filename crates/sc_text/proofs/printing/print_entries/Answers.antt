use Rattle.std.proofs.Common.{◌∷◌}
use Rattle.sc_text.specs.TableLines.{entry_field}
use Rattle.sc_line.proofs.PrintLaws.{part_after, pieces_at, on_err}
use Rattle.sc_text.proofs.printing.print_entries.Goals as goal

pub returns-in_err-print_entry-clause-err : goal.returns-in_err-print_entry-clause-err
returns-in_err-print_entry-clause-err c =
    let i = c.loop-entry.entry-index in
    let entries = c.args.entries.now in
    let whole = pieces_at (λ e. 32 ∷ entry_field e) entries i _ c.loop-entry-test.true in
    on_err _ (part_after _ c.loop-entry.out.items _ _ _ _ _ c.loop-entry.invariant c.in_err-print_entry.ensures.err whole)
