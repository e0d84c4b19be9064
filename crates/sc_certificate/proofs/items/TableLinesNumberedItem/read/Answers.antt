use Rattle.std.proofs.Common.{◌≡◌, ℕ, List, length, sym, subst, ap, ◌∙◌}
use Rattle.sc_theory.specs.Chains.{positions}
use Rattle.sc_line.specs.Forms.{Tells}
use Rattle.sc_line.proofs.NumberLaws.{tells_value}
use Rattle.sc_text.specs.TableLines.{Entry, from_line, from_fault, entries_of_line, IsTableInRange, a_table}
use Rattle.sc_text.proofs.KindLaws.{from_kind}
use Rattle.sc_certificate.proofs.items.TableLinesNumberedItem.read.Goals as goal

pub returns-clause-ok : goal.returns-clause-ok
returns-clause-ok c =
    let told = c.in_ok-entries.ensures.ok in
    let n = c.positions-places.result in
    let s = length c.args.before.now in
    let places : n ≡ positions c.args.head.now.chain = c.positions-places.ensures.positions ∙ ap positions c.chain.ensures in
    subst (λ (k : ℕ). Tells (a_table k s) c.args.line.now c.of_small.result) places
    (subst (λ (table : List Entry). Tells (a_table n s) c.args.line.now table) (sym c.of_small.ensures)
    (tells_value (from_fault n s) entries_of_line (from_line s) (IsTableInRange n) c.in_ok-entries.entries.items c.args.line.now (from_kind n s) told.0 told.1))
