use Rattle.std.proofs.Common.{◌∙◌, sym, refl}
use Rattle.std.proofs.lemmas.Bool.{false≢true}
use Rattle.sc_certificate.proofs.SmallLists.{entries_decided}
use Rattle.sc_certificate.proofs.tables.Table.new.Goals as goal

pub invariant_of-result : goal.invariant_of-result
invariant_of-result c =
    let value = rw c.as_slice.ensures.value at c.are_small_entries.ensures in
    (entries_decided c.args.entries.items).0 (sym value ∙ c.if-are_small_entries.true)

pub returns-then-are_small_entries-clause-some : goal.returns-then-are_small_entries-clause-some
returns-then-are_small_entries-clause-some c =
    let value = rw c.as_slice.ensures.value at c.are_small_entries.ensures in
    ((λ _. (entries_decided c.args.entries.items).0 (sym value ∙ c.if-are_small_entries.true)), (λ _. refl))

pub returns-else-are_small_entries-clause-some : goal.returns-else-are_small_entries-clause-some
returns-else-are_small_entries-clause-some c =
    let value = rw c.as_slice.ensures.value at c.are_small_entries.ensures in
    ((λ h. absurd (false≢true h)), (λ h. sym c.if-are_small_entries.false ∙ value ∙ (entries_decided c.args.entries.items).1 h))
