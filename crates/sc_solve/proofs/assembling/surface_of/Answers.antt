use Rattle.std.proofs.Common.{◌≡◌, ℕ, List, Option, None, length, replicate, arith, sym, ap, ◌∙◌}
use Rattle.sc_assembly.specs.declared.parts.Part.{Part}
use Rattle.sc_solve.specs.Solutions.{exchanged, last_items}
use Rattle.sc_solve.specs.inside.Assembling.{valued}
use Rattle.sc_solve.proofs.PolygonJournals.{length-last_items}
use Rattle.sc_solve.proofs.PartLoops.{length-valued}
use Rattle.sc_solve.proofs.assembling.surface_of.Goals as goal

pub valued_parts-requires : goal.valued_parts-requires
valued_parts-requires c =
    let chain = c.args.chain.now in
    let items : c.as_slice.result.now ≡ last_items chain c.args.journal.now =
    c.as_slice.ensures.value ∙ c.in_ok-items.ensures ∙ ap (λ (n : ℕ). exchanged (replicate n None) c.args.journal.now) c.requires.size in
    c.requires.size ∙ sym (length-last_items chain c.args.journal.now) ∙ sym (ap (λ (xs : List (Option (List ℕ))). length xs) items)

pub glued-requires-clause-few : goal.glued-requires-clause-few
glued-requires-clause-few c =
    let parts : length c.in_ok-parts.parts.items ≡ length (valued c.as_slice.result.now c.args.values.now) = ap (λ (xs : List Part). length xs) c.in_ok-parts.ensures in
    omega (arith, parts, length-valued c.as_slice.result.now c.args.values.now, c.requires.size, c.requires.few)
