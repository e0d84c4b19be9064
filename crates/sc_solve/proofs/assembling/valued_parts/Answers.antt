use Rattle.std.proofs.Common.{◌<◌, ◌++◌, List, None, length, arith, sym, ap, ◌∙◌}
use Rattle.std.proofs.lemmas.List.{get_or_default}
use Rattle.sc_assembly.specs.declared.parts.Part.{Part}
use Rattle.sc_solve.specs.inside.Assembling.{part_of}
use Rattle.sc_solve.proofs.PartLoops.{valued_more}
use Rattle.sc_solve.proofs.assembling.valued_parts.Goals as goal

pub loop-row-preserved : goal.loop-row-preserved
loop-row-preserved c =
    let inside : c.loop-row.row < length c.args.items.now = omega (arith, c.requires, c.loop-row-test.true) in
    c.in_ok-append_part.ensures
    ∙ ap (λ (xs : List Part). xs ++ part_of c.index-items-row.result c.index-values-row.result) c.loop-row.invariant
    ∙ sym (valued_more c.args.items.now c.args.values.now c.loop-row.row c.index-items-row.result c.index-values-row.result inside c.loop-row-test.true
    (c.index-items-row.is ∙ get_or_default c.args.items.now c.loop-row.row c.index-items-row.result None inside) c.index-values-row.is)
