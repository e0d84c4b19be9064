use Rattle.sc_assembly.proofs.CountedParts.{room_for_part, part_laid, all_laid}
use Rattle.sc_assembly.proofs.gluing.lay_parts.Goals as goal

pub lay_copies-requires : goal.lay_copies-requires
lay_copies-requires c =
    let laid = c.loop-place.laid in
    room_for_part c.args.parts.now c.args.counts.now c.loop-place.place c.index-parts-place.result c.walk.result.now c.requires.as_many c.loop-place-test.true c.index-parts-place.is c.walk.ensures.walk
    laid.labels.items _ laid.labels.ok.0 c.loop-place.invariant.labels_are c.requires.few

pub loop-place-preserved : goal.loop-place-preserved
loop-place-preserved c =
    part_laid c.args.parts.now c.args.counts.now c.loop-place.place c.index-parts-place.result c.walk.result.now c.requires.as_many c.loop-place-test.true c.index-parts-place.is c.walk.ensures.walk
    c.loop-place.laid.labels.items c.loop-place.laid.afters.items _ _ c.loop-place.invariant c.in_ok-lay_copies.ensures.laid

pub returns : goal.returns
returns c =
    all_laid c.args.parts.now c.args.counts.now c.loop-place.place c.loop-place.laid.labels.items c.loop-place.laid.afters.items c.requires.as_many c.loop-place-test.false c.loop-place.invariant
