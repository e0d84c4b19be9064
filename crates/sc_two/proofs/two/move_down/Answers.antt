use Rattle.std.proofs.Common.{◌≡◌, ◌+◌, ◌++◌, map, take, drop, subst}
use Rattle.std.proofs.Math.ListN.{set}
use Rattle.std.proofs.lemmas.List.Edits.{map_over_more}
use Rattle.sc_words.specs.declared.lines.RawLine.{RawLine}
use Rattle.sc_two.specs.Behind.{moved}
use Rattle.sc_two.proofs.two.move_down.Goals as goal

pub loop-raw-preserved : goal.loop-raw-preserved
loop-raw-preserved c =
    subst (λ (r : RawLine). set c.loop-raw.read c.loop-raw.raw-index (moved c.args.by r) ≡ map (moved c.args.by) (take (c.loop-raw.raw-index + 1) c.args.read.now) ++ drop (c.loop-raw.raw-index + 1) c.args.read.now) c.raw-item.is
    (map_over_more (moved c.args.by) c.args.read.now c.loop-raw.read c.loop-raw.raw-index c.raw-item.result c.loop-raw-test.true c.loop-raw.invariant c.raw-item.is)
