use Rattle.std.proofs.Common.{◌<◌, ℕ, List, length, get_or, take, sym, subst₂, arith}
use Rattle.std.proofs.lemmas.Grind.{common_steps}
use Rattle.std.proofs.lemmas.List.{take_more}
use Rattle.sc_assembly.specs.declared.parts.Part.{Part}
use Rattle.sc_assembly.specs.Multiples.{AreCounts}
use Rattle.sc_assembly.proofs.PartLoops.{counts_last}
use Rattle.sc_assembly_tests.proofs.counting.valued_parts.Goals as goal

pub loop-place-preserved : goal.loop-place-preserved
loop-place-preserved g c =
    let place : ℕ = c.loop-place.place in
    let inside : place < length c.args.counts.now = omega (arith, c.requires.as_many) in
    record {
      polygons = grind (arith, common_steps);
      counts = subst₂ (λ (ps : List Part) (ks : List ℕ). AreCounts c.args.n ps ks) (sym c.in_ok-push.ensures.items) (sym (take_more c.args.counts.now place 0 inside))
          (counts_last c.args.n c.loop-place.parts.items (take place c.args.counts.now) c.in_ok-valued_part.field-0 (get_or c.args.counts.now place 0) c.loop-place.invariant.counts c.in_ok-valued_part.ensures.times);
    }
