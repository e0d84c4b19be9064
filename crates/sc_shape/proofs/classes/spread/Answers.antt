use Rattle.std.proofs.Common.{◌≡◌, ℕ, ◌<◌, List, length, get_or, arith, ◌∙◌}
use Rattle.std.proofs.lemmas.Grind.{get_or_default_zero}
use Rattle.sc_shape.specs.Classes.{entry}
use Rattle.sc_shape.proofs.Spreading.{spreads_round, round_smaller, spreads_end}
use Rattle.sc_shape.proofs.classes.spread.Goals as goal

pub loop-done-smaller : goal.loop-done-smaller
loop-done-smaller c =
    let s = c.loop-done.invariant.0 in
    let items : List ℕ = c.loop-done.reached.items in
    let done : ℕ = c.loop-done.done in
    let inside : done < length items = omega (arith, c.loop-done-test.true, c.len.ensures, c.loop-done.reached.ok.0) in
    let u : ℕ = c.index.result.now in
    let at : u ≡ get_or items done 0 = c.index.ensures ∙ get_or_default_zero items done u inside in
    let lu : u < length c.args.first.now = omega (arith, at, (s.each done inside).in_range) in
    round_smaller c.loop-done.marks items done (entry c.args.first.now u) (entry c.args.second.now u) c.reach-in-loop-done.new.marks c.reach-in-loop-done.new.reached.items c.reach-in-loop-done-2.new.marks c.reach-in-loop-done-2.new.reached.items
    inside
    (omega (arith, c.requires.first u lu, s.as_many_marks))
    (omega (arith, c.requires.second u lu, s.as_many_marks, c.reach-in-loop-done.auto.marks))
    c.in_ok-reach-2.ensures.marks c.in_ok-reach-2.ensures.reached c.in_ok-reach-3.ensures.marks c.in_ok-reach-3.ensures.reached

pub loop-done-preserved : goal.loop-done-preserved
loop-done-preserved c =
    let items : List ℕ = c.loop-done.reached.items in
    let done : ℕ = c.loop-done.done in
    let inside : done < length items = omega (arith, c.loop-done-test.true, c.len.ensures, c.loop-done.reached.ok.0) in
    let u : ℕ = c.index.result.now in
    let at : u ≡ get_or items done 0 = c.index.ensures ∙ get_or_default_zero items done u inside in
    spreads_round (entry c.args.first.now) (entry c.args.second.now) (length c.args.first.now) c.args.marks.now c.args.least.now c.args.start c.loop-done.marks c.loop-done.least items done u c.reach-in-loop-done.new.marks c.reach-in-loop-done.new.least c.reach-in-loop-done.new.reached.items c.reach-in-loop-done-2.new.marks c.reach-in-loop-done-2.new.least c.reach-in-loop-done-2.new.reached.items
    c.requires.first c.requires.second c.loop-done.invariant.0 c.loop-done.invariant.1 c.requires.inside inside at
    c.in_ok-reach-2.ensures.marks c.in_ok-reach-2.ensures.least c.in_ok-reach-2.ensures.reached c.in_ok-reach-3.ensures.marks c.in_ok-reach-3.ensures.least c.in_ok-reach-3.ensures.reached

pub returns : goal.returns
returns c =
    spreads_end (entry c.args.first.now) (entry c.args.second.now) (length c.args.first.now) c.args.marks.now c.args.least.now c.args.start c.loop-done.marks c.loop-done.least c.loop-done.reached.items c.loop-done.done
    c.requires.first c.requires.second c.requires.classes c.loop-done.invariant.0 c.loop-done.invariant.1
    (omega (arith, c.loop-done-test.false, c.len.ensures, c.loop-done.reached.ok.0))
