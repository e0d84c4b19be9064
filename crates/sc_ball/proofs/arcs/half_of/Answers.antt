use Rattle.std.proofs.Common.{◌≡◌, ℕ, suc, ◌<◌, List, [], ◌∷◌, ◌++◌, length, Some, arith, sym, ap, subst, ◌∙◌, append_assoc}
use Rattle.std.specs.Vec.Iter.{into_iter_items}
use Rattle.std.proofs.lemmas.List.{length-append}
use Rattle.sc_ball.specs.declared.solved.Solved.{Solved}
use Rattle.sc_ball.specs.Searched.{entries_of}
use Rattle.sc_ball.specs.inside.Halves.{IsArcAlong}
use Rattle.sc_ball.proofs.EntryLists.{item_at, all_taken}
use Rattle.sc_ball.proofs.HalfLaws.{along_all_ok, some_entries}
use Rattle.sc_ball.proofs.arcs.half_of.Goals as goal

pub loop-entry-preserved : goal.loop-entry-preserved
loop-entry-preserved c =
    let at = c.loop-entry in
    let x : Solved = c.in-Some.entry in
    let steps : into_iter_items at.entry-iterator ≡ x ∷ into_iter_items c.next.new.self = c.in-Some.ensures.steps.0 in
    let split : at.yielded ++ x ∷ into_iter_items c.next.new.self ≡ c.args.entries.items = subst (λ (rest : List Solved). at.yielded ++ rest ≡ c.args.entries.items) steps at.invariant.split in
    record {
      split = append_assoc at.yielded (x ∷ []) (into_iter_items c.next.new.self) ∙ split;
      left = let was = at.invariant.left in
          let gone = c.in-Some.ensures.steps.1 in
          let short = ap length steps in
          omega arith;
      along = λ q searched.
          let longer : suc (length at.yielded) ≡ length (at.yielded ++ x ∷ []) = omega (arith, length-append at.yielded (x ∷ [])) in
          subst (λ (n : ℕ). IsArcAlong q c.args.first.now c.args.second.now (entries_of c.args.entries.items) (Some c.in_ok-arc_to.field-0) n) longer
          (c.in_ok-arc_to.ensures q c.args.entries.items (length at.yielded) searched (item_at c.args.entries.items at.yielded x (into_iter_items c.next.new.self) split) (at.invariant.along q searched));
    }

pub unreachable-requires : goal.unreachable-requires
unreachable-requires c =
    let at = c.loop-entry in
    let all : at.yielded ≡ c.args.entries.items = all_taken c.args.entries.items at.yielded (into_iter_items at.entry-iterator) at.invariant.split (sym at.invariant.left ∙ c.in-None.ensures.steps.0) in
    let none : length at.yielded ≡ 0 = subst (λ a. IsArcAlong c.requires.0 c.args.first.now c.args.second.now (entries_of c.args.entries.items) a (length at.yielded)) c.in-None-arc.is (at.invariant.along c.requires.0 c.requires.1) in
    let some : 0 < length c.args.entries.items = some_entries c.requires.0 c.args.first.now c.args.second.now c.check_chain.ensures.chain c.check_chain-2.ensures.chain c.args.entries.items c.requires.1 in
    omega (arith, none, some, ap length all)

pub returns : goal.returns
returns c q searched =
    let at = c.loop-entry in
    let all : at.yielded ≡ c.args.entries.items = all_taken c.args.entries.items at.yielded (into_iter_items at.entry-iterator) at.invariant.split (sym at.invariant.left ∙ c.in-None.ensures.steps.0) in
    along_all_ok q c.args.first.now c.args.second.now c.check_chain.ensures.chain c.check_chain-2.ensures.chain c.args.entries.items searched c.in-Some-arc.arc c.finished.result
    (subst (λ (n : ℕ). IsArcAlong q c.args.first.now c.args.second.now (entries_of c.args.entries.items) (Some c.in-Some-arc.arc) n) (ap length all)
    (subst (λ a. IsArcAlong q c.args.first.now c.args.second.now (entries_of c.args.entries.items) a (length at.yielded)) c.in-Some-arc.is (at.invariant.along q searched)))
    (λ n r. c.finished.ensures q c.args.first.now c.args.second.now n r)
