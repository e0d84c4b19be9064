use Rattle.std.proofs.Common.{◌≡◌, ◌+◌, ◌≤◌, List, length, arith, sym, ap, subst, ◌∙◌}
use Rattle.std.proofs.lemmas.List.Edits.{length-insert}
use Rattle.sc_ball.specs.declared.solved.Solved.{Solved}
use Rattle.sc_ball.specs.Solved.{seen}
use Rattle.sc_ball.specs.inside.Searched.{IsSearchedTo, IsEntryBetween}
use Rattle.sc_ball.specs.inside.Halves.{most_entries}
use Rattle.sc_ball.proofs.SearchLaws.{gap_here, searched_further, searched_more, stopped_here, few_entries}
use Rattle.sc_ball.proofs.searching.search.Goals as goal

pub entry_between-requires-clause-gap : goal.entry_between-requires-clause-gap
entry_between-requires-clause-gap c =
    gap_here c.args.quadrant c.args.first.now c.args.second.now c.check_chain.ensures.chain c.check_chain-2.ensures.chain c.loop-place.entries.items c.loop-place.place c.index.result.now c.index-in-loop-place.result.now
    (omega arith) c.index.ensures c.index-in-loop-place.ensures c.loop-place.invariant.searched

pub loop-place-preserved-in-Continue-branch-2 : goal.loop-place-preserved-in-Continue-branch-2
loop-place-preserved-in-Continue-branch-2 c =
    let longer : length c.put_in.new.entries.items ≡ length c.loop-place.entries.items + 1 =
    ap length c.in_ok-put_in-in-Some.ensures ∙ length-insert c.loop-place.entries.items (c.loop-place.place + 1) c.in-Some.entry (omega arith) in
    record {
      searched =
          subst (λ (entries : List Solved). IsSearchedTo c.args.quadrant c.args.first.now c.args.second.now entries (c.loop-place.place + 1)) (sym c.in_ok-put_in-in-Some.ensures)
          (searched_more c.args.quadrant c.args.first.now c.args.second.now c.check_chain.ensures.chain c.check_chain-2.ensures.chain c.loop-place.entries.items c.loop-place.place c.index.result.now c.index-in-loop-place.result.now
          (omega arith) c.index.ensures c.index-in-loop-place.ensures c.loop-place.invariant.searched c.in-Some.entry
          (subst (IsEntryBetween c.args.quadrant c.args.first.now c.args.second.now (seen c.index.result.now) (seen c.index-in-loop-place.result.now)) c.in-Some.is c.in-Ok.ensures.entry));
      inside = omega arith;
    }

pub loop-place-smaller-in-Continue-branch-2 : goal.loop-place-smaller-in-Continue-branch-2
loop-place-smaller-in-Continue-branch-2 c =
    let longer : length c.put_in.new.entries.items ≡ length c.loop-place.entries.items + 1 =
    ap length c.in_ok-put_in-in-Some.ensures ∙ length-insert c.loop-place.entries.items (c.loop-place.place + 1) c.in-Some.entry (omega arith) in
    let few : length c.put_in.new.entries.items ≤ most_entries = few_entries c.args.quadrant c.args.first.now c.args.second.now c.check_chain.ensures.chain c.check_chain-2.ensures.chain c.put_in.new.entries.items (c.loop-place.place + 1) (loop-place-preserved-in-Continue-branch-2 c).searched in
    omega arith

pub loop-place-preserved : goal.loop-place-preserved
loop-place-preserved c = record {
  searched =
      searched_further c.args.quadrant c.args.first.now c.args.second.now c.check_chain.ensures.chain c.check_chain-2.ensures.chain c.loop-place.entries.items c.loop-place.place c.index.result.now c.index-in-loop-place.result.now
      (omega arith) c.index.ensures c.index-in-loop-place.ensures c.loop-place.invariant.searched
      (subst (IsEntryBetween c.args.quadrant c.args.first.now c.args.second.now (seen c.index.result.now) (seen c.index-in-loop-place.result.now)) c.in-None.is c.in-Ok.ensures.entry);
  inside = omega arith;
}

pub loop-place-smaller : goal.loop-place-smaller
loop-place-smaller c =
    let few : length c.loop-place.entries.items ≤ most_entries = few_entries c.args.quadrant c.args.first.now c.args.second.now c.check_chain.ensures.chain c.check_chain-2.ensures.chain c.loop-place.entries.items (c.loop-place.place + 1) c.loop-place.invariant.searched in
    omega arith

pub returns-in-Err-clause-stopped : goal.returns-in-Err-clause-stopped
returns-in-Err-clause-stopped c =
    stopped_here c.args.quadrant c.args.first.now c.args.second.now c.check_chain.ensures.chain c.check_chain-2.ensures.chain c.loop-place.entries.items c.loop-place.place c.index.result.now c.index-in-loop-place.result.now
    (omega arith) c.index.ensures c.index-in-loop-place.ensures c.loop-place.invariant.searched
    c.args.budget c.in_ok-search-in-Err.search.items c.in-Err.stop c.stopped.result c.in_ok-search-in-Err.ensures c.in-Err.ensures.opened c.in-Err.ensures.stopped
    (c.stopped.ensures c.args.first.now c.args.second.now c.args.budget c.loop-place.place)
