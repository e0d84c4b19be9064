use Rattle.std.proofs.Common.{arith, ◌≡◌, ◌≤◌, ◌+◌, ◌++◌, length, take, drop, vec_len, sym, ◌∙◌}
use Rattle.sc_outside.proofs.Bytes.{Consumes-next, Delivered-two, front_length, read_length, below_front}
use Rattle.sc_outside.proofs.sources.read_all.Goals as goal

pub loop-turn-preserved : goal.loop-turn-preserved
loop-turn-preserved g c =
    let fits : c.in_ok-count.count ≤ length c.read.new.room = omega (arith, c.in_ok-count.ensures.fits, c.read.auto.room) in
    let size : length (take c.in_ok-count.count (c.read.new.room ++ drop c.min-most.result c.loop-turn.room)) ≡ c.in_ok-count.count = read_length _ _ _ fits in
    let grown : vec_len c.extend_from_slice.new.self ≡ vec_len c.loop-turn.bytes + c.in_ok-count.count = omega (arith, c.in_ok-extend_from_slice.ensures.len, size) in
    record {
      within = omega (arith, grown);
      progress = omega (arith, grown);
      delivered = Consumes-next _ _ _ _ _ _ _ _ c.loop-turn.invariant.delivered c.in_ok-count.ensures.next_bytes fits c.in_ok-extend_from_slice.ensures.items;
      saturated = λ h. c.in_ok-count.ensures.stays_saturated (c.loop-turn.invariant.saturated h);
      no_fault = c.in_ok-count.ensures.no_fault ∙ c.loop-turn.invariant.no_fault;
      calls = omega (arith, c.in_ok-count.ensures.one_call);
      given = omega (arith, grown, c.in_ok-count.ensures.gave);
    }

pub returns-then-count-limit-clause-long : goal.returns-then-count-limit-clause-long
returns-then-count-limit-clause-long g c = λ _.
    let fits : c.in_ok-count.count ≤ length c.read.new.room = omega (arith, c.in_ok-count.ensures.fits, c.read.auto.room) in
    let short : c.in_ok-count.count ≤ c.min-most.result = below_front _ _ _ c.in_ok-count.ensures.fits in
    let size : length (take c.in_ok-count.count c.read.new.room) ≡ c.in_ok-count.count = front_length _ _ fits in
    let kept : length c.loop-turn.bytes.items ≡ vec_len c.loop-turn.bytes = sym c.loop-turn.bytes.ok.0 in
    let exact : vec_len c.loop-turn.bytes + c.in_ok-count.count ≡ c.args.limit + 1 = omega arith in
    let all : length c.loop-turn.bytes.items + length (take c.in_ok-count.count c.read.new.room) ≡ c.args.limit + 1 = omega (arith, size, kept, exact) in
    Delivered-two _ _ _ _ _ _ c.loop-turn.invariant.delivered c.in_ok-count.ensures.next_bytes all

pub returns-in_err-extend_from_slice-clause-memory : goal.returns-in_err-extend_from_slice-clause-memory
returns-in_err-extend_from_slice-clause-memory g c = λ _.
    let fits : c.in_ok-count.count ≤ length c.read.new.room = omega (arith, c.in_ok-count.ensures.fits, c.read.auto.room) in
    let size : length (take c.in_ok-count.count c.read.new.room) ≡ c.in_ok-count.count = front_length _ _ fits in
    let kept : length c.loop-turn.bytes.items ≡ vec_len c.loop-turn.bytes = sym c.loop-turn.bytes.ok.0 in
    let all : length c.loop-turn.bytes.items + length (take c.in_ok-count.count c.read.new.room) ≡ vec_len c.loop-turn.bytes + c.in_ok-count.count = omega (arith, size, kept) in (
      vec_len c.loop-turn.bytes + c.in_ok-count.count,
      omega arith,
      Delivered-two _ _ _ _ _ _ c.loop-turn.invariant.delivered c.in_ok-count.ensures.next_bytes all,
    )
