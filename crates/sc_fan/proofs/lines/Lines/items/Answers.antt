use Rattle.std.proofs.Common.{◌≡◌, ◌<◌, ◌≤◌, List, length, None, Ok, subst, sym, arith}
use Rattle.std.proofs.lemmas.Result.{err_from_is_err_and}
use Rattle.sc_line.specs.Forms.{one_due}
use Rattle.sc_fan.specs.Reading.{taken, Fails}
use Rattle.sc_fan.proofs.ReaderLaws.{AreItems, no_items, item_fails, pushed_items, all_items}
use Rattle.sc_fan.proofs.lines.Lines.items.Goals as goal

pub loop-index-init : goal.loop-index-init
loop-index-init g c =
    let kind = g.K.NumberedItem.kind c.args.kind.now c.args.context.now in
    let n = g.K.NumberedItem.count_of c.args.kind.now c.args.context.now in
    subst (λ (xs : List _). AreItems kind n c.args.self.now xs c.args.self.now 0) (sym c.new-values.ensures.items) (no_items kind n c.args.self.now)

pub item-requires : goal.item-requires
item-requires g c =
    let n = g.K.NumberedItem.count_of c.args.kind.now c.args.context.now in
    let below : length c.loop-index.values.items < n = omega (arith, c.loop-index.invariant.count, c.loop-index-test.true, c.count-count.ensures) in
    subst (λ (xs : List _). length xs < n) (sym c.as_slice.ensures.value) below

pub returns-in_err-value : goal.returns-in_err-value
returns-in_err-value g c =
    let kind = g.K.NumberedItem.kind c.args.kind.now c.args.context.now in
    let n = g.K.NumberedItem.count_of c.args.kind.now c.args.context.now in
    let more : c.loop-index._index < n = omega (arith, c.loop-index-test.true, c.count-count.ensures) in
    let bad = subst (λ (xs : List _). Fails c.in_err-value.field-0.0 (taken (one_due (kind xs) None) c.loop-index.self)) c.as_slice.ensures.value c.in_err-value.ensures in
    let p = err_from_is_err_and c.from_residual.result c.from_residual.ensures.1 in
    rw (p.1, p.2) (item_fails kind n c.args.self.now c.loop-index.values.items c.loop-index.self c.loop-index._index c.in_err-value.field-0.0 c.loop-index.invariant more bad)

pub loop-index-preserved : goal.loop-index-preserved
loop-index-preserved g c =
    let kind = g.K.NumberedItem.kind c.args.kind.now c.args.context.now in
    let n = g.K.NumberedItem.count_of c.args.kind.now c.args.context.now in
    let more : c.loop-index._index < n = omega (arith, c.loop-index-test.true, c.count-count.ensures) in
    let told = subst (λ (xs : List _). taken (one_due (kind xs) None) c.loop-index.self ≡ Ok (c.in_ok-value.value, c.item.new.self)) c.as_slice.ensures.value c.in_ok-value.ensures in
    pushed_items kind n c.args.self.now c.loop-index.values.items c.push.new.self.items c.loop-index.self c.item.new.self c.loop-index._index c.in_ok-value.value c.loop-index.invariant more c.in_ok-push.ensures.items told

pub returns : goal.returns
returns g c =
    let kind = g.K.NumberedItem.kind c.args.kind.now c.args.context.now in
    let n = g.K.NumberedItem.count_of c.args.kind.now c.args.context.now in
    let all : n ≤ c.loop-index._index = omega (arith, c.loop-index-test.false, c.count-count.ensures) in
    all_items kind n c.args.self.now c.loop-index.values.items c.loop-index.self c.loop-index._index c.loop-index.invariant all
