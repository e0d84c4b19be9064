use Rattle.std.proofs.Common.{◌≡◌, ℕ, ◌*◌, ◌<◌, List, length, take, arith, ap, ap₂, subst₂, ◌∙◌}
use Rattle.sc_theory.specs.Chains.{weight}
use Rattle.sc_gluing.specs.Cycles.{copies_of, labels_of}
use Rattle.sc_gluing.specs.Laying.{AreLaid, LaysBehind}
use Rattle.sc_gluing.specs.Seeds.{positions_of, word_parts, word_cycles}
use Rattle.sc_gluing.proofs.WordCopies.{words_size, words_fit, words_more, words_all}
use Rattle.sc_gluing.proofs.seeds.lay_words.Goals as goal

pub lay_copies-requires : goal.lay_copies-requires
lay_copies-requires c =
    let chain = c.args.chain.now in
    let w : ℕ = c.loop-w.w in
    let inside : w < length chain = omega (arith, c.words-w-end.ensures.words) in
    let lies : length c.loop-w.laid.labels.items ≡ length (labels_of (copies_of (take w (word_parts chain)))) = ap (λ (xs : List ℕ). length xs) c.loop-w.invariant.labels_are in
    let own : c.weight.result * length c.as_slice.result.now ≡ weight chain w * length (positions_of chain w) =
    ap₂ (λ (m : ℕ) (xs : List ℕ). m * length xs) c.weight.ensures (c.as_slice.ensures.value ∙ c.in_ok-walk.ensures) in
    omega (arith, c.loop-w.laid.labels.ok.0, lies, own, words_fit chain c.words-w-end.ensures.small w inside)

pub loop-w-preserved : goal.loop-w-preserved
loop-w-preserved c =
    let chain = c.args.chain.now in
    let w : ℕ = c.loop-w.w in
    let old = c.loop-w.laid in
    let new = c.lay_copies.new.self in
    let inside : w < length chain = omega (arith, c.words-w-end.ensures.words) in
    words_more chain w old.labels.items old.afters.items new.labels.items new.afters.items inside
    (subst₂ (λ (m : ℕ) (xs : List ℕ). LaysBehind m xs old.labels.items old.afters.items new.labels.items new.afters.items) c.weight.ensures (c.as_slice.ensures.value ∙ c.in_ok-walk.ensures) c.in_ok-lay_copies.ensures.laid)
    c.loop-w.invariant

pub returns-clause-laid : goal.returns-clause-laid
returns-clause-laid c =
    words_all c.args.chain.now c.loop-w.w c.loop-w.laid.labels.items c.loop-w.laid.afters.items (omega (arith, c.words-w-end.ensures.words)) c.loop-w.invariant

pub returns-clause-few : goal.returns-clause-few
returns-clause-few c =
    let chain = c.args.chain.now in
    let all : AreLaid (word_cycles chain) c.loop-w.laid.labels.items c.loop-w.laid.afters.items =
    words_all chain c.loop-w.w c.loop-w.laid.labels.items c.loop-w.laid.afters.items (omega (arith, c.words-w-end.ensures.words)) c.loop-w.invariant in
    omega (arith, ap (λ (xs : List ℕ). length xs) all.labels_are, words_size chain, c.words-w-end.ensures.small.light)
