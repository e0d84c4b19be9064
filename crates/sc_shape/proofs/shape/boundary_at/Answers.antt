use Rattle.std.proofs.Common.{◌≡◌, ℕ, length, get_or, arith}
use Rattle.sc_shape.proofs.WordSizes.{word_size}
use Rattle.sc_shape.proofs.shape.boundary_at.Goals as goal

pub overflow_cast-result : goal.overflow_cast-result
overflow_cast-result c = omega (arith, c.word_of-word.ensures.in_range, c.entries_of.ensures.small.few_words)

pub overflow_cast-result-2 : goal.overflow_cast-result-2
overflow_cast-result-2 c =
    let w : ℕ = c.word_of-word.result in
    let sizes = word_size c.args.chain.now w c.index-entries_of-word.result c.entries_of.ensures.small c.word_of-word.ensures.in_range in
    let is : c.len-letters.result ≡ length (get_or c.args.chain.now w c.index-entries_of-word.result).1 =
    rw (← c.entries_of.ensures.words) c.len-letters.ensures in
    omega (arith, is, sizes.1)

pub nonzero_div-result : goal.nonzero_div-result
nonzero_div-result c =
    let w : ℕ = c.word_of-word.result in
    let sizes = word_size c.args.chain.now w c.index-entries_of-word.result c.entries_of.ensures.small c.word_of-word.ensures.in_range in
    let is : c.len-letters.result ≡ length (get_or c.args.chain.now w c.index-entries_of-word.result).1 =
    rw (← c.entries_of.ensures.words) c.len-letters.ensures in
    omega (arith, is, sizes.0)
