use Rattle.std.proofs.Common.{◌≡◌, ◌*◌, length, ap, ◌∙◌, arith}
use Rattle.sc_random.proofs.DrawnChains.{length-draws}
use Rattle.sc_random.proofs.chain.drawn_lines.Goals as goal

pub split_at-requires : goal.split_at-requires
split_at-requires c =
    let size : length c.as_slice.result.now ≡ 4 * c.args.letters =
    ap length (c.as_slice.ensures.value ∙ c.in_ok-draws.ensures) ∙ length-draws c.args.seed (4 * c.args.letters) in
    omega (arith, size)

pub drawn_commutator-requires-2 : goal.drawn_commutator-requires-2
drawn_commutator-requires-2 c =
    let size : length c.as_slice.result.now ≡ 4 * c.args.letters =
    ap length (c.as_slice.ensures.value ∙ c.in_ok-draws.ensures) ∙ length-draws c.args.seed (4 * c.args.letters) in
    omega (arith, size, c.split_at.ensures.back_len)
