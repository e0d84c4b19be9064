use Rattle.std.proofs.Common.{◌≡◌, ℕ, ◌*◌, ◌^◌, ◌<◌, length, unsigned_abs, rules, sym, subst₂}
use Rattle.sc_theory.specs.Chains.{Chain, weight}
use Rattle.sc_crossing.proofs.DirectionWords.{first_fits, second_fits}
use Rattle.sc_crossing.proofs.chains.words_at.Goals as goal

pub append_times-requires : goal.append_times-requires
append_times-requires c =
    let times : c.unsigned_abs-s.result ≡ unsigned_abs c.args.direction.s = search rules in
    subst₂ (λ (ws : Chain) (k : ℕ). (w : ℕ) → w < length ws → k * weight ws w < 2 ^ 32) (sym c.entries.ensures) (sym times)
    (first_fits c.args.first.now c.args.second.now c.args.direction c.requires.light c.check_chain.ensures.chain)

pub append_second-requires : goal.append_second-requires
append_second-requires c =
    let times : c.unsigned_abs-t.result ≡ unsigned_abs c.args.direction.t = search rules in
    subst₂ (λ (ws : Chain) (k : ℕ). (w : ℕ) → w < length ws → k * weight ws w < 2 ^ 32) (sym c.entries-2.ensures) (sym times)
    (second_fits c.args.first.now c.args.second.now c.args.direction c.requires.light c.check_chain-2.ensures.chain)
