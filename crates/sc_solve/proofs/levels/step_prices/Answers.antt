use Rattle.std.proofs.Common.{ℕ, length, List, map, ap, sym, subst, ◌∙◌}
use Rattle.std.specs.List.{range_with_len}
use Rattle.std.proofs.lemmas.List.FromFn.{length-map-range_with_len}
use Rattle.sc_theory.specs.Prices.{pairs}
use Rattle.sc_rows.specs.Places.{IsWideBy}
use Rattle.sc_weight.specs.declared.pair.Pair.{Pair}
use Rattle.sc_solve.specs.inside.PriceLevels.{pair_of_row}
use Rattle.sc_solve.specs.Searches.{IsWidePrice}
use Rattle.sc_solve.proofs.StepPriceLaws.{step_is, fault_is}
use Rattle.sc_solve.proofs.levels.step_prices.Goals as goal

pub build-requires-clause-rows : goal.build-requires-clause-rows
build-requires-clause-rows c = ap (λ (xs : List Pair). length xs) c.in_ok-pair.ensures ∙ length-map-range_with_len (pair_of_row c.args.prices.now) 0 c.count.result ∙ c.count.ensures.count

pub build-requires-clause-words : goal.build-requires-clause-words
build-requires-clause-words c = ap (λ (xs : List Pair). length xs) c.in_ok-base.ensures ∙ length-map-range_with_len (pair_of_row c.args.prices.now) c.count-2.result c.words-words.result ∙ c.words-words.ensures.words

pub returns-in-Ok-clause-prices : goal.returns-in-Ok-clause-prices
returns-in-Ok-clause-prices c =
    λ i j step.
    c.in-Ok.ensures.prices i j step
    ∙ step_is c.args.chain.now c.args.prices.now c.in_ok-pair.pair.items c.in_ok-base.base.items
    (c.in_ok-pair.ensures ∙ ap (λ (n : ℕ). map (pair_of_row c.args.prices.now) (range_with_len 0 n)) (c.count.ensures.count ∙ ap (λ (ps : List (ℕ × ℕ)). length ps) c.requires.pairs))
    (c.in_ok-base.ensures
    ∙ ap (λ (n : ℕ). map (pair_of_row c.args.prices.now) (range_with_len n c.words-words.result)) (c.count-2.ensures.count ∙ ap (λ (ps : List (ℕ × ℕ)). length ps) c.requires.pairs)
    ∙ ap (λ (n : ℕ). map (pair_of_row c.args.prices.now) (range_with_len (length (pairs c.args.chain.now)) n)) c.words-words.ensures.words)
    i j

pub returns-clause-faults : goal.returns-clause-faults
returns-clause-faults c =
    subst (IsWideBy (IsWidePrice c.args.chain.now c.args.prices.now)) (sym c.step_refusal.ensures)
    (fault_is c.args.chain.now c.args.prices.now c.in_ok-pair.pair.items c.in_ok-base.base.items
    (c.in_ok-pair.ensures ∙ ap (λ (n : ℕ). map (pair_of_row c.args.prices.now) (range_with_len 0 n)) (c.count.ensures.count ∙ ap (λ (ps : List (ℕ × ℕ)). length ps) c.requires.pairs))
    (c.in_ok-base.ensures
    ∙ ap (λ (n : ℕ). map (pair_of_row c.args.prices.now) (range_with_len n c.words-words.result)) (c.count-2.ensures.count ∙ ap (λ (ps : List (ℕ × ℕ)). length ps) c.requires.pairs)
    ∙ ap (λ (n : ℕ). map (pair_of_row c.args.prices.now) (range_with_len (length (pairs c.args.chain.now)) n)) c.words-words.ensures.words)
    c.in-Err.fault c.in-Err.ensures.faults)
