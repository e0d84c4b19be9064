-- The price of a step from the row of its pair.
use Rattle.std.proofs.Common.{◌≡◌, ℕ, List, length, ℤ, ◌+ℤ◌, sym, ap, ◌∙◌}
use Rattle.sc_theory.specs.Chains.{Chain, succ}
use Rattle.sc_theory.specs.Prices.{Prices, pairs, pair_price, base_price, price}
use Rattle.sc_chain.specs.Pairs.{row_in, row_price}
use Rattle.sc_chain.proofs.PairLaws.{pair_price_is}

-- the price of the pair of i's successor and j, read off its row, and the base price of j are the price of the step
pub step_price_is : (c : Chain) (ps : List (ℕ × ℕ)) (list : Prices) (i j p : ℕ) (x y : ℤ) → ps ≡ pairs c → length list.pair ≡ length (pairs c) → p ≡ succ c i
    → x ≡ row_price list (row_in ps p j) → y ≡ base_price c list j → x +ℤ y ≡ price c list i j
step_price_is c ps list i j p x y own sizes next pair base =
    let here : x ≡ pair_price c list (succ c i) j =
    pair
    ∙ ap (λ (qs : List (ℕ × ℕ)). row_price list (row_in qs p j)) own
    ∙ ap (λ (k : ℕ). row_price list (row_in (pairs c) k j)) next
    ∙ sym (pair_price_is c list (succ c i) j sizes) in
    ap (λ (z : ℤ). z +ℤ y) here ∙ ap (λ (z : ℤ). pair_price c list (succ c i) j +ℤ z) base
