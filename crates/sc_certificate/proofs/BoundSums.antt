-- Sums of weight times price keep within 128 bits.
use Rattle.std.proofs.Common.{◌≡◌, ◌≢◌, ℕ, zero, suc, ◌+◌, ◌*◌, ◌^◌, ◌<◌, ◌≤◌, [], ◌∷◌, refl, take, length, get_or, ℤ, pos, ◌+ℤ◌, ◌*ℤ◌, unsigned_abs, FitsSigned, add-one, arith, sym, ap, subst, ◌∙◌}
use Rattle.std.specs.Int.{w128}
use Rattle.std.proofs.lemmas.Int.{ints, unsigned_abs-mul}
use Rattle.std.proofs.lemmas.List.Sums.{sum_by_more, sum_by-take-le}
use Rattle.std.proofs.Math.Nat.{mul-le-mul_left, mul-le-mul_right}
use Rattle.sc_algebra.specs.Sums.{sum_below}
use Rattle.sc_algebra.proofs.Sums.{sum-congr}
use Rattle.sc_theory.specs.Words.{Word}
use Rattle.sc_theory.specs.Chains.{Chain, IsChain, no_word, weight, word, weighted_length}
use Rattle.sc_theory.specs.Prices.{Prices, bound}
use Rattle.sc_chain.specs.Faults.{IsSmallChain}
use Rattle.sc_text.specs.PriceLines.{IsPriceInRange}
use Rattle.sc_certificate.specs.Bounds.{bound_from, IsWithinPrices}

-- ---- sizes

abbrev pub most_price : ℕ
most_price = 1237940039285380274899124223

at_least : (w k : ℕ) → 1 ≤ k → w ≤ w * k
at_least w zero h = absurd (omega arith)
at_least w (suc k) h = omega arith

-- a weight times at most one of the greatest prices is, in size, at most so many times k of them, for a k above 0
pub weighted_size : (w k : ℕ) (z : ℤ) → 1 ≤ k → unsigned_abs z ≤ most_price → unsigned_abs (pos w *ℤ z) ≤ (w * k) * most_price
weighted_size w k z some small =
    let price : w * unsigned_abs z ≤ w * most_price = mul-le-mul_left w small in
    let more : w * most_price ≤ (w * k) * most_price = mul-le-mul_right most_price (at_least w k some) in
    omega (arith, price, more, unsigned_abs-mul (pos w) z)

-- at most j of the greatest prices and at most k, added up, are at most j + k of them in size
pub sum_size : (j k : ℕ) (x y : ℤ) → unsigned_abs x ≤ j * most_price → unsigned_abs y ≤ k * most_price → unsigned_abs (x +ℤ y) ≤ (j + k) * most_price
sum_size j k x y a b = omega (arith, ints)

-- as many prices as a chain may have letters, counted with their weights, fit in 128 bits
pub fits : (k : ℕ) (z : ℤ) → k ≤ 2 ^ 32 → unsigned_abs z ≤ k * most_price → FitsSigned w128 z
fits k z few h = omega (arith, ints, h, few)

-- ---- a word's price

-- a price in range is no larger than the greatest price
pub price_size : (z : ℤ) → IsPriceInRange z → IsWithinPrices 1 z
price_size z h = omega (arith, ints, h.low, h.high)

some_letters : (c : Chain) (w : ℕ) → IsChain c → w < length c → 1 ≤ length (word c w)
some_letters c w chain inside = nonempty (word c w) (chain.words w inside)
  where
    nonempty : (u : Word) → u ≢ [] → 1 ≤ length u
    nonempty [] h = absurd (h refl)
    nonempty (l ∷ u) h = omega arith

-- a word's price, as often as its weight says, is within one price for each letter so weighted
pub weighted : (c : Chain) (w : ℕ) (z : ℤ) → IsChain c → w < length c → IsPriceInRange z → IsWithinPrices (weight c w * length (word c w)) (pos (weight c w) *ℤ z)
weighted c w z chain inside price = weighted_size (weight c w) (length (word c w)) z (some_letters c w chain inside) (omega (arith, price_size z price))

-- a weight of 32 bits times a price in range fits into 128 bits
pub weighted_fits : (w : ℕ) (f z : ℤ) → f ≡ pos w → w < 2 ^ 32 → IsPriceInRange z → FitsSigned w128 (f *ℤ z)
weighted_fits w f z is small price =
    subst (λ (g : ℤ). FitsSigned w128 (g *ℤ z)) (sym is)
    (fits (w * 1) (pos w *ℤ z) (omega (arith, small)) (weighted_size w 1 z (omega arith) (omega (arith, price_size z price))))

-- ---- the bound of some words

weights_more : (c : Chain) (w : ℕ) → w < length c → weighted_length (take (w + 1) c) ≡ weighted_length (take w c) + weight c w * length (word c w)
weights_more c w inside = sum_by_more (λ (u : ℕ × Word). u.0 * length u.1) c w no_word inside

weights_most : (c : Chain) (w : ℕ) → weighted_length (take w c) ≤ weighted_length c
weights_most c w = sum_by-take-le (λ (u : ℕ × Word). u.0 * length u.1) c w

-- the sum over the first words and the word number w are those over one word more, and fit
module _ (c : Chain) (w : ℕ) (x y : ℤ) (small : IsSmallChain c) (inside : w < length c)
    (before : IsWithinPrices (weighted_length (take w c)) x) (here : IsWithinPrices (weight c w * length (word c w)) y) where
  pub total_more : IsWithinPrices (weighted_length (take (w + 1) c)) (x +ℤ y)
  total_more =
      subst (λ (k : ℕ). IsWithinPrices k (x +ℤ y)) (sym (weights_more c w inside))
      (sum_size (weighted_length (take w c)) (weight c w * length (word c w)) x y before here)

  pub total_fits : FitsSigned w128 (x +ℤ y)
  total_fits = fits (weighted_length (take (w + 1) c)) (x +ℤ y) (omega (arith, weights_most c (w + 1), small.light)) total_more

-- with the next number added a sum is that of one number more
pub sum_more : (f : ℕ → ℤ) (w : ℕ) (x y : ℤ) → x ≡ sum_below f w → y ≡ f w → x +ℤ y ≡ sum_below f (w + 1)
sum_more f w x y before here =
    ap (λ (z : ℤ). z +ℤ y) before ∙ ap (λ (z : ℤ). sum_below f w +ℤ z) here ∙ ap (sum_below f) (sym (add-one w))

-- from the list's first word on it is the list's bound
pub bound_from_first : (c : Chain) (list : Prices) → bound_from c list 0 ≡ bound c list
bound_from_first c list =
    sum-congr (λ w. pos (weight c w) *ℤ get_or list.base (0 + w) (pos 0)) (λ w. pos (weight c w) *ℤ get_or list.base w (pos 0)) (length c)
    (λ w inside. ap (λ (v : ℕ). pos (weight c w) *ℤ get_or list.base v (pos 0)) (omega arith))
