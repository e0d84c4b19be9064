-- How large the prices of steps by a list are, and the totals of walks.
use Rattle.std.proofs.Common.{◌≡◌, ℕ, zero, suc, ◌+◌, ◌*◌, ◌≤◌, Bool, true, false, nat_lt, nat_eq, if◌then◌else◌, List, [], ◌∷◌, length, get_or, ℤ, pos, neg_ℤ, ◌+ℤ◌, FitsSigned, Some, arith, subst}
use Rattle.std.specs.Int.{w128}
use Rattle.std.specs.List.{AllByRecursion}
use Rattle.std.proofs.lemmas.Int.{ints}
use Rattle.sc_theory.specs.Chains.{Chain, first, succ, word_of}
use Rattle.sc_theory.specs.Prices.{Prices, pairs, place_of, pair_price, base_price, price}
use Rattle.sc_text.specs.PriceLines.{IsPriceInRange}
use Rattle.sc_text.specs.TableLines.{IsEntryInRange}
use Rattle.sc_certificate.specs.Sizes.{IsSmallList}
use Rattle.sc_prices.specs.inside.Sizes.{IsOfPrices}
use Rattle.sc_prices.proofs.Sizes.{no_prices, prices_add, prices_fit}
use Rattle.sc_tables.specs.Totals.{total_along}

zero_in_range : IsPriceInRange (pos 0)
zero_in_range = record { low = omega (arith, ints); high = omega (arith, ints) }

negated_in_range : (z : ℤ) → IsPriceInRange z → IsPriceInRange (neg_ℤ z)
negated_in_range z h = record { low = omega (arith, ints, h.low, h.high); high = omega (arith, ints, h.low, h.high) }

chosen_in_range : (b : Bool) (x y : ℤ) → IsPriceInRange x → IsPriceInRange y → IsPriceInRange (if b then x else y)
chosen_in_range true x y h k = h
chosen_in_range false x y h k = k

-- a number read from a list of prices in range is in range, and 0 past its end is too
pub at_in_range : (xs : List ℤ) (k : ℕ) → AllByRecursion IsPriceInRange xs → IsPriceInRange (get_or xs k (pos 0))
at_in_range [] k all = zero_in_range
at_in_range (x ∷ xs) zero all = all.0
at_in_range (x ∷ xs) (suc k) all = at_in_range xs k all.1

sum_of_two : (x y : ℤ) → IsPriceInRange x → IsPriceInRange y → IsOfPrices 2 (x +ℤ y)
sum_of_two x y h k = record { low = omega (arith, ints, h.low, k.low); high = omega (arith, ints, h.high, k.high) }

module _ (c : Chain) (list : Prices) (small : IsSmallList list) where
  pair_small : (p q : ℕ) → IsPriceInRange (pair_price c list p q)
  pair_small p q =
      chosen_in_range (nat_lt p q) _ _ (at_in_range list.pair (place_of (pairs c) p q) small.pair)
      (chosen_in_range (nat_lt q p) _ _ (negated_in_range _ (at_in_range list.pair (place_of (pairs c) q p) small.pair)) zero_in_range)

  base_small : (j : ℕ) → IsPriceInRange (base_price c list j)
  base_small j = chosen_in_range (nat_eq j (first c (word_of c j))) _ _ (at_in_range list.base (word_of c j) small.base) zero_in_range

  -- the price of a step is no larger than two of the greatest prices, so it fits
  pub price_small : (i j : ℕ) → IsOfPrices 2 (price c list i j)
  price_small i j = sum_of_two (pair_price c list (succ c i) j) (base_price c list j) (pair_small (succ c i) j) (base_small j)

  pub price_fits : (i j : ℕ) → FitsSigned w128 (price c list i j)
  price_fits i j = prices_fit 2 (price c list i j) (omega arith) (price_small i j)

  -- two prices a step
  total_small : (i : ℕ) (js : List ℕ) → IsOfPrices (2 * length js) (total_along (price c list) i js)
  total_small i [] = no_prices
  total_small i (j ∷ js) =
      let size : 2 + 2 * length js ≡ 2 * suc (length js) = omega arith in
      subst (λ (k : ℕ). IsOfPrices k (price c list i j +ℤ total_along (price c list) j js)) size
      (prices_add 2 (2 * length js) (price c list i j) (total_along (price c list) j js) (price_small i j) (total_small j js))

  -- the total of a walk of at most 64 steps fits, and is in the range of entries
  pub total_fits : (i : ℕ) (js : List ℕ) → length js ≤ 64 → FitsSigned w128 (total_along (price c list) i js)
  total_fits i js short = prices_fit (2 * length js) (total_along (price c list) i js) (omega arith) (total_small i js)

  pub total_in_range : (i : ℕ) (js : List ℕ) → length js ≤ 64 → IsEntryInRange (Some (total_along (price c list) i js))
  total_in_range i js short =
      let few = total_small i js in (omega (arith, ints, few.low, few.high), omega (arith, ints, few.low, few.high))
