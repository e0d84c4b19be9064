-- Sums of prices, each so many times, keep within 128 bits.
use Rattle.std.proofs.Common.{◌≡◌, ◌↔◌, IsTrue, nat_eq, ℕ, zero, suc, ◌+◌, ◌*◌, ◌^◌, ◌<◌, ◌≤◌, length, ℤ, pos, neg_ℤ, ◌+ℤ◌, ◌*ℤ◌, ◌≤ℤ◌, FitsSigned, to_z, of_z, to_z-of_z, Some, arith, sym, ap, subst, ◌∙◌}
use Rattle.std.specs.Int.{w128}
use borrow.Author.Tests.{eqb-true}
use Rattle.std.proofs.lemmas.Bool.{eq-eqb}
use Rattle.std.proofs.lemmas.Int.{ints}
use Rattle.sc_algebra.proofs.Ints.{mul_comm, mul_neg, pos-mul, pos-le, mul-le_left, mul-le_right, mul_assoc}
use Rattle.sc_theory.specs.Chains.{Chain, weighted_length}
use Rattle.sc_theory.proofs.FatgraphLaws.{length_is}
use Rattle.sc_text.specs.declared.limits.TheConstants.{MAX_PRICE}
use Rattle.sc_text.specs.PriceLines.{IsScaleInRange, IsPriceInRange}
use Rattle.sc_text.specs.TableLines.{IsEntryInRange}
use Rattle.sc_certificate.specs.Bounds.{IsWithinPrices}
use Rattle.sc_prices.specs.Sizes.{AreVertices}
use Rattle.sc_prices.specs.inside.Sizes.{IsOfPrices}

pub no_prices : IsOfPrices 0 (pos 0)
no_prices = record { low = omega (arith, ints); high = omega (arith, ints) }

at_least : (w k : ℕ) → 1 ≤ k → w ≤ w * k
at_least w zero h = absurd (omega arith)
at_least w (suc k) h = omega arith

-- w times a price in range is at most w k prices in size, for a k that isn't 0
pub prices_times : (w k : ℕ) (z : ℤ) → 1 ≤ k → IsPriceInRange z → IsOfPrices (w * k) (pos w *ℤ z)
prices_times w k z some price =
    let more : (pos w *ℤ MAX_PRICE) ≤ℤ (pos (w * k) *ℤ MAX_PRICE) = mul-le_right _ (pos w) (pos (w * k)) (pos-le w (w * k) (at_least w k some)) in
    let low : (pos w *ℤ neg_ℤ MAX_PRICE) ≤ℤ (pos w *ℤ z) = mul-le_left w (neg_ℤ MAX_PRICE) z price.low in
    let high : (pos w *ℤ z) ≤ℤ (pos w *ℤ MAX_PRICE) = mul-le_left w z MAX_PRICE price.high in
    record { low = omega (arith, ints); high = omega (arith, ints) }

-- at most j prices and at most k, added up, are at most j + k
pub prices_add : (j k : ℕ) (x y : ℤ) → IsOfPrices j x → IsOfPrices k y → IsOfPrices (j + k) (x +ℤ y)
prices_add j k x y a b = record { low = omega (arith, ints, a.low, b.low); high = omega (arith, ints, a.high, b.high) }

-- at most 2^32 prices in size fit into 128 bits
pub prices_fit : (k : ℕ) (z : ℤ) → k ≤ 2 ^ 32 → IsOfPrices k z → FitsSigned w128 z
prices_fit k z few h = omega (arith, ints, h.low, h.high, few)

-- a price of 90 bits, as often as a weight of 32 bits says
pub price_times_fits : (w : ℕ) (f z : ℤ) → f ≡ pos w → w < 2 ^ 32 → IsPriceInRange z → FitsSigned w128 (f *ℤ z)
price_times_fits w f z is small price =
    subst (λ (g : ℤ). FitsSigned w128 (g *ℤ z)) (sym is) (prices_fit (w * 1) (pos w *ℤ z) (omega arith) (prices_times w 1 z (omega arith) price))

-- what is within k prices is at most k prices in size
pub of_prices : (k : ℕ) (z : ℤ) → IsWithinPrices k z → IsOfPrices k z
of_prices k z h = record { low = omega (arith, ints, h); high = omega (arith, ints, h) }

-- a number of 128 bits as the code holds it
abbrev held : ℤ → ℤ
held z = to_z w128 (of_z w128 z)

-- an entry and the price of a step are added up without a wrap
pub entry_and_price : (a p : ℤ) → IsEntryInRange (Some a) → IsOfPrices 2 p → held (held a +ℤ held p) ≡ a +ℤ p
entry_and_price a p entry price =
    let first : FitsSigned w128 a = omega (arith, ints, entry.0, entry.1) in
    let second : FitsSigned w128 p = prices_fit 2 p (omega arith) price in
    let both : FitsSigned w128 (a +ℤ p) = omega (arith, ints, entry.0, entry.1, price.low, price.high) in
    simp (to_z-of_z first, to_z-of_z second) (to_z-of_z both)

-- ---- tightness

-- a scale, as often as a count of 32 bits says, fits into 128 bits
pub scale_times_fits : (d f : ℤ) (v : ℕ) → IsScaleInRange d → f ≡ pos v → v < 2 ^ 32 → FitsSigned w128 (d *ℤ f)
scale_times_fits d f v scale is few =
    let price : IsPriceInRange d = record { low = omega (arith, ints, scale.low); high = scale.high } in
    subst (FitsSigned w128) (mul_comm f d) (price_times_fits v f d is few price)

prices_scaled : (n k : ℕ) (z : ℤ) → IsOfPrices k z → IsOfPrices (n * k) (pos n *ℤ z)
prices_scaled n k z h =
    let same : pos n *ℤ (pos k *ℤ MAX_PRICE) ≡ pos (n * k) *ℤ MAX_PRICE = sym (mul_assoc (pos n) (pos k) MAX_PRICE) ∙ ap (λ (x : ℤ). x *ℤ MAX_PRICE) (sym (pos-mul n k)) in
    let low : (pos n *ℤ neg_ℤ (pos k *ℤ MAX_PRICE)) ≤ℤ (pos n *ℤ z) = mul-le_left n (neg_ℤ (pos k *ℤ MAX_PRICE)) z h.low in
    let high : (pos n *ℤ z) ≤ℤ (pos n *ℤ (pos k *ℤ MAX_PRICE)) = mul-le_left n z (pos k *ℤ MAX_PRICE) h.high in
    record {
      low = subst (λ (x : ℤ). x ≤ℤ (pos n *ℤ z)) (mul_neg (pos n) (pos k *ℤ MAX_PRICE) ∙ ap neg_ℤ same) low;
      high = subst (λ (x : ℤ). (pos n *ℤ z) ≤ℤ x) same high;
    }

-- a total of at most as many prices as the weighted length of a chain, as often as a surface has copies, fits
pub copies_times_fits : (c : Chain) (n v : ℕ) (f z : ℤ) → AreVertices c n v → f ≡ pos n → IsOfPrices (weighted_length c) z → FitsSigned w128 (f *ℤ z)
copies_times_fits c n v f z (g, surface, count) is small =
    let sides : length g ≡ n * weighted_length c = length_is c n g surface.fatgraph in
    subst (λ (x : ℤ). FitsSigned w128 (x *ℤ z)) (sym is)
    (prices_fit (n * weighted_length c) (pos n *ℤ z) (omega (arith, surface.few_sides)) (prices_scaled n (weighted_length c) z small))

-- the test of equality of two numbers of 128 bits
pub same_held : (x y : ℤ) → FitsSigned w128 x → FitsSigned w128 y → IsTrue (nat_eq (of_z w128 x) (of_z w128 y)) ↔ (x ≡ y)
same_held x y fx fy = (
  λ h. sym (to_z-of_z fx) ∙ ap (to_z w128) (eqb-true (of_z w128 x) (of_z w128 y) h) ∙ to_z-of_z fy,
  λ e. eq-eqb (of_z w128 x) (of_z w128 y) (ap (of_z w128) e),
)
