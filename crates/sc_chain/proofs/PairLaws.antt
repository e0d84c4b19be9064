-- The inverse pairs of a chain, and the rows of two positions.
use Rattle.std.proofs.Common.{◌≡◌, ℕ, ◌<◌, ◌≤◌, Bool, true, false, not, ◌&&◌, ltb, List, length, get_or, Option, Some, None, IsSome, ◌↔◌, pos, neg_ℤ, inl, inr, arith, refl, sym, ap, subst, ◌∙◌}
use Rattle.std.specs.Option.{option_map, option_or}
use Rattle.std.specs.List.{AllByRecursion}
use Rattle.std.proofs.lemmas.Bool.{cases_lt, cases_order, false≢true, and_parts, and_from, and_left, ltb-true, lt-ltb, le-ltb, cond-true, cond-false}
use Rattle.std.proofs.lemmas.List.{get_or_past}
use Rattle.sc_theory.specs.declared.Letter.{Letter}
use Rattle.sc_theory.specs.Words.{inverse_letter, is_inverse}
use Rattle.sc_theory.specs.Chains.{Chain, positions, letter}
use Rattle.sc_theory.specs.Prices.{Prices, is_pair, pairs, place_of, pair_price}
use Rattle.sc_theory.proofs.WordLaws.{letter_from_is_inverse, is_inverse-inverse_letter, inverse_letter-inverse_letter}
use Rattle.sc_chain.specs.declared.sign.Sign.{Sign}
use Rattle.sc_chain.specs.declared.sign.Sign.TheVariants.{Plus, Minus}
use Rattle.sc_chain.specs.Pairs.{place_in, row_in, row_price}
use Rattle.sc_chain.specs.PairPlaces.{ArePairsBelow}
use Rattle.sc_chain.proofs.PairLists.{IsIn, every, once, place_at, all-firsts, apart-firsts, in-firsts}

-- two positions with inverse letters, the lesser one first
pub record IsInversePair (c : Chain) (p q : ℕ) : Type 0 where
  pub ordered : p < q
  pub in_range : q < positions c
  pub inverse : letter c q ≡ inverse_letter (letter c p)

-- the test of a pair whose first number is less
pub pair_test : (c : Chain) (p q : ℕ) (x y : Letter) (b : Bool) → p < q → x ≡ letter c p → y ≡ letter c q → b ≡ is_inverse x y → is_pair c p q ≡ b
pair_test c p q x y b h ex ey e =
    ap (λ (t : Bool). t && is_inverse (letter c p) (letter c q)) (lt-ltb p q h)
    ∙ sym (e ∙ ap (λ (z : Letter). is_inverse z y) ex ∙ ap (is_inverse (letter c p)) ey)

-- where the first number is not less, they are no pair
pub pair_test_above : (c : Chain) (p q : ℕ) → q ≤ p → is_pair c p q ≡ false
pair_test_above c p q h = and_left (ltb p q) (is_inverse (letter c p) (letter c q)) (le-ltb p q h)

pair_from_test : (c : Chain) (p q : ℕ) → q < positions c → is_pair c p q ≡ true → IsInversePair c p q
pair_from_test c p q inside e =
    let both = and_parts (ltb p q) (is_inverse (letter c p) (letter c q)) e in
    record { ordered = ltb-true p q both.0; in_range = inside; inverse = letter_from_is_inverse (letter c p) (letter c q) both.1 }

all_inverse : (c : Chain) → AllByRecursion (λ a. IsInversePair c a.0 a.1) (pairs c)
all_inverse c =
    all-firsts (λ a. IsInversePair c a.0 a.1) (is_pair c) (positions c) 0 (positions c) (λ x q h k inside e. pair_from_test c x q inside e)

-- each pair of the list is one, stands once, and is all in the list
pub inverse_at : (c : Chain) (k : ℕ) → k < length (pairs c) → IsInversePair c (get_or (pairs c) k (0, 0)).0 (get_or (pairs c) k (0, 0)).1
inverse_at c k h = every (λ a. IsInversePair c a.0 a.1) (pairs c) k (0, 0) (all_inverse c) h

pub pair_once : (c : Chain) (k : ℕ) → k < length (pairs c) → place_of (pairs c) (get_or (pairs c) k (0, 0)).0 (get_or (pairs c) k (0, 0)).1 ≡ k
pair_once c k h = once (pairs c) k (0, 0) (apart-firsts (is_pair c) (positions c) 0 (positions c)) h

-- the pairs of a chain are ordered, of numbers below that of its positions, and each stands once
pub pairs_below : (c : Chain) → ArePairsBelow (pairs c) (positions c)
pairs_below c = record {
  ordered = λ k h. (inverse_at c k h).ordered;
  below = λ k h. (inverse_at c k h).in_range;
  once = pair_once c;
}

-- two positions are in the list of pairs exactly where they are an inverse pair
pub pair_found : (c : Chain) (p q : ℕ) → IsInversePair c p q → IsIn (pairs c) p q
pair_found c p q pair =
    in-firsts (is_pair c) (positions c) 0 (positions c) p q (omega arith) (omega (arith, pair.ordered, pair.in_range)) pair.in_range
    (and_from (ltb p q) (is_inverse (letter c p) (letter c q)) (lt-ltb p q pair.ordered)
    (ap (is_inverse (letter c p)) pair.inverse ∙ is_inverse-inverse_letter (letter c p)))

pub pair_of_place : (c : Chain) (p q : ℕ) → IsIn (pairs c) p q → IsInversePair c p q
pair_of_place c p q h =
    subst (λ (a : ℕ × ℕ). IsInversePair c a.0 a.1) (place_at (pairs c) p q (0, 0) h) (inverse_at c (place_of (pairs c) p q) h)

-- ---- rows

-- the place of a pair that is in the list, and none for one that is not
pub place_in-yes : (ps : List (ℕ × ℕ)) (p q : ℕ) → IsIn ps p q → place_in ps p q ≡ Some (place_of ps p q)
place_in-yes ps p q h = cond-true (ltb (place_of ps p q) (length ps)) (Some (place_of ps p q)) None (lt-ltb (place_of ps p q) (length ps) h)

pub place_in-no : (ps : List (ℕ × ℕ)) (p q : ℕ) → length ps ≤ place_of ps p q → place_in ps p q ≡ None
place_in-no ps p q h = cond-false (ltb (place_of ps p q) (length ps)) (Some (place_of ps p q)) None (le-ltb (place_of ps p q) (length ps) h)

abbrev signed : Option ℕ → Option ℕ → Option (ℕ × Sign)
signed here there = option_or (option_map (λ k. (k, Plus)) here) (option_map (λ k. (k, Minus)) there)

-- the row of p, q: the place of p, q with Plus, else that of q, p with Minus, else none
pub row-plus : (ps : List (ℕ × ℕ)) (p q : ℕ) → IsIn ps p q → row_in ps p q ≡ Some (place_of ps p q, Plus)
row-plus ps p q h = ap (λ (o : Option ℕ). signed o (place_in ps q p)) (place_in-yes ps p q h)

pub row-minus : (ps : List (ℕ × ℕ)) (p q : ℕ) → length ps ≤ place_of ps p q → IsIn ps q p → row_in ps p q ≡ Some (place_of ps q p, Minus)
row-minus ps p q h k =
    ap (λ (o : Option ℕ). signed o (place_in ps q p)) (place_in-no ps p q h) ∙ ap (signed None) (place_in-yes ps q p k)

pub row-none : (ps : List (ℕ × ℕ)) (p q : ℕ) → length ps ≤ place_of ps p q → length ps ≤ place_of ps q p → row_in ps p q ≡ None
row-none ps p q h k =
    ap (λ (o : Option ℕ). signed o (place_in ps q p)) (place_in-no ps p q h) ∙ ap (signed None) (place_in-no ps q p k)

-- the three forms of a row
pub data Row (ps : List (ℕ × ℕ)) (p q : ℕ) : Type 0 where
  plus : IsIn ps p q → row_in ps p q ≡ Some (place_of ps p q, Plus) → Row ps p q
  minus : length ps ≤ place_of ps p q → IsIn ps q p → row_in ps p q ≡ Some (place_of ps q p, Minus) → Row ps p q
  none : length ps ≤ place_of ps p q → length ps ≤ place_of ps q p → row_in ps p q ≡ None → Row ps p q

pub row : (ps : List (ℕ × ℕ)) (p q : ℕ) → Row ps p q
row ps p q = elim (cases_lt (place_of ps p q) (length ps)) [
  | inl h ↦ plus h (row-plus ps p q h)
  | inr h ↦ elim (cases_lt (place_of ps q p) (length ps)) [
    | inl k ↦ minus h k (row-minus ps p q h k)
    | inr k ↦ none h k (row-none ps p q h k)
  ]
]

some_is : (x y : ℕ × Sign) → Some x ≡ Some y → x ≡ y
some_is x y e = cc

not_own_inverse : (x : Letter) → x ≡ inverse_letter x → ⊥
not_own_inverse x e = other_sign x.inverse (ap (λ (y : Letter). y.inverse) e)
  where
    other_sign : (b : Bool) → b ≡ not b → ⊥
    other_sign true h = cc
    other_sign false h = cc

not_plus : (o : Option (ℕ × Sign)) (j k : ℕ) → o ≡ Some (j, Minus) → o ≡ Some (k, Plus) → ⊥
not_plus o j k e f = let signs : Minus ≡ Plus = ap (λ (x : ℕ × Sign). x.1) (some_is (j, Minus) (k, Plus) (sym e ∙ f)) in cc

not_none : (o : Option (ℕ × Sign)) (x : ℕ × Sign) → o ≡ None → o ≡ Some x → ⊥
not_none o x e f = cc

plus_from : (c : Chain) (p q k : ℕ) → Row (pairs c) p q → row_in (pairs c) p q ≡ Some (k, Plus) → IsInversePair c p q
plus_from c p q k (plus h r) e = pair_of_place c p q h
plus_from c p q k (minus h i r) e = absurd (not_plus (row_in (pairs c) p q) (place_of (pairs c) q p) k r e)
plus_from c p q k (none h i r) e = absurd (not_none (row_in (pairs c) p q) (k, Plus) r e)

-- a row with Plus is that of an inverse pair p, q, and one with Minus that of q, p
pub plus_is_pair : (c : Chain) (p q k : ℕ) → row_in (pairs c) p q ≡ Some (k, Plus) → IsInversePair c p q
plus_is_pair c p q k e = plus_from c p q k (row (pairs c) p q) e

minus_from : (c : Chain) (p q k : ℕ) → Row (pairs c) p q → row_in (pairs c) p q ≡ Some (k, Minus) → IsInversePair c q p
minus_from c p q k (plus h r) e = absurd (not_plus (row_in (pairs c) p q) k (place_of (pairs c) p q) e r)
minus_from c p q k (minus h i r) e = pair_of_place c q p i
minus_from c p q k (none h i r) e = absurd (not_none (row_in (pairs c) p q) (k, Minus) r e)

pub minus_is_pair : (c : Chain) (p q k : ℕ) → row_in (pairs c) p q ≡ Some (k, Minus) → IsInversePair c q p
minus_is_pair c p q k e = minus_from c p q k (row (pairs c) p q) e

-- the row of a pair
pub row_of_pair : (c : Chain) (k : ℕ) → k < length (pairs c) → row_in (pairs c) (get_or (pairs c) k (0, 0)).0 (get_or (pairs c) k (0, 0)).1 ≡ Some (k, Plus)
row_of_pair c k h =
    let p : ℕ = (get_or (pairs c) k (0, 0)).0 in
    let q : ℕ = (get_or (pairs c) k (0, 0)).1 in
    let at : place_of (pairs c) p q ≡ k = pair_once c k h in
    row-plus (pairs c) p q (omega arith) ∙ ap (λ (j : ℕ). Some (j, Plus)) at

other_way : (c : Chain) (p q : ℕ) → letter c q ≡ inverse_letter (letter c p) → letter c p ≡ inverse_letter (letter c q)
other_way c p q e = sym (inverse_letter-inverse_letter (letter c p)) ∙ ap inverse_letter (sym e)

inverse_from : (c : Chain) (p q : ℕ) → Row (pairs c) p q → IsSome (row_in (pairs c) p q) → letter c q ≡ inverse_letter (letter c p)
inverse_from c p q (plus h r) s = (pair_of_place c p q h).inverse
inverse_from c p q (minus h i r) s = other_way c q p (pair_of_place c q p i).inverse
inverse_from c p q (none h i r) s = absurd (false≢true (subst IsSome r s))

row_from_inverse : (c : Chain) (p q : ℕ) → p < positions c → q < positions c → letter c q ≡ inverse_letter (letter c p) → Row (pairs c) p q → IsSome (row_in (pairs c) p q)
row_from_inverse c p q hp hq e (plus h r) = subst IsSome (sym r) refl
row_from_inverse c p q hp hq e (minus h i r) = subst IsSome (sym r) refl
row_from_inverse c p q hp hq e (none h i r) = elim (cases_order p q) [
  | inl s ↦ absurd (not_own_inverse (letter c p) (subst (λ (x : ℕ). letter c x ≡ inverse_letter (letter c p)) (sym s) e))
  | inr (inl lt) ↦
      (let found : place_of (pairs c) p q < length (pairs c) = pair_found c p q (record { ordered = lt; in_range = hq; inverse = e }) in
      absurd (omega arith))
  | inr (inr gt) ↦
      (let found : place_of (pairs c) q p < length (pairs c) = pair_found c q p (record { ordered = gt; in_range = hp; inverse = other_way c p q e }) in
      absurd (omega arith))
]

-- there is a row exactly where the letters are inverse
pub row_where_inverse : (c : Chain) (p q : ℕ) → p < positions c → q < positions c → IsSome (row_in (pairs c) p q) ↔ (letter c q ≡ inverse_letter (letter c p))
row_where_inverse c p q hp hq = (inverse_from c p q (row (pairs c) p q), λ e. row_from_inverse c p q hp hq e (row (pairs c) p q))

-- the same of a list that is known to be that of the chain's pairs
pub row_says : (c : Chain) (ps : List (ℕ × ℕ)) (p q : ℕ) (r : Option (ℕ × Sign)) → ps ≡ pairs c → r ≡ row_in ps p q → p < positions c → q < positions c →
    IsSome r ↔ (letter c q ≡ inverse_letter (letter c p))
row_says c ps p q r e s hp hq =
    subst (λ (o : Option (ℕ × Sign)). IsSome o ↔ (letter c q ≡ inverse_letter (letter c p))) (sym (s ∙ ap (λ (l : List (ℕ × ℕ)). row_in l p q) e)) (row_where_inverse c p q hp hq)

-- ---- prices

price_below : (c : Chain) (list : Prices) (p q : ℕ) → p < q → pair_price c list p q ≡ get_or list.pair (place_of (pairs c) p q) (pos 0)
price_below c list p q h = cond-true (ltb p q) _ _ (lt-ltb p q h)

price_above : (c : Chain) (list : Prices) (p q : ℕ) → q < p → pair_price c list p q ≡ neg_ℤ (get_or list.pair (place_of (pairs c) q p) (pos 0))
price_above c list p q h = cond-false (ltb p q) _ _ (le-ltb p q (omega arith)) ∙ cond-true (ltb q p) _ _ (lt-ltb q p h)

price_alike : (c : Chain) (list : Prices) (p q : ℕ) → p ≡ q → pair_price c list p q ≡ pos 0
price_alike c list p q h = cond-false (ltb p q) _ _ (le-ltb p q (omega arith)) ∙ cond-false (ltb q p) _ _ (le-ltb q p (omega arith))

price_from : (c : Chain) (list : Prices) (p q : ℕ) → length list.pair ≡ length (pairs c) → Row (pairs c) p q → pair_price c list p q ≡ row_price list (row_in (pairs c) p q)
price_from c list p q same (plus h r) = price_below c list p q (pair_of_place c p q h).ordered ∙ ap (row_price list) (sym r)
price_from c list p q same (minus h i r) = price_above c list p q (pair_of_place c q p i).ordered ∙ ap (row_price list) (sym r)
price_from c list p q same (none h i r) = elim (cases_order p q) [
  | inl s ↦ price_alike c list p q s ∙ ap (row_price list) (sym r)
  | inr (inl lt) ↦ price_below c list p q lt ∙ get_or_past list.pair (place_of (pairs c) p q) (pos 0) (omega arith) ∙ ap (row_price list) (sym r)
  | inr (inr gt) ↦ price_above c list p q gt ∙ ap neg_ℤ (get_or_past list.pair (place_of (pairs c) q p) (pos 0) (omega arith)) ∙ ap (row_price list) (sym r)
]

-- the price of two positions is that of their row, and 0 where they have none
pub pair_price_is : (c : Chain) (list : Prices) (p q : ℕ) → length list.pair ≡ length (pairs c) → pair_price c list p q ≡ row_price list (row_in (pairs c) p q)
pair_price_is c list p q same = price_from c list p q same (row (pairs c) p q)
