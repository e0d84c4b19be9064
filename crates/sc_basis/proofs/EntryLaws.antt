-- Products with a column, entry by entry.
use Rattle.std.specs.Prelude.{◌≡◌, ◌≢◌, ℕ, zero, suc, ◌+◌, ◌<◌, ◌≤◌, [], ◌∷◌, length, ℤ, pos, ◌*ℤ◌}
use Rattle.std.proofs.Common.{arith, refl, ap, ◌∙◌, inl, inr, eq-eqb, ne_eqb}
use Rattle.std.proofs.lemmas.Int.{ints}
use Rattle.std.proofs.lemmas.Bool.{cases_lt}
use Rattle.sc_basis.specs.Products.{dot}
use Rattle.sc_basis.specs.Bases.{Column, entry_of, IsAscending}
use Rattle.sc_basis.specs.Entries.{index_at, number_at, reached}

other_entry : (x : ℕ × ℤ) (xs : Column) (k : ℕ) → x.0 ≢ k → entry_of (x ∷ xs) k ≡ entry_of xs k
other_entry x xs k apart = rw (ne_eqb x.0 k apart) refl

-- before the least index
before_first : (r first : ℕ) (c : Column) (k : ℕ) → IsAscending r first c → k < first → entry_of c k ≡ pos 0
before_first r first [] k h below = refl
before_first r first (x ∷ xs) k h below =
    let least : first ≤ x.0 = h.0 in
    other_entry x xs k (λ (e : x.0 ≡ k). let bad : ⊥ = omega arith in bad) ∙ before_first r (x.0 + 1) xs k h.2 (omega arith)

index_least : (r first : ℕ) (c : Column) (m : ℕ) → IsAscending r first c → m < length c → first ≤ index_at c m
index_least r first [] m h inside = absurd (omega arith)
index_least r first (x ∷ xs) zero h inside = h.0
index_least r first (x ∷ xs) (suc m) h inside =
    let least : first ≤ x.0 = h.0 in
    let rest : x.0 + 1 ≤ index_at xs m = index_least r (x.0 + 1) xs m h.2 (omega arith) in
    omega arith

-- the indices of an ascending column are below r
pub index_inside : (r first : ℕ) (c : Column) (m : ℕ) → IsAscending r first c → m < length c → index_at c m < r
index_inside r first [] m h inside = absurd (omega arith)
index_inside r first (x ∷ xs) zero h inside = h.1
index_inside r first (x ∷ xs) (suc m) h inside = index_inside r (x.0 + 1) xs m h.2 (omega arith)

-- the entry at its own index
pub entry_here : (r first : ℕ) (c : Column) (m : ℕ) → IsAscending r first c → m < length c → entry_of c (index_at c m) ≡ number_at c m
entry_here r first [] m h inside = absurd (omega arith)
entry_here r first (x ∷ xs) zero h inside = rw (eq-eqb x.0 x.0 refl) refl
entry_here r first (x ∷ xs) (suc m) h inside =
    let later : x.0 + 1 ≤ index_at xs m = index_least r (x.0 + 1) xs m h.2 (omega arith) in
    other_entry x xs (index_at xs m) (λ (e : x.0 ≡ index_at xs m). let bad : ⊥ = omega arith in bad) ∙ entry_here r (x.0 + 1) xs m h.2 (omega arith)

-- between two entries, and after the last
none_between : (r first : ℕ) (c : Column) (m k : ℕ) → IsAscending r first c → m ≤ length c → reached c m ≤ k → (m < length c → k < index_at c m) → entry_of c k ≡ pos 0
none_between r first [] m k h within above below = refl
none_between r first (x ∷ xs) zero k h within above below =
    let here : k < x.0 = below (omega arith) in before_first r x.0 (x ∷ xs) k (omega arith, h.1, h.2) here
none_between r first (x ∷ xs) (suc zero) k h within above below =
    let least : x.0 < k + 1 = omega arith in
    other_entry x xs k (λ (e : x.0 ≡ k). let bad : ⊥ = omega arith in bad)
    ∙ none_between r (x.0 + 1) xs zero k h.2 (omega arith) (omega arith) (λ l. below (omega arith))
none_between r first (x ∷ xs) (suc (suc m)) k h within above below =
    let later : x.0 + 1 ≤ index_at xs m = index_least r (x.0 + 1) xs m h.2 (omega arith) in
    other_entry x xs k (λ (e : x.0 ≡ k). let bad : ⊥ = omega arith in bad)
    ∙ none_between r (x.0 + 1) xs (suc m) k h.2 (omega arith) above (λ l. below (omega arith))

-- further entries of one list that are all 0 add nothing to the product
dot_further : (v c : ℕ → ℤ) (n m : ℕ) → n ≤ m → ((k : ℕ) → n ≤ k → k < m → c k ≡ pos 0) → dot m v c ≡ dot n v c
dot_further v c n zero within none = let e : zero ≡ n = omega arith in ap (λ (k : ℕ). dot k v c) e
dot_further v c n (suc m) within none =
    elim (cases_lt m n) [
      | inl l ↦ let e : suc m ≡ n = omega arith in ap (λ (k : ℕ). dot k v c) e
      | inr le ↦
          let last : v m *ℤ c m ≡ pos 0 = ap (λ (t : ℤ). v m *ℤ t) (none m le (omega arith)) ∙ omega (arith, ints) in
          let rest : dot m v c ≡ dot n v c = dot_further v c n m le (λ k a b. none k a (omega arith)) in
          omega (arith, ints)
    ]

reached_within : (r : ℕ) (c : Column) (m : ℕ) → IsAscending r 0 c → m < length c → reached c m ≤ index_at c m
reached_within r c zero h inside = omega arith
reached_within r c (suc m) h inside = step r 0 c m h inside
  where
    step : (r first : ℕ) (c : Column) (m : ℕ) → IsAscending r first c → suc m < length c → suc (index_at c m) ≤ index_at c (suc m)
    step r first [] m h inside = absurd (omega arith)
    step r first (x ∷ xs) zero h inside = let later : x.0 + 1 ≤ index_at xs 0 = index_least r (x.0 + 1) xs 0 h.2 (omega arith) in omega arith
    step r first (x ∷ xs) (suc m) h inside = step r (x.0 + 1) xs m h.2 (omega arith)

-- the product up to the index of the entry m is that of the entries before it
pub product_through : (r : ℕ) (v : ℕ → ℤ) (c : Column) (m : ℕ) → IsAscending r 0 c → m < length c → dot (index_at c m) v (entry_of c) ≡ dot (reached c m) v (entry_of c)
product_through r v c m h inside =
    dot_further v (entry_of c) (reached c m) (index_at c m) (reached_within r c m h inside)
    (λ k above below. none_between r 0 c m k h (omega arith) above (λ l. below))

reached_inside : (r : ℕ) (c : Column) (m : ℕ) → IsAscending r 0 c → m ≤ length c → reached c m ≤ r
reached_inside r c zero h within = omega arith
reached_inside r c (suc m) h within = let inside : index_at c m < r = index_inside r 0 c m h (omega arith) in omega arith

-- the whole product is that of all entries
pub product_whole : (r : ℕ) (v : ℕ → ℤ) (c : Column) → IsAscending r 0 c → dot r v (entry_of c) ≡ dot (reached c (length c)) v (entry_of c)
product_whole r v c h =
    let full : length c ≤ length c = omega arith in
    dot_further v (entry_of c) (reached c (length c)) r (reached_inside r c (length c) h full)
    (λ k above below. none_between r 0 c (length c) k h full above (λ (l : length c < length c). absurd (omega arith)))
