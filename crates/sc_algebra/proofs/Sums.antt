-- Laws of sums and counts over the numbers below a bound.
use Rattle.std.specs.Prelude.{◌≡◌, ◌≢◌, ◌⊎◌, ℕ, zero, suc, ◌+◌, ◌<◌, ◌≤◌, Bool, true, false, cond, not, if◌then◌else◌, ◌==◌, ℤ, pos, ◌+ℤ◌, ◌-ℤ◌, ◌*ℤ◌, neg_ℤ, ◌≤ℤ◌, List, [], ◌∷◌, length, get_or, sum_by, count_by}
use Rattle.std.proofs.Common.{arith, refl, sym, ap, ap₂, ◌∙◌, inl, inr, add-zero, add-suc, eq-eqb, ne_eqb}
use Rattle.std.proofs.lemmas.Int.{ints}
use Rattle.std.proofs.lemmas.Bool.{cases_eq, cases_Bool}
use Rattle.std.proofs.lemmas.List.Sums.{sum_by-cons}
use Rattle.sc_algebra.specs.Sums.{sum_below, count_below}
use Rattle.sc_algebra.proofs.Ints.{mul_add, add_mul}

-- ---- sums
-- functions with the same values below n have the same sum
pub sum-congr : (f g : ℕ → ℤ) (n : ℕ) → ((k : ℕ) → k < n → f k ≡ g k) → sum_below f n ≡ sum_below g n
sum-congr f g zero h = refl
sum-congr f g (suc n) h = ap₂ (λ (x y : ℤ). x +ℤ y) (sum-congr f g n (λ k p. h k (omega arith))) (h n (omega arith))

-- what is done to each term is done to the sum: adding, negating, subtracting, multiplying by one factor
pub sum-add : (f g : ℕ → ℤ) (n : ℕ) → sum_below (λ k. f k +ℤ g k) n ≡ sum_below f n +ℤ sum_below g n
sum-add f g zero = refl
sum-add f g (suc n) = omega (arith, ints, sum-add f g n)

pub sum-neg : (f : ℕ → ℤ) (n : ℕ) → sum_below (λ k. neg_ℤ (f k)) n ≡ neg_ℤ (sum_below f n)
sum-neg f zero = refl
sum-neg f (suc n) = omega (arith, ints, sum-neg f n)

pub sum-sub : (f g : ℕ → ℤ) (n : ℕ) → sum_below (λ k. f k -ℤ g k) n ≡ sum_below f n -ℤ sum_below g n
sum-sub f g zero = refl
sum-sub f g (suc n) = omega (arith, ints, sum-sub f g n)

pub sum-mul_left : (a : ℤ) (f : ℕ → ℤ) (n : ℕ) → sum_below (λ k. a *ℤ f k) n ≡ a *ℤ sum_below f n
sum-mul_left a f zero = omega (arith, ints)
sum-mul_left a f (suc n) = ap (λ (x : ℤ). x +ℤ a *ℤ f n) (sum-mul_left a f n) ∙ sym (mul_add a (sum_below f n) (f n))

-- a number that is summed n times gives n times the number
pub sum-const : (a : ℤ) (n : ℕ) → sum_below (λ k. a) n ≡ pos n *ℤ a
sum-const a zero = omega (arith, ints)
sum-const a (suc n) = omega (arith, ints, sum-const a n)

pub sum-zero : (n : ℕ) → sum_below (λ k. pos 0) n ≡ pos 0
sum-zero zero = refl
sum-zero (suc n) = omega (arith, ints, sum-zero n)

-- all terms are 0
pub sum_zero_each : (f : ℕ → ℤ) (n : ℕ) → ((k : ℕ) → k < n → f k ≡ pos 0) → sum_below f n ≡ pos 0
sum_zero_each f n h = sum-congr f (λ k. pos 0) n h ∙ sum-zero n

-- where no term is above the other function's, neither is the sum
pub sum-le : (f g : ℕ → ℤ) (n : ℕ) → ((k : ℕ) → k < n → f k ≤ℤ g k) → sum_below f n ≤ℤ sum_below g n
sum-le f g zero h = omega (arith, ints)
sum-le f g (suc n) h = omega (arith, ints, sum-le f g n (λ k p. h k (omega arith)), h n (omega arith))

-- no term is negative
pub sum_non_negative : (f : ℕ → ℤ) (n : ℕ) → ((k : ℕ) → k < n → pos 0 ≤ℤ f k) → pos 0 ≤ℤ sum_below f n
sum_non_negative f n h = omega (arith, ints, sum-zero n, sum-le (λ k. pos 0) f n h)

-- sums of sums can be taken in either order
pub sum-exchange : (f : ℕ → ℕ → ℤ) (n m : ℕ) → sum_below (λ s. sum_below (λ w. f s w) m) n ≡ sum_below (λ w. sum_below (λ s. f s w) n) m
sum-exchange f zero m = sym (sum-zero m)
sum-exchange f (suc n) m =
    ap (λ (x : ℤ). x +ℤ sum_below (λ w. f n w) m) (sum-exchange f n m)
    ∙ sym (sum-add (λ w. sum_below (λ s. f s w) n) (λ w. f n w) m)

-- all terms but one are 0
pub sum-single : (f : ℕ → ℤ) (n i : ℕ) → i < n → ((k : ℕ) → k < n → k ≢ i → f k ≡ pos 0) → sum_below f n ≡ f i
sum-single f zero i p h = absurd (omega arith)
sum-single f (suc n) i p h =
    elim (cases_eq i n) [
      | inl e ↦ omega (arith, ints, ap f e, sum_zero_each f n (λ k q. h k (omega arith) (omega arith)))
      | inr ne ↦ omega (arith, ints, sum-single f n i (omega arith) (λ k q d. h k (omega arith) d), h n (omega arith) (λ e. ne (sym e)))
    ]

-- a sum is that of its first m terms and that of the others
pub sum-append : (f : ℕ → ℤ) (m n : ℕ) → sum_below f (m + n) ≡ sum_below f m +ℤ sum_below (λ k. f (m + k)) n
sum-append f m zero = rw add-zero (omega (arith, ints))
sum-append f m (suc n) = rw add-suc (omega (arith, ints, sum-append f m n))

-- the first term, and the sum of the others
pub sum_first : (f : ℕ → ℤ) (n : ℕ) → sum_below f (suc n) ≡ f 0 +ℤ sum_below (λ k. f (suc k)) n
sum_first f zero = omega (arith, ints)
sum_first f (suc n) = omega (arith, ints, sum_first f n)

-- ---- counts
-- tests that agree below n count the same
pub count-congr : (p q : ℕ → Bool) (n : ℕ) → ((k : ℕ) → k < n → p k ≡ q k) → count_below p n ≡ count_below q n
count-congr p q zero h = refl
count-congr p q (suc n) h =
    ap₂ (λ (x y : ℕ). x + y) (count-congr p q n (λ k l. h k (omega arith))) (ap (λ (b : Bool). cond b 1 0) (h n (omega arith)))

pub count-le : (p : ℕ → Bool) (n : ℕ) → count_below p n ≤ n
count-le p zero = omega arith
count-le p (suc n) =
    elim (cases_Bool (p n)) [ inl e ↦ rw e (omega (arith, count-le p n)) | inr e ↦ rw e (omega (arith, count-le p n)) ]

-- where all numbers below n pass the count is n, and where none does it is 0
pub count-all : (p : ℕ → Bool) (n : ℕ) → ((k : ℕ) → k < n → p k ≡ true) → count_below p n ≡ n
count-all p zero h = refl
count-all p (suc n) h = rw (h n (omega arith)) (omega (arith, count-all p n (λ k l. h k (omega arith))))

pub count-none : (p : ℕ → Bool) (n : ℕ) → ((k : ℕ) → k < n → p k ≡ false) → count_below p n ≡ 0
count-none p zero h = refl
count-none p (suc n) h = rw (h n (omega arith)) (omega (arith, count-none p n (λ k l. h k (omega arith))))

-- what passes and what fails make up all
pub count-not : (p : ℕ → Bool) (n : ℕ) → count_below p n + count_below (λ k. not (p k)) n ≡ n
count-not p zero = refl
count-not p (suc n) =
    elim (cases_Bool (p n)) [ inl e ↦ rw e (omega (arith, count-not p n)) | inr e ↦ rw e (omega (arith, count-not p n)) ]

-- no number, or one at least
pub count_found : (p : ℕ → Bool) (n i : ℕ) → i < n → p i ≡ true → 0 < count_below p n
count_found p zero i l e = absurd (omega arith)
count_found p (suc n) i l e =
    elim (cases_eq i n) [
      | inl same ↦ rw (ap p (sym same) ∙ e) (omega arith)
      | inr apart ↦ omega (arith, count_found p n i (omega arith) e)
    ]

-- a count is the sum of a 1 for each number that passes
pub count-sum : (p : ℕ → Bool) (n : ℕ) → pos (count_below p n) ≡ sum_below (λ k. if p k then pos 1 else pos 0) n
count-sum p zero = refl
count-sum p (suc n) =
    elim (cases_Bool (p n)) [ inl e ↦ rw e (omega (arith, ints, count-sum p n)) | inr e ↦ rw e (omega (arith, ints, count-sum p n)) ]

-- a count is that of the first m numbers and that of the others
pub count-append : (p : ℕ → Bool) (m n : ℕ) → count_below p (m + n) ≡ count_below p m + count_below (λ k. p (m + k)) n
count-append p m zero = rw (add-zero m) (omega arith)
count-append p m (suc n) = rw add-suc (omega (arith, count-append p m n))

-- the first number, and the count of the others
pub count_first : (p : ℕ → Bool) (n : ℕ) → count_below p (suc n) ≡ (if p 0 then 1 else 0) + count_below (λ k. p (suc k)) n
count_first p zero = omega arith
count_first p (suc n) = omega (arith, count_first p n)

-- ---- counts of values
-- the one number below m that v is
value_term : (g : ℕ → ℤ) (v m : ℕ) → v < m → sum_below (λ i. pos (if v == i then 1 else 0) *ℤ g i) m ≡ g v
value_term g v m l =
    sum-single (λ i. pos (if v == i then 1 else 0) *ℤ g i) m v l (λ i h apart. rw (ne_eqb v i (λ e. apart (sym e))) (omega (arith, ints)))
    ∙ rw (eq-eqb v v refl) (omega (arith, ints))

-- a sum of a function of f, taken by the values of f
pub sum_by_value : (f : ℕ → ℕ) (g : ℕ → ℤ) (m n : ℕ) → ((s : ℕ) → s < n → f s < m) → sum_below (λ i. pos (count_below (λ s. f s == i) n) *ℤ g i) m ≡ sum_below (λ s. g (f s)) n
sum_by_value f g m zero h = sum_zero_each (λ i. pos 0 *ℤ g i) m (λ i l. omega (arith, ints))
sum_by_value f g m (suc n) h =
    sum-congr (λ i. pos (count_below (λ s. f s == i) n + (if f n == i then 1 else 0)) *ℤ g i) (λ i. pos (count_below (λ s. f s == i) n) *ℤ g i +ℤ pos (if f n == i then 1 else 0) *ℤ g i) m
    (λ i l. add_mul (pos (count_below (λ s. f s == i) n)) (pos (if f n == i then 1 else 0)) (g i))
    ∙ sum-add (λ i. pos (count_below (λ s. f s == i) n) *ℤ g i) (λ i. pos (if f n == i then 1 else 0) *ℤ g i) m
    ∙ ap₂ (λ (x y : ℤ). x +ℤ y) (sum_by_value f g m n (λ s l. h s (omega arith))) (value_term g (f n) m (h n (omega arith)))

-- how often f takes each value, summed over the values, is how many arguments there are
pub count-partition : (f : ℕ → ℕ) (m n : ℕ) → ((s : ℕ) → s < n → f s < m) → sum_below (λ i. pos (count_below (λ s. f s == i) n)) m ≡ pos n
count-partition f m n h =
    sum-congr (λ i. pos (count_below (λ s. f s == i) n)) (λ i. pos (count_below (λ s. f s == i) n) *ℤ pos 1) m (λ i l. omega (arith, ints))
    ∙ sum_by_value f (λ i. pos 1) m n h
    ∙ sum-const (pos 1) n
    ∙ omega (arith, ints)

-- exactly one number below n is i
pub count_one : (n i : ℕ) → i < n → count_below (λ k. k == i) n ≡ 1
count_one zero i l = absurd (omega arith)
count_one (suc n) i l =
    elim (cases_eq n i) [
      | inl e ↦ rw (eq-eqb n i e) (omega (arith, count-none (λ k. k == i) n (λ k h. ne_eqb k i (λ q. omega arith))))
      | inr ne ↦ rw (ne_eqb n i ne) (omega (arith, count_one n i (omega arith)))
    ]

-- ---- over the places of a list
-- a sum over the places of a list is that over its elements
pub sum-list : {X : Type 0} (f : X → ℕ) (xs : List X) (d : X) → sum_below (λ k. pos (f (get_or xs k d))) (length xs) ≡ pos (sum_by f xs)
sum-list f [] d = refl
sum-list f (x ∷ xs) d =
    sum_first (λ k. pos (f (get_or (x ∷ xs) k d))) (length xs)
    ∙ ap (λ (y : ℤ). pos (f x) +ℤ y) (sum-list f xs d)
    ∙ ap pos (sym (sum_by-cons f x xs))

-- and so with a count
pub count-list : {X : Type 0} (p : X → Bool) (xs : List X) (d : X) → count_below (λ k. p (get_or xs k d)) (length xs) ≡ count_by p xs
count-list p [] d = refl
count-list p (x ∷ xs) d =
    count_first (λ k. p (get_or (x ∷ xs) k d)) (length xs)
    ∙ ap (λ (y : ℕ). cond (p x) 1 0 + y) (count-list p xs d)
    ∙ sym (sum_by-cons (λ (y : _). cond (p y) 1 0) x xs)

-- ---- sums that are cut or picked out
-- block by block: the block number w begins at `starts w` and has `sizes w` numbers
pub sum_blocks : (f : ℕ → ℤ) (starts sizes : ℕ → ℕ) (m : ℕ) → starts 0 ≡ 0 → ((w : ℕ) → w < m → starts (suc w) ≡ starts w + sizes w) → sum_below f (starts m) ≡ sum_below (λ w. sum_below (λ k. f (starts w + k)) (sizes w)) m
sum_blocks f starts sizes zero first step = ap (sum_below f) first
sum_blocks f starts sizes (suc m) first step =
    ap (sum_below f) (step m (omega arith))
    ∙ sum-append f (starts m) (sizes m)
    ∙ ap (λ (x : ℤ). x +ℤ sum_below (λ k. f (starts m + k)) (sizes m)) (sum_blocks f starts sizes m first (λ w l. step w (omega arith)))

-- f is 0 but at the places `at w`, no two of which are the same
pub sum_at_places : (f : ℕ → ℤ) (at : ℕ → ℕ) (n m : ℕ) → ((w : ℕ) → w < m → at w < n) → ((v w : ℕ) → v < m → w < m → at v ≡ at w → v ≡ w) → ((k : ℕ) → k < n → (f k ≡ pos 0) ⊎ ((w : ℕ) × (w < m) × (at w ≡ k))) → sum_below f n ≡ sum_below (λ w. f (at w)) m
sum_at_places f at n m inside apart cases =
    sum-congr f (λ k. sum_below (λ w. if at w == k then f k else pos 0) m) n (λ k l. sym (at_k k (cases k l)))
    ∙ sum-exchange (λ k w. if at w == k then f k else pos 0) n m
    ∙ sum-congr (λ w. sum_below (λ k. if at w == k then f k else pos 0) n) (λ w. f (at w)) m at_w
  where
    at_k : (k : ℕ) → (f k ≡ pos 0) ⊎ ((w : ℕ) × (w < m) × (at w ≡ k)) → sum_below (λ w. if at w == k then f k else pos 0) m ≡ f k
    at_k k (inl none) =
        sum_zero_each (λ w. if at w == k then f k else pos 0) m (λ w l. rw none (elim (cases_Bool (at w == k)) [ inl e ↦ rw e | inr e ↦ rw e ]))
        ∙ sym none
    at_k k (inr (w, l, e)) =
        sum-single (λ w. if at w == k then f k else pos 0) m w l (λ v h other. rw (ne_eqb (at v) k (λ c. other (apart v w h l (c ∙ sym e)))))
        ∙ rw (eq-eqb (at w) k e)

    at_w : (w : ℕ) → w < m → sum_below (λ k. if at w == k then f k else pos 0) n ≡ f (at w)
    at_w w l =
        sum-single (λ k. if at w == k then f k else pos 0) n (at w) (inside w l) (λ k h other. rw (ne_eqb (at w) k (λ c. other (sym c))))
        ∙ rw (eq-eqb (at w) (at w) refl)
