-- A test that computes whether tables vouch for a list.
use Rattle.std.proofs.Common.{◌≡◌, ℕ, zero, suc, ◌<◌, Bool, true, false, not, ◌&&◌, eqb, Option, Some, None, ℤ, pos, negsuc, ◌+ℤ◌, ◌≤ℤ◌, inl, inr, arith, refl, sym, ap, subst, ◌∙◌}
use Rattle.std.proofs.lemmas.Bool.{cases_eq, and_parts, eq-eqb, ne_eqb, false≢true}
use lib.Dec.{T}
use lib.Signed.{le_z}
use Rattle.sc_theory.specs.declared.Letter.{Letter}
use Rattle.sc_theory.specs.Words.{inverse_letter, is_inverse}
use Rattle.sc_theory.specs.Chains.{Chain, positions, letter, succ}
use Rattle.sc_theory.specs.Walks.{IsStep}
use Rattle.sc_theory.specs.Prices.{Prices, price, Tables, entry, Vouch}

-- whether a test holds of each number below n
abbrev pub all_below : (ℕ → Bool) → ℕ → Bool
all_below test zero = true
all_below test (suc n) = all_below test n && test n

-- a test that holds of all numbers below n holds of each
pub all_below_at : (test : ℕ → Bool) (n s : ℕ) → all_below test n ≡ true → s < n → test s ≡ true
all_below_at test zero s all inside = absurd (omega arith)
all_below_at test (suc n) s all inside =
    let parts = and_parts (all_below test n) (test n) all in
    elim (cases_eq s n) [
      | inl same ↦ ap test same ∙ parts.1
      | inr other ↦ all_below_at test n s parts.0 (omega arith)
    ]

-- whether q holds or p fails
abbrev pub implies : Bool → Bool → Bool
implies false q = true
implies true q = q

pub implies_at : (p q : Bool) → implies p q ≡ true → p ≡ true → q ≡ true
implies_at false q h e = absurd (false≢true e)
implies_at true q h e = h

-- whether an entry is there and is 0
abbrev pub is_zero : Option ℤ → Bool
is_zero None = false
is_zero (Some (pos zero)) = true
is_zero (Some (pos (suc n))) = false
is_zero (Some (negsuc n)) = false

pub is_zero_at : (o : Option ℤ) → is_zero o ≡ true → o ≡ Some (pos 0)
is_zero_at None h = absurd (false≢true h)
is_zero_at (Some (pos zero)) h = refl
is_zero_at (Some (pos (suc n))) h = absurd (false≢true h)
is_zero_at (Some (negsuc n)) h = absurd (false≢true h)

-- whether a step of a price may go from one entry to another, or back to the start
abbrev pub may_step : ℤ → ℤ → Bool → Option ℤ → Option ℤ → Bool
may_step scale price back None there = true
may_step scale price true (Some h) there = le_z scale (h +ℤ price)
may_step scale price false (Some h) None = false
may_step scale price false (Some h) (Some k) = le_z k (h +ℤ price)

pub le_at : (x y : ℤ) → le_z x y ≡ true → x ≤ℤ y
le_at x y h = record { le = subst T (sym h) tt }

returns_at : (scale price h : ℤ) (here there : Option ℤ) → here ≡ Some h → may_step scale price true here there ≡ true → scale ≤ℤ (h +ℤ price)
returns_at scale price h here there e test = le_at scale (h +ℤ price) (subst (λ (o : Option ℤ). may_step scale price true o there ≡ true) e test)

goes_to : (scale price h : ℤ) (there : Option ℤ) → may_step scale price false (Some h) there ≡ true → (k : ℤ) × (there ≡ Some k) × (k ≤ℤ (h +ℤ price))
goes_to scale price h None test = absurd (false≢true test)
goes_to scale price h (Some k) test = (k, refl, le_at k (h +ℤ price) test)

goes_at : (scale price h : ℤ) (here there : Option ℤ) → here ≡ Some h → may_step scale price false here there ≡ true → (k : ℤ) × (there ≡ Some k) × (k ≤ℤ (h +ℤ price))
goes_at scale price h here there e test =
    goes_to scale price h there (subst (λ (o : Option ℤ). may_step scale price false o there ≡ true) e test)

-- a letter and its inverse pass the test
inverse_at : (n : ℕ) (sign : Bool) → is_inverse (record { number = n; inverse = sign }) (record { number = n; inverse = not sign }) ≡ true
inverse_at n false = ap (λ (t : Bool). t && true) (eq-eqb n n refl)
inverse_at n true = ap (λ (t : Bool). t && true) (eq-eqb n n refl)

pub is_inverse_of : (x : Letter) → is_inverse x (inverse_letter x) ≡ true
is_inverse_of x = inverse_at x.number x.inverse

-- a step leads to a letter that is the inverse of the letter after its start
pub inverse_of_step : (c : Chain) (i j : ℕ) → IsStep c i j → is_inverse (letter c (succ c i)) (letter c j) ≡ true
inverse_of_step c i j step = ap (is_inverse (letter c (succ c i))) step.inverse ∙ is_inverse_of (letter c (succ c i))

-- whether the entries of the table s allow to go from i to j, where that is a step
abbrev pub step_test : Chain → Prices → Tables → ℕ → ℕ → ℕ → Bool
step_test c list tables s i j =
    implies (is_inverse (letter c (succ c i)) (letter c j)) (may_step list.scale (price c list i j) (eqb j s) (entry tables s i) (entry tables s j))

-- whether each table has 0 at its own position and allows all steps
abbrev pub vouch_test : Chain → Prices → Tables → Bool
vouch_test c list tables =
    all_below (λ s. is_zero (entry tables s s) && all_below (λ i. all_below (step_test c list tables s i) (positions c)) (positions c)) (positions c)

module _ (c : Chain) (list : Prices) (tables : Tables) (test : vouch_test c list tables ≡ true) where
  table : (s : ℕ) → s < positions c → (is_zero (entry tables s s) ≡ true) × (all_below (λ i. all_below (step_test c list tables s i) (positions c)) (positions c) ≡ true)
  table s inside = and_parts _ _ (all_below_at (λ r. is_zero (entry tables r r) && all_below (λ i. all_below (step_test c list tables r i) (positions c)) (positions c)) (positions c) s test inside)

  step_at : (s i j : ℕ) → s < positions c → IsStep c i j → may_step list.scale (price c list i j) (eqb j s) (entry tables s i) (entry tables s j) ≡ true
  step_at s i j inside step =
      let at_i = all_below_at (λ k. all_below (step_test c list tables s k) (positions c)) (positions c) i (table s inside).1 step.from in
      let at_j = all_below_at (step_test c list tables s i) (positions c) j at_i step.to in
      implies_at _ _ at_j (inverse_of_step c i j step)

  -- tables that pass the test vouch for the list
  pub vouches : Vouch c list tables
  vouches = record {
    starts = λ s inside. is_zero_at (entry tables s s) (table s inside).0;
    goes = λ s i j h inside step present other.
        goes_at list.scale (price c list i j) h (entry tables s i) (entry tables s j) present
        (subst (λ (t : Bool). may_step list.scale (price c list i j) t (entry tables s i) (entry tables s j) ≡ true) (ne_eqb j s other) (step_at s i j inside step));
    returns = λ s i h inside step present.
        returns_at list.scale (price c list i s) h (entry tables s i) (entry tables s s) present
        (subst (λ (t : Bool). may_step list.scale (price c list i s) t (entry tables s i) (entry tables s s) ≡ true) (eq-eqb s s refl) (step_at s i s inside step));
  }
