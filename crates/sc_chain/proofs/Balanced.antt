-- The total of a chain, word by word, and the totals of what is no generator.
use Rattle.std.proofs.Common.{◌≡◌, ℕ, suc, ◌+◌, ◌^◌, ◌<◌, Bool, false, cond, not, ◌&&◌, ◌==◌, [], ◌∷◌, length, get_or, ℤ, pos, neg_ℤ, ◌+ℤ◌, ◌*ℤ◌, ◌≤ℤ◌, refl, ◌∙◌, arith, add-one, inl, inr}
use Rattle.std.specs.List.{count_by}
use Rattle.std.proofs.lemmas.List.Sums.{sum_by-cons}
use Rattle.std.proofs.lemmas.Bool.{cases_lt}
use Rattle.std.proofs.lemmas.Bool.Decides.{nat_tests}
use Rattle.std.proofs.lemmas.Int.{ints}
use Rattle.sc_algebra.specs.Sums.{sum_below}
use Rattle.sc_algebra.proofs.Ints.{mul-zero}
use Rattle.sc_theory.specs.declared.Letter.{Letter}
use Rattle.sc_theory.specs.Words.{Word, is_positive, is_negative, total}
use Rattle.sc_theory.specs.Chains.{Chain, IsBalanced, no_letter, weight, word, chain_total}
use Rattle.sc_chain.specs.Faults.{IsSmallChain}
use Rattle.sc_words.specs.declared.limits.TheConstants.{GENERATORS}
use Rattle.sc_chain.proofs.OneFault.{generators_of}
use Rattle.std.specs.Prelude.{◌*◌}

-- the total of the first n words
pub record IsTotalSoFar (c : Chain) (g n : ℕ) (t : ℤ) : Type 0 where
  pub total_is : t ≡ sum_below (λ w. pos (weight c w) *ℤ total g (word c w)) n
  pub low : neg_ℤ (pos (n * 2 ^ 38)) ≤ℤ t
  pub high : t ≤ℤ pos (n * 2 ^ 38)

-- the total of the words so far, with that of one word more
pub next_total : (c : Chain) (g n : ℕ) (t s : ℤ) → IsTotalSoFar c g n t → s ≡ pos (weight c n) *ℤ total g (word c n) →
    neg_ℤ (pos (2 ^ 38)) ≤ℤ s → s ≤ℤ pos (2 ^ 38) → IsTotalSoFar c g (n + 1) (t +ℤ s)
next_total c g n t s p e low high =
    record {
      total_is = rw add-one (let q : t ≡ sum_below (λ w. pos (weight c w) *ℤ total g (word c w)) n = p.total_is in cc);
      low = omega (arith, ints, p.low);
      high = omega (arith, ints, p.high);
    }

none_passes : (p : Letter → Bool) (w : Word) → ((k : ℕ) → k < length w → p (get_or w k no_letter) ≡ false) → count_by p w ≡ 0
none_passes p [] h = refl
none_passes p (x ∷ w) h =
    let here : p x ≡ false = h 0 (omega arith) in
    let rest : count_by p w ≡ 0 = none_passes p w (λ k l. h (suc k) (omega arith)) in
    sum_by-cons (λ y. cond (p y) 1 0) x w ∙ rw (here, rest)

other_number : (n g : ℕ) (b : Bool) → n < g → ((n == g) && b) ≡ false
other_number n g b h = grind (arith, nat_tests)

total_beyond : (g : ℕ) (w : Word) → ((k : ℕ) → k < length w → (get_or w k no_letter).number < g) → total g w ≡ pos 0
total_beyond g w h =
    let positive : count_by (is_positive g) w ≡ 0 = none_passes (is_positive g) w (λ k l. other_number (get_or w k no_letter).number g (not (get_or w k no_letter).inverse) (h k l)) in
    let negative : count_by (is_negative g) w ≡ 0 = none_passes (is_negative g) w (λ k l. other_number (get_or w k no_letter).number g (get_or w k no_letter).inverse (h k l)) in
    rw (positive, negative)

-- a generator beyond all letters of a chain has the total 0
pub chain_total_beyond : (c : Chain) (g : ℕ) → ((w k : ℕ) → w < length c → k < length (word c w) → (get_or (word c w) k no_letter).number < g) → chain_total g c ≡ pos 0
chain_total_beyond [] g h = refl
chain_total_beyond (u ∷ c) g h =
    let here : total g u.1 ≡ pos 0 = total_beyond g u.1 (λ k l. h 0 k (omega arith) l) in
    let rest : chain_total g c ≡ pos 0 = chain_total_beyond c g (λ w k lw lk. h (suc w) k (omega arith) lk) in
    rw (here, rest) (omega (arith, ints, mul-zero (pos u.0)))

-- a chain whose generators have the total 0 is balanced
pub balanced : (c : Chain) → IsSmallChain c → ((g : ℕ) → g < GENERATORS → chain_total g c ≡ pos 0) → IsBalanced c
balanced c s h g = elim (cases_lt g GENERATORS) [
  | inl below ↦ h g below
  | inr beyond ↦ chain_total_beyond c g (λ w k lw lk. omega (arith, generators_of c s w k lw lk))
]
