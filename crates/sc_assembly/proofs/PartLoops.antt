-- What a loop over parts keeps, and the fault that it may end with.
use Rattle.std.proofs.Common.{◌≡◌, ℕ, zero, suc, ◌+◌, ◌*◌, ◌<◌, ◌≤◌, List, [], ◌∷◌, ◌++◌, length, get_or, take, Some, ℤ, pos, unsigned_abs, inl, inr, arith, sym, ap, subst, ◌∙◌}
use Rattle.std.specs.Int.{◌∣◌}
use Rattle.std.specs.List.{AllByRecursion}
use Rattle.std.proofs.lemmas.Bool.{cases_lt}
use Rattle.std.proofs.lemmas.List.{take_more}
use Rattle.std.proofs.lemmas.Option.{slice_get-get_or}
use Rattle.std.proofs.lemmas.Nat.Gcd.{dvd_refl}
use Rattle.std.proofs.Math.Nat.{one-dvd}
use Rattle.sc_theory.specs.Chains.{Chain, weighted_length}
use Rattle.sc_whole.specs.Divisor.{IsLcm}
use Rattle.sc_fraction.specs.Frac.{denominator}
use Rattle.sc_fatgraph.specs.declared.limits.TheConstants.{MAX_SIDES}
use Rattle.sc_assembly.specs.declared.parts.Part.{Part}
use Rattle.sc_assembly.specs.Multiples.{IsTimes, IsLeastWhole, AreCounts, IsLeastCommon, HasManySides}
use Rattle.sc_assembly.proofs.Wholes.{size, next_common, beyond}

-- a part with its count is put behind the others
pub counts_last : (n : ℕ) (parts : List Part) (counts : List ℕ) (p : Part) (k : ℕ) → AreCounts n parts counts → IsTimes n p.value (pos k) → AreCounts n (parts ++ p ∷ []) (counts ++ k ∷ [])
counts_last n [] [] p k are is = (is, tt)
counts_last n [] (j ∷ counts) p k are is = absurd are
counts_last n (q ∷ parts) [] p k are is = absurd are
counts_last n (q ∷ parts) (j ∷ counts) p k are is = (are.0, counts_last n parts counts p k are.1 is)

module _ (parts : List Part) (i : ℕ) (p : Part) (inside : i < length parts) (here : p ≡ get_or parts i p) where
  one_more : take (i + 1) parts ≡ take i parts ++ p ∷ []
  one_more = take_more parts i p inside ∙ ap (λ (q : Part). take i parts ++ q ∷ []) (sym here)

  -- the next part has its count
  pub counts_more : (n : ℕ) (counts counts' : List ℕ) (k : ℕ) → AreCounts n (take i parts) counts → IsTimes n p.value (pos k) → counts' ≡ counts ++ k ∷ [] → AreCounts n (take (i + 1) parts) counts'
  counts_more n counts counts' k are is e =
      subst (λ (ps : List Part). AreCounts n ps counts') (sym one_more) (subst (AreCounts n (take i parts ++ p ∷ [])) (sym e) (counts_last n (take i parts) counts p k are is))

  -- the least common multiple up to the next part is that of the one before and of its denominator
  pub common_more : (a m : ℕ) → IsLeastCommon (take i parts) a → IsLcm a (size p.value) m → IsLeastCommon (take (i + 1) parts) m
  common_more a m so_far is = subst (λ (ps : List Part). IsLeastCommon ps m) (sym one_more) (next_common (take i parts) p a m so_far is)

split_at : (parts : List Part) (i : ℕ) (p : Part) → i < length parts → p ≡ get_or parts i p → (rest : List Part) × (parts ≡ take i parts ++ p ∷ rest)
split_at [] i p inside here = absurd (omega arith)
split_at (q ∷ parts) zero p inside here = (parts, ap (λ (r : Part). r ∷ parts) (sym here))
split_at (q ∷ parts) (suc i) p inside here =
    let rest = split_at parts i p (omega arith) here in
    (rest.0, ap (λ (ps : List Part). q ∷ ps) rest.1)

all_at : (P : Part → Type 0) (parts : List Part) (i : ℕ) (p : Part) → AllByRecursion P parts → i < length parts → P (get_or parts i p)
all_at P [] i p all inside = absurd (omega arith)
all_at P (q ∷ parts) zero p all inside = all.0
all_at P (q ∷ parts) (suc i) p all inside = all_at P parts i p all.1 (omega arith)

-- a number is its least common multiple with 1
lcm_with_one : (a d : ℕ) → d ≡ 1 → IsLcm a d a
lcm_with_one a d e = record { of_first = dvd_refl a; of_second = subst (λ (k : ℕ). k ∣ a) (sym e) (one-dvd a); least = λ k h _. h }

-- the fault at a part, whose denominator leads past the most copies that there may be
module _ (c : Chain) (parts : List Part) (i a limit : ℕ) (p : Part) (next : ℤ)
    (inside : i < length parts) (here : p ≡ get_or parts i p) (next_is : next ≡ denominator p.value)
    (so_far : IsLeastCommon (take i parts) a) (low : a ≤ limit)
    (passed : (m : ℕ) → IsLcm a (size p.value) m → limit < m)
    (within : (n : ℕ) → n ≤ limit → n * weighted_length c ≤ MAX_SIDES)
    (over : (n : ℕ) → 0 < weighted_length c → limit < n → MAX_SIDES < n * weighted_length c)
    (whole : weighted_length c ≡ 0 → AllByRecursion (λ p. denominator p.value ≡ pos 1) parts)
  where
    some_length : 0 < weighted_length c
    some_length = elim (cases_lt 0 (weighted_length c)) [
      | inl some ↦ some
      | inr none ↦
          let one : size p.value ≡ 1 = ap unsigned_abs (ap (λ (q : Part). denominator q.value) here ∙ all_at (λ q. denominator q.value ≡ pos 1) parts i p (whole (omega arith)) inside) in
          absurd (omega (arith, passed a (lcm_with_one a (size p.value) one)))
    ]

    all_over : (n : ℕ) → IsLeastWhole parts n → MAX_SIDES < n * weighted_length c
    all_over n is =
        let cut = split_at parts i p inside here in
        over n some_length (beyond (take i parts) cut.0 p a limit so_far passed n (subst (λ (ps : List Part). IsLeastWhole ps n) cut.1 is))

    -- the part i leads to too many sides
    pub many_sides : HasManySides c parts i a next
    many_sides = record {
      over = all_over;
      here = p;
      here_is = slice_get-get_or parts i p inside ∙ ap (λ (q : Part). Some q) (sym here);
      next_is = next_is;
      so_far_is = so_far;
      within = within a low;
      passed = λ m is. over m some_length (passed m (subst (λ (x : ℕ). IsLcm a x m) (ap unsigned_abs next_is) is));
    }
