-- The places of pairs, one pair after another.
use Rattle.std.proofs.Common.{◌≡◌, ◌≢◌, ℕ, suc, ◌+◌, ◌*◌, ◌/◌, ◌<◌, ◌≤◌, false, eqb, List, [], ◌∷◌, ◌++◌, length, get_or, take, drop, set, Option, Some, None, inl, inr, arith, sym, ap, subst, ◌∙◌, length-append, suc-mul, take-append-drop}
use Rattle.std.proofs.lemmas.Bool.{cases_Bool, cases_lt, true≢false, and_from, eq-eqb}
use Rattle.std.proofs.lemmas.Nat.{div-mul-add}
use Rattle.std.proofs.lemmas.List.{length-take-le, take_more, get_or-set_other, length-set}
use Rattle.std.proofs.lemmas.Grind.{get_or-set_at}
use Rattle.std.proofs.Math.Nat.{mul-le-mul_right}
use Rattle.sc_algebra.proofs.Cycles.{pigeonhole}
use Rattle.sc_theory.specs.Prices.{place_of}
use Rattle.sc_chain.specs.declared.sign.Sign.TheVariants.{Plus}
use Rattle.sc_chain.specs.Pairs.{place_in, row_in}
use Rattle.sc_chain.specs.PairPlaces.{ArePairsBelow, ArePlacesOf}
use Rattle.sc_chain.proofs.PairLists.{same, same_itself, same_is, place_here, place_next, place-le, place_at, place-append_left, place-append_right}
use Rattle.sc_chain.proofs.PairLaws.{place_in-yes, place_in-no, row-plus}

-- what isn't below n stands in no pair
pub outside : (ps : List (ℕ × ℕ)) (n p q : ℕ) → ArePairsBelow ps n → n ≤ p → place_in ps p q ≡ None
outside ps n p q are h = elim (cases_lt (place_of ps p q) (length ps)) [
  | inl i ↦
      (let at : get_or ps (place_of ps p q) (0, 0) ≡ (p, q) = place_at ps p q (0, 0) i in
      let low : p < q = subst (λ (a : ℕ × ℕ). a.0 < a.1) at (are.ordered (place_of ps p q) i) in
      let high : q < n = subst (λ (a : ℕ × ℕ). a.1 < n) at (are.below (place_of ps p q) i) in
      absurd (omega arith))
  | inr i ↦ place_in-no ps p q i
]

pub outside_second : (ps : List (ℕ × ℕ)) (n p q : ℕ) → ArePairsBelow ps n → n ≤ q → place_in ps p q ≡ None
outside_second ps n p q are h = elim (cases_lt (place_of ps p q) (length ps)) [
  | inl i ↦
      (let at : get_or ps (place_of ps p q) (0, 0) ≡ (p, q) = place_at ps p q (0, 0) i in
      let high : q < n = subst (λ (a : ℕ × ℕ). a.1 < n) at (are.below (place_of ps p q) i) in
      absurd (omega arith))
  | inr i ↦ place_in-no ps p q i
]

-- an index of the places is that of one pair of numbers
same_row : (n p q a b : ℕ) → q < n → b < n → p * n + q ≡ a * n + b → p ≡ a
same_row n p q a b hq hb e = sym (div-mul-add p n q hq) ∙ ap (λ (x : ℕ). x / n) e ∙ div-mul-add a n b hb

same_column : (n p q a b : ℕ) → p ≡ a → p * n + q ≡ a * n + b → q ≡ b
same_column n p q a b s e = let times : p * n ≡ a * n = ap (λ (x : ℕ). x * n) s in omega arith

other_pair : (a : ℕ × ℕ) (p q n : ℕ) → q < n → a.1 < n → same a p q ≡ false → p * n + q ≡ a.0 * n + a.1 → ⊥
other_pair a p q n hq hb e s =
    let row : p ≡ a.0 = same_row n p q a.0 a.1 hq hb s in
    let column : q ≡ a.1 = same_column n p q a.0 a.1 row s in
    true≢false (sym (and_from (eqb a.0 p) (eqb a.1 q) (eq-eqb a.0 p (sym row)) (eq-eqb a.1 q (sym column))) ∙ e)

index_inside : (n p q : ℕ) → p < n → q < n → p * n + q < n * n
index_inside n p q hp hq = omega (arith, mul-le-mul_right {m = suc p} {n = n} n (omega arith), suc-mul p n)

-- the place of a pair in a list to which one is added that isn't in it
place_added : (xs : List (ℕ × ℕ)) (a : ℕ × ℕ) → length xs ≤ place_of xs a.0 a.1 → place_in (xs ++ a ∷ []) a.0 a.1 ≡ Some (length xs)
place_added xs a h =
    let here : place_of (a ∷ []) a.0 a.1 ≡ 0 = place_here a [] a.0 a.1 (same_itself a.0 a.1) in
    let all : place_of xs a.0 a.1 ≡ length xs = omega (arith, place-le xs a.0 a.1) in
    let at : place_of (xs ++ a ∷ []) a.0 a.1 ≡ length xs = omega (arith, place-append_right xs (a ∷ []) a.0 a.1 all) in
    place_in-yes (xs ++ a ∷ []) a.0 a.1 (omega (arith, length-append xs (a ∷ []))) ∙ ap (λ (k : ℕ). Some k) at

place_other : (xs : List (ℕ × ℕ)) (a : ℕ × ℕ) (p q : ℕ) → same a p q ≡ false → place_in (xs ++ a ∷ []) p q ≡ place_in xs p q
place_other xs a p q e = elim (cases_lt (place_of xs p q) (length xs)) [
  | inl i ↦
      (let at : place_of (xs ++ a ∷ []) p q ≡ place_of xs p q = place-append_left xs (a ∷ []) p q i in
      place_in-yes (xs ++ a ∷ []) p q (omega (arith, length-append xs (a ∷ []))) ∙ ap (λ (k : ℕ). Some k) at ∙ sym (place_in-yes xs p q i))
  | inr i ↦
      (let all : place_of xs p q ≡ length xs = omega (arith, place-le xs p q) in
      let next : place_of (a ∷ []) p q ≡ 1 = place_next a [] p q e in
      place_in-no (xs ++ a ∷ []) p q (omega (arith, length-append xs (a ∷ []), place-append_right xs (a ∷ []) p q all)) ∙ sym (place_in-no xs p q i))
]

-- a pair that stands once isn't among those before it
not_before : (ps : List (ℕ × ℕ)) (n k : ℕ) → ArePairsBelow ps n → k < length ps → k ≤ place_of (take k ps) (get_or ps k (0, 0)).0 (get_or ps k (0, 0)).1
not_before ps n k are h =
    let a : ℕ × ℕ = get_or ps k (0, 0) in
    let len : length (take k ps) ≡ k = length-take-le k ps (omega arith) in
    elim (cases_lt (place_of (take k ps) a.0 a.1) k) [
      | inl i ↦
          (let before : place_of (take k ps ++ drop k ps) a.0 a.1 ≡ place_of (take k ps) a.0 a.1 = place-append_left (take k ps) (drop k ps) a.0 a.1 (omega arith) in
          let whole : place_of (take k ps ++ drop k ps) a.0 a.1 ≡ k = ap (λ (l : List (ℕ × ℕ)). place_of l a.0 a.1) (take-append-drop k ps) ∙ are.once k h in
          absurd (omega arith))
      | inr i ↦ i
    ]

-- the places of the first k pairs, with the place k written at the index of the next pair, are those of k + 1 pairs
pub places_more : (ps : List (ℕ × ℕ)) (n k : ℕ) (places : List (Option ℕ)) → ArePairsBelow ps n → k < length ps → ArePlacesOf (take k ps) n places →
    ArePlacesOf (take (k + 1) ps) n (set places ((get_or ps k (0, 0)).0 * n + (get_or ps k (0, 0)).1) (Some k))
places_more ps n k places are h t =
    let a : ℕ × ℕ = get_or ps k (0, 0) in
    let more : take (k + 1) ps ≡ take k ps ++ a ∷ [] = take_more ps k (0, 0) h in
    let len : length (take k ps) ≡ k = length-take-le k ps (omega arith) in
    let low : a.0 < a.1 = are.ordered k h in
    let high : a.1 < n = are.below k h in
    let inside : a.0 * n + a.1 < length places = omega (arith, t.len, index_inside n a.0 a.1 (omega arith) high) in
    record {
      len = length-set places (a.0 * n + a.1) (Some k) ∙ t.len;
      place_at = λ p q hp hq. elim (cases_Bool (same a p q)) [
        | inl e ↦
            (let is : a ≡ (p, q) = same_is a p q e in
            let at : p * n + q ≡ a.0 * n + a.1 = ap (λ (b : ℕ × ℕ). b.0 * n + b.1) (sym is) in
            get_or-set_at places (a.0 * n + a.1) (p * n + q) (Some k) None at inside
            ∙ sym (ap (λ (l : List (ℕ × ℕ)). place_in l p q) more
            ∙ ap (λ (b : ℕ × ℕ). place_in (take k ps ++ a ∷ []) b.0 b.1) (sym is)
            ∙ place_added (take k ps) a (omega (arith, not_before ps n k are h))
            ∙ ap (λ (j : ℕ). Some j) len))
        | inr e ↦
            (let apart : p * n + q ≢ a.0 * n + a.1 = λ s. other_pair a p q n hq high e s in
            get_or-set_other places (a.0 * n + a.1) (p * n + q) (Some k) None apart
            ∙ t.place_at p q hp hq
            ∙ sym (ap (λ (l : List (ℕ × ℕ)). place_in l p q) more ∙ place_other (take k ps) a p q e))
      ];
    }

abbrev index : List (ℕ × ℕ) → ℕ → ℕ → ℕ
index ps n i = (get_or ps i (0, 0)).0 * n + (get_or ps i (0, 0)).1

two_alike : (ps : List (ℕ × ℕ)) (n : ℕ) → ArePairsBelow ps n → (i : ℕ) × (j : ℕ) × (i < j) × (j < suc (n * n)) × (index ps n i ≡ index ps n j) → n * n < length ps → ⊥
two_alike ps n are (i, j, less, inside, e) many =
    let a : ℕ × ℕ = get_or ps i (0, 0) in
    let b : ℕ × ℕ = get_or ps j (0, 0) in
    let row : a.0 ≡ b.0 = same_row n a.0 a.1 b.0 b.1 (are.below i (omega arith)) (are.below j (omega arith)) e in
    let column : a.1 ≡ b.1 = same_column n a.0 a.1 b.0 b.1 row e in
    let at_i : place_of ps a.0 a.1 ≡ i = are.once i (omega arith) in
    let at_j : place_of ps b.0 b.1 ≡ j = are.once j (omega arith) in
    let alike : place_of ps a.0 a.1 ≡ place_of ps b.0 b.1 = ap (λ (x : ℕ). place_of ps x a.1) row ∙ ap (place_of ps b.0) column in
    omega arith

-- pairs that stand once are at most n * n: each has an index of its own
pub few_pairs : (ps : List (ℕ × ℕ)) (n : ℕ) → ArePairsBelow ps n → length ps ≤ n * n
few_pairs ps n are = elim (cases_lt (n * n) (length ps)) [
  | inr few ↦ few
  | inl many ↦ absurd (two_alike ps n are (pigeonhole (n * n) (index ps n) (λ i h. index_inside n (get_or ps i (0, 0)).0 (get_or ps i (0, 0)).1 (omega (arith, are.ordered i (omega arith), are.below i (omega arith))) (are.below i (omega arith)))) many)
]

-- the row of a pair that stands once
pub row_once : (ps : List (ℕ × ℕ)) (n k : ℕ) → ArePairsBelow ps n → k < length ps → row_in ps (get_or ps k (0, 0)).0 (get_or ps k (0, 0)).1 ≡ Some (k, Plus)
row_once ps n k are h =
    let at : place_of ps (get_or ps k (0, 0)).0 (get_or ps k (0, 0)).1 ≡ k = are.once k h in
    row-plus ps (get_or ps k (0, 0)).0 (get_or ps k (0, 0)).1 (omega arith) ∙ ap (λ (j : ℕ). Some (j, Plus)) at
