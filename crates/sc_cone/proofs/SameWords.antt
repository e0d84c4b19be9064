-- Chains with the same words: whatever their weights, they have the same positions, letters, steps and prices.
use Rattle.std.proofs.Common.{◌≡◌, ℕ, zero, suc, ◌-◌, ◌<◌, ◌&&◌, nat_lt, ◌==◌, if◌then◌else◌, List, [], ◌∷◌, ◌++◌, map, length, get_or, ℤ, pos, ◌+ℤ◌, ◌≤ℤ◌, neg_ℤ, arith, refl, sym, ap, subst, ◌∙◌}
use Rattle.std.specs.List.{flat_map, filter, range_with_len}
use Rattle.sc_theory.specs.Words.{Word, inverse_letter, is_inverse}
use Rattle.sc_theory.specs.Chains.{Chain, no_letter, word, positions, first, word_of, letter, succ}
use Rattle.sc_theory.specs.Walks.{IsStep, WalksBack, IsClosedWalk, walk_total}
use Rattle.sc_theory.specs.Prices.{Prices, pairs, place_of, price, Covers}
use Rattle.sc_theory.proofs.ChainLaws.{first-cons, positions-cons}

-- the words of a chain, and a chain of words without weights
abbrev pub words : Chain → List Word
words c = map (λ (w : ℕ × Word). w.1) c

abbrev plain : List Word → Chain
plain ws = map (λ (v : Word). (0, v)) ws

positions_plain : (c : Chain) → positions c ≡ positions (plain (words c))
positions_plain [] = refl
positions_plain (u ∷ c) = omega (arith, positions-cons u c, positions-cons (0, u.1) (plain (words c)), positions_plain c)

first_plain : (c : Chain) (w : ℕ) → first c w ≡ first (plain (words c)) w
first_plain [] w = refl
first_plain (u ∷ c) zero = refl
first_plain (u ∷ c) (suc w) = omega (arith, first-cons u c w, first-cons (0, u.1) (plain (words c)) w, first_plain c w)

word_of_plain : (c : Chain) (i : ℕ) → word_of c i ≡ word_of (plain (words c)) i
word_of_plain [] i = refl
word_of_plain (u ∷ c) i = ap (λ (w : ℕ). if nat_lt i (length u.1) then 0 else suc w) (word_of_plain c (i - length u.1))

letters_plain : (c : Chain) → flat_map (λ (w : ℕ × Word). w.1) c ≡ flat_map (λ (w : ℕ × Word). w.1) (plain (words c))
letters_plain [] = refl
letters_plain (u ∷ c) = ap (λ (l : Word). u.1 ++ l) (letters_plain c)

word_plain : (c : Chain) (w : ℕ) → word c w ≡ word (plain (words c)) w
word_plain [] w = refl
word_plain (u ∷ c) zero = refl
word_plain (u ∷ c) (suc w) = word_plain c w

length_plain : (c : Chain) → length c ≡ length (plain (words c))
length_plain [] = refl
length_plain (u ∷ c) = ap suc (length_plain c)

-- what two chains with the same words share
pub record Same (c d : Chain) : Type 0 where
  pub size : length c ≡ length d
  pub all : positions c ≡ positions d
  pub word : (w : ℕ) → word c w ≡ word d w
  pub first : (w : ℕ) → first c w ≡ first d w
  pub word_of : (i : ℕ) → word_of c i ≡ word_of d i
  pub letter : (i : ℕ) → letter c i ≡ letter d i

pub same_words : (c d : Chain) → words c ≡ words d → Same c d
same_words c d e = record {
  size = length_plain c ∙ ap (λ (ws : List Word). length (plain ws)) e ∙ sym (length_plain d);
  all = positions_plain c ∙ ap (λ (ws : List Word). positions (plain ws)) e ∙ sym (positions_plain d);
  word = λ w. word_plain c w ∙ ap (λ (ws : List Word). word (plain ws) w) e ∙ sym (word_plain d w);
  first = λ w. first_plain c w ∙ ap (λ (ws : List Word). first (plain ws) w) e ∙ sym (first_plain d w);
  word_of = λ i. word_of_plain c i ∙ ap (λ (ws : List Word). word_of (plain ws) i) e ∙ sym (word_of_plain d i);
  letter = λ i. ap (λ (l : Word). get_or l i no_letter) (letters_plain c ∙ ap (λ (ws : List Word). flat_map (λ (w : ℕ × Word). w.1) (plain ws)) e ∙ sym (letters_plain d));
}

module _ (c d : Chain) (same : Same c d) where
  -- chains with the same words have the same steps, closed walks and prices, and the same lists cover them
  pub succ_same : (i : ℕ) → succ c i ≡ succ d i
  succ_same i =
      let first_c : ℕ → ℕ = first c in
      let p : first c ≡ first d = λ k. λ w. same.first w k in
      let q : word_of c i ≡ word_of d i = same.word_of i in
      λ k. if suc i == p k (suc (q k)) then p k (q k) else suc i

  pub step_same : (i j : ℕ) → IsStep c i j → IsStep d i j
  step_same i j step = record {
    from = subst (λ (n : ℕ). i < n) same.all step.from;
    to = subst (λ (n : ℕ). j < n) same.all step.to;
    inverse = sym (same.letter j) ∙ step.inverse ∙ ap inverse_letter (ap (letter c) (succ_same i) ∙ same.letter (succ d i));
  }

  walks_same : (start i : ℕ) (js : List ℕ) → WalksBack c start i js → WalksBack d start i js
  walks_same start i [] step = step_same i start step
  walks_same start i (j ∷ js) walk = (step_same i j walk.0, walks_same start j js walk.1)

  pub closed_same : (walk : List ℕ) → IsClosedWalk c walk → IsClosedWalk d walk
  closed_same [] walk = walk
  closed_same (i ∷ js) walk = walks_same i i js walk

  pairs_same : pairs c ≡ pairs d
  pairs_same =
      let p : letter c ≡ letter d = λ k. λ i. same.letter i k in
      let q : positions c ≡ positions d = same.all in
      λ k. flat_map (λ (a : ℕ). map (λ (b : ℕ). (a, b)) (filter (λ (b : ℕ). nat_lt a b && is_inverse (p k a) (p k b)) (range_with_len 0 (q k)))) (range_with_len 0 (q k))

  pub price_same : (list : Prices) (i j : ℕ) → price c list i j ≡ price d list i j
  price_same list i j =
      let p : pairs c ≡ pairs d = pairs_same in
      let next : succ c i ≡ succ d i = succ_same i in
      let begins : first c ≡ first d = λ k. λ w. same.first w k in
      let place : word_of c j ≡ word_of d j = same.word_of j in
      λ k.
      (if nat_lt (next k) j then get_or list.pair (place_of (p k) (next k) j) (pos 0)
      else (if nat_lt j (next k) then neg_ℤ (get_or list.pair (place_of (p k) j (next k)) (pos 0)) else pos 0))
      +ℤ (if j == begins k (place k) then get_or list.base (place k) (pos 0) else pos 0)

  pub covers_same : (list : Prices) → Covers d list → Covers c list
  covers_same list covers walk closed =
      let p : price c list ≡ price d list = λ k. λ i. λ j. price_same list i j k in
      subst (λ (x : ℤ). list.scale ≤ℤ x) (ap (λ (f : ℕ → ℕ → ℤ). walk_total f walk) (sym p)) (covers walk (closed_same walk closed))
