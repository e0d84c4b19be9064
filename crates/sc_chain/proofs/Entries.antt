-- The entries of a chain's lookup, word by word.
use Rattle.std.proofs.Common.{◌≡◌, ℕ, suc, ◌+◌, ◌-◌, ◌<◌, List, [], ◌∷◌, ◌++◌, length, get_or, sym, ◌∙◌, ap, subst, arith, length-append, add-one, inl, inr}
use Rattle.std.proofs.Math.Seq.{get_or-append_seam}
use Rattle.std.proofs.lemmas.Bool.{cases_lt}
use Rattle.std.proofs.lemmas.List.{get_or_append_left}
use Rattle.sc_theory.specs.declared.Letter.{Letter}
use Rattle.sc_theory.specs.Chains.{Chain, no_letter, word, positions, first, word_of, letter}
use Rattle.sc_chain.specs.declared.chain.Place.{Place}
use Rattle.sc_chain.specs.Faults.{AreGoodBelow}
use Rattle.sc_chain.specs.Lookup.{no_place, IsLookup}
use Rattle.sc_chain.specs.inside.Lookup.{place_between, AppendsBelow}
use Rattle.sc_theory.proofs.ChainLaws.{Place as Placed, place, letter_place, first-suc, first_all, neighbours}
use Rattle.sc_chain.proofs.Firsts.{first-mono, first-lt}

-- the lookup of the first n words of a chain
pub record IsLookupBelow (c : Chain) (n : ℕ) (places : List Place) (firsts : List ℕ) : Type 0 where
  pub len : length places ≡ first c n
  pub firsts_len : length firsts ≡ n
  pub first_at : (w : ℕ) → w < n → get_or firsts w 0 ≡ first c w
  pub place_at : (w k : ℕ) → w < n → k < length (word c w) →
      get_or places (first c w + k) no_place ≡ place_between (first c w) (first c w + length (word c w)) w (get_or (word c w) k no_letter) (first c w + k)

-- the entry of a position, from the entry of the place of its word
pub entry_at : (c : Chain) (places : List Place) (firsts : List ℕ) → IsLookupBelow c (length c) places firsts → (i : ℕ) → i < positions c →
    get_or places i no_place ≡ place_between (first c (word_of c i)) (first c (suc (word_of c i))) (word_of c i) (letter c i) i
entry_at c places firsts t i h =
    let p : Placed c i = place c i h in
    let v : ℕ = word_of c i in
    let k : ℕ = i - first c v in
    let inside : k < length (word c v) = omega (arith, p.from, p.below, first-suc c v) in
    let at : first c v + k ≡ i = omega (arith, p.from) in
    let same : letter c i ≡ get_or (word c v) k no_letter = ap (letter c) (sym at) ∙ letter_place c v k inside in
    let high : first c (suc v) ≡ first c v + length (word c v) = first-suc c v in
    let entry : get_or places (first c v + k) no_place ≡ place_between (first c v) (first c v + length (word c v)) v (get_or (word c v) k no_letter) (first c v + k) = t.place_at v k p.in_chain inside in
    ap (λ (n : ℕ). get_or places n no_place) (sym at) ∙ entry
    ∙ ap (λ (n : ℕ). place_between (first c v) n v (get_or (word c v) k no_letter) (first c v + k)) (sym high)
    ∙ ap (λ (x : Letter). place_between (first c v) (first c (suc v)) v x (first c v + k)) (sym same)
    ∙ ap (λ (n : ℕ). place_between (first c v) (first c (suc v)) v (letter c i) n) at

-- the lookup of all words of a chain is the lookup of the chain
pub whole : (c : Chain) (places : List Place) (firsts : List ℕ) → AreGoodBelow c (length c) → IsLookupBelow c (length c) places firsts →
    IsLookup c places firsts
whole c places firsts g t =
    record {
      len = t.len ∙ first_all c;
      firsts_len = t.firsts_len;
      first_at = t.first_at;
      letter_at = λ i h. ap (λ (p : Place). p.letter) (entry_at c places firsts t i h);
      next_at = λ i h. ap (λ (p : Place). p.next) (entry_at c places firsts t i h);
      previous_at = λ i h. ap (λ (p : Place). p.previous) (entry_at c places firsts t i h);
      word_at = λ i h. ap (λ (p : Place). p.word) (entry_at c places firsts t i h);
      first_below = λ w h. rw (t.first_at w h) (first-lt c w (g w h).nonempty);
      next_below = λ i h. rw (entry_at c places firsts t i h) (neighbours c i h).succ_inside;
      previous_below = λ i h. rw (entry_at c places firsts t i h) (neighbours c i h).prev_inside;
      word_below = λ i h. rw (entry_at c places firsts t i h) (place c i h).in_chain;
    }

-- one word more
first_next : (c : Chain) (n : ℕ) (firsts : List ℕ) (x : ℕ) → length firsts ≡ n → x ≡ first c n → ((w : ℕ) → w < n → get_or firsts w 0 ≡ first c w) →
    (w : ℕ) → w < n + 1 → get_or (firsts ++ x ∷ []) w 0 ≡ first c w
first_next c n firsts x len here below w h = elim (cases_lt w n) [
  | inl lt ↦ get_or_append_left firsts (x ∷ []) 0 w (omega arith) ∙ below w lt
  | inr ge ↦
      (let at : w ≡ length firsts = omega arith in
      ap (λ (i : ℕ). get_or (firsts ++ x ∷ []) i 0) at ∙ get_or-append_seam firsts x [] 0 ∙ here ∙ ap (first c) (sym len ∙ sym at))
]

place_next : (c : Chain) (n : ℕ) (old new : List Place) → n < length c → length old ≡ first c n →
    ((w k : ℕ) → w < n → k < length (word c w) →
    get_or old (first c w + k) no_place ≡ place_between (first c w) (first c w + length (word c w)) w (get_or (word c w) k no_letter) (first c w + k)) →
    AppendsBelow old new (word c n) n (length (word c n)) →
    (w k : ℕ) → w < n + 1 → k < length (word c w) →
    get_or new (first c w + k) no_place ≡ place_between (first c w) (first c w + length (word c w)) w (get_or (word c w) k no_letter) (first c w + k)
place_next c n old new h len below a w k lw lk = elim (cases_lt w n) [
  | inl lt ↦
      (let inside : first c w + k < length old = omega (arith, first-suc c w, first-mono c (suc w) n (omega arith)) in
      a.before (first c w + k) inside ∙ below w k lt lk)
  | inr ge ↦
      (let at : n ≡ w = omega arith in
      let P : ℕ → Type 0 = λ m. k < length (word c m) → get_or new (first c m + k) no_place ≡ place_between (first c m) (first c m + length (word c m)) m (get_or (word c m) k no_letter) (first c m + k) in
      let Q : ℕ → Type 0 = λ m. get_or new (m + k) no_place ≡ place_between m (m + length (word c n)) n (get_or (word c n) k no_letter) (m + k) in
      let here : P n = λ q. subst Q len (a.after k q) in
      subst P at here lk)
]

-- the lookup of the first n words, with the entries of the next word, is that of n + 1 words
pub next_word : (c : Chain) (n : ℕ) (old new : List Place) (firsts : List ℕ) → n < length c → IsLookupBelow c n old firsts →
    AppendsBelow old new (word c n) n (length (word c n)) → IsLookupBelow c (n + 1) new (firsts ++ length old ∷ [])
next_word c n old new firsts h t a =
    record {
      len = rw add-one (omega (arith, a.len, t.len, first-suc c n));
      firsts_len = omega (arith, t.firsts_len, length-append firsts (length old ∷ []));
      first_at = first_next c n firsts (length old) t.firsts_len t.len t.first_at;
      place_at = place_next c n old new h t.len t.place_at a;
    }
