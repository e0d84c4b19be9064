-- A list of words has at most one fault, and one without a fault is a chain within the limits.
use Rattle.std.specs.Prelude.{IsErrOf, ◌↔◌, Result, Ok, Err}
use Rattle.std.proofs.Common.{◌≡◌, ◌≢◌, zero, suc, ℕ, ◌+◌, ◌-◌, ◌<◌, ◌≤◌, inl, inr, false, true, [], length, get_or, sym, ap, subst, ◌∙◌, arith}
use Rattle.std.proofs.lemmas.Bool.{cases_order}
use Rattle.sc_theory.specs.Words.{Word, IsReduced}
use Rattle.sc_theory.specs.Places.{cancels_next, IsLeastCancelling}
use Rattle.sc_theory.proofs.Rounds.{unreduced_from_cancelling}
use Rattle.sc_theory.specs.Chains.{Chain, no_letter, word, positions, letter, word_of, first}
use Rattle.sc_chain.specs.Faults.{IsSmallChain, AreGenerators, IsGoodWord, AreGoodBelow, HasEmptyWord, HasFlaw, IsFaultOf, IsAccepted}
use Rattle.sc_chain.specs.declared.fault.ChainFault.{ChainFault}
use Rattle.sc_chain.specs.declared.fault.ChainFault.TheVariants.{EmptyWord, NotReduced, ManyWords, ManyPositions, Heavy, Memory}
use Rattle.sc_words.specs.declared.limits.TheConstants.{GENERATORS}
use Rattle.sc_theory.proofs.ChainLaws.{Place as Placed, place, place_inside, letter_place, first-suc}
use Rattle.sc_chain.proofs.Firsts.{nonempty-length}

-- a word that is reduced and has a letter is good
pub good_word : (w : Word) → length w ≢ 0 → IsReduced w → IsGoodWord w
good_word w h r = record { nonempty = λ e. h (ap length e); reduced = r }

empty_bad : (c : Chain) (w : ℕ) → HasEmptyWord c w → IsGoodWord (word c w) → ⊥
empty_bad c w p g = g.nonempty p.empty

flaw_bad : (c : Chain) (w k : ℕ) → HasFlaw c w k → IsGoodWord (word c w) → ⊥
flaw_bad c w k p g = unreduced_from_cancelling (word c w) k p.flaw g.reduced

-- the first word that isn't good is one word
first_same : (c : Chain) (v w : ℕ) → AreGoodBelow c v → AreGoodBelow c w → (IsGoodWord (word c v) → ⊥) → (IsGoodWord (word c w) → ⊥) → v ≡ w
first_same c v w pv pw bv bw = elim (cases_order v w) [
  | inl e ↦ e
  | inr ne ↦ elim ne [
    | inl lt ↦ absurd (bv (pw v lt))
    | inr gt ↦ absurd (bw (pv w gt))
  ]
]

place_same : (u : Word) (j k : ℕ) → IsLeastCancelling u j → IsLeastCancelling u k → j ≡ k
place_same u j k p q = elim (cases_order j k) [
  | inl e ↦ e
  | inr ne ↦ elim ne [
    | inl lt ↦ (let h : cancels_next u j ≡ false = q.least j lt in let t : cancels_next u j ≡ true = p.cancels in cc)
    | inr gt ↦ (let h : cancels_next u k ≡ false = p.least k gt in let t : cancels_next u k ≡ true = q.cancels in cc)
  ]
]

empty_flaw : (c : Chain) (v w k : ℕ) → HasEmptyWord c v → HasFlaw c w k → ⊥
empty_flaw c v w k p q =
    let same : v ≡ w = first_same c v w p.before q.before (empty_bad c v p) (flaw_bad c w k q) in
    let inside : k < length (word c w) = q.flaw.inside in
    let none : length (word c w) ≡ 0 = ap length (subst (λ (n : ℕ). word c n ≡ []) same p.empty) in
    omega arith

flaw_same : (c : Chain) (v j w k : ℕ) → HasFlaw c v j → HasFlaw c w k → NotReduced v j ≡ NotReduced w k
flaw_same c v j w k p q =
    let same : v ≡ w = first_same c v w p.before q.before (flaw_bad c v j p) (flaw_bad c w k q) in
    let here : j ≡ k = place_same (word c w) j k (subst (λ (n : ℕ). IsLeastCancelling (word c n) j) same p.flaw) q.flaw in
    cc

-- a list of words has at most one fault
pub same_fault : (c : Chain) (e f : ChainFault) → IsFaultOf c e → IsFaultOf c f → e ≡ f
same_fault c (EmptyWord v) (EmptyWord w) p q = ap EmptyWord (first_same c v w p.before q.before (empty_bad c v p) (empty_bad c w q))
same_fault c (EmptyWord v) (NotReduced w k) p q = absurd (empty_flaw c v w k p q)
same_fault c (EmptyWord v) (ManyWords n) p q = absurd (empty_bad c v p (q.good v p.in_range))
same_fault c (EmptyWord v) (ManyPositions n) p q = absurd (empty_bad c v p (q.good v p.in_range))
same_fault c (EmptyWord v) (Heavy n) p q = absurd (empty_bad c v p (q.good v p.in_range))
same_fault c (NotReduced v j) (EmptyWord w) p q = absurd (empty_flaw c w v j q p)
same_fault c (NotReduced v j) (NotReduced w k) p q = flaw_same c v j w k p q
same_fault c (NotReduced v j) (ManyWords n) p q = absurd (flaw_bad c v j p (q.good v p.in_range))
same_fault c (NotReduced v j) (ManyPositions n) p q = absurd (flaw_bad c v j p (q.good v p.in_range))
same_fault c (NotReduced v j) (Heavy n) p q = absurd (flaw_bad c v j p (q.good v p.in_range))
same_fault c (ManyWords m) (EmptyWord w) p q = absurd (empty_bad c w q (p.good w q.in_range))
same_fault c (ManyWords m) (NotReduced w k) p q = absurd (flaw_bad c w k q (p.good w q.in_range))
same_fault c (ManyWords m) (ManyWords n) p q = cc
same_fault c (ManyWords m) (ManyPositions n) p q = absurd (omega (arith, p.many, q.few_words))
same_fault c (ManyWords m) (Heavy n) p q = absurd (omega (arith, p.many, q.few_words))
same_fault c (ManyPositions m) (EmptyWord w) p q = absurd (empty_bad c w q (p.good w q.in_range))
same_fault c (ManyPositions m) (NotReduced w k) p q = absurd (flaw_bad c w k q (p.good w q.in_range))
same_fault c (ManyPositions m) (ManyWords n) p q = absurd (omega (arith, q.many, p.few_words))
same_fault c (ManyPositions m) (ManyPositions n) p q = cc
same_fault c (ManyPositions m) (Heavy n) p q = absurd (omega (arith, p.many, q.few_positions))
same_fault c (Heavy m) (EmptyWord w) p q = absurd (empty_bad c w q (p.good w q.in_range))
same_fault c (Heavy m) (NotReduced w k) p q = absurd (flaw_bad c w k q (p.good w q.in_range))
same_fault c (Heavy m) (ManyWords n) p q = absurd (omega (arith, q.many, p.few_words))
same_fault c (Heavy m) (ManyPositions n) p q = absurd (omega (arith, q.many, p.few_positions))
same_fault c (Heavy m) (Heavy n) p q = cc
same_fault c Memory f p q = absurd p
same_fault c e Memory p q = absurd q

-- an accepted list of words has no fault
pub accepted_faultless : (c : Chain) (e : ChainFault) → IsAccepted c → IsFaultOf c e → ⊥
accepted_faultless c (EmptyWord w) a q = empty_bad c w q (a.good w q.in_range)
accepted_faultless c (NotReduced w k) a q = flaw_bad c w k q (a.good w q.in_range)
accepted_faultless c (ManyWords n) a q = omega (arith, q.many, a.few_words)
accepted_faultless c (ManyPositions n) a q = omega (arith, q.many, a.few_positions)
accepted_faultless c (Heavy n) a q = omega (arith, q.heavy, a.light)
accepted_faultless c Memory a q = q

generator_at : (c : Chain) → AreGenerators c → (i : ℕ) → i < positions c → (letter c i).number < GENERATORS
generator_at c g i h =
    let p : Placed c i = place c i h in
    let k : ℕ = i - first c (word_of c i) in
    let inside : k < length (word c (word_of c i)) = omega (arith, p.from, p.below, first-suc c (word_of c i)) in
    let at : first c (word_of c i) + k ≡ i = omega (arith, p.from) in
    let same : letter c i ≡ get_or (word c (word_of c i)) k no_letter = ap (letter c) (sym at) ∙ letter_place c (word_of c i) k inside in
    rw same (g (word_of c i) k p.in_chain inside)

-- an accepted list of words over the generators is a chain within the limits
pub accepted_small : (c : Chain) → IsAccepted c → AreGenerators c → IsSmallChain c
accepted_small c a g =
    record {
      chain = record { words = λ w h. (a.good w h).nonempty; reduced = λ w h. (a.good w h).reduced };
      generators = generator_at c g;
      few_words = a.few_words;
      few_positions = a.few_positions;
      light = a.light;
    }

-- what an answer says of the faults of its words

pub fault_says : {T : Type 0} (c : Chain) (f e : ChainFault) → IsFaultOf c f → IsErrOf {T = T} (Err f) e ↔ IsFaultOf c e
fault_says {T} c f e p =
    ((λ h. let same : f ≡ e = cc in subst (IsFaultOf c) same p), (λ q. let same : f ≡ e = same_fault c f e p q in cc))

pub ok_says : {T : Type 0} (c : Chain) (x : T) (e : ChainFault) → IsAccepted c → IsErrOf (Ok x) e ↔ IsFaultOf c e
ok_says {T} c x e a = ((λ h. absurd (cc)), (λ q. absurd (accepted_faultless c e a q)))

pub memory_says : {T : Type 0} (c : Chain) (r : Result T ChainFault) (e : ChainFault) → IsAccepted c → r ≡ Err Memory → e ≢ Memory → IsErrOf r e ↔ IsFaultOf c e
memory_says {T} c r e a m ne = ((λ h. absurd (ne (cc))), (λ q. absurd (accepted_faultless c e a q)))

-- words that are nonempty are no more than their letters
pub words-le : (c : Chain) (n : ℕ) → n ≤ length c → AreGoodBelow c n → n ≤ first c n
words-le c zero h g = omega arith
words-le c (suc n) h g =
    let below : n ≤ first c n = words-le c n (omega arith) (λ w p. g w (omega arith)) in
    let one : 0 < length (word c n) = nonempty-length (word c n) (g n (omega arith)).nonempty in
    omega (arith, first-suc c n)

-- the letters of a chain within the limits are those of the generators
pub generators_of : (c : Chain) → IsSmallChain c → AreGenerators c
generators_of c s w k hw hk = rw (← letter_place c w k hk) (s.generators (first c w + k) (place_inside c w k hk))
