-- The words of a surface text make a chain.
use Rattle.std.proofs.Common.{◌≡◌, ◌≢◌, ℕ, zero, suc, ◌*◌, ◌<◌, ◌≤◌, [], ◌∷◌, length, get_or, Result, Err, IsErrOf, ◌↔◌, arith}
use Rattle.std.proofs.Math.Nat.{mul-le-mul_right}
use Rattle.std.proofs.lemmas.List.Sums.{sum_by-cons}
use Rattle.std.specs.List.{AllByRecursion}
use Rattle.sc_theory.specs.Words.{Word}
use Rattle.sc_theory.specs.Chains.{Chain, no_word, positions, weighted_length}
use Rattle.sc_chain.specs.declared.fault.ChainFault.{ChainFault}
use Rattle.sc_chain.specs.declared.fault.ChainFault.TheVariants.{Memory}
use Rattle.sc_chain.specs.Faults.{IsAccepted, IsFaultOf}
use Rattle.sc_chain.proofs.OneFault.{accepted_faultless}
use Rattle.sc_text.specs.Words.{IsWordInRange}
use Rattle.sc_text.specs.Surfaces.{IsChainInRange}

each_word : (c : Chain) → AllByRecursion IsWordInRange c → (w : ℕ) → w < length c → IsWordInRange (get_or c w no_word)
each_word [] all w inside = absurd (omega arith)
each_word (v ∷ c) all zero inside = all.0
each_word (v ∷ c) all (suc w) inside = each_word c all.1 w (omega arith)

light : (c : Chain) → AllByRecursion IsWordInRange c → weighted_length c ≤ 1000 * positions c
light [] all = omega arith
light (v ∷ c) all =
    let here : v.0 * length v.1 ≤ 1000 * length v.1 = mul-le-mul_right (length v.1) all.0.high in
    let others : weighted_length c ≤ 1000 * positions c = light c all.1 in
    omega (arith, sum_by-cons (λ (u : ℕ × Word). u.0 * length u.1) v c, sum_by-cons (λ (u : ℕ × Word). length u.1) v c)

-- a chain in range is one that is accepted: its words are nonempty and reduced, and it is within the limits
pub accepted : (c : Chain) → IsChainInRange c → IsAccepted c
accepted c r = record {
  good = λ w inside. let known = each_word c r.words w inside in record { nonempty = known.some; reduced = known.reduced };
  few_words = r.count;
  few_positions = r.letters;
  light = omega (arith, light c r.words, r.letters);
}

-- so a refusal is want of memory
pub only_memory : (c : Chain) (r : Result Chain ChainFault) (e : ChainFault) → IsChainInRange c
    → ((f : ChainFault) → f ≢ Memory → IsErrOf r f ↔ IsFaultOf c f) → r ≡ Err e → e ≢ Memory → ⊥
only_memory c r e range faults is other = accepted_faultless c e (accepted c range) ((faults e other).0 is)
