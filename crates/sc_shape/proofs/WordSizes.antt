-- The words of a chain are neither empty nor long.
use Rattle.std.proofs.Common.{◌≡◌, ◌≢◌, ℕ, zero, suc, ◌+◌, ◌-◌, ◌^◌, ◌<◌, List, [], ◌∷◌, length, get_or, refl, arith}
use Rattle.sc_theory.specs.Words.{Word}
use Rattle.sc_theory.specs.Chains.{Chain, no_word, word, positions, first}
use Rattle.sc_theory.proofs.ChainLaws.{place_inside}
use Rattle.sc_chain.specs.Faults.{IsSmallChain}

get-default : {A : Type 0} (xs : List A) (i : ℕ) (d e : A) → i < length xs → get_or xs i d ≡ get_or xs i e
get-default [] i d e l = absurd (omega (arith, l))
get-default (x ∷ xs) zero d e l = refl
get-default (x ∷ xs) (suc i) d e l = get-default xs i d e (omega (arith, l))

not_empty : {A : Type 0} (xs : List A) → xs ≢ [] → 0 < length xs
not_empty [] n = absurd (n refl)
not_empty (x ∷ xs) n = omega arith

-- a word of a small chain has a letter at least, and fewer than 2^32
pub word_size : (c : Chain) (w : ℕ) (d : ℕ × Word) → IsSmallChain c → w < length c → (0 < length (get_or c w d).1) × (length (get_or c w d).1 < 2 ^ 32)
word_size c w d small l =
    let same : get_or c w d ≡ get_or c w no_word = get-default c w d no_word l in
    let full : 0 < length (word c w) = not_empty (word c w) (small.chain.words w l) in
    let last : first c w + (length (word c w) - 1) < positions c = place_inside c w (length (word c w) - 1) (omega (arith, full)) in
    rw same (full, omega (arith, last, full, small.few_positions))
