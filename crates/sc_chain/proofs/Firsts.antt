-- The first positions of the words of a chain.
use Rattle.std.proofs.Common.{◌≢◌, ℕ, zero, suc, ◌<◌, ◌≤◌, [], ◌∷◌, length, refl, arith}
use Rattle.std.proofs.lemmas.List.Sums.{sum_by-take-le}
use Rattle.std.proofs.Math.Seq.{take-nil}
use Rattle.sc_theory.specs.Words.{Word}
use Rattle.sc_theory.specs.Chains.{Chain, word, positions, first}
use Rattle.sc_theory.proofs.ChainLaws.{first-cons, place_inside}

pub first-le : (c : Chain) (w : ℕ) → first c w ≤ positions c
first-le c w = sum_by-take-le (λ x. length x.1) c w

pub first-mono : (c : Chain) (v w : ℕ) → v ≤ w → first c v ≤ first c w
first-mono [] v w h = rw (take-nil v, take-nil w) (omega arith)
first-mono (x ∷ c) zero w h = omega arith
first-mono (x ∷ c) (suc v) zero h = absurd (omega arith)
first-mono (x ∷ c) (suc v) (suc w) h = omega (arith, first-cons x c v, first-cons x c w, first-mono c v w (omega arith))

pub nonempty-length : (w : Word) → w ≢ [] → 0 < length w
nonempty-length [] h = absurd (h refl)
nonempty-length (x ∷ w) h = omega arith

pub first-lt : (c : Chain) (w : ℕ) → word c w ≢ [] → first c w < positions c
first-lt c w ne = omega (arith, place_inside c w 0 (nonempty-length (word c w) ne))
