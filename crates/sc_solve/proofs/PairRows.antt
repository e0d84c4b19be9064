-- The rows of pairs and of words, as the code looks them up.
use Rattle.std.proofs.Common.{◌≡◌, ℕ, ◌<◌, List, length, get_or, ltb, ◌-ℤ◌, arith, sym, ap, subst, ◌∙◌}
use Rattle.std.proofs.lemmas.Bool.{lt-ltb, cond-true}
use Rattle.sc_theory.specs.Chains.{Chain, positions, prev}
use Rattle.sc_theory.specs.Prices.{pairs}
use Rattle.sc_theory.specs.Columns.{column, steps_of}
use Rattle.sc_chain.proofs.PairLaws.{IsInversePair, inverse_at}

-- both positions of a pair are those of the chain
pub pair_inside : (c : Chain) (ps : List (ℕ × ℕ)) (row : ℕ) (r : ℕ × ℕ) → ps ≡ pairs c → r ≡ get_or ps row (0, 0) → row < length ps → (r.0 < positions c) × (r.1 < positions c)
pair_inside c ps row r es e inside =
    let here : row < length (pairs c) = subst (λ (qs : List (ℕ × ℕ)). row < length qs) es inside in
    let at : r ≡ get_or (pairs c) row (0, 0) = e ∙ ap (λ (qs : List (ℕ × ℕ)). get_or qs row (0, 0)) es in
    let pair : IsInversePair c r.0 r.1 = subst (λ (x : ℕ × ℕ). IsInversePair c x.0 x.1) (sym at) (inverse_at c row here) in
    (omega (arith, pair.ordered, pair.in_range), pair.in_range)

-- in the row of a pair p, q a column has the steps from before p to q minus those from before q to p
pub entry_of_pair : (c : Chain) (walk : List ℕ) (ps : List (ℕ × ℕ)) (row : ℕ) (r : ℕ × ℕ) → ps ≡ pairs c → r ≡ get_or ps row (0, 0) → row < length ps → column c walk row ≡ steps_of walk (prev c r.0) r.1 -ℤ steps_of walk (prev c r.1) r.0
entry_of_pair c walk ps row r es e inside =
    let at : r ≡ get_or (pairs c) row (0, 0) = e ∙ ap (λ (qs : List (ℕ × ℕ)). get_or qs row (0, 0)) es in
    cond-true (ltb row (length (pairs c))) _ _ (lt-ltb row (length (pairs c)) (subst (λ (qs : List (ℕ × ℕ)). row < length qs) es inside))
    ∙ ap (λ (x : ℕ × ℕ). steps_of walk (prev c x.0) x.1 -ℤ steps_of walk (prev c x.1) x.0) (sym at)
