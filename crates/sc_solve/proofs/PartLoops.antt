-- Lists that are made row by row, and part by part.
use Rattle.std.proofs.Common.{◌≡◌, ℕ, zero, suc, ◌+◌, ◌<◌, List, [], ◌∷◌, ◌++◌, length, get_or, set, take, Option, Some, None, ◌≤◌, arith, refl, sym, ap, ap₂, ◌∙◌}
use Rattle.std.proofs.lemmas.List.{take_more}
use Rattle.sc_chain.specs.declared.polygon.Pivot.{Pivot}
use Rattle.sc_fraction.specs.declared.frac.Frac.{Frac}
use Rattle.sc_assembly.specs.declared.parts.Part.{Part}
use Rattle.sc_assembly.specs.Multiples.{AreCounts}
use Rattle.sc_solve.specs.Solutions.{exchanged}
use Rattle.sc_solve.specs.inside.Assembling.{part_of, valued}
use Rattle.sc_solve.proofs.PolygonJournals.{exchanged-push}

-- the parts of one more item are those of the items before, and its own behind them
pub valued_suc : (items : List (Option (List ℕ))) (values : List Frac) (k : ℕ) (d : Frac) → k < length items → k < length values
    → valued (take (suc k) items) (take (suc k) values) ≡ valued (take k items) (take k values) ++ part_of (get_or items k None) (get_or values k d)
valued_suc [] values k d h h' = absurd (omega arith)
valued_suc (x ∷ items) [] k d h h' = absurd (omega arith)
valued_suc (None ∷ items) (v ∷ values) zero d h h' = refl
valued_suc (Some walk ∷ items) (v ∷ values) zero d h h' = refl
valued_suc (None ∷ items) (v ∷ values) (suc k) d h h' = valued_suc items values k d (omega arith) (omega arith)
valued_suc (Some walk ∷ items) (v ∷ values) (suc k) d h h' = ap (λ (parts : List Part). record { polygon = walk; value = v } ∷ parts) (valued_suc items values k d (omega arith) (omega arith))

-- the same where the item and its value are known by equations
pub valued_more : (items : List (Option (List ℕ))) (values : List Frac) (k : ℕ) (x : Option (List ℕ)) (v : Frac) → k < length items → k < length values → x ≡ get_or items k None → v ≡ get_or values k v
    → valued (take (k + 1) items) (take (k + 1) values) ≡ valued (take k items) (take k values) ++ part_of x v
valued_more items values k x v h h' here there =
    let next : k + 1 ≡ suc k = omega arith in
    ap (λ (m : ℕ). valued (take m items) (take m values)) next
    ∙ valued_suc items values k v h h'
    ∙ ap₂ (λ (y : Option (List ℕ)) (u : Frac). valued (take k items) (take k values) ++ part_of y u) (sym here) (sym there)

-- the counts of parts are as many as the parts
pub length-counts : (n : ℕ) (parts : List Part) (counts : List ℕ) → AreCounts n parts counts → length counts ≡ length parts
length-counts n [] [] are = refl
length-counts n [] (k ∷ counts) are = absurd are
length-counts n (p ∷ parts) [] are = absurd are
length-counts n (p ∷ parts) (k ∷ counts) are = omega (arith, length-counts n parts counts are.1)

-- ---- one more pivot
-- putting the walk of the next pivot into its row gives what stands in the rows after that pivot
pub one_more_pivot : (items : List (Option (List ℕ))) (journal : List Pivot) (i : ℕ) (p : Pivot) (walk : List ℕ) → i < length journal → p ≡ get_or journal i p → walk ≡ p.polygon
    → (so_far : List (Option (List ℕ))) → so_far ≡ exchanged items (take i journal) → set so_far p.row (Some walk) ≡ exchanged items (take (i + 1) journal)
one_more_pivot items journal i p walk inside here same so_far is =
    ap₂ (λ (xs : List (Option (List ℕ))) (w : List ℕ). set xs p.row (Some w)) is same
    ∙ sym (exchanged-push items (take i journal) p)
    ∙ ap (λ (q : Pivot). exchanged items (take i journal ++ q ∷ [])) here
    ∙ ap (exchanged items) (sym (take_more journal i p inside))

-- ---- the parts are no more than the values
pub length-valued : (items : List (Option (List ℕ))) (values : List Frac) → length (valued items values) ≤ length values
length-valued [] values = omega arith
length-valued (x ∷ items) [] = omega arith
length-valued (None ∷ items) (v ∷ values) = omega (arith, length-valued items values)
length-valued (Some walk ∷ items) (v ∷ values) = omega (arith, length-valued items values)

-- ---- the place of a fault
