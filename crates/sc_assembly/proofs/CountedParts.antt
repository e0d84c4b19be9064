-- Parts with their counts: one for each part, with as many copies as the counts say, laid part by part.
use Rattle.std.proofs.Common.{◌≡◌, ℕ, zero, suc, ◌+◌, ◌*◌, ◌^◌, ◌<◌, ◌≤◌, List, [], ◌∷◌, ◌++◌, length, get_or, take, replicate, arith, refl, sym, ap, subst, ◌∙◌}
use Rattle.std.specs.Prelude.{map, sum, sum_by}
use Rattle.std.specs.List.{zip}
use Rattle.std.proofs.lemmas.List.{take_all}
use Rattle.std.proofs.lemmas.List.Sums.{sum_by-cons}
use Rattle.sc_theory.specs.Chains.{Chain, weighted_length}
use Rattle.sc_gluing.specs.Cycles.{Parts, copies_of, labels_of}
use Rattle.sc_gluing.specs.Gluing.{AreBalanced}
use Rattle.sc_gluing.specs.Laying.{AreLaid, LaysBehind}
use Rattle.sc_gluing.proofs.StepCounts.{cycles_of_parts}
use Rattle.sc_gluing.proofs.Sizes.{cycles_size}
use Rattle.sc_gluing.proofs.PartSizes.{copies_more, copies_fit}
use Rattle.sc_assembly.specs.declared.parts.Part.{Part}
use Rattle.sc_assembly.specs.Multiples.{counted}

-- with a count for each part: as many parts, and as many copies as the counts come to
pub length-counted : (parts : List Part) (counts : List ℕ) → length counts ≡ length parts → length (counted parts counts) ≡ length parts
length-counted [] counts e = refl
length-counted (p ∷ parts) [] e = absurd (omega arith)
length-counted (p ∷ parts) (k ∷ counts) e = omega (arith, length-counted parts counts (omega arith))

counted_at : (parts : List Part) (counts : List ℕ) (i : ℕ) (d : Part) → length counts ≡ length parts → i < length parts → get_or (counted parts counts) i ([], 0) ≡ ((get_or parts i d).polygon, get_or counts i 0)
counted_at [] counts i d e h = absurd (omega arith)
counted_at (p ∷ parts) [] i d e h = absurd (omega arith)
counted_at (p ∷ parts) (k ∷ counts) zero d e h = refl
counted_at (p ∷ parts) (k ∷ counts) (suc i) d e h = counted_at parts counts i d (omega arith) (omega arith)

pub sum-counted : (parts : List Part) (counts : List ℕ) → length counts ≡ length parts → sum_by (λ p. p.1) (counted parts counts) ≡ sum counts
sum-counted [] [] e = refl
sum-counted [] (k ∷ counts) e = absurd (omega arith)
sum-counted (p ∷ parts) [] e = absurd (omega arith)
sum-counted (p ∷ parts) (k ∷ counts) e =
    sum_by-cons (λ (q : List ℕ × ℕ). q.1) (p.polygon, k) (counted parts counts)
    ∙ ap (λ (m : ℕ). k + m) (sum-counted parts counts (omega arith))
    ∙ sym (sum_by-cons (λ (m : ℕ). m) k counts)

-- the copies of the first i parts are laid, and those of the next one come behind them
module _ (parts : List Part) (counts : List ℕ) (i : ℕ) (p : Part) (walk : List ℕ) (as_many : length counts ≡ length parts) (inside : i < length parts) (here : p ≡ get_or parts i p) (walk_is : walk ≡ p.polygon) where
  part_is : get_or (counted parts counts) i ([], 0) ≡ (walk, get_or counts i 0)
  part_is = counted_at parts counts i p as_many inside ∙ ap (λ (q : Part). (q.polygon, get_or counts i 0)) (sym here) ∙ ap (λ (w : List ℕ). (w, get_or counts i 0)) (sym walk_is)

  -- the copies of one part more have room behind those of the parts before it
  pub room_for_part : (labels : List ℕ) (len : ℕ) → len ≡ length labels → labels ≡ labels_of (copies_of (take i (counted parts counts))) → length (labels_of (copies_of (counted parts counts))) < 2 ^ 32 → len + get_or counts i 0 * length walk < 2 ^ 32
  room_for_part labels len e laid few =
      let fits : length (labels_of (copies_of (take i (counted parts counts)))) + get_or counts i 0 * length walk ≤ length (labels_of (copies_of (counted parts counts))) =
      subst (λ (q : List ℕ × ℕ). length (labels_of (copies_of (take i (counted parts counts)))) + q.1 * length q.0 ≤ length (labels_of (copies_of (counted parts counts)))) part_is
      (copies_fit (counted parts counts) i ([], 0) (omega (arith, length-counted parts counts as_many))) in
      let so_far : length labels ≡ length (labels_of (copies_of (take i (counted parts counts)))) = ap (λ (xs : List ℕ). length xs) laid in
      omega arith

  -- behind the copies of the first i parts those of the next one are laid
  pub part_laid : (a b a' b' : List ℕ) → AreLaid (copies_of (take i (counted parts counts))) a b → LaysBehind (get_or counts i 0) walk a b a' b' → AreLaid (copies_of (take (i + 1) (counted parts counts))) a' b'
  part_laid a b a' b' laid behind =
      let more : copies_of (take (i + 1) (counted parts counts)) ≡ copies_of (take i (counted parts counts)) ++ replicate (get_or counts i 0) walk =
      copies_more (counted parts counts) i ([], 0) (omega (arith, length-counted parts counts as_many))
      ∙ ap (λ (q : List ℕ × ℕ). copies_of (take i (counted parts counts)) ++ replicate q.1 q.0) part_is in
      subst (λ (ws : List (List ℕ)). AreLaid ws a' b') (sym more) (behind (copies_of (take i (counted parts counts))) laid)

-- behind the last part all copies are laid
pub all_laid : (parts : List Part) (counts : List ℕ) (i : ℕ) (a b : List ℕ) → length counts ≡ length parts → length parts ≤ i → AreLaid (copies_of (take i (counted parts counts))) a b → AreLaid (copies_of (counted parts counts)) a b
all_laid parts counts i a b as_many end laid =
    subst (λ (ps : Parts). AreLaid (copies_of ps) a b) (take_all i (counted parts counts) (omega (arith, length-counted parts counts as_many))) laid

-- balanced parts have n times the weighted length of sides
pub few_sides : (c : Chain) (n most : ℕ) (ps : Parts) → AreBalanced c n ps → n * weighted_length c ≤ most → length (labels_of (copies_of ps)) ≤ most
few_sides c n most ps is h = omega (arith, cycles_size c n (copies_of ps) (cycles_of_parts c n ps is))

-- only the polygons of the parts are counted
pub counted_polygons : (parts : List Part) (counts : List ℕ) → counted parts counts ≡ zip (map (λ p. p.polygon) parts) counts
counted_polygons [] counts = refl
counted_polygons (p ∷ parts) [] = refl
counted_polygons (p ∷ parts) (k ∷ counts) = ap (λ (ps : Parts). (p.polygon, k) ∷ ps) (counted_polygons parts counts)
