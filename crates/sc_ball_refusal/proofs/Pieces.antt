-- The pieces of the lines of a search.
use Rattle.std.proofs.Common.{◌≡◌, ℕ, ◌&&◌, List, [], ◌∷◌, ◌++◌, map, length, codes, refl, sym, ap, ap₂, ◌∙◌, append_assoc, nat_lt, unsigned_abs}
use Rattle.std.specs.List.{flat_map, filter, range_with_len}
use Rattle.std.proofs.lemmas.List.{length-map, append-nil}
use Rattle.sc_theory.specs.Words.{is_inverse}
use Rattle.sc_theory.specs.Chains.{Chain, positions, letter}
use Rattle.sc_theory.specs.Prices.{pairs}
use Rattle.sc_line.specs.Lines.{Line, ended, text_of, count_line}
use Rattle.sc_line.proofs.PrintLaws.{text_both, flat_map-map}
use Rattle.sc_certificate.proofs.PrintedLines.{list_pieces}
use Rattle.sc_cone.specs.declared.Direction.{Direction}
use Rattle.sc_cone.specs.declared.Quadrant.{Quadrant}
use Rattle.sc_cone.specs.Cones.{second_words, chain_of, quadrant_chain}
use Rattle.sc_cone.specs.Searches.{Reached}
use Rattle.sc_cone.proofs.SameWords.{Same}
use Rattle.sc_cone.proofs.ConeChains.{same_quadrant}
use Rattle.sc_crossing.specs.declared.reached.Reached.{Reached as ReachedParts}
use Rattle.sc_crossing.specs.Neighbours.{reached_of}
use Rattle.sc_ball_refusal.specs.Texts.{Shown, named_direction, reached_lines, search_lines}
use Rattle.sc_ball_refusal.specs.inside.Texts.{reached_text}

-- ---- the pairs of a quadrant's chain are those of each direction's

pub pairs_of_direction : (q : Quadrant) (first second : Chain) (d : Direction) → pairs (chain_of q first second d) ≡ pairs (quadrant_chain q first second)
pairs_of_direction q first second d =
    let c : Chain = chain_of q first second d in
    let e : Chain = quadrant_chain q first second in
    let same : Same c e = same_quadrant first (second_words q second) (unsigned_abs d.s) (unsigned_abs d.t) in
    let p : letter c ≡ letter e = λ k. λ i. same.letter i k in
    let size : positions c ≡ positions e = same.all in
    λ k. flat_map (λ (a : ℕ). map (λ (b : ℕ). (a, b)) (filter (λ (b : ℕ). nat_lt a b && is_inverse (p k a) (p k b)) (range_with_len 0 (size k)))) (range_with_len 0 (size k))

-- ---- a search

reached_pieces : (c : Chain) (rs : List Reached) → text_of (flat_map (reached_lines c) rs) ≡ flat_map (reached_text (pairs c)) rs
reached_pieces c [] = refl
reached_pieces c (r ∷ rs) =
    text_both (reached_lines c r) (flat_map (reached_lines c) rs)
    ∙ ap₂ (λ (s t : List ℕ). s ++ t) (ap (λ (t : List ℕ). ended (named_direction (codes "at") r.direction) ++ t) (list_pieces c r.list)) (reached_pieces c rs)

pub search_pieces : (v : Shown) (xs : List ReachedParts) → v.entries ≡ map reached_of xs →
    text_of (search_lines v) ≡ ended (count_line (codes "search") (length xs)) ++ flat_map (λ x. reached_text (pairs (quadrant_chain v.quadrant v.first v.second)) (reached_of x)) xs
search_pieces v xs e =
    let c : Chain = quadrant_chain v.quadrant v.first v.second in
    ap₂ (λ (n : ℕ) (t : List ℕ). ended (count_line (codes "search") n) ++ t) (ap length e ∙ length-map xs reached_of)
    (reached_pieces c v.entries ∙ ap (flat_map (reached_text (pairs c))) e ∙ flat_map-map (reached_text (pairs c)) reached_of xs)

-- ---- what was appended piece by piece

pub search_printed : (heading : Line) (v : Shown) (xs : List ReachedParts) (ps : List (ℕ × ℕ)) (old s1 s2 new : List ℕ) → v.entries ≡ map reached_of xs →
    ps ≡ pairs (quadrant_chain v.quadrant v.first v.second) → s1 ≡ old ++ ended heading → s2 ≡ s1 ++ ended (count_line (codes "search") (length xs)) →
    new ≡ s2 ++ flat_map (λ x. reached_text ps (reached_of x)) xs → new ≡ old ++ text_of (heading ∷ search_lines v)
search_printed heading v xs ps old s1 s2 new entries is_pairs e1 e2 e3 =
    let count : List ℕ = ended (count_line (codes "search") (length xs)) in
    let rest : List ℕ = flat_map (λ x. reached_text (pairs (quadrant_chain v.quadrant v.first v.second)) (reached_of x)) xs in
    let two : s2 ≡ (old ++ ended heading) ++ count = e2 ∙ ap (λ (s : List ℕ). s ++ count) e1 in
    e3 ∙ ap₂ (λ (s : List ℕ) (qs : List (ℕ × ℕ)). s ++ flat_map (λ x. reached_text qs (reached_of x)) xs) two is_pairs
    ∙ append_assoc (old ++ ended heading) count rest ∙ append_assoc old (ended heading) (count ++ rest)
    ∙ ap (λ (t : List ℕ). old ++ (ended heading ++ t)) (sym (search_pieces v xs entries))

-- a text of two parts, the second of which speaks of a chain
pub both_printed : (body : Chain → List Line) (c d : Chain) (front : List Line) (t0 t1 t2 : List ℕ) → t0 ≡ [] → t1 ≡ t0 ++ text_of front → t2 ≡ t1 ++ text_of (body c) → c ≡ d →
    t2 ≡ text_of (front ++ body d)
both_printed body c d front t0 t1 t2 empty e1 e2 same =
    e2 ∙ ap₂ (λ (s : List ℕ) (x : Chain). s ++ text_of (body x)) (e1 ∙ ap (λ (s : List ℕ). s ++ text_of front) empty) same ∙ sym (text_both front (body d))

-- a text of some lines and three more
pub lines_printed : (front : List Line) (a b c : Line) (t0 t1 t2 t3 t4 : List ℕ) → t0 ≡ [] → t1 ≡ t0 ++ text_of front → t2 ≡ t1 ++ ended a → t3 ≡ t2 ++ ended b → t4 ≡ t3 ++ ended c →
    t4 ≡ text_of (front ++ a ∷ b ∷ c ∷ [])
lines_printed front a b c t0 t1 t2 t3 t4 empty e1 e2 e3 e4 =
    let one : t1 ≡ text_of front = e1 ∙ ap (λ (s : List ℕ). s ++ text_of front) empty in
    let two : t2 ≡ text_of front ++ ended a = e2 ∙ ap (λ (s : List ℕ). s ++ ended a) one in
    let three : t3 ≡ (text_of front ++ ended a) ++ ended b = e3 ∙ ap (λ (s : List ℕ). s ++ ended b) two in
    let four : t4 ≡ ((text_of front ++ ended a) ++ ended b) ++ ended c = e4 ∙ ap (λ (s : List ℕ). s ++ ended c) three in
    four
    ∙ append_assoc (text_of front ++ ended a) (ended b) (ended c)
    ∙ append_assoc (text_of front) (ended a) (ended b ++ ended c)
    ∙ ap (λ (s : List ℕ). text_of front ++ (ended a ++ (ended b ++ s))) (sym (append-nil (ended c)))
    ∙ sym (text_both front (a ∷ b ∷ c ∷ []))
