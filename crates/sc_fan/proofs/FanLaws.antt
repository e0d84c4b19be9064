-- The format of fan texts is lawful: which fans they tell.
use Rattle.std.proofs.Common.{◌≡◌, ℕ, suc, ◌+◌, ◌*◌, ◌-◌, ◌≤◌, true, false, List, [], ◌∷◌, ◌++◌, map, length, get_or, codes, None, pos, ℤ, refl, sym, ap, subst, ◌∙◌, append_assoc, arith}
use Rattle.std.specs.List.{AllByRecursion, flat_map, enumerate_from, zip}
use Rattle.std.proofs.Math.Nat.{mul-le-mul}
use Rattle.std.proofs.lemmas.List.{length-append, length-map, length_push, get_or_at}
use Rattle.std.proofs.lemmas.List.Sums.{sum_by-append}
use Rattle.sc_theory.specs.Words.{Word, inverse_word}
use Rattle.sc_theory.specs.Chains.{Chain, positions}
use Rattle.sc_theory.specs.Prices.{Prices, pairs}
use Rattle.sc_theory.specs.Columns.{pair_at}
use Rattle.sc_theory.proofs.ChainLaws.{positions-cons}
use Rattle.sc_theory.proofs.Cyclic.{length-inverse_word}
use Rattle.sc_chain.specs.declared.limits.TheConstants.{MAX_WORDS, MAX_POSITIONS}
use Rattle.sc_chain.proofs.PairLaws.{pairs_below}
use Rattle.sc_chain.proofs.PairPlaces.{few_pairs}
use Rattle.sc_line.specs.Lines.{Line, count_line, lacks, AllLack}
use Rattle.sc_line.specs.Formats.{Format, told, a_line, Reads}
use Rattle.sc_line.specs.Forms.{Both, and_also, LineKind, IsLawful, literal_due, and_then, lines_after, one_due, many_due, both_due}
use Rattle.sc_line.proofs.NumberLaws.{good_literal, literal_inverse}
use Rattle.sc_line.proofs.FormatLaws.{line_told, short_more}
use Rattle.sc_line.proofs.FormLaws.{AllAfter, AreAll, lines_map, lawful_both, lawful_as, lawful_where, lawful_one, lawful_literal, lawful_all}
use Rattle.sc_text.specs.Words.{word_line}
use Rattle.sc_text.specs.declared.limits.TheConstants.{VERSION_1}
use Rattle.sc_text.specs.PriceLines.{a_scale, a_base, a_pair, scale_line, base_line, pair_line, IsScaleInRange, IsPriceInRange}
use Rattle.sc_text.specs.Parts.{scale_form, bases_form, pairs_form}
use Rattle.sc_text.specs.Surfaces.{ending, IsChainFor}
use Rattle.sc_text.proofs.KindLaws.{scale_kind, base_kind, pair_kind}
use Rattle.sc_text.proofs.FeedLaws.{lacks-numbers_line, lacks-pair_line}
use Rattle.sc_text.proofs.SurfaceLaws.{word_kinds, lawful_chain as lawful_chain_of_text}
use Rattle.sc_certificate.specs.Spelled.{list_lines}
use Rattle.sc_cone.specs.declared.Quadrant.{Quadrant}
use Rattle.sc_cone.specs.declared.Quadrant.TheVariants.{Lower, Upper}
use Rattle.sc_cone.specs.Cones.{inverses, quadrant_chain}
use Rattle.sc_cone.specs.Fans.{Corner as PlaneCorner}
use Rattle.sc_fan.specs.declared.limits.TheConstants.{MIN_CORNERS, MAX_CORNERS}
use Rattle.sc_fan.specs.Corners.{corner_line, a_corner, IsCornerInRange}
use Rattle.sc_fan.specs.Blocks.{blocks_due}
use Rattle.sc_fan.proofs.BlockLaws.{blocks_lines, IsHeaded, lawful_headed, AreBlocks, lawful_blocks}
use Rattle.sc_fan.specs.Fans.{FanSaid, edge_chain, heading, chain_lines, corners_lines, edge_line, edge_lines, edges_lines, fan_lines, chain_due, second_due, corners_due, ListTold, list_told, told_list, list_due, edge_due, edges_due, fan_of, fan_due, IsListFor, IsFanInRange}
use Rattle.sc_fan.proofs.CornerLaws.{corner_kind, lacks-corner_line}

-- ---- lawful formats once more

-- the same lines of the values in range
pub lawful_same : {V : Type 0} (lines lines' : V → List Line) (due : Format V) (InRange : V → Type 0) (most : ℕ) → IsLawful lines due InRange most → ((v : V) → InRange v → lines v ≡ lines' v) → IsLawful lines' due InRange most
lawful_same lines lines' due InRange most law same = record {
  reads = λ v h. subst (λ (ls : List Line). Reads due ls (told v)) (same v h) (law.reads v h);
  lines_are = λ ls v r. law.lines_are ls v r ∙ same v (law.in_range ls v r);
  in_range = law.in_range;
  no_feed = λ v h. subst (AllLack 10) (same v h) (law.no_feed v h);
  short = law.short;
}

lawful_most : {V : Type 0} (lines : V → List Line) (due : Format V) (InRange : V → Type 0) (most more : ℕ) → most ≤ more → IsLawful lines due InRange most → IsLawful lines due InRange more
lawful_most lines due InRange most more le law = record {
  reads = law.reads;
  lines_are = law.lines_are;
  in_range = law.in_range;
  no_feed = law.no_feed;
  short = short_more most more due le law.short;
}

-- a line that is due word by word, and others behind it
module _ {V : Type 0} (text : Line) (lines : V → List Line) (due : Format V) (InRange : V → Type 0) (most : ℕ) (law : IsLawful lines due InRange most) where
  record AreBehind (ls : List Line) (v : V) : Type 0 where
    are : ls ≡ text ∷ lines v
    in_range : InRange v

  behind : (ls : List Line) (v : V) → Reads (and_then (literal_due text false) (λ u. due)) ls (told v) → AreBehind ls v
  behind [] v r = absurd (line_told _ _ v r)
  behind (l ∷ ls) v r = record { are = λ i. literal_inverse text l r.0 i ∷ law.lines_are ls v r.1 i; in_range = law.in_range ls v r.1 }

  lawful_behind : lacks 10 text ≡ true → IsLawful (λ v. text ∷ lines v) (and_then (literal_due text false) (λ u. due)) InRange (suc most)
  lawful_behind lack = record {
    reads = λ v h. (good_literal text, law.reads v h);
    lines_are = λ ls v r. (behind ls v r).are;
    in_range = λ ls v r. (behind ls v r).in_range;
    no_feed = λ v h. (lack, law.no_feed v h);
    short = λ line good. law.short;
  }

count_lacks : (name : List ℕ) → lacks 10 name ≡ true → (n : ℕ) → lacks 10 (count_line name n) ≡ true
count_lacks name h n = lacks-numbers_line name (pos n ∷ []) h

-- ---- chains

-- the lines of a chain under a name are lawful: they tell the chains of so many words and letters at most
pub lawful_chain : (name : List ℕ) (words letters : ℕ) → lacks 32 name ≡ true → lacks 10 name ≡ true → IsLawful (chain_lines name) (chain_due name words letters) (IsChainFor VERSION_1 words letters) (suc words)
lawful_chain name words letters named unended =
    lawful_same (λ c. count_line name (length c) ∷ lines_after (word_kinds VERSION_1 letters) [] c) (chain_lines name) (chain_due name words letters) (IsChainFor VERSION_1 words letters) (suc words)
    (lawful_chain_of_text VERSION_1 name words letters (omega arith) named unended)
    (λ c h. ap (λ (ls : List Line). count_line name (length c) ∷ ls) (lines_map (word_kinds VERSION_1 letters) word_line (λ b w. refl) [] c))

-- ---- the chains of the quadrants

positions-inverses : (c : Chain) → positions (inverses c) ≡ positions c
positions-inverses [] = refl
positions-inverses (w ∷ c) = omega (arith, positions-cons w c, positions-cons (w.0, inverse_word w.1) (inverses c), length-inverse_word w.1, positions-inverses c)

-- the chain of a quadrant has the words of both chains, and so the positions of both
pub length-quadrant : (q : Quadrant) (a b : Chain) → length (quadrant_chain q a b) ≡ length a + length b
length-quadrant Lower a b = length-append a (inverses b) ∙ ap (λ (n : ℕ). length a + n) (length-map b (λ (w : ℕ × Word). (w.0, inverse_word w.1)))
length-quadrant Upper a b = length-append a b

pub positions-quadrant : (q : Quadrant) (a b : Chain) → positions (quadrant_chain q a b) ≡ positions a + positions b
positions-quadrant Lower a b = sum_by-append (λ (w : ℕ × Word). length w.1) a (inverses b) ∙ ap (λ (n : ℕ). positions a + n) (positions-inverses b)
positions-quadrant Upper a b = sum_by-append (λ (w : ℕ × Word). length w.1) a b

-- ---- price lists

-- the line of a scale is lawful
pub lawful_scale : IsLawful scale_form.lines (scale_form.due None) IsScaleInRange 1
lawful_scale = lawful_one a_scale IsScaleInRange scale_kind (λ d. lacks-numbers_line (codes "scale") (d ∷ []) refl)

pair_lines_are : (all front ps : List (ℕ × ℕ)) (before ys : List ℤ) → all ≡ front ++ ps → length before ≡ length front → length ys ≡ length ps
    → lines_after (λ (b : List ℤ). a_pair (get_or all (length b) (0, 0))) before ys ≡ map (λ e. pair_line e.0 e.1) (zip ps ys)
pair_lines_are all front [] before [] e at len = refl
pair_lines_are all front [] before (y ∷ ys) e at len = absurd (omega arith)
pair_lines_are all front (p ∷ ps) before [] e at len = absurd (omega arith)
pair_lines_are all front (p ∷ ps) before (y ∷ ys) e at len =
    let here : get_or all (length before) (0, 0) ≡ p = ap (λ (l : List (ℕ × ℕ)). get_or l (length before) (0, 0)) e ∙ get_or_at front p ps (0, 0) (length before) (sym at) in
    let rest = pair_lines_are all (front ++ p ∷ []) ps (before ++ y ∷ []) ys (e ∙ sym (append_assoc front (p ∷ []) ps)) (omega (arith, length_push before y, length_push front p)) (omega arith) in
    λ i. pair_line (here i) y ∷ rest i

few_pairs_of : (c : Chain) (most : ℕ) → positions c ≤ most → length (pairs c) ≤ most * most
few_pairs_of c most few =
    omega (arith, few_pairs (pairs c) (positions c) (pairs_below c), mul-le-mul {n₁ = positions c} {m₁ = positions c} {n₂ = most} {m₂ = most} few few)

abbrev pub list_most : ℕ
list_most = 1 + (MAX_WORDS + MAX_POSITIONS * MAX_POSITIONS)

module _ (c : Chain) (few_words : length c ≤ MAX_WORDS) (few_letters : positions c ≤ MAX_POSITIONS) where
  lawful_bases : IsLawful (bases_form (length c)).lines ((bases_form (length c)).due []) (AreAll IsPriceInRange (length c)) MAX_WORDS
  lawful_bases = lawful_all (λ (prices : List ℤ). a_base) IsPriceInRange (λ b. base_kind) (λ b z. lacks-numbers_line (codes "base") (z ∷ []) refl) (length c) MAX_WORDS few_words

  lawful_pairs : IsLawful (pairs_form (pairs c)).lines ((pairs_form (pairs c)).due []) (AreAll IsPriceInRange (length (pairs c))) (MAX_POSITIONS * MAX_POSITIONS)
  lawful_pairs =
      lawful_all (λ (prices : List ℤ). a_pair (pair_at c (length prices))) IsPriceInRange (λ b. pair_kind (pair_at c (length b))) (λ b y. lacks-pair_line (pair_at c (length b), y)) (length (pairs c)) (MAX_POSITIONS * MAX_POSITIONS)
      (few_pairs_of c MAX_POSITIONS few_letters)

  abbrev AreListFor : ListTold → Type 0
  AreListFor t = IsScaleInRange t.first × (AreAll IsPriceInRange (length c) t.second.first × AreAll IsPriceInRange (length (pairs c)) t.second.second)

  abbrev parts_lines : ListTold → List Line
  parts_lines t = scale_line t.first ∷ (lines_after (λ (b : List ℤ). a_base) [] t.second.first ++ lines_after (λ (b : List ℤ). a_pair (pair_at c (length b))) [] t.second.second)

  lawful_parts : IsLawful parts_lines (both_due (one_due a_scale None) (λ d. both_due ((bases_form (length c)).due []) (λ b. (pairs_form (pairs c)).due []))) AreListFor list_most
  lawful_parts =
      lawful_both _ _ _ _ (λ d v. (bases_form (length c)).lines v.first ++ (pairs_form (pairs c)).lines v.second) _ _ _ lawful_scale (λ d h.
      lawful_both _ _ _ _ (λ b. (pairs_form (pairs c)).lines) _ _ _ lawful_bases (λ b h. lawful_pairs))

  same_list_lines : (list : Prices) → IsListFor c list → parts_lines (told_list list) ≡ list_lines c list
  same_list_lines list h =
      let bases = lines_map (λ (b : List ℤ). a_base) base_line (λ b z. refl) [] list.base in
      let prices = pair_lines_are (pairs c) [] (pairs c) [] list.pair refl refl h.counts.pair in
      λ i. scale_line list.scale ∷ (bases i ++ prices i)

  -- the lines of a price list for the chain are lawful
  pub lawful_list : IsLawful (list_lines c) (list_due c) (IsListFor c) (list_most + 0)
  lawful_list =
      lawful_same (λ list. parts_lines (told_list list)) (list_lines c) (list_due c) (IsListFor c) (list_most + 0)
      (lawful_as parts_lines _ AreListFor list_most list_told told_list (IsListFor c) lawful_parts (λ t. refl) (λ list. refl)
      (λ t h. record { small = record { scale = h.0; base = h.1.0.all; pair = h.1.1.all }; counts = record { base = h.1.0.count; pair = h.1.1.count } })
      (λ list h. (h.small.scale, (record { count = h.counts.base; all = h.small.base }, record { count = h.counts.pair; all = h.small.pair }))))
      same_list_lines

-- ---- corners

-- what the corners of a fan may be
pub record AreCorners (corners : List PlaneCorner) : Type 0 where
  pub some : MIN_CORNERS ≤ length corners
  pub few : length corners ≤ MAX_CORNERS
  pub all : AllByRecursion IsCornerInRange corners

-- the lines of corners, with their number, are lawful
pub lawful_corners : IsLawful corners_lines corners_due AreCorners (suc MAX_CORNERS)
lawful_corners =
    let kinds : List PlaneCorner → LineKind PlaneCorner = λ before. a_corner in
    lawful_same _ corners_lines corners_due AreCorners (suc MAX_CORNERS)
    (lawful_where _ corners_due (IsHeaded (codes "corners") MIN_CORNERS MAX_CORNERS length (λ n. lines_after kinds []) (λ n. many_due kinds n []) (AreAll IsCornerInRange) MAX_CORNERS) AreCorners (suc MAX_CORNERS)
    (lawful_headed (codes "corners") MIN_CORNERS MAX_CORNERS length (λ n. lines_after kinds []) (λ n. many_due kinds n []) (AreAll IsCornerInRange) MAX_CORNERS refl (count_lacks (codes "corners") refl)
    (λ n h. lawful_all kinds IsCornerInRange (λ b. corner_kind) (λ b. lacks-corner_line) n MAX_CORNERS h.high_end) (λ n v h. h.count))
    (λ corners h. record { some = h.counted.low_end; few = h.counted.high_end; all = h.in_range.all })
    (λ corners h. record { counted = record { low_end = h.some; high_end = h.few }; in_range = record { count = refl; all = h.all } }))
    (λ corners h. ap (λ (ls : List Line). count_line (codes "corners") (length corners) ∷ ls) (lines_map kinds corner_line (λ b c. refl) [] corners))

-- ---- edges

abbrev pub edge_most : ℕ
edge_most = suc (list_most + 0)

-- what the lists of the edges may be
pub record AreEdges (a b : Chain) (corners : List PlaneCorner) (lists : List Prices) : Type 0 where
  pub one_fewer : length lists ≡ length corners - 1
  pub all : AllByRecursion (λ e. IsListFor (edge_chain a b corners e.0) e.1) (enumerate_from 0 lists)

module _ (a b : Chain) (few_words : length a + length b ≤ MAX_WORDS) (few_letters : positions a + positions b ≤ MAX_POSITIONS) (corners : List PlaneCorner) where
  lawful_edge : (i : ℕ) → IsLawful (edge_lines a b corners i) (edge_due a b corners i) (IsListFor (edge_chain a b corners i)) edge_most
  lawful_edge i =
      let c = edge_chain a b corners i in
      let words : length c ≤ MAX_WORDS = subst (λ (n : ℕ). n ≤ MAX_WORDS) (sym (length-quadrant _ a b)) few_words in
      let letters : positions c ≤ MAX_POSITIONS = subst (λ (n : ℕ). n ≤ MAX_POSITIONS) (sym (positions-quadrant _ a b)) few_letters in
      lawful_behind (edge_line i) (list_lines c) (list_due c) (IsListFor c) (list_most + 0) (lawful_list c words letters) (count_lacks (codes "edge") refl i)

  abbrev lines_of : List Prices → Prices → List Line
  lines_of before = edge_lines a b corners (length before)

  abbrev due_of : List Prices → Format Prices
  due_of before = edge_due a b corners (length before)

  abbrev range_of : List Prices → Prices → Type 0
  range_of before = IsListFor (edge_chain a b corners (length before))

  blocks_are_edges : (n : ℕ) (before lists : List Prices) → length before ≡ n → blocks_lines lines_of before lists ≡ flat_map (λ e. edge_lines a b corners e.0 e.1) (enumerate_from n lists)
  blocks_are_edges n before [] at = refl
  blocks_are_edges n before (list ∷ lists) at =
      let rest = blocks_are_edges (n + 1) (before ++ list ∷ []) lists (omega (arith, length_push before list)) in
      λ i. edge_lines a b corners (at i) list ++ rest i

  after_from : (n : ℕ) (before lists : List Prices) → length before ≡ n → AllByRecursion (λ e. IsListFor (edge_chain a b corners e.0) e.1) (enumerate_from n lists) → AllAfter range_of before lists
  after_from n before [] at h = tt
  after_from n before (list ∷ lists) at h =
      (subst (λ (i : ℕ). IsListFor (edge_chain a b corners i) list) (sym at) h.0, after_from (n + 1) (before ++ list ∷ []) lists (omega (arith, length_push before list)) h.1)

  from_after : (n : ℕ) (before lists : List Prices) → length before ≡ n → AllAfter range_of before lists → AllByRecursion (λ e. IsListFor (edge_chain a b corners e.0) e.1) (enumerate_from n lists)
  from_after n before [] at h = tt
  from_after n before (list ∷ lists) at h =
      (subst (λ (i : ℕ). IsListFor (edge_chain a b corners i) list) at h.0, from_after (n + 1) (before ++ list ∷ []) lists (omega (arith, length_push before list)) h.1)

  abbrev how_many : ℕ
  how_many = length corners - 1

  -- the lines of the edges of these corners are lawful
  pub lawful_edges : length corners ≤ MAX_CORNERS → IsLawful (edges_lines a b corners) (edges_due a b corners) (AreEdges a b corners) (suc (MAX_CORNERS * edge_most))
  lawful_edges few =
      let law : (before : List Prices) → IsLawful (lines_of before) (due_of before) (range_of before) edge_most = λ before. lawful_edge (length before) in
      lawful_same _ (edges_lines a b corners) (edges_due a b corners) (AreEdges a b corners) (suc (MAX_CORNERS * edge_most))
      (lawful_where _ (edges_due a b corners) (IsHeaded (codes "edges") how_many how_many length (λ n. blocks_lines lines_of []) (λ n. blocks_due due_of n []) (AreBlocks lines_of due_of range_of edge_most law) (MAX_CORNERS * edge_most)) (AreEdges a b corners) (suc (MAX_CORNERS * edge_most))
      (lawful_headed (codes "edges") how_many how_many length (λ n. blocks_lines lines_of []) (λ n. blocks_due due_of n []) (AreBlocks lines_of due_of range_of edge_most law) (MAX_CORNERS * edge_most) refl (count_lacks (codes "edges") refl)
      (λ n h. lawful_blocks lines_of due_of range_of edge_most law n (MAX_CORNERS * edge_most) (mul-le-mul {n₁ = n} {m₁ = edge_most} {n₂ = MAX_CORNERS} {m₂ = edge_most} (omega (arith, h.high_end, few)) (omega arith))) (λ n v h. h.count))
      (λ lists h. let low = h.counted.low_end in let high = h.counted.high_end in record { one_fewer = omega arith; all = from_after 0 [] lists refl h.in_range.in_range })
      (λ lists h. let same = h.one_fewer in record { counted = record { low_end = omega arith; high_end = omega arith }; in_range = record { count = refl; in_range = after_from 0 [] lists refl h.all } }))
      (λ lists h. ap (λ (ls : List Line). count_line (codes "edges") (length lists) ∷ ls) (blocks_are_edges 0 [] lists refl))

-- ---- the whole text

-- what the parts of a text tell together, part by part
abbrev Told : Type 0
Told = Both (Unit {0}) (Both Chain (Both Chain (Both (List PlaneCorner) (Both (List Prices) (Unit {0})))))

abbrev fan_told : Told → FanSaid
fan_told t = fan_of t.second.first t.second.second.first t.second.second.second.first t.second.second.second.second.first

abbrev told_fan : FanSaid → Told
told_fan v = and_also tt (and_also v.first (and_also v.second (and_also v.corners (and_also v.lists tt))))

abbrev from_edges : Chain → Chain → List PlaneCorner → Format (Both (List Prices) (Unit {0}))
from_edges a b corners = both_due (edges_due a b corners) (λ lists. literal_due ending false)

abbrev from_corners : Chain → Chain → Format (Both (List PlaneCorner) (Both (List Prices) (Unit {0})))
from_corners a b = both_due corners_due (from_edges a b)

abbrev from_second : Chain → Format (Both Chain (Both (List PlaneCorner) (Both (List Prices) (Unit {0}))))
from_second a = both_due (second_due a) (from_corners a)

abbrev from_first : Format (Both Chain (Both Chain (Both (List PlaneCorner) (Both (List Prices) (Unit {0})))))
from_first = both_due (chain_due (codes "first") MAX_WORDS MAX_POSITIONS) from_second

abbrev all_due : Format Told
all_due = both_due (literal_due heading false) (λ u. from_first)

abbrev IsSecond : Chain → Chain → Type 0
IsSecond a b = IsChainFor VERSION_1 (MAX_WORDS - length a) (MAX_POSITIONS - positions a) b

lawful_second : (a : Chain) → IsLawful (chain_lines (codes "second")) (second_due a) (IsSecond a) (suc MAX_WORDS)
lawful_second a =
    lawful_most (chain_lines (codes "second")) (second_due a) (IsSecond a) (suc (MAX_WORDS - length a)) (suc MAX_WORDS) (omega arith)
    (lawful_chain (codes "second") (MAX_WORDS - length a) (MAX_POSITIONS - positions a) refl refl)

abbrev IsToldFor : Told → Type 0
IsToldFor v =
    Unit {0} × (IsChainFor VERSION_1 MAX_WORDS MAX_POSITIONS v.second.first × (IsSecond v.second.first v.second.second.first
    × (AreCorners v.second.second.second.first × (AreEdges v.second.first v.second.second.first v.second.second.second.first v.second.second.second.second.first × Unit {0}))))

abbrev after_corners : Chain → Chain → List PlaneCorner → Both (List Prices) (Unit {0}) → List Line
after_corners a b corners v = edges_lines a b corners v.first ++ ending ∷ []

abbrev after_second : Chain → Chain → Both (List PlaneCorner) (Both (List Prices) (Unit {0})) → List Line
after_second a b v = corners_lines v.first ++ after_corners a b v.first v.second

abbrev after_first : Chain → Both Chain (Both (List PlaneCorner) (Both (List Prices) (Unit {0}))) → List Line
after_first a v = chain_lines (codes "second") v.first ++ after_second a v.first v.second

abbrev after_heading : Both Chain (Both Chain (Both (List PlaneCorner) (Both (List Prices) (Unit {0})))) → List Line
after_heading v = chain_lines (codes "first") v.first ++ after_first v.first v.second

abbrev pub told_most : ℕ
told_most = 1 + (suc MAX_WORDS + (suc MAX_WORDS + (suc MAX_CORNERS + (suc (MAX_CORNERS * edge_most) + 1))))

lawful_told : IsLawful (λ v. (heading ∷ []) ++ after_heading v.second) all_due IsToldFor told_most
lawful_told =
    lawful_both _ _ _ _ (λ u. after_heading) _ _ _ (lawful_literal heading refl) (λ u h.
    lawful_both _ _ _ _ after_first _ _ _ (lawful_chain (codes "first") MAX_WORDS MAX_POSITIONS refl refl) (λ a in_a.
    lawful_both _ _ _ _ (after_second a) _ _ _ (lawful_second a) (λ b in_b.
    lawful_both _ _ _ _ (after_corners a b) _ _ _ lawful_corners (λ corners in_corners.
    lawful_both _ _ _ _ (λ lists u. ending ∷ []) _ _ _
    (lawful_edges a b (let m = in_a.count in let n = in_b.count in omega arith) (let m = in_a.letters in let n = in_b.letters in omega arith) corners in_corners.few) (λ lists h. lawful_literal ending refl)))))

fan_in_range : (v : Told) → IsToldFor v → IsFanInRange (fan_told v)
fan_in_range v h =
    let words = h.1.0.count in
    let more_words = h.1.1.0.count in
    let letters = h.1.0.letters in
    let more_letters = h.1.1.0.letters in
    record {
      first = h.1.0.words;
      second = h.1.1.0.words;
      few_words = omega arith;
      few_letters = omega arith;
      some_corners = h.1.1.1.0.some;
      few_corners = h.1.1.1.0.few;
      corners = h.1.1.1.0.all;
      one_fewer = h.1.1.1.1.0.one_fewer;
      lists = h.1.1.1.1.0.all;
    }

in_range_told : (v : FanSaid) → IsFanInRange v → IsToldFor (told_fan v)
in_range_told v h =
    let words = h.few_words in
    let letters = h.few_letters in (
      tt,
      (
        record { count = omega arith; words = h.first; letters = omega arith },
        (
          record { count = omega arith; words = h.second; letters = omega arith },
          (
            record { some = h.some_corners; few = h.few_corners; all = h.corners },
            (record { one_fewer = h.one_fewer; all = h.lists }, tt),
          ),
        ),
      ),
    )

abbrev pub all_lines : ℕ
all_lines = told_most + 0

-- one format after another is due as it is read
pub then_assoc : {A B V : Type 0} (f : Format A) (g : A → Format B) (h : B → Format V) → and_then (and_then f g) h ≡ and_then f (λ x. and_then (g x) h)
then_assoc (told x) g h = refl
then_assoc (a_line fault next) g h = λ i. a_line fault (λ line. then_assoc (next line) g h i)

-- what follows two formats that are read as one follows the second, which follows the first
pub both_flat : {A B V : Type 0} (f : Format A) (r : A → Format B) (h : Both A B → Format V) → and_then (both_due f r) h ≡ and_then f (λ x. and_then (r x) (λ y. h (and_also x y)))
both_flat f r h = then_assoc f (λ x. and_then (r x) (λ y. told (and_also x y))) h ∙ (λ i. and_then f (λ x. then_assoc (r x) (λ y. told (and_also x y)) h i))

flat_edges : (a b : Chain) (corners : List PlaneCorner)
    → and_then (from_edges a b corners) (λ y. told (fan_of a b corners y.first)) ≡ and_then (edges_due a b corners) (λ lists. and_then (literal_due ending false) (λ v. told (fan_of a b corners lists)))
flat_edges a b corners = both_flat (edges_due a b corners) (λ lists. literal_due ending false) (λ y. told (fan_of a b corners y.first))

flat_corners : (a b : Chain)
    → and_then (from_corners a b) (λ y. told (fan_of a b y.first y.second.first)) ≡ and_then corners_due (λ corners. and_then (edges_due a b corners) (λ lists. and_then (literal_due ending false) (λ v. told (fan_of a b corners lists))))
flat_corners a b = both_flat corners_due (from_edges a b) (λ y. told (fan_of a b y.first y.second.first)) ∙ (λ i. and_then corners_due (λ corners. flat_edges a b corners i))

flat_second : (a : Chain)
    → and_then (from_second a) (λ y. told (fan_of a y.first y.second.first y.second.second.first))
    ≡ and_then (second_due a) (λ b. and_then corners_due (λ corners. and_then (edges_due a b corners) (λ lists. and_then (literal_due ending false) (λ v. told (fan_of a b corners lists)))))
flat_second a = both_flat (second_due a) (from_corners a) (λ y. told (fan_of a y.first y.second.first y.second.second.first)) ∙ (λ i. and_then (second_due a) (λ b. flat_corners a b i))

flat_first : and_then from_first (λ y. told (fan_told (and_also tt y)))
    ≡ and_then (chain_due (codes "first") MAX_WORDS MAX_POSITIONS) (λ a. and_then (second_due a) (λ b. and_then corners_due (λ corners. and_then (edges_due a b corners) (λ lists. and_then (literal_due ending false) (λ v. told (fan_of a b corners lists))))))
flat_first =
    both_flat (chain_due (codes "first") MAX_WORDS MAX_POSITIONS) from_second (λ y. told (fan_told (and_also tt y)))
    ∙ (λ i. and_then (chain_due (codes "first") MAX_WORDS MAX_POSITIONS) (λ a. flat_second a i))

due_is : and_then all_due (λ t. told (fan_told t)) ≡ fan_due
due_is = both_flat (literal_due heading false) (λ u. from_first) (λ t. told (fan_told t)) ∙ (λ i. and_then (literal_due heading false) (λ u. flat_first i))

-- the lines of a fan are lawful: they tell the fans in range
pub lawful_fan : IsLawful fan_lines fan_due IsFanInRange all_lines
lawful_fan = subst (λ (d : Format FanSaid). IsLawful fan_lines d IsFanInRange all_lines) due_is (lawful_as _ _ IsToldFor told_most fan_told told_fan IsFanInRange lawful_told (λ v. refl) (λ w. refl) fan_in_range in_range_told)
