-- What the parts of a fan text take.
use Rattle.std.proofs.Common.{◌≡◌, ℕ, suc, ◌+◌, ◌-◌, ◌<◌, ◌≤◌, ◌++◌, true, false, List, [], ◌∷◌, map, length, get_or, codes, None, Some, Ok, Err, ℤ, pos, ◌≤ℤ◌, refl, sym, ap, subst, ◌∙◌, arith, inl, inr}
use Rattle.std.specs.List.{AllByRecursion}
use Rattle.std.specs.Str.{bytes_eq}
use Rattle.std.proofs.lemmas.Bool.{cases_Bool, cases_lt}
use Rattle.std.proofs.lemmas.Int.{ints}
use Rattle.std.proofs.lemmas.Option.{none-some}
use Rattle.std.proofs.lemmas.Slice.Eq.{bytes_eq-Decides}
use Rattle.std.proofs.lemmas.List.{length_push, length-map, map-append, get_or_append_left, get_or_at}
use Rattle.sc_theory.specs.Chains.{Chain, positions}
use Rattle.sc_theory.specs.Prices.{Prices, pairs}
use Rattle.sc_chain.specs.declared.limits.TheConstants.{MAX_WORDS, MAX_POSITIONS}
use Rattle.sc_cone.specs.declared.Quadrant.{Quadrant}
use Rattle.sc_cone.specs.declared.Quadrant.TheVariants.{Lower, Upper}
use Rattle.sc_cone.specs.Cones.{quadrant_chain}
use Rattle.sc_cone.specs.Fans.{Corner as PlaneCorner, Edge as PlaneEdge, no_corner, no_edge}
use Rattle.sc_line.specs.declared.fault.TextFault.{TextFault}
use Rattle.sc_line.specs.declared.fault.Kind.{Kind}
use Rattle.sc_line.specs.declared.fault.Kind.TheVariants.{Form}
use Rattle.sc_line.specs.declared.fault.LineFault.TheVariants as line_faults
use Rattle.sc_line.specs.Lines.{Line, lacks, numbers_line, count_line}
use Rattle.sc_line.specs.Faults.{between, literal_fault, numbers_line_fault}
use Rattle.sc_line.proofs.NumberLaws.{count_is_kind, IsCountInRange}
use Rattle.sc_line.specs.Formats.{Format, told}
use Rattle.sc_line.specs.Forms.{LineKind, one_due, many_due, count_kind, literal_due, and_then, both_due, and_also}
use Rattle.sc_line.proofs.FormLaws.{lawful_all, lawful_one, AreAll}
use Rattle.sc_line.proofs.PartLaws.{all_is}
use Rattle.sc_text.specs.declared.limits.TheConstants.{VERSION_1}
use Rattle.sc_text.specs.PriceLines.{a_scale, a_base, a_pair, IsScaleInRange, IsPriceInRange}
use Rattle.sc_text.specs.Parts.{bases_form, pairs_form}
use Rattle.sc_text.specs.Surfaces.{ending, IsChainFor, IsChainInRange}
use Rattle.sc_text.proofs.KindLaws.{base_kind, pair_kind}
use Rattle.sc_text.proofs.FeedLaws.{lacks-numbers_line, lacks-pair_line}
use Rattle.sc_text.proofs.SurfaceLaws.{word_kinds}
use Rattle.sc_certificate.specs.Sizes.{IsSmallList, list_of}
use Rattle.sc_fan.specs.declared.corner.Corner.{Corner}
use Rattle.sc_fan.specs.declared.fan.Edge.{Edge}
use Rattle.sc_fan.specs.declared.limits.TheConstants.{MIN_CORNERS, MAX_CORNERS}
use Rattle.sc_fan.specs.Corners.{corner_said, a_corner}
use Rattle.sc_fan.specs.Blocks.{headed_due, blocks_due}
use Rattle.sc_fan.specs.Fans.{FanSaid, heading, fan_of, fan_due, chain_lines, corners_lines, chain_due, second_due, corners_due, edges_due, edge_due, edge_line, quadrant_at, list_told, prices_due}
use Rattle.sc_fan.specs.FanRead.{edge_said, AreJoinedTo}
use Rattle.sc_fan.specs.inside.EdgesRead.{numbered_due, edge_behind, edges_by}
use Rattle.sc_fan.specs.Printing.{Pairs}
use Rattle.sc_fan.specs.inside.Printing.{edge_pairs}
use Rattle.sc_fan.specs.Reading.{LinesLeft, IsNext, Answer, taken, Fails}
use Rattle.sc_fan.proofs.FanLaws.{AreCorners, length-quadrant, lawful_chain, lawful_scale, lawful_corners, both_flat}
use Rattle.sc_fan.proofs.Pieces.{pairs_of_quadrant}
use Rattle.sc_fan.proofs.Ranges.{quadrant_words_in_range}
use Rattle.sc_fan.proofs.ReadingLaws.{onward, fails_then, goes_on, fails_on, told_taken, literal_taken, literal_fails, many_more, in_range_of}

-- ---- so many lines, one after another

module _ {A : Type 0} (kind : List A → LineKind A) (n : ℕ) (s : LinesLeft) where
  -- i of the lines were taken
  pub record AreItems (xs : List A) (t : LinesLeft) (i : ℕ) : Type 0 where
    pub same : taken (many_due kind n []) s ≡ taken (many_due kind n xs) t
    pub count : length xs ≡ i

  pub no_items : AreItems [] s 0
  no_items = record { same = refl; count = refl }

  next_item : (xs : List A) (t : LinesLeft) (i : ℕ) → AreItems xs t i → i < n → taken (many_due kind n []) s ≡ taken (and_then (one_due (kind xs) None) (λ x. many_due kind n (xs ++ x ∷ []))) t
  next_item xs t i h more =
      let count = h.count in
      h.same ∙ ap (λ (f : Format (List A)). taken f t) (many_more kind n xs (omega arith))

  -- one more line is taken, behind the values of those before
  pub more_items : (xs : List A) (t u : LinesLeft) (i : ℕ) (x : A) → AreItems xs t i → i < n → taken (one_due (kind xs) None) t ≡ Ok (x, u) → AreItems (xs ++ x ∷ []) u (i + 1)
  more_items xs t u i x h more e =
      let count = h.count in
      record {
        same = goes_on (taken (many_due kind n []) s) (one_due (kind xs) None) (λ y. many_due kind n (xs ++ y ∷ [])) t (next_item xs t i h more) u x e;
        count = omega (arith, length_push xs x);
      }

  pub pushed_items : (xs ys : List A) (t u : LinesLeft) (i : ℕ) (x : A) → AreItems xs t i → i < n → ys ≡ xs ++ x ∷ [] → taken (one_due (kind xs) None) t ≡ Ok (x, u) → AreItems ys u (i + 1)
  pushed_items xs ys t u i x h more new e = subst (λ (zs : List A). AreItems zs u (i + 1)) (sym new) (more_items xs t u i x h more e)

  -- where the next line fails, all of them fail
  pub item_fails : (xs : List A) (t : LinesLeft) (i : ℕ) (e : TextFault) → AreItems xs t i → i < n → Fails e (taken (one_due (kind xs) None) t) → Fails e (taken (many_due kind n []) s)
  item_fails xs t i e h more bad =
      fails_on (taken (many_due kind n []) s) (one_due (kind xs) None) (λ y. many_due kind n (xs ++ y ∷ [])) t (next_item xs t i h more) e bad

  -- after n lines all of them are taken
  pub all_items : (xs : List A) (t : LinesLeft) (i : ℕ) → AreItems xs t i → n ≤ i → taken (many_due kind n []) s ≡ Ok (xs, t)
  all_items xs t i h all =
      let count = h.count in
      h.same ∙ ap (λ (f : Format (List A)). taken f t) (all_is kind n xs (omega arith)) ∙ told_taken xs t

-- the line of an edge's number
edge_line_is : (n : ℕ) (z : ℤ) (line : Line) → line ≡ numbers_line (codes "edge") (z ∷ []) → pos n ≤ℤ z → z ≤ℤ pos n → line ≡ edge_line n
edge_line_is n z line e low high =
    let same : z ≡ pos n = omega (arith, ints, low, high) in
    e ∙ ap (λ (y : ℤ). numbers_line (codes "edge") (y ∷ [])) same

-- the line of an edge is taken where its number is the one that is due
pub edge_taken : (s t : LinesLeft) (k n : ℕ) (z : ℤ) (line : Line) → IsNext s t k line → line ≡ numbers_line (codes "edge") (z ∷ []) → pos n ≤ℤ z → z ≤ℤ pos n → taken (literal_due (edge_line n) false) s ≡ Ok (tt, t)
edge_taken s t k n z line h e low high = literal_taken (edge_line n) s t k line h (edge_line_is n z line e low high)

other_line : (n : ℕ) (k : Kind) (line : Line) → numbers_line_fault (codes "edge") (between n n ∷ []) line ≡ Some k → literal_fault (edge_line n) line ≡ Some Form
other_line n k line bad =
    elim (cases_Bool (bytes_eq line (edge_line n))) [
      | inl same ↦
          let is : line ≡ edge_line n = (bytes_eq-Decides line (edge_line n)).0 same in
          let good = (count_is_kind (codes "edge") n n refl).good n (record { low_end = omega arith; high_end = omega arith }) in
          absurd (none-some k (sym good ∙ ap (numbers_line_fault (codes "edge") (between n n ∷ [])) (sym is) ∙ bad))
      | inr other ↦ rw other refl
    ]

-- any other line in its place has the fault `Form`
pub edge_fails : (s t : LinesLeft) (m n : ℕ) (k : Kind) (line : Line) → IsNext s t m line → numbers_line_fault (codes "edge") (between n n ∷ []) line ≡ Some k → taken (literal_due (edge_line n) false) s ≡ Err (m, Form)
edge_fails s t m n k line h bad = literal_fails (edge_line n) s t m line (line_faults.Malformed Form) h (other_line n k line bad)

-- ---- blocks, one after another

module _ {A : Type 0} (block : List A → Format A) (n : ℕ) (s : LinesLeft) where
  -- i of the blocks were taken
  pub record AreBlocksTo (xs : List A) (t : LinesLeft) (i : ℕ) : Type 0 where
    pub same : taken (blocks_due block n []) s ≡ taken (blocks_due block (n - i) xs) t
    pub count : length xs ≡ i

  pub no_blocks : AreBlocksTo [] s 0
  no_blocks = let all : n ≡ n - 0 = omega arith in record { same = ap (λ (k : ℕ). taken (blocks_due block k []) s) all; count = refl }

  next_block : (xs : List A) (t : LinesLeft) (i : ℕ) → AreBlocksTo xs t i → i < n → taken (blocks_due block n []) s ≡ taken (and_then (block xs) (λ x. blocks_due block (n - (i + 1)) (xs ++ x ∷ []))) t
  next_block xs t i h more =
      let one : n - i ≡ suc (n - (i + 1)) = omega arith in
      h.same ∙ ap (λ (k : ℕ). taken (blocks_due block k xs) t) one

  -- one more block is taken, behind the values of those before
  pub more_blocks : (xs : List A) (t u : LinesLeft) (i : ℕ) (x : A) → AreBlocksTo xs t i → i < n → taken (block xs) t ≡ Ok (x, u) → AreBlocksTo (xs ++ x ∷ []) u (i + 1)
  more_blocks xs t u i x h more e =
      let count = h.count in
      record {
        same = goes_on (taken (blocks_due block n []) s) (block xs) (λ y. blocks_due block (n - (i + 1)) (xs ++ y ∷ [])) t (next_block xs t i h more) u x e;
        count = omega (arith, length_push xs x);
      }

  -- where the next block fails, all of them fail
  pub block_fails : (xs : List A) (t : LinesLeft) (i : ℕ) (e : TextFault) → AreBlocksTo xs t i → i < n → Fails e (taken (block xs) t) → Fails e (taken (blocks_due block n []) s)
  block_fails xs t i e h more bad =
      fails_on (taken (blocks_due block n []) s) (block xs) (λ y. blocks_due block (n - (i + 1)) (xs ++ y ∷ [])) t (next_block xs t i h more) e bad

  -- after n blocks all of them are taken
  pub all_blocks : (xs : List A) (t : LinesLeft) (i : ℕ) → AreBlocksTo xs t i → n ≤ i → taken (blocks_due block n []) s ≡ Ok (xs, t)
  all_blocks xs t i h all =
      let none : n - i ≡ 0 = omega arith in
      h.same ∙ ap (λ (k : ℕ). taken (blocks_due block k xs) t) none ∙ told_taken xs t

-- ---- chains

abbrev pub words_due : ℕ → ℕ → Format Chain
words_due letters n = many_due (word_kinds VERSION_1 letters) n []

module _ (name : List ℕ) (words letters : ℕ) (s : LinesLeft) where
  -- a chain fails where its count or its words fail, and else is taken with its words
  pub count_fails : (e : TextFault) → Fails e (taken (one_due (count_kind name 0 words) None) s) → Fails e (taken (chain_due name words letters) s)
  count_fails e h = fails_then (one_due (count_kind name 0 words) None) (words_due letters) s e h

  module _ (n : ℕ) (t : LinesLeft) (counted : taken (one_due (count_kind name 0 words) None) s ≡ Ok (n, t)) where
    pub words_fail : (e : TextFault) → Fails e (taken (words_due letters n) t) → Fails e (taken (chain_due name words letters) s)
    words_fail e h = subst (Fails e) (sym (onward (one_due (count_kind name 0 words) None) (words_due letters) s t n counted)) h

    pub chain_taken : (c : Chain) (u : LinesLeft) → taken (words_due letters n) t ≡ Ok (c, u) → taken (chain_due name words letters) s ≡ Ok (c, u)
    chain_taken c u h = onward (one_due (count_kind name 0 words) None) (words_due letters) s t n counted ∙ h

  -- a chain that was taken is within its limits
  pub chain_for : (c : Chain) (u : LinesLeft) → lacks 32 name ≡ true → lacks 10 name ≡ true → taken (chain_due name words letters) s ≡ Ok (c, u) → IsChainFor VERSION_1 words letters c
  chain_for c u named unended h = in_range_of (chain_lines name) (chain_due name words letters) (IsChainFor VERSION_1 words letters) (suc words) (lawful_chain name words letters named unended) s u c h

-- a chain within limits that are no greater than those of all chains is in its range
pub small_chain : (words letters : ℕ) (c : Chain) → words ≤ MAX_WORDS → letters ≤ MAX_POSITIONS → IsChainFor VERSION_1 words letters c → IsChainInRange c
small_chain words letters c few_words few_letters h =
    let count = h.count in
    let size = h.letters in
    record { count = omega arith; words = h.words; letters = omega arith }

-- the chains of the quadrants of two chains
pub quadrants_in_range : (a b : Chain) (q : Quadrant) → IsChainInRange a → IsChainFor VERSION_1 (MAX_WORDS - length a) (MAX_POSITIONS - positions a) b → IsChainInRange (quadrant_chain q a b)
quadrants_in_range a b q h k =
    let words = h.count in
    let more_words = k.count in
    let letters = h.letters in
    let more_letters = k.letters in
    quadrant_words_in_range a b q h.words k.words (omega arith) (omega arith)

-- ---- price lists

abbrev pub pairs_due : Pairs → Format (List ℤ)
pairs_due ps = many_due (λ (b : List ℤ). a_pair (get_or ps (length b) (0, 0))) (length ps) []

abbrev pub pair_prices_due : ℤ → List ℤ → Pairs → Format Prices
pair_prices_due d base ps = and_then (pairs_due ps) (λ pair. told (list_of d base pair))

abbrev pub base_prices_due : ℕ → Pairs → ℤ → Format Prices
base_prices_due words ps d = and_then (many_due (λ (b : List ℤ). a_base) words []) (λ base. pair_prices_due d base ps)

-- a price list is its scale, and behind that its base prices and the prices of its pairs
pub prices_flat : (words : ℕ) (ps : Pairs) → prices_due words ps ≡ and_then (one_due a_scale None) (base_prices_due words ps)
prices_flat words ps =
    both_flat (one_due a_scale None) (λ d. both_due ((bases_form words).due []) (λ base. (pairs_form ps).due [])) (λ t. told (list_told t))
    ∙ (λ i. and_then (one_due a_scale None) (λ d. both_flat ((bases_form words).due []) (λ base. (pairs_form ps).due []) (λ y. told (list_told (and_also d y))) i))

module _ (words : ℕ) (ps : Pairs) (s : LinesLeft) where
  abbrev whole_list : Answer (Prices × LinesLeft)
  whole_list = taken (prices_due words ps) s

  list_starts : whole_list ≡ taken (and_then (one_due a_scale None) (base_prices_due words ps)) s
  list_starts = ap (λ (f : Format Prices). taken f s) (prices_flat words ps)

  -- a price list fails where one of its three parts fails, and else is taken with them
  pub scale_stops : (e : TextFault) → Fails e (taken (one_due a_scale None) s) → Fails e whole_list
  scale_stops e h = fails_on whole_list (one_due a_scale None) (base_prices_due words ps) s list_starts e h

  module _ (d : ℤ) (t : LinesLeft) (scale : taken (one_due a_scale None) s ≡ Ok (d, t)) where
    scale_goes_on : whole_list ≡ taken (base_prices_due words ps d) t
    scale_goes_on = goes_on whole_list (one_due a_scale None) (base_prices_due words ps) s list_starts t d scale

    pub bases_stop : (e : TextFault) → Fails e (taken (many_due (λ (b : List ℤ). a_base) words []) t) → Fails e whole_list
    bases_stop e h = fails_on whole_list (many_due (λ (b : List ℤ). a_base) words []) (λ base. pair_prices_due d base ps) t scale_goes_on e h

    module _ (base : List ℤ) (u : LinesLeft) (bases : taken (many_due (λ (b : List ℤ). a_base) words []) t ≡ Ok (base, u)) where
      bases_go_on : whole_list ≡ taken (pair_prices_due d base ps) u
      bases_go_on = goes_on whole_list (many_due (λ (b : List ℤ). a_base) words []) (λ base. pair_prices_due d base ps) t scale_goes_on u base bases

      pub pairs_stop : (e : TextFault) → Fails e (taken (pairs_due ps) u) → Fails e whole_list
      pairs_stop e h = fails_on whole_list (pairs_due ps) (λ pair. told (list_of d base pair)) u bases_go_on e h

      pub list_taken : (pair : List ℤ) (v : LinesLeft) → taken (pairs_due ps) u ≡ Ok (pair, v) → whole_list ≡ Ok (list_of d base pair, v)
      list_taken pair v h = goes_on whole_list (pairs_due ps) (λ pair. told (list_of d base pair)) u bases_go_on v pair h ∙ told_taken (list_of d base pair) v

-- what was taken of a price list, and so the whole list, is in its range
pub scale_in_range : (s t : LinesLeft) (d : ℤ) → taken (one_due a_scale None) s ≡ Ok (d, t) → IsScaleInRange d
scale_in_range s t d h = in_range_of _ (one_due a_scale None) IsScaleInRange 1 lawful_scale s t d h

pub bases_in_range : (n : ℕ) (s t : LinesLeft) (zs : List ℤ) → taken (many_due (λ (b : List ℤ). a_base) n []) s ≡ Ok (zs, t) → AllByRecursion IsPriceInRange zs
bases_in_range n s t zs h =
    (in_range_of _ (many_due (λ (b : List ℤ). a_base) n []) (AreAll IsPriceInRange n) n
    (lawful_all (λ (b : List ℤ). a_base) IsPriceInRange (λ b. base_kind) (λ b z. lacks-numbers_line (codes "base") (z ∷ []) refl) n n (omega arith)) s t zs h).all

pub pairs_in_range : (ps : Pairs) (s t : LinesLeft) (ys : List ℤ) → taken (pairs_due ps) s ≡ Ok (ys, t) → AllByRecursion IsPriceInRange ys
pairs_in_range ps s t ys h =
    (in_range_of _ (pairs_due ps) (AreAll IsPriceInRange (length ps)) (length ps)
    (lawful_all (λ (b : List ℤ). a_pair (get_or ps (length b) (0, 0))) IsPriceInRange (λ b. pair_kind (get_or ps (length b) (0, 0))) (λ b y. lacks-pair_line (get_or ps (length b) (0, 0), y)) (length ps) (length ps) (omega arith)) s t ys h).all

pub list_in_range : (words : ℕ) (ps : Pairs) (s t u v : LinesLeft) (d : ℤ) (base pair : List ℤ) → taken (one_due a_scale None) s ≡ Ok (d, t) → taken (many_due (λ (b : List ℤ). a_base) words []) t ≡ Ok (base, u) → taken (pairs_due ps) u ≡ Ok (pair, v) → IsSmallList (list_of d base pair)
list_in_range words ps s t u v d base pair scale bases pairs = record { scale = scale_in_range s t d scale; base = bases_in_range words t u base bases; pair = pairs_in_range ps u v pair pairs }

-- ---- corners

abbrev pub corner_faults : ℕ → Format (List PlaneCorner)
corner_faults n = many_due (λ (before : List PlaneCorner). a_corner) n []

abbrev pub corner_count : LineKind ℕ
corner_count = count_kind (codes "corners") MIN_CORNERS MAX_CORNERS

module _ (s : LinesLeft) where
  -- the corners fail where their count or a line of them fails, and else are taken
  pub corner_count_stops : (e : TextFault) → Fails e (taken (one_due corner_count None) s) → Fails e (taken corners_due s)
  corner_count_stops e h = fails_then (one_due corner_count None) corner_faults s e h

  module _ (n : ℕ) (t : LinesLeft) (counted : taken (one_due corner_count None) s ≡ Ok (n, t)) where
    pub corner_stops : (e : TextFault) → Fails e (taken (corner_faults n) t) → Fails e (taken corners_due s)
    corner_stops e h = subst (Fails e) (sym (onward (one_due corner_count None) corner_faults s t n counted)) h

    pub corners_taken : (cs : List PlaneCorner) (u : LinesLeft) → taken (corner_faults n) t ≡ Ok (cs, u) → taken corners_due s ≡ Ok (cs, u)
    corners_taken cs u h = onward (one_due corner_count None) corner_faults s t n counted ∙ h

-- corners that were taken are in their range, and so many as a fan may have
pub corners_in_range : (s t : LinesLeft) (corners : List PlaneCorner) → taken corners_due s ≡ Ok (corners, t) → AreCorners corners
corners_in_range s t corners h = in_range_of corners_lines corners_due AreCorners _ lawful_corners s t corners h

-- one more corner is taken, and stands behind the others
pub more_corners : (n : ℕ) (s : LinesLeft) (cs ds : List Corner) (t u : LinesLeft) (i : ℕ) (c : Corner) → AreItems (λ (b : List PlaneCorner). a_corner) n s (map corner_said cs) t i → i < n → ds ≡ cs ++ c ∷ []
    → taken (one_due a_corner None) t ≡ Ok (corner_said c, u) → AreItems (λ (b : List PlaneCorner). a_corner) n s (map corner_said ds) u (i + 1)
more_corners n s cs ds t u i c h more new e =
    let all : map corner_said ds ≡ map corner_said cs ++ corner_said c ∷ [] = ap (map corner_said) new ∙ map-append corner_said cs (c ∷ []) in
    subst (λ (xs : List PlaneCorner). AreItems (λ (b : List PlaneCorner). a_corner) n s xs u (i + 1)) (sym all) (more_items (λ (b : List PlaneCorner). a_corner) n s (map corner_said cs) t u i (corner_said c) h more e)

-- ---- edges

module _ (a b : Chain) (corners : List Corner) where
  abbrev upper : Pairs
  upper = pairs (quadrant_chain Upper a b)

  abbrev lower : Pairs
  lower = pairs (quadrant_chain Lower a b)

  edge_same : (i : ℕ) → edge_due a b (map corner_said corners) i ≡ numbered_due (length a + length b) (edge_pairs upper lower corners i) i
  edge_same i =
      let q = quadrant_at (map corner_said corners) i in
      λ j. and_then (literal_due (edge_line i) false) (λ u. prices_due (length-quadrant q a b j) (pairs_of_quadrant q a b j))

  -- what is due of the edges, by the pairs of the two quadrants
  pub edges_same : edges_due a b (map corner_said corners) ≡ edges_by (length a + length b) upper lower corners
  edges_same =
      λ j. headed_due (codes "edges") (length-map corners corner_said j - 1) (length-map corners corner_said j - 1) (λ n. blocks_due (λ before. edge_same (length before) j) n [])

-- the same by other words for how many words there are and for the pairs
pub edges_for : (a b : Chain) (corners : List Corner) (words : ℕ) (ups lows : Pairs) → words ≡ length a + length b → ups ≡ pairs (quadrant_chain Upper a b) → lows ≡ pairs (quadrant_chain Lower a b) → edges_by words ups lows corners ≡ edges_due a b (map corner_said corners)
edges_for a b corners words ups lows w u l = (λ i. edges_by (w i) (u i) (l i) corners) ∙ sym (edges_same a b corners)

-- an edge's number, and its list
module _ (words number : ℕ) (ps qs : Pairs) (same : ps ≡ qs) (s : LinesLeft) where
  pub number_stops : (e : TextFault) → Fails e (taken (literal_due (edge_line number) false) s) → Fails e (taken (numbered_due words qs number) s)
  number_stops e h = fails_then (literal_due (edge_line number) false) (λ u. prices_due words qs) s e h

  module _ (t : LinesLeft) (numbered : taken (literal_due (edge_line number) false) s ≡ Ok (tt, t)) where
    numbered_on : taken (numbered_due words qs number) s ≡ taken (prices_due words ps) t
    numbered_on = onward (literal_due (edge_line number) false) (λ u. prices_due words qs) s t tt numbered ∙ ap (λ (xs : Pairs). taken (prices_due words xs) t) (sym same)

    pub list_stops : (e : TextFault) → Fails e (taken (prices_due words ps) t) → Fails e (taken (numbered_due words qs number) s)
    list_stops e h = subst (Fails e) (sym numbered_on) h

    pub numbered_taken : (list : Prices) (u : LinesLeft) → taken (prices_due words ps) t ≡ Ok (list, u) → taken (numbered_due words qs number) s ≡ Ok (list, u)
    numbered_taken list u h = numbered_on ∙ h

abbrev pub edge_blocks : ℕ → Pairs → Pairs → List Corner → ℕ → Format (List Prices)
edge_blocks words upper lower corners n = blocks_due (edge_behind words upper lower corners) n []

-- how many edges there are is known
module _ (words : ℕ) (upper lower : Pairs) (corners : List Corner) (s : LinesLeft) where
  abbrev how_many : ℕ
  how_many = length corners - 1

  abbrev edge_count : LineKind ℕ
  edge_count = count_kind (codes "edges") how_many how_many

  pub edge_count_stops : (e : TextFault) → Fails e (taken (one_due edge_count None) s) → Fails e (taken (edges_by words upper lower corners) s)
  edge_count_stops e h = fails_then (one_due edge_count None) (edge_blocks words upper lower corners) s e h

  pub edges_counted : (n : ℕ) (t : LinesLeft) → taken (one_due edge_count None) s ≡ Ok (n, t) → taken (edges_by words upper lower corners) s ≡ taken (edge_blocks words upper lower corners how_many) t
  edges_counted n t h =
      let range = in_range_of (λ k. count_line (codes "edges") k ∷ []) (one_due edge_count None) (IsCountInRange how_many how_many) 1 (lawful_one edge_count (IsCountInRange how_many how_many) (count_is_kind (codes "edges") how_many how_many refl) (λ k. lacks-numbers_line (codes "edges") (pos k ∷ []) refl)) s t n h in
      let low = range.low_end in
      let high = range.high_end in
      let same : n ≡ length corners - 1 = omega arith in
      onward (one_due edge_count None) (edge_blocks words upper lower corners) s t n h ∙ ap (λ (k : ℕ). taken (edge_blocks words upper lower corners k) t) same

-- ---- the ends of the edges

-- the empty list is joined to the corners, and edges stay so with one more that goes from its corner to the next
pub none_joined : (corners : List PlaneCorner) → AreJoinedTo corners []
none_joined corners i h = absurd (omega arith)

pub more_joined : (corners : List PlaneCorner) (edges : List PlaneEdge) (e : PlaneEdge) (n : ℕ) → AreJoinedTo corners edges → length edges ≡ n → e.from ≡ get_or corners n no_corner → e.to ≡ get_or corners (suc n) no_corner → AreJoinedTo corners (edges ++ e ∷ [])
more_joined corners edges e n h count from to i inside =
    elim (cases_lt i (length edges)) [
      | inl before ↦
          let same : get_or (edges ++ e ∷ []) i no_edge ≡ get_or edges i no_edge = get_or_append_left edges (e ∷ []) no_edge i before in
          (ap (λ (x : PlaneEdge). x.from) same ∙ (h i before).0, ap (λ (x : PlaneEdge). x.to) same ∙ (h i before).1)
      | inr after ↦
          let last : i ≡ length edges = omega (arith, length_push edges e) in
          let place : n ≡ i = omega (arith, last, count) in
          let same : get_or (edges ++ e ∷ []) i no_edge ≡ e = get_or_at edges e [] no_edge i (sym last) in
          (ap (λ (x : PlaneEdge). x.from) same ∙ from ∙ ap (λ (k : ℕ). get_or corners k no_corner) place, ap (λ (x : PlaneEdge). x.to) same ∙ to ∙ ap (λ (k : ℕ). get_or corners (suc k) no_corner) place)
    ]

-- ---- the whole fan, part by part

abbrev pub from_ending : Chain → Chain → List PlaneCorner → List Prices → Format FanSaid
from_ending a b corners lists = and_then (literal_due ending false) (λ v. told (fan_of a b corners lists))

abbrev pub from_edges : Chain → Chain → List PlaneCorner → Format FanSaid
from_edges a b corners = and_then (edges_due a b corners) (from_ending a b corners)

abbrev pub from_corners : Chain → Chain → Format FanSaid
from_corners a b = and_then corners_due (from_edges a b)

abbrev pub from_second : Chain → Format FanSaid
from_second a = and_then (second_due a) (from_corners a)

abbrev pub first_due : Format Chain
first_due = chain_due (codes "first") MAX_WORDS MAX_POSITIONS

abbrev pub from_first : Format FanSaid
from_first = and_then first_due from_second

-- what is due of the second chain, by how many words and letters the first one has
pub second_for : (a : Chain) (words letters : ℕ) → words ≡ length a → letters ≡ positions a → chain_due (codes "second") (MAX_WORDS - words) (MAX_POSITIONS - letters) ≡ second_due a
second_for a words letters w l = λ i. chain_due (codes "second") (MAX_WORDS - w i) (MAX_POSITIONS - l i)

-- the chains that were read make chains of both quadrants, and there is a corner
pub chains_in_range : (s t u : LinesLeft) (a b : Chain) → taken first_due s ≡ Ok (a, t) → taken (second_due a) t ≡ Ok (b, u) → (q : Quadrant) → IsChainInRange (quadrant_chain q a b)
chains_in_range s t u a b first second q =
    quadrants_in_range a b q
    (small_chain MAX_WORDS MAX_POSITIONS a (omega arith) (omega arith) (chain_for (codes "first") MAX_WORDS MAX_POSITIONS s a t refl refl first))
    (chain_for (codes "second") (MAX_WORDS - length a) (MAX_POSITIONS - positions a) t b u refl refl second)

-- where corners were taken there is one
pub some_corner : (s t : LinesLeft) (corners : List Corner) → taken corners_due s ≡ Ok (map corner_said corners, t) → 1 ≤ length corners
some_corner s t corners h =
    let many = (corners_in_range s t (map corner_said corners) h).some in
    omega (arith, many, length-map corners corner_said)

module _ (s : LinesLeft) where
  abbrev whole_fan : Answer (FanSaid × LinesLeft)
  whole_fan = taken fan_due s

  -- a fan fails where one of its parts fails behind those before, and else is taken with them
  pub heading_stops : (e : TextFault) → Fails e (taken (literal_due heading false) s) → Fails e whole_fan
  heading_stops e h = fails_then (literal_due heading false) (λ u. from_first) s e h

  module _ (s1 : LinesLeft) (headed : taken (literal_due heading false) s ≡ Ok (tt, s1)) where
    at_first : whole_fan ≡ taken from_first s1
    at_first = onward (literal_due heading false) (λ u. from_first) s s1 tt headed

    pub first_stops : (e : TextFault) → Fails e (taken first_due s1) → Fails e whole_fan
    first_stops e h = fails_on whole_fan first_due from_second s1 at_first e h

    module _ (a : Chain) (s2 : LinesLeft) (first : taken first_due s1 ≡ Ok (a, s2)) where
      at_second : whole_fan ≡ taken (from_second a) s2
      at_second = goes_on whole_fan first_due from_second s1 at_first s2 a first

      pub second_stops : (e : TextFault) → Fails e (taken (second_due a) s2) → Fails e whole_fan
      second_stops e h = fails_on whole_fan (second_due a) (from_corners a) s2 at_second e h

      module _ (b : Chain) (s3 : LinesLeft) (second : taken (second_due a) s2 ≡ Ok (b, s3)) where
        at_corners : whole_fan ≡ taken (from_corners a b) s3
        at_corners = goes_on whole_fan (second_due a) (from_corners a) s2 at_second s3 b second

        pub corners_stop : (e : TextFault) → Fails e (taken corners_due s3) → Fails e whole_fan
        corners_stop e h = fails_on whole_fan corners_due (from_edges a b) s3 at_corners e h

        module _ (cs : List PlaneCorner) (s4 : LinesLeft) (corners : taken corners_due s3 ≡ Ok (cs, s4)) where
          at_edges : whole_fan ≡ taken (from_edges a b cs) s4
          at_edges = goes_on whole_fan corners_due (from_edges a b) s3 at_corners s4 cs corners

          pub edges_stop : (e : TextFault) → Fails e (taken (edges_due a b cs) s4) → Fails e whole_fan
          edges_stop e h = fails_on whole_fan (edges_due a b cs) (from_ending a b cs) s4 at_edges e h

          module _ (lists : List Prices) (s5 : LinesLeft) (edges : taken (edges_due a b cs) s4 ≡ Ok (lists, s5)) where
            at_ending : whole_fan ≡ taken (from_ending a b cs lists) s5
            at_ending = goes_on whole_fan (edges_due a b cs) (from_ending a b cs) s4 at_edges s5 lists edges

            pub ending_stops : (e : TextFault) → Fails e (taken (literal_due ending false) s5) → Fails e whole_fan
            ending_stops e h = fails_on whole_fan (literal_due ending false) (λ v. told (fan_of a b cs lists)) s5 at_ending e h

            pub fan_taken : (s6 : LinesLeft) → taken (literal_due ending false) s5 ≡ Ok (tt, s6) → whole_fan ≡ Ok (fan_of a b cs lists, s6)
            fan_taken s6 h = goes_on whole_fan (literal_due ending false) (λ v. told (fan_of a b cs lists)) s5 at_ending s6 tt h ∙ told_taken (fan_of a b cs lists) s6

-- ---- the edges, one after another

module _ (words : ℕ) (upper lower : Pairs) (corners : List Corner) (n : ℕ) (s : LinesLeft) where
  -- i of the edges were taken, and each goes from its corner to the next
  pub record AreEdgesTo (edges : List Edge) (t : LinesLeft) (i : ℕ) : Type 0 where
    pub taken_to : AreBlocksTo (edge_behind words upper lower corners) n s (map (λ e. e.list) edges) t i
    pub joined : AreJoinedTo (map corner_said corners) (map edge_said edges)

  pub no_edges : AreEdgesTo [] s 0
  no_edges = record { taken_to = no_blocks (edge_behind words upper lower corners) n s; joined = none_joined (map corner_said corners) }

  -- the block behind the edges before is that of the next edge
  block_is : (edges : List Edge) (t : LinesLeft) (i : ℕ) → AreEdgesTo edges t i → edge_behind words upper lower corners (map (λ e. e.list) edges) ≡ numbered_due words (edge_pairs upper lower corners i) i
  block_is edges t i h = ap (λ (k : ℕ). numbered_due words (edge_pairs upper lower corners k) k) h.taken_to.count

  -- one more edge is taken, which goes from its corner to the next
  pub more_edges : (edges new : List Edge) (t u : LinesLeft) (i : ℕ) (e : Edge) → AreEdgesTo edges t i → i < n → new ≡ edges ++ e ∷ []
      → taken (numbered_due words (edge_pairs upper lower corners i) i) t ≡ Ok (e.list, u)
      → (edge_said e).from ≡ get_or (map corner_said corners) i no_corner → (edge_said e).to ≡ get_or (map corner_said corners) (suc i) no_corner
      → AreEdgesTo new u (i + 1)
  more_edges edges new t u i e h more is got from to =
      let list_of_edge : Edge → Prices = λ x. x.list in
      let block : taken (edge_behind words upper lower corners (map list_of_edge edges)) t ≡ Ok (e.list, u) = ap (λ (f : Format Prices). taken f t) (block_is edges t i h) ∙ got in
      let lists : map list_of_edge new ≡ map list_of_edge edges ++ e.list ∷ [] = ap (map list_of_edge) is ∙ map-append list_of_edge edges (e ∷ []) in
      let ends : map edge_said new ≡ map edge_said edges ++ edge_said e ∷ [] = ap (map edge_said) is ∙ map-append edge_said edges (e ∷ []) in
      let count : length (map edge_said edges) ≡ i = length-map edges edge_said ∙ sym (length-map edges list_of_edge) ∙ h.taken_to.count in
      record {
        taken_to =
            subst (λ (xs : List Prices). AreBlocksTo (edge_behind words upper lower corners) n s xs u (i + 1)) (sym lists)
            (more_blocks (edge_behind words upper lower corners) n s (map list_of_edge edges) t u i e.list h.taken_to more block);
        joined =
            subst (AreJoinedTo (map corner_said corners)) (sym ends)
            (more_joined (map corner_said corners) (map edge_said edges) (edge_said e) i h.joined count from to);
      }

  -- where the next edge fails, all of them fail
  pub edge_stops : (edges : List Edge) (t : LinesLeft) (i : ℕ) (e : TextFault) → AreEdgesTo edges t i → i < n → Fails e (taken (numbered_due words (edge_pairs upper lower corners i) i) t) → Fails e (taken (edge_blocks words upper lower corners n) s)
  edge_stops edges t i e h more bad =
      block_fails (edge_behind words upper lower corners) n s (map (λ x. x.list) edges) t i e h.taken_to more
      (subst (λ (f : Format Prices). Fails e (taken f t)) (sym (block_is edges t i h)) bad)

  -- after n edges all of them are taken
  pub all_edges : (edges : List Edge) (t : LinesLeft) (i : ℕ) → AreEdgesTo edges t i → n ≤ i → taken (edge_blocks words upper lower corners n) s ≡ Ok (map (λ e. e.list) edges, t)
  all_edges edges t i h all = all_blocks (edge_behind words upper lower corners) n s (map (λ x. x.list) edges) t i h.taken_to all
