-- What the ranges of a fan say of the chains of its quadrants and of its edges.
use Rattle.std.proofs.Common.{◌≡◌, ◌≢◌, ℕ, ◌+◌, ◌<◌, ◌≤◌, List, [], ◌∷◌, ◌++◌, map, length, get_or, take, drop, All, refl, sym, ap, ap₂, subst, ◌∙◌, arith}
use Rattle.std.specs.List.{AllByRecursion, enumerate_from, flat_map}
use Rattle.std.proofs.lemmas.List.{length-map, get_or-map, take_all}
use Rattle.std.proofs.lemmas.List.FromFn.{get_or-enumerate_from, length-enumerate_from}
use Rattle.std.proofs.lemmas.List.Elements.{All-from_recursion}
use Rattle.sc_theory.specs.declared.Letter.{Letter}
use Rattle.sc_theory.specs.Words.{Word, inverse_letter, inverse_word}
use Rattle.sc_theory.specs.Chains.{Chain, positions}
use Rattle.sc_theory.specs.Prices.{pairs}
use Rattle.sc_theory.proofs.Cyclic.{length-inverse_word, IsReduced-inverse_word}
use Rattle.sc_theory.proofs.WordLaws.{inverse_word-cons}
use Rattle.sc_words.specs.declared.limits.TheConstants.{GENERATORS}
use Rattle.sc_chain.specs.declared.limits.TheConstants.{MAX_WORDS, MAX_POSITIONS}
use Rattle.sc_line.specs.Printing.{AppendsPart}
use Rattle.sc_line.proofs.PrintLaws.{part_after, pieces_at, pieces_more}
use Rattle.sc_text.specs.Words.{IsWordInRange}
use Rattle.sc_text.specs.Surfaces.{IsChainInRange}
use Rattle.sc_cone.specs.declared.Quadrant.{Quadrant}
use Rattle.sc_cone.specs.declared.Quadrant.TheVariants.{Lower, Upper}
use Rattle.sc_cone.specs.Cones.{inverses, quadrant_chain}
use Rattle.sc_cone.specs.Fans.{Corner as PlaneCorner, no_corner, quadrant_from}
use Rattle.sc_fan.specs.declared.corner.Corner.{Corner}
use Rattle.sc_fan.specs.declared.fan.Edge.{Edge}
use Rattle.sc_fan.specs.declared.fan.Fan.{Fan}
use Rattle.sc_fan.specs.Corners.{corner_said}
use Rattle.sc_fan.specs.Fans.{FanSaid, quadrant_at, edge_chain, IsListFor, IsFanInRange}
use Rattle.sc_fan.specs.FanRead.{fan_said}
use Rattle.sc_fan.specs.Printing.{Pairs}
use Rattle.sc_fan.specs.inside.Printing.{pairs_in, edge_text, edge_pairs, edge_piece, edges_text, AreEdgesOf}
use Rattle.sc_fan.proofs.FanLaws.{length-quadrant, positions-quadrant}
use Rattle.sc_fan.proofs.Pieces.{pairs_of_quadrant}

-- ---- the chains of the quadrants

all_append : {A : Type 0} (P : A → Type 0) (xs ys : List A) → AllByRecursion P xs → AllByRecursion P ys → AllByRecursion P (xs ++ ys)
all_append P [] ys h k = k
all_append P (x ∷ xs) ys h k = (h.0, all_append P xs ys h.1 k)

abbrev IsGenerator : Letter → Type 0
IsGenerator x = x.number < GENERATORS

inverse_letters : (w : Word) → AllByRecursion IsGenerator w → AllByRecursion IsGenerator (inverse_word w)
inverse_letters [] h = tt
inverse_letters (x ∷ w) h = subst (AllByRecursion IsGenerator) (sym (inverse_word-cons x w)) (all_append IsGenerator (inverse_word w) (inverse_letter x ∷ []) (inverse_letters w h.1) (h.0, tt))

some_letters : (w : Word) → w ≢ [] → inverse_word w ≢ []
some_letters [] some none = some refl
some_letters (x ∷ w) some none = let size = length-inverse_word (x ∷ w) in let empty = ap length none in absurd (omega (arith, size, empty))

inverse_word_in_range : (w : ℕ × Word) → IsWordInRange w → IsWordInRange (w.0, inverse_word w.1)
inverse_word_in_range w h = record {
  low = h.low;
  high = h.high;
  letters = inverse_letters w.1 h.letters;
  some = some_letters w.1 h.some;
  reduced = IsReduced-inverse_word w.1 h.reduced;
}

inverses_in_range : (c : Chain) → AllByRecursion IsWordInRange c → AllByRecursion IsWordInRange (inverses c)
inverses_in_range [] h = tt
inverses_in_range (w ∷ c) h = (inverse_word_in_range w h.0, inverses_in_range c h.1)

quadrant_words : (q : Quadrant) (a b : Chain) → AllByRecursion IsWordInRange a → AllByRecursion IsWordInRange b → AllByRecursion IsWordInRange (quadrant_chain q a b)
quadrant_words Lower a b h k = all_append IsWordInRange a (inverses b) h (inverses_in_range b k)
quadrant_words Upper a b h k = all_append IsWordInRange a b h k

-- words in their range, within the limits together, are a chain in its range in either quadrant
pub quadrant_words_in_range : (a b : Chain) (q : Quadrant) → AllByRecursion IsWordInRange a → AllByRecursion IsWordInRange b → length a + length b ≤ MAX_WORDS → positions a + positions b ≤ MAX_POSITIONS → IsChainInRange (quadrant_chain q a b)
quadrant_words_in_range a b q h k few_words few_letters = record {
  count = subst (λ (n : ℕ). n ≤ MAX_WORDS) (sym (length-quadrant q a b)) few_words;
  words = quadrant_words q a b h k;
  letters = subst (λ (n : ℕ). n ≤ MAX_POSITIONS) (sym (positions-quadrant q a b)) few_letters;
}

-- so a fan in its range has chains in their ranges in both quadrants
pub quadrant_in_range : (v : FanSaid) (q : Quadrant) → IsFanInRange v → IsChainInRange (quadrant_chain q v.first v.second)
quadrant_in_range v q h = quadrant_words_in_range v.first v.second q h.first h.second h.few_words h.few_letters

-- ---- the letters of a chain

each_letters : (c : Chain) → AllByRecursion IsWordInRange c → AllByRecursion (λ w. All IsGenerator w.1) c
each_letters [] h = tt
each_letters (w ∷ c) h = (All-from_recursion IsGenerator w.1 h.0.letters, each_letters c h.1)

-- ---- the edges

module _ (a b : Chain) (corners : List Corner) where
  lists_fit : (n : ℕ) (edges : List Edge) → AllByRecursion (λ e. IsListFor (edge_chain a b (map corner_said corners) e.0) e.1) (enumerate_from n (map (λ e. e.list) edges))
      → AllByRecursion (λ e. length e.1.list.pair ≡ length (edge_pairs (pairs (quadrant_chain Upper a b)) (pairs (quadrant_chain Lower a b)) corners e.0)) (enumerate_from n edges)
  lists_fit n [] h = tt
  lists_fit n (e ∷ edges) h =
      (h.0.counts.pair ∙ ap (λ (ps : Pairs). length ps) (pairs_of_quadrant (quadrant_at (map corner_said corners) n) a b), lists_fit (n + 1) edges h.1)

-- a fan in its range has edges at its corners, with lists that fit the pairs of their quadrants
pub edges_in_range : (f : Fan) → IsFanInRange (fan_said f) → AreEdgesOf (pairs (quadrant_chain Upper f.first f.second)) (pairs (quadrant_chain Lower f.first f.second)) f.corners.items f.edges.items
edges_in_range f h =
    let few = h.one_fewer in
    let sizes = length-map f.edges.items (λ (e : Edge). e.list) in
    let corners = length-map f.corners.items corner_said in
    record {
      few = omega (arith, few, sizes, corners);
      fit = All-from_recursion _ (enumerate_from 0 f.edges.items) (lists_fit f.first f.second f.corners.items 0 f.edges.items h.lists);
    }

-- a corner, and the pairs of the edge that goes from it
pub corner_at : (corners : List Corner) (i : ℕ) (corner : Corner) → i < length corners → corner ≡ get_or corners i corner → corner_said corner ≡ get_or (map corner_said corners) i no_corner
corner_at corners i corner below is = ap corner_said is ∙ sym (get_or-map corner_said corners i corner no_corner below)

-- the pairs of an edge's chain are those of the quadrant of the corner that the edge goes from
pub pairs_at : (upper lower : Pairs) (corners : List Corner) (i : ℕ) (corner : Corner) (ps : Pairs) → i < length corners → corner ≡ get_or corners i corner → ps ≡ pairs_in (quadrant_from corner.direction.t) upper lower → ps ≡ edge_pairs upper lower corners i
pairs_at upper lower corners i corner ps below is ps_is = ps_is ∙ ap (λ (c : PlaneCorner). pairs_in (quadrant_from c.direction.t) upper lower) (corner_at corners i corner below is)

-- the piece of an edge, and what fits it
module _ (upper lower : Pairs) (corners : List Corner) (edges : List Edge) (i : ℕ) (corner : Corner) (edge : Edge) (ps : Pairs) (inside : i < length edges) (below : i < length corners) (corner_is : corner ≡ get_or corners i corner) (edge_is : edge ≡ get_or edges i edge) (ps_is : ps ≡ pairs_in (quadrant_from corner.direction.t) upper lower) where
  pairs_are : ps ≡ edge_pairs upper lower corners i
  pairs_are = pairs_at upper lower corners i corner ps below corner_is ps_is

  at : get_or (enumerate_from 0 edges) i (0, edge) ≡ (i, edge)
  at =
      let number : 0 + i ≡ i = omega arith in
      get_or-enumerate_from 0 edges i (0, edge) inside ∙ ap₂ (λ (n : ℕ) (e : Edge). (n, e)) number (sym edge_is)

  there : i < length (enumerate_from 0 edges)
  there = omega (arith, inside, length-enumerate_from 0 edges)

  -- what is printed for the edge number i is its piece
  pub piece_is : edge_text ps i edge.list ≡ edge_piece upper lower corners (get_or (enumerate_from 0 edges) i (0, edge))
  piece_is = ap (λ (qs : Pairs). edge_text qs i edge.list) pairs_are ∙ ap (edge_piece upper lower corners) (sym at)

  -- its list has a price for each pair
  pub fits : AreEdgesOf upper lower corners edges → length edge.list.pair ≡ length ps
  fits h =
      subst (λ (e : ℕ × Edge). length e.1.list.pair ≡ length (edge_pairs upper lower corners e.0)) at (h.fit i (0, edge) there)
      ∙ ap (λ (qs : Pairs). length qs) (sym pairs_are)

  -- with it the pieces up to i become those up to i + 1
  pub piece_more : (old mid new : List ℕ) → mid ≡ old ++ flat_map (edge_piece upper lower corners) (take i (enumerate_from 0 edges)) → new ≡ mid ++ edge_text ps i edge.list
      → new ≡ old ++ flat_map (edge_piece upper lower corners) (take (i + 1) (enumerate_from 0 edges))
  piece_more old mid new before here =
      here ∙ ap (λ (t : List ℕ). mid ++ t) piece_is ∙ ap (λ (t : List ℕ). t ++ edge_piece upper lower corners (get_or (enumerate_from 0 edges) i (0, edge))) before
      ∙ pieces_more (edge_piece upper lower corners) old (enumerate_from 0 edges) i (0, edge) there

  -- a part of it behind the pieces before is a part of the text of the edges
  pub piece_part : (old mid new : List ℕ) → mid ≡ old ++ flat_map (edge_piece upper lower corners) (take i (enumerate_from 0 edges)) → AppendsPart mid new (edge_text ps i edge.list) → AppendsPart old new (edges_text upper lower corners edges)
  piece_part old mid new before part =
      part_after old mid new (flat_map (edge_piece upper lower corners) (take i (enumerate_from 0 edges))) (edge_piece upper lower corners (get_or (enumerate_from 0 edges) i (0, edge)))
      (flat_map (edge_piece upper lower corners) (drop (i + 1) (enumerate_from 0 edges))) (edges_text upper lower corners edges) before
      (subst (AppendsPart mid new) piece_is part) (pieces_at (edge_piece upper lower corners) (enumerate_from 0 edges) i (0, edge) there)

-- after the last edge the pieces are the text of the edges
pub pieces_done : (upper lower : Pairs) (corners : List Corner) (edges : List Edge) (i : ℕ) (old mid : List ℕ) → length edges ≤ i → mid ≡ old ++ flat_map (edge_piece upper lower corners) (take i (enumerate_from 0 edges)) → mid ≡ old ++ edges_text upper lower corners edges
pieces_done upper lower corners edges i old mid past before =
    before ∙ ap (λ es. old ++ flat_map (edge_piece upper lower corners) es) (take_all i (enumerate_from 0 edges) (omega (arith, past, length-enumerate_from 0 edges)))
