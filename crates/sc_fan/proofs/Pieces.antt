-- The pieces of a fan text.
use Rattle.std.proofs.Common.{◌≡◌, ℕ, ◌+◌, ◌<◌, ◌≤◌, take, drop, subst, List, [], ◌∷◌, ◌++◌, map, length, get_or, codes, refl, sym, ap, ◌∙◌}
use Rattle.std.specs.List.{flat_map, enumerate_from}
use Rattle.std.proofs.lemmas.List.{take_all, length-map}
use Rattle.sc_theory.specs.Chains.{Chain}
use Rattle.sc_theory.specs.Prices.{pairs}
use Rattle.sc_line.specs.Lines.{Line, ended, text_of, count_line}
use Rattle.sc_line.specs.Printing.{AppendsPart}
use Rattle.sc_line.proofs.PrintLaws.{pieces_at, pieces_more, part_after, front_part, then_part, then_all, text_both}
use Rattle.sc_text.specs.Surfaces.{ending}
use Rattle.sc_certificate.specs.Spelled.{list_text}
use Rattle.sc_certificate.proofs.PrintedLines.{list_pieces}
use Rattle.sc_cone.specs.declared.Quadrant.{Quadrant}
use Rattle.sc_cone.specs.declared.Quadrant.TheVariants.{Lower, Upper}
use Rattle.sc_cone.specs.Cones.{quadrant_chain}
use Rattle.sc_fan.specs.declared.corner.Corner.{Corner}
use Rattle.sc_fan.specs.declared.fan.Edge.{Edge}
use Rattle.sc_fan.specs.declared.printing.Part.{Part}
use Rattle.sc_fan.specs.declared.printing.TheConstants.{PARTS}
use Rattle.sc_fan.specs.Corners.{corner_said, corner_line}
use Rattle.sc_fan.specs.Fans.{FanSaid, quadrant_at, heading, chain_lines, corners_lines, edge_line, edge_lines, edges_lines, fan_text}
use Rattle.sc_fan.specs.Printing.{Pairs, part_text}
use Rattle.sc_fan.specs.inside.Printing.{pairs_in, edge_text, edge_pairs, edge_piece, counted_edges_text}

-- ---- two pieces of a text

pub front_of : (mid new piece rest text : List ℕ) → text ≡ piece ++ rest → AppendsPart mid new piece → AppendsPart mid new text
front_of mid new piece rest text whole p = subst (AppendsPart mid new) (sym whole) (front_part mid new piece rest p)

pub part_of : (old mid new piece rest text : List ℕ) → text ≡ piece ++ rest → mid ≡ old ++ piece → AppendsPart mid new rest → AppendsPart old new text
part_of old mid new piece rest text whole e p = subst (AppendsPart old new) (sym whole) (then_part old mid new piece rest e p)

pub in_pieces : (old mid new piece rest text : List ℕ) → text ≡ piece ++ rest → mid ≡ old ++ piece → new ≡ mid ++ rest → new ≡ old ++ text
in_pieces old mid new piece rest text whole e f = then_all old mid new piece rest e f ∙ ap (λ (t : List ℕ). old ++ t) (sym whole)

-- ---- corners

map_said : (corners : List Corner) → map corner_line (map corner_said corners) ≡ map (λ c. corner_line (corner_said c)) corners
map_said [] = refl
map_said (c ∷ corners) = ap (λ (ls : List Line). corner_line (corner_said c) ∷ ls) (map_said corners)

pub corners_pieces : (corners : List Corner) → text_of (corners_lines (map corner_said corners)) ≡ ended (count_line (codes "corners") (length corners)) ++ text_of (map (λ c. corner_line (corner_said c)) corners)
corners_pieces corners =
    (λ i. ended (count_line (codes "corners") (length-map corners corner_said i)) ++ text_of (map_said corners i))

-- ---- edges

pub pairs_of_quadrant : (q : Quadrant) (a b : Chain) → pairs (quadrant_chain q a b) ≡ pairs_in q (pairs (quadrant_chain Upper a b)) (pairs (quadrant_chain Lower a b))
pairs_of_quadrant Lower a b = refl
pairs_of_quadrant Upper a b = refl

module _ (a b : Chain) (corners : List Corner) where
  abbrev upper : Pairs
  upper = pairs (quadrant_chain Upper a b)

  abbrev lower : Pairs
  lower = pairs (quadrant_chain Lower a b)

  edges_from : (n : ℕ) (edges : List Edge)
      → text_of (flat_map (λ e. edge_lines a b (map corner_said corners) e.0 e.1) (enumerate_from n (map (λ e. e.list) edges))) ≡ flat_map (edge_piece upper lower corners) (enumerate_from n edges)
  edges_from n [] = refl
  edges_from n (e ∷ edges) =
      let q = quadrant_at (map corner_said corners) n in
      let rest : List Line = flat_map (λ e. edge_lines a b (map corner_said corners) e.0 e.1) (enumerate_from (n + 1) (map (λ e. e.list) edges)) in
      let here : text_of (edge_lines a b (map corner_said corners) n e.list) ≡ edge_text (edge_pairs upper lower corners n) n e.list =
      ap (λ (t : List ℕ). ended (edge_line n) ++ t) (list_pieces (quadrant_chain q a b) e.list ∙ ap (λ (ps : Pairs). list_text ps e.list) (pairs_of_quadrant q a b)) in
      text_both (edge_lines a b (map corner_said corners) n e.list) rest ∙ (λ i. here i ++ edges_from (n + 1) edges i)

  pub edges_pieces : (edges : List Edge) → text_of (edges_lines a b (map corner_said corners) (map (λ e. e.list) edges)) ≡ counted_edges_text upper lower corners edges
  edges_pieces edges = λ i. ended (count_line (codes "edges") (length-map edges (λ (e : Edge). e.list) i)) ++ edges_from 0 edges i

-- ---- part by part

pub parts_are_text : (v : FanSaid) → fan_text v ≡ flat_map (part_text v) PARTS
parts_are_text v =
    let first : List Line = chain_lines (codes "first") v.first in
    let second : List Line = chain_lines (codes "second") v.second in
    let corners : List Line = corners_lines v.corners in
    let edges : List Line = edges_lines v.first v.second v.corners v.lists in
    ap (λ (t : List ℕ). ended heading ++ t)
    (text_both first (second ++ (corners ++ (edges ++ ending ∷ [])))
    ∙ ap (λ (t : List ℕ). text_of first ++ t)
    (text_both second (corners ++ (edges ++ ending ∷ []))
    ∙ ap (λ (t : List ℕ). text_of second ++ t)
    (text_both corners (edges ++ ending ∷ [])
    ∙ ap (λ (t : List ℕ). text_of corners ++ t) (text_both edges (ending ∷ [])))))

module _ (v : FanSaid) (i : ℕ) (d : Part) (inside : i < length PARTS) (old mid new : List ℕ) (before : mid ≡ old ++ flat_map (part_text v) (take i PARTS)) where
  pub part_more : new ≡ mid ++ part_text v (get_or PARTS i d) → new ≡ old ++ flat_map (part_text v) (take (i + 1) PARTS)
  part_more here = here ∙ ap (λ (t : List ℕ). t ++ part_text v (get_or PARTS i d)) before ∙ pieces_more (part_text v) old PARTS i d inside

  pub part_stopped : AppendsPart mid new (part_text v (get_or PARTS i d)) → AppendsPart old new (fan_text v)
  part_stopped part =
      subst (AppendsPart old new) (sym (parts_are_text v))
      (part_after old mid new (flat_map (part_text v) (take i PARTS)) (part_text v (get_or PARTS i d)) (flat_map (part_text v) (drop (i + 1) PARTS)) (flat_map (part_text v) PARTS)
      before part (pieces_at (part_text v) PARTS i d inside))

pub parts_done : (v : FanSaid) (i : ℕ) (old mid : List ℕ) → length PARTS ≤ i → mid ≡ old ++ flat_map (part_text v) (take i PARTS) → mid ≡ old ++ fan_text v
parts_done v i old mid past before =
    before ∙ ap (λ ps. old ++ flat_map (part_text v) ps) (take_all i PARTS past) ∙ ap (λ (t : List ℕ). old ++ t) (sym (parts_are_text v))
