-- The half of a fan, by the entries of a search.
use Rattle.std.proofs.Common.{◌≡◌, ℕ, suc, ◌<◌, ◌≤◌, List, [], ◌∷◌, ◌++◌, map, length, get_or, slice_get, Option, Some, None, Result, Ok, Err, ℤ, pos, negsuc, neg_ℤ, ◌≤ℤ◌, unsigned_abs, inl, inr, arith, refl, sym, ap, subst, ◌∙◌}
use Rattle.std.specs.Prelude.{All, IfOk}
use Rattle.std.specs.Option.{option_map, option_to_list}
use Rattle.std.proofs.lemmas.Int.{ints}
use Rattle.std.proofs.lemmas.List.{length-append, length-map, map-append}
use Rattle.std.proofs.lemmas.List.Elements.{All-nil, All-cons, All-append, All-get_or, All-pop}
use Rattle.std.proofs.lemmas.Option.{get_or_from_slice_get, slice_get_within}
use Rattle.sc_theory.specs.Chains.{Chain, IsChain}
use Rattle.sc_theory.specs.Prices.{Prices, Covers}
use Rattle.sc_fraction.specs.Frac.{numerator, denominator}
use Rattle.sc_cone.specs.declared.Direction.{Direction}
use Rattle.sc_cone.specs.declared.Quadrant.{Quadrant}
use Rattle.sc_cone.specs.declared.Quadrant.TheVariants.{Lower, Upper}
use Rattle.sc_cone.specs.Directions.{IsIn, IsPrimitive, TurnsLeft, first_end, last_end}
use Rattle.sc_cone.specs.Cones.{chain_of, quadrant_chain}
use Rattle.sc_cone.specs.Values.{IsValueOf, IsTightAt}
use Rattle.sc_cone.specs.Fans.{Corner, Edge, IsGoodCorner, IsHalf}
use Rattle.sc_cone.specs.Searches.{Reached, reached, IsSearch, begun, grown, IsSweep}
use Rattle.sc_cone.proofs.PrimitiveDirections.{not_both}
use Rattle.sc_fan.specs.declared.corner.Corner.{Corner as CornerParts}
use Rattle.sc_fan.specs.declared.fan.Edge.{Edge as EdgeParts}
use Rattle.sc_fan.specs.Corners.{corner_said, IsCornerInRange}
use Rattle.sc_fan.specs.Fans.{IsListFor}
use Rattle.sc_fan.specs.FanRead.{edge_said}
use Rattle.sc_ball.specs.declared.solved.Solved.{Solved}
use Rattle.sc_ball.specs.declared.arcs.Arc.{Arc}
use Rattle.sc_ball.specs.declared.arcs.Half.{Half}
use Rattle.sc_ball.specs.inside.Neighbours.{IsClosed}
use Rattle.sc_ball.specs.Solved.{seen}
use Rattle.sc_ball.specs.inside.Solved.{IsSolvedIn}
use Rattle.sc_ball.specs.Searched.{entries_of}
use Rattle.sc_ball.specs.inside.Searched.{IsSearchedTo}
use Rattle.sc_ball.specs.inside.Arcs.{IsSpareOf, IsTightLast, IsChosen, list_in}
use Rattle.sc_ball.specs.inside.Halves.{most_entries, ended_at, IsStepTo, IsArcTo, ArcIsTo, IsArcAlong, IsHalfFan}
use Rattle.sc_ball.specs.Halves.{corner_in}
use Rattle.sc_ball.proofs.EntryLists.{reached_at}
use Rattle.sc_ball.proofs.ArcSteps.{arc_begun, arc_goes_on, arc_pushed_on, half_of_arc}
use Rattle.sc_ball.proofs.SearchLaws.{sweep_of, entry_has, few_entries}

abbrev pub corner_at : Solved → Corner
corner_at s = corner_said (corner_in s)

-- ---- corners of solved directions

range_of : (z : ℤ) → unsigned_abs z ≤ 1048576 → (neg_ℤ (pos 1048576) ≤ℤ z) × (z ≤ℤ pos 1048576)
range_of (pos n) h = (omega (arith, ints), omega (arith, ints))
range_of (negsuc n) h = (omega (arith, ints), omega (arith, ints))

not_below : (q : Quadrant) (d : Direction) → IsIn q d → pos 0 ≤ℤ d.s
not_below Lower d within = within.0
not_below Upper d within = within.0

module _ (q : Quadrant) (first second : Chain) (s : Solved) (within : IsIn q s.reached.direction) (primitive : IsPrimitive s.reached.direction) (solved : IsSolvedIn q first second s) where
  corner_in_range : IsCornerInRange (corner_at s)
  corner_in_range = record {
    s_low = not_below q s.reached.direction within;
    s_high = (range_of s.reached.direction.s solved.small.first).1;
    t_low = (range_of s.reached.direction.t solved.small.second).0;
    t_high = (range_of s.reached.direction.t solved.small.second).1;
    somewhere = not_both (unsigned_abs s.reached.direction.s) (unsigned_abs s.reached.direction.t) primitive;
    value = solved.in_range;
  }

  good_corner : IsGoodCorner q first second (corner_at s)
  good_corner = record { within = within; primitive = primitive; value = solved.value }

  -- the corner of the first entry is an arc in its ranges
  pub arc_of_first : s.reached.direction ≡ first_end q → IsArcTo q first second [] (corner_at s) [] None (Some s.reached.list) 1 (seen s)
  arc_of_first begins = record {
    grown = arc_begun q first second (corner_at s) (seen s) good_corner begins refl;
    ranges = record { corners_in_range = All-cons IsCornerInRange (corner_at s) [] corner_in_range (All-nil IsCornerInRange); lists = All-nil (λ (e : Edge). IsListFor (quadrant_chain q first second) e.list) };
  }

-- ---- an arc goes on to the next entry

module _ (q : Quadrant) (first second : Chain) where
  abbrev HasList : Edge → Type 0
  HasList e = IsListFor (quadrant_chain q first second) e.list

  first_part : {A : Type 0} (P : A → Type 0) (xs : List A) (y : A) → All P (xs ++ y ∷ []) → All P xs × P y
  first_part P xs y all = All-pop P (xs ++ y ∷ []) xs (Some y) refl all

  module _ (corners : List Corner) (last : Corner) (edges : List Edge) (spare : Option Prices) (n : ℕ) (r : Reached) (s : Solved) (step : IsStepTo q first second r s) where
    abbrev x : Corner
    x = corner_at s

    good : IsGoodCorner q first second x
    good = good_corner q first second s step.within step.primitive step.solved

    in_range : IsCornerInRange x
    in_range = corner_in_range q first second s step.within step.primitive step.solved

    -- where the last edge's list is tight there too, the edge goes on to the next entry's corner
    pub arc_further : (edge : Option Edge) → IsChain first → IsChain second → IsArcTo q first second corners last edges edge spare n r → IsTightLast q first second edge s.reached.direction → IsArcTo q first second corners x edges (option_map (ended_at x) edge) (Some s.reached.list) (suc n) (seen s)
    arc_further None is_first is_second arc tight = absurd tight
    arc_further (Some e) is_first is_second arc tight = record {
      grown = arc_goes_on q first second corners last edges spare n r (seen s) x e is_first is_second arc.grown good refl step.left tight;
      ranges = record {
        corners_in_range = All-append IsCornerInRange corners (x ∷ []) (first_part IsCornerInRange corners last arc.ranges.corners_in_range).0 (All-cons IsCornerInRange x [] in_range (All-nil IsCornerInRange));
        lists = All-append HasList edges (ended_at x e ∷ []) (first_part HasList edges e arc.ranges.lists).0 (All-cons HasList (ended_at x e) [] (first_part HasList edges e arc.ranges.lists).1 (All-nil HasList));
      };
    }

    chosen_list : (list : Prices) (left_over : Option Prices) → IsChosen q first second r (seen s) list left_over → IsListFor (quadrant_chain q first second) list
    chosen_list list left_over chosen = elim chosen.of_one [
      | inl e ↦ subst (IsListFor (quadrant_chain q first second)) (sym e) step.here_list
      | inr e ↦ subst (IsListFor (quadrant_chain q first second)) (sym e) step.solved.list
    ]

    chosen_covers : (list : Prices) (left_over : Option Prices) → IsChosen q first second r (seen s) list left_over → Covers (quadrant_chain q first second) list
    chosen_covers list left_over chosen = elim chosen.of_one [
      | inl e ↦ subst (Covers (quadrant_chain q first second)) (sym e) step.here.covers
      | inr e ↦ subst (Covers (quadrant_chain q first second)) (sym e) step.solved.reached.covers
    ]

    -- else one more edge goes to it, with the list that is chosen
    pub arc_with_more : (edge : Option Edge) (list : Prices) (left_over : Option Prices) → IsArcTo q first second corners last edges edge spare n r → (IsTightLast q first second edge s.reached.direction → ⊥) → IsChosen q first second r (seen s) list left_over
        → IsArcTo q first second (corners ++ last ∷ []) x (edges ++ option_to_list edge) (Some (record { from = last; to = x; list = list })) left_over (suc n) (seen s)
    arc_with_more edge list left_over arc not_tight chosen =
        let made : Edge = record { from = last; to = x; list = list } in
        record {
          grown = arc_pushed_on q first second corners last edges spare n r (seen s) x edge list left_over arc.grown good refl step.left not_tight (chosen_covers list left_over chosen) chosen.at_first chosen.at_second chosen.spare_is;
          ranges = record {
            corners_in_range = All-append IsCornerInRange (corners ++ last ∷ []) (x ∷ []) arc.ranges.corners_in_range (All-cons IsCornerInRange x [] in_range (All-nil IsCornerInRange));
            lists = All-append HasList (edges ++ option_to_list edge) (made ∷ []) arc.ranges.lists (All-cons HasList made [] (chosen_list list left_over chosen) (All-nil HasList));
          };
        }

-- ---- the same in the parts of an arc

arc_same : (q : Quadrant) (first second : Chain) (corners corners' : List Corner) (last last' : Corner) (edges edges' : List Edge) (edge edge' : Option Edge) (spare spare' : Option Prices) (n : ℕ) (r : Reached)
    → corners' ≡ corners → last' ≡ last → edges' ≡ edges → edge' ≡ edge → spare' ≡ spare → IsArcTo q first second corners last edges edge spare n r → IsArcTo q first second corners' last' edges' edge' spare' n r
arc_same q first second corners corners' last last' edges edges' edge edge' spare spare' n r p q' s t u arc =
    subst (λ (x : List Corner). IsArcTo q first second x last' edges' edge' spare' n r) (sym p)
    (subst (λ (x : Corner). IsArcTo q first second corners x edges' edge' spare' n r) (sym q')
    (subst (λ (x : List Edge). IsArcTo q first second corners last x edge' spare' n r) (sym s)
    (subst (λ (x : Option Edge). IsArcTo q first second corners last edges x spare' n r) (sym t)
    (subst (λ (x : Option Prices). IsArcTo q first second corners last edges edge x n r) (sym u) arc))))

-- the arc that is begun with the corner of a solved direction
pub begun_is : (q : Quadrant) (first second : Chain) (corners : List CornerParts) (last : CornerParts) (edges : List EdgeParts) (s : Solved) → corners ≡ [] → last ≡ corner_in s → edges ≡ []
    → IsIn q s.reached.direction → IsPrimitive s.reached.direction → s.reached.direction ≡ first_end q → IsSolvedIn q first second s → IsArcTo q first second (map corner_said corners) (corner_said last) (map edge_said edges) None (Some s.reached.list) 1 (seen s)
begun_is q first second corners last edges s no_corners last_is no_edges within primitive begins solved =
    arc_same q first second [] _ (corner_at s) _ [] _ None _ (Some s.reached.list) _ 1 (seen s)
    (ap (map corner_said) no_corners) (ap corner_said last_is) (ap (map edge_said) no_edges) refl refl
    (arc_of_first q first second s within primitive solved begins)

-- the arc whose last edge goes on to the next entry
pub extended_is : (q : Quadrant) (first second : Chain) (a : Arc) (last : CornerParts) (edge : Option EdgeParts) (s : Solved) (n : ℕ) (r : Reached) → last ≡ corner_in s → option_map edge_said edge ≡ option_map (ended_at (corner_said last)) (option_map edge_said a.edge)
    → IsChain first → IsChain second → ArcIsTo q first second a n r → IsStepTo q first second r s → IsTightLast q first second (option_map edge_said a.edge) s.reached.direction
    → IsArcTo q first second (map corner_said a.corners.items) (corner_said last) (map edge_said a.edges.items) (option_map edge_said edge) (Some s.reached.list) (suc n) (seen s)
extended_is q first second a last edge s n r last_is edge_is is_first is_second arc step tight =
    arc_same q first second (map corner_said a.corners.items) _ (corner_at s) _ (map edge_said a.edges.items) _ (option_map (ended_at (corner_at s)) (option_map edge_said a.edge)) _ (Some s.reached.list) _ (suc n) (seen s)
    refl (ap corner_said last_is) refl (edge_is ∙ ap (λ (x : CornerParts). option_map (ended_at (corner_said x)) (option_map edge_said a.edge)) last_is) refl
    (arc_further q first second (map corner_said a.corners.items) (corner_said a.last) (map edge_said a.edges.items) a.spare n r s step (option_map edge_said a.edge) is_first is_second arc tight)

-- the last corner and edge behind the others
said_corners : (corners : List CornerParts) (last : CornerParts) → map corner_said (corners ++ last ∷ []) ≡ map corner_said corners ++ corner_said last ∷ []
said_corners corners last = map-append corner_said corners (last ∷ [])

said_edges : (edges : List EdgeParts) (edge : Option EdgeParts) → map edge_said (edges ++ option_to_list edge) ≡ map edge_said edges ++ option_to_list (option_map edge_said edge)
said_edges edges None = map-append edge_said edges []
said_edges edges (Some e) = map-append edge_said edges (e ∷ [])

-- what is known of the chosen list, for a corner of the entry
abbrev pub ChoosesAt : Quadrant → Chain → Chain → Arc → Reached → Solved → Prices → Option Prices → CornerParts → Type 0
ChoosesAt q first second a r s list spare end =
    IsValueOf (chain_of q first second end.direction) (numerator end.value) (denominator end.value) → IsTightAt q first second r.list r.direction → IsTightAt q first second s.reached.list end.direction
    → IsSpareOf (list_in (option_map edge_said a.edge)) r.list a.spare → (IsTightLast q first second (option_map edge_said a.edge) end.direction → ⊥) → IsClosed q first second r (record { direction = end.direction; list = s.reached.list })
    → IsChosen q first second r (record { direction = end.direction; list = s.reached.list }) list spare

-- the arc that has one more edge to the next entry
pub pushed_is : (q : Quadrant) (first second : Chain) (a : Arc) (corners : List CornerParts) (last : CornerParts) (edges : List EdgeParts) (edge : EdgeParts) (spare : Option Prices) (s : Solved) (n : ℕ) (r : Reached) (list : Prices) → corners ≡ a.corners.items ++ a.last ∷ [] → last ≡ corner_in s
    → edges ≡ a.edges.items ++ option_to_list a.edge → edge_said edge ≡ record { from = corner_said a.last; to = corner_said last; list = list } → ChoosesAt q first second a r s list spare last
    → ArcIsTo q first second a n r → IsStepTo q first second r s → (IsTightLast q first second (option_map edge_said a.edge) s.reached.direction → ⊥)
    → IsArcTo q first second (map corner_said corners) (corner_said last) (map edge_said edges) (Some (edge_said edge)) spare (suc n) (seen s)
pushed_is q first second a corners last edges edge spare s n r list corners_are last_is edges_are edge_is chooses arc step not_tight =
    let made : Edge = record { from = corner_said a.last; to = corner_at s; list = list } in
    let to_here : edge_said edge ≡ made = edge_is ∙ ap (λ (x : CornerParts). record { from = corner_said a.last; to = corner_said x; list = list }) last_is in
    let chosen : IsChosen q first second r (seen s) list spare =
    subst (ChoosesAt q first second a r s list spare) last_is chooses step.solved.value step.here.tight step.solved.reached.tight arc.grown.spare_is not_tight step.closed in
    arc_same q first second (map corner_said a.corners.items ++ corner_said a.last ∷ []) _ (corner_at s) _ (map edge_said a.edges.items ++ option_to_list (option_map edge_said a.edge)) _ (Some made) _ spare _ (suc n) (seen s)
    (ap (map corner_said) corners_are ∙ said_corners a.corners.items a.last) (ap corner_said last_is) (ap (map edge_said) edges_are ∙ said_edges a.edges.items a.edge) (ap (λ (e : Edge). Some e) to_here) refl
    (arc_with_more q first second (map corner_said a.corners.items) (corner_said a.last) (map edge_said a.edges.items) a.spare n r s step (option_map edge_said a.edge) list spare arc not_tight chosen)

-- an arc at the end of its quadrant is a half, with its last corner and edge behind the others
pub finished_is : (q : Quadrant) (first second : Chain) (a : Arc) (h : Half) (n : ℕ) (r : Reached) → h.corners.items ≡ a.corners.items ++ a.last ∷ [] → h.edges.items ≡ a.edges.items ++ option_to_list a.edge
    → ArcIsTo q first second a n r → r.direction ≡ last_end q → n ≤ most_entries → IsHalfFan q first second h
finished_is q first second a h n r corners edges arc ends few =
    let said_c = ap (map corner_said) corners ∙ said_corners a.corners.items a.last in
    let said_e = ap (map edge_said) edges ∙ said_edges a.edges.items a.edge in
    let half = half_of_arc q first second (map corner_said a.corners.items) (corner_said a.last) (map edge_said a.edges.items) (option_map edge_said a.edge) a.spare n r arc.grown ends in
    record {
      half = subst (λ (cs : List Corner). IsHalf q first second cs (map edge_said h.edges.items)) (sym said_c)
          (subst (IsHalf q first second (map corner_said a.corners.items ++ corner_said a.last ∷ [])) (sym said_e) half);
      ranges = record {
        corners_in_range = subst (All IsCornerInRange) (sym said_c) arc.ranges.corners_in_range;
        lists = subst (All (λ (e : Edge). IsListFor (quadrant_chain q first second) e.list)) (sym said_e) arc.ranges.lists;
      };
      few = omega (arith, ap length corners, length-append a.corners.items (a.last ∷ []), length-map a.corners.items corner_said, arc.grown.few);
    }

-- the same of an answer that may be a refusal
pub finished_ok : {E : Type 0} (q : Quadrant) (first second : Chain) (a : Arc) (n : ℕ) (r : Reached) (result : Result Half E) → IfOk result (λ h. h.corners.items ≡ a.corners.items ++ a.last ∷ []) → IfOk result (λ h. h.edges.items ≡ a.edges.items ++ option_to_list a.edge)
    → ArcIsTo q first second a n r → r.direction ≡ last_end q → n ≤ most_entries → IfOk result (IsHalfFan q first second)
finished_ok q first second a n r (Ok h) corners edges arc ends few = finished_is q first second a h n r corners edges arc ends few
finished_ok q first second a n r (Err e) corners edges arc ends few = tt

-- ---- along a whole search

module _ (q : Quadrant) (first second : Chain) (is_first : IsChain first) (is_second : IsChain second) (entries : List Solved) (searched : IsSearchedTo q first second entries (length entries)) where
  abbrev rs : List Reached
  rs = entries_of entries

  sweep : IsSweep q first second rs
  sweep = sweep_of q first second is_first is_second entries (length entries) searched

  module _ (n : ℕ) (s : Solved) (at_n : slice_get entries n ≡ Some s) where
    inside : n < length entries
    inside = slice_get_within entries n s at_n

    mapped_inside : n < length rs
    mapped_inside = subst (λ (k : ℕ). n < k) (sym (length-map entries seen)) inside

    read_is : s ≡ get_or entries n s
    read_is = sym (get_or_from_slice_get entries n s s at_n)

    -- the entry number n of the search is this one, and is solved
    pub entry_is : reached rs n ≡ seen s
    entry_is = reached_at seen entries n s inside read_is

    pub entry_solved : IsSolvedIn q first second s
    entry_solved = subst (IsSolvedIn q first second) (sym read_is) (All-get_or (IsSolvedIn q first second) entries n s inside searched.solved)

    entry_within : IsIn q s.reached.direction
    entry_within = subst (λ (r : Reached). IsIn q r.direction) entry_is (sweep.within n mapped_inside)

    entry_primitive : IsPrimitive s.reached.direction
    entry_primitive = subst (λ (r : Reached). IsPrimitive r.direction) entry_is (sweep.primitive n mapped_inside)

    step_at : (k : ℕ) → n ≡ suc k → IsStepTo q first second (reached rs k) s
    step_at k e = record {
      here = sweep.tight k (omega (arith, e, mapped_inside));
      here_list = entry_has q first second (λ r. IsListFor (quadrant_chain q first second) r.list) (λ u is. is.list) entries searched.solved k (omega (arith, e, inside));
      left = subst (λ (r : Reached). TurnsLeft (reached rs k).direction r.direction) at_next (sweep.left k (omega (arith, e, mapped_inside)));
      closed = subst (IsClosed q first second (reached rs k)) at_next (searched.closed k (omega (arith, e, inside)));
      within = entry_within;
      primitive = entry_primitive;
      solved = entry_solved;
    }
      where
        at_next : reached rs (suc k) ≡ seen s
        at_next = ap (reached rs) (sym e) ∙ entry_is

    -- the arc of the first entry
    pub along_first : (a : Arc) → n ≡ 0 → (IsIn q s.reached.direction → IsPrimitive s.reached.direction → s.reached.direction ≡ first_end q → IsSolvedIn q first second s → ArcIsTo q first second a 1 (seen s)) → IsArcAlong q first second rs (Some a) (suc n)
    along_first a e begins =
        let at_first : reached rs 0 ≡ seen s = ap (reached rs) (sym e) ∙ entry_is in
        let arc : ArcIsTo q first second a 1 (seen s) = begins entry_within entry_primitive (ap (λ (r : Reached). r.direction) (sym at_first) ∙ sweep.begins) entry_solved in
        (0, ap suc e, moved a (suc n) (seen s) (reached rs 0) (sym (ap suc e)) (sym at_first) arc)
      where
        moved : (a : Arc) (m : ℕ) (r u : Reached) → 1 ≡ m → r ≡ u → ArcIsTo q first second a 1 r → ArcIsTo q first second a m u
        moved a m r u e e' arc = subst (λ (k : ℕ). ArcIsTo q first second a k u) e (subst (ArcIsTo q first second a 1) e' arc)

    -- and its step to the next
    pub along_further : (a b : Arc) → IsArcAlong q first second rs (Some a) n → ((m : ℕ) (r : Reached) → ArcIsTo q first second a m r → IsStepTo q first second r s → ArcIsTo q first second b (suc m) (seen s)) → IsArcAlong q first second rs (Some b) (suc n)
    along_further a b arc grows = (n, refl, subst (ArcIsTo q first second b (suc n)) (sym entry_is) (grows n (reached rs arc.0) arc.2 (step_at arc.0 arc.1)))

    -- the same of an answer that may be a refusal
    pub along_further_ok : {E : Type 0} (a : Arc) (result : Result Arc E) → IsArcAlong q first second rs (Some a) n → ((m : ℕ) (r : Reached) → ArcIsTo q first second a m r → IsStepTo q first second r s → IfOk result (λ b. ArcIsTo q first second b (suc m) (seen s))) → IfOk result (λ b. IsArcAlong q first second rs (Some b) (suc n))
    along_further_ok a (Ok b) arc grows = along_further a b arc grows
    along_further_ok a (Err e) arc grows = tt

  -- at the end it is a half
  pub along_all : (a : Arc) (h : Half) → IsArcAlong q first second rs (Some a) (length entries) → ((n : ℕ) (r : Reached) → ArcIsTo q first second a n r → r.direction ≡ last_end q → n ≤ most_entries → IsHalfFan q first second h) → IsHalfFan q first second h
  along_all a h arc finishes =
      finishes (length entries) (reached rs arc.0) arc.2 (sweep.ends arc.0 (sym arc.1 ∙ sym (length-map entries seen))) (few_entries q first second is_first is_second entries (length entries) searched)

  -- the same of an answer that may be a refusal
  pub along_all_ok : {E : Type 0} (a : Arc) (result : Result Half E) → IsArcAlong q first second rs (Some a) (length entries) → ((n : ℕ) (r : Reached) → ArcIsTo q first second a n r → r.direction ≡ last_end q → n ≤ most_entries → IfOk result (IsHalfFan q first second)) → IfOk result (IsHalfFan q first second)
  along_all_ok a (Ok h) arc finishes = along_all a h arc finishes
  along_all_ok a (Err e) arc finishes = tt

  -- a search has entries
  pub some_entries : 0 < length entries
  some_entries = subst (λ (k : ℕ). 0 < k) (length-map entries seen) (some_in rs searched.search)
    where
      some_in : (us : List Reached) → IsSearch q first second us → 0 < length us
      some_in _ (begun from to here there) = omega arith
      some_in _ (grown before r x u after search opened next got) = omega (arith, length-append before (r ∷ x ∷ u ∷ after))
