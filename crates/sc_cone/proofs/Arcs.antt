-- How arcs begin and grow: by a further corner with an edge of its own, or with the last edge gone on with.
use Rattle.std.proofs.Common.{◌≡◌, ℕ, zero, suc, ◌+◌, ◌<◌, ◌≤◌, List, [], ◌∷◌, ◌++◌, length, get_or, inl, inr, arith, refl, sym, ap, subst, ◌∙◌}
use Rattle.std.proofs.lemmas.Bool.{cases_lt}
use Rattle.std.proofs.lemmas.List.{length-append, get_or_append_left, get_or-append-add}
use Rattle.sc_theory.specs.Chains.{Chain, IsChain}
use Rattle.sc_theory.specs.Prices.{Prices, Covers}
use Rattle.sc_cone.specs.declared.Quadrant.{Quadrant}
use Rattle.sc_cone.specs.Directions.{IsIn, IsPrimitive, TurnsLeft}
use Rattle.sc_cone.specs.Cones.{chain_of, quadrant_chain}
use Rattle.sc_cone.specs.Values.{IsValueOf, IsTightAt}
use Rattle.sc_cone.specs.Fans.{Corner, Edge, no_corner, no_edge, IsGoodCorner, IsArc}
use Rattle.sc_cone.proofs.Turning.{turns_on}
use Rattle.sc_cone.proofs.NextDirections.{not_tight_beyond}

-- one corner, and no edge, is an arc
pub arc_of_one : (q : Quadrant) (first second : Chain) (c : Corner) → IsGoodCorner q first second c → IsArc q first second (c ∷ []) []
arc_of_one q first second c good = record {
  count = refl;
  within = λ i inside. subst (λ (x : Corner). IsIn q x.direction) (sym (only i inside)) good.within;
  primitive = λ i inside. subst (λ (x : Corner). IsPrimitive x.direction) (sym (only i inside)) good.primitive;
  left = λ i inside. absurd (omega arith);
  values = λ i inside. subst (λ (x : Corner). IsValueOf (chain_of q first second x.direction) x.value.0 x.value.1) (sym (only i inside)) good.value;
  joins = λ i inside. absurd (omega arith);
  covers = λ i inside. absurd (omega arith);
  tight = λ i inside. absurd (omega arith);
  apart = λ i inside. absurd (omega arith);
}
  where
    only : (i : ℕ) → i < 1 → get_or (c ∷ []) i no_corner ≡ c
    only zero inside = refl
    only (suc i) inside = absurd (omega arith)

-- the entries of lists that are longer by one
module _ {A : Type 0} (none : A) where
  pub at_before : (xs ys : List A) (i : ℕ) → i < length xs → get_or (xs ++ ys) i none ≡ get_or xs i none
  at_before xs ys i inside = get_or_append_left xs ys none i inside

  pub at_here : (xs : List A) (y : A) (ys : List A) (i : ℕ) → i ≡ length xs → get_or (xs ++ y ∷ ys) i none ≡ y
  at_here xs y ys i e =
      let f : i ≡ length xs + 0 = omega arith in
      ap (λ (k : ℕ). get_or (xs ++ y ∷ ys) k none) f ∙ get_or-append-add xs (y ∷ ys) 0 none

  pub at_next : (xs : List A) (y z : A) (ys : List A) (i : ℕ) → i ≡ suc (length xs) → get_or (xs ++ y ∷ z ∷ ys) i none ≡ z
  at_next xs y z ys i e =
      let f : i ≡ length xs + 1 = omega arith in
      ap (λ (k : ℕ). get_or (xs ++ y ∷ z ∷ ys) k none) f ∙ get_or-append-add xs (y ∷ z ∷ ys) 1 none

  pub same_to_here : (xs : List A) (y : A) (ys zs : List A) (i : ℕ) → i ≤ length xs → get_or (xs ++ y ∷ ys) i none ≡ get_or (xs ++ y ∷ zs) i none
  same_to_here [] y ys zs zero inside = refl
  same_to_here [] y ys zs (suc i) inside = absurd (omega arith)
  same_to_here (x ∷ xs) y ys zs zero inside = refl
  same_to_here (x ∷ xs) y ys zs (suc i) inside = same_to_here xs y ys zs i (omega arith)

module _ (q : Quadrant) (first second : Chain) where
  -- facts of corners and edges, carried along
  moved_left : (c d x y : Corner) → c ≡ x → d ≡ y → TurnsLeft c.direction d.direction → TurnsLeft x.direction y.direction
  moved_left c d x y e f left =
      subst (λ (z : Corner). TurnsLeft z.direction y.direction) e (subst (λ (z : Corner). TurnsLeft c.direction z.direction) f left)

  moved_tight : (e f : Edge) (c d : Corner) → e ≡ f → c ≡ d → IsTightAt q first second e.list c.direction → IsTightAt q first second f.list d.direction
  moved_tight e f c d p r tight =
      subst (λ (x : Edge). IsTightAt q first second x.list d.direction) p (subst (λ (x : Corner). IsTightAt q first second e.list x.direction) r tight)

  moved_joins : (e f : Edge) (c d x y : Corner) → e ≡ f → c ≡ x → d ≡ y → (e.from ≡ c) × (e.to ≡ d) → (f.from ≡ x) × (f.to ≡ y)
  moved_joins e f c d x y p r s joined = (ap (λ (z : Edge). z.from) (sym p) ∙ joined.0 ∙ r, ap (λ (z : Edge). z.to) (sym p) ∙ joined.1 ∙ s)

  moved_good : (c d : Corner) → c ≡ d → IsGoodCorner q first second c → IsGoodCorner q first second d
  moved_good c d e good = subst (IsGoodCorner q first second) e good

  good_at : (cs : List Corner) (es : List Edge) → IsArc q first second cs es → (i : ℕ) → i < length cs → IsGoodCorner q first second (get_or cs i no_corner)
  good_at cs es arc i inside = record { within = arc.within i inside; primitive = arc.primitive i inside; value = arc.values i inside }

  -- ---- a further corner with a new edge
  module _ (before : List Corner) (d : Corner) (es : List Edge) (x : Corner) (list : Prices) (arc : IsArc q first second (before ++ d ∷ []) es) (good : IsGoodCorner q first second x) (left : TurnsLeft d.direction x.direction) (covers : Covers (quadrant_chain q first second) list) (at_d : IsTightAt q first second list d.direction) (at_x : IsTightAt q first second list x.direction) (open_end : (k : ℕ) → suc k ≡ length es → IsTightAt q first second (get_or es k no_edge).list x.direction → ⊥) where
    abbrev new : Edge
    new = record { from = d; to = x; list = list }

    abbrev cs : List Corner
    cs = before ++ d ∷ []

    abbrev ds : List Corner
    ds = before ++ d ∷ x ∷ []

    abbrev fs : List Edge
    fs = es ++ new ∷ []

    size_cs : length cs ≡ length before + 1
    size_cs = length-append before (d ∷ [])

    size_ds : length ds ≡ length before + 2
    size_ds = length-append before (d ∷ x ∷ [])

    size_es : length es ≡ length before
    size_es = omega (arith, arc.count, size_cs)

    size_fs : length fs ≡ length before + 1
    size_fs = omega (arith, length-append es (new ∷ []), size_es)

    old : (i : ℕ) → i ≤ length before → get_or cs i no_corner ≡ get_or ds i no_corner
    old i inside = same_to_here no_corner before d [] (x ∷ []) i inside

    last : (i : ℕ) → i ≡ length before → d ≡ get_or ds i no_corner
    last i e = sym (at_here no_corner before d (x ∷ []) i e)

    further : (i : ℕ) → i ≡ suc (length before) → x ≡ get_or ds i no_corner
    further i e = sym (at_next no_corner before d x [] i e)

    old_edge : (i : ℕ) → i < length before → get_or es i no_edge ≡ get_or fs i no_edge
    old_edge i inside = sym (at_before no_edge es (new ∷ []) i (omega (arith, size_es)))

    new_edge : (i : ℕ) → i ≡ length before → new ≡ get_or fs i no_edge
    new_edge i e = sym (at_here no_edge es new [] i (omega (arith, size_es)))

    good_all : (i : ℕ) → i < length ds → IsGoodCorner q first second (get_or ds i no_corner)
    good_all i inside =
        elim (cases_lt (length before) i) [
          | inl past ↦ moved_good x (get_or ds i no_corner) (further i (omega (arith, size_ds))) good
          | inr here ↦ moved_good (get_or cs i no_corner) (get_or ds i no_corner) (old i here) (good_at cs es arc i (omega (arith, size_cs)))
        ]

    -- the arc with the new corner and edge at its end
    pub arc_pushed : IsArc q first second (before ++ d ∷ x ∷ []) (es ++ (record { from = d; to = x; list = list }) ∷ [])
    arc_pushed = record {
      count = omega (arith, size_fs, size_ds);
      within = λ i inside. (good_all i inside).within;
      primitive = λ i inside. (good_all i inside).primitive;
      values = λ i inside. (good_all i inside).value;
      left = λ i inside.
          elim (cases_lt i (length before)) [
            | inl here ↦ moved_left (get_or cs i no_corner) (get_or cs (suc i) no_corner) (get_or ds i no_corner) (get_or ds (suc i) no_corner) (old i (omega arith)) (old (suc i) (omega arith)) (arc.left i (omega (arith, size_cs)))
            | inr past ↦ moved_left d x (get_or ds i no_corner) (get_or ds (suc i) no_corner) (last i (omega (arith, size_ds))) (further (suc i) (omega (arith, size_ds))) left
          ];
      joins = λ i inside.
          elim (cases_lt i (length before)) [
            | inl here ↦ moved_joins (get_or es i no_edge) (get_or fs i no_edge) _ _ (get_or ds i no_corner) (get_or ds (suc i) no_corner) (old_edge i here) (old i (omega arith)) (old (suc i) (omega arith)) (arc.joins i (omega (arith, size_es)))
            | inr past ↦ moved_joins new (get_or fs i no_edge) d x (get_or ds i no_corner) (get_or ds (suc i) no_corner) (new_edge i (omega (arith, size_fs))) (last i (omega (arith, size_fs))) (further (suc i) (omega (arith, size_fs))) (refl, refl)
          ];
      covers = λ i inside.
          elim (cases_lt i (length before)) [
            | inl here ↦ subst (λ (e : Edge). Covers (quadrant_chain q first second) e.list) (old_edge i here) (arc.covers i (omega (arith, size_es)))
            | inr past ↦ subst (λ (e : Edge). Covers (quadrant_chain q first second) e.list) (new_edge i (omega (arith, size_fs))) covers
          ];
      tight = λ i inside.
          elim (cases_lt i (length before)) [
            | inl here ↦
                let both = arc.tight i (omega (arith, size_es)) in (
                  moved_tight (get_or es i no_edge) (get_or fs i no_edge) _ (get_or ds i no_corner) (old_edge i here) (old i (omega arith)) both.0,
                  moved_tight (get_or es i no_edge) (get_or fs i no_edge) _ (get_or ds (suc i) no_corner) (old_edge i here) (old (suc i) (omega arith)) both.1,
                )
            | inr past ↦ (
              moved_tight new (get_or fs i no_edge) d (get_or ds i no_corner) (new_edge i (omega (arith, size_fs))) (last i (omega (arith, size_fs))) at_d,
              moved_tight new (get_or fs i no_edge) x (get_or ds (suc i) no_corner) (new_edge i (omega (arith, size_fs))) (further (suc i) (omega (arith, size_fs))) at_x,
            )
          ];
      apart = λ i inside tight.
          elim (cases_lt (suc i) (length before)) [
            | inl here ↦
                arc.apart i (omega (arith, size_es))
                (moved_tight (get_or fs i no_edge) (get_or es i no_edge) (get_or ds (suc (suc i)) no_corner) _ (sym (old_edge i (omega arith))) (sym (old (suc (suc i)) (omega arith))) tight)
            | inr past ↦
                open_end i (omega (arith, size_es, size_fs))
                (moved_tight (get_or fs i no_edge) (get_or es i no_edge) (get_or ds (suc (suc i)) no_corner) x (sym (old_edge i (omega (arith, size_fs)))) (sym (further (suc (suc i)) (omega (arith, size_fs)))) tight)
          ];
    }

  -- ---- a further corner at the end of the last edge
  module _ (is_first : IsChain first) (is_second : IsChain second) (before : List Corner) (d : Corner) (es : List Edge) (e : Edge) (x : Corner) (arc : IsArc q first second (before ++ d ∷ []) (es ++ e ∷ [])) (good : IsGoodCorner q first second x) (left : TurnsLeft d.direction x.direction) (at_x : IsTightAt q first second e.list x.direction) where
    abbrev longer : Edge
    longer = record { from = e.from; to = x; list = e.list }

    abbrev old_corners : List Corner
    old_corners = before ++ d ∷ []

    abbrev new_corners : List Corner
    new_corners = before ++ x ∷ []

    abbrev old_edges : List Edge
    old_edges = es ++ e ∷ []

    abbrev new_edges : List Edge
    new_edges = es ++ longer ∷ []

    size_old : length old_corners ≡ length before + 1
    size_old = length-append before (d ∷ [])

    size_new : length new_corners ≡ length before + 1
    size_new = length-append before (x ∷ [])

    size_old_edges : length old_edges ≡ length es + 1
    size_old_edges = length-append es (e ∷ [])

    size_new_edges : length new_edges ≡ length es + 1
    size_new_edges = length-append es (longer ∷ [])

    one_less : length before ≡ length es + 1
    one_less = omega (arith, arc.count, size_old, size_old_edges)

    kept : (i : ℕ) → i < length before → get_or old_corners i no_corner ≡ get_or new_corners i no_corner
    kept i inside = at_before no_corner before (d ∷ []) i inside ∙ sym (at_before no_corner before (x ∷ []) i inside)

    was_last : (i : ℕ) → i ≡ length before → get_or old_corners i no_corner ≡ d
    was_last i h = at_here no_corner before d [] i h

    is_last : (i : ℕ) → i ≡ length before → x ≡ get_or new_corners i no_corner
    is_last i h = sym (at_here no_corner before x [] i h)

    kept_edge : (i : ℕ) → i < length es → get_or old_edges i no_edge ≡ get_or new_edges i no_edge
    kept_edge i inside = at_before no_edge es (e ∷ []) i inside ∙ sym (at_before no_edge es (longer ∷ []) i inside)

    was_edge : (i : ℕ) → i ≡ length es → get_or old_edges i no_edge ≡ e
    was_edge i h = at_here no_edge es e [] i h

    is_edge : (i : ℕ) → i ≡ length es → longer ≡ get_or new_edges i no_edge
    is_edge i h = sym (at_here no_edge es longer [] i h)

    good_new : (i : ℕ) → i < length new_corners → IsGoodCorner q first second (get_or new_corners i no_corner)
    good_new i inside =
        elim (cases_lt i (length before)) [
          | inl here ↦ moved_good (get_or old_corners i no_corner) (get_or new_corners i no_corner) (kept i here) (good_at old_corners old_edges arc i (omega (arith, size_old)))
          | inr past ↦ moved_good x (get_or new_corners i no_corner) (is_last i (omega (arith, size_new))) good
        ]

    in_d : IsIn q d.direction
    in_d = subst (λ (c : Corner). IsIn q c.direction) (was_last (length before) refl) (arc.within (length before) (omega (arith, size_old)))

    -- the arc whose last edge goes on to the new corner, which stands in place of the last one
    pub arc_extended : IsArc q first second (before ++ x ∷ []) (es ++ (record { from = e.from; to = x; list = e.list }) ∷ [])
    arc_extended = record {
      count = omega (arith, size_new, size_new_edges, one_less);
      within = λ i inside. (good_new i inside).within;
      primitive = λ i inside. (good_new i inside).primitive;
      values = λ i inside. (good_new i inside).value;
      left = λ i inside.
          elim (cases_lt (suc i) (length before)) [
            | inl here ↦ moved_left (get_or old_corners i no_corner) (get_or old_corners (suc i) no_corner) (get_or new_corners i no_corner) (get_or new_corners (suc i) no_corner) (kept i (omega arith)) (kept (suc i) here) (arc.left i (omega (arith, size_old)))
            | inr past ↦
                let c : Corner = get_or old_corners i no_corner in
                let to_d : TurnsLeft c.direction d.direction = moved_left c (get_or old_corners (suc i) no_corner) c d refl (was_last (suc i) (omega (arith, size_new))) (arc.left i (omega (arith, size_new, size_old))) in
                moved_left c x (get_or new_corners i no_corner) (get_or new_corners (suc i) no_corner) (kept i (omega (arith, size_new))) (is_last (suc i) (omega (arith, size_new)))
                (turns_on q c.direction d.direction x.direction (arc.within i (omega (arith, size_new, size_old))) in_d good.within to_d left)
          ];
      joins = λ i inside.
          elim (cases_lt i (length es)) [
            | inl here ↦ moved_joins (get_or old_edges i no_edge) (get_or new_edges i no_edge) _ _ (get_or new_corners i no_corner) (get_or new_corners (suc i) no_corner) (kept_edge i here) (kept i (omega (arith, one_less))) (kept (suc i) (omega (arith, one_less))) (arc.joins i (omega (arith, size_old_edges)))
            | inr past ↦
                let at : i ≡ length es = omega (arith, size_new_edges) in
                moved_joins longer (get_or new_edges i no_edge) _ x (get_or new_corners i no_corner) (get_or new_corners (suc i) no_corner) (is_edge i at) (kept i (omega (arith, one_less))) (is_last (suc i) (omega (arith, one_less)))
                (ap (λ (z : Edge). z.from) (sym (was_edge i at)) ∙ (arc.joins i (omega (arith, size_old_edges))).0, refl)
          ];
      covers = λ i inside.
          elim (cases_lt i (length es)) [
            | inl here ↦ subst (λ (z : Edge). Covers (quadrant_chain q first second) z.list) (kept_edge i here) (arc.covers i (omega (arith, size_old_edges)))
            | inr past ↦
                let at : i ≡ length es = omega (arith, size_new_edges) in
                subst (λ (z : Edge). Covers (quadrant_chain q first second) z.list) (is_edge i at)
                (subst (λ (z : Edge). Covers (quadrant_chain q first second) z.list) (was_edge i at) (arc.covers i (omega (arith, size_old_edges))))
          ];
      tight = λ i inside.
          elim (cases_lt i (length es)) [
            | inl here ↦
                let both = arc.tight i (omega (arith, size_old_edges)) in (
                  moved_tight (get_or old_edges i no_edge) (get_or new_edges i no_edge) _ (get_or new_corners i no_corner) (kept_edge i here) (kept i (omega (arith, one_less))) both.0,
                  moved_tight (get_or old_edges i no_edge) (get_or new_edges i no_edge) _ (get_or new_corners (suc i) no_corner) (kept_edge i here) (kept (suc i) (omega (arith, one_less))) both.1,
                )
            | inr past ↦
                let at : i ≡ length es = omega (arith, size_new_edges) in
                let both = arc.tight i (omega (arith, size_old_edges)) in (
                  moved_tight longer (get_or new_edges i no_edge) _ (get_or new_corners i no_corner) (is_edge i at) (kept i (omega (arith, one_less))) (moved_tight (get_or old_edges i no_edge) e (get_or old_corners i no_corner) (get_or old_corners i no_corner) (was_edge i at) refl both.0),
                  moved_tight longer (get_or new_edges i no_edge) x (get_or new_corners (suc i) no_corner) (is_edge i at) (is_last (suc i) (omega (arith, one_less))) at_x,
                )
          ];
      apart = λ i inside tight.
          let list : Prices = (get_or old_edges i no_edge).list in
          elim (cases_lt (suc i) (length es)) [
            | inl here ↦
                arc.apart i (omega (arith, size_old_edges))
                (moved_tight (get_or new_edges i no_edge) (get_or old_edges i no_edge) (get_or new_corners (suc (suc i)) no_corner) _ (sym (kept_edge i (omega arith))) (sym (kept (suc (suc i)) (omega (arith, one_less)))) tight)
            | inr past ↦
                let c : Corner = get_or old_corners (suc i) no_corner in
                let at_end : get_or old_corners (suc (suc i)) no_corner ≡ d = was_last (suc (suc i)) (omega (arith, size_new_edges, one_less)) in
                let to_d : TurnsLeft c.direction d.direction = moved_left c (get_or old_corners (suc (suc i)) no_corner) c d refl at_end (arc.left (suc i) (omega (arith, size_new_edges, one_less, size_old))) in
                not_tight_beyond q first second list c.direction d.direction x.direction is_first is_second
                (arc.covers i (omega (arith, size_new_edges, size_old_edges)))
                (arc.within (suc i) (omega (arith, size_new_edges, one_less, size_old))) in_d good.within to_d left
                (arc.tight i (omega (arith, size_new_edges, size_old_edges))).1
                (λ at_d. arc.apart i (omega (arith, size_new_edges, size_old_edges)) (subst (λ (z : Corner). IsTightAt q first second list z.direction) (sym at_end) at_d))
                (moved_tight (get_or new_edges i no_edge) (get_or old_edges i no_edge) (get_or new_corners (suc (suc i)) no_corner) x (sym (kept_edge i (omega (arith, size_new_edges)))) (sym (is_last (suc (suc i)) (omega (arith, size_new_edges, one_less)))) tight)
          ];
    }
