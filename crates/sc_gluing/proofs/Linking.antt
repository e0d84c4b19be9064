-- Places linked by their kinds, and cursors that go along the links.
use Rattle.std.proofs.Common.{◌≡◌, ◌≢◌, ℕ, suc, ◌+◌, ◌<◌, eqb, List, [], ◌∷◌, ◌++◌, length, get_or, set, inl, inr, arith, refl, sym, ap, subst, ◌∙◌, length-append, get_or-set_same, get_or-set_other}
use Rattle.std.proofs.Math.ListN.{length-set}
use Rattle.std.proofs.Math.Seq.{get_or-append_seam}
use Rattle.std.proofs.lemmas.List.{get_or_append_left}
use Rattle.std.proofs.lemmas.Bool.{cases_eq, cases_lt, eq-eqb, ne_eqb}
use Rattle.sc_gluing.specs.Matching.{so_far, AreMatchable, IsNext}
use Rattle.sc_gluing.specs.inside.Matching.{AreLinked}
use Rattle.sc_gluing.proofs.Ranks.{counted, uncounted}
use Rattle.std.specs.Prelude.{◌≤◌}

-- each kind's cursor stands behind as many places of the kind as the first s places ask for
pub record IsCursor (kinds opposites : List ℕ) (s k t : ℕ) : Type 0 where
  pub until : t ≤ length kinds
  pub passed : so_far kinds k t ≡ so_far opposites k s
  pub kind : t < length kinds → get_or kinds t 0 ≡ k

-- the first s places have their partners
pub record ArePaired (kinds opposites : List ℕ) (s : ℕ) (cursors partners : List ℕ) : Type 0 where
  pub as_many : length partners ≡ s
  pub cursor : (k : ℕ) → k < length cursors → IsCursor kinds opposites s k (get_or cursors k 0)
  pub inside : (t : ℕ) → t < s → get_or partners t 0 < length kinds
  pub opposite : (t : ℕ) → t < s → get_or kinds (get_or partners t 0) 0 ≡ get_or opposites t 0
  pub in_order : (t : ℕ) → t < s → so_far kinds (get_or opposites t 0) (get_or partners t 0) ≡ so_far opposites (get_or opposites t 0) t

so_far_here : (xs : List ℕ) (k s : ℕ) → get_or xs s 0 ≡ k → so_far xs k (suc s) ≡ suc (so_far xs k s)
so_far_here xs k s e = counted (λ t. eqb (get_or xs t 0) k) s (eq-eqb (get_or xs s 0) k e)

so_far_other : (xs : List ℕ) (k s : ℕ) → get_or xs s 0 ≢ k → so_far xs k (suc s) ≡ so_far xs k s
so_far_other xs k s d = uncounted (λ t. eqb (get_or xs t 0) k) s (ne_eqb (get_or xs s 0) k d)

-- ---- links, from the last place down

-- the place before the linked ones becomes the first of its kind, and the one that was the first follows it
pub one_linked : (kinds firsts following : List ℕ) (here : ℕ) → AreLinked kinds (suc here) firsts following → here < length kinds → get_or kinds here 0 < length firsts →
    AreLinked kinds here (set firsts (get_or kinds here 0) here) (set following here (get_or firsts (get_or kinds here 0) 0))
one_linked kinds firsts following here are inside below =
    let kind : ℕ = get_or kinds here 0 in
    let old : IsNext kinds kind (suc here) (get_or firsts kind 0) = are.first kind below in
    record {
      as_many = length-set following here (get_or firsts kind 0) ∙ are.as_many;
      first = λ k h. elim (cases_eq k kind) [
        | inl same ↦
            let now : get_or (set firsts kind here) k 0 ≡ here = ap (λ (m : ℕ). get_or (set firsts kind here) m 0) same ∙ get_or-set_same firsts kind here 0 below in
            record {
              from = omega (arith, now);
              until = omega (arith, now);
              none_between = ap (so_far kinds k) now;
              kind = λ _. ap (λ (t : ℕ). get_or kinds t 0) now ∙ sym same;
            }
        | inr other ↦
            let kept : get_or (set firsts kind here) k 0 ≡ get_or firsts k 0 = get_or-set_other firsts kind k here 0 other in
            let next : IsNext kinds k (suc here) (get_or firsts k 0) = are.first k (omega (arith, length-set firsts kind here)) in
            subst (IsNext kinds k here) (sym kept) (record {
              from = omega (arith, next.from);
              until = next.until;
              none_between = next.none_between ∙ so_far_other kinds k here (λ e. other (sym e));
              kind = next.kind;
            })
      ];
      next = λ t h in_range. elim (cases_eq t here) [
        | inl same ↦
            let now : get_or (set following here (get_or firsts kind 0)) t 0 ≡ get_or firsts kind 0 =
            ap (λ (m : ℕ). get_or (set following here (get_or firsts kind 0)) m 0) same ∙ get_or-set_same following here (get_or firsts kind 0) 0 (omega (arith, are.as_many)) in
            subst (IsNext kinds (get_or kinds t 0) (suc t)) (sym now)
            (subst (λ (m : ℕ). IsNext kinds (get_or kinds m 0) (suc m) (get_or firsts kind 0)) (sym same) old)
        | inr other ↦
            subst (IsNext kinds (get_or kinds t 0) (suc t)) (sym (get_or-set_other following here t (get_or firsts kind 0) 0 other)) (are.next t (omega arith) in_range)
      ];
    }

-- ---- cursors along the links

-- the cursor of a kind that is asked for stands at a place
pub cursor_inside : (kinds opposites cursors partners : List ℕ) (bound s : ℕ) → AreMatchable kinds opposites bound → bound ≡ length cursors → ArePaired kinds opposites s cursors partners → s < length kinds → get_or cursors (get_or opposites s 0) 0 < length kinds
cursor_inside kinds opposites cursors partners bound s may len are inside =
    let o : ℕ = get_or opposites s 0 in
    let c : IsCursor kinds opposites s o (get_or cursors o 0) = are.cursor o (omega (arith, may.opposites_below s inside)) in
    elim (cases_lt (get_or cursors o 0) (length kinds)) [
      | inl below ↦ below
      | inr end ↦
          let at : get_or cursors o 0 ≡ length kinds = omega (arith, c.until) in
          absurd (omega (arith, may.enough s inside, c.passed, ap (so_far kinds o) at))
    ]

-- one place more has a partner, where its opposite kind's cursor stands; the cursor goes to the next of that kind
pub one_paired : (kinds opposites cursors following partners : List ℕ) (bound s : ℕ) → AreMatchable kinds opposites bound → bound ≡ length cursors → ArePaired kinds opposites s cursors partners → s < length kinds →
    ((t : ℕ) → t < length kinds → IsNext kinds (get_or kinds t 0) (suc t) (get_or following t 0)) →
    ArePaired kinds opposites (s + 1) (set cursors (get_or opposites s 0) (get_or following (get_or cursors (get_or opposites s 0) 0) 0)) (partners ++ get_or cursors (get_or opposites s 0) 0 ∷ [])
one_paired kinds opposites cursors following partners bound s may len are inside links =
    let o : ℕ = get_or opposites s 0 in
    let t : ℕ = get_or cursors o 0 in
    let below : o < length cursors = omega (arith, may.opposites_below s inside) in
    let c : IsCursor kinds opposites s o t = are.cursor o below in
    let there : t < length kinds = cursor_inside kinds opposites cursors partners bound s may len are inside in
    let kind_is : get_or kinds t 0 ≡ o = c.kind there in
    let link : IsNext kinds o (suc t) (get_or following t 0) = subst (λ (k : ℕ). IsNext kinds k (suc t) (get_or following t 0)) kind_is (links t there) in
    let more : s + 1 ≡ suc s = omega arith in
    let last : (u : ℕ) → u < s → get_or (partners ++ t ∷ []) u 0 ≡ get_or partners u 0 = λ u h. get_or_append_left partners (t ∷ []) 0 u (omega (arith, are.as_many)) in
    let new : (u : ℕ) → u ≡ s → get_or (partners ++ t ∷ []) u 0 ≡ t = λ u e. ap (λ (m : ℕ). get_or (partners ++ t ∷ []) m 0) (e ∙ sym are.as_many) ∙ get_or-append_seam partners t [] 0 in
    record {
      as_many = omega (arith, length-append partners (t ∷ []), are.as_many);
      cursor = λ k h. elim (cases_eq k o) [
        | inl same ↦
            let now : get_or (set cursors o (get_or following t 0)) k 0 ≡ get_or following t 0 =
            ap (λ (m : ℕ). get_or (set cursors o (get_or following t 0)) m 0) same ∙ get_or-set_same cursors o (get_or following t 0) 0 below in
            subst (λ (m : ℕ). IsCursor kinds opposites (s + 1) k m) (sym now) (subst (λ (m : ℕ). IsCursor kinds opposites (s + 1) m (get_or following t 0)) (sym same) (record {
              until = link.until;
              passed = link.none_between ∙ so_far_here kinds o t kind_is ∙ ap suc c.passed ∙ sym (ap (so_far opposites o) more ∙ so_far_here opposites o s refl);
              kind = link.kind;
            }))
        | inr other ↦
            let kept : get_or (set cursors o (get_or following t 0)) k 0 ≡ get_or cursors k 0 = get_or-set_other cursors o k (get_or following t 0) 0 other in
            let old : IsCursor kinds opposites s k (get_or cursors k 0) = are.cursor k (omega (arith, length-set cursors o (get_or following t 0))) in
            subst (λ (m : ℕ). IsCursor kinds opposites (s + 1) k m) (sym kept) (record {
              until = old.until;
              passed = old.passed ∙ sym (ap (so_far opposites k) more ∙ so_far_other opposites k s (λ e. other (sym e)));
              kind = old.kind;
            })
      ];
      inside = λ u h. elim (cases_eq u s) [
        | inl same ↦ omega (arith, new u same)
        | inr other ↦ omega (arith, last u (omega arith), are.inside u (omega arith))
      ];
      opposite = λ u h. elim (cases_eq u s) [
        | inl same ↦ ap (λ (m : ℕ). get_or kinds m 0) (new u same) ∙ kind_is ∙ ap (λ (m : ℕ). get_or opposites m 0) (sym same)
        | inr other ↦ ap (λ (m : ℕ). get_or kinds m 0) (last u (omega arith)) ∙ are.opposite u (omega arith)
      ];
      in_order = λ u h. elim (cases_eq u s) [
        | inl same ↦
            ap (so_far kinds (get_or opposites u 0)) (new u same)
            ∙ ap (λ (m : ℕ). so_far kinds (get_or opposites m 0) t) same ∙ c.passed ∙ ap (λ (m : ℕ). so_far opposites (get_or opposites m 0) m) (sym same)
        | inr other ↦ ap (so_far kinds (get_or opposites u 0)) (last u (omega arith)) ∙ are.in_order u (omega arith)
      ];
    }
