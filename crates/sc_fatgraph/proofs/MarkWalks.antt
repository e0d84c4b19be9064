-- A walk round a vertex that marks each side that it comes through.
use Rattle.std.proofs.Common.{◌≡◌, ◌≢◌, ℕ, suc, ◌<◌, Bool, true, ◌⊎◌, inl, inr, List, length, sym, ◌∙◌, ap, refl, arith, get_or-set_other, get_or-set_same}
use Rattle.std.proofs.Math.ListN.{set, length-set}
use Rattle.std.proofs.lemmas.Bool.{cases_eq}
use Rattle.sc_algebra.proofs.Cycles.{iterate-last}
use Rattle.sc_theory.specs.Fatgraphs.{Sides, next, turn}
use Rattle.sc_fatgraph.specs.inside.Orbits.{IsRibbon, IsInOrbit, IsMarked}

-- the next side round the vertex is a side
pub turn_in_range : (g : Sides) → IsRibbon g → (s : ℕ) → s < length g → turn g s < length g
turn_in_range g r s h = r.mates (next g s) (r.nexts s h)

-- what the walk keeps: the marks so far are those before it and sides of the orbit, and with a marked side the next one
-- round the vertex is marked or is the one where the walk stands
pub record WalksOn (g : Sides) (before : List Bool) (start : ℕ) (marks : List Bool) (side : ℕ) : Type 0 where
  pub in_range : side < length g
  pub as_many : length marks ≡ length g
  pub reached : IsInOrbit g start side
  pub closed : (s : ℕ) → s < length g → IsMarked marks s → IsMarked marks (turn g s) ⊎ (turn g s ≡ side)
  pub begun : IsMarked marks start ⊎ (side ≡ start)
  pub kept : (s : ℕ) → IsMarked before s → IsMarked marks s
  pub in_orbit : (s : ℕ) → IsMarked marks s → IsMarked before s ⊎ IsInOrbit g start s

-- a mark is the new one or an old one
mark_cases : (marks : List Bool) (i s : ℕ) → IsMarked (set marks i true) s → (s ≡ i) ⊎ IsMarked marks s
mark_cases marks i s m =
    elim (cases_eq s i) [
      | inl e ↦ inl e
      | inr n ↦ let ne : s ≢ i = n in inr (rw get_or-set_other at m)
    ]

mark_kept : (marks : List Bool) (i s : ℕ) → i < length marks → IsMarked marks s → IsMarked (set marks i true) s
mark_kept marks i s l m =
    elim (cases_eq s i) [
      | inl e ↦ rw e (rw get_or-set_same refl)
      | inr n ↦ let ne : s ≢ i = n in rw get_or-set_other m
    ]

-- the walk marks the side where it stands and goes on to the next one round the vertex
pub walk_goes_on : (g : Sides) (before : List Bool) (start : ℕ) (marks : List Bool) (side : ℕ) → IsRibbon g → WalksOn g before start marks side → WalksOn g before start (set marks side true) (turn g side)
walk_goes_on g before start marks side r w =
    let l : side < length marks = omega (arith, w.in_range, w.as_many) in
    record {
      in_range = turn_in_range g r side w.in_range;
      as_many = length-set marks side true ∙ w.as_many;
      reached = (suc w.reached.0, iterate-last (turn g) w.reached.0 start ∙ ap (turn g) w.reached.1);
      closed = λ s h m.
          elim (mark_cases marks side s m) [
            | inl e ↦ inr (ap (turn g) e)
            | inr old ↦
                elim (w.closed s h old) [
                  | inl n ↦ inl (mark_kept marks side (turn g s) l n)
                  | inr e ↦ inl (rw e (rw get_or-set_same refl))
                ]
          ];
      begun =
          elim w.begun [
            | inl m ↦ inl (mark_kept marks side start l m)
            | inr e ↦ inl (rw (← e) (rw get_or-set_same refl))
          ];
      kept = λ s m. mark_kept marks side s l (w.kept s m);
      in_orbit = λ s m.
          elim (mark_cases marks side s m) [
            | inl e ↦ inr (w.reached.0, w.reached.1 ∙ sym e)
            | inr old ↦ w.in_orbit s old
          ];
    }
