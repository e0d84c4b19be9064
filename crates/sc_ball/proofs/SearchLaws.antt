-- The search of a quadrant, step by step.
use Rattle.std.proofs.Common.{◌≡◌, ◌⊎◌, ℕ, zero, suc, ◌+◌, ◌<◌, ◌≤◌, List, [], ◌∷◌, map, length, get_or, unsigned_abs, false, Some, None, inl, inr, arith, refl, sym, ap, subst, subst₂, ◌∙◌}
use Rattle.std.specs.Prelude.{All}
use Rattle.std.specs.List.{insert, AllByRecursion}
use Rattle.std.proofs.lemmas.List.{length-map}
use Rattle.std.proofs.lemmas.List.Elements.{All-nil, All-cons, All-map, recursion_from_All}
use Rattle.sc_theory.specs.Chains.{Chain, IsChain, weighted_length}
use Rattle.sc_chain.specs.Faults.{IsSmallChain}
use Rattle.sc_chain.specs.declared.limits.TheConstants.{MAX_LENGTH}
use Rattle.sc_cone.specs.declared.Direction.{Direction}
use Rattle.sc_cone.specs.declared.Quadrant.{Quadrant}
use Rattle.sc_cone.specs.declared.Quadrant.TheVariants.{Lower, Upper}
use Rattle.sc_cone.specs.Directions.{first_end, last_end}
use Rattle.sc_cone.specs.Searches.{Reached, reached, IsOpen, IsGap, IsNext, IsSearch, begun, IsSweep}
use Rattle.sc_cone.proofs.Sweeps.{search_is_sweep, gap_in, grown_at}
use Rattle.sc_cone.proofs.ShortSweeps.{short, coordinates}
use Rattle.sc_cone.proofs.Forms.{length_by_form}
use Rattle.sc_cone.proofs.EmptyChains.{first_has_length, second_has_length}
use Rattle.sc_crossing.specs.declared.reached.Reached.{Reached as ReachedParts}
use Rattle.sc_crossing.specs.Lengths.{IsLight}
use Rattle.sc_crossing.specs.Neighbours.{reached_of}
use Rattle.sc_fan.specs.Fans.{IsListFor}
use Rattle.sc_solve.specs.declared.solution.SolveFault.{SolveFault}
use Rattle.sc_solve.specs.Solutions.{IsStopped}
use Rattle.sc_cone.specs.Cones.{chain_of, quadrant_chain}
use Rattle.sc_ball.specs.declared.fault.BallFault.{BallFault}
use Rattle.sc_ball.specs.declared.solved.Solved.{Solved}
use Rattle.sc_ball.specs.declared.searching.Stop.{Stop}
use Rattle.sc_ball.specs.inside.Neighbours.{IsClosed}
use Rattle.sc_ball.specs.Solved.{seen}
use Rattle.sc_ball.specs.inside.Solved.{IsSmall, IsSolvedIn}
use Rattle.sc_ball.specs.Searched.{entries_of}
use Rattle.sc_ball.specs.inside.Searched.{IsSearchedTo, IsEntryBetween, IsStopBetween}
use Rattle.sc_ball.specs.Faults.{HaveListsFor, AreOpenIn, IsDue, IsUnsolved, IsBallFault, is_memory}
use Rattle.sc_ball.specs.inside.Halves.{most_entries}
use Rattle.sc_ball.proofs.EntryLists.{reached_at, map-insert, closed_before, closed_further, All-insert}

seen_in_turn : (entries : List Solved) → map reached_of (map (λ (s : Solved). s.reached) entries) ≡ entries_of entries
seen_in_turn [] = refl
seen_in_turn (s ∷ entries) = ap (λ (rs : List Reached). seen s ∷ rs) (seen_in_turn entries)

-- what isn't closed is open
pub open_unless : (q : Quadrant) (first second : Chain) (r u : Reached) → (IsClosed q first second r u → ⊥) → IsOpen q first second r u
open_unless q first second r u not_closed = record { beyond = λ tight. not_closed (inl tight); back = λ tight. not_closed (inr tight) }

-- ---- directions that are due
-- an end of a quadrant is light, since its chain is one of the two small ones
pub end_is_light : (q : Quadrant) (first second : Chain) (d : Direction) → IsSmallChain first → IsSmallChain second → (d ≡ first_end q) ⊎ (d ≡ last_end q) → IsLight first second d
end_is_light q first second d is_first is_second is_end = elim is_end [ inl e ↦ subst (IsLight first second) (sym e) (light_first q) | inr e ↦ subst (IsLight first second) (sym e) (light_last q) ]
  where
    light_first : (q : Quadrant) → IsLight first second (first_end q)
    light_first Lower = omega (arith, is_second.light)
    light_first Upper = omega (arith, is_first.light)

    light_last : (q : Quadrant) → IsLight first second (last_end q)
    light_last Lower = omega (arith, is_first.light)
    light_last Upper = omega (arith, is_second.light)

-- before any search the ends of the quadrant are due
pub unsolved_end : (q : Quadrant) (first second : Chain) (budget : ℕ) (shown : List ReachedParts) (d : Direction) (fault : SolveFault) → shown ≡ [] → (d ≡ first_end q) ⊎ (d ≡ last_end q) → IsLight first second d
    → IsStopped (chain_of q first second d) budget fault → is_memory fault ≡ false → IsUnsolved q first second budget (map reached_of shown) d fault
unsolved_end q first second budget shown d fault none is_end light stopped told = record {
  due = subst (λ (rs : List ReachedParts). IsDue q first second (map reached_of rs) d) (sym none) is_end;
  light = light;
  told = told;
  stopped = stopped;
}

module _ (q : Quadrant) (first second : Chain) (is_first : IsChain first) (is_second : IsChain second) where
  -- the next direction between open neighbours has small numbers if its chain isn't too long
  pub next_is_small : (r u : Reached) (d : Direction) → IsGap q first second r u → IsLight first second d → IsSmall d
  next_is_small r u d gap light =
      let some : 0 < weighted_length first = first_has_length q first second r u is_first is_second gap.here gap.there gap.here_within gap.there_within gap.left gap.opened in
      let more : 0 < weighted_length second = second_has_length q first second r u is_first is_second gap.here gap.there gap.here_within gap.there_within gap.left gap.opened in
      let within = coordinates q first second d some more in
      let length_is = length_by_form q first second d in
      record { first = omega (arith, within.0, length_is, light); second = omega (arith, within.1, length_is, light) }

-- ---- the entries
each_at : {A : Type 0} (f : A → Reached) (P : A → Type 0) (Q : Reached → Type 0) → ((x : A) → P x → Q (f x)) → (xs : List A) → AllByRecursion P xs → (i : ℕ) → i < length xs → Q (reached (map f xs) i)
each_at f P Q h [] all i inside = absurd (omega arith)
each_at f P Q h (x ∷ xs) all zero inside = h x all.0
each_at f P Q h (x ∷ xs) all (suc i) inside = each_at f P Q h xs all.1 i (omega arith)

module _ (q : Quadrant) (first second : Chain) where
  -- what holds of each solved direction, by its number
  pub entry_has : (Q : Reached → Type 0) → ((s : Solved) → IsSolvedIn q first second s → Q (seen s)) → (entries : List Solved) → All (IsSolvedIn q first second) entries → (i : ℕ) → i < length entries → Q (reached (entries_of entries) i)
  entry_has Q h entries all i inside = each_at seen (IsSolvedIn q first second) Q h entries (recursion_from_All (IsSolvedIn q first second) entries all) i inside

  lists_of : (entries : List Solved) → All (IsSolvedIn q first second) entries → HaveListsFor q first second (entries_of entries)
  lists_of entries all = All-map (λ (r : Reached). IsListFor (quadrant_chain q first second) r.list) seen entries (λ i none inside. (all i none inside).list)

  -- the two ends of a quadrant, solved, are a search
  pub searched_ends : (one other : Solved) → one.reached.direction ≡ first_end q → other.reached.direction ≡ last_end q → IsSolvedIn q first second one → IsSolvedIn q first second other → IsSearchedTo q first second (one ∷ other ∷ []) 1
  searched_ends one other from to is_one is_other = record {
    search = begun from to is_one.reached is_other.reached;
    solved = All-cons (IsSolvedIn q first second) one (other ∷ []) is_one (All-cons (IsSolvedIn q first second) other [] is_other (All-nil (IsSolvedIn q first second)));
    closed = λ i low. absurd (omega arith);
  }

  module _ (is_first : IsChain first) (is_second : IsChain second) (entries : List Solved) where
    -- the entries of a search go round their quadrant
    pub sweep_of : (n : ℕ) → IsSearchedTo q first second entries n → IsSweep q first second (entries_of entries)
    sweep_of n so_far = search_is_sweep q first second is_first is_second (entries_of entries) so_far.search

    -- they are no more than there may be
    pub few_entries : (n : ℕ) → IsSearchedTo q first second entries n → length entries ≤ most_entries
    few_entries n so_far =
        subst (λ (k : ℕ). k ≤ most_entries) (length-map entries seen)
        (short q first second (entries_of entries) (sweep_of n so_far) MAX_LENGTH
        (λ i inside. entry_has (λ r. (unsigned_abs r.direction.s ≤ MAX_LENGTH) × (unsigned_abs r.direction.t ≤ MAX_LENGTH)) (λ s is. (is.small.first, is.small.second)) entries so_far.solved i (subst (λ (k : ℕ). i < k) (length-map entries seen) inside)))

    module _ (place : ℕ) (here there : Solved) (inside : place + 1 < length entries) (at_here : here ≡ get_or entries place here) (at_there : there ≡ get_or entries (place + 1) there) (so_far : IsSearchedTo q first second entries (place + 1)) where
      next_place : place + 1 ≡ suc place
      next_place = omega arith

      mapped_inside : suc place < length (entries_of entries)
      mapped_inside = omega (arith, length-map entries seen)

      -- the entries at the place and behind it are these two, and are solved
      pub here_is : reached (entries_of entries) place ≡ seen here
      here_is = reached_at seen entries place here (omega arith) at_here

      pub there_is : reached (entries_of entries) (suc place) ≡ seen there
      there_is = subst (λ (k : ℕ). reached (entries_of entries) k ≡ seen there) next_place (reached_at seen entries (place + 1) there inside at_there)

      -- where they are open, they are a gap
      pub gap_here : IsOpen q first second (seen here) (seen there) → IsGap q first second (seen here) (seen there)
      gap_here opened =
          subst₂ (IsGap q first second) here_is there_is
          (gap_in q first second (entries_of entries) place (sweep_of (place + 1) so_far) mapped_inside (subst₂ (IsOpen q first second) (sym here_is) (sym there_is) opened))

      -- nothing is due between closed neighbours
      pub searched_further : IsEntryBetween q first second (seen here) (seen there) None → IsSearchedTo q first second entries (place + 1 + 1)
      searched_further closed = record {
        search = so_far.search;
        solved = so_far.solved;
        closed = closed_further seen q first second entries place (subst₂ (IsClosed q first second) (sym here_is) (sym there_is) closed) so_far.closed;
      }

      -- and between open ones the next direction is put in
      pub searched_more : (s : Solved) → IsEntryBetween q first second (seen here) (seen there) (Some s) → IsSearchedTo q first second (insert entries (place + 1) s) (place + 1)
      searched_more s entry =
          let opened : IsOpen q first second (reached (entries_of entries) place) (reached (entries_of entries) (suc place)) = subst₂ (IsOpen q first second) (sym here_is) (sym there_is) entry.0 in
          let next : IsNext q first second (reached (entries_of entries) place) (reached (entries_of entries) (suc place)) s.reached.direction = subst₂ (λ (r u : Reached). IsNext q first second r u s.reached.direction) (sym here_is) (sym there_is) entry.1 in
          let grown : IsSearch q first second (insert (entries_of entries) (suc place) (seen s)) = grown_at q first second (entries_of entries) place (seen s) so_far.search mapped_inside opened next entry.2.reached in
          record {
            search = subst (IsSearch q first second) (sym (map-insert seen entries (place + 1) s)) (subst (λ (k : ℕ). IsSearch q first second (insert (entries_of entries) k (seen s))) (sym next_place) grown);
            solved = All-insert (IsSolvedIn q first second) entries (place + 1) s so_far.solved entry.2;
            closed = closed_before seen q first second entries place s (omega arith) so_far.closed;
          }

      -- what stops it is told with the search
      pub stopped_here : (budget : ℕ) (shown : List ReachedParts) (stop : Stop) (fault : BallFault) → shown ≡ map (λ (s : Solved). s.reached) entries → IsOpen q first second (seen here) (seen there) → IsStopBetween q first second budget (seen here) (seen there) stop
          → (AreOpenIn q first second (map reached_of shown) place → (reached (map reached_of shown) place).direction ≡ here.reached.direction → (reached (map reached_of shown) (suc place)).direction ≡ there.reached.direction
          → IsStopBetween q first second budget (reached (map reached_of shown) place) (reached (map reached_of shown) (suc place)) stop → IsBallFault first second budget fault) → IsBallFault first second budget fault
      stopped_here budget shown stop fault is_shown opened stopped tells =
          let same : map reached_of shown ≡ entries_of entries = ap (map reached_of) is_shown ∙ seen_in_turn entries in
          let at_place : reached (map reached_of shown) place ≡ seen here = ap (λ (rs : List Reached). reached rs place) same ∙ here_is in
          let at_next : reached (map reached_of shown) (suc place) ≡ seen there = ap (λ (rs : List Reached). reached rs (suc place)) same ∙ there_is in
          tells
          (record {
            search = subst (IsSearch q first second) (sym same) so_far.search;
            lists = subst (HaveListsFor q first second) (sym same) (lists_of entries so_far.solved);
            inside = subst (λ (rs : List Reached). suc place < length rs) (sym same) mapped_inside;
            opened = subst₂ (IsOpen q first second) (sym at_place) (sym at_next) opened;
          })
          (ap (λ (r : Reached). r.direction) at_place) (ap (λ (r : Reached). r.direction) at_next)
          (subst₂ (λ (r u : Reached). IsStopBetween q first second budget r u stop) (sym at_place) (sym at_next) stopped)

-- ---- how faults are told
-- a light next direction between open neighbours whose solver is stopped is one that isn't solved
pub unsolved_next : (q : Quadrant) (first second : Chain) (budget place : ℕ) (rs : List Reached) (d : Direction) (fault : SolveFault) → AreOpenIn q first second rs place → IsNext q first second (reached rs place) (reached rs (suc place)) d → IsLight first second d
    → IsStopped (chain_of q first second d) budget fault → is_memory fault ≡ false → IsUnsolved q first second budget rs d fault
unsolved_next q first second budget place rs d fault opened next light stopped told = record { due = due rs opened next; light = light; told = told; stopped = stopped }
  where
    due : (rs : List Reached) → AreOpenIn q first second rs place → IsNext q first second (reached rs place) (reached rs (suc place)) d → IsDue q first second rs d
    due [] opened next = absurd (omega (arith, opened.inside))
    due (r ∷ rs) opened next = (place, opened, next)
