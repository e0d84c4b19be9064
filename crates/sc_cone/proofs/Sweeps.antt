-- The entries of a search, in order.
use Rattle.std.proofs.Common.{◌≡◌, ℕ, zero, suc, ◌<◌, List, [], ◌∷◌, ◌++◌, length, take, drop, arith, refl, sym, ap, subst, ◌∙◌}
use Rattle.std.specs.List.{insert}
use Rattle.std.specs.Int.{IsGcd}
use Rattle.std.proofs.lemmas.Int.{ints}
use Rattle.std.proofs.lemmas.Nat.Gcd.{dvd-zero, dvd_refl}
use Rattle.sc_theory.specs.Chains.{Chain, IsChain}
use Rattle.sc_cone.specs.declared.Direction.{Direction}
use Rattle.sc_cone.specs.declared.Quadrant.{Quadrant}
use Rattle.sc_cone.specs.declared.Quadrant.TheVariants.{Lower, Upper}
use Rattle.sc_cone.specs.Directions.{first_end, last_end, IsIn, IsPrimitive, TurnsLeft}
use Rattle.sc_cone.specs.Searches.{Reached, reached, IsReached, IsOpen, IsGap, IsNext, IsSearch, begun, grown, IsSweep}
use Rattle.sc_cone.proofs.NextDirections.{next_between}

-- the ends of a quadrant
pub first_within : (q : Quadrant) → IsIn q (first_end q)
first_within Lower = (omega (arith, ints), omega (arith, ints))
first_within Upper = (omega (arith, ints), omega (arith, ints))

pub last_within : (q : Quadrant) → IsIn q (last_end q)
last_within Lower = (omega (arith, ints), omega (arith, ints))
last_within Upper = (omega (arith, ints), omega (arith, ints))

zero_one : IsGcd 0 1 1
zero_one = (dvd-zero 1, dvd_refl 1, λ d p q. q)

one_zero : IsGcd 1 0 1
one_zero = (dvd_refl 1, dvd-zero 1, λ d p q. p)

pub first_primitive : (q : Quadrant) → IsPrimitive (first_end q)
first_primitive Lower = zero_one
first_primitive Upper = one_zero

pub last_primitive : (q : Quadrant) → IsPrimitive (last_end q)
last_primitive Lower = one_zero
last_primitive Upper = zero_one

pub ends_turn : (q : Quadrant) → TurnsLeft (first_end q) (last_end q)
ends_turn Lower = omega (arith, ints)
ends_turn Upper = omega (arith, ints)

module _ (q : Quadrant) (first second : Chain) where
  -- what is asked of each entry of a sweep
  pub record Stop (r : Reached) : Type 0 where
    pub within : IsIn q r.direction
    pub primitive : IsPrimitive r.direction
    pub tight : IsReached q first second r

  -- each entry, and each with the next
  abbrev Next : Reached → List Reached → Type 0
  Next r [] = Unit {0}
  Next r (u ∷ rest) = TurnsLeft r.direction u.direction

  abbrev Sweep : List Reached → Type 0
  Sweep [] = Unit {0}
  Sweep (r ∷ rest) = Stop r × Next r rest × Sweep rest

  abbrev EndsAt : Direction → List Reached → Type 0
  EndsAt d [] = ⊥
  EndsAt d (r ∷ []) = r.direction ≡ d
  EndsAt d (r ∷ u ∷ rest) = EndsAt d (u ∷ rest)

  record Pair (r u : Reached) : Type 0 where
    here : Stop r
    there : Stop u
    left : TurnsLeft r.direction u.direction

  pair_in : (before : List Reached) (r u : Reached) (after : List Reached) → Sweep (before ++ r ∷ u ∷ after) → Pair r u
  pair_in [] r u after sweep = record { here = sweep.0; there = sweep.2.0; left = sweep.1 }
  pair_in (b ∷ before) r u after sweep = pair_in before r u after sweep.2

  same_next : (b : Reached) (before : List Reached) (r : Reached) (rest more : List Reached) → Next b (before ++ r ∷ rest) → Next b (before ++ r ∷ more)
  same_next b [] r rest more next = next
  same_next b (c ∷ before) r rest more next = next

  sweep_grown : (before : List Reached) (r x u : Reached) (after : List Reached) → Sweep (before ++ r ∷ u ∷ after) → Stop x → TurnsLeft r.direction x.direction → TurnsLeft x.direction u.direction → Sweep (before ++ r ∷ x ∷ u ∷ after)
  sweep_grown [] r x u after sweep stop first_turn second_turn = (sweep.0, first_turn, (stop, second_turn, sweep.2))
  sweep_grown (b ∷ before) r x u after sweep stop first_turn second_turn =
      (sweep.0, same_next b before r (u ∷ after) (x ∷ u ∷ after) sweep.1, sweep_grown before r x u after sweep.2 stop first_turn second_turn)

  ends_grown : (d : Direction) (before : List Reached) (r x u : Reached) (after : List Reached) → EndsAt d (before ++ r ∷ u ∷ after) → EndsAt d (before ++ r ∷ x ∷ u ∷ after)
  ends_grown d [] r x u after ends = ends
  ends_grown d (b ∷ []) r x u after ends = ends
  ends_grown d (b ∷ c ∷ before) r x u after ends = ends_grown d (c ∷ before) r x u after ends

  begins_grown : (before : List Reached) (r : Reached) (rest more : List Reached) → reached (before ++ r ∷ rest) 0 ≡ reached (before ++ r ∷ more) 0
  begins_grown [] r rest more = refl
  begins_grown (b ∷ before) r rest more = refl

  record Entries (rs : List Reached) : Type 0 where
    sweep : Sweep rs
    begins : (reached rs 0).direction ≡ first_end q
    ends : EndsAt (last_end q) rs

  entries : IsChain first → IsChain second → (rs : List Reached) → IsSearch q first second rs → Entries rs
  entries is_first is_second _ (begun {r} {u} begin end got_r got_u) = record {
    sweep = (
      record { within = subst (IsIn q) (sym begin) (first_within q); primitive = subst IsPrimitive (sym begin) (first_primitive q); tight = got_r },
      subst (λ (d : Direction). TurnsLeft d u.direction) (sym begin) (subst (λ (d : Direction). TurnsLeft (first_end q) d) (sym end) (ends_turn q)),
      (record { within = subst (IsIn q) (sym end) (last_within q); primitive = subst IsPrimitive (sym end) (last_primitive q); tight = got_u }, tt, tt),
    );
    begins = begin;
    ends = end;
  }
  entries is_first is_second _ (grown before r x u after search both_open next got) =
      let old : Entries (before ++ r ∷ u ∷ after) = entries is_first is_second (before ++ r ∷ u ∷ after) search in
      let pair : Pair r u = pair_in before r u after old.sweep in
      let turns = next_between q first second is_first is_second r u pair.here.tight pair.there.tight pair.here.within pair.there.within pair.left both_open x.direction next in
      record {
        sweep = sweep_grown before r x u after old.sweep (record { within = next.within; primitive = next.primitive; tight = got }) turns.0 turns.1;
        begins = ap (λ (e : Reached). e.direction) (begins_grown before r (x ∷ u ∷ after) (u ∷ after)) ∙ old.begins;
        ends = ends_grown (last_end q) before r x u after old.ends;
      }

  -- by numbers
  stop_at : (rs : List Reached) → Sweep rs → (i : ℕ) → i < length rs → Stop (reached rs i)
  stop_at [] sweep i inside = absurd (omega arith)
  stop_at (r ∷ rs) sweep zero inside = sweep.0
  stop_at (r ∷ rs) sweep (suc i) inside = stop_at rs sweep.2 i (omega arith)

  left_at : (rs : List Reached) → Sweep rs → (i : ℕ) → suc i < length rs → TurnsLeft (reached rs i).direction (reached rs (suc i)).direction
  left_at [] sweep i inside = absurd (omega arith)
  left_at (r ∷ []) sweep i inside = absurd (omega arith)
  left_at (r ∷ u ∷ rs) sweep zero inside = sweep.1
  left_at (r ∷ u ∷ rs) sweep (suc i) inside = left_at (u ∷ rs) sweep.2 i (omega arith)

  ends_at : (d : Direction) (rs : List Reached) → EndsAt d rs → (k : ℕ) → suc k ≡ length rs → (reached rs k).direction ≡ d
  ends_at d [] ends k last = absurd ends
  ends_at d (r ∷ []) ends zero last = ends
  ends_at d (r ∷ []) ends (suc k) last = absurd (omega arith)
  ends_at d (r ∷ u ∷ rs) ends zero last = absurd (omega arith)
  ends_at d (r ∷ u ∷ rs) ends (suc k) last = ends_at d (u ∷ rs) ends k (omega arith)

  from_entries : (rs : List Reached) → Entries rs → IsSweep q first second rs
  from_entries rs es = record {
    begins = es.begins;
    ends = ends_at (last_end q) rs es.ends;
    within = λ i inside. (stop_at rs es.sweep i inside).within;
    primitive = λ i inside. (stop_at rs es.sweep i inside).primitive;
    tight = λ i inside. (stop_at rs es.sweep i inside).tight;
    left = left_at rs es.sweep;
  }

  -- a search is a sweep: primitive directions from end to end, each with a list that is tight there
  pub search_is_sweep : IsChain first → IsChain second → (rs : List Reached) → IsSearch q first second rs → IsSweep q first second rs
  search_is_sweep is_first is_second rs search = from_entries rs (entries is_first is_second rs search)

-- open neighbours of a sweep are a gap
pub gap_in : (q : Quadrant) (first second : Chain) (rs : List Reached) (i : ℕ) → IsSweep q first second rs → suc i < length rs → IsOpen q first second (reached rs i) (reached rs (suc i)) → IsGap q first second (reached rs i) (reached rs (suc i))
gap_in q first second rs i sweep inside opened = record {
  here = sweep.tight i (omega arith);
  there = sweep.tight (suc i) inside;
  here_within = sweep.within i (omega arith);
  there_within = sweep.within (suc i) inside;
  left = sweep.left i inside;
  opened = opened;
}

-- what is put in between the entries i and i + 1
parted : (rs : List Reached) (i : ℕ) → suc i < length rs → rs ≡ take i rs ++ reached rs i ∷ reached rs (suc i) ∷ drop (suc (suc i)) rs
parted [] i inside = absurd (omega arith)
parted (r ∷ []) i inside = absurd (omega arith)
parted (r ∷ u ∷ rs) zero inside = refl
parted (r ∷ u ∷ rs) (suc i) inside = ap (λ (rest : List Reached). r ∷ rest) (parted (u ∷ rs) i (omega arith))

put_in : (rs : List Reached) (i : ℕ) (x : Reached) → suc i < length rs → insert rs (suc i) x ≡ take i rs ++ reached rs i ∷ x ∷ reached rs (suc i) ∷ drop (suc (suc i)) rs
put_in [] i x inside = absurd (omega arith)
put_in (r ∷ []) i x inside = absurd (omega arith)
put_in (r ∷ u ∷ rs) zero x inside = refl
put_in (r ∷ u ∷ rs) (suc i) x inside = ap (λ (rest : List Reached). r ∷ rest) (put_in (u ∷ rs) i x (omega arith))

-- a search with a next direction put in before the entry i + 1 is a search
pub grown_at : (q : Quadrant) (first second : Chain) (rs : List Reached) (i : ℕ) (x : Reached) → IsSearch q first second rs → suc i < length rs → IsOpen q first second (reached rs i) (reached rs (suc i)) → IsNext q first second (reached rs i) (reached rs (suc i)) x.direction → IsReached q first second x → IsSearch q first second (insert rs (suc i) x)
grown_at q first second rs i x search inside opened next got =
    subst (IsSearch q first second) (sym (put_in rs i x inside))
    (grown (take i rs) (reached rs i) x (reached rs (suc i)) (drop (suc (suc i)) rs) (subst (IsSearch q first second) (parted rs i inside) search) opened next got)
