-- What `ball` answers, from what its parts tell.
use Rattle.std.proofs.Common.{◌≡◌, ◌⊎◌, ℕ, ◌+◌, inl, inr, List, [], ◌∷◌, ◌++◌, length, take, drop, map, All, refl, ap, ap₂, ◌∙◌, subst, sym, arith, ℤ}
use Rattle.std.proofs.lemmas.Grind.{flat_map-append}
use Rattle.std.proofs.Math.Seq.{take-append_seam, drop-append_seam}
use Rattle.std.proofs.lemmas.List.{length-append, take-append-drop}
use Rattle.std.proofs.lemmas.List.Elements.{All-take, All-drop}
use Rattle.std.proofs.lemmas.List.Sums.{sum_by-append}
use Rattle.sc_theory.specs.Words.{Word}
use Rattle.sc_theory.specs.Chains.{Chain, IsChain, IsBalanced, positions}
use Rattle.sc_words.specs.declared.lines.RawLine.{RawLine}
use Rattle.sc_words.specs.ChainText.{IsRawLine}
use Rattle.sc_reduce.specs.Lines.{line_chain, chain_of, IsWithin, HasManyWords, HasManyPositions}
use Rattle.sc_text.specs.Surfaces.{IsChainInRange}
use Rattle.sc_line.specs.declared.fault.Kind.{Kind}
use Rattle.sc_line.specs.declared.fault.TextFault.{TextFault}
use Rattle.sc_line.specs.declared.fault.TextFault.TheVariants as text_faults
use Rattle.sc_two.specs.TwoTexts.{IsTwoText, IsFirstWrong}
use Rattle.sc_cone.specs.declared.Direction.{Direction}
use Rattle.sc_cone.specs.declared.Quadrant.{Quadrant}
use Rattle.sc_cone.specs.declared.Quadrant.TheVariants.{Lower, Upper}
use Rattle.sc_cone.specs.Directions.{first_end}
use Rattle.sc_cone.specs.Values.{IsTightAt}
use Rattle.sc_cone.specs.Fans.{quadrant_from, quadrant_of as quadrant_at, edge, IsFan}
use Rattle.sc_cone.specs.Searches.{Reached, reached, IsSearch, begun, grown}
use Rattle.sc_cone.proofs.WholePlane.{value_on_cone}
use Rattle.sc_fraction.specs.declared.frac.Frac.{Frac}
use Rattle.sc_crossing.specs.declared.reached.Reached.{Reached as ReachedParts}
use Rattle.sc_crossing.specs.declared.fault.CrossPlace.{CrossPlace}
use Rattle.sc_crossing.specs.declared.fault.NextFault.TheVariants as next_faults
use Rattle.sc_crossing.specs.Neighbours.{reached_of}
use Rattle.sc_fan.specs.declared.fan.Fan.{Fan}
use Rattle.sc_fan.specs.Fans.{fan_text, IsFanInRange}
use Rattle.sc_fan.specs.FanRead.{fan_said, plane_fan}
use Rattle.sc_solve.specs.declared.solution.SolveFault.TheVariants as solve_faults
use Rattle.sc_ball.specs.declared.fault.BallFault.{BallFault}
use Rattle.sc_ball.specs.declared.fault.BallFault.TheVariants as faults
use Rattle.sc_ball.specs.Faults.{IsUncrossed}
use Rattle.sc_ball_refusal.specs.Texts.{cross_text, length_text}
use Rattle.sc_app.specs.declared.answer.Answer.{Answer}
use Rattle.sc_app.specs.declared.status.Status.{Status}
use Rattle.sc_app.specs.declared.status.Status.TheVariants.{Done, Large, Budget, Wide}
use Rattle.sc_app.specs.declared.status.Status.TheVariants as statuses
use Rattle.sc_app.specs.declared.status.What.TheVariants.{Words, Positions}
use Rattle.sc_app.specs.Answer.{status_of, text_of, IsFaultAnswer}
use Rattle.sc_app.specs.Ball.{shown, Shows, ShowsCrossing, ShowsLength, IsBallOf, IsBallOfLines, BallResponds, both_of}
use Rattle.sc_app.proofs.Ranges.{chain_of_lines, chain_in_range}

-- ---- the quadrant of a search

begins_as : (before : List Reached) (r : Reached) (rest more : List Reached) → (reached (before ++ r ∷ rest) 0).direction ≡ (reached (before ++ r ∷ more) 0).direction
begins_as [] r rest more = refl
begins_as (b ∷ before) r rest more = refl

search_begins : (q : Quadrant) (first second : Chain) (rs : List Reached) → IsSearch q first second rs → (reached rs 0).direction ≡ first_end q
search_begins q first second _ (begun {r} {u} begin end got_r got_u) = begin
search_begins q first second _ (grown before r x u after search both_open next got) =
    begins_as before r (x ∷ u ∷ after) (u ∷ after) ∙ search_begins q first second (before ++ r ∷ u ∷ after) search

quadrant_of_end : (q : Quadrant) → quadrant_from (first_end q).t ≡ q
quadrant_of_end Lower = refl
quadrant_of_end Upper = refl

-- it is the one that begins with the first direction
pub quadrant_found : (q : Quadrant) (first second : Chain) (rs : List Reached) → IsSearch q first second rs → quadrant_from (reached rs 0).direction.t ≡ q
quadrant_found q first second rs search =
    ap (λ (d : Direction). quadrant_from d.t) (search_begins q first second rs search) ∙ quadrant_of_end q

-- ---- two chains within the limits

both_chains : (first second : List RawLine) → chain_of (first ++ second) ≡ both_of first second
both_chains first second = flat_map-append line_chain first second

both_within : (first second : Chain) → IsWithin (first ++ second) → IsWithin first × IsWithin second
both_within first second within =
    let words : length (first ++ second) ≡ length first + length second = length-append first second in
    let letters : positions (first ++ second) ≡ positions first + positions second = sum_by-append (λ (w : ℕ × Word). length w.1) first second in (
      record { few_words = omega (arith, words, within.few_words); few_positions = omega (arith, letters, within.few_positions) },
      record { few_words = omega (arith, words, within.few_words); few_positions = omega (arith, letters, within.few_positions) },
    )

-- ---- fans

-- a fan of two balanced chains, with its text
pub fan_told : (n : ℕ) (first second : Chain) (f : Fan) (text : List ℕ) → IsBalanced first → IsBalanced second → IsChainInRange first → IsChainInRange second
    → f.first ≡ first → f.second ≡ second → IsFan (plane_fan f) → IsFanInRange (fan_said f) → text ≡ fan_text (fan_said f) → IsBallOf n first second Done text
fan_told n first second f text first_balanced second_balanced first_range second_range first_is second_is is_fan in_range text_is =
    inr (inr (record {
      first_balanced = first_balanced;
      second_balanced = second_balanced;
      fan = f;
      first_is = first_is;
      second_is = second_is;
      is_fan = is_fan;
      tells = λ i x inside between.
          subst (λ (c : Chain). IsTightAt (quadrant_at (plane_fan f) i) first c (edge (plane_fan f) i).list x) second_is
          (subst (λ (c : Chain). IsTightAt (quadrant_at (plane_fan f) i) c f.second (edge (plane_fan f) i).list x) first_is
          (value_on_cone (plane_fan f) is_fan (subst IsChain (sym first_is) (chain_in_range first first_range)) (subst IsChain (sym second_is) (chain_in_range second second_range)) i x inside between));
      in_range = in_range;
      text_is = text_is;
    }))

-- ---- what stops a search

-- the quadrant that begins with the first direction of the search is that of the search
same_quadrant : (first second : Chain) (p q : Quadrant) (rs : List Reached) → p ≡ quadrant_from (reached rs 0).direction.t → IsSearch q first second rs → p ≡ q
same_quadrant first second p q rs found search = found ∙ quadrant_found q first second rs search

-- a crossing that is refused is shown with its search, whose quadrant is told by its first direction
pub shows_crossing : (first second : Chain) (p : Quadrant) (search printed : List ReachedParts) (from to : Direction) (place : CrossPlace) (x y : Frac) (text : List ℕ)
    → p ≡ quadrant_from (reached (map reached_of search) 0).direction.t → printed ≡ search
    → (q : Quadrant) × IsUncrossed q first second (map reached_of search) from to (next_faults.Cross place x y)
    → text ≡ cross_text (shown p first second printed) from to place x y → (q : Quadrant) × ShowsCrossing q first second search from to place x y Wide text
shows_crossing first second p search printed from to place x y text found same evidence text_is =
    let in_q : p ≡ evidence.0 = same_quadrant first second p evidence.0 (map reached_of search) found evidence.1.opened.search in
    (evidence.0, (evidence.1, refl, text_is ∙ ap₂ (λ (q : Quadrant) (rs : List ReachedParts). cross_text (shown q first second rs) from to place x y) in_q same))

-- so is a next direction that is too long
pub shows_length : (first second : Chain) (p : Quadrant) (search printed : List ReachedParts) (from to : Direction) (a b : ℤ) (text : List ℕ)
    → p ≡ quadrant_from (reached (map reached_of search) 0).direction.t → printed ≡ search
    → (q : Quadrant) × IsUncrossed q first second (map reached_of search) from to (next_faults.Length a b)
    → text ≡ length_text (shown p first second printed) from to a b → (q : Quadrant) × ShowsLength q first second search from to a b statuses.Sides text
shows_length first second p search printed from to a b text found same evidence text_is =
    let in_q : p ≡ evidence.0 = same_quadrant first second p evidence.0 (map reached_of search) found evidence.1.opened.search in
    (evidence.0, (evidence.1, refl, text_is ∙ ap₂ (λ (q : Quadrant) (rs : List ReachedParts). length_text (shown q first second rs) from to a b) in_q same))

-- its status is one of three
stop_status : (n : ℕ) (first second : Chain) (fault : BallFault) (s : Status) (text : List ℕ) → Shows first second n fault s text → (s ≡ Budget) ⊎ ((s ≡ Wide) ⊎ (s ≡ statuses.Sides))
stop_status n first second (faults.Solve entries lower d (solve_faults.Budget journal improving)) s text h = inl h.1.0
stop_status n first second (faults.Solve entries lower d (solve_faults.Wide journal at)) s text h = inr (inl h.1.0)
stop_status n first second (faults.Solve entries lower d (solve_faults.Sides journal part so_far next)) s text h = inr (inr h.1.0)
stop_status n first second (faults.Solve entries lower d solve_faults.Memory) s text h = absurd h.1
stop_status n first second (faults.Cross entries from to place x y) s text h = inr (inl h.1.1)
stop_status n first second (faults.Length entries from to a b) s text h = inr (inr h.1.1)
stop_status n first second faults.Memory s text h = absurd h

-- what stops a search, shown with its evidence, is an answer for two balanced chains
pub stopped_ball : (n : ℕ) (first second : Chain) (fault : BallFault) (s : Status) (text : List ℕ) → IsBalanced first → IsBalanced second → Shows first second n fault s text → IsBallOf n first second s text
stopped_ball n first second fault s text first_balanced second_balanced h = elim (stop_status n first second fault s text h) [
  | inl e ↦ subst (λ (x : Status). IsBallOf n first second x text) (sym e)
      (record { first_balanced = first_balanced; second_balanced = second_balanced; fault = fault; shows = subst (λ (x : Status). Shows first second n fault x text) e h })
  | inr others ↦ elim others [
    | inl e ↦ subst (λ (x : Status). IsBallOf n first second x text) (sym e)
        (record { first_balanced = first_balanced; second_balanced = second_balanced; fault = fault; shows = subst (λ (x : Status). Shows first second n fault x text) e h })
    | inr e ↦ subst (λ (x : Status). IsBallOf n first second x text) (sym e)
        (record { first_balanced = first_balanced; second_balanced = second_balanced; fault = fault; shows = subst (λ (x : Status). Shows first second n fault x text) e h })
  ]
]

-- ---- the lines of two chains as one list

-- the words of both parts
parts_are : (lines : List RawLine) (count : ℕ) → both_of (take count lines) (drop count lines) ≡ chain_of lines
parts_are lines count =
    sym (both_chains (take count lines) (drop count lines)) ∙ ap chain_of (take-append-drop count lines)

-- the chains of the two parts of lines that are together within the limits
pub parts_in_range : (lines : List RawLine) (count : ℕ) → All IsRawLine lines → IsWithin (chain_of lines)
    → IsChainInRange (chain_of (take count lines)) × IsChainInRange (chain_of (drop count lines))
parts_in_range lines count raw within =
    let both = both_within (chain_of (take count lines)) (chain_of (drop count lines)) (subst IsWithin (sym (parts_are lines count)) within) in (
      chain_of_lines (take count lines) (All-take IsRawLine count lines raw) both.0,
      chain_of_lines (drop count lines) (All-drop IsRawLine count lines raw) both.1,
    )

-- the answer where they are not within them
pub words_told : (n : ℕ) (lines : List RawLine) (count : ℕ) (m : ℕ) → HasManyWords (chain_of lines) m → IsBallOfLines n (take count lines) (drop count lines) (Large (Words m)) []
words_told n lines count m many = (subst (λ (c : Chain). HasManyWords c m) (sym (parts_are lines count)) many, refl)

pub positions_told : (n : ℕ) (lines : List RawLine) (count : ℕ) (m : ℕ) → HasManyPositions (chain_of lines) m → IsBallOfLines n (take count lines) (drop count lines) (Large (Positions m)) []
positions_told n lines count m many = (subst (λ (c : Chain). HasManyPositions c m) (sym (parts_are lines count)) many, refl)

-- and where they are
pub within_told : (n : ℕ) (lines : List RawLine) (count : ℕ) → IsWithin (chain_of lines) → (s : Status) (text : List ℕ)
    → IsBallOf n (chain_of (take count lines)) (chain_of (drop count lines)) s text → IsBallOfLines n (take count lines) (drop count lines) s text
within_told n lines count within Done text h = (subst IsWithin (sym (parts_are lines count)) within, h)
within_told n lines count within Budget text h = (subst IsWithin (sym (parts_are lines count)) within, h)
within_told n lines count within Wide text h = (subst IsWithin (sym (parts_are lines count)) within, h)
within_told n lines count within statuses.Sides text h = (subst IsWithin (sym (parts_are lines count)) within, h)
within_told n lines count within _ text h = absurd h

-- one list of lines, cut where the second chain's begin
pub lines_told : (n : ℕ) (input : List ℕ) (first second all : List RawLine) (count : ℕ) → IsTwoText input first second → all ≡ first ++ second → count ≡ length first
    → (s : Status) (text : List ℕ) → IsBallOfLines n (take count all) (drop count all) s text → BallResponds n input s text
lines_told n input first second all count read all_is count_is s text h =
    responds s text (subst (λ (xs : List RawLine). IsBallOfLines n first xs s text) rest_is (subst (λ (xs : List RawLine). IsBallOfLines n xs (drop count all) s text) front_is h))
  where
    front_is : take count all ≡ first
    front_is = ap (λ (xs : List RawLine). take count xs) all_is ∙ ap (λ (k : ℕ). take k (first ++ second)) count_is ∙ take-append_seam first second

    rest_is : drop count all ≡ second
    rest_is = ap (λ (xs : List RawLine). drop count xs) all_is ∙ ap (λ (k : ℕ). drop k (first ++ second)) count_is ∙ drop-append_seam first second

    responds : (s : Status) (text : List ℕ) → IsBallOfLines n first second s text → BallResponds n input s text
    responds (Large (Words m)) text h = (first, second, read, h)
    responds (Large (Positions m)) text h = (first, second, read, h)
    responds Done text h = (first, second, read, h)
    responds Budget text h = (first, second, read, h)
    responds Wide text h = (first, second, read, h)
    responds statuses.Sides text h = (first, second, read, h)
    responds _ text h = absurd h.1

-- why the text isn't one of two chains
pub fault_told : (n : ℕ) (input : List ℕ) (fault : TextFault) (answer : Answer) → ((at : ℕ) (kind : Kind) → fault ≡ text_faults.Malformed at kind → IsFirstWrong input at kind)
    → IsFaultAnswer fault answer → BallResponds n input (status_of answer) (text_of answer)
fault_told n input (text_faults.Malformed at kind) answer wrong e =
    subst (λ (a : Answer). BallResponds n input (status_of a) (text_of a)) (sym e) (wrong at kind refl, refl)
fault_told n input text_faults.Memory answer wrong e = absurd e
