-- A walk that is read back from its end.
use Rattle.std.proofs.Common.{◌≡◌, ℕ, zero, suc, ◌<◌, ◌≤◌, List, [], ◌∷◌, ◌++◌, slice_get, reverse, Some, arith, sym, ap, ap₂, subst, ◌∙◌, length-append}
use Rattle.std.proofs.lemmas.List.{reverse-append}
use Rattle.sc_theory.specs.Chains.{Chain, positions}
use Rattle.sc_theory.specs.Walks.{IsStep}
use Rattle.sc_weight.specs.Levels.{Levels, zero_levels, levels_sum}
use Rattle.sc_weight.specs.Laws.{levels_sum_assoc, levels_sum_zero, levels_sum_comm}
use Rattle.sc_weight.specs.Evidence.{IsFirstWideLevel}
use Rattle.sc_weight.specs.declared.level.WideLevel.{WideLevel}
use Rattle.sc_whole.specs.declared.checked.Op.TheVariants.{Add}
use Rattle.sc_tables.specs.Squares.{Square}
use Rattle.sc_tables.specs.Walks.{WalksAlong, end_of}
use Rattle.sc_tables.specs.Totals.{open_total, closed_total, IsBelow}
use Rattle.sc_tables.specs.StepPrices.{AreForChain, price_in}
use Rattle.sc_tables.specs.declared.search.Node.{Node}
use Rattle.sc_tables.specs.inside.Searches.{AreWalks, Extends, Closes, IsWideAt}
use Rattle.sc_tables.specs.inside.Trails.{ReadsTo, AreLinked}
use Rattle.sc_tables.specs.inside.States.{StopsWithin}
use Rattle.sc_tables.specs.declared.search.Stop.{Stop}
use Rattle.sc_tables.specs.declared.search.Stop.TheVariants.{Wide, Memory}
use Rattle.sc_tables.specs.declared.tables.TableFault.{TableFault}
use Rattle.sc_tables.specs.CheapPolygons.{IsWideWalk, IsTableFault}
use Rattle.sc_tables.specs.inside.CheapPolygons.{IsClosedBelow, ShowsStop}
use Rattle.sc_tables.proofs.WalkLaws.{walks-append, walks_back}
use Rattle.sc_tables.proofs.LeastTotals.{closed_total-back}
use Rattle.sc_tables.proofs.Best.{same_item}
use Rattle.sc_tables.proofs.NodeWalks.{price_at}
use Rattle.std.specs.Prelude.{◌≢◌, ◌+◌, length}
use Rattle.std.specs.List.{AllByRecursion}

-- the walk of the node x is that of the node y and the list behind it
pub record GoesTo {W : Type 0} (levels : W → Levels) (c : Chain) (t : Square W) (s : ℕ) (y x : Node W) (rest : List ℕ) : Type 0 where
  pub walks : WalksAlong c y.place rest
  pub away : AllByRecursion (λ i. s ≢ i) rest
  pub ends : end_of y.place rest ≡ x.place
  pub total : levels_sum (levels y.total) (open_total (price_in levels t) y.place rest) ≡ levels x.total
  pub few : y.steps + length rest ≤ x.steps

-- read back from the node n to the node m
pub record IsReadTo {W : Type 0} (levels : W → Levels) (nodes : List (Node W)) (n m : ℕ) (back : List ℕ) : Type 0 where
  pub inside : m < length nodes
  pub goes : (c : Chain) (t : Square W) (s most : ℕ) (x y : Node W) → AreForChain c t → AreWalks levels t s most nodes → slice_get nodes n ≡ Some x → slice_get nodes m ≡ Some y →
      GoesTo levels c t s y x (reverse back)

-- the nodes of a search can be read back: each but the first one comes after the one before it
pub linked_from : {W : Type 0} (levels : W → Levels) (t : Square W) (s most : ℕ) (nodes : List (Node W)) → t.side ≤ 64 → most ≤ 64 → AreWalks levels t s most nodes → AreLinked nodes
linked_from {W} levels t s most nodes small short are =
    record {
      some = are.some;
      earlier = earlier;
      place = λ n x here. omega (arith, are.placed n x here);
      steps = λ n x here. omega (arith, are.few n x here);
    }
  where
    earlier : (n : ℕ) (x : Node W) → 0 < n → slice_get nodes n ≡ Some x → x.before < n
    earlier zero x later here = absurd (omega arith)
    earlier (suc n) x later here = let (m, low, at, is) = are.later n x here in omega arith

reverse-last : (back : List ℕ) (p : ℕ) → p ∷ reverse back ≡ reverse (back ++ p ∷ [])
reverse-last back p = sym (reverse-append back (p ∷ []))

module _ {W : Type 0} (levels : W → Levels) where
  goes_more : (c : Chain) (t : Square W) (s : ℕ) (m y x : Node W) (rest : List ℕ) → AreForChain c t → m.place < t.side → y.place < t.side → Extends levels t s m y → GoesTo levels c t s y x rest → GoesTo levels c t s m x (y.place ∷ rest)
  goes_more c t s m y x rest fits from to is goes =
      let step : IsStep c m.place y.place = fits.only m.place y.place is.price (omega (arith, fits.side)) (omega (arith, fits.side)) is.step in
      record {
        walks = (step, goes.walks);
        away = (is.away, goes.away);
        ends = goes.ends;
        total =
            sym (levels_sum_assoc (levels m.total) (price_in levels t m.place y.place) (open_total (price_in levels t) y.place rest))
            ∙ ap (λ (a : Levels). levels_sum (levels_sum (levels m.total) a) (open_total (price_in levels t) y.place rest)) (price_at levels t m.place y.place is.price is.step)
            ∙ ap (λ (a : Levels). levels_sum a (open_total (price_in levels t) y.place rest)) (sym is.total)
            ∙ goes.total;
        few = omega (arith, is.steps, goes.few);
      }

  -- one node more is read
  pub read_next : (nodes : List (Node W)) (n here : ℕ) (y : Node W) (back : List ℕ) → IsReadTo levels nodes n here back → AreLinked nodes → 0 < here → slice_get nodes here ≡ Some y → IsReadTo levels nodes n y.before (back ++ y.place ∷ [])
  read_next nodes n zero y back is linked later at = absurd (omega arith)
  read_next nodes n (suc k) y back is linked later at =
      record {
        inside = omega (arith, linked.earlier (suc k) y later at, is.inside);
        goes = λ c t s most x m fits are there mine.
            (let (m', low, m_at, ext) = are.later k y at in
            let same : m' ≡ m = same_item m' m (slice_get nodes y.before) m_at mine in
            let goes = is.goes c t s most x y fits are there at in
            subst (GoesTo levels c t s m x) (reverse-last back y.place)
            (goes_more c t s m y x (reverse back) fits (are.placed y.before m mine) (are.placed (suc k) y at) (subst (λ (z : Node W). Extends levels t s z y) same ext) goes));
      }

  -- with the first node all of the walk is read, from its start on
  pub read_last : (nodes : List (Node W)) (n here : ℕ) (y : Node W) (back : List ℕ) → IsReadTo levels nodes n here back → here ≡ 0 → slice_get nodes 0 ≡ Some y → ReadsTo levels nodes n (reverse (back ++ y.place ∷ []))
  read_last nodes n here y back is none first c t s most x fits are there =
      let goes = is.goes c t s most x y fits are there (ap (slice_get nodes) none ∙ first) in
      let (at, zero_total) = are.first y first in
      record {
        rest = reverse back;
        is = sym (reverse-last back y.place) ∙ ap (λ (p : ℕ). p ∷ reverse back) at;
        leads = record {
          walks = subst (λ (p : ℕ). WalksAlong c p (reverse back)) at goes.walks;
          away = goes.away;
          ends = subst (λ (p : ℕ). end_of p (reverse back) ≡ x.place) at goes.ends;
        };
        total =
            sym (levels_sum_zero (open_total (price_in levels t) s (reverse back)))
            ∙ levels_sum_comm (open_total (price_in levels t) s (reverse back)) zero_levels
            ∙ ap₂ (λ (a : Levels) (p : ℕ). levels_sum a (open_total (price_in levels t) p (reverse back))) (sym zero_total) (sym at)
            ∙ goes.total;
        few = omega (arith, goes.few);
      }

  -- ---- what is said of the walk that was read
  pub closed_below : (c : Chain) (t : Square W) (threshold : Levels) (s most n : ℕ) (nodes : List (Node W)) (walk : List ℕ) → AreForChain c t → s < t.side → AreWalks levels t s most nodes → Closes levels t nodes threshold s n → ReadsTo levels nodes n walk → IsClosedBelow c (price_in levels t) threshold walk
  closed_below c t threshold s most n nodes walk fits inside are closes reads =
      let is = reads c t s most closes.here fits are closes.here_is in
      let step : IsStep c closes.here.place s = fits.only closes.here.place s closes.price (omega (arith, fits.side, are.placed n closes.here closes.here_is)) (omega (arith, fits.side)) closes.step in
      let total : closed_total (price_in levels t) (s ∷ is.rest) ≡ levels_sum (levels closes.here.total) (levels closes.price) =
      closed_total-back (price_in levels t) s is.rest closes.here.place is.leads.ends
      ∙ ap₂ levels_sum is.total (price_at levels t closes.here.place s closes.price closes.step) in
      subst (IsClosedBelow c (price_in levels t) threshold) (sym is.is)
      (record {
        closed = walks_back c s s is.rest is.leads.walks (subst (λ (k : ℕ). IsStep c k s) (sym is.leads.ends) step);
        below = subst (λ (l : Levels). IsBelow l threshold) (sym total) closes.below;
      })

  -- where a step's sum is too wide, the walk that was read with that step behind it shows it
  pub wide_walk : (c : Chain) (t : Square W) (s most end n to : ℕ) (wide : WideLevel) (nodes : List (Node W)) (walk : List ℕ) → AreForChain c t → AreWalks levels t s most nodes → IsWideAt levels t nodes end to n wide → to < positions c →
      ((x : Node W) → slice_get nodes n ≡ Some x → x.steps < positions c) → ReadsTo levels nodes n walk → IsWideWalk c (price_in levels t) (walk ++ to ∷ []) wide.level wide.wide
  wide_walk c t s most end n to wide nodes walk fits are is inside short reads =
      let w = reads c t s most is.here fits are is.here_is in
      let step : IsStep c is.here.place to = fits.only is.here.place to is.price (omega (arith, fits.side, are.placed n is.here is.here_is)) inside is.step in
      let price : levels is.price ≡ price_in levels t (end_of s w.rest) to = sym (price_at levels t is.here.place to is.price is.step) ∙ ap (λ (k : ℕ). price_in levels t k to) (sym w.leads.ends) in
      record {
        start = s;
        front = w.rest;
        last = to;
        is = ap (λ (ys : List ℕ). ys ++ to ∷ []) w.is;
        steps = walks-append c s w.rest (to ∷ []) w.leads.walks (subst (λ (k : ℕ). IsStep c k to) (sym w.leads.ends) step, tt);
        few = omega (arith, length-append w.rest (to ∷ []), w.few, short is.here is.here_is);
        evidence =
            subst (λ (p : Levels). IsFirstWideLevel Add (levels_sum (open_total (price_in levels t) s w.rest) p) (open_total (price_in levels t) s w.rest) p wide) price
            (subst (λ (a : Levels). IsFirstWideLevel Add (levels_sum a (levels is.price)) a (levels is.price) wide) (sym w.total) is.evidence);
      }

-- ---- the fault of a stop

module _ {W : Type 0} (levels : W → Levels) (t : Square W) (nodes : List (Node W)) where
  -- what shows a stop of a search is a fault of the tables
  pub stop_shown : (c : Chain) (s : ℕ) (stop : Stop) (fault : TableFault) → AreForChain c t → AreWalks levels t s (positions c) nodes → StopsWithin levels t nodes (positions c) stop → ShowsStop levels nodes stop fault → IsTableFault c (price_in levels t) fault
  stop_shown c s (Wide n to wide) fault fits are is shows =
      let at : IsWideAt levels t nodes is.end to n wide = subst (λ (k : ℕ). IsWideAt levels t nodes is.end k n wide) (sym is.stop_is.0) is.stop_is.1 in
      shows c t s (positions c) is.end fits are at (omega (arith, is.inside, is.stop_is.0, fits.side)) (λ x here. is.before n x at.node here)
  stop_shown c s Memory fault fits are is shows = subst (IsTableFault c (price_in levels t)) (sym shows) tt
