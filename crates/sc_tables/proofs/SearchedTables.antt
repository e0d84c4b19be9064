-- The tables of the starts, from the searches.
use Rattle.std.proofs.Common.{◌≡◌, ℕ, ◌+◌, ◌*◌, ◌<◌, List, [], ◌∷◌, length, get_or, slice_get, Option, Some, None, arith, refl, sym, ap, subst, ◌∙◌, inl, inr}
use Rattle.std.specs.Option.{option_map}
use Rattle.std.proofs.lemmas.Bool.{cases_lt}
use Rattle.std.proofs.lemmas.Nat.{mul-add-lt}
use Rattle.sc_theory.specs.Chains.{Chain, positions}
use Rattle.sc_weight.specs.Levels.{Levels}
use Rattle.sc_tables.specs.Squares.{Square}
use Rattle.sc_tables.specs.Walks.{WalksAlong, end_of, LeadsTo}
use Rattle.sc_tables.specs.Totals.{open_total, IsAtMost}
use Rattle.sc_tables.specs.StepPrices.{AreForChain, price_in}
use Rattle.sc_tables.specs.declared.search.Node.{Node}
use Rattle.sc_tables.specs.inside.Searches.{AreWalks}
use Rattle.sc_tables.specs.Searches.{Lower}
use Rattle.sc_tables.specs.inside.States.{IsDone}
use Rattle.sc_tables.proofs.AllTables.{IsSearched}
use Rattle.sc_tables.specs.inside.Trails.{IsTotalOf, AreTotalsAfter}
use Rattle.sc_tables.proofs.Best.{same_item}
use Rattle.sc_tables.proofs.NodeWalks.{walk_of}
use Rattle.sc_tables.proofs.States.{end_place}

-- the tables of the first n starts were searched
pub record AreSearched {W : Type 0} (levels : W → Levels) (c : Chain) (price : ℕ → ℕ → Levels) (threshold : Levels) (side n : ℕ) (cells : List (Option W)) : Type 0 where
  pub len : length cells ≡ n * side
  pub table : (s : ℕ) → s < n → IsSearched c price threshold s (λ j. option_map levels (get_or cells (s * side + j) None))

end_inside : (c : Chain) (i : ℕ) (js : List ℕ) → i < positions c → WalksAlong c i js → end_of i js < positions c
end_inside c i [] inside walks = inside
end_inside c i (j ∷ js) inside walks = end_inside c j js walks.0.to walks.1

lead_inside : (c : Chain) (s j : ℕ) (js : List ℕ) → s < positions c → LeadsTo c s j js → j < positions c
lead_inside c s j js inside leads = subst (λ (k : ℕ). k < positions c) leads.ends (end_inside c s js inside leads.walks)

-- tables that agree at the positions
searched-congr : (c : Chain) (price : ℕ → ℕ → Levels) (threshold : Levels) (s : ℕ) (a b : ℕ → Option Levels) → s < positions c → ((j : ℕ) → j < positions c → b j ≡ a j) → IsSearched c price threshold s a → IsSearched c price threshold s b
searched-congr c price threshold s a b inside same is =
    record {
      sound = λ j l within e. is.sound j l within (sym (same j within) ∙ e);
      under_each = λ j js leads short. (let (l, e, low) = is.under_each j js leads short in (l, same j (lead_inside c s j js inside leads) ∙ e, low));
      back = is.back;
    }

module _ {W : Type 0} (levels : W → Levels) (c : Chain) (t : Square W) (threshold : Levels) (s : ℕ) (nodes : List (Node W)) (table : List (Option ℕ)) (fits : AreForChain c t) (inside : s < positions c) (are : AreWalks levels t s (positions c) nodes) (done : IsDone levels c t threshold s nodes table) where
  mapped_none : (v : Option W) (l : Levels) → v ≡ None → option_map levels v ≡ Some l → ⊥
  mapped_none v l e h = let none : option_map levels v ≡ None = ap (option_map levels) e in absurd (cc)

  mapped_some : (v : Option W) (w : W) → v ≡ Some w → option_map levels v ≡ Some (levels w)
  mapped_some v w e = ap (option_map levels) e

  sound_at : (j : ℕ) (o : Option ℕ) (v : Option W) (l : Levels) → j < positions c → get_or table j None ≡ o → IsTotalOf nodes o v → option_map levels v ≡ Some l → (js : List ℕ) × LeadsTo c s j js × (open_total (price_in levels t) s js ≡ l)
  sound_at j None v l within at total e = absurd (mapped_none v l total e)
  sound_at j (Some n) v l within at (x, here, is) e =
      let w = walk_of levels c t s fits (positions c) nodes are n x here in
      let place : x.place ≡ j = end_place nodes (length nodes) j (get_or table j None) n x (done.ends j (omega (arith, done.len, fits.side))) at here in
      let same : levels x.total ≡ l = same_item (levels x.total) l (option_map levels v) (mapped_some v x.total is) e in
      (w.walk, subst (λ (k : ℕ). LeadsTo c s k w.walk) place w.leads, w.total ∙ same)

  under_at : (o : Option ℕ) (v : Option W) (total : Levels) → IsTotalOf nodes o v → Lower levels nodes o total → (l : Levels) × (option_map levels v ≡ Some l) × IsAtMost l total
  under_at None v total is low = absurd low
  under_at (Some n) v total (x, here, is) (y, there, low) =
      (levels x.total, mapped_some v x.total is, subst (λ (z : Node W). IsAtMost (levels z.total) total) (same_item y x (slice_get nodes n) there here) low)

  -- the totals of the walks that the table names at a search's end are those of a searched table
  pub table_searched : (cells : ℕ → Option W) → ((j : ℕ) → j < positions c → IsTotalOf nodes (get_or table j None) (cells j)) → IsSearched c (price_in levels t) threshold s (λ j. option_map levels (cells j))
  table_searched cells totals =
      record {
        sound = λ j l within e. sound_at j (get_or table j None) (cells j) l within refl (totals j within) e;
        under_each = λ j js leads short. under_at (get_or table j None) (cells j) (open_total (price_in levels t) s js) (totals j (lead_inside c s j js inside leads)) (done.under_each j js leads short);
        back = done.back;
      }

  -- the totals of the table of s are put behind those of the starts before it
  pub next_searched : (old new : List (Option W)) → AreSearched levels c (price_in levels t) threshold t.side s old → AreTotalsAfter nodes table old new (length table) → AreSearched levels c (price_in levels t) threshold t.side (s + 1) new
  next_searched old new before after =
      record {
        len = omega (arith, after.len, before.len, done.len);
        table = λ r within. elim (cases_lt r s) [
          | inl earlier ↦
              searched-congr c (price_in levels t) threshold r (λ j. option_map levels (get_or old (r * t.side + j) None)) (λ j. option_map levels (get_or new (r * t.side + j) None)) (omega arith)
              (λ j inside_table. ap (option_map levels) (after.same (r * t.side + j)
              (let low : j < t.side = omega (arith, fits.side) in omega (arith, before.len, mul-add-lt r t.side j s earlier low))))
              (before.table r earlier)
          | inr last ↦
              (let at : s ≡ r = omega arith in
              subst (λ (k : ℕ). IsSearched c (price_in levels t) threshold k (λ j. option_map levels (get_or new (k * t.side + j) None))) at
              (table_searched (λ j. get_or new (s * t.side + j) None)
              (λ j inside_table. subst (λ (n : ℕ). IsTotalOf nodes (get_or table j None) (get_or new (n + j) None)) before.len (after.total j (omega (arith, done.len, fits.side))))))
        ];
      }

-- the tables of all starts
pub all_tables : {W : Type 0} (levels : W → Levels) (c : Chain) (price : ℕ → ℕ → Levels) (threshold : Levels) (side n : ℕ) (cells : List (Option W)) → side ≡ positions c → n ≡ side → AreSearched levels c price threshold side n cells →
    (s : ℕ) → s < positions c → IsSearched c price threshold s (λ j. option_map levels (get_or cells (s * side + j) None))
all_tables levels c price threshold side n cells e h are s inside = are.table s (omega arith)
