-- Evidence with the key of the entering column told.
use Rattle.std.specs.Prelude.{◌≡◌, ℕ, Bool, true, false, [], Option, Some, None, is_some, ℤ}
use Rattle.std.specs.Option.{option_map}
use Rattle.std.specs.Vec.{vec_items}
use Rattle.std.proofs.Common.{refl, sym, ap, subst, ◌∙◌, true≢false}
use Rattle.sc_whole.specs.declared.checked.Wide.{Wide as Operation}
use Rattle.sc_basis.specs.Bases.{Column as Entries}
use Rattle.sc_basis.specs.Standing.{BasisNumbers}
use Rattle.sc_basis.specs.Evidence.{Place, along_product, along_sum, value_product, value_sum, row_left, row_right, row_difference, row_scale, gap_product, gap_sum, gap_difference, price_left, price_right, price_sum, price_scale, Operands, needs_entering, row_or_first}
use Rattle.sc_rows.specs.declared.fault.WideAt.{WideAt}
use Rattle.sc_simplex.specs.Oracles.{ColumnsBy}
use Rattle.sc_simplex.specs.WideOperations.{TellsPlace, IsEnteringTold, name_of}
use Rattle.sc_simplex.specs.inside.Evidence.{IsWideFor, IsWideTold, speaks_of_column}

speaks_names : (place : Place) → speaks_of_column (name_of place) ≡ needs_entering place
speaks_names (along_product i k) = refl
speaks_names (along_sum i k) = refl
speaks_names (value_product i k) = refl
speaks_names (value_sum i k) = refl
speaks_names (row_left i k) = refl
speaks_names (row_right i k) = refl
speaks_names (row_difference i k) = refl
speaks_names (row_scale i) = refl
speaks_names (gap_product level k) = refl
speaks_names (gap_sum level k) = refl
speaks_names (gap_difference level) = refl
speaks_names (price_left level k) = refl
speaks_names (price_right level k) = refl
speaks_names (price_sum level k) = refl
speaks_names (price_scale level) = refl

-- the operands of a place that speaks of no column
bare_operands : (r : ℕ) (b : ℕ → ℤ) (t : BasisNumbers) (c d : Entries) (l : ℕ) (place : Place) (x y : ℤ) → needs_entering place ≡ false → Operands r b t c l place x y → Operands r b t d l place x y
bare_operands r b t c d l (along_product i k) x y e h = absurd (true≢false e)
bare_operands r b t c d l (along_sum i k) x y e h = absurd (true≢false e)
bare_operands r b t c d l (value_product i k) x y e h = h
bare_operands r b t c d l (value_sum i k) x y e h = h
bare_operands r b t c d l (row_left i k) x y e h = absurd (true≢false e)
bare_operands r b t c d l (row_right i k) x y e h = absurd (true≢false e)
bare_operands r b t c d l (row_difference i k) x y e h = absurd (true≢false e)
bare_operands r b t c d l (row_scale i) x y e h = absurd (true≢false e)
bare_operands r b t c d l (gap_product level k) x y e h = absurd (true≢false e)
bare_operands r b t c d l (gap_sum level k) x y e h = absurd (true≢false e)
bare_operands r b t c d l (gap_difference level) x y e h = absurd (true≢false e)
bare_operands r b t c d l (price_left level k) x y e h = absurd (true≢false e)
bare_operands r b t c d l (price_right level k) x y e h = absurd (true≢false e)
bare_operands r b t c d l (price_sum level k) x y e h = absurd (true≢false e)
bare_operands r b t c d l (price_scale level) x y e h = absurd (true≢false e)

-- whether a place needs the entering column is whether its name speaks of it
pub needs : (place : Place) (w : WideAt) (v : Bool) → TellsPlace place w → speaks_of_column w.place ≡ v → needs_entering place ≡ v
needs place w v tells e = sym (speaks_names place) ∙ ap speaks_of_column (sym tells.name) ∙ e

-- evidence at a place that speaks of no column is told without a key
pub told_silent : (C : ColumnsBy) (r : ℕ) (b : ℕ → ℤ) (t : BasisNumbers) (c : Entries) (w : WideAt) → IsWideFor r b t c w → speaks_of_column w.place ≡ false → IsWideTold C r b t w
told_silent C r b t c w h e =
    record {
      place = h.place;
      tells = h.tells;
      entering = None;
      told = subst (λ o. IsEnteringTold C (option_map vec_items o) None) (sym h.untold) tt;
      entering_told = sym (needs h.place w false h.tells e);
      leaving_told = h.leaving_told;
      operands = bare_operands r b t c [] (row_or_first w.leaving) h.place w.wide.x w.wide.y (needs h.place w false h.tells e) h.operands;
    }

-- evidence at a place that speaks of the column is told with its key
pub told_spoken : (C : ColumnsBy) (r : ℕ) (b : ℕ → ℤ) (t : BasisNumbers) (c : Entries) (w v : WideAt) → IsWideFor r b t c w → speaks_of_column w.place ≡ true
    → ((place : Place) → TellsPlace place w → TellsPlace place v) → w.leaving ≡ v.leaving → w.wide ≡ v.wide → IsEnteringTold C (option_map vec_items v.entering) (Some c) → IsWideTold C r b t v
told_spoken C r b t c w v h e tells leaving wide told =
    record {
      place = h.place;
      tells = tells h.place h.tells;
      entering = Some c;
      told = told;
      entering_told = sym (needs h.place w true h.tells e);
      leaving_told = ap is_some (sym leaving) ∙ h.leaving_told;
      operands = subst (λ (z : Operation). Operands r b t c (row_or_first v.leaving) h.place z.x z.y) wide
          (subst (λ (o : Option ℕ). Operands r b t c (row_or_first o) h.place w.wide.x w.wide.y) leaving h.operands);
    }
