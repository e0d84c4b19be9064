-- The refusals of rows and prices as evidence for the numbers of a basis.
use Rattle.std.specs.Prelude.{◌≡◌, ℕ, ◌<◌, List, length, Option, is_some, ℤ, pos, ◌*ℤ◌, ◌<ℤ◌, FitsSigned}
use Rattle.std.specs.Int.{w128}
use Rattle.std.proofs.Common.{arith, refl, sym, ap, ap₂, subst, ◌∙◌, inl, inr}
use Rattle.sc_weight.specs.declared.level.Level.TheVariants.{Bulk, Fine}
use Rattle.sc_whole.specs.Operation.{step, StepFits}
use Rattle.sc_whole.specs.declared.checked.Op.{Op}
use Rattle.sc_algebra.proofs.Ints.{mul_comm, mul_left_comm}
use Rattle.sc_basis.specs.Products.{IsReduced}
use Rattle.sc_basis.specs.Rules.{IsLowest}
use Rattle.sc_basis.specs.Bases.{Column as Entries}
use Rattle.sc_basis.specs.Standing.{BasisNumbers}
use Rattle.sc_basis.specs.Pivots.{Improves, along, gap, IsLeaving, IsRatio}
use Rattle.sc_basis.specs.Evidence.{PriceLevel, bulk_level, fine_level, prices_at, scale_at, column_cost, Place, along_product, along_sum, value_product, value_sum, row_left, row_right, row_difference, row_scale, gap_product, gap_sum, gap_difference, price_left, price_right, price_sum, price_scale, result_at, needs_leaving, RowStep, PriceStep, Operands, row_or_first}
use Rattle.sc_basis.proofs.Numbers.{pos_of_mul}
use Rattle.sc_rows.specs.Lines.{Line, row_of}
use Rattle.sc_rows.specs.Standing.{entries_of, numbers_of}
use Rattle.sc_rows.specs.Places.{spot, IsWide}
use Rattle.sc_rows.specs.Evidence.{IsWideAlong, IsWidePivot, IsWideGap, IsWidePrices, IsWidePricePivot}
use Rattle.sc_rows.specs.declared.fault.Place.{Place as Named}
use Rattle.sc_rows.specs.declared.fault.WideAt.{WideAt}
use Rattle.sc_rows.specs.declared.prices.PriceRows.{PriceRows}
use Rattle.sc_simplex.specs.WideOperations.{name_of, indices_of, op_of}
use Rattle.sc_simplex.specs.inside.Evidence.{IsWideSomeValue, IsWideFor}

-- an operation at a spot as one at a place
wide_for : (r : ℕ) (b : ℕ → ℤ) (t : BasisNumbers) (c : Entries) (place : Place) (name : Named) (first second : ℕ) (leaving : Option ℕ) (op : Op) (x y : ℤ) (w : WideAt)
    → name ≡ name_of place → (first, second) ≡ indices_of place → op ≡ op_of place
    → (¬ StepFits (step op x y) → ¬ FitsSigned w128 (result_at place x y)) → is_some leaving ≡ needs_leaving place
    → Operands r b t c (row_or_first leaving) place x y → IsWide (spot name first second leaving) op x y w → IsWideFor r b t c w
wide_for r b t c place name first second leaving op x y w named indices same width told operands wide =
    subst (λ (z : WideAt). IsWideFor r b t c z) (sym wide.0)
    (record {
      place = place;
      tells = record { name = named; indices = indices; op = same; wide = width wide.1; walk = refl };
      untold = refl;
      leaving_told = told;
      operands = operands;
    })

-- a ratio in lowest terms over a positive number
ratio_is : (m a p q : ℤ) → pos 0 <ℤ m → IsLowest m a p q → IsRatio m a p q
ratio_is m a p q positive h =
    record {
      positive = pos_of_mul h.factor p h.positive (subst (λ (z : ℤ). pos 0 <ℤ z) (sym h.scale) positive);
      same = ap (λ (z : ℤ). z *ℤ q) (sym h.scale) ∙ turned h.factor p q ∙ ap (λ (z : ℤ). z *ℤ p) (h.entries 0 (omega arith));
      coprime = h.coprime;
    }
  where
    turned : (z x y : ℤ) → (z *ℤ x) *ℤ y ≡ (z *ℤ y) *ℤ x
    turned z x y = mul_comm (z *ℤ x) y ∙ mul_left_comm y z x ∙ ap (λ (u : ℤ). z *ℤ u) (mul_comm y x) ∙ mul_left_comm z x y ∙ mul_comm x (z *ℤ y)

-- the scale of a list over a positive number is positive
scale_positive : (n : ℕ) (v : ℕ → ℤ) (d : ℤ) (w : ℕ → ℤ) (e : ℤ) → IsReduced n v d w e → pos 0 <ℤ e → pos 0 <ℤ d
scale_positive n v d w e h positive = pos_of_mul h.factor d h.positive (subst (λ (z : ℤ). pos 0 <ℤ z) (sym h.scale) positive)

module _ (b : ℕ → ℤ) (rows : List Line) (p : PriceRows) (c : Entries) where
  -- an operation of a value that is too wide, and of a product with a column, is evidence for the numbers of the basis
  pub value_for : (w : WideAt) → IsWideSomeValue rows b w → IsWideFor (length rows) b (numbers_of rows p) c w
  value_for w (i, inside, (k, within, inl mul)) =
      wide_for (length rows) b (numbers_of rows p) c (value_product i k) _ _ _ _ _ _ _ w refl refl refl (λ h. h) refl (inside, within, refl, refl) mul
  value_for w (i, inside, (k, within, inr add)) =
      wide_for (length rows) b (numbers_of rows p) c (value_sum i k) _ _ _ _ _ _ _ w refl refl refl (λ h. h) refl (inside, within, refl, refl) add

  module _ (improves : Improves (length rows) (numbers_of rows p) c) where
    pub along_for : (w : WideAt) → IsWideAlong rows c w → IsWideFor (length rows) b (numbers_of rows p) c w
    along_for w (i, inside, (k, within, inl mul)) =
        wide_for (length rows) b (numbers_of rows p) c (along_product i k) _ _ _ _ _ _ _ w refl refl refl (λ h. h) refl (improves, inside, within, refl, refl) mul
    along_for w (i, inside, (k, within, inr add)) =
        wide_for (length rows) b (numbers_of rows p) c (along_sum i k) _ _ _ _ _ _ _ w refl refl refl (λ h. h) refl (improves, inside, within, refl, refl) add

    -- ---- the gap at each level
    bulk_gap_for : (w : WideAt) → IsWideGap (length rows) p.bulk Bulk c w → IsWideFor (length rows) b (numbers_of rows p) c w
    bulk_gap_for w (inl (k, within, inl mul)) =
        wide_for (length rows) b (numbers_of rows p) c (gap_product bulk_level k) _ _ _ _ _ _ _ w refl refl refl (λ h. h) refl (improves, within, refl, refl) mul
    bulk_gap_for w (inl (k, within, inr add)) =
        wide_for (length rows) b (numbers_of rows p) c (gap_sum bulk_level k) _ _ _ _ _ _ _ w refl refl refl (λ h. h) refl (improves, within, refl, refl) add
    bulk_gap_for w (inr sub) =
        wide_for (length rows) b (numbers_of rows p) c (gap_difference bulk_level) _ _ _ _ _ _ _ w refl refl refl (λ h. h) refl (improves, refl, refl) sub

    fine_gap_for : (w : WideAt) → IsWideGap (length rows) p.fine Fine c w → IsWideFor (length rows) b (numbers_of rows p) c w
    fine_gap_for w (inl (k, within, inl mul)) =
        wide_for (length rows) b (numbers_of rows p) c (gap_product fine_level k) _ _ _ _ _ _ _ w refl refl refl (λ h. h) refl (improves, within, refl, refl) mul
    fine_gap_for w (inl (k, within, inr add)) =
        wide_for (length rows) b (numbers_of rows p) c (gap_sum fine_level k) _ _ _ _ _ _ _ w refl refl refl (λ h. h) refl (improves, within, refl, refl) add
    fine_gap_for w (inr sub) =
        wide_for (length rows) b (numbers_of rows p) c (gap_difference fine_level) _ _ _ _ _ _ _ w refl refl refl (λ h. h) refl (improves, refl, refl) sub

    module _ (l : ℕ) (leaves : IsLeaving (length rows) b (numbers_of rows p) c l) where
      -- ---- new rows
      -- so is one of a new row
      pub pivot_for : (a : ℕ → ℤ) (w : WideAt) → ((i : ℕ) → i < length rows → a i ≡ along (length rows) (numbers_of rows p) c i) → IsWidePivot rows a l w
          → IsWideFor (length rows) b (numbers_of rows p) c w
      pivot_for a w same h =
          let own : a l ≡ along (length rows) (numbers_of rows p) c l = same l leaves.inside in
          let s : RowStep (length rows) b (numbers_of rows p) c l h.moving = record {
            improves = improves;
            leaves = leaves;
            left = record {
              entries = h.left.entries;
              scale = h.left.scale;
              reduced = subst (λ (z : ℤ). IsReduced (length rows) h.left.entries h.left.scale (row_of rows l) z) own h.left.reduced;
            };
            inside = h.inside;
            other = h.other;
            moved = λ e. h.moves (same h.moving h.inside ∙ e);
            p = h.wide.p;
            q = h.wide.q;
            ratio =
                subst (λ (z : ℤ). IsRatio h.left.scale z h.wide.p h.wide.q) (same h.moving h.inside)
                (ratio_is h.left.scale (a h.moving) h.wide.p h.wide.q
                (scale_positive (length rows) h.left.entries h.left.scale (row_of rows l) (a l) h.left.reduced (subst (λ (z : ℤ). pos 0 <ℤ z) (sym own) leaves.positive))
                h.wide.ratio);
          } in
          elim h.wide.wide [
            | inl (k, within, inl mul) ↦ wide_for (length rows) b (numbers_of rows p) c (row_left h.moving k) _ _ _ _ _ _ _ w refl refl refl (λ n. n) refl (s, within, refl, refl) mul
            | inl (k, within, inr (inl mul)) ↦ wide_for (length rows) b (numbers_of rows p) c (row_right h.moving k) _ _ _ _ _ _ _ w refl refl refl (λ n. n) refl (s, within, refl, refl) mul
            | inl (k, within, inr (inr sub)) ↦ wide_for (length rows) b (numbers_of rows p) c (row_difference h.moving k) _ _ _ _ _ _ _ w refl refl refl (λ n. n) refl (s, within, refl, refl) sub
            | inr mul ↦ wide_for (length rows) b (numbers_of rows p) c (row_scale h.moving) _ _ _ _ _ _ _ w refl refl refl (λ n. n) refl (s, refl, refl) mul
          ]

      -- ---- new prices
      price_step : (level : PriceLevel) (t : ℕ → ℤ) (m : ℤ) (u v : ℤ) → IsReduced (length rows) t m (row_of rows l) (along (length rows) (numbers_of rows p) c l)
          → IsLowest m (gap (length rows) (prices_at (numbers_of rows p) level) (scale_at (numbers_of rows p) level) (column_cost level) c) u v
          → (s : PriceStep (length rows) b (numbers_of rows p) c l level) × (s.p ≡ u) × (s.q ≡ v) × (s.left.entries ≡ t)
      price_step level t m u v reduced ratio = (
        record {
          improves = improves;
          leaves = leaves;
          left = record { entries = t; scale = m; reduced = reduced };
          p = u;
          q = v;
          ratio = ratio_is m _ u v (scale_positive (length rows) t m (row_of rows l) _ reduced leaves.positive) ratio;
        },
        refl,
        refl,
        refl,
      )

      bulk_for : (w : WideAt) → IsWidePrices (length rows) p.bulk Bulk c (row_of rows l) l w → IsWideFor (length rows) b (numbers_of rows p) c w
      bulk_for w h =
          let s = price_step bulk_level h.left.entries h.left.scale h.wide.p h.wide.q h.left.reduced h.wide.ratio in
          elim h.wide.wide [
            | inl (k, within, inl mul) ↦ wide_for (length rows) b (numbers_of rows p) c (price_left bulk_level k) _ _ _ _ _ _ _ w refl refl refl (λ n. n) refl (s.0, within, refl, sym s.1) mul
            | inl (k, within, inr (inl mul)) ↦ wide_for (length rows) b (numbers_of rows p) c (price_right bulk_level k) _ _ _ _ _ _ _ w refl refl refl (λ n. n) refl (s.0, within, sym s.2, ap (λ (f : ℕ → ℤ). f k) (sym s.3)) mul
            | inl (k, within, inr (inr add)) ↦ wide_for (length rows) b (numbers_of rows p) c (price_sum bulk_level k) _ _ _ _ _ _ _ w refl refl refl (λ n. n) refl
                (s.0, within, ap (λ (z : ℤ). entries_of p.bulk k *ℤ z) (sym s.1), ap₂ (λ (z : ℤ) (f : ℕ → ℤ). z *ℤ f k) (sym s.2) (sym s.3)) add
            | inr mul ↦ wide_for (length rows) b (numbers_of rows p) c (price_scale bulk_level) _ _ _ _ _ _ _ w refl refl refl (λ n. n) refl (s.0, refl, sym s.1) mul
          ]

      fine_for : (w : WideAt) → IsWidePrices (length rows) p.fine Fine c (row_of rows l) l w → IsWideFor (length rows) b (numbers_of rows p) c w
      fine_for w h =
          let s = price_step fine_level h.left.entries h.left.scale h.wide.p h.wide.q h.left.reduced h.wide.ratio in
          elim h.wide.wide [
            | inl (k, within, inl mul) ↦ wide_for (length rows) b (numbers_of rows p) c (price_left fine_level k) _ _ _ _ _ _ _ w refl refl refl (λ n. n) refl (s.0, within, refl, sym s.1) mul
            | inl (k, within, inr (inl mul)) ↦ wide_for (length rows) b (numbers_of rows p) c (price_right fine_level k) _ _ _ _ _ _ _ w refl refl refl (λ n. n) refl (s.0, within, sym s.2, ap (λ (f : ℕ → ℤ). f k) (sym s.3)) mul
            | inl (k, within, inr (inr add)) ↦ wide_for (length rows) b (numbers_of rows p) c (price_sum fine_level k) _ _ _ _ _ _ _ w refl refl refl (λ n. n) refl
                (s.0, within, ap (λ (z : ℤ). entries_of p.fine k *ℤ z) (sym s.1), ap₂ (λ (z : ℤ) (f : ℕ → ℤ). z *ℤ f k) (sym s.2) (sym s.3)) add
            | inr mul ↦ wide_for (length rows) b (numbers_of rows p) c (price_scale fine_level) _ _ _ _ _ _ _ w refl refl refl (λ n. n) refl (s.0, refl, sym s.1) mul
          ]

      -- so is one of the new prices
      pub prices_for : (w : WideAt) → IsWidePricePivot (length rows) p c (row_of rows l) l w → IsWideFor (length rows) b (numbers_of rows p) c w
      prices_for w (inl wide) = along_for w (l, leaves.inside, wide)
      prices_for w (inr (inl (inl gap))) = bulk_gap_for w gap
      prices_for w (inr (inl (inr h))) = bulk_for w h
      prices_for w (inr (inr (inl gap))) = fine_gap_for w gap
      prices_for w (inr (inr (inr h))) = fine_for w h
