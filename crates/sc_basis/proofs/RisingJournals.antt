-- The rise value along the prefixes of a lawful journal.
use Rattle.std.specs.Prelude.{◌≡◌, ℕ, zero, suc, ◌<◌, ◌≤◌, length, take, [], ◌∷◌, ℤ, pos, ◌*ℤ◌, ◌<ℤ◌}
use Rattle.std.proofs.Common.{arith, refl, sym, ap, subst, ◌∙◌, inl, inr}
use Rattle.std.proofs.Math.Path.{subst₂}
use Rattle.sc_algebra.proofs.Ints.{mul_left_comm}
use Rattle.sc_basis.specs.Products.{dot, unit}
use Rattle.sc_basis.specs.Bases.{entry_of, Basis, columns, bulk_costs, fine_costs}
use Rattle.sc_basis.specs.Standing.{BasisNumbers, Stands}
use Rattle.sc_basis.specs.Lines.{line}
use Rattle.sc_basis.specs.Pivots.{along, Pivot, IsLawful, after_pivot}
use Rattle.sc_basis.specs.Journals.{Journal, LawfulFrom, basis_after, Inverse, IsReached}
use Rattle.sc_basis.specs.Values.{SameLine, LesserLine, Rises}
use Rattle.sc_basis.proofs.Numbers.{cancel_pos}
use Rattle.sc_basis.proofs.ProductLaws.{dot-congr}
use Rattle.sc_basis.proofs.InverseLaws.{unique}
use Rattle.sc_basis.proofs.LexOrder.{lex_map, lex_scale, lex_unscale, lex_irreflexive, below_trans}
use Rattle.sc_basis.proofs.RiseValues.{one_pivot_rises}

-- ---- the order of rise values
module _ (r : ℕ) (b : ℕ → ℤ) (u v w : ℕ → ℤ) (d e g : ℤ) (first : pos 0 <ℤ d) (second : pos 0 <ℤ e) (third : pos 0 <ℤ g) where
  lesser_lesser : LesserLine r b u d v e → LesserLine r b v e w g → LesserLine r b u d w g
  lesser_lesser p q = below_trans (suc r) d e g (line r b u) (line r b v) (line r b w) first second third p q

  lesser_same : LesserLine r b u d v e → SameLine r b v e w g → LesserLine r b u d w g
  lesser_same p q =
      lex_unscale (suc r) e (λ k. g *ℤ line r b u k) (λ k. d *ℤ line r b w k) second
      (lex_map (suc r) (λ k. g *ℤ (e *ℤ line r b u k)) (λ k. g *ℤ (d *ℤ line r b v k)) _ _
      (λ k l. mul_left_comm g e (line r b u k))
      (λ k l. mul_left_comm g d (line r b v k) ∙ ap (λ (z : ℤ). d *ℤ z) (q k l) ∙ mul_left_comm d e (line r b w k))
      (lex_scale (suc r) g (λ k. e *ℤ line r b u k) (λ k. d *ℤ line r b v k) third p))

  same_lesser : SameLine r b u d v e → LesserLine r b v e w g → LesserLine r b u d w g
  same_lesser p q =
      lex_unscale (suc r) e (λ k. g *ℤ line r b u k) (λ k. d *ℤ line r b w k) second
      (lex_map (suc r) (λ k. d *ℤ (g *ℤ line r b v k)) (λ k. d *ℤ (e *ℤ line r b w k)) _ _
      (λ k l. mul_left_comm d g (line r b v k) ∙ ap (λ (z : ℤ). g *ℤ z) (sym (p k l)) ∙ mul_left_comm g e (line r b u k))
      (λ k l. mul_left_comm d e (line r b w k))
      (lex_scale (suc r) d (λ k. g *ℤ line r b v k) (λ k. e *ℤ line r b w k) first q))

  same_same : SameLine r b u d v e → SameLine r b v e w g → SameLine r b u d w g
  same_same p q k l =
      cancel_pos e (g *ℤ line r b u k) (d *ℤ line r b w k) second
      (mul_left_comm e g (line r b u k) ∙ ap (λ (z : ℤ). g *ℤ z) (p k l) ∙ mul_left_comm g d (line r b v k) ∙ ap (λ (z : ℤ). d *ℤ z) (q k l) ∙ mul_left_comm d e (line r b w k))

module _ (r : ℕ) (b : ℕ → ℤ) where
  -- the order of rise values is transitive, and no rise value is above itself
  pub rises_trans : (basis basis' basis'' : Basis) (t t' t'' : BasisNumbers) → Stands r basis t → Stands r basis' t' → Stands r basis'' t'' → Rises r b t t' → Rises r b t' t'' → Rises r b t t''
  rises_trans basis basis' basis'' t t' t'' s s' s'' (inl p) (inl q) = inl (lesser_lesser r b t.bulk t'.bulk t''.bulk t.bulk_scale t'.bulk_scale t''.bulk_scale s.bulk.positive s'.bulk.positive s''.bulk.positive p q)
  rises_trans basis basis' basis'' t t' t'' s s' s'' (inl p) (inr (q, x)) = inl (lesser_same r b t.bulk t'.bulk t''.bulk t.bulk_scale t'.bulk_scale t''.bulk_scale s.bulk.positive s'.bulk.positive s''.bulk.positive p q)
  rises_trans basis basis' basis'' t t' t'' s s' s'' (inr (p, x)) (inl q) = inl (same_lesser r b t.bulk t'.bulk t''.bulk t.bulk_scale t'.bulk_scale t''.bulk_scale s.bulk.positive s'.bulk.positive s''.bulk.positive p q)
  rises_trans basis basis' basis'' t t' t'' s s' s'' (inr (p, x)) (inr (q, y)) =
      inr (
        same_same r b t.bulk t'.bulk t''.bulk t.bulk_scale t'.bulk_scale t''.bulk_scale s.bulk.positive s'.bulk.positive s''.bulk.positive p q,
        lesser_lesser r b t.fine t'.fine t''.fine t.fine_scale t'.fine_scale t''.fine_scale s.fine.positive s'.fine.positive s''.fine.positive x y,
      )

  pub rises_irreflexive : (t : BasisNumbers) → Rises r b t t → ⊥
  rises_irreflexive t (inl p) = lex_irreflexive (suc r) (λ k. t.bulk_scale *ℤ line r b t.bulk k) p
  rises_irreflexive t (inr (p, q)) = lex_irreflexive (suc r) (λ k. t.fine_scale *ℤ line r b t.fine k) q

  -- ---- along a journal
  lawful_take : (basis : Basis) (ps : Journal) (n : ℕ) → LawfulFrom r b basis ps → LawfulFrom r b basis (take n ps)
  lawful_take basis ps zero lawful = tt
  lawful_take basis [] (suc n) lawful = tt
  lawful_take basis (p ∷ ps) (suc n) lawful = (lawful.0, lawful_take (after_pivot basis p) ps n lawful.1)

  -- numbers of the basis that a prefix leads to
  numbers_at : (basis : Basis) (ps : Journal) (m : ℕ) → LawfulFrom r b basis ps → m < length ps → (t : BasisNumbers) × Stands r (basis_after basis (take m ps)) t
  numbers_at basis [] m lawful l = absurd (omega arith)
  numbers_at basis (p ∷ ps) zero lawful l = (lawful.0.numbers, lawful.0.stands)
  numbers_at basis (p ∷ ps) (suc m) lawful l = numbers_at (after_pivot basis p) ps m lawful.1 (omega arith)

  module _ (step : (basis : Basis) (p : Pivot) → IsReached r b basis → IsLawful r b basis p → IsReached r b (after_pivot basis p)) where
    -- a lawful pivot raises the rise value, by whatever numbers stand for the two bases
    pub pivot_rises : (basis : Basis) (p : Pivot) (t t' : BasisNumbers) → IsReached r b basis → IsLawful r b basis p → Stands r basis t → Stands r (after_pivot basis p) t' → Rises r b t t'
    pivot_rises basis p t t' reached lawful stands after =
        one_pivot_rises r b basis p.0 p.1 t t' reached (step basis p reached lawful) stands after lawful.leaves.inside
        (subst (λ (z : ℤ). pos 0 <ℤ z) along_same lawful.leaves.positive)
        (elim lawful.improves [
          | inl less ↦ inl (subst (λ (z : ℤ). z <ℤ pos 0) bulk_same less)
          | inr level ↦ inr (sym bulk_same ∙ level.0, subst₂ (λ (y z : ℤ). y <ℤ z) fine_same fine.0 level.1)
        ])
      where
        n : BasisNumbers
        n = lawful.numbers

        inverse : Inverse r (columns basis)
        inverse = reached.inverse

        c : ℕ → ℤ
        c = entry_of p.1

        bulk : (n.bulk_scale ≡ t.bulk_scale) × ((k : ℕ) → k < r → n.bulk k ≡ t.bulk k)
        bulk = unique r (columns basis) inverse (bulk_costs basis) n.bulk t.bulk n.bulk_scale t.bulk_scale lawful.stands.bulk stands.bulk lawful.stands.bulk_coprime stands.bulk_coprime

        fine : (n.fine_scale ≡ t.fine_scale) × ((k : ℕ) → k < r → n.fine k ≡ t.fine k)
        fine = unique r (columns basis) inverse (fine_costs basis) n.fine t.fine n.fine_scale t.fine_scale lawful.stands.fine stands.fine lawful.stands.fine_coprime stands.fine_coprime

        row : (n.denominator p.0 ≡ t.denominator p.0) × ((k : ℕ) → k < r → n.row p.0 k ≡ t.row p.0 k)
        row =
            unique r (columns basis) inverse (unit p.0) (n.row p.0) (t.row p.0) (n.denominator p.0) (t.denominator p.0) (lawful.stands.rows p.0 lawful.leaves.inside) (stands.rows p.0 lawful.leaves.inside)
            (lawful.stands.rows_coprime p.0 lawful.leaves.inside) (stands.rows_coprime p.0 lawful.leaves.inside)

        bulk_same : dot r n.bulk c ≡ dot r t.bulk c
        bulk_same = dot-congr r n.bulk t.bulk c c bulk.1 (λ k l. refl)

        fine_same : dot r n.fine c ≡ dot r t.fine c
        fine_same = dot-congr r n.fine t.fine c c fine.1 (λ k l. refl)

        along_same : along r n p.1 p.0 ≡ along r t p.1 p.0
        along_same = dot-congr r (n.row p.0) (t.row p.0) c c row.1 (λ k l. refl)

    later_rises : (basis : Basis) (p : Pivot) (ps : Journal) (t t' : BasisNumbers) → IsReached r b basis → LawfulFrom r b basis (p ∷ ps) → Stands r basis t → Stands r (basis_after basis (p ∷ ps)) t' → Rises r b t t'
    later_rises basis p [] t t' reached lawful stands after = pivot_rises basis p t t' reached lawful.0 stands after
    later_rises basis p (q ∷ qs) t t' reached lawful stands after =
        rises_trans basis (after_pivot basis p) (basis_after basis (p ∷ q ∷ qs)) t lawful.1.0.numbers t' stands lawful.1.0.stands after
        (pivot_rises basis p t lawful.1.0.numbers reached lawful.0 stands lawful.1.0.stands)
        (later_rises (after_pivot basis p) q qs lawful.1.0.numbers t' (step basis p reached lawful.0) lawful.1 lawful.1.0.stands after)

    -- of two prefixes the longer one ends with the greater rise value
    pub prefixes_rise : (basis : Basis) (ps : Journal) (m n : ℕ) (t t' : BasisNumbers) → IsReached r b basis → LawfulFrom r b basis ps → m < n → n ≤ length ps
        → Stands r (basis_after basis (take m ps)) t → Stands r (basis_after basis (take n ps)) t' → Rises r b t t'
    prefixes_rise basis [] m n t t' reached lawful less small stands after = absurd (omega arith)
    prefixes_rise basis (p ∷ ps) zero zero t t' reached lawful less small stands after = absurd (omega arith)
    prefixes_rise basis (p ∷ ps) zero (suc n) t t' reached lawful less small stands after =
        later_rises basis p (take n ps) t t' reached (lawful.0, lawful_take (after_pivot basis p) ps n lawful.1) stands after
    prefixes_rise basis (p ∷ ps) (suc m) zero t t' reached lawful less small stands after = absurd (omega arith)
    prefixes_rise basis (p ∷ ps) (suc m) (suc n) t t' reached lawful less small stands after =
        prefixes_rise (after_pivot basis p) ps m n t t' (step basis p reached lawful.0) lawful.1 (omega arith) (omega arith) stands after

    -- no basis stands twice
    pub prefixes_differ : (basis : Basis) (ps : Journal) (m n : ℕ) → IsReached r b basis → LawfulFrom r b basis ps → m < n → n ≤ length ps
        → basis_after basis (take m ps) ≡ basis_after basis (take n ps) → ⊥
    prefixes_differ basis ps m n reached lawful less small same =
        let at = numbers_at basis ps m lawful (omega arith) in
        rises_irreflexive at.0 (prefixes_rise basis ps m n at.0 at.0 reached lawful less small at.1 (subst (λ (q : Basis). Stands r q at.0) same at.1))
