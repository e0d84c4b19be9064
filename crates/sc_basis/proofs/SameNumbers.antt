-- What improves and what leaves by some numbers, does so by the same numbers.
use Rattle.std.specs.Prelude.{◌≡◌, ℕ, zero, suc, ◌<◌, ℤ, pos, ◌*ℤ◌, ◌<ℤ◌}
use Rattle.std.proofs.Common.{arith, refl, sym, ap₂, subst, ◌∙◌, inl, inr}
use Rattle.std.proofs.Math.Path.{subst₂}
use Rattle.sc_basis.specs.Bases.{Column, entry_of, Basis}
use Rattle.sc_basis.specs.Standing.{BasisNumbers, Stands, AreSameNumbers}
use Rattle.sc_basis.specs.Lines.{line}
use Rattle.sc_basis.specs.Pivots.{Improves, along, IsLeaving}
use Rattle.sc_basis.specs.Journals.{IsReached}
use Rattle.sc_basis.proofs.ProductLaws.{dot-congr}
use Rattle.sc_basis.proofs.LexOrder.{lex_map}
use Rattle.sc_basis.proofs.JournalLaws.{standing_unique}

-- by the same numbers a row has the same product with a column
pub along_same : (r : ℕ) (t t' : BasisNumbers) (c : Column) (i : ℕ) → AreSameNumbers r t t' → i < r → along r t c i ≡ along r t' c i
along_same r t t' c i same inside = dot-congr r (t.row i) (t'.row i) (entry_of c) (entry_of c) (λ k l. same.rows i k inside l) (λ k l. refl)

line_same : (r : ℕ) (b : ℕ → ℤ) (t t' : BasisNumbers) (i k : ℕ) → AreSameNumbers r t t' → i < r → k < suc r → line r b (t.row i) k ≡ line r b (t'.row i) k
line_same r b t t' i zero same inside l = dot-congr r (t.row i) (t'.row i) b b (λ k m. same.rows i k inside m) (λ k m. refl)
line_same r b t t' i (suc k) same inside l = same.rows i k inside (omega arith)

improves_same : (r : ℕ) (t t' : BasisNumbers) (c : Column) → AreSameNumbers r t t' → Improves r t c → Improves r t' c
improves_same r t t' c same (inl less) = inl (subst (λ (z : ℤ). z <ℤ pos 0) (dot-congr r t.bulk t'.bulk (entry_of c) (entry_of c) same.bulk (λ k l. refl)) less)
improves_same r t t' c same (inr (none, less)) =
    inr (
      sym (dot-congr r t.bulk t'.bulk (entry_of c) (entry_of c) same.bulk (λ k l. refl)) ∙ none,
      subst₂ (λ (x y : ℤ). x <ℤ y) (dot-congr r t.fine t'.fine (entry_of c) (entry_of c) same.fine (λ k l. refl)) same.fine_scale less,
    )

leaving_same : (r : ℕ) (b : ℕ → ℤ) (t t' : BasisNumbers) (c : Column) (l : ℕ) → AreSameNumbers r t t' → IsLeaving r b t c l → IsLeaving r b t' c l
leaving_same r b t t' c l same leaves =
    record {
      inside = leaves.inside;
      positive = subst (λ (z : ℤ). pos 0 <ℤ z) (along_same r t t' c l same leaves.inside) leaves.positive;
      least = λ i inside apart positive.
          lex_map (suc r) (λ k. along r t c i *ℤ line r b (t.row l) k) (λ k. along r t c l *ℤ line r b (t.row i) k) (λ k. along r t' c i *ℤ line r b (t'.row l) k) (λ k. along r t' c l *ℤ line r b (t'.row i) k)
          (λ k m. ap₂ (λ (x y : ℤ). x *ℤ y) (along_same r t t' c i same inside) (line_same r b t t' l k same leaves.inside m))
          (λ k m. ap₂ (λ (x y : ℤ). x *ℤ y) (along_same r t t' c l same leaves.inside) (line_same r b t t' i k same inside m))
          (leaves.least i inside apart (subst (λ (z : ℤ). pos 0 <ℤ z) (sym (along_same r t t' c i same inside)) positive));
    }

-- a column that improves by some numbers that stand for a basis that is reached does so by all that stand for it
pub improves_by_all : (r : ℕ) (b : ℕ → ℤ) (basis : Basis) (t t' : BasisNumbers) (c : Column) → IsReached r b basis → Stands r basis t → Stands r basis t' → Improves r t c → Improves r t' c
improves_by_all r b basis t t' c reached first second improves = improves_same r t t' c (standing_unique r b basis t t' reached first second) improves

-- and so a row that leaves
pub leaves_by_all : (r : ℕ) (b : ℕ → ℤ) (basis : Basis) (t t' : BasisNumbers) (c : Column) (l : ℕ) → IsReached r b basis → Stands r basis t → Stands r basis t' → IsLeaving r b t c l → IsLeaving r b t' c l
leaves_by_all r b basis t t' c l reached first second leaves = leaving_same r b t t' c l (standing_unique r b basis t t' reached first second) leaves
