-- Journals that name the entering columns by their keys.
use Rattle.std.specs.Prelude.{◌≡◌, ℕ, ◌<◌, ◌≤◌, Bool, not, ◌==◌, List, [], ◌∷◌, filter, length, take, ℤ}
use Rattle.std.specs.Cmp.Lexicographic.{pointwise}
use Rattle.sc_basis.specs.Bases.{Basis, unit_basis}
use Rattle.sc_basis.specs.Standing.{BasisNumbers, Stands}
use Rattle.sc_basis.specs.Journals.{Journal, IsJournal, basis_after}
use Rattle.sc_basis.specs.Values.{Rises}
use Rattle.sc_simplex.specs.declared.column.KeyPivot.{KeyPivot}
use Rattle.sc_simplex.specs.Oracles.{ColumnsBy}

-- each pivot is at the row that is told, and enters a column that there is under the key that is told
abbrev pub AreNamed : ColumnsBy → List KeyPivot → Journal → Type 0
AreNamed C [] [] = Unit {0}
AreNamed C [] (p ∷ ps) = ⊥
AreNamed C (k ∷ ks) [] = ⊥
AreNamed C (k ∷ ks) (p ∷ ps) = (k.row ≡ p.0) × C k.key.items p.1 × AreNamed C ks ps

-- of two different prefixes the longer one ends in a basis with the greater rise value
abbrev pub RisesAlong : ℕ → (ℕ → ℤ) → Journal → Type 0
RisesAlong r b ps =
    (m n : ℕ) (t t' : BasisNumbers) → m < n → n ≤ length ps
    → Stands r (basis_after (unit_basis r) (take m ps)) t → Stands r (basis_after (unit_basis r) (take n ps)) t' → Rises r b t t'

-- the pivots that a journal names: lawful pivots of columns that there are, from the basis of the unit columns. Their
-- rise value grows
pub record IsLawfulBy (C : ColumnsBy) (r : ℕ) (b : ℕ → ℤ) (journal : List KeyPivot) (ps : Journal) : Type 0 where
  pub named : AreNamed C journal ps
  pub lawful : IsJournal r b ps
  pub rises : RisesAlong r b ps

-- ---- keys in the order in which they were first seen
abbrev pub same_key : List ℕ → List ℕ → Bool
same_key = pointwise (λ a b. a == b)

-- each key once, at its first place
abbrev pub first_seen : List (List ℕ) → List (List ℕ)
first_seen [] = []
first_seen (k ∷ ks) = k ∷ filter (λ j. not (same_key k j)) (first_seen ks)

abbrev pub pivot_key : KeyPivot → List ℕ
pivot_key k = k.key.items

-- the basis that the pivots lead to
abbrev pub basis_of : ℕ → Journal → Basis
basis_of r ps = basis_after (unit_basis r) ps
