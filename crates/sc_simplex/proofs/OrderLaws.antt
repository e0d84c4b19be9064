-- Orders of entries, of lists, and of rows by their lists.
use Rattle.std.specs.Prelude.{◌≡◌, ℕ, zero, suc, ◌<◌, List, length, Some, ℤ, pos, ◌*ℤ◌, ◌<ℤ◌}
use Rattle.std.specs.declared.cmp.Ordering.{Ordering}
use Rattle.std.specs.declared.cmp.Ordering.TheVariants.{Less, Equal, Greater}
use Rattle.std.proofs.Common.{arith, refl, sym, ap, ◌∙◌}
use Rattle.sc_basis.specs.Products.{dot}
use Rattle.sc_basis.specs.Lines.{line}
use Rattle.sc_basis.proofs.LexOrder.{lex_map}
use Rattle.sc_basis.proofs.RowOrder.{least_kept, least_taken}
use Rattle.sc_rows.specs.Lines.{Line, row_of}
use Rattle.sc_simplex.specs.inside.Orders.{IsLexOrder}
use Rattle.sc_simplex.specs.Orders.{headed}
use Rattle.sc_simplex.specs.inside.Leaving.{NoneTie, IsBestRow, IsBest}
use Rattle.sc_simplex.specs.declared.leaving.Best.{Best}

-- ---- entries and lists
-- the first entries are equal
pub shifted : (o : Ordering) (n : ℕ) (f g : ℕ → ℤ) → f 0 ≡ g 0 → IsLexOrder o n (λ k. f (suc k)) (λ k. g (suc k)) → IsLexOrder o (suc n) f g
shifted Less n f g e (k, inside, same, less) = (suc k, omega arith, before k e same, less)
  where
    before : (m : ℕ) → f 0 ≡ g 0 → ((j : ℕ) → j < m → f (suc j) ≡ g (suc j)) → (j : ℕ) → j < suc m → f j ≡ g j
    before m first rest zero l = first
    before m first rest (suc j) l = rest j (omega arith)
shifted Equal n f g e same = all
  where
    all : (j : ℕ) → j < suc n → f j ≡ g j
    all zero l = e
    all (suc j) l = same j (omega arith)
shifted Greater n f g e (k, inside, same, less) = (suc k, omega arith, before k (sym e) same, less)
  where
    before : (m : ℕ) → g 0 ≡ f 0 → ((j : ℕ) → j < m → g (suc j) ≡ f (suc j)) → (j : ℕ) → j < suc m → g j ≡ f j
    before m first rest zero l = first
    before m first rest (suc j) l = rest j (omega arith)

line_is : (r : ℕ) (b : ℕ → ℤ) (v : ℤ) (f : ℕ → ℤ) → v ≡ dot r f b → (k : ℕ) → headed v f k ≡ line r b f k
line_is r b v f e zero = e
line_is r b v f e (suc k) = refl

lines_order : (o : Ordering) (n : ℕ) (f g f' g' : ℕ → ℤ) → ((k : ℕ) → f k ≡ f' k) → ((k : ℕ) → g k ≡ g' k) → IsLexOrder o n f g → IsLexOrder o n f' g'
lines_order Less n f g f' g' e d h = lex_map n f g f' g' (λ k l. e k) (λ k l. d k) h
lines_order Equal n f g f' g' e d h = λ k l. sym (e k) ∙ h k l ∙ d k
lines_order Greater n f g f' g' e d h = lex_map n g f g' f' (λ k l. d k) (λ k l. e k) h

-- ---- the best row so far
module _ (rows : List Line) (b a : ℕ → ℤ) (n : ℕ) where
  module _ (v : ℤ) (x : Best) (value : v ≡ dot (length rows) (row_of rows n) b) (positive : pos 0 <ℤ a n) (best : IsBestRow rows b a n x) where
    by_lines : (o : Ordering) → IsLexOrder o (suc (length rows)) (λ k. a x.row *ℤ headed v (row_of rows n) k) (λ k. a n *ℤ headed x.value (row_of rows x.row) k)
        → IsLexOrder o (suc (length rows)) (λ k. a x.row *ℤ line (length rows) b (row_of rows n) k) (λ k. a n *ℤ line (length rows) b (row_of rows x.row) k)
    by_lines o order =
        lines_order o (suc (length rows)) _ _ _ _
        (λ k. ap (λ (z : ℤ). a x.row *ℤ z) (line_is (length rows) b v (row_of rows n) value k))
        (λ k. ap (λ (z : ℤ). a n *ℤ z) (line_is (length rows) b x.value (row_of rows x.row) best.value k))
        order

    -- the row n comes before
    pub best_taken : (o : Ordering) → o ≡ Less → IsLexOrder o (suc (length rows)) (λ k. a x.row *ℤ headed v (row_of rows n) k) (λ k. a n *ℤ headed x.value (row_of rows x.row) k)
        → IsBest rows b a (suc n) (Some (record { row = n; value = v }))
    best_taken Less e order =
        record { least = least_taken (length rows) b a (row_of rows) n x.row best.least positive (by_lines Less order); value = value }
    best_taken Equal e order = cc
    best_taken Greater e order = cc

    -- it doesn't, and doesn't tie
    pub best_stays : (o : Ordering) → (o ≡ Less → ⊥) → n < length rows → NoneTie rows b a
        → IsLexOrder o (suc (length rows)) (λ k. a x.row *ℤ headed v (row_of rows n) k) (λ k. a n *ℤ headed x.value (row_of rows x.row) k)
        → IsBest rows b a (suc n) (Some x)
    best_stays Less e inside apart order = absurd (e refl)
    best_stays Equal e inside apart order =
        absurd (apart x.row n (omega (arith, best.least.inside)) inside (omega (arith, best.least.inside)) best.least.positive positive (by_lines Equal order))
    best_stays Greater e inside apart order =
        record { least = least_kept (length rows) b a (row_of rows) n x.row best.least (λ p. by_lines Greater order); value = best.value }
