-- Rows by their lists, each over a positive product: which comes first.
use Rattle.std.specs.Prelude.{◌≢◌, ℕ, suc, ◌<◌, ℤ, pos, ◌*ℤ◌, ◌<ℤ◌}
use Rattle.sc_basis.specs.Lines.{LexLess, line}

-- the list of row i over a i is below that of row j over a j; the list is the row's product with b followed by its
-- entries
abbrev pub Precedes : ℕ → (ℕ → ℤ) → (ℕ → ℤ) → (ℕ → ℕ → ℤ) → ℕ → ℕ → Type 0
Precedes r b a row i j = LexLess (suc r) (λ k. a j *ℤ line r b (row i) k) (λ k. a i *ℤ line r b (row j) k)

-- of the rows below n with a positive a, l comes first
pub record IsLeastRow (r : ℕ) (b : ℕ → ℤ) (a : ℕ → ℤ) (row : ℕ → ℕ → ℤ) (n l : ℕ) : Type 0 where
  pub inside : l < n
  pub positive : pos 0 <ℤ a l
  pub least : (i : ℕ) → i < n → i ≢ l → pos 0 <ℤ a i → Precedes r b a row l i
