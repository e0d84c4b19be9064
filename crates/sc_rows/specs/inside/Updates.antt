-- Said by private functions alone: new rows and new prices by the rule with a ratio in lowest terms.
use Rattle.std.specs.Prelude.{◌≡◌, ℕ, ◌<◌, ℤ, ◌*ℤ◌}
use Rattle.sc_basis.specs.Products.{at, IsReduced}
use Rattle.sc_basis.specs.Rules.{IsLowest}
use Rattle.sc_rows.specs.Lines.{Line}
use Rattle.sc_rows.specs.declared.fault.WideAt.{WideAt}
use Rattle.sc_rows.specs.declared.update.Update.{Update}
use Rattle.sc_rows.specs.Updates.{joined, IsWideEntry}

-- the list x over d, whose product with the column (or whose gap) is a, where t over m is the leaving row over its
-- product
pub record IsUpdated (u : Update) (n : ℕ) (x : ℕ → ℤ) (d : ℤ) (t : ℕ → ℤ) (m a : ℤ) (new : Line) : Type 0 where
  pub p : ℤ
  pub q : ℤ
  pub ratio : IsLowest m a p q
  pub reduced : IsReduced n (at new.entries) new.den (λ k. joined u (x k *ℤ p) (q *ℤ t k)) (d *ℤ p)

-- the first n entries of y are made of those of x and t with the ratio q over p
abbrev pub AreJoined : Update → ℕ → (ℕ → ℤ) → (ℕ → ℤ) → ℤ → ℤ → (ℕ → ℤ) → Type 0
AreJoined u n x t p q y = (k : ℕ) → k < n → y k ≡ joined u (x k *ℤ p) (q *ℤ t k)

-- at one of the first n entries an operation is too wide
abbrev pub IsWideAmong : Update → ℕ → (ℕ → ℤ) → (ℕ → ℤ) → ℤ → ℤ → WideAt → Type 0
IsWideAmong u n x t p q w = (k : ℕ) × (k < n) × IsWideEntry u k (x k) (t k) p q w
