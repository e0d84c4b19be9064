-- Products term by term, and the refusal of a term.
use Rattle.std.specs.Prelude.{◌≡◌, ℕ, ◌+◌, ◌<◌, length, ℤ, ◌+ℤ◌, ◌*ℤ◌}
use Rattle.std.proofs.Common.{sym, ap, ap₂, ◌∙◌, subst₂, add-one}
use Rattle.sc_basis.specs.Products.{dot}
use Rattle.sc_basis.specs.Bases.{Column, entry_of, IsAscending}
use Rattle.sc_basis.specs.Entries.{index_at, number_at, reached}
use Rattle.sc_basis.proofs.EntryLaws.{index_inside, entry_here, product_through}
use Rattle.sc_rows.specs.Places.{IsWideTerm, IsWideProduct}
use Rattle.sc_rows.specs.declared.fault.WideAt.{WideAt}
use Rattle.sc_rows.specs.declared.product.Product.{Product}

-- the sum before the entry n is that before its index
before_entry : (r : ℕ) (v : ℕ → ℤ) (c : Column) (n : ℕ) (sum : ℤ) → IsAscending r 0 c → n < length c → sum ≡ dot (reached c n) v (entry_of c) → sum ≡ dot (index_at c n) v (entry_of c)
before_entry r v c n sum h inside is = is ∙ sym (product_through r v c n h inside)

-- one more entry
pub column_term : (r : ℕ) (v : ℕ → ℤ) (c : Column) (n : ℕ) (sum new : ℤ) → IsAscending r 0 c → n < length c → sum ≡ dot (reached c n) v (entry_of c)
    → new ≡ sum +ℤ v (index_at c n) *ℤ number_at c n → new ≡ dot (reached c (n + 1)) v (entry_of c)
column_term r v c n sum new h inside is next =
    next ∙ ap₂ (λ (s y : ℤ). s +ℤ v (index_at c n) *ℤ y) (before_entry r v c n sum h inside is) (sym (entry_here r 0 c n h inside))
    ∙ ap (λ (m : ℕ). dot (reached c m) v (entry_of c)) (sym (add-one n))

-- where the term of the column's entry n is too wide, an operation of the product is
pub column_wide : (r : ℕ) (product : Product) (v : ℕ → ℤ) (c : Column) (n : ℕ) (sum : ℤ) (w : WideAt) → IsAscending r 0 c → n < length c → sum ≡ dot (reached c n) v (entry_of c)
    → IsWideTerm product (index_at c n) sum (v (index_at c n)) (number_at c n) w → IsWideProduct product r v (entry_of c) w
column_wide r product v c n sum w h inside is wide = (
  index_at c n,
  index_inside r 0 c n h inside,
  subst₂ (λ (s y : ℤ). IsWideTerm product (index_at c n) s (v (index_at c n)) y w) (before_entry r v c n sum h inside is) (sym (entry_here r 0 c n h inside)) wide,
)
