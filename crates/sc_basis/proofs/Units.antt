-- The basis of the unit columns and its numbers.
use Rattle.std.specs.Prelude.{◌≡◌, ℕ, ◌<◌, None, ℤ, pos, negsuc, ◌*ℤ◌, ◌<ℤ◌}
use Rattle.std.proofs.Common.{arith, sym, ap, ◌∙◌}
use Rattle.std.proofs.Math.Nat.{eq-one_of_dvd-one}
use Rattle.std.proofs.lemmas.Int.{ints}
use Rattle.std.proofs.lemmas.List.{get_or-replicate}
use Rattle.sc_basis.specs.Products.{dot, unit, IsCoprime}
use Rattle.sc_basis.specs.Bases.{item, unit_basis, columns, entries_at, bulk_cost, fine_cost}
use Rattle.sc_basis.specs.Standing.{Stands, start_numbers}
use Rattle.sc_basis.proofs.ProductLaws.{dot-unit}

pub item-units : (r j : ℕ) → j < r → item (unit_basis r) j ≡ None
item-units r j inside = get_or-replicate r j None None inside

-- the product with an item of the basis of the unit columns is an entry
pub dot-columns-units : (r j : ℕ) (x : ℕ → ℤ) → j < r → dot r x (columns (unit_basis r) j) ≡ x j
dot-columns-units r j x inside = ap (λ o. dot r x (entries_at j o)) (item-units r j inside) ∙ dot-unit r j x inside

pub coprime_to_one : (r : ℕ) (v : ℕ → ℤ) → IsCoprime r v (pos 1)
coprime_to_one r v g divides all = eq-one_of_dvd-one divides

units_positive : pos 0 <ℤ pos 1
units_positive = omega (arith, ints)

-- the identity, bulk prices -1 and fine prices 0 stand for the basis of the unit columns
pub units : (r : ℕ) → Stands r (unit_basis r) start_numbers
units r =
    record {
      rows = λ i l. record { positive = units_positive; product = λ j m. dot-columns-units r j (unit i) m ∙ omega (arith, ints) };
      rows_coprime = λ i l. coprime_to_one r (unit i);
      bulk = record { positive = units_positive; product = λ j m. dot-columns-units r j (λ k. negsuc 0) m ∙ ap (λ o. pos 1 *ℤ bulk_cost o) (sym (item-units r j m)) };
      bulk_coprime = coprime_to_one r (λ k. negsuc 0);
      fine = record { positive = units_positive; product = λ j m. dot-columns-units r j (λ k. pos 0) m ∙ ap (λ o. pos 1 *ℤ fine_cost o) (sym (item-units r j m)) };
      fine_coprime = coprime_to_one r (λ k. pos 0);
    }
