-- What the tests on problems say of their columns and right sides.
use Rattle.std.proofs.Common.{◌≡◌, ℕ, zero, suc, ◌+◌, ◌<◌, true, not, ◌&&◌, List, [], ◌∷◌, length, map, take, slice_get, Some, ℤ, pos, ◌≤ℤ◌, refl, sym, ap, subst, ◌∙◌, inl, inr, arith, true≢false, nat_lt, nat_le, int_le, ◌==◌}
use Rattle.std.specs.Ordering.{int_eq}
use Rattle.std.proofs.lemmas.Bool.{cases_eq, and_parts, leb-true, ltb-true}
use Rattle.std.proofs.lemmas.Bool.Decides.{Decides-eqb, Decides-int_eq}
use Rattle.std.proofs.lemmas.Option.{none-some, same_Some}
use Rattle.std.proofs.lemmas.Slice.Eq.{slice_eq-Decides}
use lib.Dec.{T}
use Rattle.sc_basis.specs.Products.{at, dot, IsNonNegative}
use Rattle.sc_basis.specs.Bases.{Column as Entries, entry_of, IsAscending}
use Rattle.sc_basis.specs.Values.{sum_of}
use Rattle.sc_simplex.specs.NamedJournals.{same_key}
use Rattle.sc_simplex.specs.Optima.{IsSumOfColumns}
use Rattle.simplex_examples.specs.declared.listing.Listing.{Listing}
use Rattle.simplex_examples.specs.Problems.{entries_of, IsListed, is_ascending, lacks_key, is_column, are_columns, are_sums, is_sound}

le_at : (x y : ℤ) → int_le x y ≡ true → x ≤ℤ y
le_at x y h = record { le = subst T (sym h) tt }

ascending_at : (r first : ℕ) (c : Entries) → is_ascending r first c ≡ true → IsAscending r first c
ascending_at r first [] e = tt
ascending_at r first (x ∷ xs) e =
    let parts = and_parts (nat_le first x.0) (nat_lt x.0 r && is_ascending r (x.0 + 1) xs) e in
    let rest = and_parts (nat_lt x.0 r) (is_ascending r (x.0 + 1) xs) parts.1 in
    (leb-true first x.0 parts.0, ltb-true x.0 r rest.0, ascending_at r (x.0 + 1) xs rest.1)

-- ---- columns
lacking : (key : List ℕ) (xs : List Listing) → lacks_key key xs ≡ true → (j : ℕ) (x : Listing) → slice_get xs j ≡ Some x → key ≡ x.key.now → ⊥
lacking key [] e j x here same = none-some x here
lacking key (y ∷ ys) e zero x here same =
    let parts = and_parts (not (same_key key y.key.now)) (lacks_key key ys) e in
    let equal : key ≡ y.key.now = same ∙ ap (λ (z : Listing). z.key.now) (sym (same_Some y x here)) in
    true≢false (sym parts.0 ∙ ap not ((slice_eq-Decides Decides-eqb key y.key.now (same_key key y.key.now) refl).1 equal))
lacking key (y ∷ ys) e (suc j) x here same =
    lacking key ys (and_parts (not (same_key key y.key.now)) (lacks_key key ys) e).1 j x here same

module _ (lengths : List ℤ) where
  parts_of : (x : Listing) (xs : List Listing) → are_columns lengths (x ∷ xs) ≡ true → (is_column lengths x.entries.now ≡ true) × (lacks_key x.key.now xs ≡ true) × (are_columns lengths xs ≡ true)
  parts_of x xs e =
      let parts = and_parts (is_column lengths x.entries.now) (lacks_key x.key.now xs && are_columns lengths xs) e in
      let rest = and_parts (lacks_key x.key.now xs) (are_columns lengths xs) parts.1 in
      (parts.0, rest.0, rest.1)

  pub column_at : (xs : List Listing) → are_columns lengths xs ≡ true → (j : ℕ) (x : Listing) → slice_get xs j ≡ Some x → is_column lengths x.entries.now ≡ true
  column_at [] e j x here = absurd (none-some x here)
  column_at (y ∷ ys) e zero x here = ap (λ (z : Listing). is_column lengths z.entries.now) (sym (same_Some y x here)) ∙ (parts_of y ys e).0
  column_at (y ∷ ys) e (suc j) x here = column_at ys (parts_of y ys e).2 j x here

  -- equal keys stand in one place
  one_at : (xs : List Listing) → are_columns lengths xs ≡ true → (j k : ℕ) (x y : Listing) → slice_get xs j ≡ Some x → slice_get xs k ≡ Some y → x.key.now ≡ y.key.now → x ≡ y
  one_at [] e j k x y here there same = absurd (none-some x here)
  one_at (z ∷ zs) e zero zero x y here there same = sym (same_Some z x here) ∙ same_Some z y there
  one_at (z ∷ zs) e zero (suc k) x y here there same =
      absurd (lacking z.key.now zs (parts_of z zs e).1 k y there (ap (λ (w : Listing). w.key.now) (same_Some z x here) ∙ same))
  one_at (z ∷ zs) e (suc j) zero x y here there same =
      absurd (lacking z.key.now zs (parts_of z zs e).1 j x here (ap (λ (w : Listing). w.key.now) (same_Some z y there) ∙ sym same))
  one_at (z ∷ zs) e (suc j) (suc k) x y here there same = one_at zs (parts_of z zs e).2 j k x y here there same

  pub listed_ascending : (xs : List Listing) → are_columns lengths xs ≡ true → (key : List ℕ) (c : Entries) → IsListed xs key c → IsAscending (length lengths) 0 c
  listed_ascending xs e key c h =
      subst (IsAscending (length lengths) 0) h.own_entries
      (ascending_at (length lengths) 0 h.listing.entries.now
      (and_parts (is_ascending (length lengths) 0 h.listing.entries.now) (int_le (pos 1) (dot (length lengths) (at lengths) (entry_of h.listing.entries.now))) (column_at xs e h.place h.listing h.stands)).0)

  pub listed_long : (xs : List Listing) → are_columns lengths xs ≡ true → (key : List ℕ) (c : Entries) → IsListed xs key c → pos 1 ≤ℤ dot (length lengths) (at lengths) (entry_of c)
  listed_long xs e key c h =
      subst (λ (d : Entries). pos 1 ≤ℤ dot (length lengths) (at lengths) (entry_of d)) h.own_entries
      (le_at (pos 1) (dot (length lengths) (at lengths) (entry_of h.listing.entries.now))
      (and_parts (is_ascending (length lengths) 0 h.listing.entries.now) (int_le (pos 1) (dot (length lengths) (at lengths) (entry_of h.listing.entries.now))) (column_at xs e h.place h.listing h.stands)).1)

  pub listed_one : (xs : List Listing) → are_columns lengths xs ≡ true → (key : List ℕ) (c d : Entries) → IsListed xs key c → IsListed xs key d → c ≡ d
  listed_one xs e key c d h k =
      sym h.own_entries
      ∙ ap entries_of (one_at xs e h.place k.place h.listing k.listing h.stands k.stands (h.own_key ∙ sym k.own_key)) ∙ k.own_entries

-- ---- the right side
sum_parts : (cs : List Entries) (b : List ℤ) (n k : ℕ) → are_sums cs b n ≡ true → k < n → (sum_of cs k ≡ at b k) × (pos 0 ≤ℤ at b k)
sum_parts cs b zero k e inside = absurd (omega arith)
sum_parts cs b (suc n) k e inside =
    let parts = and_parts (are_sums cs b n) (int_eq (sum_of cs n) (at b n) && int_le (pos 0) (at b n)) e in
    let last = and_parts (int_eq (sum_of cs n) (at b n)) (int_le (pos 0) (at b n)) parts.1 in
    elim (cases_eq k n) [
      | inl same ↦ subst (λ (m : ℕ). (sum_of cs m ≡ at b m) × (pos 0 ≤ℤ at b m)) (sym same) ((Decides-int_eq (sum_of cs n) (at b n)).0 last.0, le_at (pos 0) (at b n) last.1)
      | inr other ↦ sum_parts cs b n k parts.0 (omega arith)
    ]

taken_listed : (xs : List Listing) (n j : ℕ) (c : Entries) → slice_get (map entries_of (take n xs)) j ≡ Some c → (x : Listing) × (slice_get xs j ≡ Some x) × (x.entries.now ≡ c)
taken_listed xs zero j c here = absurd (none-some c here)
taken_listed [] (suc n) j c here = absurd (none-some c here)
taken_listed (x ∷ xs) (suc n) zero c here = (x, refl, same_Some x.entries.now c here)
taken_listed (x ∷ xs) (suc n) (suc j) c here = taken_listed xs n j c here

-- what a sound problem has
pub record AreSound (b lengths : List ℤ) (xs : List Listing) (shares : ℕ) : Type 0 where
  pub few : length b < 1000
  pub size : length lengths ≡ length b
  pub columns : are_columns lengths xs ≡ true
  pub not_negative : IsNonNegative (length b) (at b)
  pub feasible : IsSumOfColumns (IsListed xs) (length b) (at b)

pub sound_at : (b lengths : List ℤ) (xs : List Listing) (shares : ℕ) → is_sound b lengths xs shares ≡ true → AreSound b lengths xs shares
sound_at b lengths xs shares e =
    let cs : List Entries = map entries_of (take shares xs) in
    let few = and_parts (nat_lt (length b) 1000) (length lengths == length b && (are_columns lengths xs && are_sums cs b (length b))) e in
    let size = and_parts (length lengths == length b) (are_columns lengths xs && are_sums cs b (length b)) few.1 in
    let rest = and_parts (are_columns lengths xs) (are_sums cs b (length b)) size.1 in
    record {
      few = ltb-true (length b) 1000 few.0;
      size = (Decides-eqb (length lengths) (length b)).0 size.0;
      columns = rest.0;
      not_negative = λ k inside. (sum_parts cs b (length b) k rest.1 inside).1;
      feasible = record {
        columns = cs;
        are_columns = λ j c here. let x = taken_listed xs shares j c here in (x.0.key.now, record { place = j; listing = x.0; stands = x.1; own_key = refl; own_entries = x.2 });
        sum = λ k inside. (sum_parts cs b (length b) k rest.1 inside).0;
      };
    }

pub columns_of : (b lengths : List ℤ) (xs : List Listing) (shares : ℕ) → is_sound b lengths xs shares ≡ true → are_columns lengths xs ≡ true
columns_of b lengths xs shares e = (sound_at b lengths xs shares e).columns
