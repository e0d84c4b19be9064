-- Lists of columns, and what is asked of them, as tests that compute.
use Rattle.std.specs.Prelude.{◌≡◌, ℕ, zero, suc, ◌+◌, ◌==◌, Bool, true, not, ◌&&◌, nat_lt, nat_le, int_le, List, [], ◌∷◌, length, map, take, slice_get, Some, ℤ, pos}
use Rattle.std.specs.Ordering.{int_eq}
use Rattle.sc_basis.specs.Products.{at, dot}
use Rattle.sc_basis.specs.Bases.{Column as Entries, entry_of}
use Rattle.sc_basis.specs.Values.{sum_of}
use Rattle.sc_simplex.specs.NamedJournals.{same_key}
use Rattle.simplex_examples.specs.declared.listing.Listing.{Listing}

abbrev pub entries_of : Listing → Entries
entries_of x = x.entries.now

-- a column of the list, with its key and its entries
pub record IsListed (listings : List Listing) (key : List ℕ) (c : Entries) : Type 0 where
  pub place : ℕ
  pub listing : Listing
  pub stands : slice_get listings place ≡ Some listing
  pub own_key : listing.key.now ≡ key
  pub own_entries : listing.entries.now ≡ c

-- ---- columns
abbrev pub is_ascending : ℕ → ℕ → Entries → Bool
is_ascending r first [] = true
is_ascending r first (x ∷ xs) = nat_le first x.0 && (nat_lt x.0 r && is_ascending r (x.0 + 1) xs)

abbrev pub lacks_key : List ℕ → List Listing → Bool
lacks_key key [] = true
lacks_key key (x ∷ xs) = not (same_key key x.key.now) && lacks_key key xs

-- at ascending rows, and with a product with the length row of at least 1
abbrev pub is_column : List ℤ → Entries → Bool
is_column lengths c = is_ascending (length lengths) 0 c && int_le (pos 1) (dot (length lengths) (at lengths) (entry_of c))

-- no two with equal keys
abbrev pub are_columns : List ℤ → List Listing → Bool
are_columns lengths [] = true
are_columns lengths (x ∷ xs) = is_column lengths x.entries.now && (lacks_key x.key.now xs && are_columns lengths xs)

-- ---- the right side
-- the numbers below n of b are the sums of the columns, and none is negative
abbrev pub are_sums : List Entries → List ℤ → ℕ → Bool
are_sums cs b zero = true
are_sums cs b (suc n) = are_sums cs b n && (int_eq (sum_of cs n) (at b n) && int_le (pos 0) (at b n))

abbrev pub is_sound : List ℤ → List ℤ → List Listing → ℕ → Bool
is_sound b lengths listings shares =
    nat_lt (length b) 1000 && (length lengths == length b && (are_columns lengths listings && are_sums (map entries_of (take shares listings)) b (length b)))
