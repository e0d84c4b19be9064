-- Numbers, lists and tables in their ranges, by tests.
use Rattle.std.proofs.Common.{◌≡◌, ◌↔◌, Bool, true, ◌&&◌, List, [], ◌∷◌, Option, Some, None, ℤ, pos, neg_ℤ, refl, IsTrue}
use Rattle.std.specs.Option.{option_map_or}
use Rattle.std.specs.List.{AllByRecursion, list_all}
use Rattle.sc_text.specs.declared.limits.TheConstants.{MAX_PRICE, MAX_ENTRY}
use Rattle.sc_line.specs.Faults.{from_to}
use Rattle.sc_text.specs.PriceLines.{of_size, IsScaleInRange, IsPriceInRange}
use Rattle.sc_text.specs.TableLines.{IsEntryInRange}
use Rattle.sc_line.proofs.LineLaws.{in_range_test, in_range_from_test}
use Rattle.sc_certificate.specs.Sizes.{IsSmallList, list_of}
use Rattle.std.proofs.lemmas.Bool.{and_parts, and_from}

-- the tests tell whether scales and prices are in their ranges, both ways
pub scale_from_test : (d : ℤ) → from_to (pos 1) MAX_PRICE d ≡ true → IsScaleInRange d
scale_from_test d h = let ends = in_range_from_test (pos 1) MAX_PRICE d h in record { low = ends.low_end; high = ends.high_end }

pub scale_to_test : (d : ℤ) → IsScaleInRange d → from_to (pos 1) MAX_PRICE d ≡ true
scale_to_test d h = in_range_test (pos 1) MAX_PRICE d h.low h.high

pub price_from_test : (z : ℤ) → of_size MAX_PRICE z ≡ true → IsPriceInRange z
price_from_test z h = let ends = in_range_from_test (neg_ℤ MAX_PRICE) MAX_PRICE z h in record { low = ends.low_end; high = ends.high_end }

pub price_to_test : (z : ℤ) → IsPriceInRange z → of_size MAX_PRICE z ≡ true
price_to_test z h = in_range_test (neg_ℤ MAX_PRICE) MAX_PRICE z h.low h.high

-- where passing a test implies P, P holds of each of a list that passes it; and the other way round
pub all_from_test : {A : Type 0} (test : A → Bool) (P : A → Type 0) → ((x : A) → test x ≡ true → P x) → (xs : List A) → list_all test xs ≡ true → AllByRecursion P xs
all_from_test test P is [] h = tt
all_from_test test P is (x ∷ xs) h =
    let both = and_parts _ _ h in
    (is x both.0, all_from_test test P is xs both.1)

pub all_to_test : {A : Type 0} (test : A → Bool) (P : A → Type 0) → ((x : A) → P x → test x ≡ true) → (xs : List A) → AllByRecursion P xs → list_all test xs ≡ true
all_to_test test P is [] h = refl
all_to_test test P is (x ∷ xs) h = and_from _ _ (is x h.0) (all_to_test test P is xs h.1)

-- a scale and prices that pass the tests make a list with all numbers in their ranges
pub small_from_tests : (d : ℤ) (base pair : List ℤ) → from_to (pos 1) MAX_PRICE d ≡ true → list_all (of_size MAX_PRICE) base ≡ true → list_all (of_size MAX_PRICE) pair ≡ true → IsSmallList (list_of d base pair)
small_from_tests d base pair h k l = record {
  scale = scale_from_test d h;
  base = all_from_test (of_size MAX_PRICE) IsPriceInRange price_from_test base k;
  pair = all_from_test (of_size MAX_PRICE) IsPriceInRange price_from_test pair l;
}

-- a scale and prices pass the tests
pub record AreSmallTests (d : ℤ) (words pairs : List ℤ) : Type 0 where
  pub scale : from_to (pos 1) MAX_PRICE d ≡ true
  pub base : list_all (of_size MAX_PRICE) words ≡ true
  pub pair : list_all (of_size MAX_PRICE) pairs ≡ true

-- those of a list with all numbers in their ranges do
pub small_tests : (d : ℤ) (base pair : List ℤ) → IsSmallList (list_of d base pair) → AreSmallTests d base pair
small_tests d base pair h = record {
  scale = scale_to_test d h.scale;
  base = all_to_test (of_size MAX_PRICE) IsPriceInRange price_to_test base h.base;
  pair = all_to_test (of_size MAX_PRICE) IsPriceInRange price_to_test pair h.pair;
}

-- the three tests together tell whether the numbers of a list are in their ranges
pub small_decided : (d : ℤ) (base pair : List ℤ) → IsTrue (from_to (pos 1) MAX_PRICE d && list_all (of_size MAX_PRICE) base && list_all (of_size MAX_PRICE) pair) ↔ IsSmallList (list_of d base pair)
small_decided d base pair = (
  (λ h.
      let last = and_parts (from_to (pos 1) MAX_PRICE d && list_all (of_size MAX_PRICE) base) (list_all (of_size MAX_PRICE) pair) h in
      let firsts = and_parts (from_to (pos 1) MAX_PRICE d) (list_all (of_size MAX_PRICE) base) last.0 in
      small_from_tests d base pair firsts.0 firsts.1 last.1),
  (λ h.
      let tests = small_tests d base pair h in
      and_from (from_to (pos 1) MAX_PRICE d && list_all (of_size MAX_PRICE) base) (list_all (of_size MAX_PRICE) pair) (and_from (from_to (pos 1) MAX_PRICE d) (list_all (of_size MAX_PRICE) base) tests.scale tests.base) tests.pair),
)

entry_from_test : (e : Option ℤ) → option_map_or (of_size MAX_ENTRY) e true ≡ true → IsEntryInRange e
entry_from_test None h = tt
entry_from_test (Some z) h = let ends = in_range_from_test (neg_ℤ MAX_ENTRY) MAX_ENTRY z h in (ends.low_end, ends.high_end)

entry_to_test : (e : Option ℤ) → IsEntryInRange e → option_map_or (of_size MAX_ENTRY) e true ≡ true
entry_to_test None h = refl
entry_to_test (Some z) h = in_range_test (neg_ℤ MAX_ENTRY) MAX_ENTRY z h.0 h.1

-- the test tells whether all entries of a table are in range
pub entries_decided : (es : List (Option ℤ)) → IsTrue (list_all (λ e. option_map_or (of_size MAX_ENTRY) e true) es) ↔ AllByRecursion IsEntryInRange es
entries_decided es = (
  (λ h. all_from_test (λ (e : Option ℤ). option_map_or (of_size MAX_ENTRY) e true) IsEntryInRange entry_from_test es h),
  (λ h. all_to_test (λ (e : Option ℤ). option_map_or (of_size MAX_ENTRY) e true) IsEntryInRange entry_to_test es h),
)
