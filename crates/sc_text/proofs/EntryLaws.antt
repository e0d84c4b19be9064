-- Laws of the entries of a distance table.
use Rattle.std.proofs.Common.{◌≡◌, ℕ, ◌+◌, Bool, true, false, ◌&&◌, List, [], ◌∷◌, ◌++◌, map, length, Option, Some, None, is_some, codes, ℤ, neg_ℤ, refl, sym, ap, append_assoc, ◌∙◌, arith, inl, inr}
use Rattle.std.specs.List.{list_all, AllByRecursion}
use Rattle.std.specs.Option.{option_map_or}
use Rattle.std.specs.Str.{bytes_eq}
use Rattle.std.proofs.lemmas.Bool.{cases_Bool, and_parts, and_from, false≢true}
use Rattle.std.proofs.Math.Bool.{and-true, and-false}
use Rattle.std.proofs.lemmas.List.{length_push, map_push}
use Rattle.std.proofs.lemmas.List.Folds.{list_all-append}
use Rattle.std.proofs.lemmas.Option.{none-some}
use Rattle.std.proofs.lemmas.Slice.Eq.{bytes_eq-Decides}
use Rattle.sc_whole.specs.Spelling.{spelling, natural_spelling}
use Rattle.sc_line.specs.declared.fault.Kind.TheVariants.{Form, Range}
use Rattle.sc_text.specs.declared.limits.TheConstants.{MAX_ENTRY}
use Rattle.sc_line.specs.Lines.{Field, number_of, lacks, AllLack}
use Rattle.sc_text.specs.PriceLines.{of_size}
use Rattle.sc_text.specs.TableLines.{Entry, entry_field, is_entry, is_entry_in_range, entry_of, IsEntryInRange}
use Rattle.sc_text.specs.inside.TableLines.{entry_fault}
use Rattle.sc_line.proofs.LineLaws.{All_push, lacks-spelling, number_of-spelling, number_of_is, in_range_test, in_range_from_test}

dash_is_no_number : number_of (codes "-") ≡ None
unfolding number_of spelling natural_spelling
dash_is_no_number = refl

-- no number is spelled as a dash
pub no_dash : (z : ℤ) → bytes_eq (spelling z) (codes "-") ≡ false
no_dash z =
    elim (cases_Bool (bytes_eq (spelling z) (codes "-"))) [
      | inl same ↦ absurd (none-some z (sym dash_is_no_number ∙ sym (ap number_of ((bytes_eq-Decides (spelling z) (codes "-")).0 same)) ∙ number_of-spelling z))
      | inr other ↦ other
    ]

-- the field of an entry is one, and tells it
pub is_entry_field : (e : Entry) → is_entry (entry_field e) ≡ true
is_entry_field None = refl
is_entry_field (Some z) = rw (no_dash z, number_of-spelling z) refl

pub entry_of_field : (e : Entry) → entry_of (entry_field e) ≡ e
entry_of_field None = refl
entry_of_field (Some z) = rw (no_dash z, number_of-spelling z) refl

-- the same of the fields of a table
pub fields_are_entries : (es : List Entry) → list_all is_entry (map entry_field es) ≡ true
fields_are_entries [] = refl
fields_are_entries (e ∷ es) = and_from _ _ (is_entry_field e) (fields_are_entries es)

pub entries_of_fields : (es : List Entry) → map entry_of (map entry_field es) ≡ es
entries_of_fields [] = refl
entries_of_fields (e ∷ es) = λ i. entry_of_field e i ∷ entries_of_fields es i

lacks-entry_field : (e : Entry) → lacks 32 (entry_field e) ≡ true
lacks-entry_field None = refl
lacks-entry_field (Some z) = lacks-spelling 32 z (omega arith)

-- no field of an entry has a space
pub entry_fields_lack : (es : List Entry) → AllLack 32 (map entry_field es)
entry_fields_lack [] = tt
entry_fields_lack (e ∷ es) = (lacks-entry_field e, entry_fields_lack es)

entry_in_range : (e : Entry) → IsEntryInRange e → is_entry_in_range (entry_field e) ≡ true
entry_in_range None h = refl
entry_in_range (Some z) h = rw (no_dash z, number_of-spelling z) (in_range_test (neg_ℤ MAX_ENTRY) MAX_ENTRY z h.0 h.1)

-- the fields of entries in range pass the test of range
pub entries_in_range : (es : List Entry) → AllByRecursion IsEntryInRange es → list_all is_entry_in_range (map entry_field es) ≡ true
entries_in_range [] h = refl
entries_in_range (e ∷ es) h = and_from _ _ (entry_in_range e h.0) (entries_in_range es h.1)

-- a field that is an entry is that of the entry that it tells
pub record IsEntryField (f : Field) : Type 0 where
  pub told : Entry
  pub is : f ≡ entry_field told
  pub in_range : IsEntryInRange told

-- a field that passes both tests is that of an entry in range
pub entry_from_tests : (f : Field) → is_entry f ≡ true → is_entry_in_range f ≡ true → IsEntryField f
entry_from_tests f h k =
    elim (cases_Bool (bytes_eq f (codes "-"))) [
      | inl dash ↦ record { told = None; is = (bytes_eq-Decides f (codes "-")).0 dash; in_range = tt }
      | inr other ↦
          let some : is_some (number_of f) ≡ true = rw other at h in
          let range : option_map_or (of_size MAX_ENTRY) (number_of f) true ≡ true = rw other at k in
          elim (number_of f) as (λ (o : Option ℤ). number_of f ≡ o → IsEntryField f) [
            | None ↦ λ e. absurd (let none : false ≡ true = rw e at some in false≢true none)
            | Some z ↦ λ e.
                let at : of_size MAX_ENTRY z ≡ true = rw e at range in
                let ends = in_range_from_test (neg_ℤ MAX_ENTRY) MAX_ENTRY z at in
                record { told = Some z; is = number_of_is f z e; in_range = (ends.low_end, ends.high_end) }
          ] refl
    ]

-- fields are those of entries in range, as they are where each passes both tests
pub record AreEntryFields (fs : List Field) : Type 0 where
  pub told : List Entry
  pub are : fs ≡ map entry_field told
  pub in_range : AllByRecursion IsEntryInRange told

pub entries_from_tests : (fs : List Field) → list_all is_entry fs ≡ true → list_all is_entry_in_range fs ≡ true → AreEntryFields fs
entries_from_tests [] h k = record { told = []; are = refl; in_range = tt }
entries_from_tests (f ∷ fs) h k =
    let first = entry_from_tests f (and_parts _ _ h).0 (and_parts _ _ k).0 in
    let rest = entries_from_tests fs (and_parts (is_entry f) (list_all is_entry fs) h).1 (and_parts (is_entry_in_range f) (list_all is_entry_in_range fs) k).1 in record {
      told = first.told ∷ rest.told;
      are = λ i. first.is i ∷ rest.are i;
      in_range = (first.in_range, rest.in_range);
    }

-- these fields are those of the entries of a table, in range
pub record AreRead (fs : List Field) (table : List Entry) : Type 0 where
  pub are : fs ≡ map entry_field table
  pub in_range : AllByRecursion IsEntryInRange table

-- ---- the fields that a reader has passed, and their entries

-- so many of the fields are entries, and are in range or not; where all are, the table has them
pub record HasEntries (all left : List Field) (count : ℕ) (in_range : Bool) (table : List Entry) : Type 0 where
  pub passed : List Field
  pub cut : all ≡ passed ++ left
  pub many : length passed ≡ count
  pub are_entries : list_all is_entry passed ≡ true
  pub are_in_range : list_all is_entry_in_range passed ≡ in_range
  pub table_is : in_range ≡ true → AreRead passed table

list_all_push : (p : Field → Bool) (fs : List Field) (f : Field) (before at : Bool) → list_all p fs ≡ before → p f ≡ at → list_all p (fs ++ f ∷ []) ≡ (before && at)
list_all_push p fs f before at h k = list_all-append p fs (f ∷ []) ∙ (λ i. h i && (k i && true)) ∙ ap (λ (b : Bool). before && b) (and-true at)

-- a reader that passes the field of an entry in range has one entry more in its table
pub one_more : (all left : List Field) (count : ℕ) (in_range : Bool) (table : List Entry) (f : Field) (e : Entry) → HasEntries all (f ∷ left) count in_range table → f ≡ entry_field e → IsEntryInRange e → HasEntries all left (count + 1) in_range (table ++ e ∷ [])
one_more all left count in_range table f e h is range =
    let form : is_entry f ≡ true = ap is_entry is ∙ is_entry_field e in
    let ranged : is_entry_in_range f ≡ true = ap is_entry_in_range is ∙ entry_in_range e range in record {
      passed = h.passed ++ f ∷ [];
      cut = h.cut ∙ sym (append_assoc h.passed (f ∷ []) left);
      many = length_push h.passed f ∙ ap (λ (n : ℕ). n + 1) h.many;
      are_entries = list_all_push is_entry h.passed f true true h.are_entries form;
      are_in_range = list_all_push is_entry_in_range h.passed f in_range true h.are_in_range ranged ∙ and-true in_range;
      table_is = λ p. record {
        are = (λ i. (h.table_is p).are i ++ is i ∷ []) ∙ sym (map_push entry_field table e);
        in_range = All_push IsEntryInRange table e (h.table_is p).in_range range;
      };
    }

-- a field is an entry, but out of range
pub record IsOutOfRange (f : Field) : Type 0 where
  pub entry : is_entry f ≡ true
  pub outside : is_entry_in_range f ≡ false

-- a field with the fault Range is an entry out of range
pub out_of_range : (f : Field) → entry_fault f ≡ Some Range → IsOutOfRange f
out_of_range f h =
    elim (cases_Bool (is_entry f)) [
      | inl form ↦
          elim (cases_Bool (is_entry_in_range f)) [
            | inl inside ↦ absurd (none-some Range (let good : None ≡ Some Range = rw (form, inside) at h in good))
            | inr outside ↦ record { entry = form; outside = outside }
          ]
      | inr other ↦ absurd (let bad : Some Form ≡ Some Range = rw other at h in cc)
    ]

-- a reader that passes an entry out of range has one field more, and not all in range
pub one_wide : (all left : List Field) (count : ℕ) (in_range : Bool) (table : List Entry) (f : Field) → HasEntries all (f ∷ left) count in_range table → entry_fault f ≡ Some Range → HasEntries all left (count + 1) false table
one_wide all left count in_range table f h fault =
    let wide = out_of_range f fault in record {
      passed = h.passed ++ f ∷ [];
      cut = h.cut ∙ sym (append_assoc h.passed (f ∷ []) left);
      many = length_push h.passed f ∙ ap (λ (n : ℕ). n + 1) h.many;
      are_entries = list_all_push is_entry h.passed f true true h.are_entries wide.entry;
      are_in_range = list_all_push is_entry_in_range h.passed f in_range false h.are_in_range wide.outside ∙ and-false in_range;
      table_is = λ p. absurd (false≢true p);
    }
