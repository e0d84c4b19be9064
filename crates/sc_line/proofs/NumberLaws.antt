-- The numbers in lines, and the lines of a name and numbers.
use Rattle.std.proofs.Common.{◌≡◌, ℕ, ◌≤◌, ◌≤ℤ◌, nat_abs, map, true, false, cond, List, [], ◌∷◌, drop, Option, Some, None, is_some, ℤ, pos, negsuc, refl, sym, ap, subst, ◌∙◌, arith, inl, inr}
use Rattle.std.specs.Option.{option_map_or}
use Rattle.std.specs.Prelude.{int_le}
use Rattle.std.specs.Str.{bytes_eq}
use Rattle.std.proofs.lemmas.Bool.{cases_Bool, and_parts, false≢true}
use Rattle.std.proofs.lemmas.Bool.Decides.{nat_tests}
use Rattle.std.proofs.lemmas.Int.{ints}
use Rattle.std.proofs.lemmas.Option.{none-some}
use Rattle.std.proofs.lemmas.Slice.Eq.{bytes_eq-Decides}
use Rattle.sc_whole.specs.Spelling.{spelling}
use Rattle.sc_line.specs.declared.fault.Kind.{Kind}
use Rattle.sc_line.specs.declared.fault.Kind.TheVariants.{Form, Range}
use Rattle.sc_line.specs.Lines.{Line, Field, fields, spaced, number_of, count_line, count_of_line, lacks}
use Rattle.sc_line.specs.Faults.{NumberRange, between, are_numbers, are_in_range, numbers_fault, literal_fault, is_named, named_fault, numbers_line_fault}
use Rattle.sc_line.specs.Formats.{IsLineKind}
use Rattle.sc_line.specs.Forms.{Tells, count_kind}
use Rattle.sc_line.proofs.LineLaws.{fields-spaced, lacks-spelling, number_of-spelling, number_of_is, same_bytes, named_is, line_from_fields}

-- what a count may be
pub record IsCountInRange (low high n : ℕ) : Type 0 where
  pub low_end : low ≤ n
  pub high_end : n ≤ high

-- ---- ranges of natural numbers

-- a natural number in the range passes the test of the range
pub between-natural : (low high n : ℕ) → low ≤ n → n ≤ high → between low high (pos n) ≡ true
between-natural low high n h k = grind (arith, ints, nat_tests)

-- ---- lines by their faults

-- where a line is due word by word, this line and no other has no fault
pub good_literal : (due : Line) → literal_fault due due ≡ None
good_literal due = rw (same_bytes due) refl

pub literal_inverse : (due line : Line) → literal_fault due line ≡ None → line ≡ due
literal_inverse due line h =
    elim (cases_Bool (bytes_eq line due)) [
      | inl same ↦ (bytes_eq-Decides line due).0 same
      | inr other ↦ absurd (none-some Form (sym (let fault : Some Form ≡ None = rw other at h in fault)))
    ]

-- the fields are the name and others without a fault
pub record IsNamed (name : List ℕ) (others : List Field → Option Kind) (fs : List Field) : Type 0 where
  pub rest : List Field
  pub fields : fs ≡ name ∷ rest
  pub good : others rest ≡ None

-- fields without a fault are the name and others without a fault
pub named_from : (name : List ℕ) (others : List Field → Option Kind) (fs : List Field) → cond (is_named name fs) (others (drop 1 fs)) (Some Form) ≡ None → IsNamed name others fs
named_from name others [] h = absurd (none-some Form (sym h))
named_from name others (f ∷ fs) h =
    elim (cases_Bool (bytes_eq f name)) [
      | inl same ↦ record { rest = fs; fields = ap (λ (x : Field). x ∷ fs) ((bytes_eq-Decides f name).0 same); good = (let good : others fs ≡ None = rw same at h in good) }
      | inr other ↦ absurd (none-some Form (sym (let fault : Some Form ≡ None = rw other at h in fault)))
    ]

-- the same of the fields of a line
pub named_inverse : (name : List ℕ) (others : List Field → Option Kind) (line : Line) → named_fault name others line ≡ None → IsNamed name others (fields line)
named_inverse name others line h = named_from name others (fields line) h

-- as many numbers as ranges, each in its range
abbrev pub InRanges : List NumberRange → List ℤ → Type 0
InRanges [] [] = Unit {0}
InRanges [] (z ∷ zs) = ⊥
InRanges (r ∷ rs) [] = ⊥
InRanges (r ∷ rs) (z ∷ zs) = (r z ≡ true) × InRanges rs zs

-- the fields spell numbers in these ranges, one for each range
pub record AreNumbers (rs : List NumberRange) (fs : List Field) : Type 0 where
  pub numbers : List ℤ
  pub fields : fs ≡ map spelling numbers
  pub in_range : InRanges rs numbers

numbers_from : (rs : List NumberRange) (fs : List Field) → are_numbers rs fs ≡ true → are_in_range rs fs ≡ true → AreNumbers rs fs
numbers_from [] [] h k = record { numbers = []; fields = refl; in_range = tt }
numbers_from [] (f ∷ fs) h k = absurd (false≢true h)
numbers_from (r ∷ rs) [] h k = absurd (false≢true h)
numbers_from (r ∷ rs) (f ∷ fs) h k =
    let first : is_some (number_of f) ≡ true = (and_parts (is_some (number_of f)) (are_numbers rs fs) h).0 in
    let range : option_map_or r (number_of f) false ≡ true = (and_parts (option_map_or r (number_of f) false) (are_in_range rs fs) k).0 in
    let rest = numbers_from rs fs (and_parts (is_some (number_of f)) (are_numbers rs fs) h).1 (and_parts (option_map_or r (number_of f) false) (are_in_range rs fs) k).1 in
    elim (number_of f) as (λ (o : Option ℤ). number_of f ≡ o → AreNumbers (r ∷ rs) (f ∷ fs)) [
      | None ↦ λ e. absurd (let none : false ≡ true = rw e at first in false≢true none)
      | Some z ↦ λ e. record {
        numbers = z ∷ rest.numbers;
        fields = λ i. number_of_is f z e i ∷ rest.fields i;
        in_range = ((let at : r z ≡ true = rw e at range in at), rest.in_range);
      }
    ] refl

-- fields without a fault spell numbers in the ranges
pub numbers_inverse : (rs : List NumberRange) (fs : List Field) → numbers_fault rs fs ≡ None → AreNumbers rs fs
numbers_inverse rs fs h =
    elim (cases_Bool (are_numbers rs fs)) [
      | inl numbers ↦
          elim (cases_Bool (are_in_range rs fs)) [
            | inl in_range ↦ numbers_from rs fs numbers in_range
            | inr outside ↦ absurd (none-some Range (sym (let fault : Some Range ≡ None = rw (numbers, outside) at h in fault)))
          ]
      | inr others ↦ absurd (none-some Form (sym (let fault : Some Form ≡ None = rw others at h in fault)))
    ]

-- a whole number is a natural one in the range
pub record IsNatural (low high : ℕ) (z : ℤ) : Type 0 where
  pub natural : ℕ
  pub is : z ≡ pos natural
  pub low_end : low ≤ natural
  pub high_end : natural ≤ high

-- a number that passes the test of the range is a natural one in it
pub natural_from : (low high : ℕ) (z : ℤ) → between low high z ≡ true → IsNatural low high z
natural_from low high (pos n) h =
    let ends = and_parts (int_le (pos low) (pos n)) (int_le (pos n) (pos high)) h in
    let below : low ≤ n = grind (arith, ints, nat_tests, ends.0) in
    let above : n ≤ high = grind (arith, ints, nat_tests, ends.1) in
    record { natural = n; is = refl; low_end = below; high_end = above }
natural_from low high (negsuc n) h =
    let ends = and_parts (int_le (pos low) (negsuc n)) (int_le (negsuc n) (pos high)) h in
    absurd (grind (arith, ints, nat_tests, ends.0))

-- the line is that of the name and a count in the range
pub record IsCountLine (name : List ℕ) (low high : ℕ) (line : Line) : Type 0 where
  pub count : ℕ
  pub is : line ≡ count_line name count
  pub low_end : low ≤ count
  pub high_end : count ≤ high

count_from : (name : List ℕ) (low high : ℕ) (line : Line) (zs : List ℤ) → fields line ≡ name ∷ map spelling zs → InRanges (between low high ∷ []) zs → IsCountLine name low high line
count_from name low high line [] e h = absurd h
count_from name low high line (z ∷ []) e h =
    let n = natural_from low high z h.0 in
    record { count = n.natural; is = line_from_fields line _ e ∙ ap (λ (y : ℤ). spaced (name ∷ spelling y ∷ [])) n.is; low_end = n.low_end; high_end = n.high_end }
count_from name low high line (z ∷ y ∷ zs) e h = absurd h.1

-- a line without a fault is that of the name and a count in the range
pub count_inverse : (name : List ℕ) (low high : ℕ) (line : Line) → numbers_line_fault name (between low high ∷ []) line ≡ None → IsCountLine name low high line
count_inverse name low high line h =
    let named = named_inverse name (numbers_fault (between low high ∷ [])) line h in
    let numbers = numbers_inverse (between low high ∷ []) named.rest named.good in
    count_from name low high line numbers.numbers (named.fields ∙ ap (λ (fs : List Field). name ∷ fs) numbers.fields) numbers.in_range

-- ---- lines of a name and a count

-- the fields of the line of a name and a count are the name and the spelling of the count
pub fields-count_line : (name : List ℕ) (n : ℕ) → lacks 32 name ≡ true → fields (count_line name n) ≡ name ∷ spelling (pos n) ∷ []
fields-count_line name n h = fields-spaced name (spelling (pos n) ∷ []) (h, (lacks-spelling 32 (pos n) (omega arith), tt))

-- a line of these fields tells the count
pub tells_count : (name : List ℕ) (low high n : ℕ) (line : Line) → fields line ≡ name ∷ spelling (pos n) ∷ [] → low ≤ n → n ≤ high → Tells (count_kind name low high) line n
tells_count name low high n line e small large = record {
  good = named_is name (numbers_fault (between low high ∷ [])) line _ e ∙ rw (number_of-spelling (pos n), between-natural low high n small large) refl;
  value_is = rw (e, number_of-spelling (pos n)) refl;
}

-- the same of a whole number between natural ones
pub tells_natural : (name : List ℕ) (low high : ℕ) (z : ℤ) (line : Line) → fields line ≡ name ∷ spelling z ∷ [] → pos low ≤ℤ z → z ≤ℤ pos high → Tells (count_kind name low high) line (nat_abs z)
tells_natural name low high (pos n) line e small large = tells_count name low high n line e (omega (arith, ints, small)) (omega (arith, ints, large))
tells_natural name low high (negsuc n) line e small large = absurd (omega (arith, ints, small))

-- ---- kinds of lines

-- a line is that of a value in range
pub record IsLineOf {A : Type 0} (line_for : A → Line) (InRange : A → Type 0) (line : Line) : Type 0 where
  pub told : A
  pub is : line ≡ line_for told
  pub in_range : InRange told

-- a kind by its good lines: each tells its value, and each line without a fault is one of them
pub kind_from : {A : Type 0} (fault : Line → Option Kind) (value : Line → A) (line_for : A → Line) (InRange : A → Type 0)
    → ((x : A) → InRange x → fault (line_for x) ≡ None)
    → ((x : A) → InRange x → value (line_for x) ≡ x)
    → ((line : Line) → fault line ≡ None → IsLineOf line_for InRange line)
    → IsLineKind fault value line_for InRange
kind_from fault value line_for InRange good value_is inverse =
    let tells = λ (line : Line) (h : fault line ≡ None). ap value (inverse line h).is ∙ value_is (inverse line h).told (inverse line h).in_range in record {
      good = good;
      value_is = value_is;
      in_range = λ line h. subst InRange (sym (tells line h)) (inverse line h).in_range;
      line_is = λ line h. (inverse line h).is ∙ ap line_for (sym (tells line h));
    }

-- the lines of a name and a count in a range are a kind of lines, whose value is the count
pub count_is_kind : (name : List ℕ) (low high : ℕ) → lacks 32 name ≡ true → IsLineKind (numbers_line_fault name (between low high ∷ [])) count_of_line (count_line name) (IsCountInRange low high)
count_is_kind name low high h =
    kind_from _ count_of_line (count_line name) (IsCountInRange low high)
    (λ n in_range. (tells_count name low high n (count_line name n) (fields-count_line name n h) in_range.low_end in_range.high_end).good)
    (λ n in_range. (tells_count name low high n (count_line name n) (fields-count_line name n h) in_range.low_end in_range.high_end).value_is)
    (λ line good. let c = count_inverse name low high line good in record {
      told = c.count;
      is = c.is;
      in_range = record { low_end = c.low_end; high_end = c.high_end };
    })

-- a line of a value in range tells it
pub tells_value : {A : Type 0} (fault : Line → Option Kind) (value : Line → A) (line_for : A → Line) (InRange : A → Type 0) (x : A) (line : Line)
    → IsLineKind fault value line_for InRange → line ≡ line_for x → InRange x → Tells (record { line = line_for; fault = fault; value = value }) line x
tells_value fault value line_for InRange x line kind e h = record { good = ap fault e ∙ kind.good x h; value_is = ap value e ∙ kind.value_is x h }
