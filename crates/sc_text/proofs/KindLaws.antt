-- The kinds of lines: which lines of each kind have no fault, and what they tell.
use Rattle.std.proofs.Common.{◌≡◌, ℕ, ◌≤◌, true, ◌&&◌, eqb, leb, List, [], ◌∷◌, map, length, Option, Some, None, codes, ℤ, pos, neg_ℤ, ◌≤ℤ◌, refl, sym, ap, ◌∙◌, arith, inl, inr}
use Rattle.std.specs.List.{list_all}
use Rattle.std.proofs.lemmas.Bool.{cases_Bool, and_parts, eqb-true, eq-eqb, leb-true}
use Rattle.std.proofs.lemmas.List.{length-map}
use Rattle.std.proofs.lemmas.Option.{none-some}
use Rattle.sc_theory.specs.declared.Side.{Side}
use Rattle.sc_theory.specs.Words.{Word}
use Rattle.sc_whole.specs.Spelling.{spelling}
use Rattle.sc_fraction.specs.Quotient.{quotient_text}
use Rattle.sc_line.specs.declared.fault.Kind.{Kind}
use Rattle.sc_line.specs.declared.fault.Kind.TheVariants.{Form, Range, NotReduced}
use Rattle.sc_words.specs.declared.limits.TheConstants.{GENERATORS}
use Rattle.sc_text.specs.declared.limits.Limits.{Limits}
use Rattle.sc_text.specs.declared.limits.TheConstants.{MAX_PRICE, MAX_VALUE}
use Rattle.sc_line.specs.Lines.{Line, Field, fields, spaced, numbers_line, number_of, lacks}
use Rattle.sc_line.specs.Faults.{NumberRange, from_to, between, numbers_fault, numbers_line_fault}
use Rattle.sc_line.specs.Formats.{IsLineKind}
use Rattle.sc_line.specs.Forms.{Tells}
use Rattle.sc_text.specs.Words.{word_line, spelled, is_reduced, IsWordWithin, FitsIn, word_within, weight_and_word_fault, weighted_word_fault, word_fields_fault, word_fault, word_of_line, a_word}
use Rattle.sc_text.specs.Sides.{side_line, IsSideWithin, side_ranges, side_fault, side_of_line}
use Rattle.sc_text.specs.PriceLines.{of_size, number_of_line, known_fault, scale_fault, scale_of_line, scale_line, IsScaleInRange, base_fault, base_of_line, base_line, IsPriceInRange, pair_fault, pair_price_of_line, pair_line}
use Rattle.sc_text.specs.ValueLines.{Quotient, value_fields_fault, value_fault, value_of_line, value_line, IsValueInRange}
use Rattle.sc_text.specs.TableLines.{Entry, entry_field, is_entry, is_entry_in_range, entries_fault, from_fault, entries_of_line, from_line, IsTableInRange}
use Rattle.sc_line.proofs.LineLaws.{lacks-append, number_of_is, fields-spaced, lacks-spelling, number_of-spelling, same_bytes, named_is, line_from_fields, IsFromTo, in_range_test, in_range_from_test}
use Rattle.sc_line.proofs.NumberLaws.{IsLineOf, kind_from, between-natural, natural_from, InRanges, named_from, named_inverse, numbers_inverse}
use Rattle.sc_text.proofs.ValueLaws.{halves-quotient_text, good_fraction, fraction_from}
use Rattle.sc_text.proofs.WordLaws.{lacks-spelled, word_again, again_within, spelled_generators, within_parts, letters_within, word_fault_none, nonempty_word, spelled_back, reduced_from}
use Rattle.sc_text.proofs.EntryLaws.{entry_fields_lack, fields_are_entries, entries_of_fields, entries_in_range, entries_from_tests}

-- ---- words and sides

-- what stands between the spaces of the lines of words and sides
pub fields-word_line : (w : ℕ × Word) → fields (word_line w) ≡ codes "word" ∷ spelling (pos w.0) ∷ spelled w.1 ∷ []
fields-word_line w =
    fields-spaced (codes "word") (spelling (pos w.0) ∷ spelled w.1 ∷ []) (refl, (lacks-spelling 32 (pos w.0) (omega arith), (lacks-spelled 32 w.1 (omega arith), tt)))

pub fields-side_line : (s : Side) → fields (side_line s) ≡ codes "side" ∷ spelling (pos s.label) ∷ spelling (pos s.mate) ∷ spelling (pos s.next) ∷ []
fields-side_line s =
    fields-spaced (codes "side") (spelling (pos s.label) ∷ spelling (pos s.mate) ∷ spelling (pos s.next) ∷ [])
    (refl, (lacks-spelling 32 (pos s.label) (omega arith), (lacks-spelling 32 (pos s.mate) (omega arith), (lacks-spelling 32 (pos s.next) (omega arith), tt))))

-- the line of a side in range has no fault
pub good_side : (m : Limits) (s : Side) → IsSideWithin m s → side_fault m (side_line s) ≡ None
good_side m s h =
    named_is (codes "side") (numbers_fault (side_ranges m)) (side_line s) _ (fields-side_line s)
    ∙ rw (number_of-spelling (pos s.label), number_of-spelling (pos s.mate), number_of-spelling (pos s.next), between-natural 0 m.label s.label (omega arith) h.label, between-natural 0 m.side s.mate (omega arith) h.mate, between-natural 0 m.side s.next (omega arith) h.next) refl

-- the line of a word in range, of at most as many letters as there is room for, has no fault
pub good_word : (m : Limits) (room : ℕ) (w : ℕ × Word) → m.generators ≤ GENERATORS → IsWordWithin m w → length w.1 ≤ room → word_fault m room (word_line w) ≡ None
good_word m room w few h fits =
    named_is (codes "word") (word_fields_fault m room) (word_line w) _ (fields-word_line w)
    ∙ rw (number_of-spelling (pos w.0), again_within m.generators w.1 (spelled_generators m.generators w.1 few h.letters) h.letters) (nonempty_word m room (pos w.0) w.1 h.some ∙ word_fault_none m room w.0 w.1 h.low h.high fits h.reduced)

-- a line is that of a side in range
pub record IsSideLine (m : Limits) (line : Line) : Type 0 where
  pub side : Side
  pub is : line ≡ side_line side
  pub in_range : IsSideWithin m side

side_from : (m : Limits) (line : Line) (zs : List ℤ) → fields line ≡ codes "side" ∷ map spelling zs → InRanges (side_ranges m) zs → IsSideLine m line
side_from m line [] e h = absurd h
side_from m line (a ∷ []) e h = absurd h.1
side_from m line (a ∷ b ∷ []) e h = absurd h.1.1
side_from m line (a ∷ b ∷ c ∷ []) e h =
    let label = natural_from 0 m.label a h.0 in
    let mate = natural_from 0 m.side b h.1.0 in
    let next = natural_from 0 m.side c h.1.1.0 in
    record {
      side = record { label = label.natural; mate = mate.natural; next = next.natural };
      is = line_from_fields line _ e ∙ (λ i. spaced (codes "side" ∷ spelling (label.is i) ∷ spelling (mate.is i) ∷ spelling (next.is i) ∷ []));
      in_range = record { label = label.high_end; mate = mate.high_end; next = next.high_end };
    }
side_from m line (a ∷ b ∷ c ∷ d ∷ zs) e h = absurd h.1.1.1

-- a line of a side without a fault is that of a side in range
pub side_inverse : (m : Limits) (line : Line) → side_fault m line ≡ None → IsSideLine m line
side_inverse m line h =
    let rs : List NumberRange = side_ranges m in
    let named = named_inverse (codes "side") (numbers_fault rs) line h in
    let numbers = numbers_inverse rs named.rest named.good in
    side_from m line numbers.numbers (named.fields ∙ ap (λ (fs : List Field). codes "side" ∷ fs) numbers.fields) numbers.in_range

-- a line is that of a word in range, of at most as many letters as there is room for
pub record IsWordLine (m : Limits) (room : ℕ) (line : Line) : Type 0 where
  pub word : ℕ × Word
  pub is : line ≡ word_line word
  pub in_range : IsWordWithin m word
  pub fits : length word.1 ≤ room

word_good : (m : Limits) (room : ℕ) (z : ℤ) (x : _) (w : Word) (line : Line) (letters : Field) → fields line ≡ codes "word" ∷ spelling z ∷ letters ∷ [] → word_within m.generators letters ≡ Some (x ∷ w) → weight_and_word_fault m room z (x ∷ w) ≡ None → IsWordLine m room line
word_good m room z x w line letters e read h =
    elim (cases_Bool (between 1 m.weight z && leb (length (x ∷ w)) room)) [
      | inl in_range ↦
          let both = and_parts (between 1 m.weight z) (leb (length (x ∷ w)) room) in_range in
          let weight = natural_from 1 m.weight z both.0 in
          let within = within_parts m.generators letters (x ∷ w) read in
          let spells = spelled_back letters (x ∷ w) within.word in
          elim (cases_Bool (is_reduced (x ∷ w))) [
            | inl reduced ↦ record {
              word = (weight.natural, x ∷ w);
              is = line_from_fields line _ e ∙ (λ i. spaced (codes "word" ∷ spelling (weight.is i) ∷ sym spells.bytes i ∷ []));
              in_range = record { low = weight.low_end; high = weight.high_end; letters = letters_within m.generators letters (x ∷ w) within; some = (λ none. absurd cc); reduced = reduced_from (x ∷ w) reduced };
              fits = leb-true (length (x ∷ w)) room both.1;
            }
            | inr unreduced ↦ absurd (none-some NotReduced (sym (let fault : Some NotReduced ≡ None = rw (in_range, unreduced) at h in fault)))
          ]
      | inr outside ↦ absurd (none-some Range (sym (let fault : Some Range ≡ None = rw outside at h in fault)))
    ]

word_from : (m : Limits) (room : ℕ) (weight : Option ℤ) (word : Option Word) (line : Line) (f letters : Field) → fields line ≡ codes "word" ∷ f ∷ letters ∷ [] → number_of f ≡ weight → word_within m.generators letters ≡ word → weighted_word_fault m room weight word ≡ None → IsWordLine m room line
word_from m room None word line f letters e n w h = absurd (none-some Form (sym h))
word_from m room (Some z) None line f letters e n w h = absurd (none-some Form (sym h))
word_from m room (Some z) (Some []) line f letters e n w h = absurd (none-some Form (sym h))
word_from m room (Some z) (Some (x ∷ v)) line f letters e n w h =
    word_good m room z x v line letters (e ∙ ap (λ (g : Field). codes "word" ∷ g ∷ letters ∷ []) (number_of_is f z n)) w h

word_of_fields : (m : Limits) (room : ℕ) (line : Line) (fs : List Field) → fields line ≡ codes "word" ∷ fs → word_fields_fault m room fs ≡ None → IsWordLine m room line
word_of_fields m room line [] e h = absurd (none-some Form (sym h))
word_of_fields m room line (f ∷ []) e h = absurd (none-some Form (sym h))
word_of_fields m room line (f ∷ letters ∷ []) e h = word_from m room (number_of f) (word_within m.generators letters) line f letters e refl refl h
word_of_fields m room line (f ∷ letters ∷ g ∷ fs) e h = absurd (none-some Form (sym h))

-- a line of a word without a fault is that of such a word
pub word_inverse : (m : Limits) (room : ℕ) (line : Line) → word_fault m room line ≡ None → IsWordLine m room line
word_inverse m room line h =
    let named = named_inverse (codes "word") (word_fields_fault m room) line h in
    word_of_fields m room line named.rest named.fields named.good

word_of_line-word_line : (m : Limits) (w : ℕ × Word) → m.generators ≤ GENERATORS → IsWordWithin m w → word_of_line (word_line w) ≡ w
word_of_line-word_line m w few h =
    rw (fields-word_line w, number_of-spelling (pos w.0), word_again w.1 (spelled_generators m.generators w.1 few h.letters)) refl

-- a line that is read as a word that may come tells it
pub tells_word : (m : Limits) (room : ℕ) (line : Line) (w : ℕ × Word) (letters : Field) → fields line ≡ codes "word" ∷ spelling (pos w.0) ∷ letters ∷ [] → IsWordWithin m w → length w.1 ≤ room → word_within m.generators letters ≡ Some w.1
    → Tells (a_word m room) line w
tells_word m room line w letters e h fits read = record {
  good =
      named_is (codes "word") (word_fields_fault m room) line _ e
      ∙ rw (number_of-spelling (pos w.0), read) (nonempty_word m room (pos w.0) w.1 h.some ∙ word_fault_none m room w.0 w.1 h.low h.high fits h.reduced);
  value_is = rw (e, number_of-spelling (pos w.0), (within_parts m.generators letters w.1 read).word) refl;
}

-- the lines of words without a fault are exactly those of the words that may come, and tell them
pub word_kind : (m : Limits) (room : ℕ) → m.generators ≤ GENERATORS → IsLineKind (word_fault m room) word_of_line word_line (FitsIn m room)
word_kind m room few =
    kind_from (word_fault m room) word_of_line word_line (FitsIn m room)
    (λ w fits. good_word m room w few fits.in_range fits.fits)
    (λ w fits. word_of_line-word_line m w few fits.in_range)
    (λ line good. let w = word_inverse m room line good in record {
      told = w.word;
      is = w.is;
      in_range = record { in_range = w.in_range; fits = w.fits };
    })

side_of_line-side_line : (s : Side) → side_of_line (side_line s) ≡ s
side_of_line-side_line s = rw (fields-side_line s, number_of-spelling (pos s.label), number_of-spelling (pos s.mate), number_of-spelling (pos s.next)) refl

-- the same of sides in range
pub side_kind : (m : Limits) → IsLineKind (side_fault m) side_of_line side_line (IsSideWithin m)
side_kind m =
    kind_from (side_fault m) side_of_line side_line (IsSideWithin m) (good_side m) (λ s in_range. side_of_line-side_line s)
    (λ line good. let s = side_inverse m line good in record { told = s.side; is = s.is; in_range = s.in_range })

-- ---- the scale, and the price of a word

fields-number_line : (name : List ℕ) (z : ℤ) → lacks 32 name ≡ true → fields (numbers_line name (z ∷ [])) ≡ name ∷ spelling z ∷ []
fields-number_line name z h = fields-spaced name (spelling z ∷ []) (h, (lacks-spelling 32 z (omega arith), tt))

good_number : (name : List ℕ) (low high z : ℤ) → lacks 32 name ≡ true → low ≤ℤ z → z ≤ℤ high → numbers_line_fault name (from_to low high ∷ []) (numbers_line name (z ∷ [])) ≡ None
good_number name low high z h small large =
    named_is name (numbers_fault (from_to low high ∷ [])) (numbers_line name (z ∷ [])) _ (fields-number_line name z h)
    ∙ rw (number_of-spelling z, in_range_test low high z small large) refl

number_of_line-number_line : (name : List ℕ) (z : ℤ) → lacks 32 name ≡ true → number_of_line 1 (numbers_line name (z ∷ [])) ≡ z
number_of_line-number_line name z h = rw (fields-number_line name z h, number_of-spelling z) refl

number_from : (name : List ℕ) (low high : ℤ) (line : Line) (zs : List ℤ) → fields line ≡ name ∷ map spelling zs → InRanges (from_to low high ∷ []) zs
    → IsLineOf (λ z. numbers_line name (z ∷ [])) (IsFromTo low high) line
number_from name low high line [] e h = absurd h
number_from name low high line (z ∷ []) e h = record { told = z; is = line_from_fields line _ e; in_range = in_range_from_test low high z h.0 }
number_from name low high line (z ∷ y ∷ zs) e h = absurd h.1

number_inverse : (name : List ℕ) (low high : ℤ) (line : Line) → numbers_line_fault name (from_to low high ∷ []) line ≡ None → IsLineOf (λ z. numbers_line name (z ∷ [])) (IsFromTo low high) line
number_inverse name low high line h =
    let named = named_inverse name (numbers_fault (from_to low high ∷ [])) line h in
    let numbers = numbers_inverse (from_to low high ∷ []) named.rest named.good in
    number_from name low high line numbers.numbers (named.fields ∙ ap (λ (fs : List Field). name ∷ fs) numbers.fields) numbers.in_range

-- the lines of scales without a fault are exactly those of the scales in range, and tell them
pub scale_kind : IsLineKind scale_fault scale_of_line scale_line IsScaleInRange
scale_kind =
    kind_from scale_fault scale_of_line scale_line IsScaleInRange
    (λ d in_range. good_number (codes "scale") (pos 1) MAX_PRICE d refl in_range.low in_range.high)
    (λ d in_range. number_of_line-number_line (codes "scale") d refl)
    (λ line good. let d = number_inverse (codes "scale") (pos 1) MAX_PRICE line good in record {
      told = d.told;
      is = d.is;
      in_range = record { low = d.in_range.low_end; high = d.in_range.high_end };
    })

-- the same of the prices of words
pub base_kind : IsLineKind base_fault base_of_line base_line IsPriceInRange
base_kind =
    kind_from base_fault base_of_line base_line IsPriceInRange
    (λ z in_range. good_number (codes "base") (neg_ℤ MAX_PRICE) MAX_PRICE z refl in_range.low in_range.high)
    (λ z in_range. number_of_line-number_line (codes "base") z refl)
    (λ line good. let z = number_inverse (codes "base") (neg_ℤ MAX_PRICE) MAX_PRICE line good in record {
      told = z.told;
      is = z.is;
      in_range = record { low = z.in_range.low_end; high = z.in_range.high_end };
    })

-- ---- the price of a pair

-- what stands between the spaces of the line of a pair
pub fields-pair_line : (p : ℕ × ℕ) (y : ℤ) → fields (pair_line p y) ≡ codes "pair" ∷ spelling (pos p.0) ∷ spelling (pos p.1) ∷ spelling y ∷ []
fields-pair_line p y =
    fields-spaced (codes "pair") (spelling (pos p.0) ∷ spelling (pos p.1) ∷ spelling y ∷ [])
    (refl, (lacks-spelling 32 (pos p.0) (omega arith), (lacks-spelling 32 (pos p.1) (omega arith), (lacks-spelling 32 y (omega arith), tt))))

good_pair : (p : ℕ × ℕ) (y : ℤ) → IsPriceInRange y → pair_fault p (pair_line p y) ≡ None
good_pair p y h =
    named_is (codes "pair") (known_fault (pos p.0) (known_fault (pos p.1) (numbers_fault (of_size MAX_PRICE ∷ [])))) (pair_line p y) _ (fields-pair_line p y)
    ∙ rw (same_bytes (spelling (pos p.0)), same_bytes (spelling (pos p.1)), number_of-spelling y, in_range_test (neg_ℤ MAX_PRICE) MAX_PRICE y h.low h.high) refl

pair_price_of_line-pair_line : (p : ℕ × ℕ) (y : ℤ) → pair_price_of_line (pair_line p y) ≡ y
pair_price_of_line-pair_line p y = rw (fields-pair_line p y, number_of-spelling y) refl

pair_from : (p : ℕ × ℕ) (line : Line) (zs : List ℤ) → fields line ≡ codes "pair" ∷ spelling (pos p.0) ∷ spelling (pos p.1) ∷ map spelling zs → InRanges (of_size MAX_PRICE ∷ []) zs → IsLineOf (pair_line p) IsPriceInRange line
pair_from p line [] e h = absurd h
pair_from p line (y ∷ []) e h =
    let ends = in_range_from_test (neg_ℤ MAX_PRICE) MAX_PRICE y h.0 in
    record { told = y; is = line_from_fields line _ e; in_range = record { low = ends.low_end; high = ends.high_end } }
pair_from p line (y ∷ x ∷ zs) e h = absurd h.1

pair_inverse : (p : ℕ × ℕ) (line : Line) → pair_fault p line ≡ None → IsLineOf (pair_line p) IsPriceInRange line
pair_inverse p line h =
    let prices : List Field → Option Kind = numbers_fault (of_size MAX_PRICE ∷ []) in
    let named = named_inverse (codes "pair") (known_fault (pos p.0) (known_fault (pos p.1) prices)) line h in
    let first = named_from (spelling (pos p.0)) (known_fault (pos p.1) prices) named.rest named.good in
    let second = named_from (spelling (pos p.1)) prices first.rest first.good in
    let numbers = numbers_inverse (of_size MAX_PRICE ∷ []) second.rest second.good in
    pair_from p line numbers.numbers
    (named.fields ∙ ap (λ (fs : List Field). codes "pair" ∷ fs) (first.fields ∙ ap (λ (fs : List Field). spelling (pos p.0) ∷ fs) (second.fields ∙ ap (λ (fs : List Field). spelling (pos p.1) ∷ fs) numbers.fields)))
    numbers.in_range

-- the lines of a pair without a fault are exactly those of the prices in range, and tell them
pub pair_kind : (p : ℕ × ℕ) → IsLineKind (pair_fault p) pair_price_of_line (pair_line p) IsPriceInRange
pair_kind p = kind_from (pair_fault p) pair_price_of_line (pair_line p) IsPriceInRange (good_pair p) (λ y in_range. pair_price_of_line-pair_line p y) (pair_inverse p)

-- ---- the line of a table

-- what stands between the spaces of the line of a table
pub fields-from_line : (s : ℕ) (es : List Entry) → fields (from_line s es) ≡ codes "from" ∷ spelling (pos s) ∷ map entry_field es
fields-from_line s es = fields-spaced (codes "from") (spelling (pos s) ∷ map entry_field es) (refl, (lacks-spelling 32 (pos s) (omega arith), entry_fields_lack es))

good_table : (count s : ℕ) (es : List Entry) → IsTableInRange count es → from_fault count s (from_line s es) ≡ None
good_table count s es h =
    let len : eqb (length (map entry_field es)) count ≡ true = eq-eqb (length (map entry_field es)) count (length-map es entry_field ∙ h.count_is) in
    named_is (codes "from") (known_fault (pos s) (entries_fault count)) (from_line s es) _ (fields-from_line s es)
    ∙ rw (same_bytes (spelling (pos s)), len, fields_are_entries es, entries_in_range es h.entries_in_range) refl

entries_of_line-from_line : (s : ℕ) (es : List Entry) → entries_of_line (from_line s es) ≡ es
entries_of_line-from_line s es = rw (fields-from_line s es) (entries_of_fields es)

-- so many fields that are entries, by their fault
pub record IsTable (count : ℕ) (fs : List Field) : Type 0 where
  pub entries : List Entry
  pub are : fs ≡ map entry_field entries
  pub in_range : IsTableInRange count entries

-- so many fields without a fault are the entries of a table in range
pub table_from : (count : ℕ) (fs : List Field) → entries_fault count fs ≡ None → IsTable count fs
table_from count fs h =
    elim (cases_Bool (eqb (length fs) count && list_all is_entry fs)) [
      | inl form ↦
          elim (cases_Bool (list_all is_entry_in_range fs)) [
            | inl range ↦
                let both = and_parts (eqb (length fs) count) (list_all is_entry fs) form in
                let table = entries_from_tests fs both.1 range in record {
                  entries = table.told;
                  are = table.are;
                  in_range = record { count_is = sym (length-map table.told entry_field) ∙ sym (ap length table.are) ∙ eqb-true _ _ both.0; entries_in_range = table.in_range };
                }
            | inr outside ↦ absurd (none-some Range (sym (let fault : Some Range ≡ None = rw (form, outside) at h in fault)))
          ]
      | inr others ↦ absurd (none-some Form (sym (let fault : Some Form ≡ None = rw others at h in fault)))
    ]

table_inverse : (count s : ℕ) (line : Line) → from_fault count s line ≡ None → IsLineOf (from_line s) (IsTableInRange count) line
table_inverse count s line h =
    let named = named_inverse (codes "from") (known_fault (pos s) (entries_fault count)) line h in
    let known = named_from (spelling (pos s)) (entries_fault count) named.rest named.good in
    let table = table_from count known.rest known.good in record {
      told = table.entries;
      is = line_from_fields line _ (named.fields ∙ ap (λ (fs : List Field). codes "from" ∷ fs) (known.fields ∙ ap (λ (fs : List Field). spelling (pos s) ∷ fs) table.are));
      in_range = table.in_range;
    }

-- the lines of the table of a start without a fault are exactly those of the tables in range, and tell them
pub from_kind : (count s : ℕ) → IsLineKind (from_fault count s) entries_of_line (from_line s) (IsTableInRange count)
from_kind count s = kind_from (from_fault count s) entries_of_line (from_line s) (IsTableInRange count) (good_table count s) (λ es in_range. entries_of_line-from_line s es) (table_inverse count s)

-- ---- a value

-- what stands between the spaces of the line of a value
pub fields-value_line : (v : Quotient) → fields (value_line v) ≡ codes "value" ∷ quotient_text v.0 v.1 ∷ []
fields-value_line v =
    fields-spaced (codes "value") (quotient_text v.0 v.1 ∷ [])
    (refl, (lacks-append 32 (spelling v.0) (47 ∷ spelling v.1) (lacks-spelling 32 v.0 (omega arith)) (lacks-spelling 32 v.1 (omega arith)), tt))

good_value : (v : Quotient) → IsValueInRange v → value_fault (value_line v) ≡ None
good_value v h =
    named_is (codes "value") value_fields_fault (value_line v) _ (fields-value_line v)
    ∙ good_fraction MAX_VALUE v h

value_of_line-value_line : (v : Quotient) → value_of_line (value_line v) ≡ v
value_of_line-value_line v = rw (fields-value_line v, halves-quotient_text v.0 v.1, number_of-spelling v.0, number_of-spelling v.1) refl

value_from : (line : Line) (fs : List Field) → fields line ≡ codes "value" ∷ fs → value_fields_fault fs ≡ None → IsLineOf value_line IsValueInRange line
value_from line [] e h = absurd (none-some Form (sym h))
value_from line (f ∷ []) e h =
    let v = fraction_from MAX_VALUE f h in
    record { told = v.told; is = line_from_fields line _ (e ∙ ap (λ (g : Field). codes "value" ∷ g ∷ []) v.is); in_range = v.in_range }
value_from line (f ∷ g ∷ fs) e h = absurd (none-some Form (sym h))

value_inverse : (line : Line) → value_fault line ≡ None → IsLineOf value_line IsValueInRange line
value_inverse line h =
    let named = named_inverse (codes "value") value_fields_fault line h in
    value_from line named.rest named.fields named.good

-- the lines of values without a fault are exactly those of the values in range, and tell them
pub value_kind : IsLineKind value_fault value_of_line value_line IsValueInRange
value_kind = kind_from value_fault value_of_line value_line IsValueInRange good_value (λ v in_range. value_of_line-value_line v) value_inverse
