-- Laws of lines, fields and numbers.
use Rattle.std.proofs.Common.{◌≡◌, ◌≢◌, ℕ, zero, suc, ◌+◌, ◌-◌, ◌<◌, ◌≤◌, Bool, true, false, eqb, ltb, List, [], ◌∷◌, ◌++◌, map, length, get_or, take, drop, Option, Some, None, ℤ, pos, negsuc, neg_ℤ, ◌≤ℤ◌, refl, sym, ap, subst, ◌∙◌, append_assoc, append-nil, arith, All, inl, inr, T}
use Rattle.std.specs.List.{slice_split, onto_first, position, position_or_len, join_with_byte, AllByRecursion}
use Rattle.std.specs.Prelude.{int_le, FitsSigned}
use Rattle.std.specs.Int.{IsInRange, w128}
use Rattle.std.specs.Int.Digits.{digits_of, number_from_digits}
use Rattle.std.specs.Str.{bytes_eq}
use Rattle.std.proofs.lemmas.Bool.{cases_Bool, ltb-true, ltb-false, not-true, ne_eqb, and_parts, and_from}
use Rattle.std.proofs.lemmas.Option.{cond_some, none-some, same_Some}
use Rattle.std.proofs.lemmas.Int.Digits.{number_digits_of}
use Rattle.std.proofs.lemmas.List.Splits.{slice_split-cons_no, slice_split_first, slice_split_at, slice_split_none, length-slice_split, join_with_byte-slice_split}
use Rattle.std.proofs.lemmas.Slice.Eq.{bytes_eq-Decides}
use Rattle.sc_whole.specs.Spelling.{natural_spelling, spelling}
use Rattle.sc_whole.proofs.SpellingLaws.{first-natural_spelling, digits-natural_spelling}
use Rattle.sc_line.specs.declared.fault.Kind.{Kind}
use Rattle.sc_line.specs.Faults.{from_to, is_named, named_fault}
use Rattle.sc_line.specs.Lines.{Line, Field, text_of, parts, spaced, fields, natural_written, number_written, number_of, first_number, IsNarrowed, TakesNumber, TellsNumber, lacks, AllLack}

-- ---- cutting at a byte

-- a list is cut at the first place that passes the test
pub split_found : (p : ℕ → Bool) (xs : List ℕ) (i : ℕ) → position p xs ≡ Some i → slice_split p xs ≡ take i xs ∷ slice_split p (drop (i + 1) xs)
split_found p xs i e =
    let at = cond_some _ _ _ e in
    let cut = slice_split_first p xs 0 (ltb-true _ _ at.0) in
    subst (λ (k : ℕ). slice_split p xs ≡ take k xs ∷ slice_split p (drop (k + 1) xs)) at.1 cut

split_past : (p : ℕ → Bool) (xs : List ℕ) → length xs ≤ position_or_len p xs → slice_split p xs ≡ xs ∷ []
split_past p [] h = refl
split_past p (x ∷ xs) h =
    elim (cases_Bool (p x)) [
      | inl e ↦ absurd (let none : suc (length xs) ≤ 0 = rw e at h in omega arith)
      | inr e ↦ let more : suc (length xs) ≤ 1 + position_or_len p xs = rw e at h in slice_split-cons_no p x xs e ∙ ap (onto_first x) (split_past p xs (omega arith))
    ]

-- without such a place it is one piece
pub split_none : (p : ℕ → Bool) (xs : List ℕ) → position p xs ≡ None → slice_split p xs ≡ xs ∷ []
split_none p xs e =
    elim (cases_Bool (ltb (position_or_len p xs) (length xs))) [
      | inl within ↦ absurd (none-some (position_or_len p xs) (sym (let found : Some (position_or_len p xs) ≡ None = rw within at e in found)))
      | inr past ↦ split_past p xs (ltb-false _ _ past)
    ]

pub split_some : (p : ℕ → Bool) (xs : List ℕ) → slice_split p xs ≢ []
split_some p xs e = absurd (omega (arith, length-slice_split p xs, ap length e))

-- ---- lists

-- a fact of each entry, and of one more at the end
pub All_push : {A : Type 0} (P : A → Type 0) (xs : List A) (x : A) → AllByRecursion P xs → P x → AllByRecursion P (xs ++ x ∷ [])
All_push P [] x h p = (p, tt)
All_push P (y ∷ xs) x h p = (h.0, All_push P xs x h.1 p)

-- ---- joining

-- where a byte does not occur, each byte is another
pub lacking : (c : ℕ) (bs : List ℕ) → lacks c bs ≡ true → All (λ b. eqb b c ≡ false) bs
lacking c [] h k d l = absurd (omega arith)
lacking c (b ∷ bs) h zero d l = not-true _ (and_parts _ _ h).0
lacking c (b ∷ bs) h (suc k) d l = lacking c bs (and_parts _ _ h).1 k d (omega arith)

-- a byte that occurs in neither list does not occur in both, one behind the other
pub lacks-append : (c : ℕ) (xs ys : List ℕ) → lacks c xs ≡ true → lacks c ys ≡ true → lacks c (xs ++ ys) ≡ true
lacks-append c [] ys h k = k
lacks-append c (x ∷ xs) ys h k =
    let both = and_parts _ _ h in
    and_from _ _ both.0 (lacks-append c xs ys both.1 k)

-- a line is that of its fields; and fields without spaces are those of their line
pub spaced-fields : (line : Line) → spaced (fields line) ≡ line
spaced-fields line = join_with_byte-slice_split 32 line

pub fields-spaced : (f : Field) (fs : List Field) → AllLack 32 (f ∷ fs) → fields (spaced (f ∷ fs)) ≡ f ∷ fs
fields-spaced f [] h = slice_split_none (λ b. eqb b 32) f (lacking 32 f h.0)
fields-spaced f (g ∷ gs) h =
    slice_split_at (λ b. eqb b 32) f 32 (spaced (g ∷ gs)) (lacking 32 f h.0) refl ∙ ap (λ (rest : List Field). f ∷ rest) (fields-spaced g gs h.1)

-- the parts of a text of lines without line feeds are these lines, with nothing behind them
pub parts-text_of : (lines : List Line) → AllLack 10 lines → parts (text_of lines) ≡ lines ++ [] ∷ []
parts-text_of [] h = refl
parts-text_of (line ∷ lines) h =
    ap parts (append_assoc line (10 ∷ []) (text_of lines))
    ∙ slice_split_at (λ b. eqb b 10) line 10 (text_of lines) (lacking 10 line h.0) refl
    ∙ ap (λ (rest : List Line). line ∷ rest) (parts-text_of lines h.1)

joined_lines : (line : Line) (lines : List Line) → join_with_byte 10 (line ∷ (lines ++ [] ∷ [])) ≡ text_of (line ∷ lines)
joined_lines line [] = sym (append-nil (line ++ 10 ∷ []))
joined_lines line (next ∷ lines) =
    ap (λ (rest : List ℕ). line ++ (10 ∷ rest)) (joined_lines next lines) ∙ sym (append_assoc line (10 ∷ []) (text_of (next ∷ lines)))

-- a text whose parts are lines, with nothing behind them, is that of these lines
pub text_from_parts : (text : List ℕ) (lines : List Line) → parts text ≡ lines ++ [] ∷ [] → text ≡ text_of lines
text_from_parts text [] e = sym (join_with_byte-slice_split 10 text) ∙ ap (join_with_byte 10) e
text_from_parts text (line ∷ lines) e = sym (join_with_byte-slice_split 10 text) ∙ ap (join_with_byte 10) e ∙ joined_lines line lines

-- ---- numbers

pub same_bytes : (xs : List ℕ) → bytes_eq xs xs ≡ true
same_bytes xs = (bytes_eq-Decides xs xs).1 refl

map_back : (ds : List ℕ) → map (λ b. b - 48) (map (λ d. 48 + d) ds) ≡ ds
map_back [] = refl
map_back (d ∷ ds) = let e : 48 + d - 48 ≡ d = omega arith in λ i. e i ∷ map_back ds i

natural_written-spelling : (n : ℕ) → natural_written (natural_spelling n) ≡ n
unfolding natural_spelling
natural_written-spelling zero = refl
natural_written-spelling (suc n) = ap (number_from_digits 10) (map_back (digits_of 10 (suc n))) ∙ number_digits_of 10 (suc n) (omega arith)

number_written-spelling : (z : ℤ) → number_written (spelling z) ≡ z
unfolding spelling
number_written-spelling (pos n) =
    let plain : eqb (get_or (natural_spelling n) 0 0) 45 ≡ false = ne_eqb _ _ (λ e. omega (arith, first-natural_spelling n)) in
    rw plain (ap pos (natural_written-spelling n))
number_written-spelling (negsuc n) = ap (λ (m : ℕ). neg_ℤ (pos m)) (natural_written-spelling (suc n))

-- a field is a number exactly where it is the spelling of the number
pub number_of-spelling : (z : ℤ) → number_of (spelling z) ≡ Some z
unfolding number_of
number_of-spelling z = rw (number_written-spelling z, same_bytes (spelling z)) refl

pub number_of_is : (f : Field) (z : ℤ) → number_of f ≡ Some z → f ≡ spelling z
unfolding number_of
number_of_is f z e =
    let same = cond_some _ _ _ e in
    (bytes_eq-Decides f (spelling (number_written f))).0 same.0 ∙ ap spelling same.1

pub number_of_from : (f : Field) (z : ℤ) → f ≡ spelling z → number_of f ≡ Some z
number_of_from f z e = ap number_of e ∙ number_of-spelling z

digits_lack : (c : ℕ) (bs : List ℕ) → c < 48 → AllByRecursion (IsInRange 48 57) bs → lacks c bs ≡ true
digits_lack c [] small h = refl
digits_lack c (b ∷ bs) small h =
    let digit = h.0 in
    let other : eqb b c ≡ false = ne_eqb b c (λ e. omega arith) in
    rw other (digits_lack c bs small h.1)

-- a spelling has no byte but digits and a minus sign
pub lacks-spelling_but : (c : ℕ) (z : ℤ) → c < 48 → c ≢ 45 → lacks c (spelling z) ≡ true
unfolding spelling
lacks-spelling_but c (pos n) small minus = digits_lack c (natural_spelling n) small (digits-natural_spelling n)
lacks-spelling_but c (negsuc n) small minus =
    let other : eqb 45 c ≡ false = ne_eqb 45 c (λ e. minus (sym e)) in
    rw other (digits_lack c (natural_spelling (suc n)) small (digits-natural_spelling (suc n)))

pub lacks-spelling : (c : ℕ) (z : ℤ) → c < 45 → lacks c (spelling z) ≡ true
lacks-spelling c z small = lacks-spelling_but c z (omega arith) (λ e. omega arith)

-- a field that is the spelling of no number is no number
pub number_of_none : (f : Field) → ((z : ℤ) → f ≡ spelling z → ⊥) → number_of f ≡ None
number_of_none f none =
    elim (number_of f) as (λ (o : Option ℤ). number_of f ≡ o → o ≡ None) [
      | None ↦ λ e. refl
      | Some z ↦ λ e. absurd (none z (number_of_is f z e))
    ] refl

-- ---- what a reader of fields has taken

-- a number that fits was the first of the fields
pub taken_is : (old new : List Field) (number : Option ℤ) (z : ℤ) → TakesNumber old new number → number ≡ Some z → old ≡ spelling z ∷ new
taken_is old new number z t e =
    let same : z ≡ t.value = subst (IsNarrowed t.value) e t.narrowed in
    t.taken ∙ ap (λ (f : Field). f ∷ new) (number_of_is t.field t.value t.spells ∙ ap spelling (sym same))

-- a field that tells a number in 128 bits spells it
pub told_is : (field : Field) (number : Option ℤ) (z : ℤ) → TellsNumber field number → number ≡ Some z → field ≡ spelling z
told_is field number z t e =
    let same : z ≡ t.value = subst (IsNarrowed t.value) e t.narrowed in
    number_of_is field t.value t.spells ∙ ap spelling (sym same)

-- the next field isn't the number z, where what was taken isn't z, or is no number
pub other_number : (old new : List Field) (number : Option ℤ) (z : ℤ) → FitsSigned w128 z → TakesNumber old new number → (number ≡ Some z → ⊥) → is_named (spelling z) old ≡ false
other_number old new number z fits t other =
    elim (cases_Bool (bytes_eq t.field (spelling z))) [
      | inl same ↦
          let value : t.value ≡ z = same_Some _ _ (sym t.spells ∙ number_of_from t.field z ((bytes_eq-Decides t.field (spelling z)).0 same)) in
          absurd (narrowed_otherwise number z fits (subst (λ (v : ℤ). IsNarrowed v number) value t.narrowed) other)
      | inr apart ↦ rw t.taken apart
    ]
  where
    narrowed_otherwise : (number : Option ℤ) (z : ℤ) → FitsSigned w128 z → IsNarrowed z number → (number ≡ Some z → ⊥) → ⊥
    narrowed_otherwise None z fits h other = h fits
    narrowed_otherwise (Some x) z fits h other = other (ap Some h)

-- where the first of the fields is no number, it is not the number z
pub no_number : (fs : List Field) (z : ℤ) → first_number fs ≡ None → is_named (spelling z) fs ≡ false
no_number [] z h = refl
no_number (f ∷ fs) z h =
    elim (cases_Bool (bytes_eq f (spelling z))) [
      | inl same ↦ absurd (none-some z (sym h ∙ number_of_from f z ((bytes_eq-Decides f (spelling z)).0 same)))
      | inr apart ↦ apart
    ]

-- a line is that of its fields
pub line_from_fields : (line : Line) (fs : List Field) → fields line ≡ fs → line ≡ spaced fs
line_from_fields line fs e = sym (spaced-fields line) ∙ ap spaced e

-- a number that was narrowed to z is z
pub narrowed_is : (value z : ℤ) (number : Option ℤ) → IsNarrowed value number → number ≡ Some z → value ≡ z
narrowed_is value z number h e = sym (subst (IsNarrowed value) e h)

-- the fault of a line whose first field is the name that is due
pub named_is : (name : List ℕ) (others : List Field → Option Kind) (line : Line) (fs : List Field) → fields line ≡ name ∷ fs → named_fault name others line ≡ others fs
named_is name others line fs e = rw (e, same_bytes name) refl

-- ---- ranges

le_test : (x y : ℤ) → x ≤ℤ y → int_le x y ≡ true
le_test x y h =
    elim (cases_Bool (int_le x y)) [
      | inl e ↦ e
      | inr e ↦ absurd (let none : ⊥ = rw e at h.le in none)
    ]

le_at : (x y : ℤ) → int_le x y ≡ true → x ≤ℤ y
le_at x y h = record { le = subst T (sym h) tt }

-- a number in a range, as the test and as the facts
pub in_range_test : (low high z : ℤ) → low ≤ℤ z → z ≤ℤ high → from_to low high z ≡ true
in_range_test low high z h k = and_from _ _ (le_test low z h) (le_test z high k)

pub record IsFromTo (low high z : ℤ) : Type 0 where
  pub low_end : low ≤ℤ z
  pub high_end : z ≤ℤ high

pub in_range_from_test : (low high z : ℤ) → from_to low high z ≡ true → IsFromTo low high z
in_range_from_test low high z h =
    let ends = and_parts (int_le low z) (int_le z high) h in
    record { low_end = le_at low z ends.0; high_end = le_at z high ends.1 }
