-- Laws of letters and words as bytes.
use Rattle.std.proofs.Common.{◌≡◌, ◌≢◌, ℕ, ◌+◌, ◌-◌, ◌<◌, ◌≤◌, Bool, true, false, not, ◌&&◌, eqb, leb, ltb, List, [], ◌∷◌, length, Option, Some, None, ℤ, pos, refl, sym, ap, subst, ◌∙◌, arith, inl, inr}
use Rattle.std.specs.List.{AllByRecursion, list_all, filter_map}
use Rattle.std.proofs.lemmas.Bool.{cases_Bool, le-leb, lt-leb, lt-ltb, ltb-true, not-true, not-false, eqb-true, eqb-false, and_cases, and_parts, and_from, and_left, and_right, false≢true, ne_eqb}
use Rattle.std.proofs.lemmas.List.{length-map, nil_from_length}
use Rattle.std.proofs.lemmas.Option.{same_Some, none-some}
use Rattle.sc_theory.specs.declared.Letter.{Letter}
use Rattle.sc_theory.specs.Words.{Word, IsReduced, delete_cyclically}
use Rattle.sc_words.specs.declared.limits.TheConstants.{GENERATORS}
use Rattle.sc_text.specs.declared.limits.Limits.{Limits}
use Rattle.sc_line.specs.declared.fault.Kind.TheVariants.{Form, Range, NotReduced}
use Rattle.sc_line.specs.Lines.{Field}
use Rattle.sc_words.specs.Spelling.{letter_byte, letter_of, word_of}
use Rattle.sc_words.proofs.SpellingLaws.{IsByteOf, are_letters, letter_back, word_from_letters}
use Rattle.sc_text.specs.Words.{spelled, is_reduced, is_letter_of, word_within, weight_and_word_fault, weighted_word_fault}
use Rattle.sc_line.specs.Faults.{between}
use Rattle.sc_line.specs.Lines.{lacks}
use Rattle.sc_line.proofs.NumberLaws.{between-natural}

abbrev HasGenerator : Letter → Type 0
HasGenerator x = x.number < GENERATORS

-- ---- a letter and its byte

abbrev letter : ℕ → Bool → Letter
letter n inverse = record { number = n; inverse = inverse }

letter_from : (n : ℕ) (inverse : Bool) → n < GENERATORS → letter_of (letter_byte (letter n inverse)) ≡ Some (letter n inverse)
letter_from n true h =
    let other : (leb 97 (65 + n) && leb (65 + n) 122) ≡ false = and_left _ _ (lt-leb 97 (65 + n) (omega arith)) in
    let capital : (leb 65 (65 + n) && leb (65 + n) 90) ≡ true = and_from _ _ (le-leb 65 (65 + n) (omega arith)) (le-leb (65 + n) 90 (omega arith)) in
    let same : 65 + n - 65 ≡ n = omega arith in
    rw (other, capital) (ap (λ (k : ℕ). Some (letter k true)) same)
letter_from n false h =
    let small : (leb 97 (97 + n) && leb (97 + n) 122) ≡ true = and_from _ _ (le-leb 97 (97 + n) (omega arith)) (le-leb (97 + n) 122 (omega arith)) in
    let same : 97 + n - 97 ≡ n = omega arith in
    rw small (ap (λ (k : ℕ). Some (letter k false)) same)

-- a letter in range is told by its byte
pub letter_again : (x : Letter) → HasGenerator x → letter_of (letter_byte x) ≡ Some x
letter_again x h = letter_from x.number x.inverse h

-- ---- a word and its bytes

-- the bytes are the spelling of the word, and the generators of its letters are in range
pub record IsSpelling (bs : List ℕ) (w : Word) : Type 0 where
  pub bytes : spelled w ≡ bs
  pub letters : AllByRecursion HasGenerator w

IsSpelling-cons : (b : ℕ) (bs : List ℕ) (x : Letter) (w : Word) → IsByteOf b x → IsSpelling bs w → IsSpelling (b ∷ bs) (x ∷ w)
IsSpelling-cons b bs x w first rest = record { bytes = λ i. first.byte i ∷ rest.bytes i; letters = (first.generator, rest.letters) }

-- bytes that spell a word are its spelling
pub spelled_back : (bs : List ℕ) (w : Word) → word_of bs ≡ Some w → IsSpelling bs w
spelled_back [] w e = subst (IsSpelling []) (same_Some _ _ e) (record { bytes = refl; letters = tt })
spelled_back (b ∷ bs) w e =
    elim (letter_of b) as (λ (o : Option Letter). letter_of b ≡ o → IsSpelling (b ∷ bs) w) [
      | None ↦ λ first. absurd (none-some w (rw first at e))
      | Some x ↦ λ first.
          elim (word_of bs) as (λ (o : Option Word). word_of bs ≡ o → IsSpelling (b ∷ bs) w) [
            | None ↦ λ rest. absurd (none-some w (rw (first, rest) at e))
            | Some v ↦ λ rest. subst (IsSpelling (b ∷ bs)) (same_Some _ _ (rw (first, rest) at e)) (IsSpelling-cons b bs x v (letter_back b x first) (spelled_back bs v rest))
          ] refl
    ] refl

-- a word of letters in range is told by its spelling
pub word_again : (w : Word) → AllByRecursion HasGenerator w → word_of (spelled w) ≡ Some w
word_again [] h = refl
word_again (x ∷ w) h = rw (letter_again x h.0, word_again w h.1) refl

large_byte : (x : Letter) → 65 ≤ letter_byte x
large_byte x = large x.number x.inverse
  where
    large : (n : ℕ) (inverse : Bool) → 65 ≤ letter_byte (letter n inverse)
    large n true = omega arith
    large n false = omega arith

-- no byte below the capital letters stands in the spelling of a word
pub lacks-spelled : (c : ℕ) (w : Word) → c < 65 → lacks c (spelled w) ≡ true
lacks-spelled c [] h = refl
lacks-spelled c (x ∷ w) h =
    let other : eqb (letter_byte x) c ≡ false = ne_eqb _ c (λ e. omega (arith, large_byte x)) in
    rw other (lacks-spelled c w h)

pub length-spelled : (w : Word) → length (spelled w) ≡ length w
length-spelled w = length-map w letter_byte

-- ---- whether a word is reduced

-- the test tells whether a word is reduced, both ways
pub reduced_from : (w : Word) → is_reduced w ≡ true → IsReduced w
reduced_from w h =
    elim (delete_cyclically w) as (λ (o : Option Word). delete_cyclically w ≡ o → o ≡ None) [
      | None ↦ λ e. refl
      | Some v ↦ λ e. absurd (let none : false ≡ true = rw e at h in false≢true none)
    ] refl

pub reduced_test : (w : Word) → IsReduced w → is_reduced w ≡ true
reduced_test w h = rw h refl

pub unreduced_test : (w : Word) → (IsReduced w → ⊥) → is_reduced w ≡ false
unreduced_test w h =
    elim (cases_Bool (is_reduced w)) [
      | inl holds ↦ absurd (h (reduced_from w holds))
      | inr fails ↦ fails
    ]

-- ---- words of so many generators

abbrev AreWithin : ℕ → Word → Type 0
AreWithin g w = AllByRecursion (λ x. x.number < g) w

-- bytes of which each spells a letter of so many generators each spell a letter
letters_from_within : (g : ℕ) (bs : List ℕ) → list_all (is_letter_of g) bs ≡ true → are_letters bs ≡ true
letters_from_within g [] h = refl
letters_from_within g (b ∷ bs) h =
    let both = and_parts (is_letter_of g b) (list_all (is_letter_of g) bs) h in
    elim (letter_of b) as (λ (o : Option Letter). letter_of b ≡ o → are_letters (b ∷ bs) ≡ true) [
      | None ↦ λ e. absurd (let none : false ≡ true = rw e at both.0 in false≢true none)
      | Some x ↦ λ e. rw e (letters_from_within g bs both.1)
    ] refl

-- the word that they spell is of these generators
pub within_from_letters : (g : ℕ) (bs : List ℕ) → list_all (is_letter_of g) bs ≡ true → AreWithin g (filter_map letter_of bs)
within_from_letters g [] h = tt
within_from_letters g (b ∷ bs) h =
    let both = and_parts (is_letter_of g b) (list_all (is_letter_of g) bs) h in
    elim (letter_of b) as (λ (o : Option Letter). letter_of b ≡ o → AreWithin g (filter_map letter_of (b ∷ bs))) [
      | None ↦ λ e. absurd (let none : false ≡ true = rw e at both.0 in false≢true none)
      | Some x ↦ λ e. rw e (let inside : ltb x.number g ≡ true = rw e at both.0 in ltb-true x.number g inside, within_from_letters g bs both.1)
    ] refl

-- and a word of these generators is spelled by such bytes
spelled_within : (g : ℕ) (w : Word) → AllByRecursion HasGenerator w → AreWithin g w → list_all (is_letter_of g) (spelled w) ≡ true
spelled_within g [] h inside = refl
spelled_within g (x ∷ w) h inside = rw (letter_again x h.0, lt-ltb x.number g inside.0) (spelled_within g w h.1 inside.1)

pub again_within : (g : ℕ) (w : Word) → AllByRecursion HasGenerator w → AreWithin g w → word_within g (spelled w) ≡ Some w
again_within g w h inside = rw (spelled_within g w h inside) (word_again w h)

-- generators up to a number for which letters are spelled have letters
pub spelled_generators : (g : ℕ) (w : Word) → g ≤ GENERATORS → AreWithin g w → AllByRecursion HasGenerator w
spelled_generators g [] few h = tt
spelled_generators g (x ∷ w) few h = (omega (arith, h.0), spelled_generators g w few h.1)

-- bytes that spell a word of so many generators: what they spell, and that each is such a letter
pub record SpellsWithin (g : ℕ) (bs : List ℕ) (w : Word) : Type 0 where
  pub each : list_all (is_letter_of g) bs ≡ true
  pub word : word_of bs ≡ Some w

pub within_parts : (g : ℕ) (bs : List ℕ) (w : Word) → word_within g bs ≡ Some w → SpellsWithin g bs w
within_parts g bs w e =
    elim (cases_Bool (list_all (is_letter_of g) bs)) [
      | inl each ↦ record { each = each; word = (let word : word_of bs ≡ Some w = rw each at e in word) }
      | inr other ↦ absurd (none-some w (let none : None ≡ Some w = rw other at e in none))
    ]

-- the letters of a word that is spelled are of these generators
pub letters_within : (g : ℕ) (bs : List ℕ) (w : Word) → SpellsWithin g bs w → AreWithin g w
letters_within g bs w h =
    subst (AreWithin g) (same_Some _ _ (sym (word_from_letters bs (letters_from_within g bs h.each)) ∙ h.word)) (within_from_letters g bs h.each)

-- ---- the fault of a word with its weight

-- a weight that is a number and a nonempty word have no fault of form, but what `weight_and_word_fault` finds
pub nonempty_word : (m : Limits) (room : ℕ) (z : ℤ) (w : Word) → w ≢ [] → weighted_word_fault m room (Some z) (Some w) ≡ weight_and_word_fault m room z w
nonempty_word m room z [] h = absurd (h refl)
nonempty_word m room z (x ∷ w) h = refl

-- a field that spells a word: there are bytes, and each spells a letter of so many generators
abbrev pub spells_word : ℕ → Field → Bool
spells_word g bs = not (eqb (length bs) 0) && list_all (is_letter_of g) bs

-- behind a weight, a field that spells no word has the fault Form
pub weighted_form : (m : Limits) (room : ℕ) (z : ℤ) (bs : Field) → spells_word m.generators bs ≡ false → weighted_word_fault m room (Some z) (word_within m.generators bs) ≡ Some Form
weighted_form m room z bs h =
    elim (and_cases (not (eqb (length bs) 0)) (list_all (is_letter_of m.generators) bs) h) [
      | inl empty ↦
          let none : bs ≡ [] = nil_from_length bs (eqb-true _ _ (not-false _ empty)) in
          subst (λ (f : Field). weighted_word_fault m room (Some z) (word_within m.generators f) ≡ Some Form) (sym none) refl
      | inr others ↦ rw others refl
    ]

-- the letters that bytes of a field spell, the other bytes left out
abbrev pub letters_of : Field → Word
letters_of bs = filter_map letter_of bs

-- a field that spells a word spells that of its letters, which isn't empty
pub word_of_letters : (g : ℕ) (bs : Field) → spells_word g bs ≡ true → SpellsWithin g bs (letters_of bs)
word_of_letters g bs h =
    let each = (and_parts (not (eqb (length bs) 0)) (list_all (is_letter_of g) bs) h).1 in
    record { each = each; word = word_from_letters bs (letters_from_within g bs each) }

pub word_within_letters : (g : ℕ) (bs : Field) → spells_word g bs ≡ true → word_within g bs ≡ Some (letters_of bs)
word_within_letters g bs h = let spells = word_of_letters g bs h in rw spells.each spells.word

pub letters_nonempty : (g : ℕ) (bs : Field) → spells_word g bs ≡ true → letters_of bs ≢ []
letters_nonempty g bs h none =
    let some : eqb (length bs) 0 ≡ false = not-true _ (and_parts (not (eqb (length bs) 0)) (list_all (is_letter_of g) bs) h).0 in
    let spells = spelled_back bs (letters_of bs) (word_of_letters g bs h).word in
    eqb-false _ _ some (ap length (sym spells.bytes ∙ ap spelled none))

-- the fault of a weight and a field that spells a word is that of the weight and the word
pub weighted_is : (m : Limits) (room : ℕ) (z : ℤ) (bs : Field) → spells_word m.generators bs ≡ true → weighted_word_fault m room (Some z) (word_within m.generators bs) ≡ weight_and_word_fault m room z (letters_of bs)
weighted_is m room z bs h = rw (word_within_letters m.generators bs h) (nonempty_word m room z (letters_of bs) (letters_nonempty m.generators bs h))

-- a field that spells a word has a byte for each letter
pub length-letters_of : (g : ℕ) (bs : Field) → spells_word g bs ≡ true → length (letters_of bs) ≡ length bs
length-letters_of g bs h =
    let spells = spelled_back bs (letters_of bs) (word_of_letters g bs h).word in
    sym (length-spelled (letters_of bs)) ∙ ap length spells.bytes

-- ---- the parts of the fault of a word with its weight

-- a weight out of its range has the fault Range, and so has a word of more letters than there is room for
pub weight_and_word_fault_weight : (m : Limits) (room : ℕ) (z : ℤ) (w : Word) → between 1 m.weight z ≡ false → weight_and_word_fault m room z w ≡ Some Range
weight_and_word_fault_weight m room z w h = rw h refl

pub weight_and_word_fault_room : (m : Limits) (room : ℕ) (z : ℤ) (w : Word) → room < length w → weight_and_word_fault m room z w ≡ Some Range
weight_and_word_fault_room m room z w h =
    let long : (between 1 m.weight z && leb (length w) room) ≡ false = and_right _ _ (lt-leb (length w) room h) in
    rw long refl

fitting : (m : Limits) (room n : ℕ) (w : Word) → 1 ≤ n → n ≤ m.weight → length w ≤ room → (between 1 m.weight (pos n) && leb (length w) room) ≡ true
fitting m room n w low high h = and_from _ _ (between-natural 1 m.weight n low high) (le-leb (length w) room h)

-- with both in range, a word that isn't reduced has the fault NotReduced, and one that is has none
pub word_fault_unreduced : (m : Limits) (room n : ℕ) (w : Word) → 1 ≤ n → n ≤ m.weight → length w ≤ room → (IsReduced w → ⊥) → weight_and_word_fault m room (pos n) w ≡ Some NotReduced
word_fault_unreduced m room n w low high h unreduced = rw (fitting m room n w low high h, unreduced_test w unreduced) refl

pub word_fault_none : (m : Limits) (room n : ℕ) (w : Word) → 1 ≤ n → n ≤ m.weight → length w ≤ room → IsReduced w → weight_and_word_fault m room (pos n) w ≡ None
word_fault_none m room n w low high h reduced = rw (fitting m room n w low high h, reduced_test w reduced) refl
