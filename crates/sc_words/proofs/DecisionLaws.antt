-- The decision over the fields of a line is its case, or its first kind.
use Rattle.std.specs.Prelude.{Result, Ok, Err}
use Rattle.std.proofs.Common.{◌≡◌, true, false, List, [], ◌∷◌, Option, Some, None, ℤ, pos, refl, sym, subst, inl, inr}
use Rattle.std.specs.List.{filter_map}
use Rattle.std.proofs.lemmas.Bool.{cases_Bool}
use Rattle.sc_theory.specs.Words.{Word}
use Rattle.sc_line.specs.declared.fault.Kind.{Kind}
use Rattle.sc_line.specs.declared.fault.Kind.TheVariants.{Letter, Extra, NotAscii}
use Rattle.sc_words.specs.Spelling.{letter_of, word_of}
use Rattle.sc_words.specs.ChainText.{Line, line_fields, is_comment, line_case, is_ascii, line_kind, Field, Entry, coefficient_of, begins_number, with_coefficient, fields_case, fields_kind, word_kind, number_kind}
use Rattle.sc_words.specs.inside.Decision.{last_word, behind_coefficient, decision}
use Rattle.sc_words.proofs.SpellingLaws.{are_letters, word_from_letters, word_from_others}
use Rattle.sc_words.proofs.CoefficientLaws.{number_no_word, other_no_coefficient}

-- where a word is due: a byte that is no letter, a field behind the word, or the word as the last field
pub last_word_letter : (z : ℤ) (bs : Field) (fs : List Field) → are_letters bs ≡ false → last_word z (word_of bs) fs ≡ Err Letter
last_word_letter z bs fs h = rw (word_from_others bs h) refl

pub last_word_extra : (z : ℤ) (bs f : Field) (fs gs : List Field) → are_letters bs ≡ true → gs ≡ f ∷ fs → last_word z (word_of bs) gs ≡ Err Extra
last_word_extra z bs f fs gs h e = rw (word_from_letters bs h, e) refl

pub last_word_ok : (z : ℤ) (bs : Field) (gs : List Field) → are_letters bs ≡ true → gs ≡ [] → last_word z (word_of bs) gs ≡ Ok (z, filter_map letter_of bs)
last_word_ok z bs gs h e = rw (word_from_letters bs h, e) refl

-- what the parts of a decision come to
abbrev Agrees : Option Entry → Kind → Result (ℤ × Word) Kind → Type 0
Agrees o k (Ok x) = o ≡ Some (Some x)
Agrees o k (Err j) = (o ≡ None) × (k ≡ j)

alone : (w : Option Word) → Agrees (with_coefficient (Some (pos 1)) w) (word_kind w) (last_word (pos 1) w [])
alone None = (refl, refl)
alone (Some w) = refl

followed : (z : ℤ) (w : Option Word) (f : Field) (fs : List Field) → Agrees None (word_kind w) (last_word z w (f ∷ fs))
followed z None f fs = (refl, refl)
followed z (Some w) f fs = (refl, refl)

after : (z : ℤ) (w : Option Word) → Agrees (with_coefficient (Some z) w) (word_kind w) (last_word z w [])
after z None = (refl, refl)
after z (Some w) = refl

numbered : (o : Option ℤ) (g : Field) → Agrees (with_coefficient o (word_of g)) (number_kind o (g ∷ [])) (behind_coefficient o (g ∷ []))
numbered None g = (refl, refl)
numbered (Some z) g = after z (word_of g)

numbered_more : (o : Option ℤ) (g h : Field) (fs : List Field) → Agrees None (number_kind o (g ∷ h ∷ fs)) (behind_coefficient o (g ∷ h ∷ fs))
numbered_more None g h fs = (refl, refl)
numbered_more (Some z) g h fs = followed z (word_of g) h fs

numbered_alone : (o : Option ℤ) → Agrees None (number_kind o []) (behind_coefficient o [])
numbered_alone None = (refl, refl)
numbered_alone (Some z) = (refl, refl)

number_agrees : (f : Field) (fs : List Field) → word_of f ≡ None → Agrees (fields_case (f ∷ fs)) (number_kind (coefficient_of f) fs) (behind_coefficient (coefficient_of f) fs)
number_agrees f [] h = rw h (numbered_alone (coefficient_of f))
number_agrees f (g ∷ []) h = numbered (coefficient_of f) g
number_agrees f (g ∷ k ∷ fs) h = numbered_more (coefficient_of f) g k fs

word_agrees : (f : Field) (fs : List Field) → coefficient_of f ≡ None → Agrees (fields_case (f ∷ fs)) (word_kind (word_of f)) (last_word (pos 1) (word_of f) fs)
word_agrees f [] h = alone (word_of f)
word_agrees f (g ∷ []) h = rw h (followed (pos 1) (word_of f) g [])
word_agrees f (g ∷ k ∷ fs) h = followed (pos 1) (word_of f) g (k ∷ fs)

-- the decision gives what the case of the fields gives, or their first kind where they have none
pub decision_agrees : (f : Field) (fs : List Field) → Agrees (fields_case (f ∷ fs)) (fields_kind (f ∷ fs)) (decision f fs)
decision_agrees f fs = elim (cases_Bool (begins_number f)) [
  | inl number ↦ rw number (number_agrees f fs (number_no_word f number))
  | inr other ↦ rw other (word_agrees f fs (other_no_coefficient f other))
]

-- ---- a line whose first field begins no comment

-- the line has no case, and its fields have this kind first
pub record HasNoCase (line : Line) (kind : Kind) : Type 0 where
  pub no_case : line_case line ≡ None
  pub kind_is : fields_kind (line_fields line) ≡ kind

case_err : (line : Line) (f : Field) (fs : List Field) (k : Kind) → line_fields line ≡ f ∷ fs → is_comment (f ∷ fs) ≡ false → decision f fs ≡ Err k → HasNoCase line k
case_err line f fs k e c d =
    let both : Agrees (fields_case (f ∷ fs)) (fields_kind (f ∷ fs)) (Err k) = subst (Agrees (fields_case (f ∷ fs)) (fields_kind (f ∷ fs))) d (decision_agrees f fs) in
    record { no_case = rw (e, c) both.0; kind_is = rw e both.1 }

-- a line that the decision refuses has no case; its kind is the one decided, or NotAscii for a byte over 127
pub case_of_ascii : (line : Line) (f : Field) (fs : List Field) (k : Kind) → line_fields line ≡ f ∷ fs → is_comment (f ∷ fs) ≡ false → decision f fs ≡ Err k →
    is_ascii line ≡ true → (line_case line ≡ None) × (k ≡ line_kind line)
case_of_ascii line f fs k e c d a = let p : HasNoCase line k = case_err line f fs k e c d in (p.no_case, rw a (sym p.kind_is))

pub case_of_other : (line : Line) (f : Field) (fs : List Field) (k : Kind) → line_fields line ≡ f ∷ fs → is_comment (f ∷ fs) ≡ false → decision f fs ≡ Err k →
    is_ascii line ≡ false → (line_case line ≡ None) × (NotAscii ≡ line_kind line)
case_of_other line f fs k e c d a = let p : HasNoCase line k = case_err line f fs k e c d in (p.no_case, rw a refl)
