-- The only field is a slash exactly where the slash is the only byte that isn't blank.
use Rattle.std.proofs.Common.{◌≡◌, ◌≢◌, ℕ, suc, ◌<◌, ◌⊎◌, Bool, true, false, not, List, [], ◌∷◌, ◌++◌, length, take, drop, get_or, Option, Some, None, refl, sym, ◌∙◌, ap, subst, arith, inl, inr}
use Rattle.std.specs.Prelude.{filter, ◌==◌, if◌then◌else◌}
use Rattle.std.specs.List.{slice_split, onto_first}
use Rattle.std.proofs.lemmas.Bool.{cases_Bool, ne_eqb, eqb-true, true≢false}
use Rattle.std.proofs.Math.Seq.{drop-cons}
use Rattle.std.proofs.lemmas.List.{take-append-drop}
use Rattle.std.proofs.lemmas.List.Elements.{filter-append}
use Rattle.std.proofs.lemmas.List.Splits.{slice_split-cons_yes, slice_split-cons_no}
use Rattle.sc_words.specs.ChainText.{Line, Field, Entry, is_blank, fields, line_fields, is_comment, fields_case, line_case}
use Rattle.sc_two.specs.TwoTexts.{is_slash, is_separator}

abbrev is_some_field : Field → Bool
is_some_field f = not (length f == 0)

-- the bytes that aren't blank
abbrev pub bare : List ℕ → List ℕ
bare bs = filter (λ b. not (is_blank b)) bs

-- whether there is one byte, a slash
abbrev pub is_lone_slash : List ℕ → Bool
is_lone_slash [] = false
is_lone_slash (b ∷ []) = b == 47
is_lone_slash (b ∷ c ∷ bs) = false

bytes_of : List Field → List ℕ
bytes_of [] = []
bytes_of (f ∷ fs) = f ++ bytes_of fs

some_kept : (b : ℕ) (f : Field) (parts : List Field) → filter is_some_field ((b ∷ f) ∷ parts) ≡ (b ∷ f) ∷ filter is_some_field parts
some_kept b f parts = rw (ne_eqb (length (b ∷ f)) 0 (λ e. omega arith)) refl

-- a field of one byte, and others
one_byte : (b : ℕ) (parts : List Field) → is_slash ((b ∷ []) ∷ filter is_some_field parts) ≡ is_lone_slash (b ∷ bytes_of parts)
unfolding bytes_of
one_byte b [] = refl
one_byte b ([] ∷ parts) = one_byte b parts
one_byte b ((c ∷ f) ∷ parts) = rw (some_kept c f parts) refl

more_bytes : (b c : ℕ) (f : Field) (fs : List Field) → is_slash ((b ∷ c ∷ f) ∷ fs) ≡ false
more_bytes b c f [] = rw (ne_eqb (length (b ∷ c ∷ f)) 1 (λ e. omega arith)) refl
more_bytes b c f (g ∷ fs) = refl

in_parts : (parts : List Field) → is_slash (filter is_some_field parts) ≡ is_lone_slash (bytes_of parts)
unfolding bytes_of
in_parts [] = refl
in_parts ([] ∷ parts) = in_parts parts
in_parts ((b ∷ []) ∷ parts) = one_byte b parts
in_parts ((b ∷ c ∷ f) ∷ parts) = rw (some_kept b (c ∷ f) parts) (more_bytes b c f (filter is_some_field parts))

-- the only byte that isn't blank, byte by byte
pub lone_at_end : (found : Bool) (bs : List ℕ) → bs ≡ (if found then 47 ∷ [] else []) → is_lone_slash bs ≡ found
lone_at_end true bs e = ap is_lone_slash e
lone_at_end false bs e = ap is_lone_slash e

not_alone : (b : ℕ) (bs : List ℕ) → b ≢ 47 → is_lone_slash (b ∷ bs) ≡ false
not_alone b [] h = ne_eqb b 47 h
not_alone b (c ∷ bs) h = refl

after_bare : (found : Bool) (front : List ℕ) (b : ℕ) (bs : List ℕ) → front ≡ (if found then 47 ∷ [] else []) → (found ≡ true) ⊎ (b ≢ 47) → is_lone_slash (front ++ b ∷ bs) ≡ false
after_bare true front b bs e h = ap (λ (xs : List ℕ). is_lone_slash (xs ++ b ∷ bs)) e
after_bare false front b bs e h = ap (λ (xs : List ℕ). is_lone_slash (xs ++ b ∷ bs)) e ∙ elim h [
  | inl t ↦ absurd (true≢false (sym t))
  | inr ne ↦ not_alone b bs ne
]

-- a byte that is neither blank nor the only slash
pub other_byte : (line : List ℕ) (k : ℕ) (found : Bool) → k < length line → bare (take k line) ≡ (if found then 47 ∷ [] else []) → is_blank (get_or line k 0) ≡ false →
    (found ≡ true) ⊎ (get_or line k 0 ≢ 47) → is_lone_slash (bare line) ≡ false
other_byte line k found inside before other h =
    let b : ℕ = get_or line k 0 in
    let rest : List ℕ = drop (suc k) line in
    let kept : bare (b ∷ rest) ≡ b ∷ bare rest = rw other refl in
    let all : bare line ≡ bare (take k line) ++ b ∷ bare rest =
    ap bare (sym (take-append-drop k line) ∙ ap (λ (xs : List ℕ). take k line ++ xs) (drop-cons line k 0 inside))
    ∙ filter-append (λ (c : ℕ). not (is_blank c)) (take k line) (b ∷ rest) ∙ ap (λ (xs : List ℕ). bare (take k line) ++ xs) kept in
    ap is_lone_slash all ∙ after_bare found (bare (take k line)) b (bare rest) before h

onto : (b : ℕ) (parts : List Field) → bytes_of (onto_first b parts) ≡ b ∷ bytes_of parts
unfolding bytes_of
onto b [] = refl
onto b (f ∷ parts) = refl

of_split : (bs : List ℕ) → bytes_of (slice_split is_blank bs) ≡ bare bs
unfolding bytes_of
of_split [] = refl
of_split (b ∷ bs) = elim (cases_Bool (is_blank b)) [
  | inl blank ↦ rw (slice_split-cons_yes is_blank b bs blank, blank) (of_split bs)
  | inr other ↦ rw (slice_split-cons_no is_blank b bs other, other) (onto b (slice_split is_blank bs) ∙ ap (λ (rest : List ℕ). b ∷ rest) (of_split bs))
]

-- the only field is a slash exactly where the slash is the only byte that isn't blank
pub slash_is_lone : (bs : List ℕ) → is_slash (fields bs) ≡ is_lone_slash (bare bs)
slash_is_lone bs = in_parts (slice_split is_blank bs) ∙ ap is_lone_slash (of_split bs)

-- ---- a line with nothing but a slash has no case

slash_is : (fs : List Field) → is_slash fs ≡ true → fs ≡ (47 ∷ []) ∷ []
slash_is [] e = absurd (true≢false (sym e))
slash_is ([] ∷ []) e = absurd (true≢false (sym e))
slash_is ((b ∷ []) ∷ []) e = ap (λ (c : ℕ). (c ∷ []) ∷ []) (eqb-true b 47 e)
slash_is ((b ∷ c ∷ f) ∷ []) e = absurd (true≢false (sym e ∙ more_bytes b c f []))
slash_is (f ∷ g ∷ fs) e = absurd (true≢false (sym e))

-- a line that separates is no line of a chain text
pub slash_has_no_case : (line : Line) → is_separator line ≡ true → line_case line ≡ None
slash_has_no_case line e =
    let nothing : Option Entry = None in
    let Case : List Field → Type 0 = λ fs. (if is_comment fs then Some None else fields_case fs) ≡ nothing in
    subst Case (sym (slash_is (line_fields line) e)) refl
