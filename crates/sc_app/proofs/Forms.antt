-- Words are the form of at most one command, and which words are a form of `scl`, `ball` and `gen`.
use Rattle.std.proofs.Common.{◌≡◌, ◌↔◌, inl, inr, ℕ, ◌≤◌, Bool, true, false, List, [], ◌∷◌, Option, None, Some, ℤ, pos, ◌&&◌, if◌then◌else◌, codes, refl, ap, ap₂, sym, ◌∙◌, subst, arith}
use Rattle.std.specs.Option.{option_map}
use Rattle.std.specs.Str.{bytes_eq}
use Rattle.std.proofs.lemmas.Slice.Eq.{bytes_eq-Decides}
use Rattle.std.proofs.lemmas.Bool.{cases_Bool, cond-true, cond-false, and_parts}
use Rattle.sc_theory.proofs.Reduction.{cases_option}
use Rattle.sc_whole.specs.Spelling.{spelling}
use Rattle.sc_line.specs.Lines.{number_of, natural}
use Rattle.sc_line.specs.Faults.{between}
use Rattle.sc_line.proofs.LineLaws.{number_of-spelling, number_of_is}
use Rattle.sc_line.proofs.NumberLaws.{between-natural, natural_from}
use Rattle.sc_text.specs.declared.limits.TheConstants.{MAX_PIVOTS}
use Rattle.sc_random.specs.declared.limits.TheConstants.{MAX_LETTERS}
use Rattle.sc_app.specs.declared.command.Command.{Command}
use Rattle.sc_app.specs.declared.command.Command.TheVariants.{Surface, Shape, Check, Svg, Scl, Ball, Generate}
use Rattle.sc_app.specs.declared.limits.TheConstants.{DEFAULT_PIVOTS, MAX_SEED}
use Rattle.sc_app.specs.Forms.{IsForm, HasNoForm, natural_in, pivots_of, seed_of, letters_of, generate, AreWordsOfScl, AreWordsOfBall, AreWordsOfGenerate}

same_some : {A : Type 0} (o : Option A) (x y : A) → o ≡ Some x → o ≡ Some y → x ≡ y
same_some o x y a b = cc

some_or_none : {A : Type 0} (o : Option A) (x : A) → o ≡ Some x → o ≡ None → ⊥
some_or_none o x a b = cc

-- words are a form of one command at most
pub one_command : (words : List (List ℕ)) (c d : Command) → IsForm c words → IsForm d words → c ≡ d
one_command words c d a b = same_some _ c d a b

-- words that have no form are the form of no command
pub no_command : (words : List (List ℕ)) (c : Command) → IsForm c words → HasNoForm words → ⊥
no_command words c a none = some_or_none _ c a none

-- ---- numbers in ranges

module _ (low high : ℕ) where
  -- a number in the range is told
  number_told : (n : ℕ) → low ≤ n → n ≤ high → natural_in low high (Some (pos n)) ≡ Some n
  number_told n above below = cond-true (between low high (pos n)) (Some n) None (between-natural low high n above below)

  out_of_range : (z : ℤ) → between low high z ≡ false → natural_in low high (Some z) ≡ None
  out_of_range z outside = cond-false (between low high z) (Some (natural (Some z))) None outside

  -- the word of a number that is told is its spelling
  number_spelled : (word : List ℕ) (n : ℕ) → natural_in low high (number_of word) ≡ Some n → (word ≡ spelling (pos n)) × (low ≤ n) × (n ≤ high)
  number_spelled word n e =
      elim (cases_option (number_of word)) [
        | inl none ↦ let other : None ≡ Some n = sym (ap (natural_in low high) none) ∙ e in absurd (cc)
        | inr some ↦ of_number some.0 some.1
      ]
    where
      of_number : (z : ℤ) → number_of word ≡ Some z → (word ≡ spelling (pos n)) × (low ≤ n) × (n ≤ high)
      of_number z is = elim (cases_Bool (between low high z)) [
        | inl inside ↦
            let k = natural_from low high z inside in
            let named : natural_in low high (number_of word) ≡ Some k.natural = ap (natural_in low high) (is ∙ ap Some k.is) ∙ number_told k.natural k.low_end k.high_end in
            let same : k.natural ≡ n = same_some (natural_in low high (number_of word)) k.natural n named e in (
              number_of_is word z is ∙ ap spelling (k.is ∙ ap pos same),
              subst (λ (m : ℕ). low ≤ m) same k.low_end,
              subst (λ (m : ℕ). m ≤ high) same k.high_end,
            )
        | inr outside ↦ let other : None ≡ Some n = sym (ap (natural_in low high) is ∙ out_of_range z outside) ∙ e in absurd (cc)
      ]

  -- and the spelling of a number in the range tells it
  spelling_told : (n : ℕ) → low ≤ n → n ≤ high → natural_in low high (number_of (spelling (pos n))) ≡ Some n
  spelling_told n above below = ap (natural_in low high) (number_of-spelling (pos n)) ∙ number_told n above below

-- ---- the word of a command alone

-- the command of the first test that passes
abbrev by_word : Bool → Bool → Bool → Bool → Bool → Bool → Option Command
by_word a b c d e f =
    if a then Some Surface
    else if b then Some Shape
    else if c then Some Check
    else if d then Some Svg
    else if e then Some (Scl DEFAULT_PIVOTS)
    else if f then Some (Ball DEFAULT_PIVOTS)
    else None

scl_by_word : (a b c d e f : Bool) (n : ℕ) → by_word a b c d e f ≡ Some (Scl n) → (e ≡ true) × (n ≡ DEFAULT_PIVOTS)
scl_by_word true b c d e f n is = absurd (cc)
scl_by_word false true c d e f n is = absurd (cc)
scl_by_word false false true d e f n is = absurd (cc)
scl_by_word false false false true e f n is = absurd (cc)
scl_by_word false false false false true f n is = (refl, cc)
scl_by_word false false false false false true n is = absurd (cc)
scl_by_word false false false false false false n is = absurd (cc)

ball_by_word : (a b c d e f : Bool) (n : ℕ) → by_word a b c d e f ≡ Some (Ball n) → (f ≡ true) × (n ≡ DEFAULT_PIVOTS)
ball_by_word true b c d e f n is = absurd (cc)
ball_by_word false true c d e f n is = absurd (cc)
ball_by_word false false true d e f n is = absurd (cc)
ball_by_word false false false true e f n is = absurd (cc)
ball_by_word false false false false true f n is = absurd (cc)
ball_by_word false false false false false true n is = (refl, cc)
ball_by_word false false false false false false n is = absurd (cc)

not_generate_by_word : (a b c d e f : Bool) (seed letters : ℕ) → by_word a b c d e f ≡ Some (Generate seed letters) → ⊥
not_generate_by_word true b c d e f seed letters is = cc
not_generate_by_word false true c d e f seed letters is = cc
not_generate_by_word false false true d e f seed letters is = cc
not_generate_by_word false false false true e f seed letters is = cc
not_generate_by_word false false false false true f seed letters is = cc
not_generate_by_word false false false false false true seed letters is = cc
not_generate_by_word false false false false false false seed letters is = cc

-- ---- a word and two others

abbrev by_three : Bool → Bool → Bool → Option ℕ → Option ℕ → Option ℕ → Option Command
by_three a b c o p q = if a then option_map Scl o else if b then option_map Ball o else if c then generate p q else None

scl_by_three : (a b c : Bool) (o p q : Option ℕ) (n : ℕ) → by_three a b c o p q ≡ Some (Scl n) → (a ≡ true) × (o ≡ Some n)
scl_by_three true b c None p q n e = absurd (cc)
scl_by_three true b c (Some m) p q n e = (refl, cc)
scl_by_three false true c None p q n e = absurd (cc)
scl_by_three false true c (Some m) p q n e = absurd (cc)
scl_by_three false false true o None q n e = absurd (cc)
scl_by_three false false true o (Some x) None n e = absurd (cc)
scl_by_three false false true o (Some x) (Some y) n e = absurd (cc)
scl_by_three false false false o p q n e = absurd (cc)

ball_by_three : (a b c : Bool) (o p q : Option ℕ) (n : ℕ) → by_three a b c o p q ≡ Some (Ball n) → (b ≡ true) × (o ≡ Some n)
ball_by_three true b c None p q n e = absurd (cc)
ball_by_three true b c (Some m) p q n e = absurd (cc)
ball_by_three false true c None p q n e = absurd (cc)
ball_by_three false true c (Some m) p q n e = (refl, cc)
ball_by_three false false true o None q n e = absurd (cc)
ball_by_three false false true o (Some x) None n e = absurd (cc)
ball_by_three false false true o (Some x) (Some y) n e = absurd (cc)
ball_by_three false false false o p q n e = absurd (cc)

generate_by_three : (a b c : Bool) (o p q : Option ℕ) (seed letters : ℕ) → by_three a b c o p q ≡ Some (Generate seed letters)
    → (c ≡ true) × (p ≡ Some seed) × (q ≡ Some letters)
generate_by_three true b c None p q seed letters e = absurd (cc)
generate_by_three true b c (Some m) p q seed letters e = absurd (cc)
generate_by_three false true c None p q seed letters e = absurd (cc)
generate_by_three false true c (Some m) p q seed letters e = absurd (cc)
generate_by_three false false true o None q seed letters e = absurd (cc)
generate_by_three false false true o (Some x) None seed letters e = absurd (cc)
generate_by_three false false true o (Some x) (Some y) seed letters e = (refl, cc, cc)
generate_by_three false false false o p q seed letters e = absurd (cc)

-- what the forms of one word with an option say, whose name is `name`
module _ (name word option number : List ℕ) (n : ℕ) (both : (bytes_eq word name && bytes_eq option (codes "--pivots")) ≡ true) (told : pivots_of number ≡ Some n) where
  with_option : (word ∷ option ∷ number ∷ [] ≡ name ∷ codes "--pivots" ∷ spelling (pos n) ∷ []) × (1 ≤ n) × (n ≤ MAX_PIVOTS)
  with_option =
      let tests = and_parts (bytes_eq word name) (bytes_eq option (codes "--pivots")) both in
      let spelled = number_spelled 1 MAX_PIVOTS number n told in (
        (λ i. (bytes_eq-Decides word name).0 tests.0 i ∷ (bytes_eq-Decides option (codes "--pivots")).0 tests.1 i ∷ spelled.0 i ∷ []),
        spelled.1,
        spelled.2,
      )

-- ---- the forms of `scl`

scl_words : (n : ℕ) (words : List (List ℕ)) → IsForm (Scl n) words → AreWordsOfScl n words
scl_words n [] e = absurd (cc)
scl_words n (word ∷ []) e =
    let t = scl_by_word (bytes_eq word (codes "surface")) (bytes_eq word (codes "shape")) (bytes_eq word (codes "check")) (bytes_eq word (codes "svg")) (bytes_eq word (codes "scl")) (bytes_eq word (codes "ball")) n e in
    inl (ap (λ (w : List ℕ). w ∷ []) ((bytes_eq-Decides word (codes "scl")).0 t.0), t.1)
scl_words n (word ∷ option ∷ []) e = absurd (cc)
scl_words n (word ∷ option ∷ number ∷ []) e =
    let t = scl_by_three (bytes_eq word (codes "scl") && bytes_eq option (codes "--pivots")) (bytes_eq word (codes "ball") && bytes_eq option (codes "--pivots")) (bytes_eq word (codes "gen")) (pivots_of number) (seed_of option) (letters_of number) n e in
    inr (with_option (codes "scl") word option number n t.0 t.1)
scl_words n (word ∷ option ∷ number ∷ other ∷ others) e = absurd (cc)

words_of_scl : (n : ℕ) (words : List (List ℕ)) → AreWordsOfScl n words → IsForm (Scl n) words
words_of_scl n words (inl a) = subst (IsForm (Scl n)) (sym a.0) (ap (λ (k : ℕ). Some (Scl k)) (sym a.1))
words_of_scl n words (inr a) =
    subst (IsForm (Scl n)) (sym a.0)
    (ap (option_map Scl) (spelling_told 1 MAX_PIVOTS n a.1 a.2))

-- words ask for `scl` within n pivots exactly where they are `scl`, or it with the option and n
pub scl_forms : (n : ℕ) (words : List (List ℕ)) → IsForm (Scl n) words ↔ AreWordsOfScl n words
scl_forms n words = (scl_words n words, words_of_scl n words)

-- ---- the forms of `ball`

ball_words : (n : ℕ) (words : List (List ℕ)) → IsForm (Ball n) words → AreWordsOfBall n words
ball_words n [] e = absurd (cc)
ball_words n (word ∷ []) e =
    let t = ball_by_word (bytes_eq word (codes "surface")) (bytes_eq word (codes "shape")) (bytes_eq word (codes "check")) (bytes_eq word (codes "svg")) (bytes_eq word (codes "scl")) (bytes_eq word (codes "ball")) n e in
    inl (ap (λ (w : List ℕ). w ∷ []) ((bytes_eq-Decides word (codes "ball")).0 t.0), t.1)
ball_words n (word ∷ option ∷ []) e = absurd (cc)
ball_words n (word ∷ option ∷ number ∷ []) e =
    let t = ball_by_three (bytes_eq word (codes "scl") && bytes_eq option (codes "--pivots")) (bytes_eq word (codes "ball") && bytes_eq option (codes "--pivots")) (bytes_eq word (codes "gen")) (pivots_of number) (seed_of option) (letters_of number) n e in
    inr (with_option (codes "ball") word option number n t.0 t.1)
ball_words n (word ∷ option ∷ number ∷ other ∷ others) e = absurd (cc)

words_of_ball : (n : ℕ) (words : List (List ℕ)) → AreWordsOfBall n words → IsForm (Ball n) words
words_of_ball n words (inl a) = subst (IsForm (Ball n)) (sym a.0) (ap (λ (k : ℕ). Some (Ball k)) (sym a.1))
words_of_ball n words (inr a) =
    subst (IsForm (Ball n)) (sym a.0)
    (ap (option_map Ball) (spelling_told 1 MAX_PIVOTS n a.1 a.2))

-- words ask for `ball` within n pivots exactly where they are `ball`, or it with the option and n
pub ball_forms : (n : ℕ) (words : List (List ℕ)) → IsForm (Ball n) words ↔ AreWordsOfBall n words
ball_forms n words = (ball_words n words, words_of_ball n words)

-- ---- the form of `gen`

generate_words : (seed letters : ℕ) (words : List (List ℕ)) → IsForm (Generate seed letters) words → AreWordsOfGenerate seed letters words
generate_words seed letters [] e = absurd (cc)
generate_words seed letters (word ∷ []) e =
    absurd (not_generate_by_word (bytes_eq word (codes "surface")) (bytes_eq word (codes "shape")) (bytes_eq word (codes "check")) (bytes_eq word (codes "svg")) (bytes_eq word (codes "scl")) (bytes_eq word (codes "ball")) seed letters e)
generate_words seed letters (word ∷ option ∷ []) e = absurd (cc)
generate_words seed letters (word ∷ option ∷ number ∷ []) e =
    let t = generate_by_three (bytes_eq word (codes "scl") && bytes_eq option (codes "--pivots")) (bytes_eq word (codes "ball") && bytes_eq option (codes "--pivots")) (bytes_eq word (codes "gen")) (pivots_of number) (seed_of option) (letters_of number) seed letters e in
    let first = number_spelled 0 MAX_SEED option seed t.1 in
    let second = number_spelled 1 MAX_LETTERS number letters t.2 in (
      (λ i. (bytes_eq-Decides word (codes "gen")).0 t.0 i ∷ first.0 i ∷ second.0 i ∷ []),
      first.2,
      second.1,
      second.2,
    )
generate_words seed letters (word ∷ option ∷ number ∷ other ∷ others) e = absurd (cc)

words_of_generate : (seed letters : ℕ) (words : List (List ℕ)) → AreWordsOfGenerate seed letters words → IsForm (Generate seed letters) words
words_of_generate seed letters words a =
    subst (IsForm (Generate seed letters)) (sym a.0)
    (ap₂ generate (spelling_told 0 MAX_SEED seed (omega arith) a.1) (spelling_told 1 MAX_LETTERS letters a.2 a.3))

-- words ask for `gen` by a seed with so many letters exactly where they are `gen` and these two numbers
pub generate_form : (seed letters : ℕ) (words : List (List ℕ)) → IsForm (Generate seed letters) words ↔ AreWordsOfGenerate seed letters words
generate_form seed letters words = (generate_words seed letters words, words_of_generate seed letters words)
