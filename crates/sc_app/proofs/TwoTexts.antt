-- A text of two chains has one list of lines for each of them, one first wrong line where it has any, and one of the
-- two.
use Rattle.std.proofs.Common.{◌≡◌, ℕ, zero, suc, pred, ◌<◌, ◌≤◌, ◌⊎◌, false, List, [], length, take, drop, Option, None, Some, IsSome, inl, inr, refl, ap, ap₂, ◌∙◌, subst, sym, arith}
use Rattle.std.specs.List.{position_or_len}
use Rattle.std.proofs.lemmas.Bool.{cases_lt, cases_eq, true≢false}
use Rattle.std.proofs.lemmas.List.Sums.{fails_before_first, passes_at_first}
use Rattle.sc_theory.proofs.Reduction.{cases_option}
use Rattle.sc_line.specs.declared.fault.Kind.{Kind}
use Rattle.sc_line.specs.declared.fault.Kind.TheVariants.{Separator}
use Rattle.sc_words.specs.declared.lines.RawLine.{RawLine}
use Rattle.sc_words.specs.ChainText.{text_lines, line_at, line_case, raw_lines}
use Rattle.sc_two.specs.TwoTexts.{is_separator, Separates, IsTwoText, IsGoodLine, wrong_kind, IsFirstWrong}
use Rattle.sc_two.proofs.Places.{wrong_same}
use Rattle.sc_app.specs.declared.status.Status.TheVariants.{Malformed}
use Rattle.sc_app.proofs.FirstPlaces.{none_at_all}

some_or_none : {A : Type 0} (o : Option A) → IsSome o → o ≡ None → ⊥
some_or_none None some none = true≢false (sym some)
some_or_none (Some x) some none = absurd (cc)

-- a text has one first wrong line, of one kind
pub one_wrong : (input : List ℕ) (l m : ℕ) (j k : Kind) → IsFirstWrong input l j → IsFirstWrong input m k → Malformed l j ≡ Malformed m k
one_wrong input l m j k a b = let same = wrong_same input l m j k a b in ap₂ Malformed same.0 same.1

-- ---- one list of lines for each chain

one_separator : (input : List ℕ) (m n : ℕ) → Separates input m → Separates input n → m ≡ n
one_separator input m n a b = elim (cases_lt m n) [
  | inl less ↦ absurd (true≢false (sym a.slash ∙ b.first m a.counted less))
  | inr others ↦ elim (cases_lt n m) [
    | inl less ↦ absurd (true≢false (sym b.slash ∙ a.first n b.counted less))
    | inr same ↦ omega (arith, others, same)
  ]
]

-- a text of two chains is one of one list of lines for each
pub same_two : (input : List ℕ) (first second first' second' : List RawLine) → IsTwoText input first second → IsTwoText input first' second' → (first ≡ first') × (second ≡ second')
same_two input first second first' second' a b =
    let same : a.separator ≡ b.separator = one_separator input a.separator b.separator a.separates b.separates in (
      a.first_is ∙ ap (λ (n : ℕ). raw_lines 1 (take (pred n) (text_lines input))) same ∙ sym b.first_is,
      a.second_is ∙ ap (λ (n : ℕ). raw_lines (suc n) (drop n (text_lines input))) same ∙ sym b.second_is,
    )

-- ---- a text without a first wrong line is one of two chains

no_slash : (input : List ℕ) (n : ℕ) → 1 ≤ n → n ≤ position_or_len is_separator (text_lines input) → is_separator (line_at input n) ≡ false
no_slash input zero low high = absurd (omega (arith, low))
no_slash input (suc k) low high = fails_before_first is_separator (text_lines input) k [] (omega (arith, high))

-- the first slash separates
found : (input : List ℕ) → position_or_len is_separator (text_lines input) < length (text_lines input) → Separates input (suc (position_or_len is_separator (text_lines input)))
found input inside = record {
  counted = omega arith;
  in_text = omega (arith, inside);
  slash = passes_at_first is_separator (text_lines input) [] inside;
  first = λ m low less. no_slash input m low (omega (arith, less));
}

-- a line is good or not
good_or_not : (input : List ℕ) (n : ℕ) → 1 ≤ n → n ≤ length (text_lines input) → IsGoodLine input n ⊎ ¬ IsGoodLine input n
good_or_not input n low high =
    let place : ℕ = position_or_len is_separator (text_lines input) in
    elim (cases_option (line_case (line_at input n))) [
      | inr some ↦ inl (inl (subst IsSome (sym some.1) refl))
      | inl none ↦ elim (cases_eq n (suc place)) [
        | inl at ↦ inl (inr (subst (Separates input) (sym at) (found input (omega (arith, at, high)))))
        | inr off ↦ inr (λ good. elim good [
          | inl case ↦ some_or_none (line_case (line_at input n)) case none
          | inr s ↦ elim (cases_lt place (length (text_lines input))) [
            | inl inside ↦ off (one_separator input n (suc place) s (found input inside))
            | inr beyond ↦ true≢false (sym s.slash ∙ no_slash input n low (omega (arith, beyond, high)))
          ]
        ])
      ]
    ]

module _ (input : List ℕ) (never : (n : ℕ) (kind : Kind) → ¬ IsFirstWrong input n kind) where
  abbrev IsBad : ℕ → Type 0
  IsBad n = (1 ≤ n) × (n ≤ length (text_lines input)) × ¬ IsGoodLine input n

  good_if_not_bad : (n : ℕ) → 1 ≤ n → n ≤ length (text_lines input) → ¬ IsBad n → IsGoodLine input n
  good_if_not_bad n low high h = elim (good_or_not input n low high) [ inl good ↦ good | inr bad ↦ absurd (h (low, high, bad)) ]

  first_bad : (n : ℕ) → IsBad n → ((m : ℕ) → m < n → ¬ IsBad m) → ⊥
  first_bad n bad before = never n (wrong_kind (line_at input n)) (record {
    counted = bad.0;
    before = λ m low less. good_if_not_bad m low (omega (arith, less, bad.1)) (before m less);
    wrong = inl (record {
      in_text = bad.1;
      no_case = elim (cases_option (line_case (line_at input n))) [ inl none ↦ none | inr some ↦ absurd (bad.2 (inl (subst IsSome (sym some.1) refl))) ];
      no_separator = λ s. bad.2 (inr s);
      kind_is = refl;
    });
  })

  all_good : (n : ℕ) → 1 ≤ n → n ≤ length (text_lines input) → IsGoodLine input n
  all_good n low high = good_if_not_bad n low high (none_at_all IsBad first_bad n)

  inside : position_or_len is_separator (text_lines input) < length (text_lines input)
  inside = elim (cases_lt (position_or_len is_separator (text_lines input)) (length (text_lines input))) [
    | inl lt ↦ lt
    | inr beyond ↦ absurd (never (suc (length (text_lines input))) Separator (record {
      counted = omega arith;
      before = λ n low less. all_good n low (omega (arith, less));
      wrong = inr (record { behind = refl; none = λ n low high. no_slash input n low (omega (arith, beyond, high)); kind_is = refl });
    }))
  ]

  -- a text without a first wrong line is a text of two chains
  pub two_texts : (first : List RawLine) × (second : List RawLine) × IsTwoText input first second
  two_texts =
      let place : ℕ = position_or_len is_separator (text_lines input) in (
        raw_lines 1 (take place (text_lines input)),
        raw_lines (suc (suc place)) (drop (suc place) (text_lines input)),
        record {
          separator = suc place;
          separates = found input inside;
          cases = λ n low high other. elim (all_good n low high) [ inl case ↦ case | inr s ↦ absurd (other (one_separator input n (suc place) s (found input inside))) ];
          first_is = refl;
          second_is = refl;
        },
      )
