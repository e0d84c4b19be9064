-- A text read line by line up to the line that separates.
use Rattle.std.proofs.Common.{◌≡◌, ℕ, ◌+◌, ◌-◌, ◌<◌, ◌≤◌, ◌⊎◌, true, false, List, [], ◌∷◌, ◌++◌, length, take, get_or, refl, sym, ◌∙◌, ap, ap₂, subst, arith, inl, inr, append_assoc}
use Rattle.std.proofs.Math.Seq.{get_or-append_seam, take-append_seam}
use Rattle.std.proofs.lemmas.Bool.{cases_lt}
use Rattle.std.proofs.lemmas.List.{append-nil, length-append, get_or_append_left}
use Rattle.sc_words.specs.ChainText.{Line, text_lines}
use Rattle.sc_words.proofs.ReadingLaws.{lines_le}
use Rattle.sc_two.specs.TwoTexts.{is_separator}
use Rattle.sc_words.specs.Cuts.{IsWhole, IsCut}
use Rattle.sc_two.specs.inside.Parts.{HasNone, IsPart, IsFollowed}

-- ---- the first line of a text

-- the lines of a text that is cut
cut_lines : (text rest : List ℕ) (line : Line) → IsCut text line rest → text_lines text ≡ line ∷ text_lines rest
cut_lines text rest line c = elim c.ended [
  | inl whole ↦ ap text_lines c.text_is ∙ whole rest ∙ ap (λ (ls : List Line). ls ++ text_lines rest) c.line_is
  | inr none ↦
      ap text_lines (c.text_is ∙ ap (λ (more : List ℕ). c.front ++ more) none ∙ append-nil c.front)
      ∙ c.line_is ∙ ap (λ (more : List ℕ). line ∷ text_lines more) (sym none)
]

-- what is left is shorter
pub cut_shorter : (text rest : List ℕ) (line : Line) → IsCut text line rest → length rest < length text
cut_shorter text rest line c =
    let some : 1 ≤ length c.front = omega (arith, lines_le c.front, ap length c.line_is) in
    omega (arith, some, ap length c.text_is ∙ length-append c.front rest)

-- ---- a text searched up to some line, none of whose lines so far separates

pub record IsSearched (text rest : List ℕ) (count : ℕ) : Type 0 where
  pub before : List ℕ
  pub text_is : text ≡ before ++ rest
  pub lines : text_lines text ≡ text_lines before ++ text_lines rest
  pub count_is : count ≡ length (text_lines before)
  pub none : HasNone (text_lines before)
  pub ended : IsWhole before ⊎ (rest ≡ [])

-- at first nothing was searched
pub search_begins : (text : List ℕ) → IsSearched text text 0
search_begins text =
    record {
      before = [];
      text_is = refl;
      lines = refl;
      count_is = refl;
      none = λ k lt. absurd (omega (arith, lt));
      ended = inl (λ more. refl);
    }

none_more : (lines : List Line) (line : Line) → HasNone lines → is_separator line ≡ false → HasNone (lines ++ line ∷ [])
none_more lines line none other = λ k lt. elim (cases_lt k (length lines)) [
  | inl below ↦ ap is_separator (get_or_append_left lines (line ∷ []) [] k below) ∙ none k below
  | inr last ↦
      (let at : length lines ≡ k = omega (arith, last, lt, length-append lines (line ∷ [])) in
      subst (λ (n : ℕ). is_separator (get_or (lines ++ line ∷ []) n []) ≡ false) at (ap is_separator (get_or-append_seam lines line [] []) ∙ other))
]

-- where the first line of the rest doesn't separate, it was searched too
pub search_goes_on : (text old rest : List ℕ) (line : Line) (count : ℕ) → IsSearched text old count → IsCut old line rest → is_separator line ≡ false → IsSearched text rest (count + 1)
search_goes_on text old rest line count s c other = elim s.ended [
  | inr gone ↦ absurd (omega (arith, cut_shorter old rest line c, ap length gone))
  | inl whole ↦
      (let one : text_lines (s.before ++ c.front) ≡ text_lines s.before ++ line ∷ [] = whole c.front ∙ ap (λ (ls : List Line). text_lines s.before ++ ls) c.line_is in
      record {
        before = s.before ++ c.front;
        text_is = s.text_is ∙ ap (λ (more : List ℕ). s.before ++ more) c.text_is ∙ sym (append_assoc s.before c.front rest);
        lines =
            s.lines ∙ ap (λ (ls : List Line). text_lines s.before ++ ls) (cut_lines old rest line c)
            ∙ sym (append_assoc (text_lines s.before) (line ∷ []) (text_lines rest)) ∙ ap (λ (ls : List Line). ls ++ text_lines rest) (sym one);
        count_is = omega (arith, s.count_is, ap length one ∙ length-append (text_lines s.before) (line ∷ []));
        none = subst HasNone (sym one) (none_more (text_lines s.before) line s.none other);
        ended = elim c.ended [
          | inr last ↦ inr last
          | inl more_whole ↦ inl
              (λ more. ap text_lines (append_assoc s.before c.front more) ∙ whole (c.front ++ more)
              ∙ ap (λ (ls : List Line). text_lines s.before ++ ls) (more_whole more)
              ∙ sym (append_assoc (text_lines s.before) (text_lines c.front) (text_lines more))
              ∙ ap (λ (ls : List Line). ls ++ text_lines more) (sym (whole c.front)))
        ];
      })
]

-- no more lines were searched than the text has bytes
pub search_counts : (text rest : List ℕ) (count : ℕ) → IsSearched text rest count → count ≤ length text
search_counts text rest count s = omega (arith, s.count_is, lines_le s.before, ap length s.text_is ∙ length-append s.before rest)

-- what was searched is a part, whatever follows it
searched : (text rest : List ℕ) (count : ℕ) (s : IsSearched text rest count) → IsPart text s.before count
searched text rest count s =
    record {
      count_is = s.count_is;
      none = s.none;
      short = omega (arith, ap length s.text_is ∙ length-append s.before rest);
      more = text_lines rest;
      lines = s.lines;
    }

-- it is what stands before the rest
searched_is : (text rest : List ℕ) (count : ℕ) (s : IsSearched text rest count) → s.before ≡ take (length text - length rest) text
searched_is text rest count s =
    let size : length text - length rest ≡ length s.before = omega (arith, ap length s.text_is ∙ length-append s.before rest) in
    sym (ap₂ (λ (n : ℕ) (bs : List ℕ). take n bs) size s.text_is ∙ take-append_seam s.before rest)

-- where it separates, what was searched is a part, and what stands behind the line follows it
pub search_finds : (text old rest : List ℕ) (line : Line) (count : ℕ) → IsSearched text old count → IsCut old line rest → is_separator line ≡ true →
    IsPart text (take (length text - length old) text) count × IsFollowed text (take (length text - length old) text) rest
search_finds text old rest line count s c slash =
    let followed : IsFollowed text s.before rest =
    record {
      line = line;
      slash = slash;
      lines = s.lines ∙ ap (λ (ls : List Line). text_lines s.before ++ ls) (cut_lines old rest line c);
      short = omega (arith, cut_shorter old rest line c, ap length s.text_is ∙ length-append s.before old);
    } in
    subst (λ (part : List ℕ). IsPart text part count × IsFollowed text part rest) (searched_is text old count s) (searched text old count s, followed)

-- where nothing is left to search, the whole text is a part
pub search_ends : (text rest : List ℕ) (count : ℕ) → IsSearched text rest count → rest ≡ [] → IsPart text text count
search_ends text rest count s e =
    let all : s.before ≡ text = sym (s.text_is ∙ ap (λ (more : List ℕ). s.before ++ more) e ∙ append-nil s.before) in
    subst (λ (part : List ℕ). IsPart text part count) all (searched text rest count s)
