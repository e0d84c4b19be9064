-- A text cut behind its first line.
use Rattle.std.proofs.Common.{◌≡◌, ℕ, suc, ◌+◌, ◌<◌, true, false, List, [], ◌∷◌, ◌++◌, length, take, drop, get_or, Some, None, refl, sym, ◌∙◌, ap, ap₂, subst, arith, inl, inr, append_assoc}
use Rattle.std.specs.Prelude.{position}
use Rattle.std.specs.List.{position_or_len}
use Rattle.std.proofs.Math.Seq.{get_or-append_seam, take-append_seam, drop-append-add, drop-cons}
use Rattle.std.proofs.lemmas.Bool.{lt-ltb}
use Rattle.std.proofs.lemmas.List.{append-nil, length-append, length-take-le, take-append-drop, get_or_append_left, get_or-take}
use Rattle.std.proofs.lemmas.List.Sums.{position_or_len_is, fails_before_first, passes_at_first}
use Rattle.sc_words.specs.ChainText.{Line, is_line_feed, text_lines}
use Rattle.sc_words.specs.Cuts.{IsCut}
use Rattle.sc_words.proofs.TextLaws.{IsAt, position_some, line_before_feed, line_without_feed}

-- a line without line feeds, a line feed, and more
line_then : (line : Line) (x : ℕ) (more : List ℕ) → ((k : ℕ) → k < length line → is_line_feed (get_or line k 0) ≡ false) → is_line_feed x ≡ true →
    text_lines (line ++ x ∷ more) ≡ line ∷ text_lines more
line_then line x more none feed =
    let bs : List ℕ = line ++ x ∷ more in
    let len : length bs ≡ length line + length (x ∷ more) = length-append line (x ∷ more) in
    let place : position_or_len is_line_feed bs ≡ length line =
    position_or_len_is is_line_feed bs (length line) 0 (omega (arith, len))
    (λ k lt. ap is_line_feed (get_or_append_left line (x ∷ more) 0 k lt) ∙ none k lt)
    (λ lt. ap is_line_feed (get_or-append_seam line x more 0) ∙ feed) in
    let inside : position_or_len is_line_feed bs < length bs = omega (arith, place, len) in
    let found : position is_line_feed bs ≡ Some (position_or_len is_line_feed bs) = rw (lt-ltb (position_or_len is_line_feed bs) (length bs) inside) refl in
    line_before_feed bs (length line) (found ∙ ap (λ (n : ℕ). Some n) place)
    ∙ ap₂ (λ (l : Line) (rest : List ℕ). l ∷ text_lines rest) (take-append_seam line (x ∷ more)) (drop-append-add line (x ∷ more) 1)

-- the first line ends before the first line feed, and the rest stands behind that
pub cut_at_feed : (text : List ℕ) (e : ℕ) → position is_line_feed text ≡ Some e → IsCut text (take e text) (drop (e + 1) text)
cut_at_feed text e h =
    let p : IsAt is_line_feed text e = position_some is_line_feed text e h in
    let line : Line = take e text in
    let x : ℕ = get_or text e 0 in
    let len : length line ≡ e = length-take-le e text (omega (arith, p.inside)) in
    let none : (k : ℕ) → k < length line → is_line_feed (get_or line k 0) ≡ false =
    λ k lt. ap is_line_feed (get_or-take e text k 0 (omega (arith, len, lt))) ∙ fails_before_first is_line_feed text k 0 (omega (arith, len, lt, p.at)) in
    let found : position_or_len is_line_feed text < length text = omega (arith, p.at, p.inside) in
    let feed : is_line_feed x ≡ true = ap (λ (n : ℕ). is_line_feed (get_or text n 0)) p.at ∙ passes_at_first is_line_feed text 0 found in
    let next : suc e ≡ e + 1 = omega arith in
    let after : drop e text ≡ x ∷ drop (e + 1) text = subst (λ (n : ℕ). drop e text ≡ x ∷ drop n text) next (drop-cons text e 0 p.inside) in
    let line_is : text_lines (line ++ x ∷ []) ≡ line ∷ [] = line_then line x [] none feed in
    record {
      front = line ++ x ∷ [];
      text_is = sym (take-append-drop e text) ∙ ap (λ (rest : List ℕ). line ++ rest) after ∙ sym (append_assoc line (x ∷ []) (drop (e + 1) text));
      line_is = line_is;
      ended = inl (λ more. ap text_lines (append_assoc line (x ∷ []) more) ∙ line_then line x more none feed ∙ ap (λ (ls : List Line). ls ++ text_lines more) (sym line_is));
    }

-- a text without line feeds, unless it is empty, is one line with nothing behind it
pub cut_without_feed : (text : List ℕ) → 0 < length text → position is_line_feed text ≡ None → IsCut text text []
cut_without_feed text some h =
    record {
      front = text;
      text_is = sym (append-nil text);
      line_is = line_without_feed text some h;
      ended = inr refl;
    }
