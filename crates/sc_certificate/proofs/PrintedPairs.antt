-- The lines of pairs beside their prices, printed one after another: what is printed after each step, and what is due.
use Rattle.std.proofs.Common.{◌≡◌, ℕ, zero, suc, ◌+◌, ◌-◌, ◌<◌, Bool, true, drop, subst, List, [], ◌∷◌, ◌++◌, map, length, ℤ, refl, sym, ap, ◌∙◌, arith, append-nil}
use Rattle.std.specs.List.{zip, filter, flat_map, range_with_len}
use Rattle.std.proofs.Math.Seq.{drop-nil}
use Rattle.std.proofs.lemmas.List.{map-append}
use Rattle.std.proofs.lemmas.List.Concat.{flat_map-append}
use Rattle.std.proofs.lemmas.List.Elements.{filter-append}
use Rattle.sc_line.specs.Lines.{text_of}
use Rattle.sc_line.specs.Printing.{AppendsPart}
use Rattle.sc_line.proofs.PrintLaws.{text_both, then_all, then_part, front_part}
use Rattle.sc_text.specs.PriceLines.{pair_line}
use Rattle.sc_chain.proofs.PairLists.{seconds, seconds-yes, all_seconds}
use Rattle.sc_certificate.specs.Spelled.{pair_lines}
use Rattle.sc_certificate.specs.inside.PrintedPairs.{ArePrinted}

-- ---- the pairs of two lists, one behind the other

zip-nil : (ps : List (ℕ × ℕ)) → ◌≡◌ {A = List ((ℕ × ℕ) × ℤ)} (zip ps []) []
zip-nil [] = refl
zip-nil (p ∷ ps) = refl

zip_behind : (ps qs : List (ℕ × ℕ)) (xs : List ℤ) → zip (ps ++ qs) xs ≡ zip ps xs ++ zip qs (drop (length ps) xs)
zip_behind [] qs xs = refl
zip_behind (p ∷ ps) qs [] = sym (zip-nil qs)
zip_behind (p ∷ ps) qs (x ∷ xs) = ap (λ rest. (p, x) ∷ rest) (zip_behind ps qs xs)

drop_behind : (ps qs : List (ℕ × ℕ)) (xs : List ℤ) → drop (length (ps ++ qs)) xs ≡ drop (length qs) (drop (length ps) xs)
drop_behind [] qs xs = refl
drop_behind (p ∷ ps) qs [] = sym (drop-nil (length qs))
drop_behind (p ∷ ps) qs (x ∷ xs) = drop_behind ps qs xs

lines_behind : (ps qs : List (ℕ × ℕ)) (xs : List ℤ) → text_of (pair_lines (ps ++ qs) xs) ≡ text_of (pair_lines ps xs) ++ text_of (pair_lines qs (drop (length ps) xs))
lines_behind ps qs xs =
    ap (λ (es : List ((ℕ × ℕ) × ℤ)). text_of (map (λ e. pair_line e.0 e.1) es)) (zip_behind ps qs xs)
    ∙ ap text_of (map-append (λ e. pair_line e.0 e.1) (zip ps xs) (zip qs (drop (length ps) xs)))
    ∙ text_both (pair_lines ps xs) (pair_lines qs (drop (length ps) xs))

-- ---- what was printed

pub none_printed : (old : List ℕ) (prices : List ℤ) → ArePrinted old prices [] old prices
none_printed old prices = record { lines = sym (append-nil old); behind = refl }

module _ (old : List ℕ) (prices : List ℤ) (ps : List (ℕ × ℕ)) (mid : List ℕ) (left : List ℤ) (before : ArePrinted old prices ps mid left) where
  -- the lines of further pairs beside the prices that are left
  pub printed_more : (qs : List (ℕ × ℕ)) (new : List ℕ) (rest : List ℤ) → ArePrinted mid left qs new rest → ArePrinted old prices (ps ++ qs) new rest
  printed_more qs new rest more = record {
    lines =
        then_all old mid new (text_of (pair_lines ps prices)) (text_of (pair_lines qs (drop (length ps) prices))) before.lines
        (subst (λ (xs : List ℤ). new ≡ mid ++ text_of (pair_lines qs xs)) before.behind more.lines)
        ∙ ap (λ (t : List ℕ). old ++ t) (sym (lines_behind ps qs prices));
    behind = more.behind ∙ ap (drop (length qs)) before.behind ∙ sym (drop_behind ps qs prices);
  }

  -- a part of the lines of further pairs
  pub printed_part : (qs after all : List (ℕ × ℕ)) (new : List ℕ) → all ≡ ps ++ (qs ++ after) → AppendsPart mid new (text_of (pair_lines qs left)) → AppendsPart old new (text_of (pair_lines all prices))
  printed_part qs after all new whole part =
      let xs : List ℤ = drop (length ps) prices in
      let here : AppendsPart mid new (text_of (pair_lines (qs ++ after) xs)) =
      subst (AppendsPart mid new) (sym (lines_behind qs after xs))
      (front_part mid new (text_of (pair_lines qs xs)) (text_of (pair_lines after (drop (length qs) xs)))
      (subst (λ (ys : List ℤ). AppendsPart mid new (text_of (pair_lines qs ys))) before.behind part)) in
      subst (AppendsPart old new) (sym (ap (λ (rs : List (ℕ × ℕ)). text_of (pair_lines rs prices)) whole ∙ lines_behind ps (qs ++ after) prices))
      (then_part old mid new (text_of (pair_lines ps prices)) (text_of (pair_lines (qs ++ after) xs)) before.lines here)

-- ---- the pairs up to a position, at it, and after it

range_split : (a n k m j : ℕ) → n + k ≡ m → a + n ≡ j → range_with_len a m ≡ range_with_len a n ++ range_with_len j k
range_split a zero k m j e f =
    ap (range_with_len a) (let same : m ≡ k = omega arith in same) ∙ ap (λ (i : ℕ). range_with_len i k) (let same : a ≡ j = omega arith in same)
range_split a (suc n) k m j e f =
    ap (range_with_len a) (let next : m ≡ suc (n + k) = omega arith in next)
    ∙ ap (λ (rest : List ℕ). a ∷ rest) (range_split (a + 1) n k (n + k) j refl (omega arith))

-- where the position q passes the test
pub seconds_at : (x : ℕ) (test : ℕ → Bool) (m q : ℕ) → q < m → test q ≡ true → seconds x test 0 m ≡ seconds x test 0 q ++ (((x, q) ∷ []) ++ seconds x test (q + 1) (m - suc q))
seconds_at x test m q h e =
    ap (λ (r : List ℕ). map (λ (s : ℕ). (x, s)) (filter test r)) (range_split 0 q (suc (m - suc q)) m q (omega arith) (omega arith))
    ∙ ap (map (λ (s : ℕ). (x, s))) (filter-append test (range_with_len 0 q) (range_with_len q (suc (m - suc q))))
    ∙ map-append (λ (s : ℕ). (x, s)) (filter test (range_with_len 0 q)) (filter test (range_with_len q (suc (m - suc q))))
    ∙ ap (λ (ps : List (ℕ × ℕ)). seconds x test 0 q ++ ps) (seconds-yes x test q (m - suc q) e)

pub firsts_at : (test : ℕ → ℕ → Bool) (m n p : ℕ) → p < n → all_seconds test m 0 n ≡ all_seconds test m 0 p ++ (seconds p (test p) 0 m ++ all_seconds test m (p + 1) (n - suc p))
firsts_at test m n p h =
    ap (flat_map (λ (x : ℕ). seconds x (test x) 0 m)) (range_split 0 p (suc (n - suc p)) n p (omega arith) (omega arith))
    ∙ flat_map-append (λ (x : ℕ). seconds x (test x) 0 m) (range_with_len 0 p) (range_with_len p (suc (n - suc p)))
