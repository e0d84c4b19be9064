-- What a loop over lines has printed, and the lines of a price list.
use Rattle.std.proofs.Common.{◌≡◌, ℕ, ◌+◌, ◌<◌, ◌≤◌, take, drop, subst, List, ◌++◌, map, length, get_or, sym, ap, ◌∙◌}
use Rattle.std.proofs.lemmas.List.{take_all}
use Rattle.sc_theory.specs.Chains.{Chain}
use Rattle.sc_theory.specs.Prices.{Prices, pairs}
use Rattle.sc_line.specs.Lines.{Line, ended, text_of}
use Rattle.sc_line.specs.Printing.{AppendsPart}
use Rattle.sc_line.proofs.PrintLaws.{flat_map-map, pieces_more, part_after, lines_at, text_both}
use Rattle.sc_text.specs.PriceLines.{scale_line, base_line}
use Rattle.sc_certificate.specs.Spelled.{pair_lines, list_lines, list_text}

-- ---- lines one after another

module _ {X : Type 0} (f : X → Line) (xs : List X) (i : ℕ) (d : X) (line : Line) (inside : i < length xs) (is : line ≡ f (get_or xs i d)) where
  -- the line number i behind those before it makes one line more
  pub lines_more : (old mid new : List ℕ) → mid ≡ old ++ text_of (map f (take i xs)) → new ≡ mid ++ ended line → new ≡ old ++ text_of (map f (take (i + 1) xs))
  lines_more old mid new before here =
      here
      ∙ ap (λ (t : List ℕ). t ++ ended line) before
      ∙ ap (λ (t : List ℕ). (old ++ text_of (map f (take i xs))) ++ ended t) is
      ∙ ap (λ (t : List ℕ). (old ++ t) ++ ended (f (get_or xs i d))) (flat_map-map ended f (take i xs))
      ∙ pieces_more (λ x. ended (f x)) old xs i d inside
      ∙ ap (λ (t : List ℕ). old ++ t) (sym (flat_map-map ended f (take (i + 1) xs)))

  -- a part of it behind those before it is a part of all lines
  pub lines_part : (old mid new : List ℕ) → mid ≡ old ++ text_of (map f (take i xs)) → AppendsPart mid new (ended line) → AppendsPart old new (text_of (map f xs))
  lines_part old mid new before part =
      part_after old mid new (text_of (map f (take i xs))) (ended (f (get_or xs i d))) (text_of (map f (drop (i + 1) xs))) (text_of (map f xs)) before
      (subst (λ (t : Line). AppendsPart mid new (ended t)) is part) (lines_at f xs i d inside)

-- past the last line all lines stand there
pub lines_done : {X : Type 0} (f : X → Line) (xs : List X) (i : ℕ) (old mid : List ℕ) → length xs ≤ i → mid ≡ old ++ text_of (map f (take i xs)) → mid ≡ old ++ text_of (map f xs)
lines_done f xs i old mid past before = before ∙ ap (λ ys. old ++ text_of (map f ys)) (take_all i xs past)

-- ---- a price list

-- the text of a list's lines is that by the pairs of its chain
pub list_pieces : (c : Chain) (list : Prices) → text_of (list_lines c list) ≡ list_text (pairs c) list
list_pieces c list = ap (λ (t : List ℕ). ended (scale_line list.scale) ++ t) (text_both (map base_line list.base) (pair_lines (pairs c) list.pair))
