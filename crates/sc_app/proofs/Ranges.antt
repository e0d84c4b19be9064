-- The chain of a text within the limits is one that a certificate may be over.
use Rattle.std.proofs.Common.{ℕ, zero, suc, ◌<◌, ◌≤◌, List, [], ◌∷◌, length, get_or, All, ℤ, pos, negsuc, unsigned_abs, refl, ◌≡◌, subst, sym, arith}
use Rattle.std.proofs.lemmas.Int.{ints}
use Rattle.std.proofs.lemmas.List.Elements.{All-nil, All-cons}
use Rattle.std.specs.List.{AllByRecursion}
use Rattle.sc_theory.specs.Words.{Word, cyclic_reduction}
use Rattle.sc_theory.specs.Chains.{Chain, IsChain, no_word, no_letter, word}
use Rattle.sc_words.specs.declared.lines.RawLine.{RawLine}
use Rattle.sc_words.specs.declared.limits.TheConstants.{GENERATORS}
use Rattle.sc_words.specs.ChainText.{IsRawLine, IsChainText, text_lines}
use Rattle.sc_words.proofs.ReadingLaws.{raw_lines_in_range}
use Rattle.sc_reduce.specs.Lines.{signed_word, weighted_word, line_chain, chain_of, IsWithin}
use Rattle.sc_reduce.proofs.LineLaws.{All-chain_of, good_chain, generators_of_chain}
use Rattle.sc_text.specs.declared.limits.TheConstants.{MAX_WEIGHT}
use Rattle.sc_text.specs.Words.{IsWordInRange}
use Rattle.sc_text.specs.Surfaces.{IsChainInRange}
use Rattle.sc_text.proofs.ReadChains.{accepted}

-- a fact of each entry, by the entry's number
by_number : {A : Type 0} (P : A → Type 0) (d : A) (xs : List A) → ((k : ℕ) → k < length xs → P (get_or xs k d)) → AllByRecursion P xs
by_number P d [] h = tt
by_number P d (x ∷ xs) h = (h 0 (omega arith), by_number P d xs (λ k inside. h (suc k) (omega arith)))

-- ---- weights

abbrev HasWeight : ℕ × Word → Type 0
HasWeight e = (1 ≤ e.0) × (e.0 ≤ MAX_WEIGHT)

of_word : (n : ℕ) (w : Word) → n ≤ MAX_WEIGHT → All HasWeight (weighted_word n w)
of_word zero w h = All-nil HasWeight
of_word (suc n) [] h = All-nil HasWeight
of_word (suc n) (x ∷ w) h = All-cons HasWeight (suc n, x ∷ w) [] (omega arith, h) (All-nil HasWeight)

size : (l : RawLine) → IsRawLine l → (z : ℤ) → z ≡ l.coefficient → unsigned_abs z ≤ MAX_WEIGHT
size l h (pos n) e = omega (arith, ints, h.high, e)
size l h (negsuc n) e = omega (arith, ints, h.low, e)

of_line : (l : RawLine) → IsRawLine l → All HasWeight (line_chain l)
of_line l h = of_word (unsigned_abs l.coefficient) (signed_word l.coefficient (cyclic_reduction l.word)) (size l h l.coefficient refl)

-- ---- chains

module _ (lines : List RawLine) (raw : All IsRawLine lines) where
  word_in_range : (w : ℕ) → w < length (chain_of lines) → IsWordInRange (get_or (chain_of lines) w no_word)
  word_in_range w inside =
      let weight = All-chain_of HasWeight IsRawLine of_line lines raw w no_word inside in
      let good = good_chain lines w inside in
      record {
        low = weight.0;
        high = weight.1;
        letters = by_number (λ x. x.number < GENERATORS) no_letter (word (chain_of lines) w) (λ k within. generators_of_chain lines raw w k inside within);
        some = good.nonempty;
        reduced = good.reduced;
      }

  -- raw lines whose chain is within the limits make a chain in its ranges
  pub chain_of_lines : IsWithin (chain_of lines) → IsChainInRange (chain_of lines)
  chain_of_lines within = record {
    count = within.few_words;
    words = by_number IsWordInRange no_word (chain_of lines) word_in_range;
    letters = within.few_positions;
  }

-- the chain of the lines that a text says
pub chain_of_text : (input : List ℕ) (lines : List RawLine) → IsChainText input lines → IsWithin (chain_of lines) → IsChainInRange (chain_of lines)
chain_of_text input lines read within =
    chain_of_lines lines (subst (All IsRawLine) (sym read.entries) (raw_lines_in_range 1 (text_lines input))) within

-- and it is a chain
pub chain_in_range : (c : Chain) → IsChainInRange c → IsChain c
chain_in_range c h =
    let good = (accepted c h).good in
    record { words = λ w inside. (good w inside).nonempty; reduced = λ w inside. (good w inside).reduced }
