-- A fatgraph is a surface that a text may hold.
use Rattle.std.proofs.Common.{ℕ, suc, ◌+◌, ◌<◌, List, [], ◌∷◌, length, get_or, All, subst, arith}
use Rattle.std.specs.List.{AllByRecursion}
use Rattle.std.proofs.lemmas.List.{get_or_default}
use Rattle.sc_theory.specs.declared.Letter.{Letter}
use Rattle.sc_theory.specs.Words.{Word}
use Rattle.sc_theory.specs.Chains.{Chain, no_word, no_letter, word, first}
use Rattle.sc_theory.specs.Fatgraphs.{no_side}
use Rattle.sc_theory.proofs.ChainLaws.{place_inside, letter_place}
use Rattle.sc_chain.specs.Faults.{IsSmallChain}
use Rattle.sc_words.specs.declared.limits.TheConstants.{GENERATORS}
use Rattle.sc_text.specs.Words.{IsWordInRange}
use Rattle.sc_text.specs.Sides.{IsSideInRange}
use Rattle.sc_text.specs.Surfaces.{IsSurfaceInRange}
use Rattle.sc_fatgraph.specs.Surfaces.{Surface, IsSmallFatgraph}
use Rattle.sc_fatgraph.specs.Texts.{HaveWeights}

-- a fact of each entry, by the entry's number
by_number : {A : Type 0} (P : A → Type 0) (d : A) (xs : List A) → ((k : ℕ) → k < length xs → P (get_or xs k d)) → AllByRecursion P xs
by_number P d [] h = tt
by_number P d (x ∷ xs) h = (h 0 (omega arith), by_number P d xs (λ k inside. h (suc k) (omega arith)))

letters_known : (c : Chain) → IsSmallChain c → (w k : ℕ) → k < length (word c w) → (get_or (word c w) k no_letter).number < GENERATORS
letters_known c small w k inside =
    subst (λ (x : Letter). x.number < GENERATORS) (letter_place c w k inside) (small.generators (first c w + k) (place_inside c w k inside))

-- the letters of each entry are those of the generators
pub spellable : (c : Chain) → IsSmallChain c → All (λ w. All (λ x. x.number < GENERATORS) w.1) c
spellable c small w d inside =
    subst (λ (v : ℕ × Word). All (λ x. x.number < GENERATORS) v.1) (get_or_default c w no_word d inside)
    (λ k e within. subst (λ (x : Letter). x.number < GENERATORS) (get_or_default (word c w) k no_letter e within) (letters_known c small w k within))

word_in_range : (c : Chain) → IsSmallChain c → HaveWeights c → (w : ℕ) → w < length c → IsWordInRange (get_or c w no_word)
word_in_range c small weights w inside = record {
  low = (weights w inside).0;
  high = (weights w inside).1;
  letters = by_number (λ x. x.number < GENERATORS) no_letter (word c w) (λ k within. letters_known c small w k within);
  some = small.chain.words w inside;
  reduced = small.chain.reduced w inside;
}

side_in_range : (f : Surface) → IsSmallChain f.chain → IsSmallFatgraph f → (s : ℕ) → s < length f.sides → IsSideInRange (get_or f.sides s no_side)
side_in_range f small h s inside = record {
  label = omega (arith, h.fatgraph.labels s inside, small.few_positions);
  mate = omega (arith, h.fatgraph.mates s inside, h.few_sides);
  next = omega (arith, h.fatgraph.nexts s inside, h.few_sides);
}

-- over a chain within the limits, with the weights of a text, a fatgraph is one that a text may hold
pub surface_in_range : (f : Surface) → IsSmallChain f.chain → IsSmallFatgraph f → HaveWeights f.chain → IsSurfaceInRange f.chain f.copies f.sides
surface_in_range f small h weights = record {
  chain = record { count = small.few_words; words = by_number IsWordInRange no_word f.chain (word_in_range f.chain small weights); letters = small.few_positions };
  low = h.fatgraph.copies;
  high = h.few_copies;
  count = h.few_sides;
  sides = by_number IsSideInRange no_side f.sides (side_in_range f small h);
}
