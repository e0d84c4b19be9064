-- Said by private functions alone: the lookup that a chain keeps: an entry per position, and the first position of
-- each word.
use Rattle.std.specs.Prelude.{◌≡◌, ℕ, suc, pred, ◌+◌, ◌<◌, ◌==◌, if◌then◌else◌, List, length, get_or}
use Rattle.sc_theory.specs.declared.Letter.{Letter}
use Rattle.sc_theory.specs.Words.{Word}
use Rattle.sc_theory.specs.Chains.{no_letter}
use Rattle.sc_chain.specs.declared.chain.Place.{Place}
use Rattle.sc_chain.specs.Lookup.{no_place}

-- the entry of the position i with the letter x, in the word number w whose positions are those from low to below high
abbrev pub place_between : ℕ → ℕ → ℕ → Letter → ℕ → Place
place_between low high w x i =
    record {
      letter = x;
      next = if suc i == high then low else suc i;
      previous = if i == low then pred high else pred i;
      word = w;
    }

-- the lookup with the entries of the first n places of one word more, whose number is w
pub record AppendsBelow (old new : List Place) (letters : Word) (w n : ℕ) : Type 0 where
  pub len : length new ≡ length old + n
  pub before : (i : ℕ) → i < length old → get_or new i no_place ≡ get_or old i no_place
  pub after : (k : ℕ) → k < n →
      get_or new (length old + k) no_place ≡ place_between (length old) (length old + length letters) w (get_or letters k no_letter) (length old + k)
