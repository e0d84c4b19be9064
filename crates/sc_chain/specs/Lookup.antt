-- The lookup that a chain keeps: an entry per position, and the first position of each word.
use Rattle.std.specs.Prelude.{◌≡◌, ℕ, ◌<◌, List, length, get_or}
use Rattle.sc_theory.specs.Chains.{Chain, no_letter, positions, first, word_of, letter, succ, prev}
use Rattle.sc_chain.specs.declared.chain.Place.{Place}

-- what stands past the last entry
abbrev pub no_place : Place
no_place = record { letter = no_letter; next = 0; previous = 0; word = 0 }

-- the lookup of a chain
pub record IsLookup (c : Chain) (places : List Place) (firsts : List ℕ) : Type 0 where
  pub len : length places ≡ positions c
  pub firsts_len : length firsts ≡ length c
  pub first_at : (w : ℕ) → w < length c → get_or firsts w 0 ≡ first c w
  pub letter_at : (i : ℕ) → i < positions c → (get_or places i no_place).letter ≡ letter c i
  pub next_at : (i : ℕ) → i < positions c → (get_or places i no_place).next ≡ succ c i
  pub previous_at : (i : ℕ) → i < positions c → (get_or places i no_place).previous ≡ prev c i
  pub word_at : (i : ℕ) → i < positions c → (get_or places i no_place).word ≡ word_of c i
  pub first_below : (w : ℕ) → w < length c → get_or firsts w 0 < positions c
  pub next_below : (i : ℕ) → i < positions c → (get_or places i no_place).next < positions c
  pub previous_below : (i : ℕ) → i < positions c → (get_or places i no_place).previous < positions c
  pub word_below : (i : ℕ) → i < positions c → (get_or places i no_place).word < length c
