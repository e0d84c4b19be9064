-- The places of a word, and where it isn't reduced.
use Rattle.std.specs.Prelude.{◌≡◌, ℕ, suc, ◌<◌, Bool, true, false, ◌==◌, if◌then◌else◌, length, get_or}
use Rattle.sc_theory.specs.declared.Letter.{Letter}
use Rattle.sc_theory.specs.Words.{Word, is_inverse}
use Rattle.sc_theory.specs.Chains.{no_letter}

-- the letter at the place k of a word
abbrev pub letter_at : Word → ℕ → Letter
letter_at w k = get_or w k no_letter

-- the next place round the word: the first comes after the last
abbrev pub next_round : Word → ℕ → ℕ
next_round w k = if suc k == length w then 0 else suc k

-- whether the letter at the place k is the inverse of the next one round the word
abbrev pub cancels_next : Word → ℕ → Bool
cancels_next w k = is_inverse (letter_at w k) (letter_at w (next_round w k))

-- the least place whose letter is the inverse of the next one round the word
pub record IsLeastCancelling (w : Word) (k : ℕ) : Type 0 where
  pub inside : k < length w
  pub cancels : cancels_next w k ≡ true
  pub least : (j : ℕ) → j < k → cancels_next w j ≡ false
