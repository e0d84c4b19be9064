-- The spelling of letters and words: small letters are the generators, and capitals their inverses.
use Rattle.std.specs.Prelude.{ℕ, ◌+◌, ◌-◌, true, false, ◌&&◌, nat_le, if◌then◌else◌, List, [], ◌∷◌, Option, Some, None}
use Rattle.sc_theory.specs.declared.Letter.{Letter}
use Rattle.sc_theory.specs.Words.{Word}

-- the byte of a letter: `a` to `z` are the generators, and `A` to `Z` their inverses
abbrev pub letter_byte : Letter → ℕ
letter_byte x = if x.inverse then 65 + x.number else 97 + x.number

-- the letter that a byte spells
abbrev pub letter_of : ℕ → Option Letter
letter_of b =
    if nat_le 97 b && nat_le b 122 then Some (record { number = b - 97; inverse = false })
    else (if nat_le 65 b && nat_le b 90 then Some (record { number = b - 65; inverse = true }) else None)

-- the word that bytes spell, one behind the other
abbrev pub with_first : Option Letter → Option Word → Option Word
with_first (Some x) (Some w) = Some (x ∷ w)
with_first (Some x) None = None
with_first None o = None

abbrev pub word_of : List ℕ → Option Word
word_of [] = Some []
word_of (b ∷ bs) = with_first (letter_of b) (word_of bs)
