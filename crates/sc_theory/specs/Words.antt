-- Letters and words, their totals, and their reduction by deletions.
use Rattle.std.specs.Prelude.{◌≡◌, ℕ, zero, suc, Bool, true, false, not, ◌&&◌, ◌==◌, if◌then◌else◌, List, [], ◌∷◌, ◌++◌, map, reverse, length, Option, Some, None, ℤ, pos, ◌-ℤ◌}
use Rattle.std.specs.Option.{option_map, option_or, unwrap_or}
use Rattle.std.specs.List.{count_by}
use Rattle.sc_theory.specs.declared.Letter.{Letter}

-- a word is a list of letters
abbrev pub Word : Type 0
Word = List Letter

-- the letter of the other sign
abbrev pub inverse_letter : Letter → Letter
inverse_letter x = record { number = x.number; inverse = not x.inverse }

-- whether two signs are the same
abbrev pub same_sign : Bool → Bool → Bool
same_sign true b = b
same_sign false b = not b

-- whether y is the inverse of x
abbrev pub is_inverse : Letter → Letter → Bool
is_inverse x y = (x.number == y.number) && not (same_sign x.inverse y.inverse)

-- the letters in reverse order with their signs changed
abbrev pub inverse_word : Word → Word
inverse_word w = map inverse_letter (reverse w)

-- whether a letter is the generator g, and whether it is the inverse of g
abbrev pub is_positive : ℕ → Letter → Bool
is_positive g x = (x.number == g) && not x.inverse

abbrev pub is_negative : ℕ → Letter → Bool
is_negative g x = (x.number == g) && x.inverse

-- the total of a word in the generator g: its positive occurrences minus its negative ones
abbrev pub total : ℕ → Word → ℤ
total g w = pos (count_by (is_positive g) w) -ℤ pos (count_by (is_negative g) w)

-- the word without its leftmost two neighbouring inverse letters, where there are two such
abbrev pub delete_leftmost : Word → Option Word
delete_leftmost [] = None
delete_leftmost (x ∷ []) = None
delete_leftmost (x ∷ y ∷ w) =
    if is_inverse x y then Some w else option_map (λ rest. x ∷ rest) (delete_leftmost (y ∷ w))

-- the last letter of the word that x begins, and the letters before it
abbrev pub last_letter : Letter → Word → Letter
last_letter x [] = x
last_letter x (y ∷ w) = last_letter y w

abbrev pub all_but_last : Letter → Word → Word
all_but_last x [] = []
all_but_last x (y ∷ w) = x ∷ all_but_last y w

-- the word without its first and last letter, where these are inverse
abbrev pub delete_ends : Word → Option Word
delete_ends [] = None
delete_ends (x ∷ []) = None
delete_ends (x ∷ y ∷ w) = if is_inverse x (last_letter y w) then Some (all_but_last y w) else None

-- a deletion in cyclic reduction: the ends are deleted only where no neighbours can be
abbrev pub delete_cyclically : Word → Option Word
delete_cyclically w = option_or (delete_leftmost w) (delete_ends w)

-- what n deletions leave, or fewer where no more is possible
abbrev pub deleted : (Word → Option Word) → ℕ → Word → Word
deleted delete zero w = w
deleted delete (suc n) w = unwrap_or (option_map (deleted delete n) (delete w)) w

-- what is left when no deletion is possible: a word of n letters allows at most n of them
abbrev pub free_reduction : Word → Word
free_reduction w = deleted delete_leftmost (length w) w

abbrev pub cyclic_reduction : Word → Word
cyclic_reduction w = deleted delete_cyclically (length w) w

-- a word that allows no deletion
abbrev pub IsReduced : Word → Type 0
IsReduced w = delete_cyclically w ≡ None

-- the same element of the free group: the first followed by the inverse of the second reduces to nothing
abbrev pub SameElement : Word → Word → Type 0
SameElement u v = free_reduction (u ++ inverse_word v) ≡ []

-- a free deletion anywhere in a word: some letter and its inverse after it are taken out
pub record FreelyDeletes (w v : Word) : Type 0 where
  pub before : Word
  pub letter : Letter
  pub after : Word
  pub from : w ≡ before ++ letter ∷ inverse_letter letter ∷ after
  pub to : v ≡ before ++ after

-- free deletions one after another, in any order
pub data FreeDeletions : Word → Word → Type 0 where
  no_more : {w : Word} → FreeDeletions w w
  deletion : {w v u : Word} → FreelyDeletes w v → FreeDeletions v u → FreeDeletions w u
