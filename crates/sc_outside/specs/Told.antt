-- What a call does to bytes that may be told.
use Rattle.std.specs.Prelude.{◌≡◌, ℕ, ◌≤◌, ◌<◌, Option, None, Some, List, ◌++◌, length, take, drop, ⊤}

-- where the bytes left are told before, exactly the first n of them were delivered, and the others are told
abbrev pub Delivered : Option (List ℕ) → Option (List ℕ) → ℕ → Type 0
Delivered None new n = ⊤
Delivered (Some input) None n = ⊥
Delivered (Some input) (Some rest) n = (n ≤ length input) × (rest ≡ drop n input)

-- where the bytes taken are told after, they were told before and grew by these
abbrev pub Took : Option (List ℕ) → Option (List ℕ) → List ℕ → Type 0
Took old None bytes = ⊤
Took None (Some now) bytes = ⊥
Took (Some before) (Some now) bytes = now ≡ before ++ bytes

-- a prefix of these was taken, and not all
abbrev pub TookPart : Option (List ℕ) → Option (List ℕ) → List ℕ → Type 0
TookPart old new bytes = (k : ℕ) × (k < length bytes) × Took old new (take k bytes)
