-- The forms of the command line.
use Rattle.std.specs.Prelude.{◌≡◌, ◌⊎◌, ℕ, ◌≤◌, ◌&&◌, if◌then◌else◌, List, [], ◌∷◌, map, codes, String, string_bytes, Option, None, Some, ℤ, pos}
use Rattle.std.specs.Option.{option_map}
use Rattle.std.specs.Str.{bytes_eq}
use Rattle.std.specs.declared.alloc.Global.{Global}
use Rattle.sc_whole.specs.Spelling.{spelling}
use Rattle.sc_line.specs.Lines.{number_of, natural}
use Rattle.sc_line.specs.Faults.{between}
use Rattle.sc_text.specs.declared.limits.TheConstants.{MAX_PIVOTS}
use Rattle.sc_random.specs.declared.limits.TheConstants.{MAX_LETTERS}
use Rattle.sc_app.specs.declared.command.Command.{Command}
use Rattle.sc_app.specs.declared.command.Command.TheVariants.{Surface, Shape, Check, Svg, Scl, Ball, Generate}
use Rattle.sc_app.specs.declared.limits.TheConstants.{DEFAULT_PIVOTS, MAX_SEED}

-- the words as bytes
abbrev pub bytes_of : List (String Global) → List (List ℕ)
bytes_of words = map string_bytes words

-- the command of one word
abbrev pub named : List ℕ → Option Command
named word =
    if bytes_eq word (codes "surface") then Some Surface
    else if bytes_eq word (codes "shape") then Some Shape
    else if bytes_eq word (codes "check") then Some Check
    else if bytes_eq word (codes "svg") then Some Svg
    else if bytes_eq word (codes "scl") then Some (Scl DEFAULT_PIVOTS)
    else if bytes_eq word (codes "ball") then Some (Ball DEFAULT_PIVOTS)
    else None

-- a natural number, where it is in a range
abbrev pub natural_in : ℕ → ℕ → Option ℤ → Option ℕ
natural_in low high None = None
natural_in low high (Some z) = if between low high z then Some (natural (Some z)) else None

-- the number of pivots that a word spells, from 1 to the most
abbrev pub pivots_of : List ℕ → Option ℕ
pivots_of word = natural_in 1 MAX_PIVOTS (number_of word)

-- the seed that a word spells, and the number of letters of a drawn word
abbrev pub seed_of : List ℕ → Option ℕ
seed_of word = natural_in 0 MAX_SEED (number_of word)

abbrev pub letters_of : List ℕ → Option ℕ
letters_of word = natural_in 1 MAX_LETTERS (number_of word)

-- the command `gen` with two numbers, where both are named
abbrev pub generate : Option ℕ → Option ℕ → Option Command
generate (Some seed) (Some letters) = Some (Generate seed letters)
generate (Some seed) None = None
generate None letters = None

-- the command of a word and two others: an option and its number, or two numbers
abbrev pub named_with : List ℕ → List ℕ → List ℕ → Option Command
named_with word option number =
    if bytes_eq word (codes "scl") && bytes_eq option (codes "--pivots") then option_map Scl (pivots_of number)
    else if bytes_eq word (codes "ball") && bytes_eq option (codes "--pivots") then option_map Ball (pivots_of number)
    else if bytes_eq word (codes "gen") then generate (seed_of option) (letters_of number)
    else None

-- the command that the words are the form of, where they are one
abbrev pub form : List (List ℕ) → Option Command
form [] = None
form (word ∷ []) = named word
form (word ∷ option ∷ []) = None
form (word ∷ option ∷ number ∷ []) = named_with word option number
form (word ∷ option ∷ number ∷ other ∷ others) = None

-- the words are the form of the command
abbrev pub IsForm : Command → List (List ℕ) → Type 0
IsForm c words = form words ≡ Some c

-- the words are no form
abbrev pub HasNoForm : List (List ℕ) → Type 0
HasNoForm words = form words ≡ None

-- the word `scl` alone, which allows the default number of pivots, or with a number from 1 to the most in its one
-- spelling
abbrev pub AreWordsOfScl : ℕ → List (List ℕ) → Type 0
AreWordsOfScl n words =
    ((words ≡ codes "scl" ∷ []) × (n ≡ DEFAULT_PIVOTS))
    ⊎ ((words ≡ codes "scl" ∷ codes "--pivots" ∷ spelling (pos n) ∷ []) × (1 ≤ n) × (n ≤ MAX_PIVOTS))

-- the same for `ball`
abbrev pub AreWordsOfBall : ℕ → List (List ℕ) → Type 0
AreWordsOfBall n words =
    ((words ≡ codes "ball" ∷ []) × (n ≡ DEFAULT_PIVOTS))
    ⊎ ((words ≡ codes "ball" ∷ codes "--pivots" ∷ spelling (pos n) ∷ []) × (1 ≤ n) × (n ≤ MAX_PIVOTS))

-- the word `gen`, a seed and a number of letters, each in its one spelling
abbrev pub AreWordsOfGenerate : ℕ → ℕ → List (List ℕ) → Type 0
AreWordsOfGenerate seed letters words =
    (words ≡ codes "gen" ∷ spelling (pos seed) ∷ spelling (pos letters) ∷ []) × (seed ≤ MAX_SEED) × (1 ≤ letters) × (letters ≤ MAX_LETTERS)

-- the numbers are such as the words can name
abbrev pub IsInRange : Command → Type 0
IsInRange Surface = Unit {0}
IsInRange Shape = Unit {0}
IsInRange Check = Unit {0}
IsInRange Svg = Unit {0}
IsInRange (Scl n) = (1 ≤ n) × (n ≤ MAX_PIVOTS)
IsInRange (Ball n) = (1 ≤ n) × (n ≤ MAX_PIVOTS)
IsInRange (Generate seed letters) = (1 ≤ letters) × (letters ≤ MAX_LETTERS)
