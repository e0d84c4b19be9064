-- The rows, the right side, the column of a polygon, and the length row.
use Rattle.std.specs.Prelude.{ℕ, ◌+◌, ◌-◌, ◌==◌, ◌&&◌, nat_lt, if◌then◌else◌, List, length, get_or, ℤ, pos, ◌-ℤ◌}
use Rattle.std.specs.List.{count_by}
use Rattle.sc_theory.specs.Chains.{Chain, weight, word, first, word_of, prev}
use Rattle.sc_theory.specs.Walks.{walk_total}
use Rattle.sc_theory.specs.Prices.{pairs}

-- the number of rows: one for each inverse pair, and after them one for each word
abbrev pub rows : Chain → ℕ
rows c = length (pairs c) + length c

-- the positions of the pair number k
abbrev pub pair_at : Chain → ℕ → ℕ × ℕ
pair_at c k = get_or (pairs c) k (0, 0)

-- the word of the row number k
abbrev pub word_at : Chain → ℕ → ℕ
word_at c k = k - length (pairs c)

-- how many steps of a closed walk go from i to j
abbrev pub steps_of : List ℕ → ℕ → ℕ → ℤ
steps_of walk i j = walk_total (λ a b. if (a == i) && (b == j) then pos 1 else pos 0) walk

-- how often a walk passes the position i
abbrev pub passes : List ℕ → ℕ → ℕ
passes walk i = count_by (λ j. j == i) walk

-- the entry of the column of a closed walk in the row number k: in the row of a pair p, q the steps to q along p minus
-- those to p along q, and in the row of a word how often it passes the word's first position
abbrev pub column : Chain → List ℕ → ℕ → ℤ
column c walk k =
    let p = (pair_at c k).0 in
    let q = (pair_at c k).1 in
    if nat_lt k (length (pairs c)) then steps_of walk (prev c p) q -ℤ steps_of walk (prev c q) p
    else pos (passes walk (first c (word_at c k)))

-- the right side: 0 in the row of a pair, and the weight in the row of a word
abbrev pub right_side : Chain → ℕ → ℤ
right_side c k = if nat_lt k (length (pairs c)) then pos 0 else pos (weight c (word_at c k))

-- the place of a position in its word, counted from 0, with the word's length in place of 0
abbrev pub place_in_word : Chain → ℕ → ℕ
place_in_word c i =
    if i == first c (word_of c i) then length (word c (word_of c i)) else i - first c (word_of c i)

-- the length row: in the row of a pair the difference of the places, in the row of a word its length
abbrev pub length_row : Chain → ℕ → ℤ
length_row c k =
    if nat_lt k (length (pairs c)) then pos (place_in_word c (pair_at c k).0) -ℤ pos (place_in_word c (pair_at c k).1)
    else pos (length (word c (word_at c k)))
