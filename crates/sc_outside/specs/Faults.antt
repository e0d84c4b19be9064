-- Counts of faults and of calls, which stop at the last value of their type.
use Rattle.std.specs.Prelude.{◌≡◌, ℕ, ◌+◌, ◌-◌, ◌^◌, ◌<◌, min, Bool, ◌==◌, IsTrue, ◌⊎◌, Result, is_ok, if◌then◌else◌}

-- the count is greater than before, or stands at its last value
abbrev pub Rose : ℕ → ℕ → Bool → Type 0
Rose before now saturated = (before < now) ⊎ IsTrue saturated

-- the last value of a counter of 64 bits
abbrev pub last_count : ℕ
last_count = 2 ^ 64 - 1

-- the count after one more, which stops at the last value
abbrev pub next_count : ℕ → ℕ
next_count n = min (n + 1) last_count

-- whether a counter stands at its last value
abbrev pub is_saturated : ℕ → Bool
is_saturated n = n == last_count

-- a call that failed is one fault more, and no other call is
abbrev pub CountsFault : {T E : Type 0} → Result T E → ℕ → ℕ → Type 0
CountsFault r before now = now ≡ (if is_ok r then before else next_count before)
