-- Counts of 64 bits, which stay at their last value once they are there.
use Rattle.std.specs.Prelude.{◌⊎◌, ℕ, ◌+◌, ◌-◌, ◌^◌, ◌<◌, ◌≤◌, nat_lt, if◌then◌else◌}

-- the count after one more
abbrev pub bumped : ℕ → ℕ
bumped n = if nat_lt n (2 ^ 64 - 1) then n + 1 else n

-- it rose, or stood at its last value
abbrev pub Rose : ℕ → ℕ → Type 0
Rose before after = (before < after) ⊎ (2 ^ 64 - 1 ≤ before)
