-- The rows of entries in memory. A data page has a row of its own once it was given entries; the first row has none, and is that of each other data page.
use Rattle.std.specs.Prelude.{◌≡◌, ◌<◌, ◌≤◌, ◌+◌, ◌⊎◌, ℕ, List, [], ◌∷◌, length, map, nat_eq, replicate, slice_index, slice_index_or, if◌then◌else◌}
use Rattle.jn_base.specs.Limits.{head_blocks}

abbrev pub rows_by : List ℕ → List (List ℕ) → List (List ℕ)
rows_by slots rows = map (λ s. slice_index_or rows s []) slots

-- how many data pages have a row of their own
abbrev pub rows_made : List ℕ → ℕ
rows_made [] = 0
rows_made (s ∷ slots) = (if nat_eq s 0 then 0 else 1) + rows_made slots

-- No two data pages have one row but the first, and there is room for a row of each.
pub record AreRowsMade (slots : List ℕ) (rows : List (List ℕ)) (room : ℕ) : Type 0 where
  pub few : length slots ≤ 65535
  pub below : (d : ℕ) → d < length slots → slice_index slots d < length rows
  pub apart : (d e : ℕ) → d < length slots → e < length slots → slice_index slots d ≡ slice_index slots e → (slice_index slots d ≡ 0) ⊎ (d ≡ e)
  pub none : slice_index_or rows 0 [] ≡ replicate head_blocks 0
  pub count : length rows ≡ 1 + rows_made slots
  pub room_is : length slots + 1 ≤ room
