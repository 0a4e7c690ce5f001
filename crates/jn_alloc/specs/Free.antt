-- The numbers below a count, of which some are free and some of the free ones are promised.
use Rattle.std.specs.Prelude.{◌≡◌, ℕ, ◌≤◌, ◌<◌, Bool, true, false, List, length, slice_index_or, slice_set, count_by, nat_eq}
use Rattle.std.specs.List.{list_any}

pub record FreeNumbers : Type 0 where
  -- of each number below the count, whether it is free
  pub flags : List Bool
  pub promised : ℕ

abbrev pub count_of : FreeNumbers → ℕ
count_of v = length v.flags

abbrev pub is_free : FreeNumbers → ℕ → Bool
is_free v a = slice_index_or v.flags a false

-- how many are free
abbrev pub free_count : FreeNumbers → ℕ
free_count v = count_by (λ free. free) v.flags

-- the least number that is free
pub record IsLeastFree (v : FreeNumbers) (a : ℕ) : Type 0 where
  pub is_free_itself : is_free v a ≡ true
  pub least : (k : ℕ) → is_free v k ≡ true → a ≤ k

-- one number is free, or isn't, and all else stays
abbrev pub with_free : FreeNumbers → ℕ → Bool → FreeNumbers
with_free v a free = record v { flags = slice_set v.flags a free }

abbrev pub with_promised : FreeNumbers → ℕ → FreeNumbers
with_promised v n = record v { promised = n }

abbrev pub is_used : List ℕ → ℕ → Bool
is_used used a = list_any (nat_eq a) used

-- no number below one is free
pub record IsBelowAll (flags : List Bool) (lowest : ℕ) : Type 0 where
  pub within : lowest ≤ length flags
  pub none : (a : ℕ) → a < lowest → slice_index_or flags a false ≡ false
