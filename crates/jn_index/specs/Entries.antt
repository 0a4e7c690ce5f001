-- The entries of an index: the numbers with their slots, in order.
use Rattle.std.specs.Prelude.{◌≡◌, ℕ, ◌+◌, ◌^◌, ◌<◌, ◌≤◌, count_by, Bool, true, false, ◌&&◌, ◌||◌, nat_lt, nat_eq, List, length, slice_index_or, All, Option, Some, None}
use Rattle.std.specs.List.{Contains}
use Rattle.jn_index.specs.declared.Entry.{Entry}
use Rattle.jn_index.specs.Numbers.{number_at}

abbrev pub entry : ℕ → ℕ → Entry
entry number slot = record { number = number; slot = slot }

abbrev pub entry_at : List Entry → ℕ → Entry
entry_at entries i = slice_index_or entries i (entry 0 0)

-- by number, and then by slot
abbrev pub is_before : Entry → Entry → Bool
is_before a b = nat_lt a.number b.number || (nat_eq a.number b.number && nat_lt a.slot b.slot)

abbrev pub AreRising : List Entry → Type 0
AreRising entries = (i j : ℕ) → i < j → j < length entries → is_before (entry_at entries i) (entry_at entries j) ≡ true

-- the entries of these numbers: one for each slot with a number
pub record AreEntries (numbers : List (Option ℕ)) (entries : List Entry) : Type 0 where
  pub rising : AreRising entries
  pub right : (i : ℕ) → i < length entries → number_at numbers (entry_at entries i).slot ≡ Some (entry_at entries i).number
  pub all : (slot number : ℕ) → number_at numbers slot ≡ Some number → (i : ℕ) × (i < length entries) × (entry_at entries i ≡ entry number slot)

abbrev pub is_none : Option ℕ → Bool
is_none None = true
is_none (Some number) = false

-- an index in memory: its entries, with room for one of each slot without a number
pub record IsIndex (numbers : List (Option ℕ)) (list : List Entry) (capacity : ℕ) : Type 0 where
  pub few : length numbers < 2 ^ 16
  pub entries : AreEntries numbers list
  pub room : length list + count_by is_none numbers ≤ capacity

-- each slot that has a number, with it
pub record AreOf (numbers : List (Option ℕ)) (pairs : List (ℕ × ℕ)) : Type 0 where
  pub right : All (λ (p : ℕ × ℕ). number_at numbers p.1 ≡ Some p.0) pairs
  pub all : (slot number : ℕ) → number_at numbers slot ≡ Some number → Contains pairs (number, slot)
