-- The numbers that slots have.
use Rattle.std.specs.Prelude.{◌≡◌, ℕ, ◌≤◌, nat_lt, Bool, true, List, slice_index_or, Option, Some, None}

-- a slot's number: none past the last slot
abbrev pub number_at : List (Option ℕ) → ℕ → Option ℕ
number_at numbers slot = slice_index_or numbers slot None

-- the lowest slot with a number from a slot on
pub record IsSlotFrom (numbers : List (Option ℕ)) (number from slot : ℕ) : Type 0 where
  pub here : number_at numbers slot ≡ Some number
  pub above : from ≤ slot
  pub lowest : (k : ℕ) → from ≤ k → number_at numbers k ≡ Some number → slot ≤ k

abbrev pub is_above : Option ℕ → ℕ → Bool
is_above None n = true
is_above (Some after) n = nat_lt after n

-- the least number above another that a slot has, or the least of all
pub record IsNumberAbove (numbers : List (Option ℕ)) (after : Option ℕ) (number : ℕ) : Type 0 where
  pub slot : ℕ
  pub here : number_at numbers slot ≡ Some number
  pub above : is_above after number ≡ true
  pub least : (k n : ℕ) → number_at numbers k ≡ Some n → is_above after n ≡ true → number ≤ n
