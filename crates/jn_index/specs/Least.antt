-- The least of numbered things of which something holds.
use Rattle.std.specs.Prelude.{◌≡◌, ◌≤◌, ◌<◌, ◌+◌, ℕ, Bool, true, Option, Some, None, nat_lt, if◌then◌else◌}

-- the number behind one of them, and 0 behind none
abbrev pub number_after : {A : Type 0} → (A → ℕ) → Option A → ℕ
number_after number None = 0
number_after number (Some a) = number a + 1

pub record IsLeastFrom {A : Type 0} (number : A → ℕ) (holds : A → Bool) (from : ℕ) (a : A) : Type 0 where
  pub here : holds a ≡ true
  pub from_there : from ≤ number a
  pub least : (b : A) → holds b ≡ true → from ≤ number b → number a ≤ number b

-- the least from a number on, and none exactly where there is none
abbrev pub LeastFrom : {A : Type 0} → (A → ℕ) → (A → Bool) → ℕ → Option A → Type 0
LeastFrom number holds from (Some a) = IsLeastFrom number holds from a
LeastFrom {A} number holds from None = (b : A) → holds b ≡ true → number b < from

-- the least behind another, or the least of all
abbrev pub NextAfter : {A : Type 0} → (A → ℕ) → (A → Bool) → Option A → Option A → Type 0
NextAfter number holds after next = LeastFrom number holds (number_after number after) next

-- the lesser of two
abbrev pub lesser : {A : Type 0} → (A → ℕ) → Option A → Option A → Option A
lesser number None b = b
lesser number (Some a) None = Some a
lesser number (Some a) (Some b) = if nat_lt (number b) (number a) then Some b else Some a
