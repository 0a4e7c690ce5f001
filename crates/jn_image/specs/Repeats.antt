-- Values that stand twice in a list, where a place may also have none.
use Rattle.std.specs.Prelude.{◌≡◌, ◌<◌, ℕ, true, List, get_or, Option, Some, None, nat_lt, if◌then◌else◌}
use Rattle.std.specs.BTreeSet.{BTreeSet, contains}
use Rattle.std.specs.Ordering.{nat_cmp}

-- n is the least number of which P doesn't hold
pub record IsLeastFailing (P : ℕ → Type 0) (n : ℕ) : Type 0 where
  pub fails : P n → ⊥
  pub below : (k : ℕ) → k < n → P k

-- the least number of which P doesn't hold, where there is one
abbrev pub Finds : (ℕ → Type 0) → Option ℕ → Type 0
Finds P (Some n) = IsLeastFailing P n
Finds P None = (n : ℕ) → P n

-- a stands at one place at most
abbrev pub StandsOnce : List (Option ℕ) → ℕ → Type 0
StandsOnce xs a = (i j : ℕ) → get_or xs i None ≡ Some a → get_or xs j None ≡ Some a → i ≡ j

-- a stands at one of the first n places at most
abbrev pub StandsOnceBelow : List (Option ℕ) → ℕ → ℕ → Type 0
StandsOnceBelow xs n a = (i j : ℕ) → i < n → j < n → get_or xs i None ≡ Some a → get_or xs j None ≡ Some a → i ≡ j

-- of the first n places: which values stand there, and the least that stands there twice
pub record AreNoted (xs : List (Option ℕ)) (n : ℕ) (seen : BTreeSet ℕ) (least : Option ℕ) : Type 0 where
  pub kept : (k a : ℕ) → k < n → get_or xs k None ≡ Some a → contains nat_cmp seen a ≡ true
  pub stands : (a : ℕ) → contains nat_cmp seen a ≡ true → (k : ℕ) × (k < n) × (get_or xs k None ≡ Some a)
  pub least_is : Finds (StandsOnceBelow xs n) least

abbrev pub lesser : Option ℕ → ℕ → Option ℕ
lesser (Some least) value = if nat_lt least value then Some least else Some value
lesser None value = Some value
