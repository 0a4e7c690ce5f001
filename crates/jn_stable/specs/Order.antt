-- In which order the two halves of a stable page are used: page i is kept at i and at i + N.
use Rattle.std.specs.Prelude.{◌≡◌, ◌⊎◌, ℕ, ◌+◌, ◌/◌, true, false, List, [], Result, Ok}
use Rattle.jn_base.specs.declared.device.Stopped.{Stopped}
use Rattle.jn_device.specs.Device.{PageState, DeviceState}

abbrev pub second_of : DeviceState → ℕ → PageState
second_of s i = s.pages (i + s.count / 2)

-- a get: the first half, else the second; with power, and no fault waiting
pub record GetsInOrder (s : DeviceState) (i : ℕ) (answer : Result (List ℕ) Stopped) : Type 0 where
  pub first : s.waiting ≡ [] → s.power ≡ true → (s.pages i).good ≡ true → answer ≡ Ok (s.pages i).bytes
  pub second : s.waiting ≡ [] → s.power ≡ true → (s.pages i).good ≡ false → answer ≡ Ok (second_of s i).bytes

-- a put: the second half only once the first holds the new page
abbrev pub PutsInOrder : DeviceState → ℕ → List ℕ → DeviceState → Type 0
PutsInOrder s i page t = ((second_of t i).bytes ≡ (second_of s i).bytes) ⊎ ((t.pages i).bytes ≡ page)

-- a cleanup: the first half is kept, else the second; with power, and no fault waiting
pub record CleansInOrder (s : DeviceState) (i : ℕ) (t : DeviceState) : Type 0 where
  pub first : s.waiting ≡ [] → s.power ≡ true → (s.pages i).good ≡ true → (t.pages i).bytes ≡ (s.pages i).bytes
  pub second : s.waiting ≡ [] → s.power ≡ true → (s.pages i).good ≡ false → (second_of t i).bytes ≡ (second_of s i).bytes
