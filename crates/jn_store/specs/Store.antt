-- A store of stable pages: each has one or two candidates, and a get answers one of them.
use Rattle.std.specs.Prelude.{◌≡◌, ◌≢◌, ◌⊎◌, ℕ, ◌+◌, ◌*◌, ◌≤◌, ◌<◌, Bool, true, false, List, [], Result, Ok, is_ok}
use Rattle.jn_base.specs.declared.device.Stopped.{Stopped}
use Rattle.jn_base.specs.declared.device.Outside.{Outside}
use Rattle.jn_device.specs.declared.Armed.{Armed}
use Rattle.jn_device.specs.Device.{DeviceState, blank_page}
use Rattle.jn_base.specs.Counts.{Rose}
use Rattle.jn_device.specs.Happens.{Happens}
use Rattle.jn_device.specs.Later.{Spends}

-- what its users see of a store
pub record StoreView : Type 0 where
  pub count : ℕ
  -- that it stands on
  pub device : DeviceState
  -- the bytes of the two halves that each stable page is kept as, good or bad: its candidates
  pub first : ℕ → List ℕ
  pub second : ℕ → List ℕ
  -- whether both halves are good
  pub both : ℕ → Bool
  pub power : Bool
  -- the faults that wait, and those that were reported as outside the allowed ones
  pub waiting : List Armed
  pub told : List Outside
  -- the device's calls done, the puts among them, and the answers Stopped
  pub calls : ℕ
  pub puts : ℕ
  pub stops : ℕ

abbrev pub Candidate : StoreView → ℕ → List ℕ → Type 0
Candidate v i x = (x ≡ v.first i) ⊎ (x ≡ v.second i)

-- a page has one candidate
abbrev pub IsClean : StoreView → ℕ → Type 0
IsClean v i = v.first i ≡ v.second i

-- and this is the one
pub record IsOnly (v : StoreView) (i : ℕ) (page : List ℕ) : Type 0 where
  pub first : v.first i ≡ page
  pub second : v.second i ≡ page

-- both halves of a page are good and equal
pub record IsWholePage (v : StoreView) (i : ℕ) : Type 0 where
  pub both : v.both i ≡ true
  pub clean : IsClean v i

-- no fault waits, and there is power
pub record IsCalm (v : StoreView) : Type 0 where
  pub quiet : v.waiting ≡ []
  pub power : v.power ≡ true

-- a page's candidates after are among those before
abbrev pub Shrinks : StoreView → StoreView → ℕ → Type 0
Shrinks v w i = (x : List ℕ) → Candidate w i x → Candidate v i x

-- a page's candidates stay
pub record IsSamePage (v w : StoreView) (i : ℕ) : Type 0 where
  pub first : w.first i ≡ v.first i
  pub second : w.second i ≡ v.second i

-- each page's candidates stay, as where something befalls the device between its calls
pub record HasSamePages (v w : StoreView) : Type 0 where
  pub count : w.count ≡ v.count
  pub pages : (i : ℕ) → IsSamePage v w i

-- what every call keeps, and so every run of calls
pub record StoreLater (v w : StoreView) : Type 0 where
  -- what happens to its device goes on by calls
  pub happens : (from : DeviceState) → Happens from v.device → Happens from w.device
  pub count : w.count ≡ v.count
  pub calls : v.calls ≤ w.calls
  pub puts : v.puts ≤ w.puts
  pub stops : v.stops ≤ w.stops
  pub spends : Spends v.waiting w.waiting v.told w.told v.power w.power
  pub quiet : v.waiting ≡ [] → w.waiting ≡ []
  pub calm : IsCalm v → IsCalm w
  pub no_stop : IsCalm v → w.stops ≡ v.stops
  pub whole : IsCalm v → (i : ℕ) → i < v.count → IsWholePage v i → IsWholePage w i

-- a call that is answered Ok
pub record IsServed (v w : StoreView) : Type 0 where
  pub power : w.power ≡ true
  pub stops : w.stops ≡ v.stops

-- a call that is answered Stopped
pub record IsStop (v w : StoreView) : Type 0 where
  pub rose : Rose v.stops w.stops
  pub dark : w.power ≡ false

-- the store step of a get of page i: it changes no page
pub record StoreGot (v : StoreView) (i : ℕ) (answer : Result (List ℕ) Stopped) (w : StoreView) : Type 0 where
  pub later : StoreLater v w
  pub calls : w.calls ≤ v.calls + 8
  pub puts : w.puts ≡ v.puts
  pub found : (x : List ℕ) → answer ≡ Ok x → Candidate v i x
  pub same : (j : ℕ) → IsSamePage v w j
  pub served : is_ok answer ≡ true → IsServed v w
  pub stop : is_ok answer ≡ false → IsStop v w
  pub calm : IsCalm v → is_ok answer ≡ true

-- so many gets: no page changes
pub record StoreRead (v : StoreView) (gets : ℕ) (w : StoreView) : Type 0 where
  pub later : StoreLater v w
  pub calls : w.calls ≤ v.calls + 8 * gets
  pub puts : w.puts ≡ v.puts
  pub same : (j : ℕ) → IsSamePage v w j

-- the store step of a put of a page at i
pub record StorePut (v : StoreView) (i : ℕ) (page : List ℕ) (ok : Bool) (w : StoreView) : Type 0 where
  pub later : StoreLater v w
  pub calls : w.calls ≤ v.calls + 16
  pub done : ok ≡ true → IsOnly w i page
  -- a stop leaves some of the old candidates and the new page
  pub part : (x : List ℕ) → Candidate w i x → (x ≡ page) ⊎ Candidate v i x
  pub others : (j : ℕ) → j < v.count → j ≢ i → IsSamePage v w j
  pub served : ok ≡ true → IsServed v w
  pub stop : ok ≡ false → IsStop v w
  pub calm : IsCalm v → (ok ≡ true) × IsWholePage w i

-- the store step of a cleanup of page i
pub record StoreCleaned (v : StoreView) (i : ℕ) (answer : Result Bool Stopped) (w : StoreView) : Type 0 where
  pub later : StoreLater v w
  pub calls : w.calls ≤ v.calls + 16
  pub kept : Shrinks v w i
  pub clean : is_ok answer ≡ true → IsClean w i
  pub others : (j : ℕ) → j < v.count → j ≢ i → IsSamePage v w j
  -- it answers whether it wrote, and a whole page needs no write
  pub wrote : answer ≡ Ok true → Rose v.puts w.puts
  pub unwritten : answer ≡ Ok false → (w.puts ≡ v.puts) × ((j : ℕ) → IsSamePage v w j)
  pub needless : IsCalm v → IsWholePage v i → answer ≡ Ok false
  pub served : is_ok answer ≡ true → IsServed v w
  pub stop : is_ok answer ≡ false → IsStop v w
  pub calm : IsCalm v → (is_ok answer ≡ true) × IsWholePage w i

-- pages of zeros, and no fault
pub record IsBlank (count : ℕ) (v : StoreView) : Type 0 where
  pub count_is : v.count ≡ count
  pub pages : (i : ℕ) → i < count → IsOnly v i blank_page
  pub whole : (i : ℕ) → i < count → IsWholePage v i
  pub calm : IsCalm v
  pub told : v.told ≡ []
  pub calls : v.calls ≡ 0
  pub puts : v.puts ≡ 0
  pub stops : v.stops ≡ 0
