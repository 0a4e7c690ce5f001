-- What a careful get and a careful put do.
use Rattle.std.specs.Prelude.{◌≡◌, ◌≢◌, ◌⊎◌, ℕ, ◌+◌, ◌≤◌, Bool, true, false, List, [], Option, Some, None, Result, Ok, Err}
use Rattle.jn_base.specs.declared.device.Stopped.{Stopped}
use Rattle.jn_device.specs.Device.{DeviceState, partner_of}
use Rattle.jn_base.specs.Counts.{Rose}
use Rattle.jn_device.specs.Later.{Later, Struck}
use Rattle.jn_device.specs.Happens.{Happens}
use Rattle.jn_phys.specs.declared.Found.{Found}
use Rattle.jn_phys.specs.declared.Found.TheVariants.{Same, Other, LooksBad}

-- a call that is answered Ok: the power is there, and no stop was counted
pub record IsServed (s t : DeviceState) : Type 0 where
  pub power : t.power ≡ true
  pub stops : t.stops ≡ s.stops

-- a call that is answered Stopped
pub record IsStopped (s t : DeviceState) : Type 0 where
  pub power : t.power ≡ false
  pub stops : Rose s.stops t.stops

-- a page that is read, of which these are the bytes, or none where it is bad
abbrev pub page_read : Result Bool Stopped → List ℕ → Result (Option (List ℕ)) Stopped
page_read (Ok true) bytes = Ok (Some bytes)
page_read (Ok false) bytes = Ok None
page_read (Err e) bytes = Err e

-- and one that is compared
abbrev pub page_compared : Result Found Stopped → List ℕ → Result (Option (List ℕ)) Stopped
page_compared (Ok Same) bytes = Ok (Some bytes)
page_compared (Ok Other) bytes = Ok (Some bytes)
page_compared (Ok LooksBad) bytes = Ok None
page_compared (Err e) bytes = Err e

-- a careful get of page p, from s to t
pub record CarefulGot (s : DeviceState) (p : ℕ) (answer : Result (Option (List ℕ)) Stopped) (t : DeviceState) : Type 0 where
  pub happens : (from : DeviceState) → Happens from s → Happens from t
  pub later : Later s t
  pub calls : t.calls ≤ s.calls + 4
  pub puts : t.puts ≡ s.puts
  -- no bytes change, and a page becomes good or bad only by a fault that struck it
  pub struck : (q : ℕ) → q ≢ p → Struck q s t
  pub own : Struck p s t
  pub bytes : (q : ℕ) → (t.pages q).bytes ≡ (s.pages q).bytes
  pub good : (v : List ℕ) → answer ≡ Ok (Some v) → (v ≡ (t.pages p).bytes) × ((t.pages p).good ≡ true)
  pub bad : answer ≡ Ok None → (t.pages p).good ≡ false
  -- the one good half of a pair is read
  pub half : answer ≡ Ok None → partner_of s p ≢ p → (s.pages p).good ≡ true → (s.pages (partner_of s p)).good ≡ false → ⊥
  pub served : (a : Option (List ℕ)) → answer ≡ Ok a → IsServed s t
  pub stopped : (w : Stopped) → answer ≡ Err w → IsStopped s t
  pub calm : s.waiting ≡ [] → s.power ≡ true → (w : Stopped) → answer ≡ Err w → ⊥

-- a careful put of a page at p, from s to t
pub record CarefulPut (s : DeviceState) (p : ℕ) (new : List ℕ) (stopped : Bool) (t : DeviceState) : Type 0 where
  pub happens : (from : DeviceState) → Happens from s → Happens from t
  pub later : Later s t
  pub calls : t.calls ≤ s.calls + 8
  pub struck : (q : ℕ) → q ≢ p → Struck q s t
  pub others : (q : ℕ) → q ≢ p → (t.pages q).bytes ≡ (s.pages q).bytes
  pub bytes : ((t.pages p).bytes ≡ new) ⊎ ((t.pages p).bytes ≡ (s.pages p).bytes)
  pub done : stopped ≡ false → ((t.pages p).good ≡ true) × ((t.pages p).bytes ≡ new)
  pub wrote : stopped ≡ false → Rose s.puts t.puts
  pub served : stopped ≡ false → IsServed s t
  pub stop : stopped ≡ true → IsStopped s t
  pub calm : s.waiting ≡ [] → s.power ≡ true → stopped ≡ false
