-- What befalls the device between its calls.
use Rattle.std.specs.Prelude.{◌≡◌, ℕ, ◌/◌, nat_lt, nat_eq, Bool, true, false, not, ◌&&◌, ◌||◌, if◌then◌else◌, List, [], ◌∷◌, ◌++◌, length, Some}
use Rattle.jn_base.specs.declared.device.FaultKind.{FaultKind}
use Rattle.jn_base.specs.declared.device.FaultKind.TheVariants.{Decay, Revive}
use Rattle.jn_device.specs.declared.Armed.{Armed}
use Rattle.jn_device.specs.Device.{PageState, DeviceState, page_met}
use Rattle.jn_device.specs.Calls.{decay_outside}

-- new pages and power, and all else as before
pub record Becomes (s : DeviceState) (pages : ℕ → PageState) (power : Bool) (t : DeviceState) : Type 0 where
  pub count : t.count ≡ s.count
  pub pages_are : (q : ℕ) → t.pages q ≡ pages q
  pub power_is : t.power ≡ power
  pub waiting : t.waiting ≡ s.waiting
  pub told : t.told ≡ s.told
  pub calls : t.calls ≡ s.calls
  pub puts : t.puts ≡ s.puts
  pub stops : t.stops ≡ s.stops

-- a page as it is when the power comes
abbrev pub rested : PageState → PageState
rested x = record x { missed = false; fails = 0 }

-- the power comes
abbrev pub PowersUp : DeviceState → DeviceState → Type 0
PowersUp s t = Becomes s (λ q. rested (s.pages q)) true t

-- the power goes
abbrev pub powered_off : DeviceState → DeviceState
powered_off s = record s { power = false }

-- a decay of page p: false is answered exactly where it is outside, and then nothing is done
pub record Decays (s : DeviceState) (p : ℕ) (answer : Bool) (t : DeviceState) : Type 0 where
  pub answers : answer ≡ not (decay_outside (s.count / 2) s.pages p)
  pub becomes : Becomes s (page_met s (Some (Decay p))) s.power t

-- a revival of page p
abbrev pub Revives : DeviceState → ℕ → DeviceState → Type 0
Revives s p t = Becomes s (page_met s (Some (Revive p))) s.power t

-- a fault waits for the n-th call
abbrev pub is_taken : ℕ → List Armed → Bool
is_taken n [] = false
is_taken n (w ∷ ws) = nat_eq w.after n || is_taken n ws

-- sixteen may wait, each for a call of its own
abbrev pub may_arm : ℕ → List Armed → Bool
may_arm n ws = nat_lt (length ws) 16 && not (is_taken n ws)

-- a fault names a page that there is
abbrev pub is_within : ℕ → FaultKind → Bool
is_within n (Decay d) = nat_lt d n
is_within n (Revive d) = nat_lt d n
is_within n _ = true

-- a fault is armed for the n-th call from now, if it may be
pub record Arms (s : DeviceState) (n : ℕ) (kind : FaultKind) (answer : Bool) (t : DeviceState) : Type 0 where
  pub answers : answer ≡ may_arm n s.waiting
  pub armed : t ≡ record s { waiting = if answer then s.waiting ++ (record { after = n; kind = kind }) ∷ [] else s.waiting }

-- no fault waits
abbrev pub disarmed : DeviceState → DeviceState
disarmed s = record s { waiting = [] }

-- what was reported is forgotten
abbrev pub cleared : DeviceState → DeviceState
cleared s = record s { told = [] }
