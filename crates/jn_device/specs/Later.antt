-- What every run of calls keeps.
use Rattle.std.specs.Prelude.{◌≡◌, ◌⊎◌, ℕ, ◌+◌, ◌≤◌, ◌<◌, Bool, true, false, if◌then◌else◌, nat_eq, List, [], ◌∷◌}
use Rattle.jn_base.specs.Names.{is_stop}
use Rattle.jn_base.specs.declared.device.FaultKind.{FaultKind}
use Rattle.jn_base.specs.declared.device.FaultKind.TheVariants.{Decay, Revive}
use Rattle.jn_base.specs.declared.device.Outside.{Outside}
use Rattle.jn_device.specs.declared.Armed.{Armed}
use Rattle.jn_device.specs.Device.{DeviceState, IsSoundDevice}

-- how many of the faults that wait are of these kinds
abbrev pub count_kind : (FaultKind → Bool) → List Armed → ℕ
count_kind f [] = 0
count_kind f (w ∷ ws) = (if f w.kind then 1 else 0) + count_kind f ws

-- how many of those that were reported
abbrev pub count_told : (FaultKind → Bool) → List Outside → ℕ
count_told f [] = 0
count_told f (o ∷ os) = (if f o.kind then 1 else 0) + count_told f os

-- a fault that strikes page q by itself
abbrev pub touches : ℕ → FaultKind → Bool
touches q (Decay d) = nat_eq d q
touches q (Revive d) = nat_eq d q
touches q _ = false

-- 1 without power
abbrev pub darkness : Bool → ℕ
darkness power = if power then 0 else 1

-- where the faults went
pub record Spends (waiting waiting' : List Armed) (told told' : List Outside) (power power' : Bool) : Type 0 where
  -- none was added
  pub used : (f : FaultKind → Bool) → count_kind f waiting' ≤ count_kind f waiting
  -- each that was reported used up one that waited
  pub told_of : (f : FaultKind → Bool) → count_kind f waiting' + count_told f told' ≤ count_kind f waiting + count_told f told
  -- and so did a stop that took the power
  pub stop_of : count_kind is_stop waiting' + darkness power' ≤ count_kind is_stop waiting + darkness power
  -- no call brings the power
  pub dark : power ≡ false → power' ≡ false

pub record Later (s t : DeviceState) : Type 0 where
  pub count : t.count ≡ s.count
  pub calls : s.calls ≤ t.calls
  pub puts : s.puts ≤ t.puts
  pub stops : s.stops ≤ t.stops
  pub spends : Spends s.waiting t.waiting s.told t.told s.power t.power
  pub sound : IsSoundDevice s → IsSoundDevice t
  pub quiet : s.waiting ≡ [] → t.waiting ≡ []
  -- with power and no fault waiting
  pub power : s.waiting ≡ [] → s.power ≡ true → t.power ≡ true
  pub no_stop : s.waiting ≡ [] → s.power ≡ true → t.stops ≡ s.stops
  pub good : s.waiting ≡ [] → s.power ≡ true → (q : ℕ) → (s.pages q).good ≡ true → (t.pages q).good ≡ true

-- page q became good or bad only where a decay or a revival of it struck
abbrev pub Struck : ℕ → DeviceState → DeviceState → Type 0
Struck q s t = ((t.pages q).good ≡ (s.pages q).good) ⊎ (count_kind (touches q) t.waiting < count_kind (touches q) s.waiting)
