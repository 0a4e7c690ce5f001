-- The device's state: its pages, its power, the faults that wait and its counts.
use Rattle.std.specs.Prelude.{◌≡◌, ℕ, ◌+◌, ◌-◌, ◌<◌, ◌/◌, nat_lt, nat_eq, Bool, true, false, ◌&&◌, ◌||◌, if◌then◌else◌, List, replicate, Option, Some}
use Rattle.jn_base.specs.declared.device.FaultKind.{FaultKind}
use Rattle.jn_base.specs.declared.device.FaultKind.TheVariants.{Decay, Revive}
use Rattle.jn_base.specs.declared.device.Outside.{Outside}
use Rattle.jn_device.specs.declared.Armed.{Armed}

-- a physical page
pub record PageState : Type 0 where
  pub good : Bool
  -- a bad page keeps its bytes, which no call sees until a revival makes it good
  pub bytes : List ℕ
  -- the last put did not reach it
  pub missed : Bool
  -- how often it has failed since it was read, or since the power came
  pub fails : ℕ

pub record DeviceState : Type 0 where
  -- how many physical pages there are, two for each stable page
  pub count : ℕ
  pub pages : ℕ → PageState
  pub power : Bool
  -- each with the number of calls until it strikes, from 1
  pub waiting : List Armed
  -- the faults that were outside the allowed ones, the oldest first
  pub told : List Outside
  -- the calls done under power, and the puts among them
  pub calls : ℕ
  pub puts : ℕ
  -- the answers Stopped
  pub stops : ℕ

-- 512 zeros
unfoldable pub blank_page : List ℕ
blank_page = replicate 512 0

-- stable page i is kept at i and at i + half: the other of the two
abbrev pub partner_at : ℕ → ℕ → ℕ
partner_at half p = if nat_lt p half then p + half else p - half

abbrev pub partner_of : DeviceState → ℕ → ℕ
partner_of s p = partner_at (s.count / 2) p

-- a page may fail three times until it is read
abbrev pub may_fail : PageState → Bool
may_fail x = nat_lt x.fails 3

-- and may go bad only where its partner is good
abbrev pub may_decay_at : ℕ → (ℕ → PageState) → ℕ → Bool
may_decay_at half pages q = may_fail (pages q) && (pages (partner_at half q)).good

abbrev pub decayed : PageState → PageState
decayed x = record x { good = false; fails = x.fails + 1 }

-- page q after a fault that strikes a page by itself, or after any other, which waits for its call
abbrev pub met_at : ℕ → (ℕ → PageState) → Option FaultKind → ℕ → PageState
met_at half pages (Some (Decay d)) q = if nat_eq d q && ((pages q).good && may_decay_at half pages q) then decayed (pages q) else pages q
met_at half pages (Some (Revive d)) q = if nat_eq d q then record (pages q) { good = true } else pages q
met_at half pages _ q = pages q

abbrev pub page_met : DeviceState → Option FaultKind → ℕ → PageState
page_met s k q = met_at (s.count / 2) s.pages k q

-- of each pair at least one half is good
abbrev pub IsSoundDevice : DeviceState → Type 0
IsSoundDevice s = (i : ℕ) → i < s.count / 2 → ((s.pages i).good || (s.pages (i + s.count / 2)).good) ≡ true
