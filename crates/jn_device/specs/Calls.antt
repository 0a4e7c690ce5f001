-- One call of the device: what it meets, what it does to its page, what it answers and what it reports.
use Rattle.std.specs.Prelude.{◌≡◌, ◌≢◌, ℕ, ◌-◌, ◌+◌, ◌/◌, nat_lt, Bool, true, false, not, ◌&&◌, if◌then◌else◌, List, [], ◌∷◌, ◌++◌, Option, Some, None, Result, Ok, Err}
use Rattle.jn_base.specs.declared.device.FaultKind.{FaultKind}
use Rattle.jn_base.specs.declared.device.FaultKind.TheVariants.{Soft, Null, Bad, Decay, StopBefore, StopTorn, StopAfter}
use Rattle.jn_base.specs.declared.device.Outside.{Outside}
use Rattle.jn_base.specs.declared.device.Stopped.{Stopped}
use Rattle.jn_device.specs.declared.Armed.{Armed}
use Rattle.jn_device.specs.declared.Look.{Look}
use Rattle.jn_device.specs.declared.Look.TheVariants.{Good, LooksBad}
use Rattle.jn_device.specs.declared.GetOutcome.{GetOutcome}
use Rattle.jn_device.specs.declared.GetOutcome.TheVariants.{Unread, Reads, Misreads, ReadsAndStops}
use Rattle.jn_device.specs.declared.PutOutcome.{PutOutcome}
use Rattle.jn_device.specs.declared.PutOutcome.TheVariants.{Unwritten, Writes, Misses, Spoils, Tears, WritesAndStops}
use Rattle.jn_device.specs.Device.{PageState, DeviceState, partner_of, partner_at, may_fail, may_decay_at, page_met}
use Rattle.jn_base.specs.Counts.{bumped}

-- the fault that meets the next call
abbrev pub due : List Armed → Option FaultKind
due [] = None
due (w ∷ ws) = if nat_lt w.after 2 then Some w.kind else due ws

-- what waits after that call
abbrev pub waiting_on : List Armed → List Armed
waiting_on [] = []
waiting_on (w ∷ ws) = if nat_lt w.after 2 then waiting_on ws else (record { after = w.after - 1; kind = w.kind }) ∷ waiting_on ws

-- none strikes without power
abbrev pub strike : DeviceState → Option FaultKind
strike s = if s.power then due s.waiting else None

-- a get of a page with this fault
abbrev pub got_under : PageState → Option FaultKind → GetOutcome
got_under x (Some Soft) = if x.good && may_fail x then Misreads else Reads
got_under x (Some StopBefore) = Unread
got_under x (Some StopTorn) = Unread
got_under x (Some StopAfter) = ReadsAndStops
got_under x _ = Reads

abbrev pub get_outcome : DeviceState → ℕ → GetOutcome
get_outcome s p = if s.power then got_under (s.pages p) (due s.waiting) else Unread

-- a put at a page with this fault; `partner` tells whether the page's partner is good
abbrev pub put_under : PageState → Bool → Option FaultKind → PutOutcome
put_under x partner (Some Null) = if may_fail x then Misses else Writes
put_under x partner (Some Bad) = if may_fail x && partner then Spoils else Writes
put_under x partner (Some StopBefore) = Unwritten
put_under x partner (Some StopTorn) = if partner then Tears else Unwritten
put_under x partner (Some StopAfter) = WritesAndStops
put_under x partner _ = Writes

abbrev pub put_outcome : DeviceState → ℕ → PutOutcome
put_outcome s p = if s.power then put_under (s.pages p) (s.pages (partner_of s p)).good (due s.waiting) else Unwritten

-- a page as it is after it was read: a good one has failed no more, if it holds the last put
abbrev pub rested_by_read : PageState → PageState
rested_by_read x = if x.good && not x.missed then record x { fails = 0 } else x

-- a page as a get leaves it
abbrev pub page_got : GetOutcome → PageState → PageState
page_got Unread x = x
page_got Reads x = rested_by_read x
page_got Misreads x = record x { fails = x.fails + 1 }
page_got ReadsAndStops x = rested_by_read x

abbrev pub answer_got : GetOutcome → PageState → Result Look Stopped
answer_got Reads x = if x.good then Ok (Good x.bytes) else Ok LooksBad
answer_got Misreads x = Ok LooksBad
answer_got _ x = Err (record {})

-- a page as a put leaves it
abbrev pub page_put : PutOutcome → List ℕ → PageState → PageState
page_put Unwritten new x = x
page_put Writes new x = record { good = true; bytes = new; missed = false; fails = x.fails }
page_put Misses new x = record x { missed = true; fails = x.fails + 1 }
page_put Spoils new x = record { good = false; bytes = new; missed = false; fails = x.fails + 1 }
page_put Tears new x = record { good = false; bytes = new; missed = false; fails = x.fails }
page_put WritesAndStops new x = record { good = true; bytes = new; missed = false; fails = x.fails }

-- whether a get is answered Stopped, and whether it is done
abbrev pub get_stops : GetOutcome → Bool
get_stops Reads = false
get_stops Misreads = false
get_stops _ = true

abbrev pub get_is_done : GetOutcome → Bool
get_is_done Unread = false
get_is_done _ = true

-- and a put
abbrev pub put_stops : PutOutcome → Bool
put_stops Writes = false
put_stops Misses = false
put_stops Spoils = false
put_stops _ = true

abbrev pub put_is_done : PutOutcome → Bool
put_is_done Unwritten = false
put_is_done _ = true

-- a decay of a good page that may not go bad
abbrev pub decay_outside : ℕ → (ℕ → PageState) → ℕ → Bool
decay_outside half pages d = (pages d).good && not (may_decay_at half pages d)

-- whether a fault that meets a get of page p is not allowed there, or doesn't fit
abbrev pub got_outside : ℕ → (ℕ → PageState) → ℕ → FaultKind → Bool
got_outside half pages p Soft = (pages p).good && not (may_fail (pages p))
got_outside half pages p (Decay d) = decay_outside half pages d
got_outside half pages p Null = true
got_outside half pages p Bad = true
got_outside half pages p StopTorn = true
got_outside half pages p _ = false

-- and a put at page p
abbrev pub put_outside : ℕ → (ℕ → PageState) → ℕ → FaultKind → Bool
put_outside half pages p Soft = true
put_outside half pages p (Decay d) = decay_outside half pages d
put_outside half pages p Null = not (may_fail (pages p))
put_outside half pages p Bad = not (may_fail (pages p) && (pages (partner_at half p)).good)
put_outside half pages p StopTorn = not (pages (partner_at half p)).good
put_outside half pages p _ = false

-- the page of a fault that meets a call at page p
abbrev pub struck_page : ℕ → FaultKind → ℕ
struck_page p (Decay d) = d
struck_page p _ = p

-- what is reported of the fault that met a call at page p
abbrev pub told_of : (FaultKind → Bool) → ℕ → Option FaultKind → List Outside
told_of is_outside p None = []
told_of is_outside p (Some k) = if is_outside k then (record { kind = k; page = struck_page p k }) ∷ [] else []

-- what each call does to the power, the counts and the faults
pub record CallStep (s : DeviceState) (stops is_done : Bool) (told : List Outside) (t : DeviceState) : Type 0 where
  pub count : t.count ≡ s.count
  pub power : t.power ≡ not stops
  pub waiting : t.waiting ≡ (if s.power then waiting_on s.waiting else s.waiting)
  pub told_is : t.told ≡ s.told ++ told
  pub calls : t.calls ≡ (if is_done then bumped s.calls else s.calls)
  pub stops_are : t.stops ≡ (if stops then bumped s.stops else s.stops)

-- the device step of a get of page p
pub record GetStep (s : DeviceState) (p : ℕ) (answer : Result Look Stopped) (t : DeviceState) : Type 0 where
  pub call : CallStep s (get_stops (get_outcome s p)) (get_is_done (get_outcome s p)) (told_of (got_outside (s.count / 2) s.pages p) p (strike s)) t
  pub answers : answer ≡ answer_got (get_outcome s p) (page_met s (strike s) p)
  pub page : t.pages p ≡ page_got (get_outcome s p) (page_met s (strike s) p)
  pub others : (q : ℕ) → q ≢ p → t.pages q ≡ page_met s (strike s) q
  pub puts : t.puts ≡ s.puts

-- the device step of a put of a page at p
pub record PutStep (s : DeviceState) (p : ℕ) (new : List ℕ) (stopped : Bool) (t : DeviceState) : Type 0 where
  pub call : CallStep s (put_stops (put_outcome s p)) (put_is_done (put_outcome s p)) (told_of (put_outside (s.count / 2) s.pages p) p (strike s)) t
  pub answers : stopped ≡ put_stops (put_outcome s p)
  pub page : t.pages p ≡ page_put (put_outcome s p) new (page_met s (strike s) p)
  pub others : (q : ℕ) → q ≢ p → t.pages q ≡ page_met s (strike s) q
  pub puts : t.puts ≡ (if put_is_done (put_outcome s p) then bumped s.puts else s.puts)
