-- A run of the whole system with its schedule: what is done under each event, and the lines that this gives.
use Rattle.std.specs.Prelude.{◌≡◌, ◌≤◌, ℕ, ◌+◌, ◌-◌, Bool, true, false, nat_eq, ◌&&◌, if◌then◌else◌, List, [], ◌∷◌, ◌++◌, length, drop, map}
use Rattle.std.specs.List.{list_all, list_any}
use Rattle.jn_base.specs.declared.names.ServerNo.{ServerNo}
use Rattle.jn_base.specs.declared.device.Outside.{Outside}
use Rattle.jn_base.specs.declared.device.FaultKind.{FaultKind}
use Rattle.jn_base.specs.Names.{server_eq, client_eq, tid_eq, is_stop}
use Rattle.jn_schedule.specs.declared.Event.{Event}
use Rattle.jn_schedule.specs.declared.Event.TheVariants as events
use Rattle.jn_report.specs.declared.line.EventRefusal.{EventRefusal}
use Rattle.jn_report.specs.declared.line.EventRefusal.TheVariants as refusals
use Rattle.jn_report.specs.declared.line.When.TheVariants.{Event as AtEvent}
use Rattle.jn_report.specs.declared.line.Text.{Text}
use Rattle.jn_report.specs.declared.line.Text.TheVariants as says
use Rattle.jn_report.specs.declared.line.Line.{Line}
use Rattle.jn_report.specs.Kinds.{refuses_event, refuses_fault}
use Rattle.jn_system.specs.WholeSystem.World.{World, at_server}
use Rattle.jn_system.specs.WholeSystem.Steps.{Step, NextEvent, Tell, Again, Deliver, Work, Nudge, Timeout, StopDelivery, StopWork, Crash, Narrow, StopRestart, Restart, after, run, IsRun}
use Rattle.jn_system.specs.WholeSystem.Printing.{Printed}
use Rattle.jn_system.specs.WholeSystem.PrintedLines.{text_printed, IsPrinted}

-- what is done under an event: a step of the whole system, a refusal of the event, a server's fault that is refused, or a
-- server's printing of its files
pub data Act : Type 0 where
  Does : Step → Act
  Refuses : EventRefusal → Act
  Tells : ServerNo → Outside → Act
  Shows : ServerNo → List Printed → Act

pub record Item : Type 0 where
  pub event : Event
  pub acts : List Act

-- ---- the events, the world and the lines of a run

abbrev pub events_of : List Item → List Event
events_of items = map (λ (item : Item). item.event) items

abbrev pub step_of : Act → List Step
step_of (Does step) = step ∷ []
step_of act = []

abbrev pub steps_in : List Act → List Step
steps_in [] = []
steps_in (act ∷ acts) = step_of act ++ steps_in acts

abbrev pub steps_of : List Item → List Step
steps_of [] = []
steps_of (item ∷ items) = NextEvent ∷ steps_in item.acts ++ steps_of items

abbrev pub world_of : List Item → World → World
world_of items w = run (steps_of items) w

-- what an act adds to the lines
abbrev pub told_by : Act → World → List Text
told_by (Does step) w = drop (length w.lines) (after step w).lines
told_by (Refuses refusal) w = says.RefusedEvent refusal ∷ []
told_by (Tells s fault) w = says.Outside s fault ∷ []
told_by (Shows s prints) w = map (text_printed s) prints

abbrev pub told_in : List Act → World → List Text
told_in [] w = []
told_in (act ∷ acts) w = told_by act w ++ told_in acts (run (step_of act) w)

-- what is reported under the next event
abbrev pub told_under : Item → World → List Text
told_under item w = told_in item.acts (after NextEvent w)

abbrev pub after_item : Item → World → World
after_item item w = run (steps_in item.acts) (after NextEvent w)

abbrev pub at_event : ℕ → List Text → List Line
at_event number texts = map (λ (text : Text). record { when = AtEvent number; text = text }) texts

-- the lines, each at the number of its event
abbrev pub lines_of : List Item → World → List Line
lines_of [] w = []
lines_of (item ∷ items) w = at_event (w.event + 1) (told_under item w) ++ lines_of items (after_item item w)

-- ---- what each event may have under it

-- Which steps an event may have, but for a command. A stop within a scrub or a show is that of a step which changes nothing.
-- A decay and a revival have none: what is kept on a page may be found again.
abbrev pub may_do : Event → Step → Bool
may_do (events.Again c) (Again d) = client_eq c d
may_do (events.Deliver k) (Deliver j room) = nat_eq k j
may_do (events.Deliver k) (StopDelivery j room made) = nat_eq k j
may_do events.Settle (Deliver k room) = true
may_do events.Settle (StopDelivery k room made) = true
may_do events.Settle (Work s room) = true
may_do events.Settle (StopWork s room made) = true
may_do events.Settle (Nudge s) = true
may_do events.Settle (Again c) = true
may_do (events.Step s) (Work t room) = server_eq s t
may_do (events.Step s) (StopWork t room made) = server_eq s t
may_do (events.Nudge s) (Nudge t) = server_eq s t
may_do (events.Timeout s T) (Timeout t U) = server_eq s t && tid_eq T U
may_do (events.Scrub s) (StopWork t room made) = server_eq s t
may_do (events.Show s) (StopWork t room made) = server_eq s t
may_do (events.Crash s) (Crash t) = server_eq s t
may_do (events.Restart s) (Narrow t g) = server_eq s t
may_do (events.Restart s) (StopRestart t raised) = server_eq s t
may_do (events.Restart s) (Restart t pick works tids) = server_eq s t
may_do event step = false

-- the events that are for one server
abbrev pub is_at_server : Event → Bool
is_at_server (events.Step s) = true
is_at_server (events.Nudge s) = true
is_at_server (events.Timeout s T) = true
is_at_server (events.Scrub s) = true
is_at_server (events.Decay s page) = true
is_at_server (events.Revive s page) = true
is_at_server (events.Arm s n kind) = true
is_at_server (events.Crash s) = true
is_at_server (events.Restart s) = true
is_at_server (events.Show s) = true
is_at_server event = false

abbrev pub needs_up : Event → Bool
needs_up (events.Step s) = true
needs_up (events.Nudge s) = true
needs_up (events.Timeout s T) = true
needs_up (events.Scrub s) = true
needs_up (events.Crash s) = true
needs_up (events.Show s) = true
needs_up event = false

abbrev pub may_refuse : EventRefusal → Event → Bool
may_refuse refusals.NoSuchServer event = is_at_server event
may_refuse refusals.ServerDown event = needs_up event
may_refuse refusals.ServerUp (events.Restart s) = true
may_refuse refusals.NoSuchMessage (events.Deliver k) = true
may_refuse refusals.NoSuchWork (events.Timeout s T) = true
may_refuse refusals.EpochsUsedUp (events.Restart s) = true
may_refuse refusals.TooManyArmed (events.Arm s n kind) = true
may_refuse refusals.NoSuchPage (events.Decay s page) = true
may_refuse refusals.NoSuchPage (events.Revive s page) = true
may_refuse refusals.NoSuchPage (events.Arm s n kind) = true
may_refuse refusal event = false

-- the events under which a server calls its device, or a page of it goes bad
abbrev pub may_tell : Event → ServerNo → Bool
may_tell (events.Deliver k) t = true
may_tell events.Settle t = true
may_tell (events.Step s) t = server_eq s t
may_tell (events.Scrub s) t = server_eq s t
may_tell (events.Decay s page) t = server_eq s t
may_tell (events.Restart s) t = server_eq s t
may_tell (events.Show s) t = server_eq s t
may_tell event t = false

abbrev pub may_show : Event → ServerNo → Bool
may_show (events.Show s) t = server_eq s t
may_show event t = false

abbrev pub may_act : Event → Act → Bool
may_act event (Does step) = may_do event step
may_act event (Refuses refusal) = may_refuse refusal event
may_act event (Tells t fault) = may_tell event t
may_act event (Shows t prints) = may_show event t

-- a command is the one step that tells its client, and no event is a call; each other event has any of what it may have, but for what shows ask
-- besides
abbrev pub IsUnder : Event → List Act → Type 0
IsUnder (events.Command c command) acts = acts ≡ Does (Tell c command) ∷ []
IsUnder (events.Call c s call) acts = ⊥
IsUnder event acts = list_all (may_act event) acts ≡ true

abbrev pub AreUnder : List Item → Type 0
AreUnder [] = Unit {0}
AreUnder (item ∷ items) = IsUnder item.event item.acts × AreUnder items

-- ---- shows

-- perhaps faults that are refused, and then the printing of what is there, or a stop of the server
abbrev pub GoesOver : ServerNo → World → List Act → Type 0
GoesOver s w (Tells t fault ∷ acts) = GoesOver s w acts
GoesOver s w (Shows t prints ∷ []) = IsPrinted s w prints
GoesOver s w (Does step ∷ []) = told_by (Does step) w ≡ says.Stopped s ∷ []
GoesOver s w acts = ⊥

-- a show is refused, or goes over the server's files
abbrev pub IsShow : ServerNo → World → List Act → Type 0
IsShow s w (Refuses refusal ∷ []) = Unit {0}
IsShow s w acts = GoesOver s w acts

abbrev pub IsShown : Event → World → List Act → Type 0
IsShown (events.Show s) w acts = IsShow s w acts
IsShown event w acts = Unit {0}

abbrev pub AreShown : List Item → World → Type 0
AreShown [] w = Unit {0}
AreShown (item ∷ items) w = IsShown item.event (after NextEvent w) item.acts × AreShown items (after_item item w)

-- ---- faults that wait

-- how many stops wait at each server's device, and how many faults that may yet be refused
pub record Waiting : Type 0 where
  pub stops : ServerNo → ℕ
  pub faults : ServerNo → ℕ

abbrev pub none_wait : Waiting
none_wait = record { stops = λ s. 0; faults = λ s. 0 }

abbrev pub one_more : ServerNo → (ServerNo → ℕ) → ServerNo → ℕ
one_more s counts = at_server counts s (counts s + 1)

abbrev pub one_less : ServerNo → (ServerNo → ℕ) → ServerNo → ℕ
one_less s counts = at_server counts s (counts s - 1)

abbrev pub armed : ServerNo → FaultKind → Waiting → Waiting
armed s kind x = record { stops = if is_stop kind then one_more s x.stops else x.stops; faults = one_more s x.faults }

-- what waits once an event begins, under which this is reported: an arm that isn't refused has its fault wait, and a decay that
-- is refused is a fault of its own event alone
abbrev pub with_event : Event → List Text → Waiting → Waiting
with_event (events.Arm s n kind) texts x = if list_any refuses_event texts then x else armed s kind x
with_event (events.Decay s page) texts x = if list_any (refuses_fault s) texts then record x { faults = one_more s x.faults } else x
with_event event texts x = x

abbrev pub strikes : Text → Waiting → Waiting
strikes (says.Stopped s) x = record x { stops = one_less s x.stops }
strikes (says.Outside s fault) x = record x { faults = one_less s x.faults }
strikes text x = x

abbrev pub strike_all : List Text → Waiting → Waiting
strike_all [] x = x
strike_all (text ∷ texts) x = strike_all texts (strikes text x)

-- a server stops, and reports a fault, only where one waits
abbrev pub IsStruck : Waiting → Text → Type 0
IsStruck x (says.Stopped s) = 1 ≤ x.stops s
IsStruck x (says.Outside s fault) = 1 ≤ x.faults s
IsStruck x text = Unit {0}

abbrev pub AreStruck : Waiting → List Text → Type 0
AreStruck x [] = Unit {0}
AreStruck x (text ∷ texts) = IsStruck x text × AreStruck (strikes text x) texts

abbrev pub waiting_in : Waiting → Item → World → Waiting
waiting_in x item w = with_event item.event (told_under item w) x

abbrev pub FaultsWait : Waiting → List Item → World → Type 0
FaultsWait x [] w = Unit {0}
FaultsWait x (item ∷ items) w = AreStruck (waiting_in x item w) (told_under item w)
    × FaultsWait (strike_all (told_under item w) (waiting_in x item w)) items (after_item item w)

-- ---- runs

-- under each event is what it may have, each restart reads what it finds, each show prints what is there, and each fault has waited
pub record IsReported (items : List Item) (w : World) : Type 0 where
  pub under : AreUnder items
  pub steps : IsRun (steps_of items) w
  pub shows : AreShown items w
  pub faults : FaultsWait none_wait items w
