-- Schedules with faults and crashes, and wrong reports of them: of one server, from new images on good pages.
use Rattle.std.specs.Prelude.{◌≡◌, ℕ, true, List, [], ◌∷◌}
use Rattle.jn_base.specs.declared.device.FaultKind.{FaultKind}
use Rattle.jn_base.specs.declared.device.FaultKind.TheVariants as faults
use Rattle.jn_schedule.specs.declared.Event.{Event}
use Rattle.jn_schedule.specs.declared.Event.TheVariants as events
use Rattle.jn_report.specs.declared.line.EventRefusal.TheVariants.{TooManyArmed}
use Rattle.jn_report.specs.declared.line.Text.TheVariants as says
use Rattle.jn_report.specs.declared.line.Line.{Line}
use Rattle.jn_order.specs.Files.{no_files}
use Rattle.jn_records.specs.StablePages.{root_by}
use Rattle.jn_store.specs.Pairs.{pairs_view}
use Rattle.jn_disks.specs.Disks.{IsNewStore}
use Rattle.jn_system.specs.WholeSystem.ExampleNames.{s0}
use Rattle.jn_machine.specs.Chances.{Setup, Chance}
use Rattle.jn_machine.specs.Tasks.{AtEnd, State}
use Rattle.jn_machine.specs.Devices.{Devices}
use Rattle.jn_machine.specs.Steps.{after}
use Rattle.jn_machine.specs.Whole.{before, IsWhole}
use Rattle.jn_machine.specs.Examples.{setup, line, at_end}
use Rattle.jn_wrong.specs.NewImages.{AreNew}
use Rattle.jn_wrong.specs.Wrong.{the_end, up}

-- ---- one server of 177 stable pages

-- each physical page is good
abbrev pub AreGood : Devices → Type 0
AreGood images = (p : ℕ) → ((images s0).pages p).good ≡ true

-- every whole run of the schedule reports exactly these lines, whatever befalls it
abbrev pub IsOnlyOfGood : List Event → List Line → Type 0
IsOnlyOfGood schedule report = (images closing : Devices) (lines : List Line) → AreNew (setup 1) images → AreGood images → IsWhole (setup 1) schedule images closing lines → lines ≡ report

-- and none reports these
abbrev pub IsNoneOfGood : List Event → List Line → Type 0
IsNoneOfGood schedule wrong = (images closing : Devices) → AreNew (setup 1) images → AreGood images → IsWhole (setup 1) schedule images closing wrong → ⊥

-- one whole run of the schedule reports exactly these lines, from images and with devices that are there
pub record IsOneOfGood (schedule : List Event) (report : List Line) : Type 0 where
  pub images : Devices
  pub closing : Devices
  -- as a run begins with it: pages of zeros behind a root of epoch 0, with power, and no fault waits
  pub store : IsNewStore (root_by s0 ((setup 1).counts s0) 0) (pairs_view (images s0))
  pub new : AreNew (setup 1) images
  pub good : AreGood images
  pub whole : IsWhole (setup 1) schedule images closing report

abbrev last_in : Setup → (ℕ → State → Chance) → ℕ → List Event → State
last_in x chances steps schedule = after x chances 0 steps (before x schedule no_files (λ q. 0))

-- with these chances, so many steps at most are a run to its end, and these are its lines
pub record IsComputed (x : Setup) (chances : ℕ → State → Chance) (steps : ℕ) (schedule : List Event) (report : List Line) : Type 0 where
  pub lines_are : (last_in x chances steps schedule).lines ≡ report
  pub stage : (last_in x chances steps schedule).stage ≡ AtEnd
  pub tasks : (last_in x chances steps schedule).tasks ≡ []

abbrev pub Computes : (ℕ → State → Chance) → List Event → List Line → Type 0
Computes chances schedule report = IsComputed (setup 1) chances 60 schedule report

-- a fault is reported at its own page
abbrev pub decay_told : ℕ → ℕ → Line
decay_told event page = line event (says.Outside s0 (record { kind = faults.Decay page; page = page }))

-- ---- decays

-- a half decays
abbrev pub decays_once : List Event
decays_once = events.Decay s0 5 ∷ []

abbrev pub first_decay_told : List Line
first_decay_told = up ∷ decay_told 1 5 ∷ the_end

-- and then the other half
abbrev pub decays_both : List Event
decays_both = events.Decay s0 5 ∷ events.Decay s0 182 ∷ []

abbrev pub both_report : List Line
both_report = up ∷ decay_told 2 182 ∷ the_end

-- a half decays, a scrub mends it, and the other one decays
abbrev pub decays_behind_scrub : List Event
decays_behind_scrub = events.Decay s0 5 ∷ events.Scrub s0 ∷ events.Decay s0 182 ∷ []

abbrev pub nothing_mended : List Line
nothing_mended = up ∷ decay_told 3 182 ∷ the_end

-- ---- the power

-- a half decays three times and is revived as often; then the power goes and comes, and it decays again
abbrev pub decays_with_power : List Event
decays_with_power = events.Decay s0 5 ∷ events.Revive s0 5 ∷ events.Decay s0 5 ∷ events.Revive s0 5 ∷ events.Decay s0 5 ∷ events.Revive s0 5
    ∷ events.Crash s0 ∷ events.Restart s0 ∷ events.Decay s0 5 ∷ []

abbrev twice_up : List Line
twice_up = at_end (says.Down s0) ∷ at_end (says.Up s0 3) ∷ at_end (says.Commits 0) ∷ []

abbrev pub forgiven_report : List Line
forgiven_report = up ∷ line 7 (says.Down s0) ∷ line 8 (says.Up s0 2) ∷ twice_up

abbrev pub nothing_forgiven : List Line
nothing_forgiven = up ∷ line 7 (says.Down s0) ∷ line 8 (says.Up s0 2) ∷ decay_told 9 5 ∷ twice_up

-- a half decays, a restart mends it, and the other one decays
abbrev pub decays_behind_restart : List Event
decays_behind_restart = events.Decay s0 5 ∷ events.Crash s0 ∷ events.Restart s0 ∷ events.Decay s0 182 ∷ []

abbrev pub restarted_report : List Line
restarted_report = up ∷ line 2 (says.Down s0) ∷ line 3 (says.Up s0 2) ∷ twice_up

abbrev pub left_unmended : List Line
left_unmended = up ∷ line 2 (says.Down s0) ∷ line 3 (says.Up s0 2) ∷ decay_told 4 182 ∷ twice_up

-- ---- faults that wait

-- two faults for two calls
abbrev pub arms_two : List Event
arms_two = events.Arm s0 5 faults.Null ∷ events.Arm s0 3 faults.Null ∷ []

abbrev pub armed_too_many : List Line
armed_too_many = up ∷ line 2 (says.RefusedEvent TooManyArmed) ∷ the_end

-- a stop for a call that a show doesn't come to
abbrev pub arms_far : List Event
arms_far = events.Arm s0 1000000 faults.StopBefore ∷ events.Show s0 ∷ []

abbrev pub show_stopped : List Line
show_stopped = up ∷ line 2 (says.Stopped s0) ∷ at_end (says.Up s0 2) ∷ at_end (says.Commits 0) ∷ []

-- a stop for the first call of a restart, which raises the epoch
abbrev pub arms_first : List Event
arms_first = events.Crash s0 ∷ events.Arm s0 1 faults.StopBefore ∷ events.Restart s0 ∷ []

-- the restart is stopped, so the end's restart is the next one that raises it
abbrev pub stop_met : List Line
stop_met = up ∷ line 1 (says.Down s0) ∷ line 3 (says.Stopped s0) ∷ at_end (says.Up s0 2) ∷ at_end (says.Commits 0) ∷ []

abbrev pub stop_passed_by : List Line
stop_passed_by = up ∷ line 1 (says.Down s0) ∷ line 3 (says.Up s0 2) ∷ twice_up

-- two faults for the first two calls of a restart, each reported where it meets a get
abbrev pub arms_in_order : List Event
arms_in_order = events.Crash s0 ∷ events.Arm s0 1 faults.Null ∷ events.Arm s0 2 faults.Bad ∷ events.Restart s0 ∷ []

abbrev told_at : FaultKind → ℕ → Line
told_at kind page = line 4 (says.Outside s0 (record { kind = kind; page = page }))

abbrev pub outside_in_order : ℕ → ℕ → List Line
outside_in_order p r = up ∷ line 1 (says.Down s0) ∷ told_at faults.Null p ∷ told_at faults.Bad r ∷ line 4 (says.Up s0 2) ∷ twice_up

abbrev pub outside_swapped : ℕ → ℕ → List Line
outside_swapped p r = up ∷ line 1 (says.Down s0) ∷ told_at faults.Bad p ∷ told_at faults.Null r ∷ line 4 (says.Up s0 2) ∷ twice_up

-- a fault that is reported has a page that isn't there, or is another one
abbrev pub arms_null : List Event
arms_null = events.Crash s0 ∷ events.Arm s0 1 faults.Null ∷ events.Restart s0 ∷ []

abbrev pub null_told : FaultKind → ℕ → List Line
null_told kind page = up ∷ line 1 (says.Down s0) ∷ line 3 (says.Outside s0 (record { kind = kind; page = page })) ∷ line 3 (says.Up s0 2) ∷ twice_up
