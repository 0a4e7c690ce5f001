-- What a step reports of refused faults, and what a restart mends, in any run.
use Rattle.std.specs.Prelude.{◌≡◌, ◌<◌, ◌⊎◌, ◌+◌, ◌/◌, ℕ, false, not, filter, List, [], ◌++◌, map}
use Rattle.jn_base.specs.declared.names.ServerNo.{ServerNo}
use Rattle.jn_base.specs.declared.device.FaultKind.TheVariants as faults
use Rattle.jn_base.specs.declared.device.Outside.{Outside}
use Rattle.jn_device.specs.Device.{DeviceState}
use Rattle.jn_device.specs.Calls.{decay_outside}
use Rattle.jn_device.specs.Events.{PowersUp, cleared, powered_off}
use Rattle.jn_device.specs.Happens.{Happens}
use Rattle.jn_page_state.specs.Pages.{pages_by}
use Rattle.jn_page_state.specs.Puts.{IsFrontClean}
use Rattle.jn_records.specs.StablePages.{Counts, slot_place, head_place, data_place, NamesMap}
use Rattle.jn_report.specs.declared.line.Text.{Text}
use Rattle.jn_report.specs.declared.line.Text.TheVariants as says
use Rattle.jn_report.specs.declared.line.Line.{Line}
use Rattle.jn_rows.specs.Stable.{Pick}
use Rattle.jn_store.specs.Pairs.{pairs_view}
use Rattle.jn_machine.specs.Deeds.{Use, Calls, Cleans, Reads, Recovers, Decays}
use Rattle.jn_machine.specs.Devices.{Devices, KeepsWhole}
use Rattle.jn_machine.specs.Events.{told_unless, deed_of}
use Rattle.jn_machine.specs.Chances.{Setup}
use Rattle.jn_report.specs.Lines.{lines_at}
use Rattle.jn_machine.specs.Tasks.{when_of, begun}
use Rattle.jn_machine.specs.Runs.{Moment, DoesStep}
use Rattle.jn_report.specs.Kinds.{is_outside}

-- ---- refused faults

abbrev pub outside_lines : List Line → List Line
outside_lines lines = filter (λ (l : Line). is_outside l.text) lines

abbrev pub outside_at : ServerNo → List Outside → List Text
outside_at q told = map (λ (fault : Outside). says.Outside q fault) told

-- the device is called, each call a step of its own, and reports these faults meanwhile
pub record TellsMeanwhile (told : List Outside) (d e : DeviceState) : Type 0 where
  pub last : DeviceState
  pub happens : Happens d last
  pub whole : KeepsWhole d last
  pub told_is : told ≡ last.told
  pub after : e ≡ cleared last

-- a server's device reports these faults
pub record TellsOf (q : ServerNo) (d e : DeviceState) (texts : List Text) : Type 0 where
  pub told : List Outside
  pub tells : TellsMeanwhile told d e
  pub texts_are : texts ≡ outside_at q told

-- once its power is there, which goes where the server doesn't come up
pub record TellsRaised (q : ServerNo) (d e : DeviceState) (texts : List Text) : Type 0 where
  pub powered : DeviceState
  pub last : DeviceState
  pub power : PowersUp d powered
  pub tells : TellsOf q powered last texts
  pub after : (e ≡ last) ⊎ (e ≡ powered_off last)

-- what is reported of refused faults where devices are used so: each that the device reported, and a decay that isn't allowed
abbrev pub AreToldBy : Use → Devices → Devices → List Text → Type 0
AreToldBy (Calls q most) ds es texts = TellsOf q (ds q) (es q) texts
AreToldBy (Cleans q) ds es texts = TellsOf q (ds q) (es q) texts
AreToldBy (Reads q) ds es texts = TellsOf q (ds q) (es q) texts
AreToldBy (Recovers q) ds es texts = TellsRaised q (ds q) (es q) texts
AreToldBy (Decays q p) ds es texts = texts ≡ told_unless (not (decay_outside ((ds q).count / 2) (ds q).pages p)) (says.Outside q (record { kind = faults.Decay p; page = p }))
AreToldBy device ds es texts = texts ≡ []

-- a step's lines of refused faults are these
pub record TellsFaults (x : Setup) (a b : Moment) (d : DoesStep x a b) : Type 0 where
  pub texts : List Text
  pub told : AreToldBy (deed_of x d.chance d.task a.state).device a.devices b.devices texts
  pub lines : outside_lines b.state.lines ≡ outside_lines a.state.lines ++ lines_at (when_of (begun d.task a.state)) texts

-- ---- restarts

-- either half of the page may go bad
pub record MayDecay (d : DeviceState) (i : ℕ) : Type 0 where
  pub first : decay_outside (d.count / 2) d.pages i ≡ false
  pub second : decay_outside (d.count / 2) d.pages (i + d.count / 2) ≡ false

-- The pages of root, records and heads have one candidate each. Where no fault had waited, either half of each may go bad, and of each map page that a head
-- names by some pick.
pub record AreMended (g : Counts) (d e : DeviceState) : Type 0 where
  pub clean : IsFrontClean g (pairs_view e)
  pub root : d.waiting ≡ [] → MayDecay e 0
  pub pool : d.waiting ≡ [] → (i : ℕ) → i < g.pool → MayDecay e (slot_place g i)
  pub heads : d.waiting ≡ [] → (i : ℕ) → i < g.heads → MayDecay e (head_place g i)
  pub maps : d.waiting ≡ [] → (c : Pick) (i : ℕ) → i < g.leaves → NamesMap g (pages_by (pairs_view e) c) i → MayDecay e (data_place g i)
