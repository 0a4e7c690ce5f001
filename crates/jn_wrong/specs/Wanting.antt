-- What stands behind an abort for want of room, in any run.
use Rattle.std.specs.Prelude.{◌≡◌, ℕ, true, nat_lt, List, [], ◌∷◌, Some}
use Rattle.jn_base.specs.declared.names.ServerNo.{ServerNo}
use Rattle.jn_base.specs.declared.names.Cause.{Cause}
use Rattle.jn_base.specs.declared.names.Cause.TheVariants.{Full}
use Rattle.jn_base.specs.declared.names.Resource.{Resource}
use Rattle.jn_base.specs.declared.names.Resource.TheVariants.{Records, Pages, Heads}
use Rattle.jn_records.specs.declared.net_list.Need.{Need}
use Rattle.jn_report.specs.declared.line.Text.{Text}
use Rattle.jn_report.specs.declared.line.Text.TheVariants.{Aborted}
use Rattle.jn_report.specs.declared.line.Line.{Line}
use Rattle.jn_rows.specs.Stable.{stable}
use Rattle.jn_system.specs.WholeSystem.World.{Memory}
use Rattle.jn_server.specs.Standing.{free_on}
use Rattle.jn_machine.specs.Chances.{Setup}
use Rattle.jn_machine.specs.Devices.{pages_of}
use Rattle.jn_machine.specs.Runs.{Moment, DoesStep, Leads}

-- how much is free of it
abbrev pub free_of : Resource → Need → ℕ
free_of Records free = free.records
free_of Pages free = free.pages
free_of Heads free = free.heads

-- so much is free of it, and more is needed
pub record IsShort (free : Need) (resource : Resource) (has need : ℕ) : Type 0 where
  pub has_is : has ≡ free_of resource free
  pub less : nat_lt has need ≡ true

-- In a step of the run the server, which was up, had so much free on its pages and not promised, and needed more.
pub record WasShort (x : Setup) (a b : Moment) (server : ServerNo) (resource : Resource) (has need : ℕ) : Type 0 where
  pub before : Moment
  pub after : Moment
  pub leads : Leads x a before
  pub step : DoesStep x before after
  pub goes_on : Leads x after b
  pub memory : Memory
  pub up : before.state.course.world.memory server ≡ Some memory
  pub short : IsShort (free_on (x.counts server) (pages_of (before.devices server)) (stable (before.state.course.world.found server)) memory) resource has need

-- where a cause is want of room, this holds of its numbers
abbrev pub OfCause : (ServerNo → Resource → ℕ → ℕ → Type 0) → Cause → Type 0
OfCause P (Full s resource has need) = P s resource has need
OfCause P cause = Unit {0}

abbrev pub OfText : (ServerNo → Resource → ℕ → ℕ → Type 0) → Text → Type 0
OfText P (Aborted c j T cause) = OfCause P cause
OfText P text = Unit {0}

-- and so of each line
abbrev pub OfLines : (ServerNo → Resource → ℕ → ℕ → Type 0) → List Line → Type 0
OfLines P [] = Unit {0}
OfLines P (l ∷ lines) = OfText P l.text × OfLines P lines
