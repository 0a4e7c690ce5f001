-- What each step leaves on a server's pages beside its stable state: rubbish records, which are those of intentions that no prepared work has, the map
-- pages that there are, and which intentions name one. And that no record and no head is of anything else.
use Rattle.std.specs.Prelude.{◌≡◌, ◌<◌, true, false, ◌&&◌, if◌then◌else◌, List, [], ◌∷◌, slice_get, Option, Some, None, is_some, is_none}
use Rattle.std.specs.Option.{option_map, option_and_then, option_map_or}
use Rattle.jn_base.specs.declared.names.ServerNo.{ServerNo}
use Rattle.jn_base.specs.declared.names.Party.TheVariants.{Server}
use Rattle.jn_base.specs.Names.{server_eq}
use Rattle.jn_device.specs.Device.{DeviceState}
use Rattle.jn_page_state.specs.Pages.{pages_by}
use Rattle.jn_rows.specs.Outcomes.{RowOutcome, Sent}
use Rattle.jn_rows.specs.Stable.{StableState, Change, Pick, stable}
use Rattle.jn_worker.specs.Leaving.{Beside, left_over}
use Rattle.jn_server.specs.Counted.{CountsAll}
use Rattle.jn_server.specs.Handling.{left_by_work}
use Rattle.jn_server.specs.Standing.{standing_pages, beside_on}
use Rattle.jn_store.specs.Pairs.{pairs_view}
use Rattle.jn_system.specs.WholeSystem.World.{World, Memory}
use Rattle.jn_system.specs.WholeSystem.Servers.{Room, server_row, server_step}
use Rattle.jn_system.specs.WholeSystem.Steps.{Step, Deliver, Work, Restart, after, run}
use Rattle.jn_machine.specs.Chances.{Setup}

-- what stands there by a pick
abbrev pub beside_by : Setup → (ServerNo → DeviceState) → ServerNo → Pick → Beside
beside_by x ds q c = beside_on (x.counts q) (pages_by (pairs_view (ds q)) c)

-- and at a server that is up, where all picks find the same
abbrev pub beside_at : Setup → (ServerNo → DeviceState) → ServerNo → Beside
beside_at x ds q = beside_by x ds q (λ n. false)

-- the row of a server that is up, where this is sent to it
abbrev pub row_for : World → ServerNo → Room → Option Sent → Option (RowOutcome Memory)
row_for w q room (Some (Server s, message)) = if server_eq s q then option_map (λ m. server_row m (stable (w.found q)) room message) (w.memory q) else None
row_for w q room sent = None

-- its row in a step
abbrev pub row_at : World → ServerNo → Step → Option (RowOutcome Memory)
row_at w q (Deliver k room) = row_for w q room (slice_get w.sent k)
row_at w q (Work s room) = if server_eq s q then option_and_then (λ m. server_step m (stable (w.found q)) room) (w.memory q) else None
row_at w q step = None

-- A row leaves what its changes leave; a background step without changes erases a rubbish record.
abbrev pub left_by_row : Step → StableState → List Change → Beside → Beside
left_by_row (Work s room) x changes b = left_by_work x changes b
left_by_row step x changes b = left_over x changes b

-- Without a row it stays. A server that comes up has what it reads, by a pick, and no rubbish.
abbrev pub left_by_step : (Pick → Beside) → World → ServerNo → Step → Beside → Beside
left_by_step reads w q (Restart s pick works tids) b = if server_eq s q && is_none (w.memory q) then record (reads pick) { rubbish = 0 } else b
left_by_step reads w q step b = option_map_or (λ row. left_by_row step (stable (w.found q)) row.changes b) (row_at w q step) b

-- steps one after another
abbrev pub left_by_steps : (Pick → Beside) → World → ServerNo → List Step → Beside → Beside
left_by_steps reads w q [] b = b
left_by_steps reads w q (step ∷ steps) b = left_by_steps reads (after step w) q steps (left_by_step reads w q step b)

-- ---- the pages before and after

-- These steps leave this on the pages of each server that is up afterwards. What a server that is down has, as one that was stopped, is
-- open until it comes up.
abbrev pub AreLeft : Setup → List Step → World → (ServerNo → DeviceState) → (ServerNo → DeviceState) → Type 0
AreLeft x steps w ds es = (q : ServerNo) → q.0 < x.servers → is_some ((run steps w).memory q) ≡ true → beside_at x es q ≡ left_by_steps (beside_by x ds q) w q steps (beside_at x ds q)

-- ---- everything is counted

-- on the pages of each server that is up: no record and no head is there that nothing names
abbrev pub AreAllCounted : Setup → World → (ServerNo → DeviceState) → Type 0
AreAllCounted x w ds = (q : ServerNo) → q.0 < x.servers → is_some (w.memory q) ≡ true → CountsAll (x.counts q) (stable (w.found q)) (standing_pages (pairs_view (ds q)))
