-- The steps of the whole system. Each is what one client or one server does by its row, a stop, a crash or a restart, or that
-- all clients are dismissed.
use Rattle.std.specs.Prelude.{◌≡◌, ℕ, ◌+◌, Bool, true, nat_eq, nat_lt, ◌&&◌, ◌||◌, if◌then◌else◌, List, [], ◌∷◌, ◌++◌, slice_get, Option, Some, None, is_some}
use Rattle.std.specs.List.{list_any, list_all}
use Rattle.jn_base.specs.declared.names.ServerNo.{ServerNo}
use Rattle.jn_base.specs.declared.names.ClientNo.{ClientNo}
use Rattle.jn_base.specs.declared.names.Tid.{Tid}
use Rattle.jn_base.specs.declared.names.WorkId.{WorkId}
use Rattle.jn_base.specs.declared.names.Party.TheVariants.{Client, Server}
use Rattle.jn_base.specs.declared.op.Command.{Command}
use Rattle.jn_base.specs.Names.{server_eq, tid_eq, work_eq}
use Rattle.jn_locks.specs.Locks.{work_before}
use Rattle.jn_msgs.specs.declared.message.Message.{Message}
use Rattle.jn_report.specs.declared.line.Text.TheVariants as says
use Rattle.jn_rows.specs.declared.client.Taken.{Taken}
use Rattle.jn_rows.specs.declared.client.Taken.TheVariants as taken
use Rattle.jn_rows.specs.Stable.{StableState, Pick, Left, left_of, made_all, stable}
use Rattle.jn_rows.specs.Outcomes.{RowOutcome, Sent}
use Rattle.jn_rows.specs.Client.{ClientTable, Commanded, Refuses, Sends, command_row, take_row, again_row, over}
use Rattle.jn_rows.specs.Coordinator.{close_clients_row}
use Rattle.jn_system.specs.WholeSystem.World.{World, Memory, at_server, at_client, changed, with_epoch}
use Rattle.jn_system.specs.WholeSystem.Servers.{Room, server_row, server_step, server_again, server_timeout, restored, of_coordinator, lines_of, named_now}

pub data Step : Type 0 where
  NextEvent : Step
  Tell : ClientNo → Command → Step
  -- a client sends its outstanding message once more
  Again : ClientNo → Step
  -- the message of this number is handed over, and a server has so much room
  Deliver : ℕ → Room → Step
  -- a server does one background step
  Work : ServerNo → Room → Step
  -- a server sends again what waits for an answer
  Nudge : ServerNo → Step
  -- the transaction's work at the server may be broken from now on
  Timeout : ServerNo → Tid → Step
  -- a server is stopped while it takes a message, or while it works: this is left of the changes by each pick, of a cut perhaps a part
  StopDelivery : ℕ → Room → (Pick → Left) → Step
  StopWork : ServerNo → Room → (Pick → Left) → Step
  Crash : ServerNo → Step
  -- fewer states may be found, as once a restart, perhaps one that is stopped, has cleaned pages: each pick finds what this
  -- other one found. A decay and a revival are no step: what a bad half keeps may be found again
  Narrow : ServerNo → (Pick → Pick) → Step
  -- a restart that is stopped: some picks find the epoch raised
  StopRestart : ServerNo → (Pick → Bool) → Step
  -- a server comes up with what this pick finds, which has the works and flags of these names
  Restart : ServerNo → Pick → List WorkId → List Tid → Step
  -- the clients are dismissed: none has a transaction or waits for an answer any more
  Dismiss : Step
  -- a server counts each outcome as thanked, once the clients are dismissed
  CloseClients : ServerNo → Step

-- a message is handed over, or a server does one background step, perhaps with a stop
abbrev pub handing : ℕ → Room → Option (Pick → Left) → Step
handing k room None = Deliver k room
handing k room (Some made) = StopDelivery k room made

abbrev pub working : ServerNo → Room → Option (Pick → Left) → Step
working s room None = Work s room
working s room (Some made) = StopWork s room made

-- ---- clients

abbrev pub commanded : ClientNo → Commanded → World → World
commanded c (Refuses refusal) w = record w { lines = w.lines ++ says.Refused c w.event refusal ∷ [] }
commanded c (Sends t to message) w = record w { clients = at_client w.clients c t; sent = w.sent ++ (to, message) ∷ [] }

abbrev pub sent_now : Option Sent → List Sent
sent_now None = []
sent_now (Some sent) = sent ∷ []

abbrev pub again : ClientNo → World → World
again c w = record w { sent = w.sent ++ sent_now (again_row (w.clients c)) }

abbrev pub took : ClientNo → ℕ → ClientTable → Taken → World → World
took c k t taken.Ignored w = record w { clients = at_client w.clients c t; lines = w.lines ++ says.Ignored k ∷ [] }
took c k t (taken.Send to message) w = record w { clients = at_client w.clients c t; sent = w.sent ++ (to, message) ∷ [] }
took c k t (taken.Told line answer) w = record w {
  clients = at_client w.clients c t;
  sent = w.sent ++ sent_now answer;
  lines = w.lines ++ line ∷ [];
}

abbrev pub taken_by : ClientNo → ℕ → ClientTable × Taken → World → World
taken_by c k row w = took c k row.0 row.1 w

-- ---- servers

-- a row is done
abbrev pub done : ServerNo → Option ℕ → RowOutcome Memory → World → World
done s k row w = record w {
  memory = at_server w.memory s (Some row.table);
  found = changed w.found s (λ c. true) (made_all row.changes);
  sent = w.sent ++ row.messages;
  lines = w.lines ++ lines_of s k row.notes;
}

-- a row is stopped: some of its changes are made, from the first one on, and nothing is sent or reported
abbrev pub stopped : ServerNo → (Pick → Left) → RowOutcome Memory → World → World
stopped s made row w = record w {
  memory = at_server w.memory s None;
  found = λ q c. if server_eq s q then left_of (made c) row.changes (w.found s c) else w.found q c;
  lines = w.lines ++ says.Stopped s ∷ [];
}

-- where a row may be stopped, and how
abbrev pub ends : ServerNo → Option ℕ → Option (Pick → Left) → RowOutcome Memory → World → World
ends s k None row w = done s k row w
ends s k (Some made) row w = stopped s made row w

abbrev pub at_memory : ServerNo → ℕ → Room → Option (Pick → Left) → Message → Option Memory → World → World
at_memory s k room stop message None w = record w { lines = w.lines ++ says.Lost k ∷ [] }
at_memory s k room stop message (Some m) w = ends s (Some k) stop (server_row m (stable (w.found s)) room message) w

-- a message is handed over, at a server perhaps with a stop
abbrev pub handed : ℕ → Room → Option (Pick → Left) → Option Sent → World → World
handed k room stop None w = w
handed k room stop (Some (Client c, message)) w = taken_by c k (take_row (w.clients c) message) w
handed k room stop (Some (Server s, message)) w = at_memory s k room stop message (w.memory s) w

abbrev pub works : ServerNo → Option (Pick → Left) → Option (RowOutcome Memory) → World → World
works s stop None w = w
works s stop (Some row) w = ends s None stop row w

abbrev pub work : ServerNo → Room → Option (Pick → Left) → Option Memory → World → World
work s room stop None w = w
work s room stop (Some m) w = works s stop (server_step m (stable (w.found s)) room) w

abbrev pub nudge : ServerNo → Option Memory → World → World
nudge s None w = w
nudge s (Some m) w = record w { sent = w.sent ++ server_again m (stable (w.found s)) }

abbrev pub timeout : ServerNo → Tid → Option Memory → World → World
timeout s T None w = w
timeout s T (Some m) w = record w { memory = at_server w.memory s (Some (server_timeout m T)) }

-- ---- stops and restarts

abbrev pub crash : ServerNo → Option Memory → World → World
crash s None w = w
crash s (Some m) w = record w { memory = at_server w.memory s None; lines = w.lines ++ says.Down s ∷ [] }

-- only at a server that is down: one that is up has its pages clean
abbrev pub narrow : ServerNo → (Pick → Pick) → Option Memory → World → World
narrow s g None w = record w { found = λ q c. if server_eq s q then w.found s (g c) else w.found q c }
narrow s g (Some m) w = w

abbrev pub stop_restart : ServerNo → (Pick → Bool) → Option Memory → World → World
stop_restart s raised None w = record w { found = changed w.found s raised with_epoch; lines = w.lines ++ says.Stopped s ∷ [] }
stop_restart s raised (Some m) w = w

abbrev pub restart_with : ServerNo → StableState → List WorkId → List Tid → World → World
restart_with s x works tids w = record w {
  memory = at_server w.memory s (Some (restored s x works tids));
  found = λ q c. if server_eq s q then with_epoch x else w.found q c;
  lines = w.lines ++ (says.Up s (x.epoch + 1) ∷ named_now tids w.lines);
}

abbrev pub restart : ServerNo → Pick → List WorkId → List Tid → Option Memory → World → World
restart s pick works tids None w = restart_with s (w.found s pick) works tids w
restart s pick works tids (Some m) w = w

-- ---- the end

abbrev pub close_clients : ServerNo → Option Memory → World → World
close_clients s None w = w
close_clients s (Some m) w = done s None (of_coordinator m (close_clients_row m.coordinator m.tickets)) w

-- ---- every step

abbrev pub after : Step → World → World
after NextEvent w = record w { event = w.event + 1 }
after (Tell c command) w = commanded c (command_row (w.clients c) w.event command) w
after (Again c) w = again c w
after (Deliver k room) w = handed k room None (slice_get w.sent k) w
after (Work s room) w = work s room None (w.memory s) w
after (Nudge s) w = nudge s (w.memory s) w
after (Timeout s T) w = timeout s T (w.memory s) w
after (StopDelivery k room made) w = handed k room (Some made) (slice_get w.sent k) w
after (StopWork s room made) w = work s room (Some made) (w.memory s) w
after (Crash s) w = crash s (w.memory s) w
after (Narrow s g) w = narrow s g (w.memory s) w
after (StopRestart s raised) w = stop_restart s raised (w.memory s) w
after (Restart s pick works tids) w = restart s pick works tids (w.memory s) w
after Dismiss w = record w { clients = λ c. over (w.clients c) }
after (CloseClients s) w = close_clients s (w.memory s) w

-- ---- what a restart reads

-- by server, then epoch, then ticket
abbrev pub tid_before : Tid → Tid → Bool
tid_before a b = nat_lt a.server.0 b.server.0 || (nat_eq a.server.0 b.server.0 && (nat_lt a.epoch b.epoch || (nat_eq a.epoch b.epoch && nat_lt a.ticket b.ticket)))

abbrev pub are_rising : {A : Type 0} → (A → A → Bool) → List A → Bool
are_rising before [] = true
are_rising before (a ∷ names) = list_all (λ b. before a b) names && are_rising before names

-- these are the names of what is there, each once, in rising order
pub record AreNames {A B : Type 0} (eq before : A → A → Bool) (there : A → Option B) (names : List A) : Type 0 where
  pub each : (a : A) → list_any (λ b. eq b a) names ≡ is_some (there a)
  pub rising : are_rising before names ≡ true

-- ---- which steps may come

-- the client has no transaction and waits for no answer
abbrev pub IsIdle : ClientTable → Type 0
IsIdle t = (t.transaction ≡ None) × (t.outstanding ≡ None)

-- A restart reads the names of the works and flags from the pages, and outcomes are thanked where every client is idle. No
-- other step asks for anything.
abbrev pub IsStep : Step → World → Type 0
IsStep (Restart s pick works tids) w = AreNames work_eq work_before (w.found s pick).works works × AreNames tid_eq tid_before (w.found s pick).flags tids
IsStep (CloseClients s) w = (c : ClientNo) → IsIdle (w.clients c)
IsStep step w = Unit {0}

abbrev pub run : List Step → World → World
run [] w = w
run (step ∷ steps) w = run steps (after step w)

-- each of the steps may come in its turn
abbrev pub IsRun : List Step → World → Type 0
IsRun [] w = Unit {0}
IsRun (step ∷ steps) w = IsStep step w × IsRun steps (after step w)
