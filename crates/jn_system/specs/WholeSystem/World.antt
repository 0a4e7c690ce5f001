-- The whole system between two steps: what each server and client remembers, what is stable at each server, every message
-- that was sent, and every line that was reported.
use Rattle.std.specs.Prelude.{ℕ, zero, suc, ◌+◌, Bool, if◌then◌else◌, List, [], ◌∷◌, ◌++◌, length, drop, Option, Some, None, ◌≡◌, ◌≤◌}
use Rattle.std.specs.List.{list_any}
use Rattle.jn_base.specs.declared.names.ServerNo.{ServerNo}
use Rattle.jn_base.specs.declared.names.ClientNo.{ClientNo}
use Rattle.jn_base.specs.declared.names.Tid.{Tid}
use Rattle.jn_base.specs.declared.names.WorkId.{WorkId}
use Rattle.jn_base.specs.declared.names.Tickets.{Tickets}
use Rattle.jn_base.specs.Names.{server_eq, client_eq, tid_eq}
use Rattle.jn_order.specs.Files.{AllFiles}
use Rattle.jn_report.specs.declared.line.Text.{Text}
use Rattle.jn_rows.specs.Stable.{StableState, Pick}
use Rattle.jn_rows.specs.Outcomes.{Sent}
use Rattle.jn_rows.specs.Worker.{WorkerTable}
use Rattle.jn_rows.specs.Coordinator.{CoordinatorTable}
use Rattle.jn_rows.specs.Client.{ClientTable, new_table}
use Rattle.jn_base.specs.declared.names.LockUnit.{LockUnit}
use Rattle.jn_report.specs.Kinds.{commit_in as committed_in}

-- what a server that is up remembers
pub record Memory : Type 0 where
  pub worker : WorkerTable
  pub coordinator : CoordinatorTable
  pub tickets : Tickets
  -- how many intentions of a going work it has carried out
  pub next : WorkId → ℕ

pub record World : Type 0 where
  -- none while the server is down
  pub memory : ServerNo → Option Memory
  -- the stable state that is found at a server by each pick of halves of its pages
  pub found : ServerNo → Pick → StableState
  pub clients : ClientNo → ClientTable
  -- every message that was sent, in order: each may be delivered at any time, any number of times
  pub sent : List Sent
  -- every line, in order
  pub lines : List Text
  -- the number of the event under way
  pub event : ℕ

-- what the second world has reported that the first one hadn't
abbrev pub own_texts : World → World → List Text
own_texts before now = drop (length before.lines) now.lines

abbrev pub at_server : {A : Type 0} → (ServerNo → A) → ServerNo → A → ServerNo → A
at_server f s x q = if server_eq s q then x else f q

abbrev pub at_client : {A : Type 0} → (ClientNo → A) → ClientNo → A → ClientNo → A
at_client f c x d = if client_eq c d then x else f d

abbrev pub changed : (ServerNo → Pick → StableState) → ServerNo → (Pick → Bool) → (StableState → StableState) → ServerNo → Pick → StableState
changed found s done f q c = if server_eq s q then (if done c then f (found s c) else found s c) else found q c

abbrev pub with_epoch : StableState → StableState
with_epoch x = record x { epoch = x.epoch + 1 }

-- so many servers from this number on
abbrev pub servers_from : ℕ → ℕ → List ServerNo
servers_from first zero = []
servers_from first (suc count) = record { 0 = first } ∷ servers_from (first + 1) count

-- so many clients from this number on
abbrev pub clients_from : ℕ → ℕ → List ClientNo
clients_from c zero = []
clients_from c (suc n) = record { 0 = c } ∷ clients_from (c + 1) n

-- ---- what the lines say

-- the transactions that have committed, in order
abbrev pub commits_in : List Text → List Tid
commits_in [] = []
commits_in (text ∷ texts) = committed_in text ++ commits_in texts

abbrev pub has_line : Tid → List Text → Bool
has_line T texts = list_any (λ U. tid_eq U T) (commits_in texts)

-- ---- the start

abbrev pub new_memory : ServerNo → ℕ → Memory
new_memory s epoch = record {
  worker = [];
  coordinator = record { transactions = []; seen = λ c. 0 };
  tickets = record { server = s; epoch = epoch; next = 0 };
  next = λ W. 0;
}

-- so many servers, all up with these files and epochs, and nothing has happened
abbrev pub opening : ℕ → AllFiles → (ServerNo → ℕ) → World
opening servers files epochs = record {
  memory = λ s. Some (new_memory s (epochs s));
  found = λ s c. record { epoch = epochs s; files = files s; works = λ W. None; flags = λ T. None };
  clients = λ c. new_table c servers;
  sent = [];
  lines = [];
  event = 0;
}

-- the files are of so many servers
abbrev pub AreFilesOf : ℕ → AllFiles → Type 0
AreFilesOf servers files = (s : ServerNo) (u : LockUnit) → servers ≤ s.0 → files s u ≡ None
