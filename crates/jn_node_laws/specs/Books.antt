-- What frames lead to at a server by its books: what it remembers, what is found on its pages, and what else they hold: rubbish, map pages, and
-- which of them prepared works name. Its rows see no more, since what is free is counted from these. So no pages are needed.
use Rattle.std.specs.Prelude.{◌≡◌, ◌+◌, ◌-◌, ℕ, nat_lt, List, [], ◌∷◌, ◌++◌, length, Option, Some, None, is_some}
use Rattle.jn_base.specs.Names.{file_eq, tid_eq, unit_eq, work_eq}
use Rattle.jn_base.specs.declared.names.FileNo.{FileNo}
use Rattle.jn_base.specs.declared.names.LockUnit.{LockUnit}
use Rattle.jn_base.specs.declared.names.ServerNo.{ServerNo}
use Rattle.jn_base.specs.declared.names.Tid.{Tid}
use Rattle.jn_base.specs.declared.names.WorkId.{WorkId}
use Rattle.jn_msgs.specs.declared.message.Message.{Message}
use Rattle.jn_node.specs.Serving.{to_itself, to_others}
use Rattle.jn_page_state.specs.Pages.{state_of}
use Rattle.jn_records.specs.StablePages.{Counts}
use Rattle.jn_rows.specs.Coordinator.{promised}
use Rattle.jn_rows.specs.Outcomes.{RowOutcome, Sent}
use Rattle.jn_rows.specs.Stable.{StableState, made_all}
use Rattle.jn_server.specs.Handling.{left_by_work}
use Rattle.jn_server.specs.Standing.{beside_on, promised_heads, standing_pages}
use Rattle.jn_storage.specs.Listing.{IsListing, total}
use Rattle.jn_storage.specs.Orderly.{file_there, list_of}
use Rattle.jn_storage.specs.Storage.{has_map, is_stored, map_eq}
use Rattle.jn_store.specs.Store.{StoreView}
use Rattle.jn_system.specs.WholeSystem.Servers.{Room, restored, server_again, server_row, server_step, server_timeout}
use Rattle.jn_system.specs.WholeSystem.World.{Memory, with_epoch}
use Rattle.jn_wire.specs.declared.frame.Body.{Body}
use Rattle.jn_wire.specs.declared.frame.Body.TheVariants as bodies
use Rattle.jn_wire.specs.declared.frame.Framed.{Framed}
use Rattle.jn_worker.specs.Calls.{pages_named}
use Rattle.jn_worker.specs.Leaving.{Beside, left_over}

pub record Books : Type 0 where
  pub memory : Memory
  pub found : StableState
  pub beside : Beside

-- It comes up on a store whose pages hold files alone: it remembers no work and no transaction, in the next epoch, and nothing is rubbish.
abbrev pub first_books : ServerNo → Counts → StoreView → Books
first_books s g v = let pages = standing_pages v in record {
  memory = restored s (state_of g pages) [] [];
  found = with_epoch (state_of g pages);
  beside = record (beside_on g pages) { rubbish = 0 };
}

-- ---- what is free

-- the prepared works, the flags, the files, the stored blocks and the map pages, each once
pub record AreListed (b : Books) : Type 0 where
  pub works : List WorkId
  pub flags : List Tid
  pub files : List FileNo
  pub blocks : List LockUnit
  pub maps : List (FileNo × ℕ)
  pub works_all : IsListing work_eq (λ W. is_some (b.found.works W)) works
  pub flags_all : IsListing tid_eq (λ T. is_some (b.found.flags T)) flags
  pub files_all : IsListing file_eq (file_there b.found.files) files
  pub blocks_all : IsListing unit_eq (is_stored b.found.files) blocks
  pub maps_all : IsListing map_eq (has_map b.beside.maps) maps

-- a record for each flag, each prepared work and each of its intentions, and the rubbish
abbrev pub records_used : (b : Books) → AreListed b → ℕ
records_used b l = length l.flags + length l.works + total (λ W. length (list_of b.found W)) l.works + b.beside.rubbish

-- a data page for each stored block and each map page, and each that a prepared work's intentions name
abbrev pub pages_used : (b : Books) → AreListed b → ℕ
pages_used b l = length l.blocks + length l.maps + total (λ W. pages_named (list_of b.found W) (b.beside.supplied W)) l.works

-- All else is free, less what is promised. A row asks for free pages only where a message is taken, and no work is carried out in part then.
abbrev pub room_by : Counts → (b : Books) → AreListed b → Room
room_by g b l = record {
  free = record {
    records = g.pool - records_used b l - promised b.memory.coordinator.transactions;
    heads = g.heads - length l.files - promised_heads b.found b.memory.worker;
    pages = g.leaves - pages_used b l;
  };
  maps = b.beside.maps;
  rubbish = nat_lt 0 b.beside.rubbish;
}

-- ---- rows

abbrev pub row_by : Counts → (b : Books) → AreListed b → Message → RowOutcome Memory
row_by g b l message = server_row b.memory b.found (room_by g b l) message

abbrev pub step_by : Counts → (b : Books) → AreListed b → Option (RowOutcome Memory)
step_by g b l = server_step b.memory b.found (room_by g b l)

-- the books once this row is done: that of a message, or that of a step
abbrev pub taken_by : Books → RowOutcome Memory → Books
taken_by b row = record { memory = row.table; found = made_all row.changes b.found; beside = left_over b.found row.changes b.beside }

abbrev pub worked_by : Books → RowOutcome Memory → Books
worked_by b row = record { memory = row.table; found = made_all row.changes b.found; beside = left_by_work b.found row.changes b.beside }

-- ---- what frames lead to

-- What follows where these messages to itself wait, what is sent to others by it, and the books then: the oldest message first and each before any
-- step; then a step; until nothing is left.
pub data BooksSettle (s : ServerNo) (g : Counts) : Books → List Message → List Sent → Books → Type 0 where
  SettleHere : (b : Books) (l : AreListed b) → step_by g b l ≡ None → BooksSettle s g b [] [] b
  SettleByOwn : (b c : Books) (m : Message) (own : List Message) (sent : List Sent) (l : AreListed b)
      → BooksSettle s g (taken_by b (row_by g b l m)) (own ++ to_itself s (row_by g b l m).messages) sent c
      → BooksSettle s g b (m ∷ own) (to_others s (row_by g b l m).messages ++ sent) c
  SettleByWork : (b c : Books) (row : RowOutcome Memory) (sent : List Sent) (l : AreListed b) → step_by g b l ≡ Some row
      → BooksSettle s g (worked_by b row) (to_itself s row.messages) sent c → BooksSettle s g b [] (to_others s row.messages ++ sent) c

-- a frame: a message, which is taken as one to itself is, a word to send once more what waits, or one that a transaction's work is to give way
pub data BooksServe (s : ServerNo) (g : Counts) : Books → Body → List Sent → Books → Type 0 where
  ServeMessage : (b c : Books) (m : Message) (sent : List Sent) → BooksSettle s g b (m ∷ []) sent c → BooksServe s g b (bodies.Message m) sent c
  ServeNudge : (b c : Books) (sent : List Sent) → BooksSettle s g b (to_itself s (server_again b.memory b.found)) sent c
      → BooksServe s g b bodies.Nudge (to_others s (server_again b.memory b.found) ++ sent) c
  ServeTimeout : (b c : Books) (T : Tid) (sent : List Sent) → BooksSettle s g (record b { memory = server_timeout b.memory T }) [] sent c → BooksServe s g b (bodies.Timeout T) sent c

-- frames one after another, with all that is sent to others
pub data BooksServeAll (s : ServerNo) (g : Counts) : Books → List Framed → List Sent → Books → Type 0 where
  ServeNone : (b : Books) → BooksServeAll s g b [] [] b
  ServeOneMore : (b c d : Books) (f : Framed) (fs : List Framed) (sent more : List Sent) → BooksServe s g b f.body sent c → BooksServeAll s g c fs more d
      → BooksServeAll s g b (f ∷ fs) (sent ++ more) d
