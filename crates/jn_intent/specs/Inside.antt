-- The fields of a storage.
use Rattle.std.specs.Prelude.{◌≡◌, ◌≤◌, ◌+◌, ℕ, List, [], vec_len, vec_capacity}
use Rattle.std.specs.List.{AllByRecursion}
use Rattle.jn_base.specs.declared.names.WorkId.{WorkId}
use Rattle.jn_page_state.specs.Recoverable.{IsRecoverable}
use Rattle.jn_store.specs.Store.{StoreView}
use Rattle.jn_recovery.specs.Memory.{Memory}
use Rattle.jn_recovery.specs.Matches.{IsKeptMemory}
use Rattle.jn_intent.specs.declared.intents.Room.{Room}
use Rattle.jn_intent.specs.declared.intents.Intents.TheInside.{Inside}

-- what is kept beside the store
abbrev pub memory_of : {S : Type 0} → Inside S → Memory
memory_of s = record {
  server = s.server;
  epoch = s.epoch;
  records = s.sets;
  table = s.table;
  works = s.works.items;
  flags = s.flags.items;
  promised = vec_len s.rooms;
}

-- room for the works of a flag
pub record IsEmptyFor (capacity : ℕ) (items : List WorkId) : Type 0 where
  pub empty : items ≡ []
  pub enough : 8 ≤ capacity

pub record IsRoom (room : Room) : Type 0 where
  pub stored : IsEmptyFor (vec_capacity room.stored) room.stored.items
  pub listed : IsEmptyFor (vec_capacity room.listed) room.listed.items

-- Memory is what stands on the pages, while there is power. With power or without, a recovery may begin from the store.
-- Each promise has the room that its flag will fill.
pub record IsSoundStorage {S : Type 0} (look : S → StoreView) (s : Inside S) : Type 0 where
  pub kept : IsKeptMemory (memory_of s) (look s.store)
  pub recoverable : IsRecoverable (memory_of s).server (memory_of s).table.counts (look s.store)
  pub flags_room : vec_len s.flags + vec_len s.rooms ≤ vec_capacity s.flags
  pub rooms : AllByRecursion IsRoom s.rooms.items
