-- What a server shows of its files.
use Rattle.std.specs.Prelude.{◌≡◌, ◌≤◌, ◌+◌, ◌*◌, ⊤, List, map}
use Rattle.jn_storage.specs.Storage.{StorageLater}
use Rattle.jn_storage.specs.Calls.{state}
use Rattle.jn_rows.specs.Stable.{Unchanged}
use Rattle.jn_store.specs.Store.{IsCalm, IsStop}
use Rattle.jn_store.specs.DeviceCalls.{cleaned_get_calls}
use Rattle.jn_system.specs.WholeSystem.Printing.{Printed, FileThere, PageStored, UnitLocked, prints_in, ArePrints}
use Rattle.jn_server.specs.declared.show.Shown.{Shown}
use Rattle.jn_server.specs.declared.show.Shown.TheVariants as shown
use Rattle.jn_base.specs.declared.fault.CallFault.{CallFault}
use Rattle.jn_base.specs.declared.fault.CallFault.TheVariants.{Stopped, Memory as NoMemory}
use Rattle.jn_server.specs.Seen.{ServerView, IsServer}

-- as the whole system prints it
abbrev pub print_of : Shown → Printed
print_of (shown.File f) = FileThere f
print_of (shown.Page f p bytes) = PageStored f p bytes
print_of (shown.Locked u T) = UnitLocked u T

-- Nothing changes but the counts of the device.
pub record Looks (v w : ServerView) : Type 0 where
  pub found : Unchanged (state v.storage) w.storage.found
  pub later : StorageLater v.storage w.storage
  -- 24 for each data page
  pub calls : w.storage.store.calls ≤ v.storage.store.calls + cleaned_get_calls * v.storage.accounts.leaves
  pub tables : w ≡ record v { storage = w.storage }

-- It reports of each file what is stored, or who holds it for commit, in rising order, and of each file that is there so of each block.
pub record IsShown (v : ServerView) (list : List Shown) (w : ServerView) : Type 0 where
  pub looks : Looks v w
  pub prints : ArePrints (prints_in v.worker.table (state v.storage).files) (map print_of list)
  pub accounts : w.storage.accounts ≡ v.storage.accounts
  pub serves : IsServer w
  pub no_stop : w.storage.store.stops ≡ v.storage.store.stops

pub record IsCutShort (v w : ServerView) : Type 0 where
  pub looks : Looks v w
  pub stop : IsStop v.storage.store w.storage.store
  pub not_calm : IsCalm v.storage.store → ⊥

-- without memory the server is of no use any more
abbrev pub CutsShort : CallFault → ServerView → ServerView → Type 0
CutsShort Stopped v w = IsCutShort v w
CutsShort NoMemory v w = ⊤
