-- What a closing of transactions does, one by one.
use Rattle.std.specs.Prelude.{◌≡◌, ◌≤◌, ◌+◌, ◌*◌, Bool, true, false, if◌then◌else◌, List, [], ◌∷◌, ◌++◌, length, Option, Some, None, Result, Ok, Err}
use Rattle.jn_base.specs.declared.names.ClientNo.{ClientNo}
use Rattle.jn_base.specs.declared.names.Tid.{Tid}
use Rattle.jn_base.specs.Names.{tid_eq}
use Rattle.jn_rows.specs.declared.coordinator.Transaction.{Transaction}
use Rattle.jn_rows.specs.Stable.{Change, DropFlag, Pick, IsStopState, made_all}
use Rattle.jn_rows.specs.Coordinator.{is_voting, thanked_changes, after_closing, changes_of_closing, all_thanked, flags_of_thanked}
use Rattle.jn_storage.specs.Storage.{StorageView, StorageLater, IsServing}
use Rattle.jn_storage.specs.Orderly.{IsLoadable}
use Rattle.jn_storage.specs.Calls.{state, FlagDropped}
use Rattle.jn_store.specs.Store.{IsStop}
use Rattle.jn_base.specs.declared.fault.CallFault.{CallFault}
use Rattle.jn_base.specs.declared.fault.CallFault.TheVariants.{Stopped, Memory}
use Rattle.jn_transactions.specs.Stages.{goes}
use Rattle.jn_transactions.specs.Closing.{next_closing}
use Rattle.jn_coord.specs.Remembered.{Remembered}
use Rattle.jn_coord.specs.Calls.{CountsRecords, FitsStorage, flag_told}

abbrev pub left_by : Option ClientNo → List Transaction → List Transaction
left_by (Some c) xs = after_closing c xs
left_by None xs = all_thanked xs

abbrev pub changes_by : Option ClientNo → List Transaction → List Change
changes_by (Some c) xs = changes_of_closing c xs
changes_by None xs = flags_of_thanked xs

-- its flag is dropped where it has one, and a promise is given back
pub record GoneFrom (x : Transaction) (v w : StorageView) : Type 0 where
  pub serving : IsServing w
  pub epoch : (state w).epoch ≡ (state v).epoch
  pub flags : (T : Tid) → flag_told ((state w).flags T) ≡ (if tid_eq x.tid T then None else flag_told ((state v).flags T))
  pub promises : w.accounts.promised_records + (if is_voting x.stage then 1 else 0) ≡ v.accounts.promised_records
  pub accounts : CountsRecords v.accounts w.accounts
  pub made : state w ≡ made_all (thanked_changes x.stage x) (state v)
  pub calls : w.store.calls ≤ v.store.calls + 16 * length (thanked_changes x.stage x)
  pub later : StorageLater v w
  pub no_stop : w.store.stops ≡ v.store.stops

-- its one change is made or not
pub record StaysOrGoes (x : Transaction) (v w : StorageView) : Type 0 where
  pub one : thanked_changes x.stage x ≡ DropFlag x.tid ∷ []
  pub dropped : FlagDropped v x.tid false w

abbrev pub LetsGo : {A : Type 0} → Transaction → StorageView → Result A CallFault → StorageView → Type 0
LetsGo x v (Ok y) w = GoneFrom x v w
LetsGo x v (Err Stopped) w = StaysOrGoes x v w
LetsGo x v (Err Memory) w = ⊥

abbrev pub going_in : Option Transaction → Bool
going_in None = false
going_in (Some x) = goes x.stage

-- So far in a closing: what is left to do comes to the same, and the two fit.
pub record ClosesOn (who : Option ClientNo) (r : Remembered) (v : StorageView) (r' : Remembered) (w : StorageView) : Type 0 where
  pub requests : r'.requests ≡ r.requests
  pub left : left_by who r'.transactions ≡ left_by who r.transactions
  -- the changes that were made
  pub first : List Change
  pub split : changes_by who r.transactions ≡ first ++ changes_by who r'.transactions
  pub made : state w ≡ made_all first (state v)
  pub calls : w.store.calls ≤ v.store.calls + 16 * length first
  pub fits : FitsStorage r' w
  pub accounts : CountsRecords v.accounts w.accounts
  pub later : StorageLater v w
  pub no_stop : w.store.stops ≡ v.store.stops

-- some of the changes are made, from the first one on
pub record ClosingStopped (who : Option ClientNo) (r : Remembered) (v : StorageView) (w : StorageView) : Type 0 where
  pub some : (p : Pick) → IsStopState (state v) (changes_by who r.transactions) (w.found p)
  pub loadable : (p : Pick) → IsLoadable v.accounts.server v.accounts.heads (w.found p)
  pub calls : w.store.calls ≤ v.store.calls + 16 * length (changes_by who r.transactions)
  pub later : StorageLater v w
  pub stop : IsStop v.store w.store

-- one transaction more is closed; false where none is left
abbrev pub ClosesNext : Option ClientNo → Remembered → StorageView → Result Bool CallFault → Remembered → StorageView → Type 0
ClosesNext who r v (Ok true) r' w = ClosesOn who r v r' w × (length r'.transactions + 1 ≤ length r.transactions)
ClosesNext who r v (Ok false) r' w = (next_closing who r.transactions ≡ None) × (r' ≡ r) × (w ≡ v)
ClosesNext who r v (Err Stopped) r' w = ClosingStopped who r v w
ClosesNext who r v (Err Memory) r' w = ⊥

-- every transaction that goes is closed
abbrev pub ClosesAll : {A : Type 0} → Option ClientNo → Remembered → StorageView → Result A CallFault → Remembered → StorageView → Type 0
ClosesAll who r v (Ok x) r' w = ClosesOn who r v r' w × (next_closing who r'.transactions ≡ None)
ClosesAll who r v (Err Stopped) r' w = ClosingStopped who r v w
ClosesAll who r v (Err Memory) r' w = ⊥

-- ---- what is left

-- the transactions of a client are closed, as its next Begin asks, or all that are decided are thanked
pub record ClientClosed (who : Option ClientNo) (r : Remembered) (v : StorageView) (r' : Remembered) (w : StorageView) : Type 0 where
  pub table : r' ≡ record r { transactions = left_by who r.transactions }
  pub made : state w ≡ made_all (changes_by who r.transactions) (state v)
  pub calls : w.store.calls ≤ v.store.calls + 16 * length (changes_by who r.transactions)
  pub fits : FitsStorage r' w
  pub accounts : CountsRecords v.accounts w.accounts
  pub later : StorageLater v w
  pub no_stop : w.store.stops ≡ v.store.stops

abbrev pub ClosesClient : {A : Type 0} → Option ClientNo → Remembered → StorageView → Result A CallFault → Remembered → StorageView → Type 0
ClosesClient who r v (Ok x) r' w = ClientClosed who r v r' w
ClosesClient who r v (Err Stopped) r' w = ClosingStopped who r v w
ClosesClient who r v (Err Memory) r' w = ⊥
