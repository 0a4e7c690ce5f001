-- What the calls of a coordinator do.
use Rattle.std.specs.Prelude.{◌≡◌, ◌≤◌, ◌+◌, ◌-◌, ◌*◌, ℕ, Bool, true, false, not, nat_lt, ◌&&◌, if◌then◌else◌, List, [], ◌∷◌, length, Option, Some, None, is_some, Result, Ok, Err}
use Rattle.jn_base.specs.declared.names.ClientNo.{ClientNo}
use Rattle.jn_base.specs.declared.names.Tid.{Tid}
use Rattle.jn_base.specs.declared.names.WorkId.{WorkId}
use Rattle.jn_base.specs.declared.names.Tickets.{Tickets}
use Rattle.jn_base.specs.Names.{tid_eq}
use Rattle.jn_msgs.specs.Collected.{Collected}
use Rattle.jn_base.specs.declared.names.Party.TheVariants.{Client}
use Rattle.jn_base.specs.Limits.{most_transactions}
use Rattle.jn_msgs.specs.declared.message.Message.TheVariants as messages
use Rattle.jn_msgs.specs.declared.message.Outcome.{Outcome}
use Rattle.jn_store.specs.Store.{IsStop}
use Rattle.jn_rows.specs.declared.coordinator.Transaction.{Transaction}
use Rattle.jn_rows.specs.declared.coordinator.Stage.{Stage}
use Rattle.jn_rows.specs.declared.coordinator.Voting.{Voting as Ballot}
use Rattle.jn_rows.specs.declared.coordinator.Stage.TheVariants.{Voting, Committed}
use Rattle.jn_rows.specs.Stable.{FlagState, Pick, IsStopState, made_all}
use Rattle.jn_rows.specs.Outcomes.{RowOutcome, ignored, sends}
use Rattle.jn_rows.specs.Coordinator.{CoordinatorTable, transaction_at, is_work, is_voting, promised, staged, prepares}
use Rattle.jn_storage.specs.Orderly.{IsGiven, IsLoadable}
use Rattle.jn_storage.specs.Storage.{Accounts, StorageView, StorageLater, IsServing}
use Rattle.jn_storage.specs.Calls.{state, PromiseReleased, with_promises}
use Rattle.jn_base.specs.declared.fault.CallFault.{CallFault}
use Rattle.jn_base.specs.declared.fault.CallFault.TheVariants.{Stopped, Memory}
use Rattle.jn_transactions.specs.Telling.{added, Longer}
use Rattle.jn_coord.specs.Remembered.{Remembered, table_of, rises}

-- ---- a coordinator and a storage that fit

-- whose flag it is, and which works it names
abbrev pub flag_told : Option FlagState → Option (ClientNo × List WorkId)
flag_told None = None
flag_told (Some flag) = Some (flag.client, flag.works)

abbrev pub committed_as : ClientNo → Stage → Option (ClientNo × List WorkId)
committed_as c (Committed d) = Some (c, d.works)
committed_as c stage = None

abbrev pub committed_at : Tid → List Transaction → Option (ClientNo × List WorkId)
committed_at T [] = None
committed_at T (x ∷ xs) = if tid_eq x.tid T then committed_as x.client x.stage else committed_at T xs

-- a flag has room for 8 works
abbrev pub ballot_fits : Stage → Bool
ballot_fits (Voting b) = not (nat_lt 8 (length b.works))
ballot_fits stage = true

abbrev pub ballots_fit : List Transaction → Bool
ballots_fit [] = true
ballots_fit (x ∷ xs) = ballot_fits x.stage && ballots_fit xs

-- The committed transactions are those with a flag, the promises are those of the voting ones and so many more, and
-- every name is one that the server has given.
pub record FitsWith (spare : ℕ) (r : Remembered) (v : StorageView) : Type 0 where
  pub serving : IsServing v
  pub clients : length r.requests ≡ 256
  pub few : length r.transactions ≤ most_transactions
  pub rising : rises r.transactions ≡ true
  pub flags : (T : Tid) → flag_told ((state v).flags T) ≡ committed_at T r.transactions
  pub promises : v.accounts.promised_records ≡ promised r.transactions + spare
  pub ballots : ballots_fit r.transactions ≡ true
  pub given : (T : Tid) → is_some (transaction_at T r.transactions) ≡ true → IsGiven v.accounts.server (state v).epoch T.server T.epoch

abbrev pub FitsStorage : Remembered → StorageView → Type 0
FitsStorage r v = FitsWith 0 r v

-- the promise that a transaction is yet to be given before it can commit
abbrev pub spare_of : Option Transaction → ℕ
spare_of None = 0
spare_of (Some x) = if is_voting x.stage then 0 else 1

abbrev pub voting_in : Option Transaction → Bool
voting_in None = false
voting_in (Some x) = is_voting x.stage

abbrev pub stage_in : Option Transaction → Option Stage
stage_in None = None
stage_in (Some x) = Some x.stage

abbrev pub ballot_of : Stage → Option Ballot
ballot_of (Voting b) = Some b
ballot_of stage = None

abbrev pub ballot_in : Option Transaction → Option Ballot
ballot_in None = None
ballot_in (Some x) = ballot_of x.stage

abbrev pub works_in : Option (ClientNo × List WorkId) → Option (List WorkId)
works_in None = None
works_in (Some told) = Some told.1

-- a promise is given back, where there is one
abbrev pub Releases : Bool → StorageView → StorageView → Type 0
Releases true v w = PromiseReleased v w
Releases false v w = w ≡ v

-- ---- a row

-- what a call that reaches the device keeps, with so many changes
pub record Reaches (v : StorageView) (changes : ℕ) (w : StorageView) : Type 0 where
  pub later : StorageLater v w
  pub calls : w.store.calls ≤ v.store.calls + 16 * changes

-- of what is counted, only the free records and those that are promised change
abbrev pub CountsRecords : Accounts → Accounts → Type 0
CountsRecords a b = b ≡ record a { free_records = b.free_records; promised_records = b.promised_records }

pub record IsDone (row : RowOutcome CoordinatorTable) (v : StorageView) (before : Collected) (r : Remembered) (w : StorageView) (after : Collected) : Type 0 where
  pub table : table_of r ≡ row.table
  pub sent : after ≡ added before row.messages row.notes
  pub made : (c : Pick) → w.found c ≡ made_all row.changes (state v)
  pub fits : FitsStorage r w
  pub accounts : CountsRecords v.accounts w.accounts
  pub reaches : Reaches v (length row.changes) w
  pub no_stop : w.store.stops ≡ v.store.stops

-- some of its changes are made, from the first one on
pub record IsStopped (row : RowOutcome CoordinatorTable) (v : StorageView) (w : StorageView) : Type 0 where
  pub some : (c : Pick) → IsStopState (state v) row.changes (w.found c)
  pub loadable : (c : Pick) → IsLoadable v.accounts.server v.accounts.heads (w.found c)
  pub reaches : Reaches v (length row.changes) w
  pub stop : IsStop v.store w.store

-- A call whose row this is, where what is sent and reported may have to be taken back.
abbrev pub Does : {A : Type 0} → RowOutcome CoordinatorTable → Remembered → StorageView → Collected → Result A CallFault → Remembered → StorageView → Collected → Type 0
Does row r v before (Ok x) r' w after = IsDone row v before r' w after
Does row r v before (Err Memory) r' w after = (r' ≡ r) × (w ≡ v) × Longer before after
Does row r v before (Err Stopped) r' w after = IsStopped row v w × Longer before after

-- the client is told this, unless the work is ready
abbrev pub waiting_row : CoordinatorTable → Tickets → Transaction → Ballot → WorkId → Outcome → RowOutcome CoordinatorTable
waiting_row t k x b W outcome = if is_work W b.ready then ignored t k else sends t k ((Client x.client, messages.Outcome x.client x.tid outcome) ∷ [])

-- the works of a ballot are to be prepared
abbrev pub ballot_row : CoordinatorTable → Tickets → Transaction → Ballot → RowOutcome CoordinatorTable
ballot_row t k x b = sends (staged t x.tid (Voting b)) k (prepares x.tid x.client b.works)

-- how many records are free and not promised
abbrev pub free_of : StorageView → ℕ
free_of v = v.accounts.free_records - v.accounts.promised_records

-- one record more is promised
abbrev pub IsPromised : StorageView → StorageView → Type 0
IsPromised v w = w ≡ record v { accounts = with_promises v.accounts (v.accounts.promised_records + 1) }

abbrev pub is_memory : {A : Type 0} → Result A CallFault → Bool
is_memory (Err Memory) = true
is_memory r = false
