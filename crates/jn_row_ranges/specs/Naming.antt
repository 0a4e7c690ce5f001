-- Whatever is named is at one of so many servers: in messages, in tables and in what is stable.
use Rattle.std.specs.Prelude.{◌≡◌, ℕ, Bool, true, ◌&&◌, ⊤, List, [], ◌∷◌, Option, Some, None}
use Rattle.jn_base.specs.declared.names.Tid.{Tid}
use Rattle.jn_base.specs.declared.names.WorkId.{WorkId}
use Rattle.jn_base.specs.declared.names.Party.{Party}
use Rattle.jn_base.specs.declared.names.Party.TheVariants.{Client, Server}
use Rattle.jn_msgs.specs.Ranges.{is_near, is_any_near, are_both_near, is_few, names_near}
use Rattle.jn_rows.specs.declared.client.Outstanding.{Outstanding}
use Rattle.jn_rows.specs.declared.coordinator.Transaction.{Transaction}
use Rattle.jn_rows.specs.Client.{ClientTable, Commanded, Refuses, Sends}
use Rattle.jn_rows.specs.ClientLaws.{IsClient}
use Rattle.jn_rows.specs.Outcomes.{Sent}
use Rattle.jn_rows.specs.Stable.{StableState, Prepared, FlagState, Change, AddReady, AddFlag}
use Rattle.jn_rows.specs.Worker.{WorkerTable}
use Rattle.jn_system.specs.WholeSystem.Near.{is_small_stage}

-- ---- messages

abbrev pub is_for_near : ℕ → Party → Bool
is_for_near servers (Client c) = true
is_for_near servers (Server s) = is_near servers s

abbrev pub is_within : ℕ → Sent → Bool
is_within servers x = is_for_near servers x.0 && names_near servers x.1

abbrev pub are_within : ℕ → List Sent → Bool
are_within servers [] = true
are_within servers (x ∷ sent) = is_within servers x && are_within servers sent

-- ---- clients

abbrev pub is_again_within : ℕ → Option Outstanding → Bool
is_again_within servers None = true
is_again_within servers (Some o) = is_within servers (o.to, o.message)

-- its works, its transaction, and what it would send once more
pub record ClientWithin (servers : ℕ) (t : ClientTable) : Type 0 where
  pub client : IsClient t
  pub servers_are : t.servers ≡ servers
  pub transaction : is_any_near servers t.transaction ≡ true
  pub again : is_again_within servers t.outstanding ≡ true

abbrev pub CommandWithin : ℕ → Commanded → Type 0
CommandWithin servers (Refuses refusal) = ⊤
CommandWithin servers (Sends t to message) = ClientWithin servers t × (is_within servers (to, message) ≡ true)

-- ---- servers

abbrev pub are_works_within : ℕ → WorkerTable → Bool
are_works_within servers [] = true
are_works_within servers (w ∷ works) = are_both_near servers w.tid w.name && are_works_within servers works

-- of a transaction whose works are as few as an End's
abbrev pub is_transaction_within : ℕ → Transaction → Bool
is_transaction_within servers x = is_near servers x.tid.server && is_small_stage servers x.stage

abbrev pub are_transactions_within : ℕ → List Transaction → Bool
are_transactions_within servers [] = true
are_transactions_within servers (x ∷ xs) = is_transaction_within servers x && are_transactions_within servers xs

-- ---- what is stable

pub record StateWithin (servers : ℕ) (x : StableState) : Type 0 where
  pub works : (W : WorkId) (p : Prepared) → x.works W ≡ Some p → are_both_near servers p.tid W ≡ true
  pub flags : (T : Tid) (flag : FlagState) → x.flags T ≡ Some flag → (is_near servers T.server && is_few servers flag.works) ≡ true

abbrev pub is_change_within : ℕ → Change → Bool
is_change_within servers (AddReady head list reads) = are_both_near servers head.tid head.work
is_change_within servers (AddFlag flag) = is_near servers flag.tid.server && is_few servers flag.works
is_change_within servers change = true

abbrev pub are_changes_within : ℕ → List Change → Bool
are_changes_within servers [] = true
are_changes_within servers (c ∷ changes) = is_change_within servers c && are_changes_within servers changes
