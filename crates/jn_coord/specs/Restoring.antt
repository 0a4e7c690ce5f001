-- What a coordinator remembers after a restart.
use Rattle.std.specs.Prelude.{◌≡◌, ℕ, Bool, true, nat_lt, ◌&&◌, if◌then◌else◌, List, [], ◌∷◌, is_some, slice_set}
use Rattle.jn_base.specs.declared.names.RequestNo.{RequestNo}
use Rattle.jn_base.specs.declared.names.ClientNo.{ClientNo}
use Rattle.jn_base.specs.declared.names.Tid.{Tid}
use Rattle.jn_base.specs.Names.{tid_eq}
use Rattle.jn_records.specs.declared.flag.Flag.{Flag}
use Rattle.jn_rows.specs.Coordinator.{restored_coordinator}
use Rattle.jn_storage.specs.Listing.{IsListing}
use Rattle.jn_storage.specs.Storage.{StorageView}
use Rattle.jn_storage.specs.Calls.{state}
use Rattle.jn_coord.specs.Remembered.{Remembered, seen_by, table_of}
use Rattle.jn_coord.specs.Calls.{FitsStorage}

-- a client's request is seen
abbrev pub with_seen : List ℕ → ClientNo → RequestNo → List ℕ
with_seen requests c request = if nat_lt (seen_by requests c) request.0 then slice_set requests c.0 request.0 else requests

abbrev pub with_requests : List ℕ → List Flag → List ℕ
with_requests requests [] = requests
with_requests requests (flag ∷ flags) = with_requests (with_seen requests flag.client flag.request) flags

abbrev pub clients_fit : List Flag → Bool
clients_fit [] = true
clients_fit (flag ∷ flags) = nat_lt flag.client.0 256 && clients_fit flags

-- a coordinator that has just restarted knows its flags alone
pub record Restored (v : StorageView) (r : Remembered) : Type 0 where
  pub names : List Tid
  pub listing : IsListing tid_eq (λ T. is_some ((state v).flags T)) names
  pub table : table_of r ≡ restored_coordinator (state v) names
  pub fits : FitsStorage r v
