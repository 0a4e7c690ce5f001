-- The calls of a storage, as puts on a store that stands.
use Rattle.std.specs.Prelude.{◌≡◌, ◌⊎◌, ℕ, Bool, true, List, [], ◌∷◌}
use Rattle.jn_base.specs.declared.names.ServerNo.{ServerNo}
use Rattle.jn_records.specs.declared.head.Head.{Head}
use Rattle.jn_records.specs.declared.record.Record.{Record}
use Rattle.jn_records.specs.StablePages.{Counts}
use Rattle.jn_rows.specs.Stable.{StableState, Pick, Change, made_by, stable, Changed, Unchanged, IsStopState}
use Rattle.jn_storage.specs.Orderly.{IsLoadable}
use Rattle.jn_store.specs.Store.{StoreView}
use Rattle.jn_page_state.specs.Pages.{found_on}
use Rattle.jn_page_state.specs.Puts.{PagePut, IsPagePut, PutStep}
use Rattle.jn_page_state.specs.Recoverable.{IsRecoverable}
use Rattle.jn_page_state.specs.Held.{IsHeld, epoch_after, records_after, heads_after, rows_after}

-- a store between two calls, none of which was stopped: its records, heads and map pages are known
pub record IsStanding (server : ServerNo) (g : Counts) (v : StoreView) (epoch : ℕ) (records : List Record) (heads : List Head) (rows : List (List ℕ)) : Type 0 where
  pub held : IsHeld server g v epoch records heads rows
  pub recoverable : IsRecoverable server g v

-- the state that all its picks find
abbrev pub standing_state : Counts → StoreView → StableState
standing_state g v = stable (found_on g v)

-- a put, done or stopped, of a page of the format
pub record IsPutStep (server : ServerNo) (g : Counts) (v : StoreView) (put : PagePut) (ok : Bool) (w : StoreView) : Type 0 where
  pub page : IsPagePut server g put
  pub step : PutStep server g v put ok w

-- the change may be made
abbrev pub MayChange : ServerNo → Counts → StoreView → Change → Type 0
MayChange server g v step = IsLoadable server g.heads (made_by step (standing_state g v))

-- The put is this one change, and leaves a store for a recovery; where it is done the store stands again.
pub record Makes (server : ServerNo) (g : Counts) (v : StoreView) (epoch : ℕ) (records : List Record) (heads : List Head) (rows : List (List ℕ)) (put : PagePut) (step : Change) (ok : Bool) (w : StoreView) : Type 0 where
  pub change : Changed (standing_state g v) step ok (found_on g w)
  pub recoverable : IsRecoverable server g w
  pub standing : ok ≡ true → IsStanding server g w (epoch_after put epoch) (records_after put records) (heads_after put heads) (rows_after put rows)

-- the same of a put that changes nothing
pub record MakesNothing (server : ServerNo) (g : Counts) (v : StoreView) (epoch : ℕ) (records : List Record) (heads : List Head) (rows : List (List ℕ)) (put : PagePut) (ok : Bool) (w : StoreView) : Type 0 where
  pub unchanged : Unchanged (standing_state g v) (found_on g w)
  pub recoverable : IsRecoverable server g w
  pub standing : ok ≡ true → IsStanding server g w (epoch_after put epoch) (records_after put records) (heads_after put heads) (rows_after put rows)

-- The first of two puts that make a change: what is found, done or stopped, is what a stop may leave of it.
pub record MakesFirst (server : ServerNo) (g : Counts) (v : StoreView) (epoch : ℕ) (records : List Record) (heads : List Head) (rows : List (List ℕ)) (put : PagePut) (step : Change) (ok : Bool) (w : StoreView) : Type 0 where
  pub found : (c : Pick) → IsStopState (standing_state g v) (step ∷ []) (found_on g w c)
  pub recoverable : IsRecoverable server g w
  pub standing : ok ≡ true → IsStanding server g w (epoch_after put epoch) (records_after put records) (heads_after put heads) (rows_after put rows)

-- the root is put with a later epoch: by each pick the epoch is the old one or the new, and all else is as it was
pub record MakesEpoch (server : ServerNo) (g : Counts) (v : StoreView) (records : List Record) (heads : List Head) (rows : List (List ℕ)) (later : ℕ) (ok : Bool) (w : StoreView) : Type 0 where
  pub done : ok ≡ true → (c : Pick) → found_on g w c ≡ record (standing_state g v) { epoch = later }
  pub stop : (c : Pick) → (found_on g w c ≡ standing_state g v) ⊎ (found_on g w c ≡ record (standing_state g v) { epoch = later })
  pub recoverable : IsRecoverable server g w
  pub standing : ok ≡ true → IsStanding server g w later records heads rows
