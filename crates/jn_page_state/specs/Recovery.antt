-- A recovery as the steps that it makes of its store, and what any number of them leaves.
use Rattle.std.specs.Prelude.{◌≡◌, ◌≤◌, ℕ, Bool, List, [], ◌∷◌}
use Rattle.jn_base.specs.declared.names.ServerNo.{ServerNo}
use Rattle.jn_records.specs.declared.record.Record.TheVariants.{Free}
use Rattle.jn_records.specs.StablePages.{Counts}
use Rattle.jn_rows.specs.Stable.{StableState, Pick, Change, Left, left_of}
use Rattle.jn_store.specs.Store.{StoreView}
use Rattle.jn_page_state.specs.Changes.{IsIdlePut}
use Rattle.jn_page_state.specs.Pages.{found_on}
use Rattle.jn_page_state.specs.Puts.{RootPut, RecordPut, IsPagePut, PutStep, IsFewer, contents_by}

-- Steps of recoveries, each done or stopped, any number of them in turn, over any number of restarts.
pub data Recovers (server : ServerNo) (g : Counts) : StoreView → StoreView → Type 0 where
  -- gets and cleanups, and decays between them
  cleans : (v w : StoreView) → IsFewer v w → Recovers server g v w
  -- the root is put with an epoch that no pick is past
  counts : (v w : StoreView) (epoch : ℕ) (ok : Bool) → ((c : Pick) → (contents_by g v c).epoch ≤ epoch) → IsPagePut server g (RootPut epoch) → PutStep server g v (RootPut epoch) ok w → Recovers server g v w
  -- a record that counts for nothing is erased
  erases : (v w : StoreView) (slot : ℕ) (ok : Bool) → ((c : Pick) → IsIdlePut (contents_by g v c).pool slot Free) → IsPagePut server g (RecordPut slot Free) → PutStep server g v (RecordPut slot Free) ok w → Recovers server g v w
  joined : (u v w : StoreView) → Recovers server g u v → Recovers server g v w → Recovers server g u w

-- the same files, works and flags, in the same or a later epoch
pub record IsSameButEpoch (x y : StableState) : Type 0 where
  pub same : y ≡ record x { epoch = y.epoch }
  pub later : x.epoch ≤ y.epoch

-- each pick after finds what a pick before found, epochs aside
abbrev pub FindsSame : Counts → StoreView → StoreView → Type 0
FindsSame g v w = (c : Pick) → (b : Pick) × IsSameButEpoch (found_on g v b) (found_on g w c)

-- the state after turns that begin with the first of these changes, each of which a stop left like this
abbrev pub after_turns : List Change → List Left → StableState → StableState
after_turns steps [] x = x
after_turns steps (l ∷ turns) x = after_turns steps turns (left_of l steps x)
