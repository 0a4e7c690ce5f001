-- Between two rows: what stands on the pages of a server that is up.
use Rattle.std.proofs.Common.{◌≡◌, ◌≤◌, ℕ, true, List, [], ◌∷◌, Some, refl, sym, ◌∙◌, ap, subst, arith}
use Rattle.std.specs.Prelude.{◌+◌, is_some}
use Rattle.jn_base.specs.declared.device.Outside.{Outside}
use Rattle.jn_base.specs.declared.names.ServerNo.{ServerNo}
use Rattle.jn_base.specs.declared.names.WorkId.{WorkId}
use Rattle.jn_base.specs.Names.{unit_eq, work_eq}
use Rattle.jn_device.specs.Later.{count_kind, count_told}
use Rattle.jn_intent.specs.Scrubbing.{counts_in}
use Rattle.jn_page_state.specs.Pages.{found_on, heads_on, pool_on}
use Rattle.jn_page_state.specs.Recoverable.{IsRecoverable}
use Rattle.jn_records.specs.MapPlaces.{MapPlaces, maps_in}
use Rattle.jn_records.specs.StablePages.{Counts}
use Rattle.jn_rows.specs.Stable.{StableState, Prepared, IsUp, stable}
use Rattle.jn_server.specs.Counted.{CountsAll}
use Rattle.jn_server.specs.Holding.{HoldsAll as ServerHolds}
use Rattle.jn_server.specs.Reading.{AreCountsOfPages, IsRoomOfPages, StandsOnPages}
use Rattle.jn_server.specs.Seen.{Parts, ServerView, IsServer, memory_of, room_of, view_with}
use Rattle.jn_server.specs.Standing.{standing_pages, beside_on, free_on, has_rubbish}
use Rattle.jn_storage.specs.Calls.{state}
use Rattle.jn_storage.specs.Listing.{IsListing}
use Rattle.jn_storage.specs.Storage.{IsCounted, has_map, is_stored, map_eq}
use Rattle.jn_store.specs.Store.{StoreView, StoreLater, IsCalm}
use Rattle.jn_system.specs.WholeSystem.Servers.{Room}
use Rattle.jn_worker.specs.Calls.{pages_named}
use Rattle.jn_worker.specs.Leaving.{Beside, beside_of}
use Rattle.jn_node.specs.Running.{state_of, beside_at, room_on, ArePagesCounted, HoldsAll, IsMoment}
use Rattle.jn_node.specs.Nodes.{running_of}

-- ---- no fault is reported where none waits

none-left : (n : ℕ) → 1 + n ≤ 0 → ⊥
none-left n h = omega (arith, h)

none-told : (told : List Outside) → count_told (λ kind. true) told ≤ 0 → told ≡ []
none-told [] h = refl
none-told (o ∷ os) h = absurd (none-left (count_told (λ kind. true) os) h)

pub still-silent : (v w : StoreView) → StoreLater v w → IsCalm v → v.told ≡ [] → w.told ≡ []
still-silent v w later calm none = none-told w.told (by _ _ _ _ (later.spends.told_of (λ kind. true)) (ap (count_kind (λ kind. true)) calm.quiet) (ap (count_told (λ kind. true)) none))
  where
    by : (waits' told' waits told : ℕ) → waits' + told' ≤ waits + told → waits ≡ 0 → told ≡ 0 → told' ≤ 0
    by waits' told' waits told h e f = omega (arith, h, e, f)

-- ---- what is found is what the pages say

-- the pages of these counts say what is found
abbrev pub Sees : Counts → ServerView → Type 0
Sees g v = v.storage.found ≡ found_on g v.storage.store

pub sees : {S : Type 0} (look : S → StoreView) (p : Parts S) → Sees (counts_in (view_with look p).storage.accounts) (view_with look p)
sees look p = refl

pub sees-at : {S : Type 0} (look : S → StoreView) (p : Parts S) (g : Counts) → counts_in (view_with look p).storage.accounts ≡ g → Sees g (view_with look p)
sees-at look p g e = subst (λ h. Sees h (view_with look p)) e (sees look p)

module _ (g : Counts) (v : ServerView) (at : Sees g v) where
  pub same-state : state v.storage ≡ state_of g (running_of v)
  same-state = ap stable at

  pub same-room : counts_in v.storage.accounts ≡ g → IsRoomOfPages v → room_of v.storage ≡ room_on g (running_of v)
  same-room e room = by (room_of v.storage) (subst (λ h. (room_of v.storage).free ≡ free_on h (standing_pages v.storage.store) (state v.storage) (memory_of v)) e room.free ∙ ap (λ (x : StableState). free_on g (standing_pages v.storage.store) x (memory_of v)) same-state)
      (subst (λ h. (room_of v.storage).maps ≡ maps_in (heads_on h (standing_pages v.storage.store))) e room.maps)
      (subst (λ h. (room_of v.storage).rubbish ≡ has_rubbish (pool_on h (standing_pages v.storage.store))) e room.rubbish)
    where
      by : (r : Room) → r.free ≡ (room_on g (running_of v)).free → r.maps ≡ (room_on g (running_of v)).maps → r.rubbish ≡ (room_on g (running_of v)).rubbish → r ≡ room_on g (running_of v)
      by r a b c = λ i. record { free = a i; maps = b i; rubbish = c i }

  pub same-beside : counts_in v.storage.accounts ≡ g → IsServer v → StandsOnPages v → beside_of v.storage.accounts ≡ beside_at g (running_of v)
  same-beside e serves stands = let own : AreCountsOfPages v = stands.counts serves.works.serving.power in
      subst (λ h. beside_of v.storage.accounts ≡ beside_on h (standing_pages v.storage.store)) e own.beside

-- ---- what works hold

module _ (g : Counts) (v : ServerView) (at : Sees g v) (e : counts_in v.storage.accounts ≡ g) (serves : IsServer v) (stands : StandsOnPages v) where
  -- with what stands beside the state
  abbrev Holds : StableState → Beside → Type 0
  Holds x b = (W : WorkId) (p : Prepared) → x.works W ≡ Some p → W.epoch ≡ x.epoch → v.storage.accounts.next W ≡ 0 → v.storage.accounts.held W ≡ pages_named p.list (b.supplied W)

  pub holds-here : ServerHolds v → HoldsAll g (running_of v)
  holds-here h = subst (λ (x : StableState). Holds x (beside_at g (running_of v))) (same-state g v at) (subst (λ (b : Beside). Holds (state v.storage) b) (same-beside g v at e serves stands) h)

  pub holds-there : HoldsAll g (running_of v) → ServerHolds v
  holds-there h = subst (λ (b : Beside). Holds (state v.storage) b) (sym (same-beside g v at e serves stands)) (subst (λ (x : StableState). Holds x (beside_at g (running_of v))) (sym (same-state g v at)) h)

-- ---- the moment

counted-pages : (free blocks maps held free' leaves leaves' : ℕ) → free + blocks + maps + held ≡ leaves → free ≡ free' → leaves ≡ leaves' → free' + blocks + maps + held ≡ leaves'
counted-pages free blocks maps held free' leaves leaves' e f l = omega (arith, e, f, l)

pub pages-counted : (g : Counts) (v : ServerView) → Sees g v → counts_in v.storage.accounts ≡ g → IsServer v → StandsOnPages v → IsRoomOfPages v → ArePagesCounted g (running_of v)
pages-counted g v at e serves stands room = record {
  works = counted.works;
  blocks = counted.blocks;
  maps = counted.maps;
  works_all = subst (λ (x : StableState). IsListing work_eq (λ W. is_some (x.works W)) counted.works) (same-state g v at) counted.works_all;
  blocks_all = subst (λ (x : StableState). IsListing unit_eq (is_stored x.files) counted.blocks) (same-state g v at) counted.blocks_all;
  maps_all = subst (λ (m : MapPlaces). IsListing map_eq (has_map m) counted.maps) (ap (λ (b : Beside). b.maps) (same-beside g v at e serves stands)) counted.maps_all;
  pages_all = counted-pages _ _ _ _ _ _ _ counted.pages (ap (λ (r : Room). r.free.pages) (same-room g v at e room)) (ap (λ (h : Counts). h.leaves) e);
}
  where
    counted : IsCounted (state v.storage) v.storage.accounts
    counted = serves.works.serving.counted

pub moment : (s : ServerNo) (g : Counts) (v : ServerView) → Sees g v → v.storage.accounts.server ≡ s → counts_in v.storage.accounts ≡ g → IsServer v → StandsOnPages v → IsRoomOfPages v → IsCalm v.storage.store → v.storage.store.told ≡ []
    → HoldsAll g (running_of v) → IsMoment s g (running_of v)
moment s g v at own e serves stands room calm told holds = record {
  up = subst IsUp at serves.works.serving.up;
  calm = calm;
  told = told;
  recoverable = subst (λ q. IsRecoverable q g v.storage.store) own (subst (λ h. IsRecoverable v.storage.accounts.server h v.storage.store) e stands.recoverable);
  counted = subst (λ (x : StableState). CountsAll g x (standing_pages v.storage.store)) (same-state g v at) (subst (λ h. CountsAll h (state v.storage) (standing_pages v.storage.store)) e (stands.all serves));
  pages = pages-counted g v at e serves stands room;
  held = holds;
}
