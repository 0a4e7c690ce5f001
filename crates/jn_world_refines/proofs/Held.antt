-- What a server's own calls say of its pages.
use Rattle.jn_world_refines.proofs.Common.{◌≡◌, ◌∙◌, ap, DeviceState, pool_on, Up, Counts, Parts, view_with, memory_of, standing_pages, free_on, has_rubbish, state, pairs_view, StoreView, ReadsPages, heads_on, maps_in}
use Rattle.jn_intent.specs.Scrubbing.{counts_in}
use Rattle.jn_server.specs.Reading.{IsRoomOfPages}

module _ {S : Type 0} (look : S → StoreView) (device : S → DeviceState) (seen : (s : S) → look s ≡ pairs_view (device s)) where
  pub reads-pages : (g : Counts) (p : Parts S) → counts_in (view_with look p).storage.accounts ≡ g → IsRoomOfPages (view_with look p) → ReadsPages look device g (Up p)
  reads-pages g p e room = (
    room.free ∙ ap (λ (n : Counts). free_on n (standing_pages (look p.storage.0)) (state (view_with look p).storage) (memory_of (view_with look p))) e
        ∙ ap (λ (v : StoreView). free_on g (standing_pages v) (state (view_with look p).storage) (memory_of (view_with look p))) (seen p.storage.0),
    room.rubbish ∙ ap (λ (n : Counts). has_rubbish (pool_on n (standing_pages (look p.storage.0)))) e ∙ ap (λ (v : StoreView). has_rubbish (pool_on g (standing_pages v))) (seen p.storage.0),
    room.maps ∙ ap (λ (n : Counts). maps_in (heads_on n (standing_pages (look p.storage.0)))) e ∙ ap (λ (v : StoreView). maps_in (heads_on g (standing_pages v))) (seen p.storage.0),
  )
