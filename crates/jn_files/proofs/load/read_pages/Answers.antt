use Rattle.jn_files.proofs.Common.{◌≡◌, List, length, sym, subst, ◌∙◌, Head, maps_named, counts_of, AreMapPages, IsMapOfHeads, MapsCleaned, MapsHeld, MapsMended, refl, true}
use Rattle.jn_files.proofs.ReadPages.{are_map_pages, loaded_from, mends_maps, read_from}
use Rattle.jn_files.proofs.load.read_pages.Goals as goal

pub read_maps-requires-clause-pages : goal.read_maps-requires-clause-pages
read_maps-requires-clause-pages g c =
    let heads = c.requires.loadable.0 in
    let is : heads ≡ c.deref.result.now = sym (c.deref.ensures.value ∙ c.in_ok-slots.ensures.heads heads c.requires.loadable.1) in
    subst (λ (l : List Head). AreMapPages (counts_of c.args.root.now) (IsMapOfHeads l (length l)) (g.S.StableStore.view c.read_slots.new.store)) is
    (are_map_pages (counts_of c.args.root.now) heads (g.S.StableStore.view c.args.store.now) c.requires.loadable.1 c.requires.counts (g.S.StableStore.view c.read_slots.new.store) c.in_ok-slots.ensures.read)

pub returns-in_err-maps-clause-read : goal.returns-in_err-maps-clause-read
returns-in_err-maps-clause-read g c heads loadable =
    let is : c.deref.result.now ≡ heads = c.deref.ensures.value ∙ c.in_ok-slots.ensures.heads heads loadable in
    loaded_from (counts_of c.args.root.now) heads (g.S.StableStore.view c.args.store.now) loadable c.requires.counts (g.S.StableStore.view c.read_slots.new.store) c.in_ok-slots.ensures.read (g.S.StableStore.view c.read_maps.new.store)
    (subst (λ (l : List Head). MapsCleaned (counts_of c.args.root.now) (IsMapOfHeads l (length l)) (maps_named l) (g.S.StableStore.view c.read_slots.new.store) (g.S.StableStore.view c.read_maps.new.store)) is c.read_maps.ensures.cleaned)

pub returns-clause-read : goal.returns-clause-read
returns-clause-read g c heads loadable =
    let is : c.deref.result.now ≡ heads = c.deref.ensures.value ∙ c.in_ok-slots.ensures.heads heads loadable in
    loaded_from (counts_of c.args.root.now) heads (g.S.StableStore.view c.args.store.now) loadable c.requires.counts (g.S.StableStore.view c.read_slots.new.store) c.in_ok-slots.ensures.read (g.S.StableStore.view c.read_maps.new.store)
    (subst (λ (l : List Head). MapsCleaned (counts_of c.args.root.now) (IsMapOfHeads l (length l)) (maps_named l) (g.S.StableStore.view c.read_slots.new.store) (g.S.StableStore.view c.read_maps.new.store)) is c.read_maps.ensures.cleaned)

pub returns-clause-mended : goal.returns-clause-mended
returns-clause-mended g c = λ _ heads loadable.
    let is : c.deref.result.now ≡ heads = c.deref.ensures.value ∙ c.in_ok-slots.ensures.heads heads loadable in
    mends_maps (counts_of c.args.root.now) heads (g.S.StableStore.view c.args.store.now) loadable c.requires.counts (g.S.StableStore.view c.read_slots.new.store) c.in_ok-slots.ensures.read (g.S.StableStore.view c.read_maps.new.store)
    (subst (λ (l : List Head). MapsCleaned (counts_of c.args.root.now) (IsMapOfHeads l (length l)) (maps_named l) (g.S.StableStore.view c.read_slots.new.store) (g.S.StableStore.view c.read_maps.new.store)) is c.in_ok-maps.ensures.cleaned)
    (subst (λ (l : List Head). MapsMended (counts_of c.args.root.now) (IsMapOfHeads l (length l)) (g.S.StableStore.view c.read_slots.new.store) (g.S.StableStore.view c.read_maps.new.store)) is (c.in_ok-maps.ensures.mended (refl {a = true})))

pub returns-clause-found : goal.returns-clause-found
returns-clause-found g c heads loadable =
    let is : c.deref.result.now ≡ heads = c.deref.ensures.value ∙ c.in_ok-slots.ensures.heads heads loadable in
    read_from (counts_of c.args.root.now) heads (g.S.StableStore.view c.args.store.now) loadable c.requires.counts (g.S.StableStore.view c.read_slots.new.store) c.in_ok-slots.ensures.read (g.S.StableStore.view c.read_maps.new.store)
    (subst (λ (l : List Head). MapsCleaned (counts_of c.args.root.now) (IsMapOfHeads l (length l)) (maps_named l) (g.S.StableStore.view c.read_slots.new.store) (g.S.StableStore.view c.read_maps.new.store)) is c.in_ok-maps.ensures.cleaned)
    c.in_ok-maps.maps
    (subst (λ (l : List Head). MapsHeld (counts_of c.args.root.now) (IsMapOfHeads l (length l)) c.in_ok-maps.maps (g.S.StableStore.view c.read_maps.new.store)) is c.in_ok-maps.ensures.read)
    c.in_ok-maps.ensures.few c.in_ok-slots.slots.items (c.in_ok-slots.ensures.heads heads loadable)
