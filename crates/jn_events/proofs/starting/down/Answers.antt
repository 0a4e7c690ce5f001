use Rattle.jn_events.proofs.Common.{Tid, DeviceState, AreNew, Carried, Place, Down, PageCounts, has_tid, StoreView, ArePlaces, standing_of, World, ℕ, ◌+◌, ◌∷◌, [], ◌++◌, length, sym, subst, ◌∙◌, ap, arith, YieldsList-from_vec, YieldsList-turn, YieldsList-end, length_push, List}
use Rattle.jn_events.proofs.Calm.{stand-down}
use Rattle.jn_events.proofs.Places.{store-place, places-push, start-world}
use Rattle.jn_events.proofs.Pushed.{StandFor, stand-more, opens, yielded-all}
use Rattle.jn_events.proofs.starting.down.Goals as goal

pub loop-store-preserved : goal.loop-store-preserved
loop-store-preserved g c =
    let look : g.row.S.Denot → StoreView = λ s. g.S.StableStore.view s in
    let xs = c.args.stores.items in
    let gives = c.into_iter-store-iterator.ensures.into_iter_gives in
    let long = c.args.stores.ok.0 in
    let t = YieldsList-turn (YieldsList-from_vec {s = c.into_iter-store-iterator.result} xs (cc) (cc)) c.loop-store.yielded c.loop-store.store-iterator c.loop-store.yielded_by c.next.result c.next.new.self (c.in-Some.store, c.in-Some.counts) c.in-Some.is c.next.ensures.steps in
    let n = length c.loop-store.yielded in
    let ps = c.loop-store.places.items in
    let q : Place g.row.S.Denot = record { counts = c.in-Some.counts; slot = Down c.in-Some.store } in
    let pushed = c.in_ok-push.ensures in
    let many = c.loop-store.invariant.many in
    record {
      places = subst (λ (xs : List (Place g.row.S.Denot)). ArePlaces look 0 0 xs) (sym pushed.items)
          (places-push look 0 n ps q many (store-place look xs n c.in-Some.store c.in-Some.counts t.0 t.1 c.requires.stores) c.loop-store.invariant.places);
      many = ap length pushed.items ∙ length_push ps q ∙ ap (λ (k : ℕ). k + 1) many ∙ sym (length_push c.loop-store.yielded (c.in-Some.store, c.in-Some.counts));
      stand = subst (λ (xs : List (Place g.row.S.Denot)). StandFor (c.loop-store.yielded ++ (c.in-Some.store, c.in-Some.counts) ∷ []) xs) (sym pushed.items) (stand-more c.loop-store.yielded ps c.in-Some.store c.in-Some.counts many c.loop-store.invariant.stand);
    }

pub returns : goal.returns
returns g c =
    let look : g.row.S.Denot → StoreView = λ s. g.S.StableStore.view s in
    let xs = c.args.stores.items in
    let gives = c.into_iter-store-iterator.ensures.into_iter_gives in
    let long = c.args.stores.ok.0 in
    let t = YieldsList-end (YieldsList-from_vec {s = c.into_iter-store-iterator.result} xs (cc) (cc)) c.loop-store.yielded c.loop-store.store-iterator c.loop-store.yielded_by c.next.result c.next.new.self c.in-None.is c.next.ensures.steps in
    let all = t.1 in
    let many = c.loop-store.invariant.many in
    let few = c.requires.few in
    let own = c.loop-store.places.ok.0 in
    let clients = c.in_ok-new_clients.ensures in
    let device : g.row.S.Denot → DeviceState = λ s. g.S.Powered.device s in
    let w : World g.row.S.Denot = record { places = c.loop-store.places; clients = c.in_ok-new_clients.field-0; net = c.new.result; named = c.new-2.result; trace = c.args.trace; alloc = c.args.alloc } in
    let stand = subst (λ (ys : List (g.row.S.Denot × PageCounts)). StandFor ys c.loop-store.places.items) (yielded-all c.loop-store.yielded xs t.0) c.loop-store.invariant.stand in
    record {
      world = start-world look w
          (omega arith) c.loop-store.invariant.places clients.0 clients.1 (ap (λ (n : Carried). n.sent) c.new.ensures);
      all_down = stand-down xs c.loop-store.places.items stand;
      opens = opens device xs (standing_of w) (many ∙ all) stand (omega (arith, clients.0, c.in_ok-new_clients.field-0.ok.0)) (subst (λ (k : ℕ). AreNew k c.in_ok-new_clients.field-0.items) (omega arith) clients.2)
          c.new.ensures (λ T. ap (λ (ns : List Tid). has_tid ns T) c.new-2.ensures) (ap (λ (ns : List Tid). length ns) c.new-2.ensures);
    }
