use Rattle.jn_events.proofs.Common.{ServerNo, AreTheirs, AreClosed, stands-there, IsPlace, Place, counts_by, StoreView, place-at, ℕ, ◌+◌, ◌∷◌, [], ◌++◌, length, sym, subst, ◌∙◌, ap, YieldsList-from_vec, YieldsList-turn, YieldsList-end, length_push, List}
use Rattle.jn_events.proofs.Places.{closed-more}
use Rattle.jn_events.proofs.Pushed.{theirs-more, yielded-all}
use Rattle.jn_events.proofs.ending.into_stores.Goals as goal

pub into_store-requires : goal.into_store-requires
into_store-requires g c =
    let look : g.row.S.Denot → StoreView = λ s. g.S.StableStore.view s in
    let xs = c.args.world.places.items in
    let gives = c.into_iter-place-iterator.ensures.into_iter_gives in
    let long = c.args.world.places.ok.0 in
    let t = YieldsList-turn (YieldsList-from_vec {s = c.into_iter-place-iterator.result} xs (cc) (cc)) c.loop-place.yielded c.loop-place.place-iterator c.loop-place.yielded_by c.next.result c.next.new.self c.in-Some.place c.in-Some.is c.next.ensures.steps in
    let n = length c.loop-place.yielded in
    let server : ServerNo = record { 0 = n } in
    let place = subst (λ (p : Place g.row.S.Denot). IsPlace look server (length c.args.world.net.sent) p) (sym t.1) (place-at look (length c.args.world.net.sent) xs server c.in-Some.place t.0 c.requires.world.places) in
    record { there = stands-there look server (counts_by c.in-Some.place.counts) (length c.args.world.net.sent) c.in-Some.place.slot place.stands }

pub loop-place-preserved : goal.loop-place-preserved
loop-place-preserved g c =
    let look : g.row.S.Denot → StoreView = λ s. g.S.StableStore.view s in
    let xs = c.args.world.places.items in
    let gives = c.into_iter-place-iterator.ensures.into_iter_gives in
    let long = c.args.world.places.ok.0 in
    let t = YieldsList-turn (YieldsList-from_vec {s = c.into_iter-place-iterator.result} xs (cc) (cc)) c.loop-place.yielded c.loop-place.place-iterator c.loop-place.yielded_by c.next.result c.next.new.self c.in-Some.place c.in-Some.is c.next.ensures.steps in
    let n = length c.loop-place.yielded in
    let server : ServerNo = record { 0 = n } in
    let place = subst (λ (p : Place g.row.S.Denot). IsPlace look server (length c.args.world.net.sent) p) (sym t.1) (place-at look (length c.args.world.net.sent) xs server c.in-Some.place t.0 c.requires.world.places) in
    let store = c.into_store.result in
    let ss = c.loop-place.stores.items in
    let pushed = c.in_ok-push.ensures in
    let many = c.loop-place.invariant.many in
    record {
      closed = subst (λ (xs : List g.row.S.Denot). AreClosed look 0 xs) (sym pushed.items)
          (closed-more look ss n (counts_by c.in-Some.place.counts) store many (c.into_store.ensures.recoverable server (length c.args.world.net.sent) place) c.loop-place.invariant.closed);
      many = ap length pushed.items ∙ length_push ss store ∙ ap (λ (k : ℕ). k + 1) many ∙ sym (length_push c.loop-place.yielded c.in-Some.place);
      theirs = subst (λ (xs : List g.row.S.Denot). AreTheirs (c.loop-place.yielded ++ c.in-Some.place ∷ []) xs) (sym pushed.items)
          (theirs-more c.loop-place.yielded ss c.in-Some.place store many c.into_store.ensures.store c.loop-place.invariant.theirs);
    }

pub returns-clause-theirs : goal.returns-clause-theirs
returns-clause-theirs g c =
    let xs = c.args.world.places.items in
    let gives = c.into_iter-place-iterator.ensures.into_iter_gives in
    let long = c.args.world.places.ok.0 in
    let t = YieldsList-end (YieldsList-from_vec {s = c.into_iter-place-iterator.result} xs (cc) (cc)) c.loop-place.yielded c.loop-place.place-iterator c.loop-place.yielded_by c.next.result c.next.new.self c.in-None.is c.next.ensures.steps in
    subst (λ (ps : List (Place g.row.S.Denot)). AreTheirs ps c.loop-place.stores.items) (yielded-all c.loop-place.yielded xs t.0) c.loop-place.invariant.theirs

pub returns-clause-as_many : goal.returns-clause-as_many
returns-clause-as_many g c =
    let xs = c.args.world.places.items in
    let gives = c.into_iter-place-iterator.ensures.into_iter_gives in
    let long = c.args.world.places.ok.0 in
    let t = YieldsList-end (YieldsList-from_vec {s = c.into_iter-place-iterator.result} xs (cc) (cc)) c.loop-place.yielded c.loop-place.place-iterator c.loop-place.yielded_by c.next.result c.next.new.self c.in-None.is c.next.ensures.steps in
    c.loop-place.invariant.many ∙ ap (λ (ps : List (Place g.row.S.Denot)). length ps) (yielded-all c.loop-place.yielded xs t.0)
