use Rattle.jn_events.proofs.Common.{DeviceState, serves-here, any-ok, counts_by, StoreView, has-counts, place-is, place-here, place-million, up-here, moved-quiet, IsWorld, standing_of, ℕ, Ok, refl, length, with_item}
use Rattle.jn_events.proofs.Timeouts.{timeout-refused, timeout-done}
use Rattle.jn_events.proofs.meeting.timeout.Goals as goal

pub timeout-requires : goal.timeout-requires
timeout-requires g c =
    let look : g.row.S.Denot → StoreView = λ s. g.S.StableStore.view s in
    let w = c.args.world.now in
    let server = c.args.server in
    let i = c.from.result in
    let p = c.index_mut.result.now in
    let place = place-here look w server i p c.from.ensures c.requires.up c.index_mut.ensures.value c.requires.world in
    let million = place-million look w server p c.requires.world place in
    record { serves = serves-here look server (counts_by p.counts) 1000000 p.slot million.stands (up-here w server i p c.from.ensures c.requires.up c.index_mut.ensures.value) }

pub returns-then-not-timeout-clause-world : goal.returns-then-not-timeout-clause-world
returns-then-not-timeout-clause-world g c =
    let look : g.row.S.Denot → StoreView = λ s. g.S.StableStore.view s in
    let w = c.args.world.now in
    let server = c.args.server in
    let i = c.from.result in
    let p = c.index_mut.result.now in
    let place = place-here look w server i p c.from.ensures c.requires.up c.index_mut.ensures.value c.requires.world in
    let q = c.timeout.new.self in
    let b = record w { places = with_item w.places i q } in
    any-ok (IsWorld look b) c.refuse.result (moved-quiet look w b server i q c.from.ensures c.requires.world (c.timeout.ensures.place server (length w.net.sent) place) refl refl refl)

pub returns-then-not-timeout-clause-does : goal.returns-then-not-timeout-clause-does
returns-then-not-timeout-clause-does g c =
    let look : g.row.S.Denot → StoreView = λ s. g.S.StableStore.view s in
    let device : g.row.S.Denot → DeviceState = λ s. g.S.Powered.device s in
    let w = c.args.world.now in
    let server = c.args.server in
    let i = c.from.result in
    let p = c.index_mut.result.now in
    let q = c.timeout.new.self in
    let has = c.requires.world in
    timeout-refused look device g.met.S.Powered.seen (standing_of w) server c.args.tid p q i c.from.ensures c.timeout.ensures.counts (place-is w server i p c.from.ensures c.requires.up c.index_mut.ensures.value) c.requires.up
    c.args.when c.timeout.result c.timeout.ensures.timed_out c.refuse.result c.args.lines.now.items c.refuse.new.lines.items c.if-not-timeout.true has.limit c.refuse.ensures.told c.refuse.ensures.memory

pub returns-clause-world : goal.returns-clause-world
returns-clause-world g c =
    let look : g.row.S.Denot → StoreView = λ s. g.S.StableStore.view s in
    let w = c.args.world.now in
    let server = c.args.server in
    let i = c.from.result in
    let p = c.index_mut.result.now in
    let place = place-here look w server i p c.from.ensures c.requires.up c.index_mut.ensures.value c.requires.world in
    let q = c.timeout.new.self in
    moved-quiet look w (record w { places = with_item w.places i q }) server i q c.from.ensures c.requires.world (c.timeout.ensures.place server (length w.net.sent) place) refl refl refl

pub returns-clause-does : goal.returns-clause-does
returns-clause-does g c =
    let look : g.row.S.Denot → StoreView = λ s. g.S.StableStore.view s in
    let device : g.row.S.Denot → DeviceState = λ s. g.S.Powered.device s in
    let w = c.args.world.now in
    let server = c.args.server in
    let i = c.from.result in
    let p = c.index_mut.result.now in
    let place = place-here look w server i p c.from.ensures c.requires.up c.index_mut.ensures.value c.requires.world in
    let q = c.timeout.new.self in
    let has = c.requires.world in
    timeout-done look device g.met.S.Powered.seen (standing_of w) server c.args.tid p q i c.from.ensures c.timeout.ensures.counts (place-is w server i p c.from.ensures c.requires.up c.index_mut.ensures.value) c.requires.up
    {A = ℕ} c.args.when c.timeout.result c.timeout.ensures.timed_out (Ok 0) (standing_of (record w { places = with_item w.places i q })) c.args.lines.now.items c.args.lines.now.items c.if-not-timeout.false
    (has-counts look server (length w.net.sent) p q c.timeout.ensures.counts (c.timeout.ensures.place server (length w.net.sent) place)) (refl, refl, has.limit)
