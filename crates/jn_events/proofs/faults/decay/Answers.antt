use Rattle.jn_events.proofs.Common.{DeviceState, DoesTasks, told_unless, Meets, has-pages, Place, page_count, counts_by, lines_at, StoreView, place-got, has-counts, place-there, moved-quiet, standing_of, ◌≡◌, ◌<◌, ◌+◌, [], ◌∷◌, ◌++◌, ℕ, Bool, true, false, refl, length, append-nil, Ok, sym, ◌∙◌, ap, subst, arith, nat_tests, List, nat_lt, with_item}
use Rattle.jn_events.proofs.PageRefusals.{page-as, written-again}
use Rattle.jn_events.proofs.Refusing.{meets-refused, meets-done}
use Rattle.jn_events.proofs.ServerEvents.{decayed-does}
use Rattle.jn_schedule.specs.declared.Event.TheVariants as events
use Rattle.jn_base.specs.declared.device.FaultKind.TheVariants as faults
use Rattle.jn_report.specs.declared.line.EventRefusal.TheVariants as refusals
use Rattle.jn_report.specs.declared.line.Text.TheVariants as says
use Rattle.jn_events.proofs.faults.decay.Goals as goal

pub decay-requires-clause-pages : goal.decay-requires-clause-pages
decay-requires-clause-pages g c =
    let look : g.row.S.Denot → StoreView = λ s. g.S.StableStore.view s in
    let w = c.args.world.now in
    let server = c.args.server in
    let i = c.from.result in
    let p = c.index_mut-place.result.now in
    let place = place-there look w server i p c.from.ensures (let few = c.requires.there in omega (arith, w.places.ok.0)) c.index_mut-place.ensures.value c.requires.world in
    has-pages look server (counts_by p.counts) (length w.net.sent) p.slot place.stands

pub returns-then-p-pages-clause-does : goal.returns-then-p-pages-clause-does
returns-then-p-pages-clause-does g c =
    let look : g.row.S.Denot → StoreView = λ s. g.S.StableStore.view s in
    let device : g.row.S.Denot → DeviceState = λ s. g.S.Powered.device s in
    let w = c.args.world.now in
    let server = c.args.server in
    let i = c.from.result in
    let p = c.index_mut-place.result.now in
    let within : server.0 < length w.places.items = (let few = c.requires.there in omega (arith, w.places.ok.0)) in
    let place = place-there look w server i p c.from.ensures within c.index_mut-place.ensures.value c.requires.world in
    let at = place-got w.places.items server i p c.from.ensures within c.index_mut-place.ensures.value in
    let pages = c.pages.ensures in
    let test = c.if-p-pages.true in
    let is : nat_lt c.args.p (page_count (counts_by p.counts) + page_count (counts_by p.counts)) ≡ false = grind (arith, nat_tests) in
    let may = page-as look device (standing_of w) server p at c.args.p false is in
    subst (λ (ps : List (Place g.row.S.Denot)). DoesTasks look device (λ x. Meets (events.Decay server c.args.p) ∷ []) c.args.when (standing_of w) c.refuse.result (record (standing_of w) { places = ps }) c.args.lines.now.items c.refuse.new.lines.items)
    (written-again w.places.items i p c.index_mut-place.ensures.value)
    (meets-refused look device c.args.when (events.Decay server c.args.p) refusals.NoSuchPage c.refuse.result (standing_of w) c.args.lines.now.items c.refuse.new.lines.items may
    (let has = c.requires.world in has.limit) c.refuse.ensures.told c.refuse.ensures.memory)

pub returns-in_ok-tell-clause-world : goal.returns-in_ok-tell-clause-world
returns-in_ok-tell-clause-world g c =
    let look : g.row.S.Denot → StoreView = λ s. g.S.StableStore.view s in
    let w = c.args.world.now in
    let server = c.args.server in
    let i = c.from.result in
    let p = c.index_mut-place.result.now in
    let within : server.0 < length w.places.items = (let few = c.requires.there in omega (arith, w.places.ok.0)) in
    let place = place-there look w server i p c.from.ensures within c.index_mut-place.ensures.value c.requires.world in
    let q = c.decay.new.self in
    moved-quiet look w (record w { places = with_item w.places i q }) server i q c.from.ensures c.requires.world (c.decay.ensures.place server (length w.net.sent) place) refl refl refl

pub returns-in_ok-tell-clause-does : goal.returns-in_ok-tell-clause-does
returns-in_ok-tell-clause-does g c =
    let look : g.row.S.Denot → StoreView = λ s. g.S.StableStore.view s in
    let device : g.row.S.Denot → DeviceState = λ s. g.S.Powered.device s in
    let w = c.args.world.now in
    let server = c.args.server in
    let i = c.from.result in
    let p = c.index_mut-place.result.now in
    let within : server.0 < length w.places.items = (let few = c.requires.there in omega (arith, w.places.ok.0)) in
    let place = place-there look w server i p c.from.ensures within c.index_mut-place.ensures.value c.requires.world in
    let q = c.decay.new.self in
    let at = place-got w.places.items server i p c.from.ensures within c.index_mut-place.ensures.value in
    let u = standing_of (record w { places = with_item w.places i q }) in
    let first = c.args.lines.now.items in
    let pages = c.pages.ensures in
    let test = c.if-p-pages.false in
    let is : nat_lt c.args.p (page_count (counts_by p.counts) + page_count (counts_by p.counts)) ≡ true = grind (arith, nat_tests) in
    let may = page-as look device (standing_of w) server p at c.args.p true is in
    meets-done look device c.args.when (events.Decay server c.args.p) {A = ℕ} (Ok 0) (standing_of w) u first c.tell.new.lines.items refl may
    (decayed-does look device g.met.S.Powered.seen (standing_of w) server p q i c.from.ensures c.decay.ensures.counts {A = ℕ} c.args.when (Ok 0) u
    first c.tell.new.lines.items at (has-counts look server (length w.net.sent) p q c.decay.ensures.counts (c.decay.ensures.place server (length w.net.sent) place))
    c.args.p c.decay.result c.decay.ensures.befell c.decay.ensures.beside (refl, c.in_ok-tell.ensures ∙ ap (λ (b : Bool). first ++ lines_at c.args.when (told_unless b (says.Outside server (record { kind = faults.Decay c.args.p; page = c.args.p })))) (sym c.if-not-decay.true), (let has = c.requires.world in has.limit)))

pub returns-else-not-decay-clause-world : goal.returns-else-not-decay-clause-world
returns-else-not-decay-clause-world g c =
    let look : g.row.S.Denot → StoreView = λ s. g.S.StableStore.view s in
    let w = c.args.world.now in
    let server = c.args.server in
    let i = c.from.result in
    let p = c.index_mut-place.result.now in
    let within : server.0 < length w.places.items = (let few = c.requires.there in omega (arith, w.places.ok.0)) in
    let place = place-there look w server i p c.from.ensures within c.index_mut-place.ensures.value c.requires.world in
    let q = c.decay.new.self in
    moved-quiet look w (record w { places = with_item w.places i q }) server i q c.from.ensures c.requires.world (c.decay.ensures.place server (length w.net.sent) place) refl refl refl

pub returns-else-not-decay-clause-does : goal.returns-else-not-decay-clause-does
returns-else-not-decay-clause-does g c =
    let look : g.row.S.Denot → StoreView = λ s. g.S.StableStore.view s in
    let device : g.row.S.Denot → DeviceState = λ s. g.S.Powered.device s in
    let w = c.args.world.now in
    let server = c.args.server in
    let i = c.from.result in
    let p = c.index_mut-place.result.now in
    let within : server.0 < length w.places.items = (let few = c.requires.there in omega (arith, w.places.ok.0)) in
    let place = place-there look w server i p c.from.ensures within c.index_mut-place.ensures.value c.requires.world in
    let q = c.decay.new.self in
    let at = place-got w.places.items server i p c.from.ensures within c.index_mut-place.ensures.value in
    let u = standing_of (record w { places = with_item w.places i q }) in
    let first = c.args.lines.now.items in
    let pages = c.pages.ensures in
    let test = c.if-p-pages.false in
    let is : nat_lt c.args.p (page_count (counts_by p.counts) + page_count (counts_by p.counts)) ≡ true = grind (arith, nat_tests) in
    let may = page-as look device (standing_of w) server p at c.args.p true is in
    meets-done look device c.args.when (events.Decay server c.args.p) {A = ℕ} (Ok 0) (standing_of w) u first first refl may
    (decayed-does look device g.met.S.Powered.seen (standing_of w) server p q i c.from.ensures c.decay.ensures.counts {A = ℕ} c.args.when (Ok 0) u
    first first at (has-counts look server (length w.net.sent) p q c.decay.ensures.counts (c.decay.ensures.place server (length w.net.sent) place))
    c.args.p c.decay.result c.decay.ensures.befell c.decay.ensures.beside (refl, sym (append-nil first) ∙ ap (λ (b : Bool). first ++ lines_at c.args.when (told_unless b (says.Outside server (record { kind = faults.Decay c.args.p; page = c.args.p })))) (sym c.if-not-decay.false), (let has = c.requires.world in has.limit)))
