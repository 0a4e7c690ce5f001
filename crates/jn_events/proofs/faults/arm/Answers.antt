use Rattle.jn_events.proofs.Common.{DeviceState, is_within, DoesTasks, told_unless, Meets, has-pages, any-ok, Place, counts_by, lines_at, StoreView, place-got, has-counts, place-there, moved-quiet, IsWorld, EndsStep, standing_of, ◌<◌, [], ◌∷◌, ◌++◌, ℕ, Bool, true, false, refl, length, append-nil, Ok, sym, ◌∙◌, ap, subst, arith, List, with_item}
use Rattle.jn_events.proofs.PageRefusals.{fault-as, ends-refused, written-again}
use Rattle.jn_events.proofs.Refusing.{meets-refused, meets-done}
use Rattle.jn_events.proofs.ServerEvents.{armed-does}
use Rattle.jn_schedule.specs.declared.Event.TheVariants as events
use Rattle.jn_report.specs.declared.line.EventRefusal.TheVariants as refusals
use Rattle.jn_report.specs.declared.line.Text.TheVariants as says
use Rattle.jn_events.proofs.faults.arm.Goals as goal

pub arm-requires-clause-pages : goal.arm-requires-clause-pages
arm-requires-clause-pages g c =
    let look : g.row.S.Denot → StoreView = λ s. g.S.StableStore.view s in
    let w = c.args.world.now in
    let server = c.args.server in
    let i = c.from.result in
    let p = c.index_mut-place.result.now in
    let place = place-there look w server i p c.from.ensures (let few = c.requires.there in omega (arith, w.places.ok.0)) c.index_mut-place.ensures.value c.requires.world in
    has-pages look server (counts_by p.counts) (length w.net.sent) p.slot place.stands

pub arm-requires-clause-none_told : goal.arm-requires-clause-none_told
arm-requires-clause-none_told g c =
    let look : g.row.S.Denot → StoreView = λ s. g.S.StableStore.view s in
    let w = c.args.world.now in
    let server = c.args.server in
    let i = c.from.result in
    let p = c.index_mut-place.result.now in
    let place = place-there look w server i p c.from.ensures (let few = c.requires.there in omega (arith, w.places.ok.0)) c.index_mut-place.ensures.value c.requires.world in
    place.told

pub returns-then-not-is_within-clause-does : goal.returns-then-not-is_within-clause-does
returns-then-not-is_within-clause-does g c =
    let look : g.row.S.Denot → StoreView = λ s. g.S.StableStore.view s in
    let device : g.row.S.Denot → DeviceState = λ s. g.S.Powered.device s in
    let w = c.args.world.now in
    let server = c.args.server in
    let i = c.from.result in
    let p = c.index_mut-place.result.now in
    let within : server.0 < length w.places.items = (let few = c.requires.there in omega (arith, w.places.ok.0)) in
    let place = place-there look w server i p c.from.ensures within c.index_mut-place.ensures.value c.requires.world in
    let at = place-got w.places.items server i p c.from.ensures within c.index_mut-place.ensures.value in
    let is = sym c.is_within.ensures ∙ c.if-not-is_within.true in
    let may = fault-as look device (standing_of w) server p at c.args.n c.args.kind false (ap (λ (k : ℕ). is_within k c.args.kind) (sym c.pages.ensures) ∙ is) in
    subst (λ (ps : List (Place g.row.S.Denot)). DoesTasks look device (λ x. Meets (events.Arm server c.args.n c.args.kind) ∷ []) c.args.when (standing_of w) c.refuse.result (record (standing_of w) { places = ps }) c.args.lines.now.items c.refuse.new.lines.items)
    (written-again w.places.items i p c.index_mut-place.ensures.value)
    (meets-refused look device c.args.when (events.Arm server c.args.n c.args.kind) refusals.NoSuchPage c.refuse.result (standing_of w) c.args.lines.now.items c.refuse.new.lines.items may
    (let has = c.requires.world in has.limit) c.refuse.ensures.told c.refuse.ensures.memory)

pub returns-then-not-arm-clause-world : goal.returns-then-not-arm-clause-world
returns-then-not-arm-clause-world g c =
    let look : g.row.S.Denot → StoreView = λ s. g.S.StableStore.view s in
    let w = c.args.world.now in
    let server = c.args.server in
    let i = c.from.result in
    let p = c.index_mut-place.result.now in
    let within : server.0 < length w.places.items = (let few = c.requires.there in omega (arith, w.places.ok.0)) in
    let place = place-there look w server i p c.from.ensures within c.index_mut-place.ensures.value c.requires.world in
    let q = c.arm.new.self in
    let b = record w { places = with_item w.places i q } in
    any-ok (IsWorld look b) c.refuse-then-not-arm.result (moved-quiet look w b server i q c.from.ensures c.requires.world (c.arm.ensures.place server (length w.net.sent) place) refl refl refl)

pub returns-then-not-arm-clause-does : goal.returns-then-not-arm-clause-does
returns-then-not-arm-clause-does g c =
    let look : g.row.S.Denot → StoreView = λ s. g.S.StableStore.view s in
    let device : g.row.S.Denot → DeviceState = λ s. g.S.Powered.device s in
    let w = c.args.world.now in
    let server = c.args.server in
    let i = c.from.result in
    let p = c.index_mut-place.result.now in
    let within : server.0 < length w.places.items = (let few = c.requires.there in omega (arith, w.places.ok.0)) in
    let place = place-there look w server i p c.from.ensures within c.index_mut-place.ensures.value c.requires.world in
    let q = c.arm.new.self in
    let at = place-got w.places.items server i p c.from.ensures within c.index_mut-place.ensures.value in
    let u = standing_of (record w { places = with_item w.places i q }) in
    let first = c.args.lines.now.items in
    let is = sym c.is_within.ensures ∙ c.if-not-is_within.false in
    let may = fault-as look device (standing_of w) server p at c.args.n c.args.kind true (ap (λ (k : ℕ). is_within k c.args.kind) (sym c.pages.ensures) ∙ is) in
    meets-done look device c.args.when (events.Arm server c.args.n c.args.kind) c.refuse-then-not-arm.result (standing_of w) u first c.refuse-then-not-arm.new.lines.items refl may
    (armed-does look device g.met.S.Powered.seen (standing_of w) server p q i c.from.ensures c.arm.ensures.counts c.args.when c.refuse-then-not-arm.result u
    first c.refuse-then-not-arm.new.lines.items at (has-counts look server (length w.net.sent) p q c.arm.ensures.counts (c.arm.ensures.place server (length w.net.sent) place))
    c.args.n c.args.kind c.arm.result c.arm.ensures.befell c.arm.ensures.beside (subst (λ (b : Bool). EndsStep c.refuse-then-not-arm.result u u first (first ++ lines_at c.args.when (told_unless b (says.RefusedEvent refusals.TooManyArmed))) c.refuse-then-not-arm.new.lines.items) (sym c.if-not-arm.true) (ends-refused c.refuse-then-not-arm.result u first (first ++ lines_at c.args.when (told_unless false (says.RefusedEvent refusals.TooManyArmed))) c.refuse-then-not-arm.new.lines.items c.refuse-then-not-arm.ensures.told c.refuse-then-not-arm.ensures.memory (let has = c.requires.world in has.limit))))

pub returns-clause-world : goal.returns-clause-world
returns-clause-world g c =
    let look : g.row.S.Denot → StoreView = λ s. g.S.StableStore.view s in
    let w = c.args.world.now in
    let server = c.args.server in
    let i = c.from.result in
    let p = c.index_mut-place.result.now in
    let within : server.0 < length w.places.items = (let few = c.requires.there in omega (arith, w.places.ok.0)) in
    let place = place-there look w server i p c.from.ensures within c.index_mut-place.ensures.value c.requires.world in
    let q = c.arm.new.self in
    moved-quiet look w (record w { places = with_item w.places i q }) server i q c.from.ensures c.requires.world (c.arm.ensures.place server (length w.net.sent) place) refl refl refl

pub returns-clause-does : goal.returns-clause-does
returns-clause-does g c =
    let look : g.row.S.Denot → StoreView = λ s. g.S.StableStore.view s in
    let device : g.row.S.Denot → DeviceState = λ s. g.S.Powered.device s in
    let w = c.args.world.now in
    let server = c.args.server in
    let i = c.from.result in
    let p = c.index_mut-place.result.now in
    let within : server.0 < length w.places.items = (let few = c.requires.there in omega (arith, w.places.ok.0)) in
    let place = place-there look w server i p c.from.ensures within c.index_mut-place.ensures.value c.requires.world in
    let q = c.arm.new.self in
    let at = place-got w.places.items server i p c.from.ensures within c.index_mut-place.ensures.value in
    let u = standing_of (record w { places = with_item w.places i q }) in
    let first = c.args.lines.now.items in
    let is = sym c.is_within.ensures ∙ c.if-not-is_within.false in
    let may = fault-as look device (standing_of w) server p at c.args.n c.args.kind true (ap (λ (k : ℕ). is_within k c.args.kind) (sym c.pages.ensures) ∙ is) in
    meets-done look device c.args.when (events.Arm server c.args.n c.args.kind) {A = ℕ} (Ok 0) (standing_of w) u first first refl may
    (armed-does look device g.met.S.Powered.seen (standing_of w) server p q i c.from.ensures c.arm.ensures.counts {A = ℕ} c.args.when (Ok 0) u
    first first at (has-counts look server (length w.net.sent) p q c.arm.ensures.counts (c.arm.ensures.place server (length w.net.sent) place))
    c.args.n c.args.kind c.arm.result c.arm.ensures.befell c.arm.ensures.beside (refl, sym (append-nil first) ∙ ap (λ (b : Bool). first ++ lines_at c.args.when (told_unless b (says.RefusedEvent refusals.TooManyArmed))) (sym c.if-not-arm.false), (let has = c.requires.world in has.limit)))
