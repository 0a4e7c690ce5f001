use Rattle.jn_place.proofs.Common.{DeviceState, Decays, StoreView, counts_by, KeepsBeside}
use Rattle.jn_place.proofs.Befalling.{befell-up, befell-down}
use Rattle.jn_place.proofs.Devices.{told-still, befallen-up, befallen-down}
use Rattle.jn_place.proofs.Beside.{befell-keeps, down-so}
use Rattle.jn_place.proofs.place.Place.decay.Goals as goal

pub returns-in-Up-clause-place : goal.returns-in-Up-clause-place
returns-in-Up-clause-place g c =
    let look : g.row.S.Denot → StoreView = λ s. g.S.StableStore.view s in
    let device : g.row.S.Denot → DeviceState = λ s. g.S.Powered.device s in
    let s = c.in-Up.server.storage.0 in
    let t = c.decay-allowed.new.self.storage.0 in
    λ server most h. befallen-up look server most c.args.self.now c.in-Up.server c.decay-allowed.new.self c.in-Up.is c.decay-allowed.ensures.befalls
    (told-still look device s t (g.met.S.Powered.seen s) (g.met.S.Powered.seen t) c.decay-allowed.ensures.decays.becomes.told) c.counts_pages.ensures h

pub returns-in-Down-clause-place : goal.returns-in-Down-clause-place
returns-in-Down-clause-place g c =
    let look : g.row.S.Denot → StoreView = λ s. g.S.StableStore.view s in
    let device : g.row.S.Denot → DeviceState = λ s. g.S.Powered.device s in
    let t = c.decay.new.self in
    λ server most h. befallen-down look server most c.args.self.now c.in-Down.store t c.in-Down.is c.decay.ensures.pages
    (told-still look device c.in-Down.store t (g.met.S.Powered.seen c.in-Down.store) (g.met.S.Powered.seen t) (c.decay.ensures.decays.becomes.told)) h

pub returns-in-Up-clause-befell : goal.returns-in-Up-clause-befell
returns-in-Up-clause-befell g c =
    let look : g.row.S.Denot → StoreView = λ s. g.S.StableStore.view s in
    let device : g.row.S.Denot → DeviceState = λ s. g.S.Powered.device s in
    befell-up look device (counts_by c.args.self.now.counts) (λ d e. Decays d c.args.p c.decay-allowed.result e) c.args.self.now.slot c.in-Up.server c.decay-allowed.new.self c.in-Up.is c.decay-allowed.ensures.befalls c.decay-allowed.ensures.decays

pub returns-in-Down-clause-befell : goal.returns-in-Down-clause-befell
returns-in-Down-clause-befell g c =
    let look : g.row.S.Denot → StoreView = λ s. g.S.StableStore.view s in
    let device : g.row.S.Denot → DeviceState = λ s. g.S.Powered.device s in
    befell-down look device (counts_by c.args.self.now.counts) (λ d e. Decays d c.args.p c.decay.result e) c.args.self.now.slot c.in-Down.store c.decay.new.self c.in-Down.is c.decay.ensures.pages c.decay.ensures.decays

pub returns-in-Up-clause-beside : goal.returns-in-Up-clause-beside
returns-in-Up-clause-beside g c =
    let look : g.row.S.Denot → StoreView = λ s. g.S.StableStore.view s in
    befell-keeps look c.args.self.now.slot c.in-Up.server c.decay-allowed.new.self c.in-Up.is c.decay-allowed.ensures.befalls

pub returns-in-Down-clause-beside : goal.returns-in-Down-clause-beside
returns-in-Down-clause-beside g c =
    let look : g.row.S.Denot → StoreView = λ s. g.S.StableStore.view s in
    down-so look KeepsBeside c.args.self.now.slot c.decay.new.self
