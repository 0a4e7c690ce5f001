use Rattle.jn_place.proofs.Common.{StoreView}
use Rattle.jn_place.proofs.Calling.{scrubs-done, scrubs-stopped}
use Rattle.jn_place.proofs.Beside.{keeps-so, scrubs-clean, scrubs-image}
use Rattle.jn_place.proofs.place.Place.clean.Goals as goal

pub returns-in-Ok-clause-scrubs : goal.returns-in-Ok-clause-scrubs
returns-in-Ok-clause-scrubs g c =
    let look : g.row.S.Denot → StoreView = λ s. g.S.StableStore.view s in
    let h = c.in-Ok.ensures in
    scrubs-done look c.args.self.now.slot c.in-Up.server c.scrub.new.self c.in-Up.is h.scrubbed h.tables

pub returns-in-Err-clause-scrubs : goal.returns-in-Err-clause-scrubs
returns-in-Err-clause-scrubs g c =
    let look : g.row.S.Denot → StoreView = λ s. g.S.StableStore.view s in
    let h = c.in-Err.ensures in
    scrubs-stopped look c.args.self.now.slot c.in-Up.server c.scrub.new.self c.in-Up.is h.scrubbed

pub returns-in-Ok-clause-beside : goal.returns-in-Ok-clause-beside
returns-in-Ok-clause-beside g c =
    let look : g.row.S.Denot → StoreView = λ s. g.S.StableStore.view s in
    let h = c.in-Ok.ensures in
    keeps-so look c.args.self.now.slot c.in-Up.server c.scrub.new.self c.in-Up.is h.scrubbed.same

pub returns-in-Ok-clause-cleaned : goal.returns-in-Ok-clause-cleaned
returns-in-Ok-clause-cleaned g c =
    let look : g.row.S.Denot → StoreView = λ s. g.S.StableStore.view s in
    let h = c.in-Ok.ensures in
    scrubs-clean look c.args.self.now.slot c.in-Up.server c.scrub.new.self c.in-Up.is h.scrubbed

pub returns-in-Ok-clause-image : goal.returns-in-Ok-clause-image
returns-in-Ok-clause-image g c =
    let look : g.row.S.Denot → StoreView = λ s. g.S.StableStore.view s in
    let h = c.in-Ok.ensures in
    scrubs-image look c.args.self.now.slot c.in-Up.server c.scrub.new.self c.in-Up.is h.scrubbed
