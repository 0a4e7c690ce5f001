use Rattle.jn_place.proofs.Common.{StoreView}
use Rattle.jn_place.proofs.Calling.{shows-done, shows-stopped}
use Rattle.jn_place.proofs.Beside.{keeps-so}
use Rattle.jn_place.proofs.place.Place.list_files.Goals as goal

pub returns-in-Ok-clause-shows : goal.returns-in-Ok-clause-shows
returns-in-Ok-clause-shows g c =
    let look : g.row.S.Denot → StoreView = λ s. g.S.StableStore.view s in
    let h = c.in-Ok.ensures in
    shows-done look c.args.self.now.slot c.in-Up.server c.show.new.self c.in-Ok.list.items c.in-Up.is h.shown

pub returns-in-Err-Stopped-clause-shows : goal.returns-in-Err-Stopped-clause-shows
returns-in-Err-Stopped-clause-shows g c =
    let look : g.row.S.Denot → StoreView = λ s. g.S.StableStore.view s in
    let h = rw c.in-Err-Stopped.field-0-is at c.in-Err-Stopped.ensures in
    shows-stopped look c.args.self.now.slot c.in-Up.server c.show.new.self c.in-Up.is h.cut_short

pub returns-in-Ok-clause-beside : goal.returns-in-Ok-clause-beside
returns-in-Ok-clause-beside g c =
    let look : g.row.S.Denot → StoreView = λ s. g.S.StableStore.view s in
    let h = c.in-Ok.ensures in
    keeps-so look c.args.self.now.slot c.in-Up.server c.show.new.self c.in-Up.is h.shown.accounts
