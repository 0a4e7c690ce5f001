use Rattle.jn_place.proofs.Common.{StoreView, TakeLeaves}
use Rattle.jn_place.proofs.Calling.{handles-done, handles-stopped}
use Rattle.jn_place.proofs.Beside.{up-so}
use Rattle.jn_place.proofs.Served.{handled-done}
use Rattle.jn_place.proofs.place.Place.handle.Goals as goal

pub returns-in-Ok-clause-answered : goal.returns-in-Ok-clause-answered
returns-in-Ok-clause-answered g c =
    let look : g.row.S.Denot → StoreView = λ s. g.S.StableStore.view s in
    let h = c.in-Ok.ensures in
    handled-done look c.args.self.now.slot c.in-Up.server c.handle.new.self c.args.message.now c.args.out c.handle.new.out c.in-Up.is c.requires.empty h.does

pub returns-in-Ok-clause-handled : goal.returns-in-Ok-clause-handled
returns-in-Ok-clause-handled g c =
    let look : g.row.S.Denot → StoreView = λ s. g.S.StableStore.view s in
    let h = c.in-Ok.ensures in
    handles-done look c.args.self.now.slot c.in-Up.server c.handle.new.self c.args.message.now c.args.out c.handle.new.out c.in-Up.is c.requires.empty h.does

pub returns-in-Err-Stopped-clause-handled : goal.returns-in-Err-Stopped-clause-handled
returns-in-Err-Stopped-clause-handled g c =
    let look : g.row.S.Denot → StoreView = λ s. g.S.StableStore.view s in
    let h = rw c.in-Err-Stopped.field-0-is at c.in-Err-Stopped.ensures in
    handles-stopped look c.args.self.now.slot c.in-Up.server c.handle.new.self c.args.message.now c.args.out c.handle.new.out c.in-Up.is h.does

pub returns-in-Ok-clause-beside : goal.returns-in-Ok-clause-beside
returns-in-Ok-clause-beside g c =
    let look : g.row.S.Denot → StoreView = λ s. g.S.StableStore.view s in
    let h = c.in-Ok.ensures in
    up-so look (TakeLeaves c.args.message.now) c.args.self.now.slot c.in-Up.server c.handle.new.self c.in-Up.is h.beside
