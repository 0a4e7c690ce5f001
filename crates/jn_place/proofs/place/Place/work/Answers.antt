use Rattle.jn_place.proofs.Common.{StoreView}
use Rattle.jn_place.proofs.Calling.{works-done, works-stopped, worked-done, worked-stopped}
use Rattle.jn_place.proofs.Beside.{works-leave}
use Rattle.jn_place.proofs.Remaining.{fewer-done, fewer-stopped}
use Rattle.jn_place.proofs.place.Place.work.Goals as goal

pub returns-in-Ok-clause-answered : goal.returns-in-Ok-clause-answered
returns-in-Ok-clause-answered g c =
    let look : g.row.S.Denot → StoreView = λ s. g.S.StableStore.view s in
    let h = c.in-Ok.ensures in
    worked-done look c.args.self.now.slot c.in-Up.server c.step.new.self c.args.out c.step.new.out c.in-Ok._done c.in-Up.is c.requires.empty c.requires.work h.steps

pub returns-in-Ok-clause-worked : goal.returns-in-Ok-clause-worked
returns-in-Ok-clause-worked g c =
    let look : g.row.S.Denot → StoreView = λ s. g.S.StableStore.view s in
    let h = c.in-Ok.ensures in
    works-done look c.args.self.now.slot c.in-Up.server c.step.new.self c.args.out c.step.new.out c.in-Ok._done c.in-Up.is c.requires.empty c.requires.work h.steps

pub returns-in-Err-Stopped-clause-answered : goal.returns-in-Err-Stopped-clause-answered
returns-in-Err-Stopped-clause-answered g c =
    let look : g.row.S.Denot → StoreView = λ s. g.S.StableStore.view s in
    let h = rw c.in-Err-Stopped.field-0-is at c.in-Err-Stopped.ensures in
    worked-stopped look c.args.self.now.slot c.in-Up.server c.step.new.self c.args.out c.step.new.out c.in-Up.is c.requires.work h.steps

pub returns-in-Err-Stopped-clause-worked : goal.returns-in-Err-Stopped-clause-worked
returns-in-Err-Stopped-clause-worked g c =
    let look : g.row.S.Denot → StoreView = λ s. g.S.StableStore.view s in
    let h = rw c.in-Err-Stopped.field-0-is at c.in-Err-Stopped.ensures in
    works-stopped look c.args.self.now.slot c.in-Up.server c.step.new.self c.args.out c.step.new.out c.in-Up.is c.requires.work h.steps

pub returns-in-Ok-clause-beside : goal.returns-in-Ok-clause-beside
returns-in-Ok-clause-beside g c =
    let look : g.row.S.Denot → StoreView = λ s. g.S.StableStore.view s in
    let h = c.in-Ok.ensures in
    works-leave look c.args.self.now.slot c.in-Up.server c.step.new.self c.args.out c.step.new.out c.in-Ok._done c.in-Up.is h.steps h.left

pub returns-in-Ok-clause-less : goal.returns-in-Ok-clause-less
returns-in-Ok-clause-less g c =
    let look : g.row.S.Denot → StoreView = λ s. g.S.StableStore.view s in
    let h = c.in-Ok.ensures in
    fewer-done look c.args.self.now.slot c.in-Up.server c.step.new.self c.args.out c.step.new.out c.in-Ok._done c.in-Up.is c.requires.work h.steps h.less

pub returns-in-Err-Stopped-clause-less : goal.returns-in-Err-Stopped-clause-less
returns-in-Err-Stopped-clause-less g c =
    let look : g.row.S.Denot → StoreView = λ s. g.S.StableStore.view s in
    let h = rw c.in-Err-Stopped.field-0-is at c.in-Err-Stopped.ensures in
    fewer-stopped look c.args.self.now.slot c.in-Up.server c.step.new.self c.in-Up.is c.requires.work h.some
