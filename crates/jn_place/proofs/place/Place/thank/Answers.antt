use Rattle.jn_place.proofs.Common.{subst, sym, true, false, view_with, StoreView, Slot, Up, Called, KeepsBeside}
use Rattle.jn_place.proofs.Calling.{closes-done, closes-stopped}
use Rattle.jn_place.proofs.Beside.{up-so}
use Rattle.jn_place.proofs.Served.{nothing, closed-called, closed-stopped}
use Rattle.jn_place.proofs.place.Place.thank.Goals as goal

pub returns-in-Ok-clause-called : goal.returns-in-Ok-clause-called
returns-in-Ok-clause-called g c =
    let look : g.row.S.Denot → StoreView = λ s. g.S.StableStore.view s in
    let h = c.in-Ok.ensures in
    subst (λ (x : Slot g.row.S.Denot). Called look 0 true x (Up c.close_clients.new.self)) (sym c.in-Up.is)
    (closed-called (view_with look c.in-Up.server) (view_with look c.close_clients.new.self) (h.does nothing))

pub returns-in-Ok-clause-closes : goal.returns-in-Ok-clause-closes
returns-in-Ok-clause-closes g c =
    let look : g.row.S.Denot → StoreView = λ s. g.S.StableStore.view s in
    let h = c.in-Ok.ensures in
    closes-done look c.args.self.now.slot c.in-Up.server c.close_clients.new.self c.in-Up.is (h.does nothing)

pub returns-in-Err-Stopped-clause-called : goal.returns-in-Err-Stopped-clause-called
returns-in-Err-Stopped-clause-called g c =
    let look : g.row.S.Denot → StoreView = λ s. g.S.StableStore.view s in
    let h = rw c.in-Err-Stopped.field-0-is at c.in-Err-Stopped.ensures in
    subst (λ (x : Slot g.row.S.Denot). Called look 0 false x (Up c.close_clients.new.self)) (sym c.in-Up.is)
    (closed-stopped (view_with look c.in-Up.server) (view_with look c.close_clients.new.self) (h.does nothing))

pub returns-in-Err-Stopped-clause-closes : goal.returns-in-Err-Stopped-clause-closes
returns-in-Err-Stopped-clause-closes g c =
    let look : g.row.S.Denot → StoreView = λ s. g.S.StableStore.view s in
    let h = rw c.in-Err-Stopped.field-0-is at c.in-Err-Stopped.ensures in
    closes-stopped look c.args.self.now.slot c.in-Up.server c.close_clients.new.self c.in-Up.is (h.does nothing)

pub returns-in-Ok-clause-beside : goal.returns-in-Ok-clause-beside
returns-in-Ok-clause-beside g c =
    let look : g.row.S.Denot → StoreView = λ s. g.S.StableStore.view s in
    let h = c.in-Ok.ensures in
    up-so look KeepsBeside c.args.self.now.slot c.in-Up.server c.close_clients.new.self c.in-Up.is h.beside
