use Rattle.jn_place.proofs.Common.{◌++◌, ap, sym, ◌∙◌, true, DeviceState, cleared, StoreView, lines_at, texts_of_step, told_at}
use Rattle.jn_place.proofs.Befalling.{stays-up, stays-down}
use Rattle.jn_place.proofs.Devices.{cleared-down}
use Rattle.jn_place.proofs.place.Place.tell_outside.Goals as goal

pub returns-in_ok-tell_faults-in-Up-clause-clears : goal.returns-in_ok-tell_faults-in-Up-clause-clears
returns-in_ok-tell_faults-in-Up-clause-clears g c =
    let look : g.row.S.Denot → StoreView = λ s. g.S.StableStore.view s in
    let device : g.row.S.Denot → DeviceState = λ s. g.S.Powered.device s in
    stays-up look device cleared c.args.self.now.slot c.in-Up.up c.clear_outside.new.self c.in-Up.is c.clear_outside.ensures.befalls c.clear_outside.ensures.cleared

pub returns-in_ok-tell_faults-in-Up-clause-lines : goal.returns-in_ok-tell_faults-in-Up-clause-lines
returns-in_ok-tell_faults-in-Up-clause-lines g c =
    let device : g.row.S.Denot → DeviceState = λ s. g.S.Powered.device s in
    c.in_ok-tell_faults-in-Up.ensures ∙ ap (λ l. c.args.told.now.items ++ lines_at c.args.when (texts_of_step c.args.server l true)) (c.outside.ensures ∙ ap (told_at device) (sym c.in-Up.is))

pub returns-in_ok-tell_faults-in-Down-clause-place : goal.returns-in_ok-tell_faults-in-Down-clause-place
returns-in_ok-tell_faults-in-Down-clause-place g c =
    let look : g.row.S.Denot → StoreView = λ s. g.S.StableStore.view s in
    let t = c.clear_outside-in-Down.new.self in
    λ most h. cleared-down look c.args.server most c.args.self.now c.in-Down.store t c.in-Down.is c.clear_outside-in-Down.ensures.pages
    (ap (λ (v : StoreView). v.told) (g.met.S.Powered.seen t) ∙ ap (λ (d : DeviceState). d.told) c.clear_outside-in-Down.ensures.cleared) h

pub returns-in_ok-tell_faults-in-Down-clause-clears : goal.returns-in_ok-tell_faults-in-Down-clause-clears
returns-in_ok-tell_faults-in-Down-clause-clears g c =
    let look : g.row.S.Denot → StoreView = λ s. g.S.StableStore.view s in
    let device : g.row.S.Denot → DeviceState = λ s. g.S.Powered.device s in
    stays-down look device cleared c.args.self.now.slot c.in-Down.store c.clear_outside-in-Down.new.self c.in-Down.is c.clear_outside-in-Down.ensures.pages c.clear_outside-in-Down.ensures.cleared

pub returns-in_ok-tell_faults-in-Down-clause-lines : goal.returns-in_ok-tell_faults-in-Down-clause-lines
returns-in_ok-tell_faults-in-Down-clause-lines g c =
    let device : g.row.S.Denot → DeviceState = λ s. g.S.Powered.device s in
    c.in_ok-tell_faults-in-Down.ensures ∙ ap (λ l. c.args.told.now.items ++ lines_at c.args.when (texts_of_step c.args.server l true)) (c.outside-in-Down.ensures ∙ ap (told_at device) (sym c.in-Down.is))
