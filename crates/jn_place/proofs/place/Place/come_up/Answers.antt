use Rattle.jn_place.proofs.Common.{◌∙◌, counts_by, DeviceState, StoreView}
use Rattle.jn_place.proofs.Rising.{restarted, comes-calm}
use Rattle.jn_place.proofs.Steps.{stands-down, came-there, came-stands, stands-as}
use Rattle.jn_place.proofs.place.Place.come_up.Goals as goal

pub restart-requires : goal.restart-requires
restart-requires g c =
    let look : g.row.S.Denot → StoreView = λ s. g.S.StableStore.view s in
    let p = c.args.self.now in
    record { down = (c.args.server, stands-down look c.args.server (counts_by p.counts) 1000000 p.slot c.requires.place.stands c.requires.down) }

pub tell_outside-requires : goal.tell_outside-requires
tell_outside-requires g c =
    let look : g.row.S.Denot → StoreView = λ s. g.S.StableStore.view s in
    let p = c.args.self.now in
    let call = c.in_ok-restarted.ensures in
    record {
      there = came-there look c.args.server (counts_by p.counts) c.restart.new.self.slot c.in_ok-restarted.restarted
          (call.came c.args.server (stands-down look c.args.server (counts_by p.counts) 1000000 p.slot c.requires.place.stands c.requires.down));
    }

pub returns : goal.returns
returns g c =
    let look : g.row.S.Denot → StoreView = λ s. g.S.StableStore.view s in
    let p = c.args.self.now in
    let q = c.restart.new.self in
    let call = c.in_ok-restarted.ensures in
    let told = c.in_ok-tell_outside.ensures in
    let device : g.row.S.Denot → DeviceState = λ s. g.S.Powered.device s in
    let n = counts_by p.counts in
    let r = c.tell_outside.new.self in
    let lifts = call.lifts c.args.server (stands-down look c.args.server (counts_by p.counts) 1000000 p.slot c.requires.place.stands c.requires.down) in
    record {
      restarts = restarted look device g.met.S.Powered.seen c.args.server n c.args.when c.args.told.now.items c.tell_outside.new.told.items p.slot q.slot r.slot c.in_ok-restarted.restarted lifts told.clears told.lines;
      calm = comes-calm look device g.met.S.Powered.seen c.args.server n p.slot q.slot r.slot c.in_ok-restarted.restarted lifts told.clears;
      counts = told.counts ∙ call.counts;
      place = λ most h. told.place most (stands-as look c.args.server most p.counts q.counts q.slot call.counts
          (came-stands look c.args.server (counts_by p.counts) most q.slot c.in_ok-restarted.restarted
          (call.came c.args.server (stands-down look c.args.server (counts_by p.counts) 1000000 p.slot c.requires.place.stands c.requires.down))));
    }
