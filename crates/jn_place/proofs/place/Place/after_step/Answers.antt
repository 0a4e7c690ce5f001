use Rattle.jn_place.proofs.Common.{◌≡◌, ◌++◌, ◌∙◌, true, false, ap, subst, sym, OnOk, DeviceState, cleared, counts_by, StoreView, lines_at, texts_of_step, told_at, StaysAs, Follows, IsPlace}
use Rattle.jn_place.proofs.Ending.{on-ok, lines-stopped, follows-done, follows-stopped, told-left}
use Rattle.jn_place.proofs.Steps.{any-ok, down-stands, held-stands, stands-as}
use Rattle.jn_place.proofs.place.Place.after_step.Goals as goal

pub returns-then-done : goal.returns-then-done
returns-then-done g c =
    let look : g.row.S.Denot → StoreView = λ s. g.S.StableStore.view s in
    let device : g.row.S.Denot → DeviceState = λ s. g.S.Powered.device s in
    let p = c.args.self.now in
    let q = c.tell_outside.new.self in
    record {
      place = λ most h. c.tell_outside.ensures.place most (held-stands look c.args.server (counts_by p.counts) most c.args.done p.slot c.if-done.true h);
      follows = on-ok (StaysAs look device cleared p.slot q.slot) (Follows look device p.slot c.args.done q.slot) c.tell_outside.result
          (λ h. follows-done look device p.slot q.slot c.args.done c.if-done.true c.requires.up h) c.tell_outside.ensures.clears;
      lines = subst (λ b. OnOk c.tell_outside.result (c.tell_outside.new.told.items ≡ c.args.told.now.items ++ lines_at c.args.when (texts_of_step c.args.server (told_at device p.slot) b))) (sym c.if-done.true) c.tell_outside.ensures.lines;
      counts = c.tell_outside.ensures.counts;
    }

pub returns : goal.returns
returns g c =
    let look : g.row.S.Denot → StoreView = λ s. g.S.StableStore.view s in
    let device : g.row.S.Denot → DeviceState = λ s. g.S.Powered.device s in
    let p = c.args.self.now in
    let q = c.go_down.new.self in
    let r = c.tell_outside-2.new.self in
    let told = c.in_ok-tell_outside.ensures in
    let lines = told.lines ∙ ap (λ l. c.args.told.now.items ++ lines_at c.args.when (texts_of_step c.args.server l true)) (told-left look device p.slot q.slot c.go_down.ensures.store) in
    record {
      place = λ most h. any-ok (IsPlace look c.args.server most c.tell_outside-2.new.self) c.tell.result
          (told.place most (stands-as look c.args.server most p.counts q.counts q.slot c.go_down.ensures.counts
          (down-stands look c.args.server (counts_by p.counts) most q.slot (c.go_down.ensures.down c.args.server most c.args.done h))));
      follows = any-ok (Follows look device p.slot c.args.done r.slot) c.tell.result (follows-stopped look device p.slot q.slot r.slot c.args.done c.if-done.false c.go_down.ensures.store told.clears);
      lines = subst (λ b. OnOk c.tell.result (c.tell.new.lines.items ≡ c.args.told.now.items ++ lines_at c.args.when (texts_of_step c.args.server (told_at device p.slot) b))) (sym c.if-done.false)
          (on-ok _ (c.tell.new.lines.items ≡ c.args.told.now.items ++ lines_at c.args.when (texts_of_step c.args.server (told_at device p.slot) false)) c.tell.result
          (λ e. lines-stopped c.args.server c.args.when (told_at device p.slot) c.args.told.now.items c.tell_outside-2.new.told.items c.tell.new.lines.items lines e) c.tell.ensures);
      counts = told.counts ∙ c.go_down.ensures.counts;
    }
