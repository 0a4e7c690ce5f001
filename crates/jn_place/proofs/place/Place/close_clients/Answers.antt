use Rattle.jn_place.proofs.Common.{◌∙◌, sym, subst, Bool, true, ◌≡◌, ◌++◌, is_some, OnOk, DeviceState, counts_by, StoreView, Called, lines_at, texts_of_step, Closed, StaysCalm, WhereUp, KeepsBeside, told_at, Follows, IsPlace}
use Rattle.jn_place.proofs.Ending.{on-ok, on-both, done-calm}
use Rattle.jn_place.proofs.Beside.{left-up, keeps-lasts}
use Rattle.jn_place.proofs.Steps.{quiet-left}
use Rattle.jn_place.proofs.Taking.{closed-by, closed-calm}
use Rattle.jn_place.proofs.place.Place.close_clients.Goals as goal

pub returns : goal.returns
returns g c =
    let look : g.row.S.Denot → StoreView = λ s. g.S.StableStore.view s in
    let device : g.row.S.Denot → DeviceState = λ s. g.S.Powered.device s in
    let p = c.args.self.now in
    let q = c.thank.new.self in
    let r = c.after_step.new.self in
    let call = c.in_ok-done.ensures in
    let done = is_some c.in_ok-done.done in
    let old = c.args.told.now.items in
    let new = c.after_step.new.told.items in
    let follows = subst (λ (b : Bool). OnOk c.after_step.result (Follows look device q.slot b r.slot)) c.is_some.ensures c.after_step.ensures.follows in
    let lines = subst (λ (b : Bool). OnOk c.after_step.result (new ≡ old ++ lines_at c.args.when (texts_of_step c.args.server (told_at device q.slot) b))) c.is_some.ensures c.after_step.ensures.lines in
    record {
      left = λ most h. quiet-left look c.args.server most c.is_some.result p q (λ m. OnOk c.after_step.result (IsPlace look c.args.server m c.after_step.new.self)) h
          (subst (λ (b : Bool). Called look 0 b p.slot q.slot) (sym c.is_some.ensures) call.called) call.counts c.after_step.ensures.place;
      closed = on-both (Follows look device q.slot done r.slot) (new ≡ old ++ lines_at c.args.when (texts_of_step c.args.server (told_at device q.slot) done))
          ((d : Bool) × Closed look device c.args.server (counts_by p.counts) c.args.when p.slot d r.slot old new) c.after_step.result
          (λ h e. (done, closed-by look device g.met.S.Powered.seen c.args.server (counts_by p.counts) 1000000 c.args.when old new p.slot q.slot r.slot done c.requires.place.stands call.closes h e)) follows lines;
      calm = on-both (Follows look device q.slot done r.slot) (new ≡ old ++ lines_at c.args.when (texts_of_step c.args.server (told_at device q.slot) done))
          (StaysCalm look p.slot true r.slot) c.after_step.result
          (λ h e. done-calm look p.slot done r.slot (closed-calm look device g.met.S.Powered.seen c.args.server (counts_by p.counts) 1000000 c.args.when old new p.slot q.slot r.slot done c.requires.place.stands call.closes h)) follows lines;
      beside = on-ok (Follows look device q.slot done r.slot) (WhereUp look KeepsBeside p.slot r.slot) c.after_step.result (λ h. left-up look device KeepsBeside (keeps-lasts look device) p.slot q.slot r.slot done call.beside h) follows;
      counts = c.after_step.ensures.counts ∙ call.counts;
    }
