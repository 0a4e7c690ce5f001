use Rattle.jn_place.proofs.Common.{◌∙◌, subst, ℕ, Bool, ◌≡◌, ◌++◌, is_some, DeviceState, counts_by, StoreView, lines_at, texts_of_step, WorkLeaves, told_at, Follows, IsPlace}
use Rattle.jn_place.proofs.Remaining.{fewer-left}
use Rattle.jn_place.proofs.Beside.{left-up, work-lasts}
use Rattle.jn_place.proofs.Steps.{taken-left, follows-as}
use Rattle.jn_place.proofs.Taking.{worked-by, worked-calm}
use Rattle.jn_place.proofs.place.Place.step.Goals as goal

pub returns : goal.returns
returns g c =
    let look : g.row.S.Denot → StoreView = λ s. g.S.StableStore.view s in
    let device : g.row.S.Denot → DeviceState = λ s. g.S.Powered.device s in
    let p = c.args.self.now in
    let q = c.work.new.self in
    let r = c.after_step.new.self in
    let answer = c.in_ok-answer.answer in
    let call = c.in_ok-answer.ensures in
    let then-so = c.in_ok-after_step.ensures in
    let old = c.args.told.now.items in
    let new = c.after_step.new.told.items in
    let follows = subst (λ (b : Bool). Follows look device q.slot b r.slot) c.is_some.ensures then-so.follows in
    let lines = subst (λ (b : Bool). new ≡ old ++ lines_at c.args.when (texts_of_step c.args.server (told_at device q.slot) b)) c.is_some.ensures then-so.lines in
    record {
      left = λ most h. taken-left look c.args.server most p q r answer h call.answered call.counts
          (follows-as look c.args.server (is_some answer) c.is_some.result q (λ (m : ℕ). IsPlace look c.args.server m r) c.is_some.ensures then-so.place);
      worked = worked-by look device g.met.S.Powered.seen c.args.server (counts_by p.counts) 1000000 c.args.when old new p.slot q.slot r.slot answer c.requires.place.stands call.worked follows lines;
      calm = worked-calm look device g.met.S.Powered.seen c.args.server (counts_by p.counts) 1000000 c.args.when old new p.slot q.slot r.slot answer c.requires.place.stands call.worked follows;
      beside = left-up look device WorkLeaves (work-lasts look device) p.slot q.slot r.slot (is_some answer) call.beside follows;
      less = fewer-left look device p.slot q.slot r.slot (is_some answer) call.less follows;
      counts = then-so.counts ∙ call.counts;
      room = call.room;
    }
