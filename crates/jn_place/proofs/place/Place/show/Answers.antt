use Rattle.std.specs.Global.{Vec}
use Rattle.jn_place.proofs.Common.{◌∙◌, refl, sym, subst, Bool, Option, Some, None, ◌≡◌, ◌++◌, is_some, DeviceState, counts_by, Shown, StoreView, Called, lines_at, texts_of_step, items_of, StaysCalm, KeepsBeside, told_at, Follows, IsPlace}
use Rattle.jn_place.proofs.Beside.{left-up, keeps-lasts}
use Rattle.jn_place.proofs.Steps.{quiet-left}
use Rattle.jn_place.proofs.Taking.{showed-by, showed-calm}
use Rattle.jn_place.proofs.place.Place.show.Goals as goal

items-some : (list : Option (Vec Shown)) → is_some list ≡ is_some (items_of list)
items-some None = refl
items-some (Some list) = refl

pub returns : goal.returns
returns g c =
    let look : g.row.S.Denot → StoreView = λ s. g.S.StableStore.view s in
    let device : g.row.S.Denot → DeviceState = λ s. g.S.Powered.device s in
    let p = c.args.self.now in
    let q = c.list_files.new.self in
    let r = c.after_step.new.self in
    let list = c.in_ok-list.list in
    let call = c.in_ok-list.ensures in
    let then-so = c.in_ok-after_step.ensures in
    let old = c.args.told.now.items in
    let new = c.after_step.new.told.items in
    let done = c.is_some.ensures ∙ items-some list in
    let follows = subst (λ (b : Bool). Follows look device q.slot b r.slot) done then-so.follows in
    let lines = subst (λ (b : Bool). new ≡ old ++ lines_at c.args.when (texts_of_step c.args.server (told_at device q.slot) b)) done then-so.lines in
    record {
      left = λ most h. quiet-left look c.args.server most c.is_some.result p q (λ m. IsPlace look c.args.server m c.after_step.new.self) h
          (subst (λ (b : Bool). Called look 0 b p.slot q.slot) (sym c.is_some.ensures) call.called) call.counts then-so.place;
      showed = showed-by look device g.met.S.Powered.seen c.args.server (counts_by p.counts) 1000000 c.args.when old new p.slot q.slot r.slot (items_of list) c.requires.place.stands call.shows follows lines;
      calm = subst (λ (b : Bool). StaysCalm look p.slot b r.slot) (sym (items-some list))
          (showed-calm look device g.met.S.Powered.seen c.args.server (counts_by p.counts) 1000000 c.args.when old new p.slot q.slot r.slot (items_of list) c.requires.place.stands call.shows follows);
      beside = left-up look device KeepsBeside (keeps-lasts look device) p.slot q.slot r.slot (is_some list) call.beside (subst (λ (b : Bool). Follows look device q.slot b r.slot) c.is_some.ensures then-so.follows);
      counts = then-so.counts ∙ call.counts;
    }
