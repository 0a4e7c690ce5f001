use Rattle.jn_locks.proofs.Common.{false, List, None, Some, ap, ◌∙◌, ◌||◌, ◌&&◌, if◌then◌else◌, work_eq, Broken, Holder, Works, wanted, or_active, holds_in, is_broken, table_of, standing_of}
use Rattle.jn_locks.proofs.Intends.{after_break, or_wanted}
use Rattle.jn_locks.proofs.Breaks.{not_self}
use Rattle.jn_locks.proofs.held.Held.ask.Goals as goal

pub returns-clause-granted : goal.returns-clause-granted
returns-clause-granted c =
    let t = table_of c.args.self.now in
    let bs = c.in_ok-broken.broken.items in
    let itself = not_self t c.args.work (wanted c.args.wants.now) bs c.in_ok-broken.ensures.broken in
    record {
      free = c.in_ok-broken.ensures.free;
      broken = c.in_ok-broken.ensures.broken;
      grants = record {
        locks = λ V u m. after_break bs c.args.work itself false V _ _ _ _
            (c.break_all.ensures.holds V u m ∙ ap (λ (b : List Broken). if is_broken b V then false else (table_of c.add_all.new.self).holds V u m) c.deref.ensures.value)
            (c.add_all.ensures.holds V u m ∙ ap (λ (hs : List Holder). holds_in hs V m || (work_eq c.args.work V && wanted c.args.wants.now u m)) (c.in_ok-make_room.ensures.at u)
            ∙ or_wanted t.holds c.args.work V u m (wanted c.args.wants.now u m));
        standing = λ V. after_break bs c.args.work itself None V _ _ _ _
            (c.break_all.ensures.standing V ∙ ap (λ (b : List Broken). if is_broken b V then None else (table_of c.add_all.new.self).standing V) c.deref.ensures.value)
            (c.add_all.ensures.standing V ∙ c.in_ok-enter.ensures.standing V
            ∙ ap (λ (s : Works). if work_eq c.args.work V then Some (or_active (standing_of s c.args.work)) else standing_of s V) c.in_ok-make_room.ensures.works);
      };
    }
