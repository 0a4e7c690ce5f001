use Rattle.jn_locks.proofs.Common.{false, List, None, Some, rules, ap, refl, sym, subst, ◌∙◌, ◌&&◌, if◌then◌else◌, IfErr, work_eq, Broken, Want, Works, Wants, wanted, commit_wants, or_active, NoConflict, AreBroken, IsRefusal, is_broken, is_wanted_unit, committed, table_of, standing_of, prepared}
use Rattle.jn_locks.proofs.Intends.{after_break, same_wants, intended_among, turned_all, prepared_after}
use Rattle.jn_locks.proofs.Breaks.{not_self}
use Rattle.jn_locks.proofs.held.Held.commit.Goals as goal

pub returns-in_err-broken-clause-refused : goal.returns-in_err-broken-clause-refused
returns-in_err-broken-clause-refused c =
    subst (λ (w : Wants). IfErr c.from_residual-in_err-broken.result (IsRefusal (table_of c.args.self.now) c.args.work w))
    (ap wanted (c.deref.ensures.value ∙ c.in_ok-wants.ensures) ∙ same_wants c.args.self.now c.requires c.args.work) (search rules)

pub turn-requires-clause-has_place : goal.turn-requires-clause-has_place
turn-requires-clause-has_place c u k = intended_among c.args.self.now c.requires c.args.work u (ap (λ (ws : List Want). is_wanted_unit ws u) (sym (c.deref-2.ensures.value ∙ c.in_ok-wants.ensures)) ∙ k)

pub returns-clause-granted : goal.returns-clause-granted
returns-clause-granted c =
    let t = table_of c.args.self.now in
    let bs = c.in_ok-broken.broken.items in
    let same = same_wants c.args.self.now c.requires c.args.work in
    let broken = subst (λ (w : Wants). AreBroken t c.args.work w bs) (ap wanted (c.deref.ensures.value ∙ c.in_ok-wants.ensures) ∙ same) c.in_ok-broken.ensures.broken in
    let itself = not_self t c.args.work (commit_wants t c.args.work) bs broken in
    record {
      free = subst (λ (w : Wants). NoConflict t c.args.work w) (ap wanted (c.deref.ensures.value ∙ c.in_ok-wants.ensures) ∙ same) c.in_ok-broken.ensures.free;
      broken = broken;
      grants = record {
        locks = λ V u m. after_break bs c.args.work itself false V _ _ _ _
            (c.break_all.ensures.holds V u m ∙ ap (λ (b : List Broken). if is_broken b V then false else (table_of c.turn.new.self).holds V u m) c.deref-3.ensures.value)
            (c.turn.ensures.holds V u m
            ∙ ap (λ (ws : List Want). if work_eq c.args.work V && is_wanted_unit ws u then committed (t.holds c.args.work) u m else t.holds V u m) (c.deref-2.ensures.value ∙ c.in_ok-wants.ensures)
            ∙ turned_all c.args.self.now c.requires c.args.work V u m);
        standing = λ V. after_break bs c.args.work itself None V _ _ _ _
            (c.break_all.ensures.standing V ∙ ap (λ (b : List Broken). if is_broken b V then None else standing_of c.prepare.new.self V) c.deref-3.ensures.value)
            (prepared_after (standing_of c.enter.new.self) t.standing c.args.work (Some (or_active (t.standing c.args.work))) _ V refl c.in_ok-enter.ensures.standing
            (c.prepare.ensures.standing V ∙ ap (λ (s : Works). if work_eq c.args.work V then prepared (standing_of s c.args.work) else standing_of s V) c.turn.ensures.works));
      };
    }
