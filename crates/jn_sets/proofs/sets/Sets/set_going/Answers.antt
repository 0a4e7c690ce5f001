use Rattle.jn_sets.proofs.Common.{◌≡◌, ◌<◌, List, length, true, false, refl, sym, ◌∙◌, ap, subst, slice_set, Record, has_page, record_in, is_ready, going_of, Puts, IsWatched}
use Rattle.jn_sets.proofs.Rubbish.{watched_going}
use Rattle.jn_sets.proofs.Stored.{ready_within, is_there, read_again, marked_back, puts_done, puts_stopped}
use Rattle.jn_sets.proofs.sets.Sets.set_going.Goals as goal

pub unreachable-requires : goal.unreachable-requires
unreachable-requires g c =
    let old = c.self.inside.slots in
    let ready : is_ready (record_in old c.args.slot) ≡ true = subst (λ (l : List Record). is_ready (record_in l c.args.slot) ≡ true) (sym c.self.view_is) c.requires.ready in
    is_there old c.mark.new.self c.args.slot (going_of (record_in old c.args.slot)) (ready_within old c.args.slot ready) c.mark.ensures.left (sym c.in_default.ensures)

pub write_slot-requires-clause-page : goal.write_slot-requires-clause-page
write_slot-requires-clause-page g c =
    let old = c.self.inside.slots in
    let ready : is_ready (record_in old c.args.slot) ≡ true = subst (λ (l : List Record). is_ready (record_in l c.args.slot) ≡ true) (sym c.self.view_is) c.requires.ready in
    ap has_page (read_again old c.mark.new.self c.args.slot (going_of (record_in old c.args.slot)) c.in-Some.going.now (ready_within old c.args.slot ready) c.mark.ensures.left (sym c.in-Some.ensures)) ∙ c.mark.ensures.page

pub returns-in-Ok : goal.returns-in-Ok
returns-in-Ok g c =
    let old = c.self.inside.slots in
    let ready : is_ready (record_in old c.args.slot) ≡ true = subst (λ (l : List Record). is_ready (record_in l c.args.slot) ≡ true) (sym c.self.view_is) c.requires.ready in
    let there : length old < (g.S.StableStore.view c.args.store.now).count = subst (λ (l : List Record). length l < (g.S.StableStore.view c.args.store.now).count) (sym c.self.view_is) c.requires.there in
    let within = ready_within old c.args.slot ready in
    let value_is : c.in-Some.going.now ≡ going_of (record_in old c.args.slot) = read_again old c.mark.new.self c.args.slot (going_of (record_in old c.args.slot)) c.in-Some.going.now within c.mark.ensures.left (sym c.in-Some.ensures) in
    subst (λ (l : List Record). Puts l (g.S.StableStore.view c.args.store.now) c.args.slot (going_of (record_in l c.args.slot)) true c.mark.new.self (g.S.StableStore.view c.write_slot.new.store)) c.self.view_is
    (subst (λ (v : Record). Puts old (g.S.StableStore.view c.args.store.now) c.args.slot v true c.mark.new.self (g.S.StableStore.view c.write_slot.new.store)) value_is
    (puts_done _ _ _ _ _ c.in-Ok.ensures.is_record within there _ c.in-Ok.ensures.put
    (c.mark.ensures.left ∙ ap (slice_set old c.args.slot) (sym value_is))))

pub returns-in-Err : goal.returns-in-Err
returns-in-Err g c =
    let old = c.self.inside.slots in
    let ready : is_ready (record_in old c.args.slot) ≡ true = subst (λ (l : List Record). is_ready (record_in l c.args.slot) ≡ true) (sym c.self.view_is) c.requires.ready in
    let there : length old < (g.S.StableStore.view c.args.store.now).count = subst (λ (l : List Record). length l < (g.S.StableStore.view c.args.store.now).count) (sym c.self.view_is) c.requires.there in
    let within = ready_within old c.args.slot ready in
    let value_is : c.in-Some.going.now ≡ going_of (record_in old c.args.slot) = read_again old c.mark.new.self c.args.slot (going_of (record_in old c.args.slot)) c.in-Some.going.now within c.mark.ensures.left (sym c.in-Some.ensures) in
    let same = marked_back old c.mark.new.self c.mark-in-Err.new.self c.args.slot ready c.mark.ensures.left c.mark-in-Err.ensures.left in
    subst (λ (l : List Record). Puts l (g.S.StableStore.view c.args.store.now) c.args.slot (going_of (record_in l c.args.slot)) false c.mark-in-Err.new.self (g.S.StableStore.view c.write_slot.new.store)) c.self.view_is
    (subst (λ (l : List Record). Puts old (g.S.StableStore.view c.args.store.now) c.args.slot (going_of (record_in old c.args.slot)) false l (g.S.StableStore.view c.write_slot.new.store)) (sym same)
    (subst (λ (v : Record). Puts old (g.S.StableStore.view c.args.store.now) c.args.slot v false old (g.S.StableStore.view c.write_slot.new.store)) value_is
    (puts_stopped _ _ _ _ _ c.in-Err.ensures.is_record within there false refl c.in-Err.ensures.put)))

pub invariant_of-self : goal.invariant_of-self
invariant_of-self g c =
    let old = c.self.inside.slots in
    let ready : is_ready (record_in old c.args.slot) ≡ true = subst (λ (l : List Record). is_ready (record_in l c.args.slot) ≡ true) (sym c.self.view_is) c.requires.ready in
    watched_going old c.self.inside.rubbish c.self.inside.clean c.self.inside.used c.self.invariant c.args.slot (ready_within old c.args.slot ready) c.mark.new.self ready c.mark.ensures.left

pub invariant_of-self-in-Err : goal.invariant_of-self-in-Err
invariant_of-self-in-Err g c =
    let old = c.self.inside.slots in
    let ready : is_ready (record_in old c.args.slot) ≡ true = subst (λ (l : List Record). is_ready (record_in l c.args.slot) ≡ true) (sym c.self.view_is) c.requires.ready in
    let same = marked_back old c.mark.new.self c.mark-in-Err.new.self c.args.slot ready c.mark.ensures.left c.mark-in-Err.ensures.left in
    subst (λ (l : List Record). IsWatched l c.self.inside.rubbish c.self.inside.clean c.self.inside.used) (sym same) c.self.invariant
