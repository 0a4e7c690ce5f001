use Rattle.jn_worker.proofs.Common.{◌≡◌, if◌then◌else◌, refl, sym, ◌∙◌, ap, subst, arith, with_items, with_items_is, table, LocksMatch, rephased, relisted, tallied, intention_for, list_after}
use Rattle.jn_worker.proofs.Performed.{match_rephased, relisted_keeps, tallied_keeps}
use Rattle.jn_worker.proofs.Operated.{grant_becomes, grant_refused, grant_done}
use Rattle.jn_worker.proofs.worker.Worker.grant.Goals.{then-fit+in_ok-add, else-fit}
use Rattle.jn_worker.proofs.worker.Worker.grant.Goals as goal

pub grant_operation-requires-clause-matches : goal.grant_operation-requires-clause-matches
grant_operation-requires-clause-matches c = subst (λ ws. LocksMatch ws (table c.self.inside.locks)) (sym (c.deref_mut.ensures.value ∙ c.swap_list-list.ensures.works)) (match_rephased c.args.name (relisted c.new.result) (relisted_keeps c.new.result) c.self.inside.works.items (table c.self.inside.locks) c.self.invariant)

pub grant_operation-requires-clause-becomes : goal.grant_operation-requires-clause-becomes
grant_operation-requires-clause-becomes c = grant_becomes c.args.self.now c.self.inside.works.items c.deref.result.now c.swap_list-list.new.works.items c.deref_mut.result.now c.self.inside.going.items c.args.name c.in-Some.work.now c.in-Active.active c.args.op.now c.args.answer c.is_fit-fit.result c.new.result c.args.units.0.items c.args.units.1.items _
    c.self.view_is c.deref.ensures.value c.in-Some.ensures c.in-Active.is c.swap_list-list.ensures.works c.deref_mut.ensures.value c.is_fit-fit.ensures c.requires.reads c.requires.writes c.from_vec.ensures c.from_vec-2.ensures refl

pub invariant_of-self : goal.invariant_of-self
invariant_of-self c = subst (λ ws. LocksMatch ws (table c.grant_operation.new.locks)) (sym (c.swap_list-none.ensures.works ∙ ap (λ l. rephased c.args.name (relisted c.swap_list-list.result) l) (with_items_is c.swap_list-list.new.works c.grant_operation.new.works (omega (arith, c.deref_mut.ensures.len, c.swap_list-list.new.works.ok.0)))))
    (match_rephased c.args.name (relisted c.swap_list-list.result) (relisted_keeps c.swap_list-list.result) c.grant_operation.new.works (table c.grant_operation.new.locks) c.in-Err.ensures.matches)

pub invariant_of-self-in_err-kept-in-Err : goal.invariant_of-self-in_err-kept-in-Err
invariant_of-self-in_err-kept-in-Err c = subst (λ ws. LocksMatch ws (table c.grant_operation.new.locks)) (sym (c.swap_list-none.ensures.works ∙ ap (λ l. rephased c.args.name (relisted c.swap_list-list.result) l) (with_items_is c.swap_list-list.new.works c.grant_operation.new.works (omega (arith, c.deref_mut.ensures.len, c.swap_list-list.new.works.ok.0)))))
    (match_rephased c.args.name (relisted c.swap_list-list.result) (relisted_keeps c.swap_list-list.result) c.grant_operation.new.works (table c.grant_operation.new.locks) c.in-Err.ensures.matches)

pub invariant_of-self-in-Err : goal.invariant_of-self-in-Err
invariant_of-self-in-Err c = subst (λ ws. LocksMatch ws (table c.grant_operation.new.locks)) (sym c.tally.ensures) (match_rephased c.args.name (tallied c.args.number.0 c.in_ok-kept-in-Err.kept) (tallied_keeps c.args.number.0 c.in_ok-kept-in-Err.kept) c.swap_list-none.new.works.items (table c.grant_operation.new.locks)
    (subst (λ ws. LocksMatch ws (table c.grant_operation.new.locks)) (sym (c.swap_list-none.ensures.works ∙ ap (λ l. rephased c.args.name (relisted c.swap_list-list.result) l) (with_items_is c.swap_list-list.new.works c.grant_operation.new.works (omega (arith, c.deref_mut.ensures.len, c.swap_list-list.new.works.ok.0)))))
    (match_rephased c.args.name (relisted c.swap_list-list.result) (relisted_keeps c.swap_list-list.result) c.grant_operation.new.works (table c.grant_operation.new.locks) c.in-Err.ensures.matches)))

pub returns-in-Err-clause-granted : goal.returns-in-Err-clause-granted
returns-in-Err-clause-granted c = λ T a i count. grant_refused c.args.self.now c.self.inside.works.items c.deref.result.now c.swap_list-list.new.works.items c.deref_mut.result.now (with_items c.swap_list-list.new.works c.grant_operation.new.works).items c.swap_list-none.new.works.items c.tally.new.works.items c.self.inside.going.items c.args.name c.in-Some.work.now T a c.args.op.now c.args.answer c.in_ok-refusal-in-Err.refusal c.is_fit-fit.result c.args.number c.new.result c.swap_list-list.result c.in-Err.refused c.args.out.now
    c.self.view_is c.deref.ensures.value c.in-Some.ensures i count c.swap_list-list.ensures.works c.swap_list-list.ensures.list c.deref_mut.ensures.value c.is_fit-fit.ensures c.in-Err.ensures.refused (with_items_is c.swap_list-list.new.works c.grant_operation.new.works (omega (arith, c.deref_mut.ensures.len, c.swap_list-list.new.works.ok.0)) ∙ c.in-Err.ensures.same) c.swap_list-none.ensures.works (sym c.locked.ensures ∙ c.in_ok-refusal-in-Err.was) (c.tally.ensures ∙ ap (λ x. rephased c.args.name (tallied c.args.number.0 x) c.swap_list-none.new.works.items) c.in_ok-kept-in-Err.ensures)

pub invariant_of-self-in_err-note_breaks : goal.invariant_of-self-in_err-note_breaks
invariant_of-self-in_err-note_breaks c = subst (λ ws. LocksMatch ws (table c.grant_operation.new.locks)) (sym (c.swap_list-none-2.ensures.works ∙ ap (λ l. rephased c.args.name (relisted c.if-fit.list) l) (with_items_is c.swap_list-list.new.works c.grant_operation.new.works (omega (arith, c.deref_mut.ensures.len, c.swap_list-list.new.works.ok.0)))))
    (match_rephased c.args.name (relisted c.if-fit.list) (relisted_keeps c.if-fit.list) c.grant_operation.new.works (table c.grant_operation.new.locks) c.in-Ok.ensures.matches)

pub invariant_of-self-2 : goal.invariant_of-self-2
invariant_of-self-2 c = subst (λ ws. LocksMatch ws (table c.grant_operation.new.locks)) (sym (c.swap_list-none-2.ensures.works ∙ ap (λ l. rephased c.args.name (relisted c.if-fit.list) l) (with_items_is c.swap_list-list.new.works c.grant_operation.new.works (omega (arith, c.deref_mut.ensures.len, c.swap_list-list.new.works.ok.0)))))
    (match_rephased c.args.name (relisted c.if-fit.list) (relisted_keeps c.if-fit.list) c.grant_operation.new.works (table c.grant_operation.new.locks) c.in-Ok.ensures.matches)

pub returns-clause-granted : goal.returns-clause-granted
returns-clause-granted c = λ T a i count.
    let longer : c.if-fit.list ≡ (if c.is_fit-fit.result then list_after (intention_for c.swap_list-list.result c.args.op.now) c.args.op.now c.swap_list-list.result else c.swap_list-list.result) = elim c.if-fit.branch [
      | then-fit+in_ok-add w ↦ w.list-is ∙ (w.in_ok-add.ensures.edited ∙ sym (ap (λ b. if b then list_after (intention_for c.swap_list-list.result c.args.op.now) c.args.op.now c.swap_list-list.result else c.swap_list-list.result) w.if-fit.true))
      | else-fit w ↦ w.list-is ∙ sym (ap (λ b. if b then list_after (intention_for c.swap_list-list.result c.args.op.now) c.args.op.now c.swap_list-list.result else c.swap_list-list.result) w.if-fit.false)
    ] in
    grant_done c.args.self.now c.self.inside.works.items c.deref.result.now c.swap_list-list.new.works.items c.deref_mut.result.now c.grant_operation.new.works c.swap_list-none-2.new.works.items c.deref-2.result.now (with_items c.swap_list-list.new.works c.grant_operation.new.works).items c.self.inside.going.items c.args.name c.in-Some.work.now T a c.in-Active.active _ c.args.op.now c.args.answer c.is_fit-fit.result c.args.number c.new.result c.swap_list-list.result c.if-fit.list c.in-Ok.granted c.broken.result.now c.args.out.now c.note_breaks.new.out
    c.self.view_is c.deref.ensures.value c.in-Some.ensures c.in-Active.is i count c.swap_list-list.ensures.works c.swap_list-list.ensures.list c.deref_mut.ensures.value c.is_fit-fit.ensures c.in-Ok.ensures.granted (with_items_is c.swap_list-list.new.works c.grant_operation.new.works (omega (arith, c.deref_mut.ensures.len, c.swap_list-list.new.works.ok.0)))
    (c.from_vec.ensures ∙ c.requires.reads T a i) (c.from_vec-2.ensures ∙ c.requires.writes T a i) refl refl refl longer c.swap_list-none-2.ensures.works c.deref-2.ensures.value c.broken.ensures c.in_ok-note_breaks.ensures.messages c.in_ok-note_breaks.ensures.notes
