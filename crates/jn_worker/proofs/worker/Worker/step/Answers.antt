use Rattle.jn_worker.proofs.Common.{◌≡◌, subst, refl, Some, None, WorkerView, going_in, Stops}
use Rattle.jn_worker.proofs.Exits.{handed_on}
use Rattle.jn_worker.proofs.Stepped.{erase_stopped, erase_made, live_going, going_made, going_failed}
use Rattle.jn_worker.proofs.worker.Worker.step.Goals as goal

pub returns-in_err-erase_step : goal.returns-in_err-erase_step
returns-in_err-erase_step g c =
    let none = subst (λ (t : WorkerView). going_in t.going t.table ≡ None) c.self.view_is (subst (λ ws. going_in c.self.inside.going.items ws ≡ None) c.deref.ensures.value (subst (λ gs. going_in gs c.deref.result.now ≡ None) c.deref-2.ensures.value c.in_default.ensures)) in
    record { steps = λ k. erase_stopped _ _ _ _ k _ _ (handed_on _ Stops c.from_residual.ensures) c.requires.fits none c.in_err-erase_step.ensures.erased }

pub returns-in_default : goal.returns-in_default
returns-in_default g c =
    let none = subst (λ (t : WorkerView). going_in t.going t.table ≡ None) c.self.view_is (subst (λ ws. going_in c.self.inside.going.items ws ≡ None) c.deref.ensures.value (subst (λ gs. going_in gs c.deref.result.now ≡ None) c.deref-2.ensures.value c.in_default.ensures)) in
    record { steps = λ k. erase_made _ _ _ _ k _ _ refl c.requires.fits none c.in_ok-erase_step.ensures.erased }

pub carry_on-requires-clause-live : goal.carry_on-requires-clause-live
carry_on-requires-clause-live g c =
    let found = subst (λ ws. going_in c.self.inside.going.items ws ≡ Some c.in-Some.work.now) c.deref.ensures.value (subst (λ gs. going_in gs c.deref.result.now ≡ Some c.in-Some.work.now) c.deref-2.ensures.value c.in-Some.ensures) in
    (live_going _ _ _ _ _ c.self.view_is c.requires.fits c.self.invariant.rising found).0

pub carry_on-requires-clause-going : goal.carry_on-requires-clause-going
carry_on-requires-clause-going g c =
    let found = subst (λ ws. going_in c.self.inside.going.items ws ≡ Some c.in-Some.work.now) c.deref.ensures.value (subst (λ gs. going_in gs c.deref.result.now ≡ Some c.in-Some.work.now) c.deref-2.ensures.value c.in-Some.ensures) in
    (live_going _ _ _ _ _ c.self.view_is c.requires.fits c.self.invariant.rising found).1

pub returns-in_err-carry_on : goal.returns-in_err-carry_on
returns-in_err-carry_on g c =
    let found = subst (λ ws. going_in c.self.inside.going.items ws ≡ Some c.in-Some.work.now) c.deref.ensures.value (subst (λ gs. going_in gs c.deref.result.now ≡ Some c.in-Some.work.now) c.deref-2.ensures.value c.in-Some.ensures) in
    let seen = subst (λ (t : WorkerView). going_in t.going t.table ≡ Some c.in-Some.work.now) c.self.view_is found in
    record { steps = λ k. going_failed _ _ _ _ _ _ k _ _ c.in_err-carry_on.field-0.0 (handed_on _ c.in_err-carry_on.field-0.0 c.from_residual-in_err-carry_on.ensures) c.requires.fits seen (c.in_err-carry_on.ensures.takes k) }

pub returns : goal.returns
returns g c =
    let found = subst (λ ws. going_in c.self.inside.going.items ws ≡ Some c.in-Some.work.now) c.deref.ensures.value (subst (λ gs. going_in gs c.deref.result.now ≡ Some c.in-Some.work.now) c.deref-2.ensures.value c.in-Some.ensures) in
    let seen = subst (λ (t : WorkerView). going_in t.going t.table ≡ Some c.in-Some.work.now) c.self.view_is found in
    record { steps = λ k. going_made _ _ _ _ _ _ k _ c.requires.fits seen (c.in_ok-carry_on.ensures.takes k) }
