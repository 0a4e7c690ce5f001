use Rattle.jn_worker.proofs.Common.{◌≡◌, ◌∙◌, ap, sym, subst, ◌||◌, is_some, WorkerView, seen, going_in}
use Rattle.jn_worker.proofs.Stepped.{some_given, step_left}
use Rattle.jn_worker.proofs.worker.Worker.has_going.Goals as goal

pub returns : goal.returns
returns c =
    let some = c.is_some.ensures ∙ some_given _ _ _ c.going_work.ensures in
    let here = subst (λ ws. c.is_some.result ≡ is_some (going_in c.self.inside.going.items ws)) c.deref.ensures.value (subst (λ gs. c.is_some.result ≡ is_some (going_in gs c.deref.result.now)) c.deref-2.ensures.value some) in
    let goes = subst (λ (t : WorkerView). c.is_some.result ≡ is_some (going_in t.going t.table)) c.self.view_is here in
    record {
      going = goes;
      steps = λ v k fits. step_left c.args.self.now v k fits ∙ ap (λ b. b || (seen v).rubbish) (sym goes);
    }
