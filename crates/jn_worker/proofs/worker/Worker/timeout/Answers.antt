use Rattle.std.proofs.Common.{◌≡◌, Some, subst}
use Rattle.jn_rows.specs.Worker as rows
use Rattle.jn_worker.proofs.TimesOut.{timeout_matches, timeout_made}
use Rattle.jn_worker.proofs.worker.Worker.timeout.Goals as goal

pub invariant_of-self : goal.invariant_of-self
invariant_of-self c = timeout_matches c.args.tid c.self.inside.works.items _ c.in-Some.work.now _ _ c.self.invariant (subst (λ ws. rows.work_of c.args.tid ws ≡ Some c.in-Some.work.now) c.deref.ensures.value c.in-Some.ensures) c.expose.ensures c.make_vulnerable.ensures

pub returns : goal.returns
returns c = timeout_made c.args.tid _ c.self.inside.works.items _ _ c.in-Some.work.now c.self.view_is c.self.invariant.rising (subst (λ ws. rows.work_of c.args.tid ws ≡ Some c.in-Some.work.now) c.deref.ensures.value c.in-Some.ensures) c.expose.ensures
