use Rattle.jn_worker.proofs.Common.{table}
use Rattle.jn_worker.proofs.Storing.{may_store}
use Rattle.jn_worker.proofs.worker.Worker.store_work.Goals as goal

pub prepare-requires-clause-may : goal.prepare-requires-clause-may
prepare-requires-clause-may g c = may_store c.args.self.now c.self.inside.works.items c.deref.result.now c.self.inside.going.items (g.W.Storage.view c.args.store.now) (table c.self.inside.locks) c.args.name c.in-Some.work.now c.in-Active.active c.list.result.now c.as_slice.result.now c.args.client c.requires.fits
    c.self.invariant c.self.inside.locks.compatible c.self.view_is c.deref.ensures.value c.in-Some.ensures c.in-Active.is c.requires.free c.list.ensures.all c.as_slice.ensures
