use Rattle.jn_worker.proofs.Common.{arith, with_items, with_items_is}
use Rattle.jn_worker.proofs.Voted.{grant_active, ready_stores}
use Rattle.jn_worker.proofs.worker.Worker.vote_ready.Goals as goal

pub grant_storing-requires-clause-active : goal.grant_storing-requires-clause-active
grant_storing-requires-clause-active c = grant_active c.args.self.now c.self.inside.works.items c.deref.result.now c.deref_mut.result.now c.self.inside.going.items c.args.name c.in-Some.work.now c.self.view_is c.deref.ensures.value c.in-Some.ensures c.deref_mut.ensures.value c.requires.active

pub returns-clause-stores : goal.returns-clause-stores
returns-clause-stores c = λ T a i. ready_stores c.args.self.now c.self.inside.works.items c.deref.result.now c.deref_mut.result.now c.grant_storing.new.works (with_items c.self.inside.works c.grant_storing.new.works).items c.deref-2.result.now c.self.inside.going.items c.args.name c.in-Some.work.now T c.args.tid a c.in-Ok.granted c.broken.result.now c.args.out.now c.note_breaks.new.out c.send.new.self
    c.self.view_is c.deref.ensures.value c.in-Some.ensures c.deref_mut.ensures.value i c.in-Ok.ensures.granted (with_items_is c.self.inside.works c.grant_storing.new.works (omega (arith, c.deref_mut.ensures.len, c.self.inside.works.ok.0))) c.deref-2.ensures.value c.broken.ensures c.in_ok-note_breaks.ensures.messages c.in_ok-note_breaks.ensures.notes c.in_ok-send.ensures
