use Rattle.jn_worker.proofs.Exits.{handed_on}
use Rattle.jn_worker.proofs.Common.{refl, sym, ◌∙◌, ap, Err, Memory}
use Rattle.jn_worker.proofs.Exits.{nothing_done}
use Rattle.jn_worker.proofs.Voted.{waiting_sent, is_free, full_sent, full_untold, not_stored, ready_untold, ready_told, prepare_kept}
use Rattle.jn_worker.proofs.worker.Worker.prepare_active.Goals as goal

pub returns-in-Some : goal.returns-in-Some
returns-in-Some g c = record {
  takes = λ k. waiting_sent c.args.self.now c.self.inside.works.items c.deref.result.now c.self.inside.going.items (g.W.Storage.view c.args.store.now) c.args.out.now c.send.new.self k c.args.tid c.args.client c.args.name (c.in-Some.unit, c.in-Some.by) c.test_storing.result c.requires.fits c.requires.active c.self.view_is
      c.deref.ensures.value c.test_storing.ensures c.in-Some.is c.in_ok-send.ensures;
  kept = λ k e. refl;
}

pub store_work-requires-clause-free : goal.store_work-requires-clause-free
store_work-requires-clause-free g c = is_free c.args.self.now c.self.inside.works.items c.deref.result.now c.self.inside.going.items c.args.name c.test_storing.result c.self.view_is c.deref.ensures.value c.test_storing.ensures c.in_default.is

pub returns-in_err-full : goal.returns-in_err-full
returns-in_err-full g c = record {
  takes = λ k. not_stored c.args.self.now (g.W.Storage.view c.args.store.now) (g.W.Storage.view c.store_work.new.store) c.args.out.now k c.args.tid c.args.client c.args.name c.in-Err.fault c.in_err-full.field-0.0 _ c.requires.fits c.requires.active
      (is_free c.args.self.now c.self.inside.works.items c.deref.result.now c.self.inside.going.items c.args.name c.test_storing.result c.self.view_is c.deref.ensures.value c.test_storing.ensures c.in_default.is)
      c.in-Err.ensures.stored (sym c.refusal_of.ensures ∙ c.in_err-full.was) (handed_on _ c.in_err-full.field-0.0 c.from_residual-in_err-full.ensures);
  kept = λ k. prepare_kept c.args.self.now (g.W.Storage.view c.args.store.now) (g.W.Storage.view c.store_work.new.store) k c.args.tid c.args.client c.args.name _ c.requires.active
      (is_free c.args.self.now c.self.inside.works.items c.deref.result.now c.self.inside.going.items c.args.name c.test_storing.result c.self.view_is c.deref.ensures.value c.test_storing.ensures c.in_default.is) c.in-Err.ensures.stored;
}

pub returns-in_err-send-2 : goal.returns-in_err-send-2
returns-in_err-send-2 g c = record {
  takes = λ k. full_untold c.args.self.now _ _ (g.W.Storage.view c.args.store.now) (g.W.Storage.view c.store_work.new.store) c.args.out.now _ k c.args.client c.args.name c.in-Err.fault c.in_ok-full.full _ c.requires.fits c.requires.active c.in-Err.ensures.stored (sym c.refusal_of.ensures ∙ c.in_ok-full.was) (handed_on _ Memory c.from_residual-in_err-send-2.ensures);
  kept = λ k. prepare_kept c.args.self.now (g.W.Storage.view c.args.store.now) (g.W.Storage.view c.store_work.new.store) k c.args.tid c.args.client c.args.name _ c.requires.active
      (is_free c.args.self.now c.self.inside.works.items c.deref.result.now c.self.inside.going.items c.args.name c.test_storing.result c.self.view_is c.deref.ensures.value c.test_storing.ensures c.in_default.is) c.in-Err.ensures.stored;
}

pub returns-in-Err : goal.returns-in-Err
returns-in-Err g c = record {
  takes = λ k. full_sent c.args.self.now (g.W.Storage.view c.args.store.now) (g.W.Storage.view c.store_work.new.store) c.args.out.now c.send-in-Err.new.self k c.args.tid c.args.client c.args.name c.in-Err.fault c.in_ok-full.full c.requires.fits c.requires.active
      (is_free c.args.self.now c.self.inside.works.items c.deref.result.now c.self.inside.going.items c.args.name c.test_storing.result c.self.view_is c.deref.ensures.value c.test_storing.ensures c.in_default.is)
      c.in-Err.ensures.stored (sym c.refusal_of.ensures ∙ c.in_ok-full.was) c.in_ok-send-2.ensures;
  kept = λ k. prepare_kept c.args.self.now (g.W.Storage.view c.args.store.now) (g.W.Storage.view c.store_work.new.store) k c.args.tid c.args.client c.args.name _ c.requires.active
      (is_free c.args.self.now c.self.inside.works.items c.deref.result.now c.self.inside.going.items c.args.name c.test_storing.result c.self.view_is c.deref.ensures.value c.test_storing.ensures c.in_default.is) c.in-Err.ensures.stored;
}

pub returns-in_err-vote_ready : goal.returns-in_err-vote_ready
returns-in_err-vote_ready g c = record {
  takes = λ k. ready_untold c.args.self.now _ (g.W.Storage.view c.args.store.now) (g.W.Storage.view c.store_work.new.store) c.args.out.now _ k c.args.tid c.args.client c.args.name _ c.requires.active
      (is_free c.args.self.now c.self.inside.works.items c.deref.result.now c.self.inside.going.items c.args.name c.test_storing.result c.self.view_is c.deref.ensures.value c.test_storing.ensures c.in_default.is)
      c.in_default-store_work.ensures.stored (handed_on _ c.in_err-vote_ready.field-0.0 c.from_residual-in_err-vote_ready.ensures ∙ ap (λ e. Err e) c.in_err-vote_ready.ensures.memory);
  kept = λ k. prepare_kept c.args.self.now (g.W.Storage.view c.args.store.now) (g.W.Storage.view c.store_work.new.store) k c.args.tid c.args.client c.args.name _ c.requires.active
      (is_free c.args.self.now c.self.inside.works.items c.deref.result.now c.self.inside.going.items c.args.name c.test_storing.result c.self.view_is c.deref.ensures.value c.test_storing.ensures c.in_default.is) c.in_default-store_work.ensures.stored;
}

pub returns : goal.returns
returns g c = record {
  takes = λ k. ready_told c.args.self.now c.vote_ready.new.self (g.W.Storage.view c.args.store.now) (g.W.Storage.view c.store_work.new.store) c.args.out.now c.vote_ready.new.out k c.args.tid c.args.client c.args.name c.requires.fits c.requires.active
      (is_free c.args.self.now c.self.inside.works.items c.deref.result.now c.self.inside.going.items c.args.name c.test_storing.result c.self.view_is c.deref.ensures.value c.test_storing.ensures c.in_default.is)
      c.in_default-store_work.ensures.stored c.in_ok-vote_ready.ensures.stores;
  kept = λ k. prepare_kept c.args.self.now (g.W.Storage.view c.args.store.now) (g.W.Storage.view c.store_work.new.store) k c.args.tid c.args.client c.args.name _ c.requires.active
      (is_free c.args.self.now c.self.inside.works.items c.deref.result.now c.self.inside.going.items c.args.name c.test_storing.result c.self.view_is c.deref.ensures.value c.test_storing.ensures c.in_default.is) c.in_default-store_work.ensures.stored;
}

pub returns-in_err-send-clause-takes : goal.returns-in_err-send-clause-takes
returns-in_err-send-clause-takes g c = λ k. nothing_done _ _ _ _ _ _ _ _ _ (handed_on _ Memory c.from_residual.ensures) c.requires.fits.serving
