use Rattle.jn_worker.proofs.Common.{◌+◌, subst, sym, take, arith, RestoredTo, IsFor}
use Rattle.jn_worker.proofs.Restored.{names_for, restores}
use Rattle.jn_worker.proofs.worker.Worker.restore.Goals as goal

pub add_restored-requires-clause-names : goal.add_restored-requires-clause-names
add_restored-requires-clause-names g c = subst (λ l. IsFor (g.W.Storage.view c.args.store.now) l) (sym c.deref.ensures.value) (names_for _ _ _ c.works.ensures c.in_ok-names.ensures)

pub loop-i-preserved : goal.loop-i-preserved
loop-i-preserved g c = subst (λ l. RestoredTo (g.W.Storage.view c.args.store.now) (take (c.loop-i.i + 1) l) c.add_restored.new.self) c.deref.ensures.value c.in_ok-add_restored.ensures.more

pub returns : goal.returns
returns g c = record { restores = restores _ c.in_ok-names.names.items _ c.loop-i.i _ c.requires.recovered c.works.ensures c.in_ok-names.ensures (omega arith) c.loop-i.invariant }
