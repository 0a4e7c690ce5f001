use Rattle.jn_worker.proofs.Common.{table}
use Rattle.jn_worker.proofs.Restored.{zero_name, none_missing, rebuild_here, locks_here, restored_here}
use Rattle.jn_worker.proofs.worker.Worker.add_restored.Goals as goal

pub unreachable-requires : goal.unreachable-requires
unreachable-requires g c = absurd (none_missing _ _ _ c.args.i zero_name c.requires.names c.requires.within c.works.ensures c.in_default.ensures)

pub rebuild-requires : goal.rebuild-requires
rebuild-requires g c = rebuild_here _ c.args.names.now _ c.args.i _ _ c.self.inside.going.items (table c.self.inside.locks) _ c.in_ok-prepared.prepared _ _ c.requires.serving c.self.view_is c.requires.done c.self.invariant c.works.ensures c.in-Some.ensures
    c.in_ok-prepared.ensures.writes c.in_ok-prepared.ensures.reads c.as_slice.ensures c.as_slice-2.ensures

pub invariant_of-self-2 : goal.invariant_of-self-2
invariant_of-self-2 g c = locks_here _ c.args.names.now _ c.args.i _ c.self.inside.works.items _ _ c.self.inside.going.items (table c.self.inside.locks) _ _ c.in_ok-prepared.prepared _ _ c.requires.names c.requires.within c.self.view_is c.requires.done c.self.invariant c.works.ensures c.in-Some.ensures
    c.in_ok-prepared.ensures.writes c.in_ok-prepared.ensures.reads c.as_slice.ensures c.as_slice-2.ensures c.in_ok-rebuild.ensures.rebuilt c.in_ok-reserve.ensures.items c.push_reserved.ensures.items

pub returns : goal.returns
returns g c = record {
  more = restored_here _ c.args.names.now _ c.args.i _ c.self.inside.works.items _ _ c.self.inside.going.items _ _ _ c.in_ok-prepared.prepared c.requires.within c.self.view_is c.requires.done c.works.ensures c.in-Some.ensures
      c.in_ok-prepared.ensures.writes c.in_ok-prepared.ensures.reads c.in_ok-reserve.ensures.items c.push_reserved.ensures.items c.in_ok-reserve-2.ensures.items c.push_if.ensures;
}
