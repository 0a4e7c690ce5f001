use Rattle.jn_node_run.proofs.Common.{◌≡◌, ap, running_at, counts_by, keeper_state}
use Rattle.jn_node_run.proofs.Ends.{fails-down, is-closed, saves-own, settled-so, stays-up}
use Rattle.jn_node_run.proofs.Own.{look, device}
use Rattle.jn_node_run.proofs.keep_server.Goals as goal

pub returns-then-unsettled : goal.returns-then-unsettled
returns-then-unsettled g c = record {
  kept = stays-up c.args.node.now (counts_by c.args.counts) (counts_by c.args.server.counts) (ap counts_by c.requires.counts) (running_at look c.args.server) (keeper_state g.I.Keeper.kept g.I.Keeper.faults c.args.keeper.now)
      c.unsettled.result c.unsettled.ensures.settled c.if-unsettled.true;
}

pub close-requires-clause-settled : goal.close-requires-clause-settled
close-requires-clause-settled g c = settled-so c.args.node.now (counts_by c.args.counts) (counts_by c.args.server.counts) (ap counts_by c.requires.counts) (running_at look c.args.server) (keeper_state g.I.Keeper.kept g.I.Keeper.faults c.args.keeper.now)
    c.unsettled.result c.unsettled.ensures.settled c.if-unsettled.false

pub save_store-requires-clause-closed : goal.save_store-requires-clause-closed
save_store-requires-clause-closed g c =
    is-closed c.args.node.now (counts_by c.args.counts) (counts_by c.args.server.counts) (ap counts_by c.requires.counts) (running_at look c.args.server) (keeper_state g.I.Keeper.kept g.I.Keeper.faults c.args.keeper.now)
    c.args.server.server c.requires.its (device c.in-Ok.store) c.in-Ok.ensures.closed c.requires.within

pub returns-in-Ok : goal.returns-in-Ok
returns-in-Ok g c = record {
  kept = saves-own c.args.node.now (counts_by c.args.counts) (counts_by c.args.server.counts) (ap counts_by c.requires.counts) (running_at look c.args.server) (keeper_state g.I.Keeper.kept g.I.Keeper.faults c.args.keeper.now)
      c.args.server.server c.requires.its (device c.in-Ok.store) c.in-Ok.ensures.closed (c.unsettled.ensures.settled.0 c.if-unsettled.false)
      (keeper_state g.I.Keeper.kept g.I.Keeper.faults c.save_store.new.keeper) c.save_store.result c.save_store.ensures.kept;
}

pub returns-in-Err : goal.returns-in-Err
returns-in-Err g c = record {
  kept = fails-down c.args.node.now (counts_by c.args.counts) (counts_by c.args.server.counts) (ap counts_by c.requires.counts) (running_at look c.args.server) (keeper_state g.I.Keeper.kept g.I.Keeper.faults c.args.keeper.now)
      c.close.result c.in-Err.fault c.status_of.result c.in-Err.is c.status_of.ensures (c.unsettled.ensures.settled.0 c.if-unsettled.false) c.close.ensures.used_up;
}
