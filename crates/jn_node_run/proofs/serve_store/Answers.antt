use Rattle.jn_node_run.proofs.Common.{◌≡◌, Err, ap, refl, subst, sym, ◌∙◌, running_at, NodeFault, NodeEnds, Counts, counts_by, StreamsTo, start_of, Status, keeper_state, outside, sink_state, source_state}
use Rattle.jn_node_run.proofs.Ends.{gives-up, goes-down, not-up}
use Rattle.jn_node_run.proofs.Own.{look, found-of, last-epoch, names, recoverable, within}
use Rattle.jn_node_run.proofs.serve_store.Goals as goal

pub open-requires-clause-recoverable : goal.open-requires-clause-recoverable
open-requires-clause-recoverable g c = recoverable c.args.node.now (g.I.Keeper.kept c.args.keeper.now) (c.args.store, c.args.counts) c.requires.own

pub open-requires-clause-calm : goal.open-requires-clause-calm
open-requires-clause-calm g c = c.requires.own.store.store.untouched.calm

pub open-requires-clause-told : goal.open-requires-clause-told
open-requires-clause-told g c = c.requires.own.store.store.untouched.told

pub open-requires-clause-names : goal.open-requires-clause-names
open-requires-clause-names g c = names c.args.node.now (g.I.Keeper.kept c.args.keeper.now) (c.args.store, c.args.counts) c.requires.own

pub returns-in-Err : goal.returns-in-Err
returns-in-Err g c =
    let at = outside g.S.Source.left g.S.Source.faults g.K.Sink.taken g.K.Sink.faults g.I.Keeper.kept g.I.Keeper.faults c.args.source.now c.args.sink.now c.args.keeper.now in
    let kept = g.I.Keeper.kept c.args.keeper.now in
    record {
      outcome = subst (λ (s : Status). NodeEnds c.args.node.now at at s) (sym c.status_of.ensures)
          (not-up c.args.node.now at (found-of c.args.node.now kept (c.args.store, c.args.counts) c.requires.own) c.in-Err.fault
          (λ e. last-epoch c.args.node.now kept (c.args.store, c.args.counts) c.requires.own (c.open.ensures.used_up (c.in-Err.is ∙ ap (λ (f : NodeFault). Err f) e))));
    }

pub serve_stream-requires-clause-server : goal.serve_stream-requires-clause-server
serve_stream-requires-clause-server g c = c.in-Ok.ensures.fresh.0

pub serve_stream-requires-clause-fresh : goal.serve_stream-requires-clause-fresh
serve_stream-requires-clause-fresh g c = c.in-Ok.ensures.fresh.2

pub keep_server-requires-clause-its : goal.keep_server-requires-clause-its
keep_server-requires-clause-its g c = c.in-Ok-serve_stream.ensures.same.0 ∙ c.in-Ok.ensures.fresh.0

pub keep_server-requires-clause-counts : goal.keep_server-requires-clause-counts
keep_server-requires-clause-counts g c = c.in-Ok-serve_stream.ensures.same.1 ∙ c.in-Ok.ensures.fresh.1

pub keep_server-requires-clause-within : goal.keep_server-requires-clause-within
keep_server-requires-clause-within g c = within c.args.node.now (g.I.Keeper.kept c.args.keeper.now) (c.args.store, c.args.counts) c.requires.own

pub returns-in-Ok-serve_stream : goal.returns-in-Ok-serve_stream
returns-in-Ok-serve_stream g c =
    let source = source_state g.S.Source.left g.S.Source.faults c.args.source.now in
    let source' = source_state g.S.Source.left g.S.Source.faults c.serve_stream.new.source in
    let sink = sink_state g.K.Sink.taken g.K.Sink.faults c.args.sink.now in
    let sink' = sink_state g.K.Sink.taken g.K.Sink.faults c.serve_stream.new.sink in
    let keeper = keeper_state g.I.Keeper.kept g.I.Keeper.faults c.args.keeper.now in
    let keeper' = keeper_state g.I.Keeper.kept g.I.Keeper.faults c.keep_server.new.keeper in
    let first = running_at look c.in-Ok.server in
    let last = running_at look c.serve_stream.new.node in
    let streams = subst (λ (h : Counts). StreamsTo (start_of c.args.node.now.server h first source sink) c.serve_stream.result last source' sink') (ap counts_by c.in-Ok.ensures.fresh.1) c.serve_stream.ensures.streams in
    let whole = streams.whole c.in-Ok-serve_stream.is in
    record {
      outcome = goes-down c.args.node.now keeper keeper' (found-of c.args.node.now (g.I.Keeper.kept c.args.keeper.now) (c.args.store, c.args.counts) c.requires.own) first c.in-Ok.ensures.open source source' sink sink' last
          whole.0 whole.1 whole.2 c.keep_server.result c.keep_server.ensures.kept;
    }

pub returns-in-Err-serve_stream : goal.returns-in-Err-serve_stream
returns-in-Err-serve_stream g c =
    let source = source_state g.S.Source.left g.S.Source.faults c.args.source.now in
    let source' = source_state g.S.Source.left g.S.Source.faults c.serve_stream.new.source in
    let sink = sink_state g.K.Sink.taken g.K.Sink.faults c.args.sink.now in
    let sink' = sink_state g.K.Sink.taken g.K.Sink.faults c.serve_stream.new.sink in
    let keeper = keeper_state g.I.Keeper.kept g.I.Keeper.faults c.args.keeper.now in
    let first = running_at look c.in-Ok.server in
    let last = running_at look c.serve_stream.new.node in
    let streams = subst (λ (h : Counts). StreamsTo (start_of c.args.node.now.server h first source sink) c.serve_stream.result last source' sink') (ap counts_by c.in-Ok.ensures.fresh.1) c.serve_stream.ensures.streams in
    record {
      outcome = subst (λ (s : Status). NodeEnds c.args.node.now (record { source = source; sink = sink; keeper = keeper }) (record { source = source'; sink = sink'; keeper = keeper }) s) (sym c.give_up.ensures)
          (gives-up c.args.node.now keeper keeper (found-of c.args.node.now (g.I.Keeper.kept c.args.keeper.now) (c.args.store, c.args.counts) c.requires.own) first c.in-Ok.ensures.open source source' sink sink' last
          c.in-Err-serve_stream.fault c.serve_stream.result c.in-Err-serve_stream.is streams refl);
    }
