use Rattle.jn_serving.proofs.Common.{StoreView, unframed, sink_state, counts_at, running_at}
use Rattle.jn_serving.proofs.Served.{piece-without}
use Rattle.jn_serving.proofs.stream.serve_piece.Goals as goal

pub returns-in-Err-Memory-clause-serves : goal.returns-in-Err-Memory-clause-serves
returns-in-Err-Memory-clause-serves g c =
    let look : g.row.S.Denot → StoreView = λ s. g.S.StableStore.view s in
    let n = c.args.node.now in
    let u = c.args.unframer.now in
    piece-without n.server (counts_at n) (running_at look n) (running_at look n) (sink_state g.K.Sink.taken g.K.Sink.faults c.args.sink.now) (unframed u.server u.held c.args.piece.now)
