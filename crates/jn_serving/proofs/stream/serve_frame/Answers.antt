use Rattle.jn_serving.proofs.Common.{ap, is_ok, StoreView, sink_state}
use Rattle.jn_serving.proofs.Served.{cleared, frame-served, frame-not-written}
use Rattle.jn_serving.proofs.stream.serve_frame.Goals as goal

pub take-requires-clause-node : goal.take-requires-clause-node
take-requires-clause-node g c = cleared (λ s. g.S.StableStore.view s) c.args.node.now c.clear_answers.new.self c.clear_answers.ensures.others c.requires.node

pub returns-in-Ok-clause-serves : goal.returns-in-Ok-clause-serves
returns-in-Ok-clause-serves g c =
    let look : g.row.S.Denot → StoreView = λ s. g.S.StableStore.view s in
    frame-served look c.args.node.now c.clear_answers.new.self c.take.new.self c.args.framed.now.body
    (sink_state g.K.Sink.taken g.K.Sink.faults c.args.sink.now) (sink_state g.K.Sink.taken g.K.Sink.faults c.write_all.new.sink) c.answers.result.now
    c.clear_answers.ensures.others c.clear_answers.ensures.empty c.in_ok-take.ensures.serves c.answers.ensures (is_ok c.write_all.result) (ap is_ok c.in-Ok.is) c.write_all.ensures.wrote

pub returns-in-Err-clause-serves : goal.returns-in-Err-clause-serves
returns-in-Err-clause-serves g c =
    let look : g.row.S.Denot → StoreView = λ s. g.S.StableStore.view s in
    frame-not-written look c.args.node.now c.clear_answers.new.self c.take.new.self c.args.framed.now.body
    (sink_state g.K.Sink.taken g.K.Sink.faults c.args.sink.now) (sink_state g.K.Sink.taken g.K.Sink.faults c.write_all.new.sink) c.answers.result.now
    c.clear_answers.ensures.others c.clear_answers.ensures.empty c.in_ok-take.ensures.serves c.answers.ensures (is_ok c.write_all.result) (ap is_ok c.in-Err.is) c.write_all.ensures.wrote
