use Rattle.jn_serving.proofs.Common.{arith, refl, ap, subst, List, Result, take_all, counts_by, StoreView, Framed, Writes, sink_state, counts_at, running_at, same-then, AnswerFault, ServesAll, ServesTo}
use Rattle.jn_serving.proofs.Served.{all-served, exit-as, goes-on, nothing-served, same-one, stops-at}
use Rattle.jn_serving.proofs.stream.serve_frames.Goals as goal

pub loop-framed-init : goal.loop-framed-init
loop-framed-init g c =
    let look : g.row.S.Denot → StoreView = λ s. g.S.StableStore.view s in
    let n = c.args.node.now in
    record {
      node = c.requires.node;
      same = (refl, refl);
      next = omega arith;
      serves = nothing-served n.server (counts_at n) (running_at look n) (sink_state g.K.Sink.taken g.K.Sink.faults c.args.sink.now);
    }

pub serve_frame-requires-clause-node : goal.serve_frame-requires-clause-node
serve_frame-requires-clause-node g c = c.loop-framed.invariant.node

pub serve_frame-requires-clause-next : goal.serve_frame-requires-clause-next
serve_frame-requires-clause-next g c = omega (arith, c.loop-framed.invariant.next, c.loop-framed-test.true, c.requires.next)

pub returns-in_err-serve_frame-clause-serves : goal.returns-in_err-serve_frame-clause-serves
returns-in_err-serve_frame-clause-serves g c =
    let look : g.row.S.Denot → StoreView = λ s. g.S.StableStore.view s in
    let n = c.args.node.now in
    let k = c.loop-framed.node in
    let m = c.serve_frame.new.node in
    let same = c.loop-framed.invariant.same in
    let a = sink_state g.K.Sink.taken g.K.Sink.faults c.args.sink.now in
    let b = sink_state g.K.Sink.taken g.K.Sink.faults c.loop-framed.sink in
    let d = sink_state g.K.Sink.taken g.K.Sink.faults c.serve_frame.new.sink in
    let one = same-one n.server k.server (counts_at n) (counts_at k) (running_at look k) b c.framed-item.result.body _ _ (running_at look m) d same.0 (ap counts_by same.1)
    c.in_err-serve_frame.was c.serve_frame.ensures.serves in
    exit-as (λ (r : Result (Unit {0}) AnswerFault). ServesAll n.server (counts_at n) (running_at look n) a c.args.frames.now r (running_at look m) d) c.from_residual.result
    c.in_err-serve_frame.field-0.0 c.from_residual.ensures.0 c.from_residual.ensures.1
    (stops-at n.server (counts_at n) (running_at look n) (running_at look k) (running_at look m) a b d c.args.frames.now c.loop-framed.framed-index c.framed-item.result
    c.in_err-serve_frame.field-0.0 c.loop-framed-test.true c.framed-item.is c.loop-framed.invariant.serves one)

pub loop-framed-preserved : goal.loop-framed-preserved
loop-framed-preserved g c =
    let look : g.row.S.Denot → StoreView = λ s. g.S.StableStore.view s in
    let n = c.args.node.now in
    let k = c.loop-framed.node in
    let m = c.serve_frame.new.node in
    let same = c.loop-framed.invariant.same in
    let a = sink_state g.K.Sink.taken g.K.Sink.faults c.args.sink.now in
    let b = sink_state g.K.Sink.taken g.K.Sink.faults c.loop-framed.sink in
    let d = sink_state g.K.Sink.taken g.K.Sink.faults c.serve_frame.new.sink in
    let e = c.in_ok-serve_frame.ensures in
    let one = same-one n.server k.server (counts_at n) (counts_at k) (running_at look k) b c.framed-item.result.body _ _ (running_at look m) d same.0 (ap counts_by same.1) c.in_ok-serve_frame.was
    c.serve_frame.ensures.serves in
    record {
      node = e.node;
      same = same-then n k m same e.same;
      next = let more = e.next in omega (arith, c.loop-framed.invariant.next, more);
      serves = goes-on n.server (counts_at n) (running_at look n) (running_at look k) (running_at look m) a b d c.args.frames.now c.loop-framed.framed-index c.framed-item.result
          c.loop-framed-test.true c.framed-item.is c.loop-framed.invariant.serves one;
    }

pub returns-clause-node : goal.returns-clause-node
returns-clause-node g c = c.loop-framed.invariant.node

pub returns-clause-same : goal.returns-clause-same
returns-clause-same g c = c.loop-framed.invariant.same

pub returns-clause-next : goal.returns-clause-next
returns-clause-next g c = omega (arith, c.loop-framed.invariant.next, c.loop-framed.auto.framed-index-end)

pub returns-clause-serves : goal.returns-clause-serves
returns-clause-serves g c =
    let look : g.row.S.Denot → StoreView = λ s. g.S.StableStore.view s in
    let n = c.args.node.now in
    let k = c.loop-framed.node in
    let a = sink_state g.K.Sink.taken g.K.Sink.faults c.args.sink.now in
    let b = sink_state g.K.Sink.taken g.K.Sink.faults c.loop-framed.sink in
    all-served n.server (counts_at n) (running_at look n) (running_at look k) a b c.args.frames.now
    (subst (λ (fs : List Framed). ServesTo n.server (counts_at n) (running_at look n) a fs Writes (running_at look k) b)
    (take_all c.loop-framed.framed-index c.args.frames.now (omega (arith, c.loop-framed-test.false))) c.loop-framed.invariant.serves)
