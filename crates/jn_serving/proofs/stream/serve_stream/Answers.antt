use Rattle.jn_serving.proofs.Common.{◌∙◌, ◌+◌, [], ◌++◌, length, arith, refl, ap, subst, sym, Result, Ok, counts_by, StoreView, Stream, sink_state, source_state, IsSameNode, counts_at, running_at, same-then, StreamFault, StreamsTo, start_of}
use Rattle.jn_serving.proofs.Reading.{HasRead, all-came, ends, keeps-none, nothing-read, reads-on, same-start, stops, too-long}
use Rattle.jn_serving.proofs.Served.{exit-as, on-any}
use Rattle.jn_serving.proofs.stream.serve_stream.Goals as goal

pub loop-count-init : goal.loop-count-init
loop-count-init g c =
    let look : g.row.S.Denot → StoreView = λ s. g.S.StableStore.view s in
    let n = c.args.node.now in
    let a = start_of c.args.server (counts_at n) (running_at look n) (source_state g.R.Source.left g.R.Source.faults c.args.source.now) (sink_state g.K.Sink.taken g.K.Sink.faults c.args.sink.now) in
    let made = c.new-unframer.ensures in
    let fresh = c.requires.fresh in
    record {
      room = refl;
      most = omega arith;
      node = c.requires.node;
      same = (refl, refl);
      next = omega (arith, fresh);
      place = ap (λ (u : Stream). u.held.at + length u.held.bytes) made;
      read = ([], subst (λ (u : Stream). HasRead a [] 0 u a.running a.source a.sink) (sym made) (nothing-read a));
    }

pub read_piece-requires-clause-node : goal.read_piece-requires-clause-node
read_piece-requires-clause-node g c = c.loop-count.invariant.node

pub read_piece-requires-clause-no_error : goal.read_piece-requires-clause-no_error
read_piece-requires-clause-no_error g c = keeps-none _ c.loop-count.invariant.read.0 c.loop-count.count c.loop-count.unframer _ _ _ c.loop-count.invariant.read.1

pub read_piece-requires-clause-place : goal.read_piece-requires-clause-place
read_piece-requires-clause-place g c = omega (arith, c.loop-count.invariant.place, c.loop-count-test.true)

pub read_piece-requires-clause-next : goal.read_piece-requires-clause-next
read_piece-requires-clause-next g c = c.loop-count.invariant.next

pub returns-in_err-given-clause-streams : goal.returns-in_err-given-clause-streams
returns-in_err-given-clause-streams g c =
    let look : g.row.S.Denot → StoreView = λ s. g.S.StableStore.view s in
    let n = c.args.node.now in
    let k = c.loop-count.node in
    let a = start_of c.args.server (counts_at n) (running_at look n) (source_state g.R.Source.left g.R.Source.faults c.args.source.now) (sink_state g.K.Sink.taken g.K.Sink.faults c.args.sink.now) in
    let inv = c.loop-count.invariant in
    let before = source_state g.R.Source.left g.R.Source.faults c.loop-count.source in
    let after = source_state g.R.Source.left g.R.Source.faults c.read_piece.new.source in
    let b = sink_state g.K.Sink.taken g.K.Sink.faults c.loop-count.sink in
    let d = sink_state g.K.Sink.taken g.K.Sink.faults c.read_piece.new.sink in
    let x = running_at look k in
    let y = running_at look c.read_piece.new.node in
    let e = c.in_err-given.field-0.0 in
    let p = same-start a k.server (counts_at k) x before b c.loop-count.unframer c.loop-count.count c.read_piece.result _ y c.read_piece.new.unframer after d
    (inv.same.0 ∙ c.requires.server) (ap counts_by inv.same.1) c.in_err-given.was c.read_piece.ensures.reads in
    exit-as (λ (r : Result (Unit {0}) StreamFault). StreamsTo a r y after d) c.from_residual.result e c.from_residual.ensures.0 c.from_residual.ensures.1
    (stops a c.loop-count.count x before after b d y (omega (arith, c.loop-count-test.true)) c.loop-count.unframer c.read_piece.new.unframer inv.read.0 inv.read.1 e p)

pub end-requires : goal.end-requires
end-requires g c =
    let look : g.row.S.Denot → StoreView = λ s. g.S.StableStore.view s in
    let n = c.args.node.now in
    let k = c.loop-count.node in
    let a = start_of c.args.server (counts_at n) (running_at look n) (source_state g.R.Source.left g.R.Source.faults c.args.source.now) (sink_state g.K.Sink.taken g.K.Sink.faults c.args.sink.now) in
    let inv = c.loop-count.invariant in
    let before = source_state g.R.Source.left g.R.Source.faults c.loop-count.source in
    let after = source_state g.R.Source.left g.R.Source.faults c.read_piece.new.source in
    let b = sink_state g.K.Sink.taken g.K.Sink.faults c.loop-count.sink in
    let d = sink_state g.K.Sink.taken g.K.Sink.faults c.read_piece.new.sink in
    let x = running_at look k in
    let y = running_at look c.read_piece.new.node in
    let u = c.loop-count.unframer in
    let v = c.read_piece.new.unframer in
    let given = c.in_ok-given.given in
    let p = same-start a k.server (counts_at k) x before b u c.loop-count.count c.read_piece.result (Ok given) y v after d
    (inv.same.0 ∙ c.requires.server) (ap counts_by inv.same.1) c.in_ok-given.was c.read_piece.ensures.reads in
    let later = reads-on a c.loop-count.count x before after b d y (omega (arith, c.loop-count-test.true)) u v inv.read.0 inv.read.1 given p in
    record { no_error = keeps-none a _ _ v y after d later.3 }

pub returns-then-given-eq0-clause-same : goal.returns-then-given-eq0-clause-same
returns-then-given-eq0-clause-same g c =
    let n = c.args.node.now in
    let m = c.read_piece.new.node in
    let same = c.in_ok-given.ensures.same in
    on-any (IsSameNode n m) c.end.result (same-then n c.loop-count.node m c.loop-count.invariant.same same)

pub returns-then-given-eq0-clause-streams : goal.returns-then-given-eq0-clause-streams
returns-then-given-eq0-clause-streams g c =
    let look : g.row.S.Denot → StoreView = λ s. g.S.StableStore.view s in
    let n = c.args.node.now in
    let k = c.loop-count.node in
    let a = start_of c.args.server (counts_at n) (running_at look n) (source_state g.R.Source.left g.R.Source.faults c.args.source.now) (sink_state g.K.Sink.taken g.K.Sink.faults c.args.sink.now) in
    let inv = c.loop-count.invariant in
    let before = source_state g.R.Source.left g.R.Source.faults c.loop-count.source in
    let after = source_state g.R.Source.left g.R.Source.faults c.read_piece.new.source in
    let b = sink_state g.K.Sink.taken g.K.Sink.faults c.loop-count.sink in
    let d = sink_state g.K.Sink.taken g.K.Sink.faults c.read_piece.new.sink in
    let x = running_at look k in
    let y = running_at look c.read_piece.new.node in
    let u = c.loop-count.unframer in
    let v = c.read_piece.new.unframer in
    let given = c.in_ok-given.given in
    let fits = c.loop-count-test.true in
    let none = c.if-given-eq0.true in
    let place = c.in_ok-given.ensures.place in
    let p = same-start a k.server (counts_at k) x before b u c.loop-count.count c.read_piece.result (Ok given) y v after d
    (inv.same.0 ∙ c.requires.server) (ap counts_by inv.same.1) c.in_ok-given.was c.read_piece.ensures.reads in
    let later = reads-on a c.loop-count.count x before after b d y (omega (arith, fits)) u v inv.read.0 inv.read.1 given p in
    ends a _ _ v y after d later.3 (all-came a c.loop-count.count x before after b d y (omega (arith, fits)) u inv.read.0 later.0 inv.read.1 later.1 (later.2 ∙ none)) (omega (arith, fits, none))
    (omega (arith, fits, none, place)) c.end.result c.end.ensures

pub loop-count-preserved : goal.loop-count-preserved
loop-count-preserved g c =
    let look : g.row.S.Denot → StoreView = λ s. g.S.StableStore.view s in
    let n = c.args.node.now in
    let k = c.loop-count.node in
    let a = start_of c.args.server (counts_at n) (running_at look n) (source_state g.R.Source.left g.R.Source.faults c.args.source.now) (sink_state g.K.Sink.taken g.K.Sink.faults c.args.sink.now) in
    let inv = c.loop-count.invariant in
    let before = source_state g.R.Source.left g.R.Source.faults c.loop-count.source in
    let after = source_state g.R.Source.left g.R.Source.faults c.read_piece.new.source in
    let b = sink_state g.K.Sink.taken g.K.Sink.faults c.loop-count.sink in
    let d = sink_state g.K.Sink.taken g.K.Sink.faults c.read_piece.new.sink in
    let x = running_at look k in
    let y = running_at look c.read_piece.new.node in
    let u = c.loop-count.unframer in
    let v = c.read_piece.new.unframer in
    let given = c.in_ok-given.given in
    let p = same-start a k.server (counts_at k) x before b u c.loop-count.count c.read_piece.result (Ok given) y v after d
    (inv.same.0 ∙ c.requires.server) (ap counts_by inv.same.1) c.in_ok-given.was c.read_piece.ensures.reads in
    let later = reads-on a c.loop-count.count x before after b d y (omega (arith, c.loop-count-test.true)) u v inv.read.0 inv.read.1 given p in
    let e = c.in_ok-given.ensures in
    let kept = c.read_piece.auto.piece in
    record {
      room = omega (arith, kept, inv.room);
      most = e.most;
      node = e.node;
      same = same-then n k c.read_piece.new.node inv.same e.same;
      next = e.next;
      place = e.place;
      read = (inv.read.0 ++ later.0, later.3);
    }

pub returns-clause-streams : goal.returns-clause-streams
returns-clause-streams g c =
    let look : g.row.S.Denot → StoreView = λ s. g.S.StableStore.view s in
    let n = c.args.node.now in
    let k = c.loop-count.node in
    let a = start_of c.args.server (counts_at n) (running_at look n) (source_state g.R.Source.left g.R.Source.faults c.args.source.now) (sink_state g.K.Sink.taken g.K.Sink.faults c.args.sink.now) in
    let inv = c.loop-count.invariant in
    too-long a inv.read.0 c.loop-count.count c.loop-count.unframer (running_at look k) (source_state g.R.Source.left g.R.Source.faults c.loop-count.source)
    (sink_state g.K.Sink.taken g.K.Sink.faults c.loop-count.sink) inv.read.1
    (omega (arith, c.loop-count-test.false)) inv.most
