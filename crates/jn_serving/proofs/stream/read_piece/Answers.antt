use Rattle.jn_serving.proofs.Common.{◌≡◌, ◌≤◌, ◌++◌, ℕ, length, take, drop, arith, refl, subst, Result, length-take-le, StoreView, unframed, sink_state, source_state, counts_at, running_at, StreamFault, ReadsPiece, fitting, ServesPiece, start_of}
use Rattle.jn_serving.proofs.Reading.{came-so, piece-fits, read-not-served, read-served}
use Rattle.jn_serving.proofs.Served.{exit-as}
use Rattle.jn_serving.proofs.stream.read_piece.Goals as goal

pub returns-in_err-serve_piece-clause-reads : goal.returns-in_err-serve_piece-clause-reads
returns-in_err-serve_piece-clause-reads g c =
    let look : g.row.S.Denot → StoreView = λ s. g.S.StableStore.view s in
    let n = c.args.node.now in
    let u = c.args.unframer.now in
    let v = c.serve_piece.new.unframer in
    let before = source_state g.R.Source.left g.R.Source.faults c.args.source.now in
    let after = source_state g.R.Source.left g.R.Source.faults c.read.new.self in
    let d = sink_state g.K.Sink.taken g.K.Sink.faults c.serve_piece.new.sink in
    let b = start_of n.server (counts_at n) (running_at look n) before (sink_state g.K.Sink.taken g.K.Sink.faults c.args.sink.now) in
    let y = running_at look c.serve_piece.new.node in
    let count = c.args.count in
    let given = c.in-Ok.given in
    let into = c.read.new.into in
    let fits = c.requires.fits in
    let least = c.min-room.ensures in
    let whole = c.requires.piece in
    let room : length (take c.min-room.result c.args.piece.now) ≡ c.min-room.result = length-take-le c.min-room.result c.args.piece.now (omega (arith, least, whole)) in
    let few = c.read.ensures.read.fits given c.in-Ok.is in
    let kept = c.read.auto.into in
    let within : given ≤ length into = omega (arith, few, kept) in
    let long : length (take given into) ≡ given = length-take-le given into within in
    let came = came-so count _ _ (take c.min-room.result c.args.piece.now) _ _ _ into c.read.ensures.read given c.in-Ok.is long (omega (arith, room, least, fits)) (omega (arith, room, least))
    (omega (arith, room, least, fits)) in
    let piece = take c.min-fits.result (into ++ drop c.min-room.result c.args.piece.now) in
    let less = c.min-fits.ensures in
    let same : piece ≡ fitting count (take given into) = piece-fits count given c.min-fits.result into (drop c.min-room.result c.args.piece.now) piece refl within (omega (arith, less)) in
    let e = c.in_err-serve_piece.field-0.0 in
    let p = subst (λ (r : Result (Unit {0}) StreamFault). ServesPiece n.server (counts_at n) (running_at look n) b.sink (unframed u.server u.held piece) r y d) c.in_err-serve_piece.was
    c.serve_piece.ensures.serves in
    exit-as (λ (r : Result ℕ StreamFault). ReadsPiece b u count r y v after d) c.from_residual.result e c.from_residual.ensures.0 c.from_residual.ensures.1
    (read-not-served b u count (take given into) piece y v after d came same e p)

pub returns-clause-reads : goal.returns-clause-reads
returns-clause-reads g c =
    let look : g.row.S.Denot → StoreView = λ s. g.S.StableStore.view s in
    let n = c.args.node.now in
    let u = c.args.unframer.now in
    let v = c.serve_piece.new.unframer in
    let before = source_state g.R.Source.left g.R.Source.faults c.args.source.now in
    let after = source_state g.R.Source.left g.R.Source.faults c.read.new.self in
    let d = sink_state g.K.Sink.taken g.K.Sink.faults c.serve_piece.new.sink in
    let b = start_of n.server (counts_at n) (running_at look n) before (sink_state g.K.Sink.taken g.K.Sink.faults c.args.sink.now) in
    let y = running_at look c.serve_piece.new.node in
    let count = c.args.count in
    let given = c.in-Ok.given in
    let into = c.read.new.into in
    let fits = c.requires.fits in
    let least = c.min-room.ensures in
    let whole = c.requires.piece in
    let room : length (take c.min-room.result c.args.piece.now) ≡ c.min-room.result = length-take-le c.min-room.result c.args.piece.now (omega (arith, least, whole)) in
    let few = c.read.ensures.read.fits given c.in-Ok.is in
    let kept = c.read.auto.into in
    let within : given ≤ length into = omega (arith, few, kept) in
    let long : length (take given into) ≡ given = length-take-le given into within in
    let came = came-so count _ _ (take c.min-room.result c.args.piece.now) _ _ _ into c.read.ensures.read given c.in-Ok.is long (omega (arith, room, least, fits)) (omega (arith, room, least))
    (omega (arith, room, least, fits)) in
    let piece = take c.min-fits.result (into ++ drop c.min-room.result c.args.piece.now) in
    let less = c.min-fits.ensures in
    let same : piece ≡ fitting count (take given into) = piece-fits count given c.min-fits.result into (drop c.min-room.result c.args.piece.now) piece refl within (omega (arith, less)) in
    let p = subst (λ (r : Result (Unit {0}) StreamFault). ServesPiece n.server (counts_at n) (running_at look n) b.sink (unframed u.server u.held piece) r y d) c.in_ok-serve_piece.was
    c.serve_piece.ensures.serves in
    read-served b u count (take given into) piece y v after d came same given long c.in_ok-serve_piece.ensures.held p
