use Rattle.std.proofs.Common.{refl}
use Rattle.jn_replay.proofs.StoredLemmas.{file_place, no_file_place}
use Rattle.jn_replay.proofs.DoesLemmas.{write_absent, write_there, Keeps-set, on_err}
use Rattle.jn_replay.proofs.perform.write.Goals as goal

pub returns-in_default : goal.returns-in_default
returns-in_default c = write_absent c.args.server c.args.file c.args.block c.args.bytes.now c.args.stored.now.items (no_file_place c.args.server c.args.file c.args.stored.now.items c.in_default.ensures)

pub returns-in_err-put_block : goal.returns-in_err-put_block
returns-in_err-put_block c =
    let place = file_place c.args.server c.args.file c.args.stored.now.items c.in-Some.i c.index_mut.result.now c.in-Some.ensures c.index_mut.ensures.value in
    on_err _ _ c.from_residual.result c.from_residual.ensures.0 (Keeps-set c.args.server c.args.file c.args.stored.now.items c.in-Some.i c.index_mut.result.now _ place refl refl c.in_err-put_block.ensures.unchanged)

pub returns : goal.returns
returns c =
    let place = file_place c.args.server c.args.file c.args.stored.now.items c.in-Some.i c.index_mut.result.now c.in-Some.ensures c.index_mut.ensures.value in
    write_there c.args.server c.args.file c.args.block c.args.bytes.now c.args.stored.now.items c.in-Some.i c.index_mut.result.now _ place refl refl c.in_ok-put_block.ensures.stored c.in_ok-put_block.ensures.room
