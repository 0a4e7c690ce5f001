use Rattle.std.proofs.Common.{refl}
use Rattle.jn_replay.proofs.StoredLemmas.{file_place, no_file_place}
use Rattle.jn_replay.proofs.DoesLemmas.{cut_absent, cut_there}
use Rattle.jn_replay.proofs.perform.cut.Goals as goal

pub returns-in_default : goal.returns-in_default
returns-in_default c = cut_absent c.args.server c.args.file c.args.block c.args.stored.now.items (no_file_place c.args.server c.args.file c.args.stored.now.items c.in_default.ensures)

pub returns : goal.returns
returns c =
    let place = file_place c.args.server c.args.file c.args.stored.now.items c.in-Some.i c.index_mut.result.now c.in-Some.ensures c.index_mut.ensures.value in
    cut_there c.args.server c.args.file c.args.block c.args.stored.now.items c.in-Some.i c.index_mut.result.now _ place refl refl c.keep_below.ensures
