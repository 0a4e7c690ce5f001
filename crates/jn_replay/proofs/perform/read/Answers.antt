use Rattle.std.proofs.Common.{◌∙◌}
use Rattle.jn_replay.proofs.StoredLemmas.{file_place, no_file_place}
use Rattle.jn_replay.proofs.DoesLemmas.{read_absent, read_there}
use Rattle.jn_replay.proofs.perform.read.Goals as goal

pub returns-in_default : goal.returns-in_default
returns-in_default c = read_absent c.args.server c.args.file c.args.block c.args.stored.now.items (no_file_place c.args.server c.args.file c.args.stored.now.items c.in_default.ensures)

pub returns : goal.returns
returns c =
    let place = file_place c.args.server c.args.file c.args.stored.now.items c.in-Some.i c.index.result.now c.in-Some.ensures c.index.ensures in
    read_there c.args.server c.args.file c.args.block c.args.stored.now.items c.index.result.now _ place.found (c.in_ok-content.ensures ∙ c.block_of-bytes.ensures)
