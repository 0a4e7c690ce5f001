use Rattle.jn_showing.proofs.Common.{sym, ap, ◌∙◌, blocks_accounted, file_place, no_file_place}
use Rattle.jn_showing.proofs.showing.blocks_accounted.Goals as goal

pub returns-in-Some : goal.returns-in-Some
returns-in-Some c =
    let place = file_place c.args.server c.args.file c.args.stored.now.items c.in-Some.i c.index.result.now c.in-Some.ensures c.index.ensures in
    c.all_blocks_accounted.ensures ∙ sym (ap (blocks_accounted c.args.server c.args.file c.args.lines.now) place.found)

pub returns-in-None : goal.returns-in-None
returns-in-None c = sym (ap (blocks_accounted c.args.server c.args.file c.args.lines.now) (no_file_place c.args.server c.args.file c.args.stored.now.items c.in-None.ensures))
