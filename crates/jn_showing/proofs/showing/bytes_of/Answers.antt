use Rattle.jn_showing.proofs.Common.{sym, block_place, no_block_place}
use Rattle.jn_showing.proofs.showing.bytes_of.Goals as goal

pub returns-in-Some : goal.returns-in-Some
returns-in-Some c =
    let place = block_place c.args.block c.args.blocks.now.items c.in-Some.i c.index.result.now c.in-Some.ensures c.index.ensures in
    sym place.found

pub returns-in-None : goal.returns-in-None
returns-in-None c = sym (no_block_place c.args.block c.args.blocks.now.items c.in-None.ensures)
