use Rattle.jn_replay.proofs.Common.{ap, sym, or_else, zeros}
use Rattle.jn_replay.proofs.StoredLemmas.{block_place, no_block_place}
use Rattle.jn_replay.proofs.perform.block_of.Goals as goal

pub returns-in-Some : goal.returns-in-Some
returns-in-Some c =
    let place = block_place c.args.block c.args.blocks.now.items c.in-Some.i c.index.result.now c.in-Some.ensures c.index.ensures in
    sym (ap (λ o. or_else o zeros) place.found)

pub returns-in-None : goal.returns-in-None
unfolding zeros
returns-in-None c = sym (ap (λ o. or_else o zeros) (no_block_place c.args.block c.args.blocks.now.items c.in-None.ensures))
