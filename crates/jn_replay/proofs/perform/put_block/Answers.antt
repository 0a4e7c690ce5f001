use Rattle.jn_replay.proofs.StoredLemmas.{block_place, no_block_place, stored_block-set, stored_block-push}
use Rattle.jn_replay.proofs.perform.put_block.Goals as goal

pub returns-in-Some-clause-stored : goal.returns-in-Some-clause-stored
returns-in-Some-clause-stored c =
    let place = block_place c.args.block c.args.blocks.now.items c.in-Some.i c.index_mut.result.now c.in-Some.ensures c.index_mut.ensures.value in
    stored_block-set c.args.block c.args.blocks.now.items c.in-Some.i _ place.first place.within place.named

pub returns-in_ok-push-in-None-clause-stored : goal.returns-in_ok-push-in-None-clause-stored
returns-in_ok-push-in-None-clause-stored c p =
    rw c.in_ok-push-in-None.ensures.items (stored_block-push c.args.blocks.now.items _ p (no_block_place c.args.block c.args.blocks.now.items c.in-None.ensures))
