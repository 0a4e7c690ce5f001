use Rattle.jn_intent.proofs.Common.{ap, refl, Ok, Err, is_ok, err_from_is_err_and}
use Rattle.jn_intent.proofs.Storing.{intention_stored, block_stopped, block_page, map_page}
use Rattle.jn_intent.proofs.StoringPool.{free_slot}
use Rattle.jn_intent.proofs.prepare.store_one.Goals as goal

pub store_block-requires-clause-page : goal.store_block-requires-clause-page
store_block-requires-clause-page g c = block_page c.args.intention.now c.args.lacks c.args.table.now c.requires.pages

pub returns-in_err-address-clause-stored : goal.returns-in_err-address-clause-stored
returns-in_err-address-clause-stored g c =
    let err = err_from_is_err_and c.from_residual.result c.from_residual.ensures.1 in
    block_stopped c.args.sets.now c.args.table.now _ c.args.head.now c.args.order c.args.intention.now c.args.lacks c.in_err-address.field-0.0 c.store_block.new.table (g.S.StableStore.view c.store_block.new.store) c.from_residual.result (ap is_ok err.1)
    c.in_err-address.ensures.stored c.store_block.ensures.table

pub take_map-map-requires-clause-page : goal.take_map-map-requires-clause-page
take_map-map-requires-clause-page g c = map_page c.args.intention.now c.args.lacks c.args.table.now _ c.in_ok-address.address c.store_block.new.table (g.S.StableStore.view c.store_block.new.store) c.in_ok-address.ensures.stored c.requires.pages

pub returns-in_default-clause-stored : goal.returns-in_default-clause-stored
returns-in_default-clause-stored g c =
    let at = free_slot c.args.sets.now c.requires.room in
    intention_stored c.args.sets.now c.args.table.now _ c.args.head.now c.args.order c.args.intention.now c.args.lacks c.in_ok-address.address c.store_block.new.table (g.S.StableStore.view c.store_block.new.store) c.take_map-map.result c.take_map-map.new.table (Err _) c.insert.new.self (g.S.StableStore.view c.insert.new.store)
    c.in_ok-address.ensures.stored c.store_block.ensures.table c.take_map-map.ensures.takes c.requires.lacks c.requires.plain c.record_fits.ensures at.0 at.1 (c.in_default.ensures.puts at.0 at.1) tt

pub returns-clause-stored : goal.returns-clause-stored
returns-clause-stored g c =
    intention_stored c.args.sets.now c.args.table.now _ c.args.head.now c.args.order c.args.intention.now c.args.lacks c.in_ok-address.address c.store_block.new.table (g.S.StableStore.view c.store_block.new.store) c.take_map-map.result c.take_map-map.new.table (Ok _) c.insert.new.self (g.S.StableStore.view c.insert.new.store)
    c.in_ok-address.ensures.stored c.store_block.ensures.table c.take_map-map.ensures.takes c.requires.lacks c.requires.plain c.record_fits.ensures c.in-Ok._slot c.in-Ok.ensures.lowest (c.in-Ok.ensures.puts c.in-Ok._slot c.in-Ok.ensures.lowest) refl
