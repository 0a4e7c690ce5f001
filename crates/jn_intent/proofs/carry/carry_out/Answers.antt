use Rattle.jn_intent.proofs.Common.{◌-◌, is_ok}
use Rattle.jn_intent.proofs.HeadPuts.{carries_fresh, carries_gone, carries_cut, carries_put, put_names}
use Rattle.jn_intent.proofs.carry.carry_out.Goals as goal

pub set_address-requires-clause-leaf : goal.set_address-requires-clause-leaf
set_address-requires-clause-leaf g c = c.requires.leaf (c.args.intention.now.address - 1) (put_names c.args.table.now (g.S.StableStore.view c.args.store.now) c.args.intention.now c.requires c.in-Put.is)

pub set_address-requires-clause-map : goal.set_address-requires-clause-map
set_address-requires-clause-map g c = c.requires.map (c.args.intention.now.address - 1) (put_names c.args.table.now (g.S.StableStore.view c.args.store.now) c.args.intention.now c.requires c.in-Put.is)

pub returns-in-Fresh : goal.returns-in-Fresh
returns-in-Fresh g c = carries_fresh c.args.table.now _ c.args.intention.now c.requires (is_ok c.make_fresh.result) c.make_fresh.new.table _ c.in-Fresh.is c.make_fresh.ensures

pub returns-in-Gone : goal.returns-in-Gone
returns-in-Gone g c = carries_gone c.args.table.now _ c.args.intention.now c.requires (is_ok c.set_gone.result) c.set_gone.new.self _ c.in-Gone.is c.set_gone.ensures.there c.set_gone.ensures.absent

pub returns-in-Cut : goal.returns-in-Cut
returns-in-Cut g c = carries_cut c.args.table.now _ c.args.intention.now c.requires (is_ok c.set_cut.result) c.set_cut.new.self _ c.in-Cut.is c.set_cut.ensures

pub returns-in-Put : goal.returns-in-Put
returns-in-Put g c = carries_put c.args.table.now _ c.args.intention.now c.requires (is_ok c.set_address.result) c.set_address.new.self _ c.in-Put.is (c.args.intention.now.address - 1) (put_names c.args.table.now (g.S.StableStore.view c.args.store.now) c.args.intention.now c.requires c.in-Put.is) c.set_address.ensures
