use Rattle.std.proofs.Common.{length, arith}
use Rattle.jn_files.proofs.Finding.{entry_found_by}
use Rattle.jn_files.proofs.slot.block_in_map.Goals as goal

pub returns : goal.returns
returns c = entry_found_by (length c.args.maps.now) c.args.maps.now c.args.address c.args.j c.args.from c.saturating_sub.result c.in_ok-k.k c.row.result.now c.requires.rows c.requires.range (let ne = c.if-address-eq0.false in omega arith) c.requires.below c.row.ensures c.saturating_sub.ensures c.in_ok-k.ensures
