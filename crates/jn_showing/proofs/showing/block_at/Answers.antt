use Rattle.jn_showing.proofs.Common.{sym, ap, ◌∙◌, option_and_then, StoredFile, stored_block, file_place, no_file_place}
use Rattle.jn_showing.proofs.showing.block_at.Goals as goal

pub returns-in-Some : goal.returns-in-Some
returns-in-Some c =
    let place = file_place c.args.server c.args.file c.args.stored.now.items c.in-Some.i c.index.result.now c.in-Some.ensures c.index.ensures in
    c.bytes_of.ensures ∙ sym (ap (option_and_then (λ (x : StoredFile). stored_block c.args.block x.blocks.items)) place.found)

pub returns-in-None : goal.returns-in-None
returns-in-None c = sym (ap (option_and_then (λ (x : StoredFile). stored_block c.args.block x.blocks.items)) (no_file_place c.args.server c.args.file c.args.stored.now.items c.in-None.ensures))
