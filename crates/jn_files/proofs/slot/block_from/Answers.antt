use Rattle.std.proofs.Common.{inl, inr, arith, length}
use Rattle.jn_files.proofs.Finding.{first_found, first_none, none_mapped}
use Rattle.jn_files.proofs.slot.block_from.Goals as goal

pub returns-in-Some : goal.returns-in-Some
returns-in-Some c = first_found (length c.args.maps.now) c.args.maps.now c.args.head.now c.requires.head c.args.from c.in-Some.p c.in-Some.ensures

pub loop-j-init : goal.loop-j-init
loop-j-init c = λ b e le.
    let past = first_none (length c.args.maps.now) c.args.maps.now c.args.head.now c.requires.head c.args.from c.in_default.ensures b e le in
    elim c.first_map-j.ensures [ inl none ↦ omega (arith, none, past) | inr low ↦ omega (arith, low, le) ]

pub returns-then-not-has_maps : goal.returns-then-not-has_maps
returns-then-not-has_maps c =
    none_mapped (length c.args.maps.now) c.args.maps.now c.args.head.now c.requires.head c.args.from (c.has_maps.ensures c.if-not-has_maps.true)
    (first_none (length c.args.maps.now) c.args.maps.now c.args.head.now c.requires.head c.args.from c.in_default.ensures)
