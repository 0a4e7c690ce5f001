use Rattle.std.proofs.Common.{◌-◌, length, drop, length-drop, arith}
use Rattle.std.proofs.lemmas.List.{take_all}
use Rattle.jn_names.proofs.place.behind.Goals as goal

pub returns : goal.returns
returns c = let l = length-drop 69 c.args.bytes.now in take_all (length c.args.bytes.now - 69) (drop 69 c.args.bytes.now) (omega (arith, l))
