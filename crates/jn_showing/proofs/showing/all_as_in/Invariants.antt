use Rattle.jn_showing.proofs.Common.{◌↔◌, drop, registers, AllAsIn}
use Rattle.jn_showing.proofs.showing.all_as_in.Given as goal

abbrev pub invariant-loop-line : goal.invariant-loop-line
invariant-loop-line l = AllAsIn (registers l.stored.items) l.lines ↔ AllAsIn (registers l.stored.items) (drop l.line-index l.lines)
