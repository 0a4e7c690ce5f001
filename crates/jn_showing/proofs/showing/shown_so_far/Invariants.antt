use Rattle.jn_showing.proofs.Common.{◌↔◌, ◌+◌, drop, files_of, ShowsFrom}
use Rattle.jn_showing.proofs.showing.shown_so_far.Given as goal

abbrev pub invariant-loop-i : goal.invariant-loop-i
invariant-loop-i l = ShowsFrom (files_of l.files) l.events l.lines 1 l.events ↔ ShowsFrom (files_of l.files) l.events l.lines (l.i + 1) (drop l.i l.events)
