use Rattle.jn_place.proofs.Common.{◌≡◌, ◌++◌, drop, map, Outside, lines_at}
use Rattle.jn_report.specs.declared.line.Text.TheVariants as says
use Rattle.jn_place.proofs.telling.tell_faults.Given as goal

abbrev pub invariant-loop-fault : goal.invariant-loop-fault
invariant-loop-fault l =
    l.lines.items ++ lines_at l.when (map (λ (fault : Outside). says.Outside l.server fault) (drop l.fault-index l.faults))
    ≡ l.fn.lines.items ++ lines_at l.when (map (λ (fault : Outside). says.Outside l.server fault) l.faults)
