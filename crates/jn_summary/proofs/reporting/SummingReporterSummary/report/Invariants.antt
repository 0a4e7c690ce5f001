use Rattle.std.proofs.Common.{take}
use Rattle.jn_summary.specs.Summing.{Adds}
use Rattle.jn_summary.proofs.reporting.SummingReporterSummary.report.Given as goal

-- the lines so far are taken
abbrev pub invariant-loop-line : goal.invariant-loop-line
invariant-loop-line l = Adds l.fn.output l.output (take l.line-index l.lines)
