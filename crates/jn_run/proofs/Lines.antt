-- The lines of one call, which are reported.
use Rattle.jn_run.proofs.Common.{◌≡◌, ◌∙◌, sym, ap, true≢false, true, List, Result, is_ok, Line, Reporting, Reports, Joins, ReportedLast}
use Rattle.jn_writing.specs.declared.fault.ReportFault.{ReportFault}
use Rattle.jn_run.specs.declared.running.RunFault.TheVariants as runs

limit-no-write : runs.Limit ≡ runs.Write → ⊥
limit-no-write h = cc

-- the last lines of a run that a limit cut short
pub last-whole : {O : Type 0} (r : Reporting O) (j : Joins r) (a b : O) (lines : List Line) (x : Result (Unit {0}) ReportFault) → is_ok x ≡ true → Reports r a lines x b → ReportedLast r lines a runs.Limit b
last-whole r j a b lines x ok one = record { count = one.count; limit = λ is. one.whole ok; front = j.all a b lines (one.whole ok); rose = λ is. absurd (limit-no-write is); no_fault = λ well. one.no_fault (λ write. true≢false (sym ok ∙ ap is_ok write)) }
