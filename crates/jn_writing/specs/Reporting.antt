-- What an output took of a report's lines.
use Rattle.std.specs.Prelude.{◌≡◌, ◌≢◌, ◌≤◌, ℕ, true, false, List, [], ◌++◌, Result, Err, is_ok}
use Rattle.jn_report.specs.declared.line.Line.{Line}
use Rattle.jn_base.specs.Counts.{Rose}
use Rattle.jn_writing.specs.declared.fault.ReportFault.{ReportFault}
use Rattle.jn_writing.specs.declared.fault.ReportFault.TheVariants as reports

-- what is said of an output, between a moment and a later one
pub record Reporting (O : Type 0) : Type 1 where
  -- it took exactly these lines, or a front of them
  pub took : O → O → List Line → Type 0
  pub front : O → O → List Line → Type 0
  -- how often it failed
  pub faults : O → ℕ

-- lines were reported
pub record Reports {O : Type 0} (r : Reporting O) (before : O) (lines : List Line) (answer : Result (Unit {0}) ReportFault) (after : O) : Type 0 where
  pub count : r.faults before ≤ r.faults after
  pub whole : is_ok answer ≡ true → r.took before after lines
  pub front : is_ok answer ≡ false → r.front before after lines
  pub rose : answer ≡ Err reports.Write → Rose (r.faults before) (r.faults after)
  pub no_fault : answer ≢ Err reports.Write → r.faults after ≡ r.faults before

-- what is taken one after another is taken in all
pub record Joins {O : Type 0} (r : Reporting O) : Type 0 where
  pub nothing : (a : O) → r.took a a []
  pub more : (a b c : O) (xs ys : List Line) → r.took a b xs → r.took b c ys → r.took a c (xs ++ ys)
  pub part : (a b c : O) (xs ys : List Line) → r.took a b xs → r.front b c ys → r.front a c (xs ++ ys)
  -- all of it is a front
  pub all : (a b : O) (xs : List Line) → r.took a b xs → r.front a b xs
