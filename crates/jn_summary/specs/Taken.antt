-- Which lines a summary has taken.
use Rattle.std.specs.Prelude.{◌≡◌, List}
use Rattle.sha2.specs.Hashers.{Holds256}
use Rattle.jn_report.specs.declared.line.Line.{Line}
use Rattle.jn_report.specs.Text.{report_text}
use Rattle.jn_summary.specs.declared.summary.Summary.{Summary}
use Rattle.jn_summary.specs.Summary.{line_counts}

-- it has their counts, and its digest holds their text
pub record HasTaken (s : Summary) (ls : List Line) : Type 0 where
  pub counts : s.counts ≡ line_counts ls
  pub text : Holds256 s.hasher (report_text ls)
