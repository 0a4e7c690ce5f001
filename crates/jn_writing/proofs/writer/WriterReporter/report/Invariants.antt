use Rattle.std.proofs.Common.{◌≡◌, ◌++◌, drop}
use Rattle.jn_report.specs.Text.{report_text}
use Rattle.jn_writing.proofs.writer.WriterReporter.report.Given as goal

-- the text so far, and then that of the rest
abbrev pub invariant-loop-line : goal.invariant-loop-line
invariant-loop-line g l = l.self.text.items ++ report_text (drop l.line-index l.lines) ≡ report_text l.lines
