-- The lines of one event, or of the end.
use Rattle.std.specs.Prelude.{List, map}
use Rattle.jn_report.specs.declared.line.Line.{Line}
use Rattle.jn_report.specs.declared.line.Text.{Text}
use Rattle.jn_report.specs.declared.line.When.{When}

abbrev pub lines_at : When → List Text → List Line
lines_at when texts = map (λ (text : Text). record { when = when; text = text }) texts
