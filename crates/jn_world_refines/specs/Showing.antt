-- What the code reports of what a server shows.
use Rattle.std.specs.Prelude.{List, [], map, Option, Some, None}
use Rattle.jn_base.specs.declared.names.ServerNo.{ServerNo}
use Rattle.jn_report.specs.declared.line.Text.{Text}
use Rattle.jn_system.specs.WholeSystem.PrintedLines.{text_printed}
use Rattle.jn_server.specs.declared.show.Shown.{Shown}
use Rattle.jn_server.specs.Showing.{print_of}

abbrev pub text_shown : ServerNo → Shown → Text
text_shown q shown = text_printed q (print_of shown)

-- nothing of a server that was stopped
abbrev pub texts_shown : ServerNo → Option (List Shown) → List Text
texts_shown q None = []
texts_shown q (Some list) = map (text_shown q) list
