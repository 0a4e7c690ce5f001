-- Operations done one after another: the files after them, and whether the files give the answers that were reported.
use Rattle.std.specs.Prelude.{◌≡◌, List, [], ◌∷◌}
use Rattle.jn_order.specs.Files.{AllFiles, answer_to, all_files_after}
use Rattle.jn_replay.specs.declared.files.Performed.{Performed}

abbrev pub files_then : List Performed → AllFiles → AllFiles
files_then [] files = files
files_then (p ∷ ps) files = files_then ps (all_files_after p.server p.op files)

-- the files give these answers, one operation after another
abbrev pub GivesAnswers : AllFiles → List Performed → Type 0
GivesAnswers files [] = Unit {0}
GivesAnswers files (p ∷ ps) = (answer_to p.op (files p.server) ≡ p.answer) × GivesAnswers (all_files_after p.server p.op files) ps
