-- Files that give answers.
use Rattle.std.proofs.Common.{List, [], ◌∷◌, ◌++◌}
use Rattle.jn_order.specs.Files.{Files, files_after}
use Rattle.jn_order.specs.Answers.{Answered, FilesAnswer}

-- files that give these answers give the first ones of them
pub answers-front : (a b : List Answered) (files : Files) → FilesAnswer files (a ++ b) → FilesAnswer files a
answers-front [] b files h = tt
answers-front (x ∷ a) b files h = (h.0, answers-front a b (files_after x.op files) h.1)
