-- Operations with their answers, and files that give such answers.
use Rattle.std.specs.Prelude.{◌≡◌, ⊤, List, [], ◌∷◌}
use Rattle.jn_base.specs.declared.op.Op.{Op}
use Rattle.jn_base.specs.declared.op.Answer.{Answer}
use Rattle.jn_order.specs.Files.{Files, answer_to, files_after}

-- an operation with its answer
pub record Answered : Type 0 where
  pub op : Op
  pub answer : Answer

abbrev pub ops_of : List Answered → List Op
ops_of [] = []
ops_of (a ∷ more) = a.op ∷ ops_of more

-- these files give these answers, one operation after another
abbrev pub FilesAnswer : Files → List Answered → Type 0
FilesAnswer files [] = ⊤
FilesAnswer files (a ∷ more) = (answer_to a.op files ≡ a.answer) × FilesAnswer (files_after a.op files) more
