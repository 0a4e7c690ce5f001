use Rattle.std.proofs.Common.{◌++◌, List, ℕ, length, map}
use Rattle.jn_journal.specs.declared.reading.Ending.{Ending}
use Rattle.jn_journal.proofs.Journals.{InSteps}
use Rattle.jn_journal.proofs.reading.read.Given as goal

-- what is read from here on is read behind what was
abbrev pub invariant-loop-content : goal.invariant-loop-content
invariant-loop-content l = (more : List (List ℕ)) (e : Ending) → InSteps l.chain l.left more e → InSteps l.fn.chain l.fn.bytes (map (λ v. v.items) l.contents.items ++ more) e

abbrev pub decreases-loop-content : goal.decreases-loop-content
decreases-loop-content l = length l.left
