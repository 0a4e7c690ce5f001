-- Weights: what a message may still lead to. A message that is handed over weighs more than all that it leads to.
use Rattle.std.specs.Prelude.{ℕ}
use Rattle.jn_msgs.specs.declared.message.Message.{Message}
use Rattle.jn_msgs.specs.declared.message.Message.TheVariants.{Begin, Open, Op, End, Abort, Outcome, Prepare, Commit, Vote, Inquire}

-- an end leads to eight prepares, a prepare to a vote, a vote to eight commits and an outcome, a commit to a going work,
-- which leads to a Done; an abort and an end may lead to drops too
abbrev pub weight : Message → ℕ
weight (End c request T works) = 161
weight (Abort c request T works) = 161
weight (Prepare T c W) = 20
weight (Vote T W vote) = 19
weight (Inquire T W) = 3
weight (Begin c request) = 2
weight (Open c request T) = 2
weight (Op c request W number op) = 2
weight (Outcome c T outcome) = 2
weight (Commit T W) = 2
weight message = 1
