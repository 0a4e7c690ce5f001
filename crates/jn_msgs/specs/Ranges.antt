-- Messages that any server may take, and messages that name only what stands at one of so many servers.
use Rattle.std.specs.Prelude.{⊤, ◌≤◌, ℕ, Bool, true, not, nat_lt, ◌&&◌, List, [], ◌∷◌, length, Option, Some, None}
use Rattle.jn_base.specs.declared.names.ServerNo.{ServerNo}
use Rattle.jn_base.specs.declared.names.Tid.{Tid}
use Rattle.jn_base.specs.declared.names.WorkId.{WorkId}
use Rattle.jn_msgs.specs.declared.message.Message.{Message}
use Rattle.jn_msgs.specs.declared.message.Message.TheVariants.{Open, Op, End, Abort, Thanks, Begun, Opened, Outcome, Prepare, Commit, Drop, Vote, Done, Inquire}
use Rattle.jn_base.specs.Ops.{BlockInRange}

-- ---- what a server may take

-- an operation's block is one of a file's
abbrev pub InRange : Message → Type 0
InRange (Op c request W number op) = BlockInRange op
InRange m = ⊤

-- a flag has room for 8 works
abbrev pub FewWorks : Message → Type 0
FewWorks (End c request T works) = length works ≤ 8
FewWorks m = ⊤

-- an operation's block is one of a file's, and an End names no more works than a flag has room for
pub record CanBeTaken (message : Message) : Type 0 where
  pub in_range : InRange message
  pub few : FewWorks message

-- ---- names

abbrev pub is_near : ℕ → ServerNo → Bool
is_near servers s = nat_lt s.0 servers

abbrev pub is_any_near : ℕ → Option Tid → Bool
is_any_near servers None = true
is_any_near servers (Some T) = is_near servers T.server

abbrev pub is_any_work_near : ℕ → Option WorkId → Bool
is_any_work_near servers None = true
is_any_work_near servers (Some W) = is_near servers W.server

abbrev pub are_both_near : ℕ → Tid → WorkId → Bool
are_both_near servers T W = is_near servers T.server && is_near servers W.server

-- each at one of so many servers
abbrev pub are_near : ℕ → List WorkId → Bool
are_near servers [] = true
are_near servers (W ∷ works) = is_near servers W.server && are_near servers works

-- no more works than there are servers, at these
abbrev pub is_few : ℕ → List WorkId → Bool
is_few servers works = not (nat_lt servers (length works)) && are_near servers works

-- ---- messages

-- an End and an Abort name no more works than there are servers, at these
abbrev pub is_small : ℕ → Message → Bool
is_small servers (End c request T works) = is_few servers works
is_small servers (Abort c request T works) = is_few servers works
is_small servers message = true

-- The transaction and the works of a message; an End and an Abort name no more works than there are servers. What an answer
-- or an outcome says of other transactions is for lines alone.
abbrev pub names_near : ℕ → Message → Bool
names_near servers (Open c request T) = is_near servers T.server
names_near servers (Op c request W number op) = is_near servers W.server
names_near servers (End c request T works) = is_near servers T.server && is_few servers works
names_near servers (Abort c request T works) = is_near servers T.server && is_few servers works
names_near servers (Thanks c T) = is_near servers T.server
names_near servers (Begun c request T) = is_any_near servers T
names_near servers (Opened c request T W) = is_near servers T.server && is_any_work_near servers W
names_near servers (Outcome c T outcome) = is_near servers T.server
names_near servers (Prepare T c W) = are_both_near servers T W
names_near servers (Commit T W) = are_both_near servers T W
names_near servers (Drop T W) = are_both_near servers T W
names_near servers (Vote T W vote) = are_both_near servers T W
names_near servers (Done T W) = are_both_near servers T W
names_near servers (Inquire T W) = are_both_near servers T W
names_near servers message = true
