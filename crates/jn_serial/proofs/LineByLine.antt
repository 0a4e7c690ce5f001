-- What a transaction did, read line by line. Where each answer follows its command, and no two clients have one transaction,
-- that is what its commands did.
use Rattle.jn_serial.proofs.Common.{Option, None, ClientNo, Tid, Answer, client_eq, tid_eq, Event, Text, Line, Performed, event_at}
use Rattle.jn_base.specs.declared.op.Command.TheVariants.{Do}
use Rattle.jn_schedule.specs.declared.Event.TheVariants.{Command}
use Rattle.std.specs.Prelude.{Bool, false, ◌&&◌, if◌then◌else◌, List, [], ◌∷◌, ◌++◌, Some}
use Rattle.jn_base.specs.declared.op.Answer.TheVariants as answers
use Rattle.jn_report.specs.declared.line.Refusal.TheVariants as refusals
use Rattle.jn_report.specs.declared.line.Text.TheVariants as says

-- an operation that a client was told to do in an event, with the answer
abbrev pub performed_in : ClientNo → Answer → Option Event → List Performed
performed_in c a (Some (Command d (Do s op))) = if client_eq c d then (record { server = s; op = op; answer = a }) ∷ [] else []
performed_in c a _ = []

-- the operation of client c that a line answers from the files
abbrev pub answered : List Event → ClientNo → Text → List Performed
answered events c (says.Did d j) = if client_eq c d then performed_in c answers.Did (event_at events j) else []
answered events c (says.Read d j bytes) = if client_eq c d then performed_in c (answers.Read bytes) (event_at events j) else []
answered events c (says.Refused d j refusals.NoFile) = if client_eq c d then performed_in c answers.NoFile (event_at events j) else []
answered events c (says.Refused d j refusals.Exists) = if client_eq c d then performed_in c answers.Exists (event_at events j) else []
answered events c _ = []

abbrev pub answered_by : List Event → Option ClientNo → Text → List Performed
answered_by events None text = []
answered_by events (Some c) text = answered events c text

abbrev pub is_its_client : Option ClientNo → ClientNo → Bool
is_its_client None d = false
is_its_client (Some c) d = client_eq c d

-- the client was told that it began T
abbrev pub begins_for : ClientNo → Tid → Text → Bool
begins_for c t (says.Begun d j u) = client_eq c d && tid_eq t u
begins_for c t _ = false

-- whose transaction T is after a line, if it is anyone's: a client has it from its `begun` line to the client's next one
abbrev pub owner_after : Tid → Option ClientNo → Text → Option ClientNo
owner_after t owner (says.Begun c j u) = if tid_eq t u then Some c else (if is_its_client owner c then None else owner)
owner_after t owner _ = owner

abbrev pub told_from : List Event → Tid → Option ClientNo → List Line → List Performed
told_from events t owner [] = []
told_from events t owner (l ∷ ls) = answered_by events owner l.text ++ told_from events t (owner_after t owner l.text) ls

-- what T did by these lines
abbrev pub operations_told : List Event → List Line → Tid → List Performed
operations_told events lines t = told_from events t None lines
