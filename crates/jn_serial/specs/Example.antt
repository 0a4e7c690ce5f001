-- Short reports written by hand.
use Rattle.std.specs.Prelude.{List, [], ◌∷◌}
use Rattle.jn_base.specs.declared.names.ServerNo.{ServerNo}
use Rattle.jn_base.specs.declared.names.ClientNo.{ClientNo}
use Rattle.jn_base.specs.declared.names.FileNo.{FileNo}
use Rattle.jn_base.specs.declared.names.Tid.{Tid}
use Rattle.jn_base.specs.declared.names.Cause.TheVariants as causes
use Rattle.jn_base.specs.declared.op.Op.TheVariants as ops
use Rattle.jn_base.specs.declared.op.Answer.TheVariants as answers
use Rattle.jn_base.specs.declared.op.Command.TheVariants as commands
use Rattle.jn_replay.specs.declared.files.Performed.{Performed}
use Rattle.jn_schedule.specs.declared.Event.{Event}
use Rattle.jn_schedule.specs.declared.Event.TheVariants as events
use Rattle.jn_report.specs.declared.line.Refusal.TheVariants as refusals
use Rattle.jn_report.specs.declared.line.When.TheVariants.{Event as AtEvent}
use Rattle.jn_report.specs.declared.line.Text.TheVariants as says
use Rattle.jn_report.specs.declared.line.Line.{Line}

abbrev pub first_server : ServerNo
first_server = record { 0 = 0 }

abbrev pub second_server : ServerNo
second_server = record { 0 = 1 }

abbrev pub one_client : ClientNo
one_client = record { 0 = 1 }

abbrev pub file_7 : FileNo
file_7 = record { 0 = 7 }

abbrev pub one_transaction : Tid
one_transaction = record { server = first_server; epoch = 1; ticket = 0 }

-- a client begins, makes a file and removes it again
abbrev pub made_and_removed : List Event
made_and_removed =
    events.Command one_client (commands.Begin first_server) ∷ events.Settle
    ∷ events.Command one_client (commands.Do first_server (ops.Create file_7)) ∷ events.Settle
    ∷ events.Command one_client (commands.Do first_server (ops.Remove file_7)) ∷ events.Settle ∷ []

abbrev pub begun_line : Line
begun_line = record { when = AtEvent 2; text = says.Begun one_client 1 one_transaction }

-- its answers, of which the first stands twice
abbrev pub told_twice : List Line
told_twice =
    begun_line ∷ record { when = AtEvent 4; text = says.Did one_client 3 } ∷ record { when = AtEvent 4; text = says.Did one_client 3 }
    ∷ record { when = AtEvent 6; text = says.Did one_client 5 } ∷ []

-- its answers the other way round
abbrev pub told_backwards : List Line
told_backwards =
    begun_line ∷ record { when = AtEvent 6; text = says.Did one_client 5 } ∷ record { when = AtEvent 6; text = says.Did one_client 3 } ∷ []

abbrev pub both_operations : List Performed
both_operations =
    record { server = first_server; op = ops.Create file_7; answer = answers.Did }
    ∷ record { server = first_server; op = ops.Remove file_7; answer = answers.Did } ∷ []

-- a client begins at a server and opens it again, which it refuses itself
abbrev pub opened_again : List Event
opened_again = events.Command one_client (commands.Begin first_server) ∷ events.Settle ∷ events.Command one_client (commands.Open first_server) ∷ []

-- a client begins at one server and opens another, which goes down
abbrev pub opened_and_down : List Event
opened_and_down =
    events.Command one_client (commands.Begin first_server) ∷ events.Settle
    ∷ events.Command one_client (commands.Open second_server) ∷ events.Settle
    ∷ events.Crash second_server ∷ events.Command one_client commands.End ∷ events.Settle ∷ []

-- the lines of it, with what the client is answered to its opening
abbrev pub lost_after : Line → List Line
lost_after answer =
    begun_line ∷ answer ∷ record { when = AtEvent 5; text = says.Down second_server }
    ∷ record { when = AtEvent 7; text = says.Aborted one_client 6 one_transaction (causes.Lost second_server) } ∷ []

abbrev pub opened_line : Line
opened_line = record { when = AtEvent 4; text = says.Opened one_client 3 second_server }

abbrev pub refused_line : Line
refused_line = record { when = AtEvent 3; text = says.Refused one_client 3 refusals.AlreadyOpen }
