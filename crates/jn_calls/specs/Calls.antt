-- Calls of both kinds as one: what files reply to what a client wishes of them, and which files they are then.
use Rattle.std.specs.Prelude.{⊤}
use Rattle.jn_base.specs.declared.call.Call.{Call}
use Rattle.jn_base.specs.declared.call.Call.TheVariants.{OfBytes, OfNames}
use Rattle.jn_order.specs.Files.{Files, answer_to, files_after}
use Rattle.jn_bytes.specs.Calls.{reply_to as bytes_reply, files_after_call as files_after_bytes}
use Rattle.jn_bytes.specs.Ranges.{Fits as BytesFit}
use Rattle.jn_names.specs.Calls.{Named, reply_to as names_reply, files_after_call as files_after_names}
use Rattle.jn_calls.specs.declared.reply.Reply.{Reply}
use Rattle.jn_calls.specs.declared.reply.Reply.TheVariants as replies
use Rattle.jn_calls.specs.declared.reply.Wish.{Wish}
use Rattle.jn_calls.specs.declared.reply.Wish.TheVariants as wishes

-- the reply of files to an operation, or to a call as if it were one
abbrev pub reply_to : Wish → Files → Reply
reply_to (wishes.Operation op) files = replies.Answered (answer_to op files)
reply_to (wishes.Call (OfBytes command)) files = replies.OfBytes (bytes_reply command files)
reply_to (wishes.Call (OfNames command)) files = replies.OfNames (names_reply command files)

-- the files then
abbrev pub files_by : Wish → Files → Files
files_by (wishes.Operation op) files = files_after op files
files_by (wishes.Call (OfBytes command)) files = files_after_bytes command files
files_by (wishes.Call (OfNames command)) files = files_after_names command files

-- the name of a call on names is one
abbrev pub IsNamed : Call → Type 0
IsNamed (OfBytes command) = ⊤
IsNamed (OfNames command) = Named command

-- a call that is begun: what it writes is of a block's bytes at most and ends where a file can end, and its name is one
abbrev pub Fits : Call → Type 0
Fits (OfBytes command) = BytesFit command
Fits (OfNames command) = Named command
