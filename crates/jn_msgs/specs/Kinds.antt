-- Which kind a message is of.
use Rattle.jn_base.specs.declared.names.MsgKind.{MsgKind}
use Rattle.jn_base.specs.declared.names.MsgKind.TheVariants as kind
use Rattle.jn_msgs.specs.declared.message.Message.{Message}
use Rattle.jn_msgs.specs.declared.message.Message.TheVariants.{Begin, Open, Op, End, Abort, Thanks, Begun, Opened, Answer, Outcome, Prepare, Commit, Drop, Vote, Done, Inquire}

abbrev pub kind_of : Message → MsgKind
kind_of (Begin client request) = kind.Begin
kind_of (Open client request tid) = kind.Open
kind_of (Op client request work number op) = kind.Op
kind_of (End client request tid works) = kind.End
kind_of (Abort client request tid works) = kind.Abort
kind_of (Thanks client tid) = kind.Thanks
kind_of (Begun client request tid) = kind.Begun
kind_of (Opened client request tid work) = kind.Opened
kind_of (Answer client request answer) = kind.Answer
kind_of (Outcome client tid outcome) = kind.Outcome
kind_of (Prepare tid client work) = kind.Prepare
kind_of (Commit tid work) = kind.Commit
kind_of (Drop tid work) = kind.Drop
kind_of (Vote tid work vote) = kind.Vote
kind_of (Done tid work) = kind.Done
kind_of (Inquire tid work) = kind.Inquire
