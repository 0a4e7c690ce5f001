-- What a step sends and reports.
use Rattle.std.specs.Prelude.{List}
use Rattle.jn_base.specs.declared.names.Party.{Party}
use Rattle.jn_msgs.specs.declared.message.Message.{Message}
use Rattle.jn_msgs.specs.declared.message.Note.{Note}

-- the messages, each with who is to take it, and the notes, each in the order in which it was added
pub record Collected : Type 0 where
  pub messages : List (Party × Message)
  pub notes : List Note
