-- What a row gives: the new table, the changes of the stable state in order, what is sent and reported, and the tickets.
use Rattle.std.specs.Prelude.{List, [], ◌∷◌}
use Rattle.jn_base.specs.declared.names.Party.{Party}
use Rattle.jn_base.specs.declared.names.Tickets.{Tickets}
use Rattle.jn_msgs.specs.declared.message.Message.{Message}
use Rattle.jn_msgs.specs.declared.message.Note.{Note}
use Rattle.jn_msgs.specs.declared.message.Note.TheVariants.{Ignored}
use Rattle.jn_rows.specs.Stable.{Change}

abbrev pub Sent : Type 0
Sent = Party × Message

pub record RowOutcome (Table : Type 0) : Type 0 where
  pub table : Table
  pub changes : List Change
  pub messages : List Sent
  pub notes : List Note
  pub tickets : Tickets

-- nothing happens
abbrev pub quiet : {Table : Type 0} → Table → Tickets → RowOutcome Table
quiet table tickets = record { table = table; changes = []; messages = []; notes = []; tickets = tickets }

-- the message is stale
abbrev pub ignored : {Table : Type 0} → Table → Tickets → RowOutcome Table
ignored table tickets = record (quiet table tickets) { notes = Ignored ∷ [] }

-- these messages are sent
abbrev pub sends : {Table : Type 0} → Table → Tickets → List Sent → RowOutcome Table
sends table tickets messages = record (quiet table tickets) { messages = messages }
