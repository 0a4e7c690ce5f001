-- What a step of a client changes and sends.
use Rattle.std.specs.Prelude.{◌-◌, List, [], ◌∷◌, slice_set}
use Rattle.jn_base.specs.declared.names.ClientNo.{ClientNo}
use Rattle.jn_rows.specs.Client.{ClientTable, Commanded, Refuses, Sends}
use Rattle.jn_rows.specs.Outcomes.{Sent}
use Rattle.jn_world_refines.specs.Stands.{Standing}

-- one of the eight has this table now
abbrev pub with_client : {S : Type 0} → ClientNo → ClientTable → Standing S → Standing S
with_client c t w = record w { clients = slice_set w.clients (c.0 - 1) t }

-- with a command
abbrev pub sent_commanded : Commanded → List Sent
sent_commanded (Refuses refusal) = []
sent_commanded (Sends t to message) = (to, message) ∷ []
