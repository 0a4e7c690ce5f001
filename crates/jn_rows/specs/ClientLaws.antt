-- What holds of a client's table from the first one on: its works stand at different servers.
use Rattle.std.specs.Prelude.{◌≡◌, ℕ, Bool, true, not, nat_lt, ◌&&◌, List, [], ◌∷◌, Option, Some, None}
use Rattle.jn_base.specs.declared.names.ServerNo.{ServerNo}
use Rattle.jn_base.specs.declared.op.Command.{Command}
use Rattle.jn_base.specs.declared.op.Command.TheVariants.{Open}
use Rattle.jn_base.specs.Names.{server_eq}
use Rattle.jn_rows.specs.declared.client.OpenWork.{OpenWork}
use Rattle.jn_rows.specs.declared.client.Outstanding.{Outstanding}
use Rattle.jn_rows.specs.Client.{ClientTable, Commanded, Refuses, Sends}

abbrev pub none_at : ServerNo → List OpenWork → Bool
none_at s [] = true
none_at s (w ∷ ws) = not (server_eq w.work.server s) && none_at s ws

-- each at a server of its own, of so many
abbrev pub are_apart : ℕ → List OpenWork → Bool
are_apart n [] = true
are_apart n (w ∷ ws) = nat_lt w.work.server.0 n && (none_at w.work.server ws && are_apart n ws)

-- a command opens a server that there is and that isn't open
abbrev pub may_open : ℕ → List OpenWork → Command → Bool
may_open n ws (Open s) = nat_lt s.0 n && none_at s ws
may_open n ws c = true

abbrev pub may_wait : ℕ → List OpenWork → Option Outstanding → Bool
may_wait n ws None = true
may_wait n ws (Some o) = may_open n ws o.command

pub record IsClient (t : ClientTable) : Type 0 where
  pub works : are_apart t.servers t.works ≡ true
  pub waits : may_wait t.servers t.works t.outstanding ≡ true

-- the table after a command, or without one where it is refused
abbrev pub after_command : Commanded → ClientTable → ClientTable
after_command (Refuses refusal) t = t
after_command (Sends t' to m) t = t'
