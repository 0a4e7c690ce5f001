-- Worlds without the numbers of their events and without their lines.
use Rattle.std.specs.Prelude.{[], Option, Some, None}
use Rattle.jn_rows.specs.declared.client.Outstanding.{Outstanding}
use Rattle.jn_rows.specs.Client.{ClientTable}
use Rattle.jn_system.specs.WholeSystem.World.{World}

abbrev pub numberless : Option Outstanding → Option Outstanding
numberless None = None
numberless (Some o) = Some (record o { event = 0 })

abbrev pub plain_client : ClientTable → ClientTable
plain_client t = record t { outstanding = numberless t.outstanding }

-- without the number of the event under way too, and without lines
abbrev pub plain_world : World → World
plain_world w = record { memory = w.memory; found = w.found; clients = λ c. plain_client (w.clients c); sent = w.sent; lines = []; event = 0 }
