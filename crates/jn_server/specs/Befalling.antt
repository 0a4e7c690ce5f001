-- What befalls the device below a server between two calls.
use Rattle.std.specs.Prelude.{◌≡◌}
use Rattle.jn_intent.specs.Events.{Befalls as StorageBefalls}
use Rattle.jn_server.specs.Seen.{ServerView, IsServer}

-- What is found and what is remembered stays, and a server that serves still serves.
pub record Befalls (v w : ServerView) : Type 0 where
  pub storage : StorageBefalls v.storage w.storage
  pub tables : w ≡ record v { storage = w.storage }
  pub serves : IsServer v → IsServer w
