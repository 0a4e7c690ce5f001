-- Concrete frames and faults.
use Rattle.std.specs.Prelude.{◌≡◌, ℕ, false, List, [], ◌∷◌, ◌++◌, Some, Result, Ok, Err}
use Rattle.jn_base.specs.declared.names.ServerNo.{ServerNo}
use Rattle.jn_base.specs.declared.names.ClientNo.{ClientNo}
use Rattle.jn_base.specs.declared.names.Party.TheVariants.{Client, Server}
use Rattle.jn_base.specs.Names.{request_of}
use Rattle.jn_msgs.specs.declared.message.Message.{Message}
use Rattle.jn_msgs.specs.declared.message.Message.TheVariants as messages
use Rattle.jn_wire.specs.declared.frame.Body.{Body}
use Rattle.jn_wire.specs.declared.frame.Body.TheVariants as bodies
use Rattle.jn_wire.specs.declared.frame.Framed.{Framed}
use Rattle.jn_wire.specs.declared.fault.WireError.{WireError}
use Rattle.jn_wire.specs.declared.fault.WireError.TheVariants as errors
use Rattle.jn_wire.specs.Spelling.{frame_bytes}
use Rattle.jn_wire.specs.Decoding.{decode}
use Rattle.jn_wire.specs.Stream.{Stream, Ends}
use Rattle.jn_wire.specs.Unframing.{unframed, nothing_held, stopped}

abbrev pub server : ℕ → ServerNo
server n = record { 0 = n }

abbrev pub client : ℕ → ClientNo
client n = record { 0 = n }

abbrev pub asks : ClientNo → Body → Framed
asks c body = record { from = Client c; to = Server (server 0); body = body }

abbrev pub answers : Message → Framed
answers m = record { from = Server (server 0); to = Client (client 1); body = bodies.Message m }

abbrev pub nudge : List ℕ
nudge = 0 ∷ 5 ∷ 1 ∷ 8 ∷ 2 ∷ 0 ∷ 17 ∷ []

-- a client asks for a transaction, and is given one
pub record ExamplesAreWritten : Type 0 where
  pub begin : frame_bytes (asks (client 1) (bodies.Message (messages.Begin (client 1) (request_of 1)))) ≡ 0 ∷ 10 ∷ 1 ∷ 1 ∷ 2 ∷ 0 ∷ 1 ∷ 1 ∷ 0 ∷ 0 ∷ 0 ∷ 1 ∷ []
  pub begun : frame_bytes (answers (messages.Begun (client 1) (request_of 1) (Some (record { server = server 0; epoch = 3; ticket = 1 }))))
      ≡ 0 ∷ 20 ∷ 2 ∷ 0 ∷ 1 ∷ 1 ∷ 7 ∷ 1 ∷ 0 ∷ 0 ∷ 0 ∷ 1 ∷ 0 ∷ 0 ∷ 0 ∷ 0 ∷ 0 ∷ 3 ∷ 0 ∷ 0 ∷ 0 ∷ 1 ∷ []
  pub nudged : frame_bytes (asks (client 8) bodies.Nudge) ≡ nudge

-- an unframer of server 0 that was fed these bytes
abbrev pub fed : List ℕ → Stream
fed bytes = record { server = server 0; held = (unframed (server 0) (nothing_held 0) bytes).held; over = false }

-- what stands behind the length, at server 0, and a stream that ends inside its second frame
pub record FaultsHaveNumbers : Type 0 where
  pub none : decode (server 0) (1 ∷ 8 ∷ 2 ∷ 0 ∷ 17 ∷ []) ≡ Ok (asks (client 8) bodies.Nudge)
  pub cut_off : (result : Result Unit WireError) (after : Stream) → Ends (fed (nudge ++ 0 ∷ 5 ∷ 1 ∷ [])) result after → result ≡ Err (errors.Fault (record { at = 7; number = 1 }))
  pub short : decode (server 0) (1 ∷ 8 ∷ 2 ∷ 0 ∷ []) ≡ Err 2
  pub long : decode (server 0) (1 ∷ 8 ∷ 2 ∷ 0 ∷ 17 ∷ 0 ∷ []) ≡ Err 2
  pub field_short : decode (server 0) (1 ∷ 1 ∷ 2 ∷ 0 ∷ 1 ∷ 1 ∷ 0 ∷ 0 ∷ 0 ∷ []) ≡ Err 2
  -- a name that is too short, though its server is out of range
  pub name_short : decode (server 0) (1 ∷ 1 ∷ 2 ∷ 0 ∷ 6 ∷ 1 ∷ 9 ∷ []) ≡ Err 2
  pub no_party : decode (server 0) (1 ∷ 9 ∷ 2 ∷ 0 ∷ 17 ∷ []) ≡ Err 3
  pub other_server : decode (server 0) (1 ∷ 8 ∷ 2 ∷ 1 ∷ 17 ∷ []) ≡ Err 3
  pub wrong_sender : decode (server 0) (2 ∷ 1 ∷ 2 ∷ 0 ∷ 1 ∷ 1 ∷ 0 ∷ 0 ∷ 0 ∷ 1 ∷ []) ≡ Err 3
  -- the kind is tested before the parties
  pub kind : decode (server 0) (1 ∷ 9 ∷ 2 ∷ 1 ∷ 7 ∷ []) ≡ Err 4
  -- a party is tested before a field, a field's range before the next field, and each field before what is left over
  pub party_first : decode (server 0) (1 ∷ 9 ∷ 2 ∷ 0 ∷ 1 ∷ []) ≡ Err 3
  pub client_first : decode (server 0) (1 ∷ 1 ∷ 2 ∷ 0 ∷ 1 ∷ 2 ∷ []) ≡ Err 5
  pub field_first : decode (server 0) (1 ∷ 1 ∷ 2 ∷ 0 ∷ 1 ∷ 2 ∷ 0 ∷ 0 ∷ 0 ∷ 1 ∷ 0 ∷ []) ≡ Err 5
  -- a read of block 2,520
  pub past_last_block : decode (server 0) (1 ∷ 1 ∷ 2 ∷ 0 ∷ 3 ∷ 1 ∷ 0 ∷ 0 ∷ 0 ∷ 3 ∷ 0 ∷ 0 ∷ 0 ∷ 0 ∷ 1 ∷ 0 ∷ 0 ∷ 0 ∷ 1 ∷ 0 ∷ 0 ∷ 0 ∷ 1 ∷ 4 ∷ 0 ∷ 0 ∷ 0 ∷ 7 ∷ 9 ∷ 216 ∷ []) ≡ Err 5
  pub other_client : decode (server 0) (1 ∷ 1 ∷ 2 ∷ 0 ∷ 1 ∷ 2 ∷ 0 ∷ 0 ∷ 0 ∷ 1 ∷ []) ≡ Err 5

-- two frames, the second of them a kind that no server takes
abbrev pub StreamStops : Type 0
StreamStops = unframed (server 0) (nothing_held 0) (nudge ++ 0 ∷ 5 ∷ 1 ∷ 8 ∷ 2 ∷ 0 ∷ 7 ∷ 0 ∷ [])
    ≡ record { held = stopped (record { at = 7; number = 4 }); frames = asks (client 8) bodies.Nudge ∷ [] }
