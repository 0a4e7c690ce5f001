-- What a whole frame says to a server, or the number of its first fault.
use Rattle.std.specs.Prelude.{ℕ, Bool, false, ◌&&◌, ◌||◌, not, nat_eq, nat_le, if◌then◌else◌, List, [], ◌∷◌, Option, Some, None, Result, Ok, Err}
use Rattle.jn_base.specs.Names.{server_eq}
use Rattle.jn_base.specs.declared.names.ServerNo.{ServerNo}
use Rattle.jn_base.specs.declared.names.ClientNo.{ClientNo}
use Rattle.jn_base.specs.declared.names.Party.{Party}
use Rattle.jn_base.specs.declared.names.Tid.{Tid}
use Rattle.jn_base.specs.declared.names.WorkId.{WorkId}
use Rattle.jn_base.specs.declared.names.Party.TheVariants.{Client, Server}
use Rattle.jn_base.specs.declared.op.Op.{Op}
use Rattle.jn_base.specs.declared.op.Op.TheVariants as ops
use Rattle.jn_msgs.specs.declared.message.Message.{Message}
use Rattle.jn_msgs.specs.declared.message.Message.TheVariants as messages
use Rattle.jn_msgs.specs.declared.message.Vote.{Vote}
use Rattle.jn_msgs.specs.declared.message.Vote.TheVariants as votes
use Rattle.jn_wire.specs.declared.frame.Body.{Body}
use Rattle.jn_wire.specs.declared.frame.Body.TheVariants as bodies
use Rattle.jn_wire.specs.declared.frame.Framed.{Framed}
use Rattle.jn_wire.specs.Fields.{Reading, Got, Wrong, and_then, wrong_length, wrong_party, wrong_kind, out_of_range, byte, number, content, client, sender, request, operation, tid, work, works, file, block, unit, resource}

-- ---- operations and votes

-- an operation of this code
unfoldable pub op_of : ℕ → List ℕ → Reading Op
op_of code bytes =
    if nat_eq code 1 then and_then (file bytes) (λ f rest. Got (ops.Create f) rest) else (
    if nat_eq code 2 then and_then (file bytes) (λ f rest. Got (ops.Remove f) rest) else (
    if nat_eq code 3 then and_then (file bytes) (λ f rest. and_then (block rest) (λ p rest. Got (ops.Cut f p) rest)) else (
    if nat_eq code 4 then and_then (file bytes) (λ f rest. and_then (block rest) (λ p rest. Got (ops.Read f p) rest)) else (
    if nat_eq code 5 then and_then (file bytes) (λ f rest. and_then (block rest) (λ p rest. and_then (content rest) (λ b rest. Got (ops.Write f p b) rest))) else (
    Wrong out_of_range)))))

unfoldable pub op : List ℕ → Reading Op
op bytes = and_then (byte bytes) op_of

unfoldable pub vote_of : ℕ → List ℕ → Reading Vote
vote_of code bytes =
    if nat_eq code 0 then Got votes.Ready bytes else (
    if nat_eq code 1 then and_then (unit bytes) (λ u rest. and_then (tid rest) (λ t rest. Got (votes.Waiting u t) rest)) else (
    if nat_eq code 2 then and_then (unit bytes) (λ u rest. and_then (tid rest) (λ t rest. Got (votes.Broken u t) rest)) else (
    if nat_eq code 3 then and_then (number 4 bytes) (λ n rest. and_then (number 4 rest) (λ m rest. Got (votes.Lost n m) rest)) else (
    if nat_eq code 4 then and_then (resource bytes) (λ r rest. and_then (number 4 rest) (λ n rest. and_then (number 4 rest) (λ m rest. Got (votes.Full r n m) rest))) else (
    Wrong out_of_range)))))

unfoldable pub vote : List ℕ → Reading Vote
vote bytes = and_then (byte bytes) vote_of

-- ---- messages

-- the fields of each kind of message, those of a client's from its sender on
unfoldable pub begin_by : ClientNo → List ℕ → Reading Body
begin_by c bytes = and_then (sender c bytes) (λ c rest. and_then (request rest) (λ r rest. Got (bodies.Message (messages.Begin c r)) rest))

unfoldable pub open_by : ClientNo → List ℕ → Reading Body
open_by c bytes = and_then (sender c bytes) (λ c rest. and_then (request rest) (λ r rest. and_then (tid rest) (λ t rest. Got (bodies.Message (messages.Open c r t)) rest)))

unfoldable pub op_by : ClientNo → List ℕ → Reading Body
op_by c bytes = and_then (sender c bytes) (λ c rest. and_then (request rest) (λ r rest. and_then (work rest) (λ w rest. and_then (operation rest) (λ n rest. and_then (op rest) (λ o rest. Got (bodies.Message (messages.Op c r w n o)) rest)))))

unfoldable pub end_by : ClientNo → List ℕ → Reading Body
end_by c bytes = and_then (sender c bytes) (λ c rest. and_then (request rest) (λ r rest. and_then (tid rest) (λ t rest. and_then (works rest) (λ ws rest. Got (bodies.Message (messages.End c r t ws)) rest))))

unfoldable pub abort_by : ClientNo → List ℕ → Reading Body
abort_by c bytes = and_then (sender c bytes) (λ c rest. and_then (request rest) (λ r rest. and_then (tid rest) (λ t rest. and_then (works rest) (λ ws rest. Got (bodies.Message (messages.Abort c r t ws)) rest))))

unfoldable pub thanks_by : ClientNo → List ℕ → Reading Body
thanks_by c bytes = and_then (sender c bytes) (λ c rest. and_then (tid rest) (λ t rest. Got (bodies.Message (messages.Thanks c t)) rest))

unfoldable pub prepare_in : List ℕ → Reading Body
prepare_in bytes = and_then (tid bytes) (λ t rest. and_then (client rest) (λ c rest. and_then (work rest) (λ w rest. Got (bodies.Message (messages.Prepare t c w)) rest)))

unfoldable pub vote_in : List ℕ → Reading Body
vote_in bytes = and_then (tid bytes) (λ t rest. and_then (work rest) (λ w rest. and_then (vote rest) (λ v rest. Got (bodies.Message (messages.Vote t w v)) rest)))

-- a transaction and its work
unfoldable pub names_in : (Tid → WorkId → Message) → List ℕ → Reading Body
names_in make bytes = and_then (tid bytes) (λ t rest. and_then (work rest) (λ w rest. Got (bodies.Message (make t w)) rest))

-- the fields of a message that this client sends, by its kind
unfoldable pub client_body : ClientNo → ℕ → List ℕ → Reading Body
client_body c kind bytes =
    if nat_eq kind 1 then begin_by c bytes else (
    if nat_eq kind 2 then open_by c bytes else (
    if nat_eq kind 3 then op_by c bytes else (
    if nat_eq kind 4 then end_by c bytes else (
    if nat_eq kind 5 then abort_by c bytes else (
    if nat_eq kind 6 then thanks_by c bytes else (
    Wrong wrong_kind))))))

-- the fields of a message that a server sends
unfoldable pub server_body : ℕ → List ℕ → Reading Body
server_body kind bytes =
    if nat_eq kind 11 then prepare_in bytes else (
    if nat_eq kind 12 then names_in messages.Commit bytes else (
    if nat_eq kind 13 then names_in messages.Drop bytes else (
    if nat_eq kind 14 then vote_in bytes else (
    if nat_eq kind 15 then names_in messages.Done bytes else (
    if nat_eq kind 16 then names_in messages.Inquire bytes else (
    Wrong wrong_kind))))))

-- what anyone may send
unfoldable pub any_body : ℕ → List ℕ → Reading Body
any_body kind bytes =
    if nat_eq kind 17 then Got bodies.Nudge bytes else (
    if nat_eq kind 18 then and_then (tid bytes) (λ t rest. Got (bodies.Timeout t) rest) else (
    Wrong wrong_kind))

-- ---- a frame

-- 1 to 6 are of clients, 11 to 16 of servers, 17 and 18 of anyone; a server takes no other kind
abbrev pub is_of_client : ℕ → Bool
is_of_client kind = nat_le 1 kind && nat_le kind 6

abbrev pub is_of_server : ℕ → Bool
is_of_server kind = nat_le 11 kind && nat_le kind 16

abbrev pub is_taken : ℕ → Bool
is_taken kind = is_of_client kind || nat_le 11 kind && nat_le kind 18

-- a client 1 to 8, or a server 0 to 7
abbrev pub party_of : ℕ → ℕ → Option Party
party_of kind n =
    if nat_eq kind 1 && (nat_le 1 n && nat_le n 8) then Some (Client (record { 0 = n }))
    else (if nat_eq kind 2 && nat_le n 7 then Some (Server (record { 0 = n })) else None)

abbrev pub is_server : ServerNo → Option Party → Bool
is_server s (Some (Server q)) = server_eq q s
is_server s to = false

-- the fields, by who sends them
abbrev pub body_by : Option Party → ℕ → List ℕ → Reading Body
body_by None kind bytes = Wrong wrong_party
body_by (Some (Client c)) kind bytes = if is_of_client kind then client_body c kind bytes
    else (if is_of_server kind then Wrong wrong_party else any_body kind bytes)
body_by (Some (Server s)) kind bytes = if is_of_server kind then server_body kind bytes
    else (if is_of_client kind then Wrong wrong_party else any_body kind bytes)

-- nothing is left over
abbrev pub closed : Party → Party → Reading Body → Result Framed ℕ
closed from to (Got body []) = Ok (record { from = from; to = to; body = body })
closed from to (Got body (b ∷ rest)) = Err wrong_length
closed from to (Wrong n) = Err n

abbrev pub framed_by : ServerNo → Option Party → Reading Body → Result Framed ℕ
framed_by s None body = Err wrong_party
framed_by s (Some from) body = closed from (Server s) body

-- What follows a frame's length: two parties, the kind, and the fields. The kind is tested first, then the parties.
unfoldable pub decode : ServerNo → List ℕ → Result Framed ℕ
decode s (a ∷ b ∷ c ∷ d ∷ kind ∷ fields) =
    if not (is_taken kind) then Err wrong_kind
    else (if not (is_server s (party_of c d)) then Err wrong_party
    else framed_by s (party_of a b) (body_by (party_of a b) kind fields))
decode s bytes = Err wrong_length
