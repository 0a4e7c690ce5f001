-- The bytes of a frame.
use Rattle.std.specs.Prelude.{◌≡◌, ◌≤◌, ◌<◌, ◌^◌, ⊤, ℕ, List, [], ◌∷◌, ◌++◌, length, Option, Some, None}
use Rattle.std.specs.List.{AllByRecursion}
use Rattle.byteorder.specs.Endian.{big_bytes}
use Rattle.jn_base.specs.Limits.{most_blocks}
use Rattle.jn_base.specs.Names.{refusal_number}
use Rattle.jn_base.specs.declared.names.ServerNo.{ServerNo}
use Rattle.jn_base.specs.declared.names.ClientNo.{ClientNo}
use Rattle.jn_base.specs.declared.names.Tid.{Tid}
use Rattle.jn_base.specs.declared.names.WorkId.{WorkId}
use Rattle.jn_base.specs.declared.names.Cause.{Cause}
use Rattle.jn_base.specs.declared.names.Cause.TheVariants as causes
use Rattle.jn_base.specs.declared.names.LockUnit.{LockUnit}
use Rattle.jn_base.specs.declared.names.LockUnit.TheVariants as units
use Rattle.jn_base.specs.declared.names.Party.{Party}
use Rattle.jn_base.specs.declared.names.Party.TheVariants.{Client, Server}
use Rattle.jn_base.specs.declared.op.Op.{Op}
use Rattle.jn_base.specs.declared.op.Op.TheVariants as ops
use Rattle.jn_base.specs.declared.op.Answer.{Answer}
use Rattle.jn_base.specs.declared.op.Answer.TheVariants as answers
use Rattle.jn_fields.specs.Names.{tid_bytes, work_bytes, unit_bytes}
use Rattle.jn_msgs.specs.declared.message.Message.{Message}
use Rattle.jn_msgs.specs.declared.message.Message.TheVariants as messages
use Rattle.jn_msgs.specs.declared.message.Outcome.{Outcome}
use Rattle.jn_msgs.specs.declared.message.Outcome.TheVariants as outcomes
use Rattle.jn_msgs.specs.declared.message.Vote.{Vote}
use Rattle.jn_msgs.specs.declared.message.Vote.TheVariants as votes
use Rattle.jn_wire.specs.declared.frame.Body.{Body}
use Rattle.jn_wire.specs.declared.frame.Body.TheVariants as bodies
use Rattle.jn_wire.specs.declared.frame.Framed.{Framed}

-- ---- names

abbrev pub u32 : ℕ → List ℕ
u32 n = big_bytes 4 n

abbrev pub works_bytes : List WorkId → List ℕ
works_bytes [] = []
works_bytes (w ∷ ws) = work_bytes w ++ works_bytes ws

-- a unit and the transaction that holds or broke it
abbrev pub held_bytes : LockUnit → Tid → List ℕ
held_bytes u t = unit_bytes u ++ tid_bytes t

abbrev pub party_bytes : Party → List ℕ
party_bytes (Client c) = 1 ∷ c.0 ∷ []
party_bytes (Server s) = 2 ∷ s.0 ∷ []

-- ---- what messages say

abbrev pub op_bytes : Op → List ℕ
op_bytes (ops.Create f) = 1 ∷ u32 f.0
op_bytes (ops.Remove f) = 2 ∷ u32 f.0
op_bytes (ops.Cut f n) = 3 ∷ u32 f.0 ++ big_bytes 2 n.0
op_bytes (ops.Read f p) = 4 ∷ u32 f.0 ++ big_bytes 2 p.0
op_bytes (ops.Write f p bytes) = 5 ∷ u32 f.0 ++ big_bytes 2 p.0 ++ bytes

abbrev pub answer_bytes : Answer → List ℕ
answer_bytes answers.Did = 0 ∷ []
answer_bytes (answers.Read bytes) = 1 ∷ bytes
answer_bytes answers.NoFile = 11 ∷ []
answer_bytes answers.Exists = 12 ∷ []
answer_bytes (answers.Locked u t) = 13 ∷ held_bytes u t
answer_bytes answers.TooManyReads = 14 ∷ []
answer_bytes answers.TooManyWrites = 15 ∷ []
answer_bytes (answers.Broken u t) = 16 ∷ held_bytes u t
answer_bytes (answers.Lost then now) = 17 ∷ u32 then ++ u32 now
answer_bytes answers.Closing = 18 ∷ []

abbrev pub cause_bytes : Cause → List ℕ
cause_bytes causes.Requested = 1 ∷ []
cause_bytes (causes.Broken s u t) = 2 ∷ s.0 ∷ held_bytes u t
cause_bytes (causes.Lost s) = 3 ∷ s.0 ∷ []
cause_bytes (causes.Full s resource free need) = 4 ∷ s.0 ∷ refusal_number resource ∷ u32 free ++ u32 need

abbrev pub outcome_bytes : Outcome → List ℕ
outcome_bytes outcomes.Committed = 0 ∷ []
outcome_bytes (outcomes.Aborted cause) = cause_bytes cause
outcome_bytes (outcomes.Waiting s u t) = 5 ∷ s.0 ∷ held_bytes u t
outcome_bytes (outcomes.NotKnown s epoch) = 6 ∷ s.0 ∷ u32 epoch

abbrev pub vote_bytes : Vote → List ℕ
vote_bytes votes.Ready = 0 ∷ []
vote_bytes (votes.Waiting u t) = 1 ∷ held_bytes u t
vote_bytes (votes.Broken u t) = 2 ∷ held_bytes u t
vote_bytes (votes.Lost then now) = 3 ∷ u32 then ++ u32 now
vote_bytes (votes.Full resource free need) = 4 ∷ refusal_number resource ∷ u32 free ++ u32 need

-- 0 and the name, or the refusal's number
abbrev pub tid_or : ℕ → Option Tid → List ℕ
tid_or refusal None = refusal ∷ []
tid_or refusal (Some t) = 0 ∷ tid_bytes t

abbrev pub work_or : ℕ → Option WorkId → List ℕ
work_or refusal None = refusal ∷ []
work_or refusal (Some w) = 0 ∷ work_bytes w

-- ---- a message: its kind's number, and its fields

abbrev pub message_bytes : Message → List ℕ
message_bytes (messages.Begin c r) = 1 ∷ c.0 ∷ u32 r.0
message_bytes (messages.Open c r t) = 2 ∷ c.0 ∷ u32 r.0 ++ tid_bytes t
message_bytes (messages.Op c r w n op) = 3 ∷ c.0 ∷ u32 r.0 ++ work_bytes w ++ u32 n.0 ++ op_bytes op
message_bytes (messages.End c r t ws) = 4 ∷ c.0 ∷ u32 r.0 ++ tid_bytes t ++ length ws ∷ works_bytes ws
message_bytes (messages.Abort c r t ws) = 5 ∷ c.0 ∷ u32 r.0 ++ tid_bytes t ++ length ws ∷ works_bytes ws
message_bytes (messages.Thanks c t) = 6 ∷ c.0 ∷ tid_bytes t
message_bytes (messages.Begun c r t) = 7 ∷ c.0 ∷ u32 r.0 ++ tid_or 21 t
message_bytes (messages.Opened c r t w) = 8 ∷ c.0 ∷ u32 r.0 ++ tid_bytes t ++ work_or 22 w
message_bytes (messages.Answer c r answer) = 9 ∷ c.0 ∷ u32 r.0 ++ answer_bytes answer
message_bytes (messages.Outcome c t outcome) = 10 ∷ c.0 ∷ tid_bytes t ++ outcome_bytes outcome
message_bytes (messages.Prepare t c w) = 11 ∷ tid_bytes t ++ c.0 ∷ work_bytes w
message_bytes (messages.Commit t w) = 12 ∷ tid_bytes t ++ work_bytes w
message_bytes (messages.Drop t w) = 13 ∷ tid_bytes t ++ work_bytes w
message_bytes (messages.Vote t w vote) = 14 ∷ tid_bytes t ++ work_bytes w ++ vote_bytes vote
message_bytes (messages.Done t w) = 15 ∷ tid_bytes t ++ work_bytes w
message_bytes (messages.Inquire t w) = 16 ∷ tid_bytes t ++ work_bytes w

abbrev pub carried_bytes : Body → List ℕ
carried_bytes (bodies.Message m) = message_bytes m
carried_bytes bodies.Nudge = 17 ∷ []
carried_bytes (bodies.Timeout t) = 18 ∷ tid_bytes t

-- what follows the length
abbrev pub body_bytes : Framed → List ℕ
body_bytes f = party_bytes f.from ++ (party_bytes f.to ++ carried_bytes f.body)

unfoldable pub frame_bytes : Framed → List ℕ
frame_bytes f = big_bytes 2 (length (body_bytes f)) ++ body_bytes f

-- frames one behind another
abbrev pub stream_bytes : List Framed → List ℕ
stream_bytes [] = []
stream_bytes (f ∷ fs) = frame_bytes f ++ stream_bytes fs

-- each is a byte
abbrev pub AreBytes : List ℕ → Type 0
AreBytes bytes = AllByRecursion (λ b. b < 256) bytes

-- ---- what may be sent to a server, and is read back

abbrev pub Is32 : ℕ → Type 0
Is32 n = n < 2 ^ 32

abbrev pub ClientIn : ClientNo → Type 0
ClientIn c = (1 ≤ c.0) × (c.0 ≤ 8)

abbrev pub ServerIn : ServerNo → Type 0
ServerIn s = s.0 ≤ 7

pub record TidIn (t : Tid) : Type 0 where
  pub server : ServerIn t.server
  pub epoch : Is32 t.epoch
  pub ticket : Is32 t.ticket

pub record WorkIn (w : WorkId) : Type 0 where
  pub server : ServerIn w.server
  pub epoch : Is32 w.epoch
  pub ticket : Is32 w.ticket

abbrev pub WorksIn : List WorkId → Type 0
WorksIn ws = (length ws ≤ 8) × AllByRecursion WorkIn ws

abbrev pub UnitIn : LockUnit → Type 0
UnitIn (units.File f) = Is32 f.0
UnitIn (units.Block f p) = Is32 f.0 × (p.0 < most_blocks)

abbrev pub HeldIn : LockUnit → Tid → Type 0
HeldIn u t = UnitIn u × TidIn t

abbrev pub OpIn : Op → Type 0
OpIn (ops.Create f) = Is32 f.0
OpIn (ops.Remove f) = Is32 f.0
OpIn (ops.Cut f n) = Is32 f.0 × (n.0 < most_blocks)
OpIn (ops.Read f p) = Is32 f.0 × (p.0 < most_blocks)
OpIn (ops.Write f p bytes) = Is32 f.0 × (p.0 < most_blocks) × (length bytes ≡ 448)

abbrev pub VoteIn : Vote → Type 0
VoteIn votes.Ready = ⊤
VoteIn (votes.Waiting u t) = HeldIn u t
VoteIn (votes.Broken u t) = HeldIn u t
VoteIn (votes.Lost then now) = Is32 then × Is32 now
VoteIn (votes.Full resource free need) = Is32 free × Is32 need

-- a client sends it for itself
abbrev pub IsBy : Party → ClientNo → Type 0
IsBy from c = (from ≡ Client c) × ClientIn c

abbrev pub IsOfServer : Party → Type 0
IsOfServer (Client c) = ⊥
IsOfServer (Server s) = ServerIn s

abbrev pub IsParty : Party → Type 0
IsParty (Client c) = ClientIn c
IsParty (Server s) = ServerIn s

abbrev pub MessageIn : Party → Message → Type 0
MessageIn from (messages.Begin c r) = IsBy from c × Is32 r.0
MessageIn from (messages.Open c r t) = IsBy from c × Is32 r.0 × TidIn t
MessageIn from (messages.Op c r w n op) = IsBy from c × Is32 r.0 × WorkIn w × Is32 n.0 × OpIn op
MessageIn from (messages.End c r t ws) = IsBy from c × Is32 r.0 × TidIn t × WorksIn ws
MessageIn from (messages.Abort c r t ws) = IsBy from c × Is32 r.0 × TidIn t × WorksIn ws
MessageIn from (messages.Thanks c t) = IsBy from c × TidIn t
MessageIn from (messages.Prepare t c w) = IsOfServer from × TidIn t × ClientIn c × WorkIn w
MessageIn from (messages.Commit t w) = IsOfServer from × TidIn t × WorkIn w
MessageIn from (messages.Drop t w) = IsOfServer from × TidIn t × WorkIn w
MessageIn from (messages.Vote t w vote) = IsOfServer from × TidIn t × WorkIn w × VoteIn vote
MessageIn from (messages.Done t w) = IsOfServer from × TidIn t × WorkIn w
MessageIn from (messages.Inquire t w) = IsOfServer from × TidIn t × WorkIn w
MessageIn from message = ⊥

abbrev pub BodyIn : Party → Body → Type 0
BodyIn from (bodies.Message m) = MessageIn from m
BodyIn from bodies.Nudge = IsParty from
BodyIn from (bodies.Timeout t) = IsParty from × TidIn t

-- a message that this server may take, from one who may send it
pub record IsSent (s : ServerNo) (f : Framed) : Type 0 where
  pub server : ServerIn s
  pub to : f.to ≡ Server s
  pub body : BodyIn f.from f.body
