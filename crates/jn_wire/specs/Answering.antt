-- What a whole frame says to a client: kinds 7 to 10, which no server takes.
use Rattle.std.specs.Prelude.{◌≡◌, ⊤, ℕ, Bool, false, ◌&&◌, not, nat_eq, nat_le, if◌then◌else◌, List, ◌∷◌, length, Option, Some, None, Result, Err}
use Rattle.jn_base.specs.Names.{client_eq}
use Rattle.jn_base.specs.declared.names.ServerNo.{ServerNo}
use Rattle.jn_base.specs.declared.names.ClientNo.{ClientNo}
use Rattle.jn_base.specs.declared.names.Cause.{Cause}
use Rattle.jn_base.specs.declared.names.Cause.TheVariants as causes
use Rattle.jn_base.specs.declared.names.LockUnit.{LockUnit}
use Rattle.jn_base.specs.declared.names.Tid.{Tid}
use Rattle.jn_base.specs.declared.names.Party.{Party}
use Rattle.jn_base.specs.declared.names.Party.TheVariants.{Client, Server}
use Rattle.jn_base.specs.declared.op.Answer.{Answer}
use Rattle.jn_base.specs.declared.op.Answer.TheVariants as answers
use Rattle.jn_msgs.specs.declared.message.Message.{Message}
use Rattle.jn_msgs.specs.declared.message.Message.TheVariants as messages
use Rattle.jn_msgs.specs.declared.message.Outcome.{Outcome}
use Rattle.jn_msgs.specs.declared.message.Outcome.TheVariants as outcomes
use Rattle.jn_wire.specs.declared.frame.Body.{Body}
use Rattle.jn_wire.specs.declared.frame.Body.TheVariants as bodies
use Rattle.jn_wire.specs.declared.frame.Framed.{Framed}
use Rattle.jn_wire.specs.Fields.{Reading, Got, Wrong, and_then, wrong_length, wrong_party, wrong_kind, out_of_range, byte, number, content, sender, request, tid, work, unit, resource}
use Rattle.jn_wire.specs.Spelling.{Is32, ClientIn, ServerIn, TidIn, WorkIn, HeldIn, IsOfServer, IsSent}
use Rattle.jn_wire.specs.Decoding.{closed, decode, party_of}

-- ---- fields

-- 0 and what is named, or the number of its refusal
abbrev pub named_or : {A : Type 0} → (List ℕ → Reading A) → ℕ → ℕ → List ℕ → Reading (Option A)
named_or read refusal code bytes =
    if nat_eq code 0 then and_then (read bytes) (λ a rest. Got (Some a) rest) else (
    if nat_eq code refusal then Got None bytes else (
    Wrong out_of_range))

unfoldable pub server : List ℕ → Reading ServerNo
server bytes = and_then (byte bytes) (λ n rest. if nat_le n 7 then Got (record { 0 = n }) rest else Wrong out_of_range)

-- a unit and the transaction that holds or broke it
abbrev pub held : {A : Type 0} → (LockUnit → Tid → A) → List ℕ → Reading A
held make bytes = and_then (unit bytes) (λ u rest. and_then (tid rest) (λ t rest. Got (make u t) rest))

abbrev pub two : {A : Type 0} → (ℕ → ℕ → A) → List ℕ → Reading A
two make bytes = and_then (number 4 bytes) (λ n rest. and_then (number 4 rest) (λ m rest. Got (make n m) rest))

unfoldable pub answer_of : ℕ → List ℕ → Reading Answer
answer_of code bytes =
    if nat_eq code 0 then Got answers.Did bytes else (
    if nat_eq code 1 then and_then (content bytes) (λ b rest. Got (answers.Read b) rest) else (
    if nat_eq code 11 then Got answers.NoFile bytes else (
    if nat_eq code 12 then Got answers.Exists bytes else (
    if nat_eq code 13 then held answers.Locked bytes else (
    if nat_eq code 14 then Got answers.TooManyReads bytes else (
    if nat_eq code 15 then Got answers.TooManyWrites bytes else (
    if nat_eq code 16 then held answers.Broken bytes else (
    if nat_eq code 17 then two answers.Lost bytes else (
    if nat_eq code 18 then Got answers.Closing bytes else (
    Wrong out_of_range))))))))))

unfoldable pub answer : List ℕ → Reading Answer
answer bytes = and_then (byte bytes) answer_of

unfoldable pub outcome_of : ℕ → List ℕ → Reading Outcome
outcome_of code bytes =
    if nat_eq code 0 then Got outcomes.Committed bytes else (
    if nat_eq code 1 then Got (outcomes.Aborted causes.Requested) bytes else (
    if nat_eq code 2 then and_then (server bytes) (λ s rest. held (λ u t. outcomes.Aborted (causes.Broken s u t)) rest) else (
    if nat_eq code 3 then and_then (server bytes) (λ s rest. Got (outcomes.Aborted (causes.Lost s)) rest) else (
    if nat_eq code 4 then and_then (server bytes) (λ s rest. and_then (resource rest) (λ r rest. two (λ n m. outcomes.Aborted (causes.Full s r n m)) rest)) else (
    if nat_eq code 5 then and_then (server bytes) (λ s rest. held (outcomes.Waiting s) rest) else (
    if nat_eq code 6 then and_then (server bytes) (λ s rest. and_then (number 4 rest) (λ n rest. Got (outcomes.NotKnown s n) rest)) else (
    Wrong out_of_range)))))))

unfoldable pub outcome : List ℕ → Reading Outcome
outcome bytes = and_then (byte bytes) outcome_of

-- ---- messages

-- the fields of each kind, from the client on, which is the one that is told
unfoldable pub begun_by : ClientNo → List ℕ → Reading Body
begun_by c bytes = and_then (sender c bytes) (λ c rest. and_then (request rest) (λ r rest. and_then (byte rest) (λ code rest. and_then (named_or tid 21 code rest) (λ t rest. Got (bodies.Message (messages.Begun c r t)) rest))))

unfoldable pub opened_by : ClientNo → List ℕ → Reading Body
opened_by c bytes = and_then (sender c bytes) (λ c rest. and_then (request rest) (λ r rest. and_then (tid rest) (λ t rest. and_then (byte rest) (λ code rest. and_then (named_or work 22 code rest) (λ w rest. Got (bodies.Message (messages.Opened c r t w)) rest)))))

unfoldable pub answer_by : ClientNo → List ℕ → Reading Body
answer_by c bytes = and_then (sender c bytes) (λ c rest. and_then (request rest) (λ r rest. and_then (answer rest) (λ a rest. Got (bodies.Message (messages.Answer c r a)) rest)))

unfoldable pub outcome_by : ClientNo → List ℕ → Reading Body
outcome_by c bytes = and_then (sender c bytes) (λ c rest. and_then (tid rest) (λ t rest. and_then (outcome rest) (λ o rest. Got (bodies.Message (messages.Outcome c t o)) rest)))

unfoldable pub told_body : ClientNo → ℕ → List ℕ → Reading Body
told_body c kind bytes =
    if nat_eq kind 7 then begun_by c bytes else (
    if nat_eq kind 8 then opened_by c bytes else (
    if nat_eq kind 9 then answer_by c bytes else (
    if nat_eq kind 10 then outcome_by c bytes else (
    Wrong wrong_kind))))

-- ---- a frame

abbrev pub is_client : ClientNo → Option Party → Bool
is_client c (Some (Client d)) = client_eq d c
is_client c to = false

abbrev pub told_by : ClientNo → Option Party → Reading Body → Result Framed ℕ
told_by c (Some (Server s)) body = closed (Server s) (Client c) body
told_by c from body = Err wrong_party

-- what follows the length of a frame that this client gets
unfoldable pub decode_told : ClientNo → List ℕ → Result Framed ℕ
decode_told c (a ∷ b ∷ x ∷ y ∷ kind ∷ fields) =
    if not (nat_le 7 kind && nat_le kind 10) then Err wrong_kind
    else (if not (is_client c (party_of x y)) then Err wrong_party
    else told_by c (party_of a b) (told_body c kind fields))
decode_told c bytes = Err wrong_length

-- as its receiver reads it
abbrev pub decode_by : Party → List ℕ → Result Framed ℕ
decode_by (Server s) = decode s
decode_by (Client c) = decode_told c

-- ---- what may be sent, and is read back

abbrev pub AnswerIn : Answer → Type 0
AnswerIn (answers.Read bytes) = length bytes ≡ 448
AnswerIn (answers.Locked u t) = HeldIn u t
AnswerIn (answers.Broken u t) = HeldIn u t
AnswerIn (answers.Lost n m) = Is32 n × Is32 m
AnswerIn answer = ⊤

abbrev pub CauseIn : Cause → Type 0
CauseIn causes.Requested = ⊤
CauseIn (causes.Broken s u t) = ServerIn s × HeldIn u t
CauseIn (causes.Lost s) = ServerIn s
CauseIn (causes.Full s resource free need) = ServerIn s × Is32 free × Is32 need

abbrev pub OutcomeIn : Outcome → Type 0
OutcomeIn outcomes.Committed = ⊤
OutcomeIn (outcomes.Aborted cause) = CauseIn cause
OutcomeIn (outcomes.Waiting s u t) = ServerIn s × HeldIn u t
OutcomeIn (outcomes.NotKnown s epoch) = ServerIn s × Is32 epoch

abbrev pub IfNamed : {A : Type 0} → (A → Type 0) → Option A → Type 0
IfNamed In None = ⊤
IfNamed In (Some a) = In a

abbrev pub ToldIn : ClientNo → Message → Type 0
ToldIn c (messages.Begun d r t) = (d ≡ c) × Is32 r.0 × IfNamed TidIn t
ToldIn c (messages.Opened d r t w) = (d ≡ c) × Is32 r.0 × TidIn t × IfNamed WorkIn w
ToldIn c (messages.Answer d r answer) = (d ≡ c) × Is32 r.0 × AnswerIn answer
ToldIn c (messages.Outcome d t outcome) = (d ≡ c) × TidIn t × OutcomeIn outcome
ToldIn c message = ⊥

abbrev pub BodyToldIn : ClientNo → Body → Type 0
BodyToldIn c (bodies.Message m) = ToldIn c m
BodyToldIn c body = ⊥

-- what a server may tell this client
pub record IsTold (c : ClientNo) (f : Framed) : Type 0 where
  pub client : ClientIn c
  pub to : f.to ≡ Client c
  pub from : IsOfServer f.from
  pub body : BodyToldIn c f.body

-- what this receiver may be sent
abbrev pub IsSentTo : Party → Framed → Type 0
IsSentTo (Server s) f = IsSent s f
IsSentTo (Client c) f = IsTold c f
