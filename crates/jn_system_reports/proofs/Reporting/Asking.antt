-- What clients ask of works, and what such an operation can be answered.
use Rattle.jn_system_reports.proofs.Common.{◌≡◌, ◌⊎◌, inl, inr, ◌≤◌, ℕ, Bool, true, List, [], ◌++◌, Option, Some, None, refl, not, length, ClientNo, WorkId, Party, Op, Answer, Work, Phase, Active, Sent, answer_line, answers_command, can_have, is_read, OperationNo, RequestNo, ServerNo, Do}
use Rattle.jn_base.specs.declared.op.Answer.TheVariants as answers
use Rattle.jn_msgs.specs.declared.message.Message.TheVariants as messages
use Rattle.jn_report.specs.declared.line.Refusal.TheVariants as refusals
use Rattle.jn_system_reports.proofs.Reporting.Lists.{In, in-first}

-- an operation of a work, with its number and the request that asks for it
pub record Asking : Type 0 where
  pub client : ClientNo
  pub request : RequestNo
  pub work : WorkId
  pub number : OperationNo
  pub op : Op

pub record IsAsked (sent : List Sent) (a : Asking) : Type 0 where
  pub to : Party
  pub is : In (to, messages.Op a.client a.request a.work a.number a.op) sent

-- the answers that an operation can have
abbrev pub can_answer : Op → Answer → Bool
can_answer op answers.Did = not (is_read op)
can_answer op (answers.Read bytes) = is_read op
can_answer op answers.NoFile = can_have refusals.NoFile op
can_answer op answers.Exists = can_have refusals.Exists op
can_answer op answers.TooManyWrites = can_have refusals.TooManyWrites op
can_answer op _ = true

pub fits-op : (s : ServerNo) (op : Op) (c : ClientNo) (j : ℕ) (answer : Answer) → can_answer op answer ≡ true → answers_command (Do s op) (answer_line c j answer) ≡ true
fits-op s op c j answers.Did h = h
fits-op s op c j (answers.Read bytes) h = h
fits-op s op c j answers.NoFile h = h
fits-op s op c j answers.Exists h = h
fits-op s op c j (answers.Locked u T) h = refl
fits-op s op c j answers.TooManyReads h = refl
fits-op s op c j answers.TooManyWrites h = h
fits-op s op c j (answers.Broken u T) h = refl
fits-op s op c j (answers.Lost m n) h = refl
fits-op s op c j answers.Closing h = refl

-- this operation was asked for, and can be answered so
pub record Answers (sent : List Sent) (answer : Answer) : Type 0 where
  pub of : Asking
  pub asked : IsAsked sent of
  pub fits : can_answer of.op answer ≡ true

-- the answer is to this request of the client
pub record IsAnswered (sent : List Sent) (c : ClientNo) (q : RequestNo) (answer : Answer) : Type 0 where
  pub by : Answers sent answer
  pub client : by.of.client ≡ c
  pub request : by.of.request ≡ q

-- what a server sends: no operation, and answers to those that were asked for
abbrev pub IsReply : List Sent → Sent → Type 0
IsReply sent (to, messages.Op c q W n op) = ⊥
IsReply sent (to, messages.Answer c q answer) = IsAnswered sent c q answer
IsReply sent message = Unit {0}

-- what a worker sends
abbrev pub IsWorkers : List Sent → Sent → Type 0
IsWorkers sent (to, messages.Answer c q answer) = IsAnswered sent c q answer
IsWorkers sent (to, messages.Opened c q T W) = Unit {0}
IsWorkers sent (to, messages.Vote T W vote) = Unit {0}
IsWorkers sent (to, messages.Done T W) = Unit {0}
IsWorkers sent (to, messages.Inquire T W) = Unit {0}
IsWorkers sent message = ⊥

pub workers-reply : (sent : List Sent) (x : Sent) → IsWorkers sent x → IsReply sent x
workers-reply sent (to, messages.Answer c q answer) h = h
workers-reply sent (to, messages.Op c q W n op) h = absurd h
workers-reply sent (to, _) h = tt

-- the kept answer is to the operation of this number
pub record IsKept (sent : List Sent) (W : WorkId) (n : ℕ) (answer : Answer) : Type 0 where
  pub by : Answers sent answer
  pub work : by.of.work ≡ W
  pub number : by.of.number.0 ≡ n

abbrev pub KeepsAnswer : List Sent → WorkId → ℕ → Option Answer → Type 0
KeepsAnswer sent W n None = Unit {0}
KeepsAnswer sent W n (Some answer) = IsKept sent W n answer

-- something was asked of the work
pub record WasAsked (sent : List Sent) (W : WorkId) : Type 0 where
  pub of : Asking
  pub asked : IsAsked sent of
  pub work : of.work ≡ W

-- a work holds nothing until something was asked of it
abbrev pub KeepsPhase : List Sent → WorkId → Phase → Type 0
KeepsPhase sent W (Active a) = (length a.list ≤ 24) × KeepsAnswer sent W a.last a.kept × (((a.reads ≡ []) × (a.writes ≡ [])) ⊎ WasAsked sent W)
KeepsPhase sent W phase = Unit {0}

abbrev pub KeepsWork : List Sent → Work → Type 0
KeepsWork sent w = KeepsPhase sent w.name w.phase

-- ---- more is sent

pub asked-more : (sent more : List Sent) (a : Asking) → IsAsked sent a → IsAsked (sent ++ more) a
asked-more sent more a h = record { to = h.to; is = in-first _ sent more h.is }

abbrev pub answers-more : (sent more : List Sent) (answer : Answer) → Answers sent answer → Answers (sent ++ more) answer
answers-more sent more answer h = record { of = h.of; asked = asked-more sent more h.of h.asked; fits = h.fits }

pub keeps-more : (sent more : List Sent) (w : Work) → KeepsWork sent w → KeepsWork (sent ++ more) w
keeps-more sent more w h = phase w.phase h
  where
    answer : (n : ℕ) (o : Option Answer) → KeepsAnswer sent w.name n o → KeepsAnswer (sent ++ more) w.name n o
    answer n None k = tt
    answer n (Some x) k = record { by = answers-more sent more x k.by; work = k.work; number = k.number }

    phase : (p : Phase) → KeepsPhase sent w.name p → KeepsPhase (sent ++ more) w.name p
    phase (Active a) k = (k.0, answer a.last a.kept k.1, held k.2)
      where
        held : ((a.reads ≡ []) × (a.writes ≡ [])) ⊎ WasAsked sent w.name → ((a.reads ≡ []) × (a.writes ≡ [])) ⊎ WasAsked (sent ++ more) w.name
        held (inl e) = inl e
        held (inr h) = inr (record { of = h.of; asked = asked-more sent more h.of h.asked; work = h.work })
    phase _ k = tt

pub reply-more : (sent more : List Sent) (x : Sent) → IsReply sent x → IsReply (sent ++ more) x
reply-more sent more (to, messages.Op c q W n op) h = absurd h
reply-more sent more (to, messages.Answer c q answer) h = record { by = answers-more sent more answer h.by; client = h.client; request = h.request }
reply-more sent more (to, _) h = tt
