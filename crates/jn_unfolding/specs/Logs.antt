-- A transaction step by step, as its client sees it: what it has done, by which operations, and what is under way.
use Rattle.std.specs.Prelude.{◌≡◌, Bool, true, false, ◌||◌, List, [], ◌∷◌, ◌++◌, if◌then◌else◌}
use Rattle.std.specs.List.{list_any}
use Rattle.jn_base.specs.declared.names.ServerNo.{ServerNo}
use Rattle.jn_base.specs.declared.op.Op.{Op}
use Rattle.jn_base.specs.declared.op.Answer.{Answer}
use Rattle.jn_base.specs.declared.op.Answer.TheVariants as answers
use Rattle.jn_order.specs.Files.{is_did}
use Rattle.jn_replay.specs.declared.files.Performed.{Performed}
use Rattle.jn_replay.specs.declared.replied.Replied.{Replied}
use Rattle.jn_base.specs.declared.call.Call.{Call}
use Rattle.jn_order.specs.Answers.{Answered}
use Rattle.jn_calls.specs.declared.state.CallState.{CallState}
use Rattle.jn_calls.specs.Calls.{Fits}
use Rattle.jn_calls.specs.Turns.{Turn, Asks as AsksNext, Over, first_op, begun as call_begun, turn}
use Rattle.jn_serial.specs.Order.{as_replied}
use Rattle.jn_unfolding.specs.Unfolding.{replied_call, performed}

-- what a client does in a transaction, and what it hears
pub data LogStep : Type 0 where
  Asks : ServerNo → Op → LogStep
  Calls : ServerNo → (call : Call) → Fits call → LogStep
  Hears : Answer → LogStep
  GivesUp : LogStep

pub data UnderWay : Type 0 where
  Idle : UnderWay
  InOperation : ServerNo → Op → UnderWay
  -- a call: the operation that is asked, where the call stands then, and the operations before it
  InCall : ServerNo → Call → Op → CallState → List Answered → UnderWay

pub record Log : Type 0 where
  pub done : List Replied
  pub operations : List Performed
  pub under_way : UnderWay
  -- a call was cut short behind a write of its own
  pub half_written : Bool

abbrev pub no_log : Log
no_log = record { done = []; operations = []; under_way = Idle; half_written = false }

-- something is begun, if nothing is under way
abbrev pub begun : Log → UnderWay → UnderWay → Log
begun l Idle next = record l { under_way = next }
begun l other next = l

-- one more operation counts
abbrev pub counted : Log → Performed → Log
counted l p = record l { operations = l.operations ++ p ∷ [] }

-- one more thing is done, and nothing is under way
abbrev pub completed : Log → Replied → Log
completed l d = record l { done = l.done ++ d ∷ []; under_way = Idle }

-- a call goes on, or is done
abbrev pub after_turn : Log → ServerNo → Call → List Answered → Turn → Log
after_turn l s call exchange (AsksNext op state) = record l { under_way = InCall s call op state exchange }
after_turn l s call exchange (Over reply) = completed l (replied_call s call reply)

-- an operation is answered by the files, by itself or in a call
abbrev pub with_operation : Log → Performed → Log
with_operation l p = completed (counted l p) (as_replied p)

abbrev pub with_answered : Log → ServerNo → Call → CallState → List Answered → Answered → Log
with_answered l s call state exchange a = after_turn (counted l (performed s a)) s call (exchange ++ a ∷ []) (turn state a.answer)

abbrev pub answered : Log → UnderWay → Answer → Log
answered l Idle answer = l
answered l (InOperation s op) answer = with_operation l (record { server = s; op = op; answer = answer })
answered l (InCall s call op state exchange) answer = with_answered l s call state exchange (record { op = op; answer = answer })

-- what is under way is given up, and counts for nothing
abbrev pub given_up : Log → UnderWay → Log
given_up l Idle = l
given_up l (InOperation s op) = record l { under_way = Idle }
given_up l (InCall s call op state exchange) = record l { under_way = Idle; half_written = l.half_written || list_any (λ a. is_did a.answer) exchange }

-- an answer of the files: none for a lock, a limit, or a work that is gone
abbrev pub is_of_files : Answer → Bool
is_of_files answers.Did = true
is_of_files (answers.Read bytes) = true
is_of_files answers.NoFile = true
is_of_files answers.Exists = true
is_of_files _ = false

abbrev pub after : LogStep → Log → Log
after (Asks s op) l = begun l l.under_way (InOperation s op)
after (Calls s call fits) l = begun l l.under_way (InCall s call (first_op call) (call_begun call) [])
after (Hears answer) l = if is_of_files answer then answered l l.under_way answer else given_up l l.under_way
after GivesUp l = given_up l l.under_way

abbrev pub after_all : List LogStep → Log → Log
after_all [] l = l
after_all (step ∷ steps) l = after_all steps (after step l)

abbrev pub log_of : List LogStep → Log
log_of steps = after_all steps no_log

abbrev pub is_in_call : UnderWay → Bool
is_in_call (InCall s call op state exchange) = true
is_in_call _ = false

-- no call is under way, and none was cut short behind a write of its own
pub record IsWhole (l : Log) : Type 0 where
  pub no_call : is_in_call l.under_way ≡ false
  pub none_half : l.half_written ≡ false
