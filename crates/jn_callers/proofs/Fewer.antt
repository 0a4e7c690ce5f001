-- A message takes away the operations that are sent for it of those that a call may still ask.
use Rattle.std.proofs.Common.{◌≡◌, inl, inr, ℕ, ◌+◌, ◌≤◌, Bool, true, false, Option, Some, None, refl, sym, subst, arith}
use Rattle.std.specs.Prelude.{◌&&◌, is_some, if◌then◌else◌}
use Rattle.std.proofs.lemmas.Bool.{cases_Bool}
use Rattle.jn_base.specs.declared.names.ClientNo.{ClientNo}
use Rattle.jn_base.specs.declared.names.RequestNo.{RequestNo}
use Rattle.jn_base.specs.declared.names.Party.{Party}
use Rattle.jn_base.specs.declared.names.Tid.{Tid}
use Rattle.jn_base.specs.declared.names.WorkId.{WorkId}
use Rattle.jn_base.specs.declared.op.Answer.{Answer}
use Rattle.jn_base.specs.declared.op.Command.TheVariants.{Do}
use Rattle.jn_base.specs.Names.{client_eq, request_eq}
use Rattle.jn_msgs.specs.declared.message.Outcome.{Outcome}
use Rattle.jn_msgs.specs.declared.message.Outcome.TheVariants.{Committed, Aborted, Waiting, NotKnown}
use Rattle.jn_msgs.specs.declared.message.Message.{Message}
use Rattle.jn_msgs.specs.declared.message.Message.TheVariants as messages
use Rattle.jn_report.specs.declared.line.Text.{Text}
use Rattle.jn_rows.specs.declared.client.Outstanding.{Outstanding}
use Rattle.jn_rows.specs.declared.client.Taken.{Taken as TableTaken}
use Rattle.jn_rows.specs.Client.{ClientTable, Commanded, Refuses, Sends, command_row, take_row, idle, if_waits, is_current, begun_row, opened_row, decided_row, outcome_row}
use Rattle.jn_calls.specs.declared.reply.Reply.{Reply}
use Rattle.jn_calls.specs.declared.reply.Reply.TheVariants as replies
use Rattle.jn_calls.specs.Turns.{Turn, Asks, Over, turn, left, left_from}
use Rattle.jn_calls.proofs.Fewer.{falls}
use Rattle.jn_callers.specs.declared.doing.Doing.{Doing}
use Rattle.jn_callers.specs.declared.taken.Taken.TheVariants.{Ignored, Send}
use Rattle.jn_callers.specs.Callers.{Caller, with_table, as_table, last, goes_on, after_turn, take_answer, take_call_row}
use Rattle.jn_callers.specs.Laws.{operations_sent, still}

-- ---- the table sends no operation at a message

abbrev NoneSent : ClientTable × TableTaken → Type 0
NoneSent row = operations_sent (as_table row.1) ≡ 0

waits-send : (t : ClientTable) (x : Option Outstanding) (test : Outstanding → Bool) (row : ℕ → ClientTable × TableTaken) → ((j : ℕ) → NoneSent (row j)) → NoneSent (if_waits t x test row)
waits-send t None test row h = refl
waits-send t (Some o) test row h = elim (cases_Bool (test o)) [
  | inl k ↦ rw k (h o.event)
  | inr k ↦ rw k refl
]

begun-sends : (t : ClientTable) (j : ℕ) (answer : Option Tid) → NoneSent (begun_row t j answer)
begun-sends t j None = refl
begun-sends t j (Some T) = refl

opened-sends : (t : ClientTable) (j : ℕ) (answer : Option WorkId) → NoneSent (opened_row t j answer)
opened-sends t j None = refl
opened-sends t j (Some W) = refl

decided-sends : (t : ClientTable) (T : Tid) (line : ℕ → Text) → NoneSent (decided_row t T line)
decided-sends t T line = elim (cases_Bool (is_current t T)) [
  | inl h ↦ rw h (waits-send t t.outstanding _ _ (λ j. refl))
  | inr h ↦ rw h refl
]

outcome-sends : (t : ClientTable) (T : Tid) (outcome : Outcome) → NoneSent (outcome_row t T outcome)
outcome-sends t T Committed = decided-sends t T _
outcome-sends t T (Aborted cause) = decided-sends t T _
outcome-sends t T (Waiting s u by) = elim (cases_Bool (is_current t T)) [
  | inl h ↦ rw h (waits-send t t.outstanding _ _ (λ j. refl))
  | inr h ↦ rw h refl
]
outcome-sends t T (NotKnown s epoch) = elim (cases_Bool (is_current t T)) [
  | inl h ↦ rw h (waits-send t t.outstanding _ _ (λ j. refl))
  | inr h ↦ rw h refl
]

none-sent : (t : ClientTable) (m : Message) → NoneSent (take_row t m)
none-sent t (messages.Begun c request answer) = waits-send t t.outstanding _ _ (λ j. begun-sends t j answer)
none-sent t (messages.Opened c request T answer) = waits-send t t.outstanding _ _ (λ j. opened-sends t j answer)
none-sent t (messages.Answer c request answer) = waits-send t t.outstanding _ _ (λ j. refl)
none-sent t (messages.Outcome c T outcome) = elim (cases_Bool (client_eq c t.client)) [
  | inl h ↦ rw h (outcome-sends t T outcome)
  | inr h ↦ rw h refl
]
none-sent t m = refl

-- ---- messages that the table takes

itself : (n : ℕ) → 0 + n ≤ n
itself n = omega arith

nothing : (n : ℕ) → 0 + 0 ≤ n
nothing n = omega arith

kept-or-none : (b : Bool) (doing : Option Doing) → 0 + still (if b then doing else None) ≤ still doing
kept-or-none true doing = itself (still doing)
kept-or-none false doing = nothing (still doing)

table-asks : (c : Caller) (m : Message) → operations_sent (with_table c (take_row c.table m)).1 + still (with_table c (take_row c.table m)).0.doing ≤ still c.doing
table-asks c m = subst (λ (n : ℕ). n + still (if is_some (take_row c.table m).0.outstanding then c.doing else None) ≤ still c.doing) (sym (none-sent c.table m)) (kept-or-none (is_some (take_row c.table m).0.outstanding) c.doing)

-- ---- an answer to a call

sends-one : (to : Party) (m : Message) (n k : ℕ) → 1 + n ≤ k → operations_sent (Send to m) + n ≤ k
sends-one to (messages.Op client request work number op) n k h = h
sends-one to (messages.Begin client request) n k h = let z : 0 + n ≤ k = omega (arith, h) in z
sends-one to m n k h = let z : 0 + n ≤ k = omega (arith, h) in z

goes-asks : (c : Caller) (d : Doing) (row : Commanded) (n : ℕ) → 1 + left d.state ≤ n → still c.doing ≤ n → operations_sent (goes_on c d row).1 + still (goes_on c d row).0.doing ≤ n
goes-asks c d (Refuses refusal) n h k = let z : 0 + still c.doing ≤ n = omega (arith, k) in z
goes-asks c d (Sends t to m) n h k = sends-one to m (left d.state) n h

last-asks : (j : ℕ) (reply : Reply) (n : ℕ) → operations_sent (last j reply) + 0 ≤ n
last-asks j (replies.OfBytes next) n = nothing n
last-asks j (replies.OfNames next) n = nothing n
last-asks j (replies.Answered a) n = nothing n

turn-asks : (c : Caller) (j : ℕ) (d : Doing) (a : Answer) (t : Turn) (n : ℕ) → left_from t ≤ n → still c.doing ≤ n → operations_sent (after_turn c j d a t).1 + still (after_turn c j d a t).0.doing ≤ n
turn-asks c j d a (Asks op state) n h k = goes-asks c _ (command_row (idle c.table) j (Do d.server op)) n h k
turn-asks c j d a (Over reply) n h k = last-asks j reply n

at-most : (m n : ℕ) → m ≡ n → m ≤ n
at-most m n e = omega (arith, e)

answer-asks : (c : Caller) (x : Option Doing) (o : Option Outstanding) (client : ClientNo) (request : RequestNo) (a : Answer) → c.doing ≡ x
    → operations_sent (take_answer c x o client request a).1 + still (take_answer c x o client request a).0.doing ≤ still c.doing
answer-asks c (Some d) (Some o) client request a e = by (client_eq client c.table.client && request_eq o.request request)
  where
    fewer : left_from (turn d.state a) ≤ still c.doing
    fewer = subst (λ (x : Option Doing). left_from (turn d.state a) ≤ still x) (sym e) (falls d.state a)

    by : (b : Bool) → operations_sent (if b then after_turn c o.event d a (turn d.state a) else (c, Ignored)).1 + still (if b then after_turn c o.event d a (turn d.state a) else (c, Ignored)).0.doing ≤ still c.doing
    by true = turn-asks c o.event d a (turn d.state a) (still c.doing) fewer (at-most (still c.doing) (still c.doing) refl)
    by false = itself (still c.doing)
answer-asks c (Some d) None client request a e = table-asks c (messages.Answer client request a)
answer-asks c None o client request a e = table-asks c (messages.Answer client request a)

pub asks-fewer : (c : Caller) (m : Message) → operations_sent (take_call_row c m).1 + still (take_call_row c m).0.doing ≤ still c.doing
asks-fewer c (messages.Answer client request a) = answer-asks c c.doing c.table.outstanding client request a refl
asks-fewer c (messages.Begin client request) = table-asks c (messages.Begin client request)
asks-fewer c m = table-asks c m
