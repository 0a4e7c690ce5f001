-- Every row keeps a client that calls as one.
use Rattle.std.proofs.Common.{◌≡◌, ◌⊎◌, inl, inr, ℕ, Bool, true, false, List, [], ◌∷◌, ◌+◌, Option, Some, None, true≢false, refl, sym, ◌∙◌, ap, subst, arith}
use Rattle.std.specs.Prelude.{not, ◌&&◌, ◌||◌, nat_lt, is_some, if◌then◌else◌}
use Rattle.std.proofs.lemmas.Bool.{cases_Bool}
use Rattle.jn_base.specs.declared.names.ServerNo.{ServerNo}
use Rattle.jn_base.specs.declared.names.ClientNo.{ClientNo}
use Rattle.jn_base.specs.declared.names.RequestNo.{RequestNo}
use Rattle.jn_base.specs.declared.names.Tid.{Tid}
use Rattle.jn_base.specs.declared.names.WorkId.{WorkId}
use Rattle.jn_base.specs.declared.op.Op.{Op}
use Rattle.jn_base.specs.declared.op.Answer.{Answer}
use Rattle.jn_base.specs.declared.op.Command.{Command}
use Rattle.jn_base.specs.declared.op.Command.TheVariants.{Begin, Open, Do, End, Abort}
use Rattle.jn_base.specs.declared.names.Party.TheVariants.{Server}
use Rattle.jn_base.specs.Names.{server_eq, client_eq, request_eq, request_of, operation_of}
use Rattle.jn_base.proofs.Tells.{server_tells}
use Rattle.jn_order.specs.Files.{is_did}
use Rattle.jn_msgs.specs.declared.message.Outcome.{Outcome}
use Rattle.jn_msgs.specs.declared.message.Outcome.TheVariants.{Committed, Aborted, Waiting, NotKnown}
use Rattle.jn_msgs.specs.declared.message.Message.{Message}
use Rattle.jn_msgs.specs.declared.message.Message.TheVariants as messages
use Rattle.jn_report.specs.declared.line.Refusal.TheVariants as refusals
use Rattle.jn_report.specs.declared.line.Text.{Text}
use Rattle.jn_rows.specs.declared.client.OpenWork.{OpenWork}
use Rattle.jn_rows.specs.declared.client.Outstanding.{Outstanding}
use Rattle.jn_rows.specs.declared.client.Taken.{Taken as TableTaken}
use Rattle.jn_rows.specs.Client.{ClientTable, Commanded, Refuses, Sends, command_row, take_row, sends, idle, work_at, with_operation, if_idle, if_transaction, if_open, if_waits, is_current, begun_row, opened_row, decided_row, outcome_row}
use Rattle.jn_rows.specs.ClientLaws.{IsClient, after_command}
use Rattle.jn_rows.proofs.ClientKeeps.{command_keeps, take_keeps}
use Rattle.jn_calls.specs.declared.order.Order.{Order}
use Rattle.jn_calls.specs.declared.order.Order.TheVariants as orders
use Rattle.jn_calls.specs.Turns.{Turn, Asks, Over, first_op, begun, turn}
use Rattle.jn_callers.specs.declared.doing.Doing.{Doing}
use Rattle.jn_callers.specs.declared.taken.Taken.TheVariants.{Ignored}
use Rattle.jn_callers.specs.Callers.{Caller, ordered, order_row, with_table, goes_on, after_turn, take_answer, take_call_row, is_too_far}
use Rattle.jn_callers.specs.Laws.{IsCaller, after_order, is_sent, may_be_doing, waits_at}

or-true : (b : Bool) → (b || true) ≡ true
or-true true = refl
or-true false = refl

and-or : (a b : Bool) → (not (a && b) || b) ≡ true
and-or true true = refl
and-or true false = refl
and-or false true = refl
and-or false false = refl

idle-client : (t : ClientTable) → IsClient t → IsClient (idle t)
idle-client t h = record { works = h.works; waits = refl }

-- ---- a command

pub transaction-kept : (t : ClientTable) (j : ℕ) (command : Command) → (after_command (command_row t j command) t).transaction ≡ t.transaction
transaction-kept t j (Begin s) = grind arith
transaction-kept t j (Open s) = grind arith
transaction-kept t j (Do s op) = grind arith
transaction-kept t j End = grind arith
transaction-kept t j Abort = grind arith

spoiled-kept : (t : ClientTable) (spoiled : Bool) (j : ℕ) (command : Command) → (not spoiled || is_some t.transaction) ≡ true → (not spoiled || is_some (after_command (command_row t j command) t).transaction) ≡ true
spoiled-kept t spoiled j command h = rw (transaction-kept t j command) h

-- a work with one more operation is found as before
work-kept : (s : ServerNo) (ws : List OpenWork) → is_some (work_at s (with_operation s ws)) ≡ is_some (work_at s ws)
work-kept s [] = refl
work-kept s (w ∷ ws) = elim (cases_Bool (server_eq w.work.server s)) [
  | inl h ↦ rw h (rw h refl)
  | inr h ↦ rw h (rw h (work-kept s ws))
]

abbrev may_after : Commanded → Option Doing → Bool
may_after (Refuses refusal) doing = true
may_after (Sends t to m) doing = may_be_doing t doing

may-none : (row : Commanded) → may_after row None ≡ true
may-none (Refuses refusal) = refl
may-none (Sends t to m) = refl

itself : (s : ServerNo) → server_eq s s ≡ true
itself s = elim (server_tells s s) [
  | inl h ↦ h.0
  | inr h ↦ absurd (h.1 refl)
]

all-four : (a b c d : Bool) → a ≡ true → b ≡ true → c ≡ true → d ≡ true → (a && (b && (c && d))) ≡ true
all-four a b c d e f g h = rw (e, f, g, h) refl

module _ (t : ClientTable) (j : ℕ) (op : Op) (d : Doing) where
  abbrev next_op : Tid → OpenWork → Commanded
  next_op T w = sends (record t { works = with_operation d.server t.works }) j (Do d.server op) (Server d.server) (messages.Op t.client (request_of t.next) w.work (operation_of (w.last + 1)) op)

  open-may : (T : Tid) (w : Option OpenWork) → nat_lt d.server.0 t.servers ≡ true → t.transaction ≡ Some T → work_at d.server t.works ≡ w → may_after (if_open w (λ w. next_op T w)) (Some d) ≡ true
  open-may T None l e f = refl
  open-may T (Some w) l e f = all-four (server_eq d.server d.server) (nat_lt d.server.0 t.servers) (is_some t.transaction) (is_some (work_at d.server (with_operation d.server t.works)))
      (itself d.server) l (ap (λ (x : Option Tid). is_some x) e) (work-kept d.server t.works ∙ ap (λ (x : Option OpenWork). is_some x) f)

  transaction-may : (x : Option Tid) → nat_lt d.server.0 t.servers ≡ true → t.transaction ≡ x → may_after (if_transaction x (λ T. if_open (work_at d.server t.works) (λ w. next_op T w))) (Some d) ≡ true
  transaction-may None l e = refl
  transaction-may (Some T) l e = open-may T (work_at d.server t.works) l e refl

  idle-may : (x : Option Outstanding) → nat_lt d.server.0 t.servers ≡ true → may_after (if_idle x (if_transaction t.transaction (λ T. if_open (work_at d.server t.works) (λ w. next_op T w)))) (Some d) ≡ true
  idle-may None l = transaction-may t.transaction l refl
  idle-may (Some o) l = refl

  server-may : (b : Bool) → nat_lt d.server.0 t.servers ≡ b
      → may_after (if b then (if_idle t.outstanding (if_transaction t.transaction (λ T. if_open (work_at d.server t.works) (λ w. next_op T w)))) else Refuses refusals.NoSuchServer) (Some d) ≡ true
  server-may true l = idle-may t.outstanding l
  server-may false l = refl

do-may : (t : ClientTable) (j : ℕ) (op : Op) (d : Doing) → may_after (command_row t j (Do d.server op)) (Some d) ≡ true
do-may t j op d = server-may t j op d (nat_lt d.server.0 t.servers) refl

-- what is known of a client in a call

both : (a b : Bool) → (a && b) ≡ true → (a ≡ true) × (b ≡ true)
both true true h = (refl, refl)
both true false h = absurd (true≢false (sym h))
both false b h = absurd (true≢false (sym h))

record InCall (t : ClientTable) (d : Doing) : Type 0 where
  waits : waits_at d.server t.outstanding ≡ true
  near : nat_lt d.server.0 t.servers ≡ true
  in_one : is_some t.transaction ≡ true
  open_there : is_some (work_at d.server t.works) ≡ true

in-call : (t : ClientTable) (d : Doing) → may_be_doing t (Some d) ≡ true → InCall t d
in-call t d h =
    let a = both (waits_at d.server t.outstanding) (nat_lt d.server.0 t.servers && (is_some t.transaction && is_some (work_at d.server t.works))) h in
    let b = both (nat_lt d.server.0 t.servers) (is_some t.transaction && is_some (work_at d.server t.works)) a.1 in
    let c = both (is_some t.transaction) (is_some (work_at d.server t.works)) b.1 in
    record { waits = a.0; near = b.0; in_one = c.0; open_there = c.1 }

-- in a call the next operation is sent

sent-open : (x : Option OpenWork) (row : OpenWork → Commanded) → is_some x ≡ true → ((w : OpenWork) → is_sent (row w) ≡ true) → is_sent (if_open x row) ≡ true
sent-open None row h k = absurd (true≢false (sym h))
sent-open (Some w) row h k = k w

sent-begun : (x : Option Tid) (row : Tid → Commanded) → is_some x ≡ true → ((T : Tid) → is_sent (row T) ≡ true) → is_sent (if_transaction x row) ≡ true
sent-begun None row h k = absurd (true≢false (sym h))
sent-begun (Some T) row h k = k T

sent-near : (b : Bool) (row : Commanded) → b ≡ true → is_sent row ≡ true → is_sent (if b then row else Refuses refusals.NoSuchServer) ≡ true
sent-near true row l h = h
sent-near false row l h = absurd (true≢false (sym l))

next-sent : (t : ClientTable) (j : ℕ) (op : Op) (d : Doing) → InCall t d → is_sent (command_row (idle t) j (Do d.server op)) ≡ true
next-sent t j op d h = sent-near (nat_lt d.server.0 t.servers) _ h.near (sent-begun t.transaction _ h.in_one (λ T. sent-open (work_at d.server t.works) _ h.open_there (λ w. refl)))

-- ---- orders

ordered-keeps : (c : Caller) (spoiled far : Bool) (doing : Option Doing) (row : Commanded) → IsCaller c → IsClient (after_command row c.table) → may_after row doing ≡ true
    → (not c.spoiled || is_some (after_command row c.table).transaction) ≡ true → IsCaller (after_order (ordered c spoiled far doing row) c)
ordered-keeps c spoiled far doing (Refuses refusal) h client may whole = h
ordered-keeps c true far doing (Sends t to m) h client may whole = h
ordered-keeps c false true doing (Sends t to m) h client may whole = h
ordered-keeps c false false doing (Sends t to m) h client may whole = record { table = client; doing = may; spoiled = whole }

command-keeps : (c : Caller) (spoiled : Bool) (j : ℕ) (command : Command) → IsCaller c → IsCaller (after_order (ordered c spoiled false None (command_row c.table j command)) c)
command-keeps c spoiled j command h = ordered-keeps c spoiled false None (command_row c.table j command) h (command_keeps c.table j command h.table)
    (may-none (command_row c.table j command)) (spoiled-kept c.table c.spoiled j command h.spoiled)

pub order-keeps : (c : Caller) (j : ℕ) (order : Order) → IsCaller c → IsCaller (after_order (order_row c j order) c)
order-keeps c j (orders.Command Abort) h = command-keeps c false j Abort h
order-keeps c j (orders.Command (Begin s)) h = command-keeps c c.spoiled j (Begin s) h
order-keeps c j (orders.Command (Open s)) h = command-keeps c c.spoiled j (Open s) h
order-keeps c j (orders.Command (Do s op)) h = command-keeps c c.spoiled j (Do s op) h
order-keeps c j (orders.Command End) h = command-keeps c c.spoiled j End h
order-keeps c j (orders.Call s call) h =
    let d : Doing = record { server = s; state = begun call; wrote = false } in
    ordered-keeps c c.spoiled (is_too_far call) (Some d) (command_row c.table j (Do s (first_op call))) h (command_keeps c.table j (Do s (first_op call)) h.table)
    (do-may c.table j (first_op call) d) (spoiled-kept c.table c.spoiled j (Do s (first_op call)) h.spoiled)

-- ---- messages that the table takes

-- it stays as it was, or waits for nothing
abbrev Fares : ClientTable → ClientTable → Type 0
Fares t now = (now ≡ t) ⊎ (now.outstanding ≡ None)

waits-fare : (t : ClientTable) (x : Option Outstanding) (test : Outstanding → Bool) (row : ℕ → ClientTable × TableTaken) → ((j : ℕ) → Fares t (row j).0) → Fares t (if_waits t x test row).0
waits-fare t None test row h = inl refl
waits-fare t (Some o) test row h = elim (cases_Bool (test o)) [
  | inl k ↦ rw k (h o.event)
  | inr k ↦ rw k (inl refl)
]

begun-fares : (t : ClientTable) (j : ℕ) (answer : Option Tid) → Fares t (begun_row t j answer).0
begun-fares t j None = inr refl
begun-fares t j (Some T) = inr refl

opened-fares : (t : ClientTable) (j : ℕ) (answer : Option WorkId) → Fares t (opened_row t j answer).0
opened-fares t j None = inr refl
opened-fares t j (Some W) = inr refl

decided-fares : (t : ClientTable) (T : Tid) (line : ℕ → Text) → Fares t (decided_row t T line).0
decided-fares t T line = elim (cases_Bool (is_current t T)) [
  | inl h ↦ rw h (waits-fare t t.outstanding _ _ (λ j. inr refl))
  | inr h ↦ rw h (inl refl)
]

outcome-fares : (t : ClientTable) (T : Tid) (outcome : Outcome) → Fares t (outcome_row t T outcome).0
outcome-fares t T Committed = decided-fares t T _
outcome-fares t T (Aborted cause) = decided-fares t T _
outcome-fares t T (Waiting s u by) = elim (cases_Bool (is_current t T)) [
  | inl h ↦ rw h (waits-fare t t.outstanding _ _ (λ j. inl refl))
  | inr h ↦ rw h (inl refl)
]
outcome-fares t T (NotKnown s epoch) = elim (cases_Bool (is_current t T)) [
  | inl h ↦ rw h (waits-fare t t.outstanding _ _ (λ j. inr refl))
  | inr h ↦ rw h (inl refl)
]

fares : (t : ClientTable) (m : Message) → Fares t (take_row t m).0
fares t (messages.Begun c request answer) = waits-fare t t.outstanding _ _ (λ j. begun-fares t j answer)
fares t (messages.Opened c request T answer) = waits-fare t t.outstanding _ _ (λ j. opened-fares t j answer)
fares t (messages.Answer c request answer) = waits-fare t t.outstanding _ _ (λ j. inr refl)
fares t (messages.Outcome c T outcome) = elim (cases_Bool (client_eq c t.client)) [
  | inl h ↦ rw h (outcome-fares t T outcome)
  | inr h ↦ rw h (inl refl)
]
fares t m = inl refl

same-doing : (t : ClientTable) (doing : Option Doing) → may_be_doing t doing ≡ true → may_be_doing t (if is_some t.outstanding then doing else None) ≡ true
same-doing t doing h = elim (cases_Bool (is_some t.outstanding)) [
  | inl k ↦ rw k h
  | inr k ↦ rw k refl
]

doing-kept : (t now : ClientTable) (doing : Option Doing) → Fares t now → may_be_doing t doing ≡ true → may_be_doing now (if is_some now.outstanding then doing else None) ≡ true
doing-kept t now doing (inl e) h = subst (λ (x : ClientTable). may_be_doing x (if is_some x.outstanding then doing else None) ≡ true) (sym e) (same-doing t doing h)
doing-kept t now doing (inr e) h = subst (λ (x : Option Outstanding). may_be_doing now (if is_some x then doing else None) ≡ true) (sym e) refl

table-keeps : (c : Caller) (m : Message) → IsCaller c → IsCaller (with_table c (take_row c.table m)).0
table-keeps c m h = record {
  table = take_keeps c.table m h.table;
  doing = doing-kept c.table (take_row c.table m).0 c.doing (fares c.table m) h.doing;
  spoiled = and-or c.spoiled (is_some (take_row c.table m).0.transaction);
}

-- ---- an answer to a call

goes-keeps : (c : Caller) (d : Doing) (row : Commanded) → IsCaller c → IsClient (after_command row (idle c.table)) → may_after row (Some d) ≡ true
    → (not c.spoiled || is_some (after_command row (idle c.table)).transaction) ≡ true → IsCaller (goes_on c d row).0
goes-keeps c d (Refuses refusal) h client may whole = h
goes-keeps c d (Sends t to m) h client may whole = record { table = client; doing = may; spoiled = whole }

doing-is : (c : Caller) (d : Doing) → IsCaller c → c.doing ≡ Some d → may_be_doing c.table (Some d) ≡ true
doing-is c d h e = subst (λ (x : Option Doing). may_be_doing c.table x ≡ true) e h.doing

open-or : (x : Option Tid) (b : Bool) → is_some x ≡ true → (b || is_some x) ≡ true
open-or x b h = rw h (or-true b)

turn-keeps : (c : Caller) (j : ℕ) (d : Doing) (a : Answer) (t : Turn) → IsCaller c → c.doing ≡ Some d → IsCaller (after_turn c j d a t).0
turn-keeps c j d a (Asks op state) h e =
    let now : Doing = record d { state = state; wrote = d.wrote || is_did a } in
    goes-keeps c now (command_row (idle c.table) j (Do d.server op)) h (command_keeps (idle c.table) j (Do d.server op) (idle-client c.table h.table))
    (do-may (idle c.table) j op now) (spoiled-kept (idle c.table) c.spoiled j (Do d.server op) h.spoiled)
turn-keeps c j d a (Over reply) h e = record {
  table = idle-client c.table h.table;
  doing = refl;
  spoiled = open-or c.table.transaction _ (in-call c.table d (doing-is c d h e)).in_one;
}

answer-keeps : (c : Caller) (x : Option Doing) (o : Option Outstanding) (client : ClientNo) (request : RequestNo) (a : Answer) → IsCaller c → c.doing ≡ x → IsCaller (take_answer c x o client request a).0
answer-keeps c (Some d) (Some o) client request a h e = by (client_eq client c.table.client && request_eq o.request request)
  where
    by : (b : Bool) → IsCaller (if b then after_turn c o.event d a (turn d.state a) else (c, Ignored)).0
    by true = turn-keeps c o.event d a (turn d.state a) h e
    by false = h
answer-keeps c (Some d) None client request a h e = table-keeps c (messages.Answer client request a) h
answer-keeps c None o client request a h e = table-keeps c (messages.Answer client request a) h

pub message-keeps : (c : Caller) (m : Message) → IsCaller c → IsCaller (take_call_row c m).0
message-keeps c (messages.Answer client request a) h = answer-keeps c c.doing c.table.outstanding client request a h refl
message-keeps c (messages.Begin client request) h = table-keeps c (messages.Begin client request) h
message-keeps c m h = table-keeps c m h

-- ---- what that says of a client in a call

pub call-waits : (c : Caller) (d : Doing) → IsCaller c → c.doing ≡ Some d → waits_at d.server c.table.outstanding ≡ true
call-waits c d h e = (in-call c.table d (doing-is c d h e)).waits

pub call-sends : (c : Caller) (d : Doing) (j : ℕ) (op : Op) → IsCaller c → c.doing ≡ Some d → is_sent (command_row (idle c.table) j (Do d.server op)) ≡ true
call-sends c d j op h e = next-sent c.table j op d (in-call c.table d (doing-is c d h e))

closed : (x : Option Tid) → x ≡ None → is_some x ≡ true → ⊥
closed x e h = true≢false (sym h ∙ ap (λ (y : Option Tid). is_some y) e)

pub no-call : (c : Caller) → IsCaller c → c.table.transaction ≡ None → c.doing ≡ None
no-call c h e = by c.doing refl
  where
    by : (x : Option Doing) → c.doing ≡ x → c.doing ≡ None
    by None is = is
    by (Some d) is = absurd (closed c.table.transaction e (in-call c.table d (doing-is c d h is)).in_one)

pub none-spoiled : (c : Caller) → IsCaller c → c.table.transaction ≡ None → c.spoiled ≡ false
none-spoiled c h e = by c.spoiled (subst (λ (x : Option Tid). (not c.spoiled || is_some x) ≡ true) e h.spoiled)
  where
    by : (b : Bool) → (not b || false) ≡ true → b ≡ false
    by true k = sym k
    by false k = refl
