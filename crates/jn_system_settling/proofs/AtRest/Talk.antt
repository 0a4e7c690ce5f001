-- What a client waits for: the message that it sent fits its command, and it stays the same until it is answered.
use Rattle.jn_system_settling.proofs.Common.{◌≡◌, ◌⊎◌, inl, inr, ℕ, ◌+◌, Bool, true, false, Option, Some, None, refl, sym, ◌∙◌, subst, if◌then◌else◌, nat_lt, Tid, WorkId, Party, Server, Command, Begin, Do, End, Abort, client_eq, Message, Outcome, Text, Taken, Ignored, Outstanding, OpenWork, ClientTable, Refuses, command_row, take_row, names_of, is_current, if_waits, if_idle, if_transaction, if_no_transaction, if_open, if_not_open, with_operation, begun_row, opened_row, decided_row, outcome_row, after_command, request_of, operation_of, sends, OperationNo}
use Rattle.jn_base.specs.declared.op.Command.TheVariants.{Open}
use Rattle.jn_msgs.specs.declared.message.Message.TheVariants as messages
use Rattle.jn_msgs.specs.declared.message.Outcome.TheVariants as outcomes
use Rattle.jn_report.specs.declared.line.Refusal.TheVariants as refusals
use Rattle.jn_rows.specs.Client.{work_at}

-- ---- a message leaves what is waited for, or ends the waiting

abbrev pub IsStill : ClientTable → ClientTable → Type 0
IsStill t now = (now ≡ t) ⊎ (now.outstanding ≡ None)

waits-still : (t : ClientTable) (o : Option Outstanding) (test : Outstanding → Bool) (row : ℕ → ClientTable × Taken) → ((j : ℕ) → IsStill t (row j).0) → IsStill t (if_waits t o test row).0
waits-still t None test row h = inl refl
waits-still t (Some o) test row h = by (test o)
  where
    by : (b : Bool) → IsStill t (if b then row o.event else (t, Ignored)).0
    by true = h o.event
    by false = inl refl

either : (t : ClientTable) (b : Bool) (p q : ClientTable × Taken) → IsStill t p.0 → IsStill t q.0 → IsStill t (if b then p else q).0
either t true p q h k = h
either t false p q h k = k

decided-still : (t : ClientTable) (T : Tid) (line : ℕ → Text) → IsStill t (decided_row t T line).0
decided-still t T line = either t (is_current t T) _ _ (waits-still t t.outstanding _ _ (λ j. inr refl)) (inl refl)

outcome-still : (t : ClientTable) (T : Tid) (outcome : Outcome) → IsStill t (outcome_row t T outcome).0
outcome-still t T outcomes.Committed = decided-still t T _
outcome-still t T (outcomes.Aborted cause) = decided-still t T _
outcome-still t T (outcomes.Waiting s u by) = either t (is_current t T) _ _ (waits-still t t.outstanding _ _ (λ j. inl refl)) (inl refl)
outcome-still t T (outcomes.NotKnown s epoch) = either t (is_current t T) _ _ (waits-still t t.outstanding _ _ (λ j. inr refl)) (inl refl)

pub take-still : (t : ClientTable) (m : Message) → IsStill t (take_row t m).0
take-still t (messages.Begun c request answer) = waits-still t t.outstanding _ _ (λ j. by j answer)
  where
    by : (j : ℕ) (answer : Option Tid) → IsStill t (begun_row t j answer).0
    by j (Some T) = inr refl
    by j None = inr refl
take-still t (messages.Opened c request T answer) = waits-still t t.outstanding _ _ (λ j. by j answer)
  where
    by : (j : ℕ) (answer : Option WorkId) → IsStill t (opened_row t j answer).0
    by j (Some W) = inr refl
    by j None = inr refl
take-still t (messages.Answer c request answer) = waits-still t t.outstanding _ _ (λ j. inr refl)
take-still t (messages.Outcome c T outcome) = by (client_eq c t.client)
  where
    by : (b : Bool) → IsStill t (if b then outcome_row t T outcome else (t, Ignored)).0
    by true = outcome-still t T outcome
    by false = inl refl
take-still t m = inl refl

-- ---- what is waited for fits

abbrev pub FitsCommand : ClientTable → Outstanding → Command → Type 0
FitsCommand t o (Begin s) = (o.to ≡ Server s) × (o.message ≡ messages.Begin t.client o.request) × (nat_lt s.0 t.servers ≡ true)
FitsCommand t o (Open s) = (T : Tid) × (t.transaction ≡ Some T) × (o.to ≡ Server s) × (o.message ≡ messages.Open t.client o.request T) × (nat_lt s.0 t.servers ≡ true)
FitsCommand t o (Do s op) = (W : WorkId) × (number : OperationNo) × (o.message ≡ messages.Op t.client o.request W number op) × (o.to ≡ Server s)
FitsCommand t o End = (T : Tid) × (t.transaction ≡ Some T) × (o.to ≡ Server T.server) × (o.message ≡ messages.End t.client o.request T (names_of t.works))
FitsCommand t o Abort = (T : Tid) × (t.transaction ≡ Some T) × (o.to ≡ Server T.server) × (o.message ≡ messages.Abort t.client o.request T (names_of t.works))

abbrev pub IsFitting : ClientTable → Type 0
IsFitting t = (o : Outstanding) → t.outstanding ≡ Some o → FitsCommand t o o.command

pub still-fits : (t now : ClientTable) → IsStill t now → IsFitting t → IsFitting now
still-fits t now (inl e) h = subst (λ (z : ClientTable). IsFitting z) (sym e) h
still-fits t now (inr e) h = λ o is. absurd (none o (sym e ∙ is))
  where
    none : (o : Outstanding) → None ≡ Some o → ⊥
    none o q = cc

same-outstanding : (o p : Outstanding) → Some o ≡ Some p → o ≡ p
same-outstanding o p e = cc

-- what is sent for a command
sent-fits : (t : ClientTable) (o : Outstanding) → t.outstanding ≡ Some o → FitsCommand t o o.command → IsFitting t
sent-fits t o e h p is = subst (λ (z : Outstanding). FitsCommand t z z.command) (same-outstanding o p (sym e ∙ is)) h

abbrev waiting_for : ClientTable → ℕ → Command → Party → Message → Outstanding
waiting_for t j command to m = record { event = j; request = request_of t.next; command = command; to = to; message = m }

abbrev sending : ClientTable → ℕ → Command → Party → Message → ClientTable
sending t j command to m = record t { next = t.next + 1; outstanding = Some (waiting_for t j command to m) }

pub command-fits : (t : ClientTable) (j : ℕ) (c : Command) → IsFitting t → IsFitting (after_command (command_row t j c) t)
command-fits t j (Begin s) h = by (nat_lt s.0 t.servers) refl t.outstanding t.transaction
  where
    by : (b : Bool) → nat_lt s.0 t.servers ≡ b → (o : Option Outstanding) (T : Option Tid) → IsFitting (after_command (if b then if_idle o (if_no_transaction T (sends t j (Begin s) (Server s) (messages.Begin t.client (request_of t.next)))) else Refuses refusals.NoSuchServer) t)
    by true e None None = sent-fits (sending t j (Begin s) (Server s) (messages.Begin t.client (request_of t.next))) (waiting_for t j (Begin s) (Server s) (messages.Begin t.client (request_of t.next))) refl (refl, refl, e)
    by true e None (Some T) = h
    by true e (Some o) T = h
    by false e o T = h
command-fits t j (Open s) h = by (nat_lt s.0 t.servers) refl t.outstanding t.transaction refl (work_at s t.works)
  where
    by : (b : Bool) → nat_lt s.0 t.servers ≡ b → (o : Option Outstanding) (T : Option Tid) → t.transaction ≡ T → (w : Option OpenWork)
        → IsFitting (after_command (if b then if_idle o (if_transaction T (λ U. if_not_open w (sends t j (Open s) (Server s) (messages.Open t.client (request_of t.next) U)))) else Refuses refusals.NoSuchServer) t)
    by true e None (Some T) is None = sent-fits (sending t j (Open s) (Server s) (messages.Open t.client (request_of t.next) T)) (waiting_for t j (Open s) (Server s) (messages.Open t.client (request_of t.next) T)) refl (T, is, refl, refl, e)
    by true e None (Some T) is (Some w) = h
    by true e None None is w = h
    by true e (Some o) T is w = h
    by false e o T is w = h
command-fits t j (Do s op) h = by (nat_lt s.0 t.servers) t.outstanding t.transaction (work_at s t.works)
  where
    by : (b : Bool) (o : Option Outstanding) (T : Option Tid) (w : Option OpenWork)
        → IsFitting (after_command (if b then if_idle o (if_transaction T (λ U. if_open w (λ v. sends (record t { works = with_operation s t.works }) j (Do s op) (Server s) (messages.Op t.client (request_of t.next) v.work (operation_of (v.last + 1)) op)))) else Refuses refusals.NoSuchServer) t)
    by true None (Some T) (Some w) = sent-fits (sending (record t { works = with_operation s t.works }) j (Do s op) (Server s) (messages.Op t.client (request_of t.next) w.work (operation_of (w.last + 1)) op)) (waiting_for t j (Do s op) (Server s) (messages.Op t.client (request_of t.next) w.work (operation_of (w.last + 1)) op)) refl (w.work, operation_of (w.last + 1), refl, refl)
    by true None (Some T) None = h
    by true None None w = h
    by true (Some o) T w = h
    by false o T w = h
command-fits t j End h = by t.outstanding t.transaction refl
  where
    by : (o : Option Outstanding) (T : Option Tid) → t.transaction ≡ T → IsFitting (after_command (if_idle o (if_transaction T (λ U. sends t j End (Server U.server) (messages.End t.client (request_of t.next) U (names_of t.works))))) t)
    by None (Some T) is = sent-fits (sending t j End (Server T.server) (messages.End t.client (request_of t.next) T (names_of t.works))) (waiting_for t j End (Server T.server) (messages.End t.client (request_of t.next) T (names_of t.works))) refl (T, is, refl, refl)
    by None None is = h
    by (Some o) T is = h
command-fits t j Abort h = by t.transaction refl
  where
    by : (T : Option Tid) → t.transaction ≡ T → IsFitting (after_command (if_transaction T (λ U. sends t j Abort (Server U.server) (messages.Abort t.client (request_of t.next) U (names_of t.works)))) t)
    by (Some T) is = sent-fits (sending t j Abort (Server T.server) (messages.Abort t.client (request_of t.next) T (names_of t.works))) (waiting_for t j Abort (Server T.server) (messages.Abort t.client (request_of t.next) T (names_of t.works))) refl (T, is, refl, refl)
    by None is = h
