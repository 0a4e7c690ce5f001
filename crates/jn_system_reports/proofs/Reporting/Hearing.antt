-- The lines that a step adds answer what its clients wait for.
use Rattle.jn_system_reports.proofs.Common.{◌≡◌, ℕ, ◌+◌, Bool, true, false, List, [], ◌∷◌, ◌++◌, append-nil, Option, Some, None, refl, sym, ◌∙◌, ap, subst, arith, length, drop, ◌&&◌, if◌then◌else◌, nat_eq, nat_lt, slice_get, nat_tests, drop-append_seam, ServerNo, ClientNo, Tid, Client, Op, Answer, Command, Begin, Open, Do, End, Abort, client_eq, client_tells, Message, Text, OpenWork, Outstanding, Taken, Sent, ClientTable, Commanded, Refuses, Sends, if_server, if_idle, if_transaction, if_no_transaction, if_open, if_not_open, command_row, take_row, Waited, with_asked, is_own, addressed, answer_in, is_last, fits_asked, fits, after_answer, World, at_client, lines_of, named_now, Step, NextEvent, Tell, Dismiss, after, Machine, Facts, told_by, Done, request_eq, RequestNo, one-client, ClientRow, by_command, by_ignoring, by_answering, by_telling, by_narrowing, by_raising, Quiet, event_begins, none_changes, is_refused, client_repeats, server_repeats, is_lost, StepCase, client_row, row_done, row_stopped, gone_late, gone_down, come_up, found_anew, dismissed, quietly, step-case}
use Rattle.jn_serial.specs.declared.following.Asked.{Asked}
use Rattle.jn_msgs.specs.declared.message.Message.TheVariants as messages
use Rattle.jn_report.specs.declared.line.Refusal.TheVariants as refusals
use Rattle.jn_report.specs.declared.line.Text.TheVariants as says
use Rattle.jn_rows.specs.declared.client.Taken.TheVariants as taken
use Rattle.jn_rows.specs.Client.{work_at}
use Rattle.jn_calls.specs.declared.order.Order.TheVariants as orders
use Rattle.jn_system_reports.proofs.Reporting.Lists.{Each, each-in, get-in}
use Rattle.jn_system_reports.proofs.Reporting.Asking.{can_answer, IsAnswered}
use Rattle.jn_system_reports.proofs.Reporting.Known.{Does}
use Rattle.jn_system_reports.proofs.Reporting.ClientTalk.{IsHeard}
use Rattle.jn_system_reports.proofs.Reporting.Talk.{Talk}
use Rattle.jn_system_reports.proofs.Reporting.Fitting.{asked_of, Waits, Heard, IsMute, mute-heard, lines-mute, now-mute, TellsIt, TakeFits, AnswerFits, take-fits}

-- neither a command nor the beginning of an event, nor do clients give up what they wait for
abbrev pub IsQuiet : Step → Type 0
IsQuiet (Tell c command) = ⊥
IsQuiet NextEvent = ⊥
IsQuiet Dismiss = ⊥
IsQuiet step = Unit {0}

pub record StepHeard (lines : List Text) (clients : ClientNo → ClientTable) (event : ℕ) (r : World) : Type 0 where
  pub texts : List Text
  pub adds : r.lines ≡ lines ++ texts
  pub same_event : r.event ≡ event
  pub heard : (out : Waited) → Waits out clients → Heard out texts r.clients

pub told-is : (r : World) (step : Step) (texts : List Text) → (after step r).lines ≡ r.lines ++ texts → told_by (Done step) r ≡ texts
told-is r step texts e = ap (λ (l : List Text). drop (length r.lines) l) e ∙ drop-append_seam r.lines texts

module _ (clients : ClientNo → ClientTable) (c : ClientNo) (u : ClientTable) (out : Waited) (waits : Waits out clients) where
  -- it waits for the same
  same-waits : u.outstanding ≡ (clients c).outstanding → Waits out (at_client clients c u)
  same-waits e = one-client (λ d (x : ClientTable). out d ≡ asked_of x.outstanding) clients c u (waits c ∙ ap asked_of (sym e)) (λ d ne. waits d)

  -- or for this
  pub new-waits : (o : Option Asked) → asked_of u.outstanding ≡ o → Waits (with_asked out c o) (at_client clients c u)
  new-waits o e d = by (client_eq c d)
    where
      by : (b : Bool) → (if b then o else out d) ≡ asked_of (if b then u else clients d).outstanding
      by true = sym e
      by false = waits d

  line-heard : (clients c).client ≡ c → (line : Text) → TellsIt (clients c) u line → Heard out (line ∷ []) (at_client clients c u)
  line-heard name line h = record { fit = (fit, tt); now = now; others = (h.other, tt) }
    where
      to : answer_in line ≡ addressed c h.outstanding.event
      to = h.addressed_it ∙ ap (λ (z : ClientNo). addressed z h.outstanding.event) name

      is : out c ≡ Some (record { number = h.outstanding.event; order = orders.Command h.outstanding.command })
      is = waits c ∙ ap asked_of h.was

      same-number : (n : ℕ) (b : Bool) → b ≡ true → (nat_eq n n && b) ≡ true
      same-number n b k = grind (arith, nat_tests)

      fit : fits out (answer_in line) line ≡ true
      fit = ap (λ o. fits out o line) to ∙ ap (λ o. fits_asked o h.outstanding.event line) is ∙ same-number h.outstanding.event _ h.fits_it

      by : (b : Bool) → u.outstanding ≡ (if b then None else Some h.outstanding) → Waits (if b then with_asked out c None else out) (at_client clients c u)
      by true e = new-waits None (ap asked_of e)
      by false e = same-waits (e ∙ sym h.was)

      now : Waits (after_answer out (answer_in line) line) (at_client clients c u)
      now = subst (λ o. Waits (after_answer out o line) (at_client clients c u)) (sym to) (by (is_last line) h.then_is)

-- ---- steps

module _ (r : World) (w : Machine) (facts : Facts r w) (talk : Talk r w) where
  abbrev Hears : World → Type 0
  Hears q = StepHeard r.lines r.clients r.event q

  -- nothing that is reported answers, and each client waits for the same
  mutely : (q : World) (texts : List Text) → q.lines ≡ r.lines ++ texts → q.event ≡ r.event → Each IsMute texts → ((out : Waited) → Waits out r.clients → Waits out q.clients) → Hears q
  mutely q texts e g h same = record { same_event = g; texts = texts; adds = e; heard = λ out waits. mute-heard out texts q.clients (same out waits) h }

  silent : (q : World) → q.lines ≡ r.lines → q.event ≡ r.event → ((out : Waited) → Waits out r.clients → Waits out q.clients) → Hears q
  silent q e g same = mutely q [] (e ∙ sym (append-nil r.lines)) g tt same

  own-answer : (c : ClientNo) (k : ℕ) (d : ClientNo) (q : RequestNo) (answer : Answer) → slice_get r.sent k ≡ Some (Client c, messages.Answer d q answer) → AnswerFits (r.clients c) (messages.Answer d q answer)
  own-answer c k d q answer e o f same number = by (each-in (IsHeard r.sent) r.sent (Client c, messages.Answer d q answer) talk.heard (get-in r.sent k _ e))
    where
      is-client : d ≡ c
      is-client = let name = (facts.clients c).name in grind (arith, client_tells d (r.clients c).client, same, name)

      is-number : (a b : RequestNo) → request_eq a b ≡ true → a ≡ b
      is-number a b g = grind (arith, nat_tests)

      by : IsAnswered r.sent d q answer → (op : Op) × (Does o.command op × (can_answer op answer ≡ true))
      by x = (x.by.of.op, ((talk.asked x.by.of x.by.asked).waits o (ap (λ (z : ClientNo). (r.clients z).outstanding) (x.client ∙ is-client) ∙ f) (is-number o.request q number ∙ sym x.request), x.by.fits))

  answer-fits : (c : ClientNo) (k : ℕ) (message : Message) → slice_get r.sent k ≡ Some (Client c, message) → AnswerFits (r.clients c) message
  answer-fits c k (messages.Answer d q answer) e = own-answer c k d q answer e
  answer-fits c k _ e = tt

  own-fits : (c : ClientNo) (k : ℕ) (message : Message) (row : ClientTable × Taken) → slice_get r.sent k ≡ Some (Client c, message) → take_row (r.clients c) message ≡ row → TakeFits (r.clients c) row
  own-fits c k message row e f = subst (λ (x : ClientTable × Taken). TakeFits (r.clients c) x) f (take-fits (r.clients c) message (answer-fits c k message e))

  client-hears : (c : ClientNo) (step : Step) (u : ClientTable) (sent : List Sent) (lines : List Text) → ClientRow r c step u sent lines → IsQuiet step → Hears (record r { clients = at_client r.clients c u; sent = sent; lines = lines })
  client-hears c _ _ _ _ (by_command command u to message e) q = absurd q
  client-hears c _ _ _ _ (by_ignoring k room stop message u e f) q = mutely _ (says.Ignored k ∷ []) refl refl ((refl, tt), tt) (λ out waits. same-waits r.clients c u out waits (own-fits c k message (u, taken.Ignored) e f))
  client-hears c _ _ _ _ (by_answering k room stop message u to answer e f) q = silent _ refl refl (λ out waits. same-waits r.clients c u out waits (own-fits c k message (u, taken.Send to answer) e f))
  client-hears c _ _ _ _ (by_telling k room stop message u line answer e f) q = record {
    same_event = refl;
    texts = line ∷ [];
    adds = refl;
    heard = λ out waits. line-heard r.clients c u out waits (facts.clients c).name line (own-fits c k message (u, taken.Told line answer) e f);
  }

  quiet-hears : (step : Step) (event : ℕ) (sent : List Sent) (lines : List Text) → Quiet r step event sent lines → IsQuiet step → Hears (record r { event = event; sent = sent; lines = lines })
  quiet-hears _ _ _ _ event_begins q = absurd q
  quiet-hears _ _ _ _ (is_refused c command refusal e) q = absurd q
  quiet-hears _ _ _ _ (none_changes step) q = silent _ refl refl (λ out waits. waits)
  quiet-hears _ _ _ _ (client_repeats c) q = silent _ refl refl (λ out waits. waits)
  quiet-hears _ _ _ _ (server_repeats s m e) q = silent _ refl refl (λ out waits. waits)
  quiet-hears _ _ _ _ (is_lost k room stop s message e f) q = mutely _ (says.Lost k ∷ []) refl refl ((refl, tt), tt) (λ out waits. waits)

  by-case : (step : Step) (now : World) → StepCase r step now → IsQuiet step → Hears now
  by-case step _ (client_row _ c u sent lines row) q = client-hears c step u sent lines row q
  by-case _ _ (row_done _ s m k row e is) q = mutely _ (lines_of s k row.notes) refl refl (lines-mute s k row.notes) (λ out waits. waits)
  by-case _ _ (row_stopped _ s m k row made e is) q = mutely _ (says.Stopped s ∷ []) refl refl ((refl, tt), tt) (λ out waits. waits)
  by-case _ _ (gone_late s m T e) q = silent _ refl refl (λ out waits. waits)
  by-case _ _ (gone_down s m e) q = mutely _ (says.Down s ∷ []) refl refl ((refl, tt), tt) (λ out waits. waits)
  by-case _ _ (come_up s pick Ws Ts e) q = mutely _ (says.Up s ((r.found s pick).epoch + 1) ∷ named_now Ts r.lines) refl refl ((refl, tt), now-mute Ts r.lines) (λ out waits. waits)
  by-case _ _ (found_anew _ s _ _ e (by_narrowing g)) q = silent _ refl refl (λ out waits. waits)
  by-case _ _ (found_anew _ s _ _ e (by_raising raise)) q = mutely _ (says.Stopped s ∷ []) refl refl ((refl, tt), tt) (λ out waits. waits)
  by-case _ _ dismissed q = absurd q
  by-case step _ (quietly _ event sent lines is) q = quiet-hears step event sent lines is q

  pub step-hears : (step : Step) → IsQuiet step → Hears (after step r)
  step-hears step q = by-case step (after step r) (step-case r step) q

-- ---- a command

-- a command that the client refuses itself, or that it waits for from now on
abbrev pub Commands : ℕ → Command → Commanded → Type 0
Commands j command (Refuses refusal) = is_own refusal ≡ true
Commands j command (Sends u to message) = asked_of u.outstanding ≡ Some (record { number = j; order = orders.Command command })

pub commands : (t : ClientTable) (j : ℕ) (command : Command) → Commands j command (command_row t j command)
commands t j command = by command
  where
    server : (s : ServerNo) (command : Command) (row : Commanded) → Commands j command row → Commands j command (if_server t s row)
    server s command row k = at (nat_lt s.0 t.servers)
      where
        at : (b : Bool) → Commands j command (if b then row else Refuses refusals.NoSuchServer)
        at true = k
        at false = refl

    idle : (o : Option Outstanding) (command : Command) (row : Commanded) → Commands j command row → Commands j command (if_idle o row)
    idle None command row k = k
    idle (Some o) command row k = refl

    without : (o : Option Tid) (command : Command) (row : Commanded) → Commands j command row → Commands j command (if_no_transaction o row)
    without None command row k = k
    without (Some T) command row k = refl

    with-one : (o : Option Tid) (command : Command) (row : Tid → Commanded) → ((T : Tid) → Commands j command (row T)) → Commands j command (if_transaction o row)
    with-one None command row k = refl
    with-one (Some T) command row k = k T

    not-open : (o : Option OpenWork) (command : Command) (row : Commanded) → Commands j command row → Commands j command (if_not_open o row)
    not-open None command row k = k
    not-open (Some v) command row k = refl

    is-open : (o : Option OpenWork) (command : Command) (row : OpenWork → Commanded) → ((v : OpenWork) → Commands j command (row v)) → Commands j command (if_open o row)
    is-open None command row k = refl
    is-open (Some v) command row k = k v

    by : (command : Command) → Commands j command (command_row t j command)
    by (Begin s) = server s (Begin s) _ (idle t.outstanding (Begin s) _ (without t.transaction (Begin s) _ refl))
    by (Open s) = server s (Open s) _ (idle t.outstanding (Open s) _ (with-one t.transaction (Open s) _ (λ T. not-open (work_at s t.works) (Open s) _ refl)))
    by (Do s op) = server s (Do s op) _ (idle t.outstanding (Do s op) _ (with-one t.transaction (Do s op) _ (λ T. is-open (work_at s t.works) (Do s op) _ (λ v. refl))))
    by End = idle t.outstanding End _ (with-one t.transaction End _ (λ T. refl))
    by Abort = with-one t.transaction Abort _ (λ T. refl)
