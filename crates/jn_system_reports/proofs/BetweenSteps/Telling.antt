-- A step reports an answer of a transaction only to its client, which goes on in it, and only such a client sends an operation.
use Rattle.jn_system_reports.proofs.Common.{◌≡◌, ◌≢◌, ◌⊎◌, inl, inr, ℕ, Bool, true, false, List, [], ◌∷◌, ◌++◌, append-nil, Option, Some, None, refl, sym, ◌∙◌, ap, subst, arith, ◌&&◌, ◌||◌, if◌then◌else◌, nat_lt, ServerNo, ClientNo, Tid, WorkId, Client, Server, Answer, Command, Begin, Open, Do, End, Abort, client_eq, client_tells, Event, event_at, performed_in, answered, answered_by, is_own, Message, Outcome, Refusal, Text, OpenWork, Outstanding, Taken, stable, Sent, ClientTable, Commanded, Refuses, Sends, if_server, if_idle, if_transaction, if_no_transaction, if_open, if_not_open, command_row, is_operation, is_end_or_abort, is_current, if_waits, idle, begun_row, opened_row, answer_line, outcome_row, take_row, sent_again, Machine, not_both, World, at_client, lines_of, Step, after, commanded, sent_now, took, LockFacts, Mirrors, IsTrue, IsCurrent, found-open, IsThanks, Takes, takes, holds-of, Facts, is_closing, work_is, asked_for, asked_here}
use Rattle.jn_system_reports.proofs.Telling.TransactionLines.{ops_in, owner_in}
use Rattle.jn_base.specs.declared.op.Answer.TheVariants as answers
use Rattle.jn_msgs.specs.declared.message.Message.TheVariants as messages
use Rattle.jn_msgs.specs.declared.message.Outcome.TheVariants as outcomes
use Rattle.jn_report.specs.declared.line.Refusal.TheVariants as refusals
use Rattle.jn_report.specs.declared.line.Text.TheVariants as says
use Rattle.jn_rows.specs.declared.client.Taken.TheVariants as taken
use Rattle.jn_rows.specs.Worker as worker
use Rattle.jn_rows.specs.Client.{work_at}
use Rattle.jn_system_reports.proofs.Reporting.Hearing.{commands, Commands}
use Rattle.jn_system_reports.proofs.Telling.Tellings.{ops-more}
use Rattle.jn_system_reports.proofs.Telling.Acting.{IsSilent}
use Rattle.jn_system_reports.proofs.Telling.Facts.{is_op_of, op_sent, IsAsking, Talk}
use Rattle.jn_system_reports.proofs.Telling.Quiet.{HasNoOp, silent-nos, op_sent-more, same-sent, same-told, IsQuiet}
use Rattle.jn_system_reports.proofs.Telling.ServerSteps.{lines-dumb, op-plain, TellCase, is_quiet, client_is_told, client_takes, client_asks_again, clients_dismissed, server_operates, tell-case}
use Rattle.jn_system_reports.proofs.Telling.Clients.{at-own}

-- a client has the transaction, and goes on in it
abbrev pub GoesOn : World → Tid → Type 0
GoesOn r T = (c : ClientNo) × ((r.clients c).transaction ≡ Some T) × (is_closing (r.clients c).outstanding ≡ false)

pub record Tells (events : List Event) (owner : WorkId → Tid) (r q : World) : Type 0 where
  pub ops : (T : Tid) → (ops_in events T None q.lines ≡ ops_in events T None r.lines) ⊎ GoesOn q T
  pub asked : (W : WorkId) → op_sent W q.sent ≡ true → (op_sent W r.sent ≡ true) ⊎ GoesOn q (owner W)

-- ---- what a client reports

abbrev AnswersNone : Text → Type 0
AnswersNone line = (events : List Event) (d : ClientNo) → answered events d line ≡ []

-- it reports the answer to its operation
record TellsOwn (t u : ClientTable) (line : Text) : Type 0 where
  waits : Outstanding
  was : t.outstanding ≡ Some waits
  operation : is_operation waits.command ≡ true
  now : u ≡ idle t
  event : ℕ
  answer : Answer
  is : line ≡ answer_line t.client event answer

abbrev SaysSo : ClientTable → ClientTable × Taken → Type 0
SaysSo t (u, taken.Told line answer) = AnswersNone line ⊎ TellsOwn t u line
SaysSo t row = Unit {0}

module _ (t : ClientTable) where
  where-waits : (o : Option Outstanding) (test : Outstanding → Bool) (row : ℕ → ClientTable × Taken) → t.outstanding ≡ o → ((x : Outstanding) → t.outstanding ≡ Some x → test x ≡ true → SaysSo t (row x.event)) → SaysSo t (if_waits t o test row)
  where-waits None test row e h = tt
  where-waits (Some o) test row e h = by (test o) refl
    where
      by : (b : Bool) → test o ≡ b → SaysSo t (if b then row o.event else (t, taken.Ignored))
      by true k = h o e k
      by false k = tt

  one-of : (b : Bool) (p q : ClientTable × Taken) → SaysSo t p → SaysSo t q → SaysSo t (if b then p else q)
  one-of true p q h k = h
  one-of false p q h k = k

  third : (a b c : Bool) → (a && (b && c)) ≡ true → c ≡ true
  third a b c h = grind arith

  begun-so : (j : ℕ) (o : Option Tid) → SaysSo t (begun_row t j o)
  begun-so j (Some T) = inl (λ events d. refl)
  begun-so j None = inl (λ events d. refl)

  opened-so : (j : ℕ) (o : Option WorkId) → SaysSo t (opened_row t j o)
  opened-so j (Some W) = inl (λ events d. refl)
  opened-so j None = inl (λ events d. refl)

  outcome-so : (T : Tid) (outcome : Outcome) → SaysSo t (outcome_row t T outcome)
  outcome-so T outcomes.Committed = one-of (is_current t T) _ _ (where-waits t.outstanding _ _ refl (λ x e k. inl (λ events d. refl))) tt
  outcome-so T (outcomes.Aborted cause) = one-of (is_current t T) _ _ (where-waits t.outstanding _ _ refl (λ x e k. inl (λ events d. refl))) tt
  outcome-so T (outcomes.Waiting s u by) = one-of (is_current t T) _ _ (where-waits t.outstanding _ _ refl (λ x e k. inl (λ events d. refl))) tt
  outcome-so T (outcomes.NotKnown s epoch) = one-of (is_current t T) _ _ (where-waits t.outstanding _ _ refl (λ x e k. inl (λ events d. refl))) tt

  takes-so : (message : Message) → SaysSo t (take_row t message)
  takes-so (messages.Begun c request answer) = where-waits t.outstanding _ _ refl (λ x e k. begun-so x.event answer)
  takes-so (messages.Opened c request T answer) = where-waits t.outstanding _ _ refl (λ x e k. opened-so x.event answer)
  takes-so (messages.Answer c request answer) = where-waits t.outstanding _ _ refl (λ x e k. inr (record { waits = x; was = e; operation = third _ _ _ k; now = refl; event = x.event; answer = answer; is = refl }))
  takes-so (messages.Outcome c T outcome) = one-of (client_eq c t.client) _ _ (outcome-so T outcome) tt
  takes-so _ = tt

-- an answer is reported to its client alone
other-line : (events : List Event) (d c : ClientNo) (j : ℕ) (answer : Answer) → client_eq d c ≡ false → answered events d (answer_line c j answer) ≡ []
other-line events d c j answers.Did h = ap (λ (b : Bool). if b then performed_in d answers.Did (event_at events j) else []) h
other-line events d c j (answers.Read bytes) h = ap (λ (b : Bool). if b then performed_in d (answers.Read bytes) (event_at events j) else []) h
other-line events d c j answers.NoFile h = ap (λ (b : Bool). if b then performed_in d answers.NoFile (event_at events j) else []) h
other-line events d c j answers.Exists h = ap (λ (b : Bool). if b then performed_in d answers.Exists (event_at events j) else []) h
other-line events d c j (answers.Locked u T) h = refl
other-line events d c j answers.TooManyReads h = refl
other-line events d c j answers.TooManyWrites h = refl
other-line events d c j (answers.Broken u T) h = refl
other-line events d c j (answers.Lost m n) h = refl
other-line events d c j answers.Closing h = refl

own-none : (c : ClientNo) (j : ℕ) (refusal : Refusal) → is_own refusal ≡ true → AnswersNone (says.Refused c j refusal)
own-none c j refusals.NoFile h = absurd (not_both false h refl)
own-none c j refusals.Exists h = absurd (not_both false h refl)
own-none c j _ h = λ events d. refl

-- ---- what a client sends

-- the message is an operation of an open work of its transaction
record SendsOwn (t u : ClientTable) (x : Sent) : Type 0 where
  tid : Tid
  was : t.transaction ≡ Some tid
  now : u.transaction ≡ Some tid
  goes : is_closing u.outstanding ≡ false
  server : ServerNo
  work : OpenWork
  found : work_at server t.works ≡ Some work
  its : (W : WorkId) → is_op_of W x ≡ true → work.work ≡ W

abbrev SendsSo : ClientTable → Commanded → Type 0
SendsSo t (Refuses refusal) = Unit {0}
SendsSo t (Sends u to message) = HasNoOp (to, message) ⊎ SendsOwn t u (to, message)

command-so : (t : ClientTable) (j : ℕ) (command : Command) → SendsSo t (command_row t j command)
command-so t j command = by command
  where
    server : (s : ServerNo) (row : Commanded) → SendsSo t row → SendsSo t (if_server t s row)
    server s row k = at (nat_lt s.0 t.servers)
      where
        at : (b : Bool) → SendsSo t (if b then row else Refuses refusals.NoSuchServer)
        at true = k
        at false = tt

    free : (o : Option Outstanding) (row : Commanded) → SendsSo t row → SendsSo t (if_idle o row)
    free None row k = k
    free (Some o) row k = tt

    without : (o : Option Tid) (row : Commanded) → SendsSo t row → SendsSo t (if_no_transaction o row)
    without None row k = k
    without (Some T) row k = tt

    with-one : (o : Option Tid) (row : Tid → Commanded) → t.transaction ≡ o → ((T : Tid) → t.transaction ≡ Some T → SendsSo t (row T)) → SendsSo t (if_transaction o row)
    with-one None row e k = tt
    with-one (Some T) row e k = k T e

    not-open : (o : Option OpenWork) (row : Commanded) → SendsSo t row → SendsSo t (if_not_open o row)
    not-open None row k = k
    not-open (Some v) row k = tt

    is-open : (s : ServerNo) (o : Option OpenWork) (row : OpenWork → Commanded) → work_at s t.works ≡ o → ((v : OpenWork) → work_at s t.works ≡ Some v → SendsSo t (row v)) → SendsSo t (if_open o row)
    is-open s None row e k = tt
    is-open s (Some v) row e k = k v e

    by : (command : Command) → SendsSo t (command_row t j command)
    by (Begin s) = server s _ (free t.outstanding _ (without t.transaction _ (inl tt)))
    by (Open s) = server s _ (free t.outstanding _ (with-one t.transaction _ refl (λ T e. not-open (work_at s t.works) _ (inl tt))))
    by (Do s op) = server s _ (free t.outstanding _ (with-one t.transaction _ refl (λ T e. is-open s (work_at s t.works) _ refl (λ v f. inr (record { tid = T; was = e; now = e; goes = refl; server = s; work = v; found = f; its = λ W k. work_is v.work W k })))))
    by End = free t.outstanding _ (with-one t.transaction _ refl (λ T e. inl tt))
    by Abort = with-one t.transaction _ refl (λ T e. inl tt)

-- ---- every step

module _ (events : List Event) (r : World) (w : Machine) (mirrors : Mirrors r w) (facts : Facts r w) (locks : LockFacts r) (talk : Talk events r w) (owner : WorkId → Tid) (same-owner : (W : WorkId) → w.opened W ≡ true → owner W ≡ w.owner W) where
  abbrev Ok : World → Type 0
  Ok q = Tells events owner r q

  of-quiet : (q : World) → IsQuiet r q → Ok q
  of-quiet q h = record { ops = λ T. inl (h.told.ops events T); asked = λ W e. inl (sym (same-sent W r.sent h.more (silent-nos h.more h.silent)) ∙ ap (op_sent W) (sym h.sent) ∙ e) }

  -- a line that answers nothing
  no-answer : (line : Text) (T : Tid) → AnswersNone line → ops_in events T None (r.lines ++ line ∷ []) ≡ ops_in events T None r.lines
  no-answer line T h = ops-more events T None r.lines (line ∷ []) ∙ ap (λ z. ops_in events T None r.lines ++ (z ++ [])) (by (owner_in T None r.lines)) ∙ append-nil (ops_in events T None r.lines)
    where
      by : (o : Option ClientNo) → answered_by events o line ≡ []
      by None = refl
      by (Some d) = h events d

  -- ---- clients

  -- what it waits for is an operation of its transaction
  its-operation : (c : ClientNo) (o : Outstanding) → (r.clients c).outstanding ≡ Some o → (p : Command) → o.command ≡ p → is_operation p ≡ true → (T : Tid) × ((r.clients c).transaction ≡ Some T)
  its-operation c o e (Do s op) f h = let x = subst (λ (p : Command). IsAsking events c (r.clients c) o p) f ((talk.clients c).asking o e) in (x.tid, x.current)
  its-operation c o e (Begin s) f h = absurd (not_both false h refl)
  its-operation c o e (Open s) f h = absurd (not_both false h refl)
  its-operation c o e End f h = absurd (not_both false h refl)
  its-operation c o e Abort f h = absurd (not_both false h refl)

  own-answer : (c : ClientNo) (u : ClientTable) (line : Text) (q : World) → q.clients ≡ at_client r.clients c u → q.lines ≡ r.lines ++ line ∷ [] → TellsOwn (r.clients c) u line → (T : Tid) → (ops_in events T None q.lines ≡ ops_in events T None r.lines) ⊎ GoesOn q T
  own-answer c u line q clients lines h T = by (owner_in T None r.lines) refl
    where
      alone : (o : Option ClientNo) → owner_in T None r.lines ≡ o → answered_by events o line ≡ [] → ops_in events T None q.lines ≡ ops_in events T None r.lines
      alone o e k = ap (λ l. ops_in events T None l) lines ∙ ops-more events T None r.lines (line ∷ []) ∙ ap (λ z. ops_in events T None r.lines ++ (z ++ [])) (ap (λ o. answered_by events o line) e ∙ k) ∙ append-nil (ops_in events T None r.lines)

      its : (T' : Tid) × ((r.clients c).transaction ≡ Some T')
      its = its-operation c h.waits h.was h.waits.command refl h.operation

      goes : (r.clients c).transaction ≡ Some T → GoesOn q T
      goes e = let now = ap (λ f. f c) clients ∙ at-own r.clients c u ∙ h.now in (c, ap (λ (z : ClientTable). z.transaction) now ∙ e, ap (λ (z : ClientTable). is_closing z.outstanding) now)

      none : {A : Type 0} → {a : A} → None ≡ Some a → ⊥
      none e = cc

      mine : ((r.clients c).transaction ≡ None) ⊎ ((r.clients c).transaction ≡ Some T) → GoesOn q T
      mine (inl e) = absurd (none (sym e ∙ its.1))
      mine (inr e) = goes e

      by : (o : Option ClientNo) → owner_in T None r.lines ≡ o → (ops_in events T None q.lines ≡ ops_in events T None r.lines) ⊎ GoesOn q T
      by None e = inl (alone None e refl)
      by (Some d) e = at (client_tells d c)
        where
          at : ((client_eq d c ≡ true) × (d ≡ c)) ⊎ ((client_eq d c ≡ false) × (d ≢ c)) → (ops_in events T None q.lines ≡ ops_in events T None r.lines) ⊎ GoesOn q T
          at (inl p) = inr (mine (talk.owners T c (e ∙ ap (λ (z : ClientNo). Some z) p.1)))
          at (inr p) = inl (alone (Some d) e (ap (λ l. answered events d l) h.is ∙ other-line events d (r.clients c).client h.event h.answer (subst (λ (z : ClientNo). client_eq d z ≡ false) (sym (facts.clients c).name) p.0)))

  thanks-none : (x : Sent) → IsThanks x → HasNoOp x
  thanks-none (Server s, messages.Thanks c T) h = tt
  thanks-none (Client d, messages.Op c q W n op) h = absurd h
  thanks-none (Server d, messages.Op c q W n op) h = absurd h
  thanks-none (to, _) h = tt

  told-so : (c : ClientNo) (u : ClientTable) (line : Text) (q : World) → q.clients ≡ at_client r.clients c u → q.lines ≡ r.lines ++ line ∷ [] → AnswersNone line ⊎ TellsOwn (r.clients c) u line → (T : Tid) → (ops_in events T None q.lines ≡ ops_in events T None r.lines) ⊎ GoesOn q T
  told-so c u line q clients lines (inl h) T = inl (ap (λ l. ops_in events T None l) lines ∙ no-answer line T h)
  told-so c u line q clients lines (inr h) T = own-answer c u line q clients lines h T

  takings : (c : ClientNo) (k : ℕ) (u : ClientTable) (what : Taken) → SaysSo (r.clients c) (u, what) → Takes w u what → Ok (took c k u what r)
  takings c k u taken.Ignored h t = record { ops = λ T. inl (no-answer (says.Ignored k) T (λ events d. refl)); asked = λ W e. inl e }
  takings c k u (taken.Send to message) h t = record { ops = λ T. inl refl; asked = λ W e. inl (sym (same-sent W r.sent ((to, message) ∷ []) (thanks-none (to, message) t.1, tt)) ∙ e) }
  takings c k u (taken.Told line None) h t = record { ops = told-so c u line (took c k u (taken.Told line None) r) refl refl h; asked = λ W e. inl (sym (same-sent W r.sent [] tt) ∙ e) }
  takings c k u (taken.Told line (Some x)) h t = record { ops = told-so c u line (took c k u (taken.Told line (Some x)) r) refl refl h; asked = λ W e. inl (sym (same-sent W r.sent (x ∷ []) (thanks-none x t.2, tt)) ∙ e) }

  -- the work of an operation that it sends
  its-owner : (c : ClientNo) (T : Tid) → (r.clients c).transaction ≡ Some T → (s : ServerNo) (v : OpenWork) → work_at s (r.clients c).works ≡ Some v → owner v.work ≡ T
  its-owner c T e s v f = let of = (found-open w T s (r.clients c).works v ((subst (λ o. IsCurrent w o (r.clients c).works) e (mirrors.clients c).current).1) f).0 in same-owner v.work of.0 ∙ of.1

  one-more : (W : WorkId) (x : Sent) (P : Type 0) → op_sent W (r.sent ++ x ∷ []) ≡ true → (is_op_of W x ≡ true → P) → (op_sent W r.sent ≡ true) ⊎ P
  one-more W x P e h = by (op_sent W r.sent) (is_op_of W x) refl (sym (op_sent-more W r.sent (x ∷ [])) ∙ e)
    where
      last : (b : Bool) → (false || (b || false)) ≡ true → b ≡ true
      last b k = grind arith

      by : (a b : Bool) → is_op_of W x ≡ b → (a || (b || false)) ≡ true → (a ≡ true) ⊎ P
      by true b f k = inl refl
      by false b f k = inr (h (f ∙ last b k))

  commandings : (c : ClientNo) (command : Command) (row : Commanded) → Commands r.event command row → SendsSo (r.clients c) row → Ok (commanded c row r)
  commandings c command (Refuses refusal) h k = record { ops = λ T. inl (no-answer (says.Refused c r.event refusal) T (own-none c r.event refusal h)); asked = λ W e. inl e }
  commandings c command (Sends u to message) h (inl k) = record { ops = λ T. inl refl; asked = λ W e. inl (sym (same-sent W r.sent ((to, message) ∷ []) (k, tt)) ∙ e) }
  commandings c command (Sends u to message) h (inr k) = record {
    ops = λ T. inl refl;
    asked = λ W e. one-more W (to, message) _ e (λ f. (
      c,
      ap (λ (z : ClientTable). z.transaction) (at-own r.clients c u) ∙ k.now ∙ ap (λ (T : Tid). Some T) (sym (its-owner c k.tid k.was k.server k.work k.found) ∙ ap owner (k.its W f)),
      ap (λ (z : ClientTable). is_closing z.outstanding) (at-own r.clients c u) ∙ k.goes,
    ));
  }

  silent-none : (W : WorkId) (y : Sent) → IsSilent y → is_op_of W y ≡ true → ⊥
  silent-none W (to, messages.Op d request V number op) h k = h
  silent-none W (to, _) h k = not_both false k refl

  again-asked : (c : ClientNo) (o : Outstanding) → (r.clients c).outstanding ≡ Some o → (p : Command) → o.command ≡ p → IsAsking events c (r.clients c) o p → (W : WorkId) → is_op_of W (o.to, o.message) ≡ true → GoesOn r (owner W)
  again-asked c o e (Do s op) f x W k = (
    c,
    x.current ∙ ap (λ (T : Tid). Some T) (sym (its-owner c x.tid x.current s x.work x.is) ∙ ap owner (work_is x.work.work W (subst (λ (m : Message). is_op_of W (o.to, m) ≡ true) x.message k))),
    ap is_closing e ∙ ap is_end_or_abort f,
  )
  again-asked c o e (Begin s) f x W k = absurd (silent-none W (o.to, o.message) x k)
  again-asked c o e (Open s) f x W k = absurd (silent-none W (o.to, o.message) x k)
  again-asked c o e End f x W k = absurd (silent-none W (o.to, o.message) x k)
  again-asked c o e Abort f x W k = absurd (silent-none W (o.to, o.message) x k)

  agains : (c : ClientNo) (o : Option Outstanding) → (r.clients c).outstanding ≡ o → Ok (record r { sent = r.sent ++ sent_now (sent_again o) })
  agains c None e = record { ops = λ T. inl refl; asked = λ W k. inl (sym (same-sent W r.sent [] tt) ∙ k) }
  agains c (Some o) e = record { ops = λ T. inl refl; asked = λ W k. one-more W (o.to, o.message) _ k (again-asked c o e o.command refl ((talk.clients c).asking o e) W) }

  -- ---- every step

  by-case : (step : Step) (now : World) → TellCase r step now → Ok now
  by-case _ _ (is_quiet step now h) = of-quiet now h
  by-case _ _ (client_is_told c command row e) = commandings c command row (subst (Commands r.event command) e (commands (r.clients c) r.event command)) (subst (SendsSo (r.clients c)) e (command-so (r.clients c) r.event command))
  by-case _ _ (client_takes step c k message row is e) = takings c k row.0 row.1 (subst (SaysSo (r.clients c)) e (takes-so (r.clients c) message))
      (subst (λ x. Takes w x.0 x.1) e (takes w (r.clients c) (mirrors.clients c) message (holds-of (IsTrue w) r.sent k (Client c, message) mirrors.says is)))
  by-case _ _ (client_asks_again c) = agains c (r.clients c).outstanding refl
  by-case _ _ clients_dismissed = record { ops = λ T. inl refl; asked = λ W e. inl e }
  by-case _ _ (server_operates step s m k d request W number op e is) = let row = worker.op_row (asked_here m.worker (stable (r.found s)).files m.tickets) (asked_for d request number op) W (worker.work_at W m.worker) in record {
    ops = λ T. inl ((same-told r.lines (lines_of s (Some k) row.notes) (lines-dumb s (Some k) row.notes)).ops events T);
    asked = λ V f. inl (sym (same-sent V r.sent row.messages (op-plain (asked_here m.worker (stable (r.found s)).files m.tickets) (asked_for d request number op) W (worker.work_at W m.worker)).1) ∙ f);
  }

  pub step-tells : (step : Step) → Ok (after step r)
  step-tells step = by-case step (after step r) (tell-case r locks step)
