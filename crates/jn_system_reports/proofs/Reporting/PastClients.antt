-- A client's steps keep what is past for it, and what it sends says what is past.
use Rattle.jn_system_reports.proofs.Common.{◌≡◌, ◌≢◌, ◌⊎◌, inl, inr, ◌<◌, ◌≤◌, ℕ, ◌+◌, Bool, true, false, List, [], ◌++◌, append-nil, Option, Some, None, is_some, refl, sym, ◌∙◌, ap, subst, arith, if◌then◌else◌, nat_lt, ServerNo, ClientNo, Tid, WorkId, Cause, Requested, Party, Client, Server, Command, Begin, Open, Do, End, Abort, client_eq, tid_eq, client_tells, tid_tells, Message, Outcome, Text, OpenWork, Outstanding, Taken, StableState, Pick, Sent, ClientTable, Commanded, Refuses, Sends, names_of, if_server, if_idle, if_transaction, if_no_transaction, if_open, if_not_open, command_row, is_tid, is_current, if_waits, over, begun_row, opened_row, decided_row, outcome_row, take_row, Machine, not_both, Memory, at_client, Opening, openings, Has, Began, request_of, RequestNo, one-client}
use Rattle.jn_msgs.specs.declared.message.Message.TheVariants as messages
use Rattle.jn_msgs.specs.declared.message.Outcome.TheVariants as outcomes
use Rattle.jn_report.specs.declared.line.Refusal.TheVariants as refusals
use Rattle.jn_rows.specs.declared.client.Taken.TheVariants as taken
use Rattle.jn_rows.specs.Client.{work_at}
use Rattle.jn_system_order.proofs.Ordering.Facts.{opening}
use Rattle.jn_system_reports.proofs.Reporting.Lists.{Each, each-append, each-more}
use Rattle.jn_system_reports.proofs.Reporting.Known.{IsPast}
use Rattle.jn_system_reports.proofs.Reporting.ClientTalk.{TableGoes}
use Rattle.jn_system_reports.proofs.Reporting.Past.{WasHad, EndedBy, BeganBy, Past, OutcomeFact, SaysPast, EntryFact, FlagPast, Goes, says-goes, entry-goes, flag-goes}
use Rattle.jn_system_reports.proofs.Reporting.PastSteps.{PastFacts}

-- ---- one table

module _ (os : List Opening) (c : ClientNo) (t u : ClientTable) (g : TableGoes os c t u) where
  drawn-on : (n : ℕ) → n < t.next → n < u.next
  drawn-on n k = omega (arith, g.next)

  not-new : (p q : RequestNo) → q.0 < t.next → t.next ≤ p.0 → p ≢ q
  not-new p q k l e = let same = ap (λ (z : RequestNo). z.0) e in omega (arith, k, l, same)

  answered-on : (q : RequestNo) → q.0 < t.next → ((o : Outstanding) → t.outstanding ≡ Some o → o.request ≢ q) → (o : Outstanding) → u.outstanding ≡ Some o → o.request ≢ q
  answered-on q k h o e = by (g.fresh o e)
    where
      by : (t.outstanding ≡ Some o) ⊎ (t.next ≤ o.request.0) → o.request ≢ q
      by (inl f) = h o f
      by (inr l) = not-new o.request q k l

  pub ended-on : (T : Tid) (q : RequestNo) → EndedBy os c t T q → EndedBy os c u T q
  ended-on T q h = record { had = record { request = h.had.request; has = h.had.has; drawn = drawn-on h.had.request.0 h.had.drawn; answered = answered-on h.had.request h.had.drawn h.had.answered }; later = h.later }

  pub past-on : (T : Tid) → IsPast os c t T → IsPast os c u T
  past-on T h = record { request = h.request; has = h.has; drawn = drawn-on h.request.0 h.drawn; over = λ e. by (g.has T e); answered = answered-on h.request h.drawn h.answered }
    where
      by : (t.transaction ≡ Some T) ⊎ ((x : Outstanding) × (t.outstanding ≡ Some x) × ((q : RequestNo) → Has (opening c q T) os → x.request ≡ q)) → ⊥
      by (inl e) = h.over e
      by (inr x) = h.answered x.0 x.1 (x.2 h.request h.has)

  pub began-on : ((o : Outstanding) → t.outstanding ≡ Some o → t.next ≡ o.request.0 + 1) → (q : RequestNo) → BeganBy os c t q → BeganBy os c u q
  began-on last q h = record { drawn = drawn-on q.0 h.drawn; now = λ T p e k. by T p k (g.has T e) }
    where
      up-to : (a : ℕ) (b : RequestNo) (n : ℕ) (m : RequestNo) → a < n → n ≡ b.0 + 1 → b ≡ m → a ≤ m.0
      up-to a b n m k e f = let same = ap (λ (z : RequestNo). z.0) f in omega (arith, k, e, same)

      by : (T : Tid) (p : RequestNo) → Has (opening c p T) os → (t.transaction ≡ Some T) ⊎ ((x : Outstanding) × (t.outstanding ≡ Some x) × ((q : RequestNo) → Has (opening c q T) os → x.request ≡ q)) → q.0 ≤ p.0
      by T p k (inl e) = h.now T p e k
      by T p k (inr x) = up-to q.0 x.0.request t.next p h.drawn (last x.0 x.1) (x.2 p k)

-- ---- all tables

module _ (sent : List Sent) (clients : ClientNo → ClientTable) (memory : ServerNo → Option Memory) (found : ServerNo → Pick → StableState) (w v : Machine) (Caused Caused' : ClientNo → Tid → Cause → Type 0) (past : PastFacts sent clients memory found w Caused)
    (caused : (c : ClientNo) (T : Tid) (cause : Cause) → Caused c T cause → Caused' c T cause) (aborted : (T : Tid) → w.aborted T ≡ true → v.aborted T ≡ true) (grown : (T : Tid) → w.named T ≡ true → v.named T ≡ true)
    (named : (T : Tid) → v.named T ≡ true → w.named T ≡ true) where
  module _ (clients' : ClientNo → ClientTable) (g : (c : ClientNo) → TableGoes (openings sent) c (clients c) (clients' c)) where
    goes : Goes (openings sent) (openings sent) clients clients' w v Caused Caused'
    goes = record {
      opened = λ a h. h;
      next = λ d n h. drawn-on (openings sent) d (clients d) (clients' d) (g d) n h;
      had = λ d T n h. ended-on (openings sent) d (clients d) (clients' d) (g d) T n h;
      past = λ d T h. past-on (openings sent) d (clients d) (clients' d) (g d) T h;
      began = λ d n h. began-on (openings sent) d (clients d) (clients' d) (g d) (past.last d) n h;
      caused = caused;
      aborted = aborted;
      named = grown;
    }

    clients-past : (more : List Sent) → openings (sent ++ more) ≡ openings sent → ((c : ClientNo) (o : Outstanding) → (clients' c).outstanding ≡ Some o → (clients' c).next ≡ o.request.0 + 1) → Each (SaysPast (openings sent) clients' v Caused') more
        → PastFacts (sent ++ more) clients' memory found v Caused'
    clients-past more same last says = record {
      last = last;
      says = subst (λ l. Each (SaysPast l clients' v Caused') (sent ++ more)) (sym same) (each-append (SaysPast (openings sent) clients' v Caused') sent more
          (each-more (SaysPast (openings sent) clients w Caused) (SaysPast (openings sent) clients' v Caused') sent (says-goes _ _ _ _ _ _ _ _ goes) past.says) says);
      entries = λ s m e. subst (λ l. Each (EntryFact l clients' v Caused' m.coordinator.seen) m.coordinator.transactions) (sym same)
          (each-more (EntryFact (openings sent) clients w Caused m.coordinator.seen) (EntryFact (openings sent) clients' v Caused' m.coordinator.seen) m.coordinator.transactions (entry-goes _ _ _ _ _ _ _ _ goes m.coordinator.seen) (past.entries s m e));
      flags = λ s p T. subst (λ l. FlagPast l clients' v Caused' T ((found s p).flags T)) (sym same) (flag-goes _ _ _ _ _ _ _ _ goes T ((found s p).flags T) (past.flags s p T));
      held = past.held;
      named = λ T p e. by T p (past.named T p (named T e));
    }
      where
        by : (T : Tid) (p : Pick) → (is_some ((found T.server p).flags T) ≡ true) ⊎ ((d : ClientNo) × Past (openings sent) clients w Caused d T) → (is_some ((found T.server p).flags T) ≡ true) ⊎ ((d : ClientNo) × Past (openings (sent ++ more)) clients' v Caused' d T)
        by T p (inl k) = inl k
        by T p (inr k) = inr (k.0, subst (λ l. IsPast l k.0 (clients' k.0) T) (sym same) (goes.past k.0 T k.1))

  no-fall : (n : ℕ) → n ≤ n
  no-fall n = omega arith

  module _ (c : ClientNo) (u : ClientTable) (g : TableGoes (openings sent) c (clients c) u) where
    pub client-past : (more : List Sent) → openings (sent ++ more) ≡ openings sent → ((o : Outstanding) → u.outstanding ≡ Some o → u.next ≡ o.request.0 + 1) → Each (SaysPast (openings sent) (at_client clients c u) v Caused') more
        → PastFacts (sent ++ more) (at_client clients c u) memory found v Caused'
    client-past more same last says = clients-past (at_client clients c u)
        (one-client (λ d (t : ClientTable). TableGoes (openings sent) d (clients d) t) clients c u g (λ d other. record { next = no-fall (clients d).next; fresh = λ o e. inl e; has = λ T e. inl e }))
        more same (one-client (λ d (t : ClientTable). (o : Outstanding) → t.outstanding ≡ Some o → t.next ≡ o.request.0 + 1) clients c u last (λ d other. past.last d)) says

  pub dismiss-past : PastFacts sent (λ c. over (clients c)) memory found v Caused'
  dismiss-past = subst (λ l. PastFacts l (λ c. over (clients c)) memory found v Caused') (append-nil sent) (clients-past (λ c. over (clients c))
      (λ c. record { next = no-fall (clients c).next; fresh = λ o e. absurd (none-out o e); has = λ T e. absurd (none-tid T e) }) [] (ap openings (append-nil sent)) (λ c o e. absurd (none-out o e)) tt)
    where
      none-out : (o : Outstanding) → None ≡ Some o → ⊥
      none-out o e = cc

      none-tid : (T : Tid) → None ≡ Some T → ⊥
      none-tid T e = cc

-- ---- what a client sends

module _ (os : List Opening) (clients : ClientNo → ClientTable) (w v : Machine) (Caused Caused' : ClientNo → Tid → Cause → Type 0) (c : ClientNo) (name : (clients c).client ≡ c) (began : (T : Tid) → (clients c).transaction ≡ Some T → Began os c (clients c).next T) where
  abbrev t : ClientTable
  t = clients c

  -- of the table that is now the client's
  own-table : (u : ClientTable) (d : ClientNo) → d ≡ c → at_client clients c u d ≡ u
  own-table u d e = one-client (λ d z. d ≡ c → z ≡ u) clients c u (λ e. refl) (λ d other e. absurd (other (sym e))) d e

  -- a fact of the client with its new table
  here : (P : ClientNo → ClientTable → Type 0) (u : ClientTable) → P c u → P t.client (at_client clients c u t.client)
  here P u h = subst (λ (z : ClientTable). P t.client z) (sym (own-table u t.client name)) (subst (λ (d : ClientNo). P d u) (sym name) h)

  -- ---- a command

  abbrev pub CommandSays : Commanded → Type 0
  CommandSays (Refuses refusal) = Unit {0}
  CommandSays (Sends u to message) = SaysPast os (at_client clients c u) v Caused' (to, message)

  at-server : (s : ServerNo) (row : Commanded) → CommandSays row → CommandSays (if_server t s row)
  at-server s row k = by (nat_lt s.0 t.servers)
    where
      by : (b : Bool) → CommandSays (if b then row else Refuses refusals.NoSuchServer)
      by true = k
      by false = tt

  where-idle : (o : Option Outstanding) (row : Commanded) → CommandSays row → CommandSays (if_idle o row)
  where-idle None row k = k
  where-idle (Some o) row k = tt

  without-one : (o : Option Tid) (row : Commanded) → t.transaction ≡ o → (t.transaction ≡ None → CommandSays row) → CommandSays (if_no_transaction o row)
  without-one None row e k = k e
  without-one (Some T) row e k = tt

  with-one : (o : Option Tid) (row : Tid → Commanded) → t.transaction ≡ o → ((T : Tid) → t.transaction ≡ Some T → CommandSays (row T)) → CommandSays (if_transaction o row)
  with-one None row e k = tt
  with-one (Some T) row e k = k T e

  where-none : (o : Option OpenWork) (row : Commanded) → CommandSays row → CommandSays (if_not_open o row)
  where-none None row k = k
  where-none (Some x) row k = tt

  where-open : (o : Option OpenWork) (row : OpenWork → Commanded) → ((x : OpenWork) → CommandSays (row x)) → CommandSays (if_open o row)
  where-open None row k = tt
  where-open (Some x) row k = k x

  below : (n : ℕ) → n < n + 1
  below n = omega arith

  on : (n m : ℕ) → n < m → n < m + 1
  on n m k = omega arith

  not-it : (q : RequestNo) (n : ℕ) → q.0 < n → request_of n ≢ q
  not-it q n k e = let same = ap (λ (z : RequestNo). z.0) e in omega (arith, k, same)

  abbrev waiting : ℕ → Command → Party → Message → ClientTable
  waiting j command to message = record t { next = t.next + 1; outstanding = Some (record { event = j; request = request_of t.next; command = command; to = to; message = message }) }

  some-out : (o p : Outstanding) → Some o ≡ Some p → o ≡ p
  some-out o p e = cc

  none-tid : (T : Tid) → None ≡ Some T → ⊥
  none-tid T e = cc

  had-now : (j : ℕ) (command : Command) (to : Party) (message : Message) (T : Tid) (b : Began os c t.next T) → WasHad os c (waiting j command to message) T
  had-now j command to message T b = record { request = b.request; has = b.has; drawn = on b.request.0 t.next b.drawn; answered = λ o e. subst (λ (z : Outstanding). z.request ≢ b.request) (some-out _ o e) (not-it b.request t.next b.drawn) }

  pub command-says : (j : ℕ) (command : Command) (requested : command ≡ Abort → (T : Tid) → t.transaction ≡ Some T → Caused' c T Requested) → CommandSays (command_row t j command)
  command-says j (Begin s) requested = at-server s _ (where-idle t.outstanding _ (without-one t.transaction _ refl (λ e. here (λ d (x : ClientTable). BeganBy os d x (request_of t.next)) (waiting j (Begin s) (Server s) (messages.Begin t.client (request_of t.next)))
      (record { drawn = below t.next; now = λ T q f k. absurd (none-tid T (sym e ∙ f)) }))))
  command-says j (Open s) requested = at-server s _ (where-idle t.outstanding _ (with-one t.transaction _ refl (λ T e. where-none (work_at s t.works) _ tt)))
  command-says j (Do s op) requested = at-server s _ (where-idle t.outstanding _ (with-one t.transaction _ refl (λ T e. where-open (work_at s t.works) _ (λ x. tt))))
  command-says j End requested = where-idle t.outstanding _ (with-one t.transaction _ refl (λ T e. let to = Server T.server in let message = messages.End t.client (request_of t.next) T (names_of t.works) in
      here (λ d (x : ClientTable). EndedBy os d x T (request_of t.next)) (waiting j End to message) (ended j T (began T e))))
    where
      ended : (j : ℕ) (T : Tid) (b : Began os c t.next T) → EndedBy os c (waiting j End (Server T.server) (messages.End t.client (request_of t.next) T (names_of t.works))) T (request_of t.next)
      ended j T b = record { had = record { request = b.request; has = b.has; drawn = on b.request.0 t.next b.drawn; answered = λ o e. subst (λ (z : Outstanding). z.request ≢ b.request) (some-out _ o e) (not-it b.request t.next b.drawn) }; later = b.drawn }
  command-says j Abort requested = with-one t.transaction _ refl (λ T e. let to = Server T.server in let message = messages.Abort t.client (request_of t.next) T (names_of t.works) in
      (here (λ d (x : ClientTable). WasHad os d x T) (waiting j Abort to message) (had-now j Abort to message T (began T e)), subst (λ (d : ClientNo). Caused' d T Requested) (sym name) (requested refl T e)))

  -- ---- a message

  abbrev pub TakenSays : ClientTable × Taken → Type 0
  TakenSays (u, taken.Ignored) = Unit {0}
  TakenSays (u, taken.Send to message) = SaysPast os (at_client clients c u) v Caused' (to, message)
  TakenSays (u, taken.Told line None) = Unit {0}
  TakenSays (u, taken.Told line (Some x)) = SaysPast os (at_client clients c u) v Caused' x

  waits-says : (o : Option Outstanding) (test : Outstanding → Bool) (row : ℕ → ClientTable × Taken) → ((j : ℕ) → TakenSays (row j)) → TakenSays (if_waits t o test row)
  waits-says None test row h = tt
  waits-says (Some o) test row h = by (test o)
    where
      by : (b : Bool) → TakenSays (if b then row o.event else (t, taken.Ignored))
      by true = h o.event
      by false = tt

  either : (b : Bool) (p q : ClientTable × Taken) → (b ≡ true → TakenSays p) → (b ≡ false → TakenSays q) → TakenSays (if b then p else q)
  either true p q h k = h refl
  either false p q h k = k refl

  none-out : (o : Outstanding) → None ≡ Some o → ⊥
  none-out o e = cc

  over-past : (T : Tid) → Began os c t.next T → IsPast os c (over t) T
  over-past T b = record { request = b.request; has = b.has; drawn = b.drawn; over = λ e. none-tid T e; answered = λ o e. absurd (none-out o e) }

  is-its : (T : Tid) → is_current t T ≡ true → t.transaction ≡ Some T
  is-its T e = by t.transaction e
    where
      by : (o : Option Tid) → is_tid T o ≡ true → o ≡ Some T
      by None k = absurd (grind arith)
      by (Some U) k = same (tid_tells T U) k
        where
          same : ((tid_eq T U ≡ true) × (T ≡ U)) ⊎ ((tid_eq T U ≡ false) × (T ≢ U)) → tid_eq T U ≡ true → Some U ≡ Some T
          same (inl p) k = ap (λ (z : Tid). Some z) (sym p.1)
          same (inr p) k = absurd (not_both (tid_eq T U) k p.0)

  not-its : (T : Tid) → is_current t T ≡ false → t.transaction ≢ Some T
  not-its T e f = not_both (tid_eq T T) (self (tid_tells T T)) (sym (ap (λ o. is_tid T o) f) ∙ e)
    where
      self : ((tid_eq T T ≡ true) × (T ≡ T)) ⊎ ((tid_eq T T ≡ false) × (T ≢ T)) → tid_eq T T ≡ true
      self (inl p) = p.0
      self (inr p) = absurd (p.1 refl)

  decided-says : (T : Tid) (line : ℕ → Text) → WasHad os c t T → TakenSays (decided_row t T line)
  decided-says T line had = either (is_current t T) _ _ (λ e. waits-says t.outstanding _ _ (λ j. here (λ d (x : ClientTable). IsPast os d x T) (over t) (over-past T (began T (is-its T e)))))
      (λ e. here (λ d (x : ClientTable). IsPast os d x T) t (record { request = had.request; has = had.has; drawn = had.drawn; over = not-its T e; answered = had.answered }))

  outcome-says : (T : Tid) (outcome : Outcome) → OutcomeFact os clients w Caused c T outcome → TakenSays (outcome_row t T outcome)
  outcome-says T outcomes.Committed h = decided-says T _ h
  outcome-says T (outcomes.Aborted cause) h = decided-says T _ h.0
  outcome-says T (outcomes.Waiting s u by) h = either (is_current t T) _ _ (λ e. waits-says t.outstanding _ _ (λ j. tt)) (λ e. tt)
  outcome-says T (outcomes.NotKnown s epoch) h = either (is_current t T) _ _ (λ e. waits-says t.outstanding _ _ (λ j. tt)) (λ e. tt)

  same-client : (d : ClientNo) → client_eq d t.client ≡ true → d ≡ c
  same-client d e = grind (arith, client_tells d t.client, e, name)

  pub take-says : (message : Message) → SaysPast os clients w Caused (Client c, message) → TakenSays (take_row t message)
  take-says (messages.Begun d q o) h = waits-says t.outstanding _ _ (λ j. begun j o)
    where
      begun : (j : ℕ) (o : Option Tid) → TakenSays (begun_row t j o)
      begun j None = tt
      begun j (Some T) = tt
  take-says (messages.Opened d q T o) h = waits-says t.outstanding _ _ (λ j. opened j o)
    where
      opened : (j : ℕ) (o : Option WorkId) → TakenSays (opened_row t j o)
      opened j None = tt
      opened j (Some W) = tt
  take-says (messages.Answer d q answer) h = waits-says t.outstanding _ _ (λ j. tt)
  take-says (messages.Outcome d T outcome) h = either (client_eq d t.client) _ _ (λ e. outcome-says T outcome (subst (λ (z : ClientNo). OutcomeFact os clients w Caused z T outcome) (same-client d e) h)) (λ e. tt)
  take-says _ h = tt
