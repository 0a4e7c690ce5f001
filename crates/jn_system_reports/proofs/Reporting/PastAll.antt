-- Every step keeps what holds of transactions that are past.
use Rattle.jn_system_reports.proofs.Common.{◌≡◌, ◌⊎◌, inl, ℕ, ◌+◌, true, List, [], ◌∷◌, ◌++◌, append-nil, Option, Some, None, refl, sym, ◌∙◌, ap, subst, slice_get, nat_lt, ServerNo, ClientNo, Tid, Cause, Requested, LostAt, FullAt, Command, Abort, Client, Server, Resource, Message, Text, Outstanding, Taken, stable, Sent, worker_row, transaction_at, ClientTable, Commanded, take_row, sent_again, Machine, Invariant, World, Memory, at_client, commits_in, has_line, Room, storage_of, Step, Tell, IsStep, after, sent_now, LockFacts, Mirrors, IsTrue, IsCurrent, AreOpen, IsThanks, Takes, takes, holds-of, Opening, opening_in, openings, openings-more, Has, Facts, Began, CommandFacts, command-facts, all-have-theirs, ClientRow, by_command, by_ignoring, by_answering, by_telling, Quiet, event_begins, none_changes, is_refused, client_repeats, server_repeats, is_lost, StepCase, client_row, row_done, row_stopped, gone_late, gone_down, come_up, found_anew, dismissed, quietly, step-case}
use Rattle.jn_msgs.specs.declared.message.Message.TheVariants as messages
use Rattle.jn_report.specs.declared.line.Text.TheVariants as says
use Rattle.jn_rows.specs.declared.client.Taken.TheVariants as taken
use Rattle.jn_system_order.proofs.Ordering.Facts.{opening}
use Rattle.jn_system_reports.proofs.Reporting.Lists.{In, Each, each-in, get-in}
use Rattle.jn_system_reports.proofs.Reporting.ClientTalk.{TableGoes, CommandTalks, command-talks, TakeTalks, take-talks}
use Rattle.jn_system_reports.proofs.Reporting.Talk.{Talk}
use Rattle.jn_system_reports.proofs.Reporting.Past.{Had, Past, SaysPast}
use Rattle.jn_system_reports.proofs.Reporting.PastSteps.{PastFacts}
use Rattle.jn_system_reports.proofs.Reporting.PastWorld.{Later, quiet-past, same-past, same-names, sent-past, again-past, row-done-past, row-stopped-past, late-past, down-past, up-past, anew-past}
use Rattle.jn_system_reports.proofs.Reporting.PastClients.{client-past, dismiss-past, CommandSays, command-says, TakenSays, take-says}

no-more : (sent : List Sent) (x : Sent) → opening_in x ≡ [] → openings (sent ++ x ∷ []) ≡ openings sent
no-more sent x e = openings-more sent (x ∷ []) ∙ ap (λ l. openings sent ++ (l ++ [])) e ∙ append-nil (openings sent)

thanks-none : (x : Sent) → IsThanks x → opening_in x ≡ []
thanks-none (Server s, messages.Thanks c T) h = refl
thanks-none (Client d, messages.Begun c q T) h = absurd h
thanks-none (Server d, messages.Begun c q T) h = absurd h
thanks-none (to, _) h = refl

module _ (r : World) (w v : Machine) (Caused Caused' : ClientNo → Tid → Cause → Type 0) (past : PastFacts r.sent r.clients r.memory r.found w Caused)
    (caused : (c : ClientNo) (T : Tid) (cause : Cause) → Caused c T cause → Caused' c T cause) (aborted : (T : Tid) → w.aborted T ≡ true → v.aborted T ≡ true) (grown : (T : Tid) → w.named T ≡ true → v.named T ≡ true)
    (named : (T : Tid) → w.named T ≡ has_line T r.lines) (full : (c : ClientNo) (T : Tid) (s : ServerNo) (n : Resource) (free need : ℕ) → nat_lt free need ≡ true → Caused c T (FullAt s n free need))
    (mirrors : Mirrors r w) (inv : Invariant w) (locks : LockFacts r) (facts : Facts r w) (talk : Talk r w)
    (votes : (s : ServerNo) (m : Memory) → r.memory s ≡ Some m → (room : Room) (message : Message) → In (Server s, message) r.sent → Each (SaysPast (openings r.sent) r.clients w Caused) (worker_row m.worker (storage_of m (stable (r.found s)) room) m.tickets message).messages)
    (lost : (s : ServerNo) (m : Memory) → r.memory s ≡ Some m → (c : ClientNo) (T : Tid) → T.server ≡ s → transaction_at T m.coordinator.transactions ≡ None → Had (openings r.sent) r.clients w Caused c T → Past (openings r.sent) r.clients w Caused c T ⊎ Caused c T (LostAt s)) where
  runs : (c : ClientNo) (T : Tid) → (r.clients c).transaction ≡ Some T → Began (openings r.sent) c (r.clients c).next T
  runs c T e = (facts.clients c).current T e

  current : (c : ClientNo) (T : Tid) → (r.clients c).transaction ≡ Some T → AreOpen w T (r.clients c).works
  current c T e = (subst (λ o. IsCurrent w o (r.clients c).works) e (mirrors.clients c).current).1

  abbrev Now : World → Type 0
  Now q = PastFacts q.sent q.clients q.memory q.found v Caused'

  -- a client's table changes, and it sends this
  one-client : (c : ClientNo) (u : ClientTable) (more : List Sent) → TableGoes (openings r.sent) c (r.clients c) u → openings (r.sent ++ more) ≡ openings r.sent → ((o : Outstanding) → u.outstanding ≡ Some o → u.next ≡ o.request.0 + 1)
      → Each (SaysPast (openings r.sent) (at_client r.clients c u) v Caused') more → ((T : Tid) → v.named T ≡ true → w.named T ≡ true) → PastFacts (r.sent ++ more) (at_client r.clients c u) r.memory r.found v Caused'
  one-client c u more g none last says same = client-past r.sent r.clients r.memory r.found w v Caused Caused' past caused aborted grown same c u g more none last says

  same-of : (texts : List Text) → commits_in texts ≡ [] → ((T : Tid) → v.named T ≡ has_line T (r.lines ++ texts)) → (T : Tid) → v.named T ≡ true → w.named T ≡ true
  same-of texts none l = same-names r w v Caused Caused' past caused aborted grown runs named facts.unique full texts none l

  none-same : ((T : Tid) → v.named T ≡ has_line T r.lines) → (T : Tid) → v.named T ≡ true → w.named T ≡ true
  none-same l T e = named T ∙ sym (l T) ∙ e

  quiet : (texts : List Text) → commits_in texts ≡ [] → ((T : Tid) → v.named T ≡ has_line T (r.lines ++ texts)) → PastFacts r.sent r.clients r.memory r.found v Caused'
  quiet texts none l = quiet-past r w v Caused Caused' past caused aborted grown runs named facts.unique full mirrors inv locks votes lost texts none l

  same : ((T : Tid) → v.named T ≡ has_line T r.lines) → PastFacts r.sent r.clients r.memory r.found v Caused'
  same l = same-past r w v Caused Caused' past caused aborted grown runs named facts.unique full mirrors inv locks votes lost l

  -- ---- clients

  abbrev Tells : ClientNo → Commanded → Type 0
  Tells c row = CommandTalks (openings r.sent) w w.ended r.sent c (r.clients c) (facts.clients c) facts.unique (talk.waits c) (current c) row
      × CommandFacts (openings r.sent) w.ended c (r.clients c) (facts.clients c) (λ T q h e. facts.drawn (opening c q T) h e) row × CommandSays (openings r.sent) r.clients w v Caused Caused' c (facts.clients c).name (runs c) row

  abbrev Hears : ClientNo → ClientTable × Taken → Type 0
  Hears c row = TakeTalks (openings r.sent) w w.ended r.sent c (r.clients c) (facts.clients c) facts.unique (talk.waits c) (current c) row
      × Takes w row.0 row.1 × TakenSays (openings r.sent) r.clients w v Caused Caused' c (facts.clients c).name (runs c) row

  hears : (c : ClientNo) (k : ℕ) (message : Message) (row : ClientTable × Taken) → slice_get r.sent k ≡ Some (Client c, message) → take_row (r.clients c) message ≡ row → Hears c row
  hears c k message row i e = subst (λ (x : ClientTable × Taken). Hears c x) e (
    take-talks (openings r.sent) w w.ended r.sent c (r.clients c) (facts.clients c) facts.unique (talk.waits c) (current c) message (holds-of (λ (x : Sent). (a : Opening) → Has a (opening_in x) → Has a (openings r.sent)) r.sent k (Client c, message) (all-have-theirs r.sent) i),
    takes w (r.clients c) (mirrors.clients c) message (holds-of (IsTrue w) r.sent k (Client c, message) mirrors.says i),
    take-says (openings r.sent) r.clients w v Caused Caused' c (facts.clients c).name (runs c) message (each-in (SaysPast (openings r.sent) r.clients w Caused) r.sent (Client c, message) past.says (get-in r.sent k (Client c, message) i)),
  )

  took-past : (c : ClientNo) (u : ClientTable) (what : Taken) (more : List Sent) → Hears c (u, what) → openings (r.sent ++ more) ≡ openings r.sent → Each (SaysPast (openings r.sent) (at_client r.clients c u) v Caused') more
      → ((T : Tid) → v.named T ≡ true → w.named T ≡ true) → PastFacts (r.sent ++ more) (at_client r.clients c u) r.memory r.found v Caused'
  took-past c u what more h none says same = one-client c u more h.0.goes none (λ o e. h.0.same_next ∙ past.last c o (h.0.waiting o e).0) says same

  -- a client's abort is a cause for its transaction
  abbrev AbortsAre : Step → Type 0
  AbortsAre step = (c : ClientNo) → step ≡ Tell c Abort → (T : Tid) → (r.clients c).transaction ≡ Some T → Caused' c T Requested

  client-now : (c : ClientNo) (step : Step) (u : ClientTable) (sent : List Sent) (lines : List Text) → ClientRow r c step u sent lines → AbortsAre step
      → ((T : Tid) → v.named T ≡ has_line T lines) → PastFacts sent (at_client r.clients c u) r.memory r.found v Caused'
  client-now c _ _ _ _ (by_command command u to message e) aborts l = let h = subst (λ (x : Commanded). Tells c x) e (
    command-talks (openings r.sent) w w.ended r.sent c (r.clients c) (facts.clients c) facts.unique (talk.waits c) (current c) r.event command,
    command-facts (openings r.sent) w.ended c (r.clients c) (facts.clients c) (λ T q h e. facts.drawn (opening c q T) h e) r.event command,
    command-says (openings r.sent) r.clients w v Caused Caused' c (facts.clients c).name (runs c) r.event command (λ e. aborts c (ap (λ (z : Command). Tell c z) e)),
  ) in
      one-client c u ((to, message) ∷ []) (record { next = h.0.next; fresh = h.0.fresh; has = λ T e. inl (sym h.0.same ∙ e) }) (no-more r.sent (to, message) h.1.1) h.0.last (h.2, tt) (none-same l)
  client-now c _ _ _ _ (by_ignoring k room stop message u i e) aborts l = subst (λ z. PastFacts z (at_client r.clients c u) r.memory r.found v Caused') (append-nil r.sent)
      (took-past c u taken.Ignored [] (hears c k message (u, taken.Ignored) i e) (ap openings (append-nil r.sent)) tt (same-of (says.Ignored k ∷ []) refl l))
  client-now c _ _ _ _ (by_answering k room stop message u to answer i e) aborts l = let h = hears c k message (u, taken.Send to answer) i e in
      took-past c u (taken.Send to answer) ((to, answer) ∷ []) h (no-more r.sent (to, answer) (thanks-none (to, answer) h.1.1)) (h.2, tt) (none-same l)
  client-now c _ _ _ _ (by_telling k room stop message u line None i e) aborts l = let h = hears c k message (u, taken.Told line None) i e in
      took-past c u (taken.Told line None) [] h (ap openings (append-nil r.sent)) tt (same-of (line ∷ []) (ap (λ z. z ++ []) h.1.1) l)
  client-now c _ _ _ _ (by_telling k room stop message u line (Some x) i e) aborts l = let h = hears c k message (u, taken.Told line (Some x)) i e in
      took-past c u (taken.Told line (Some x)) (x ∷ []) h (no-more r.sent x (thanks-none x h.1.2)) (h.2, tt) (same-of (line ∷ []) (ap (λ z. z ++ []) h.1.1) l)

  repeats-past : (c : ClientNo) (o : Option Outstanding) → (r.clients c).outstanding ≡ o → Later (record r { sent = r.sent ++ sent_now (sent_again o) }) v → PastFacts (r.sent ++ sent_now (sent_again o)) r.clients r.memory r.found v Caused'
  repeats-past c None e l = subst (λ z. PastFacts z r.clients r.memory r.found v Caused') (sym (append-nil r.sent)) (same l.named)
  repeats-past c (Some o) e l = sent-past r w v Caused Caused' past caused aborted grown runs named facts.unique full mirrors inv locks votes lost ((o.to, o.message) ∷ []) l.unique
      (each-in (SaysPast (openings r.sent) r.clients w Caused) r.sent (o.to, o.message) past.says (talk.waits c o e).again, tt) (none-same l.named)

  -- ---- every step

  quiet-now : (step : Step) (event : ℕ) (sent : List Sent) (lines : List Text) → Quiet r step event sent lines → Later (record r { event = event; sent = sent; lines = lines }) v → PastFacts sent r.clients r.memory r.found v Caused'
  quiet-now _ _ _ _ event_begins l = same l.named
  quiet-now _ _ _ _ (none_changes step) l = same l.named
  quiet-now _ _ _ _ (is_refused c command refusal e) l = quiet (says.Refused c r.event refusal ∷ []) refl l.named
  quiet-now _ _ _ _ (client_repeats c) l = repeats-past c (r.clients c).outstanding refl l
  quiet-now _ _ _ _ (server_repeats s m is) l = again-past r w v Caused Caused' past caused aborted grown runs named facts.unique full mirrors inv locks votes lost s m is l
  quiet-now _ _ _ _ (is_lost k room stop s message e is) l = quiet (says.Lost k ∷ []) refl l.named

  by-case : (step : Step) (now : World) → StepCase r step now → IsStep step r × AbortsAre step → Later now v → Now now
  by-case step _ (client_row _ c u sent lines row) i l = client-now c step u sent lines row i.1 l.named
  by-case step _ (row_done _ s m k row is how) i l = row-done-past r w v Caused Caused' past caused aborted grown runs named facts.unique full mirrors inv locks votes lost s m step k row is how i.0 l
  by-case step _ (row_stopped _ s m k row made is how) i l = row-stopped-past r w v Caused Caused' past caused aborted grown runs named facts.unique full mirrors inv locks votes lost s m step k row made is how i.0 l
  by-case _ _ (gone_late s m T is) i l = late-past r w v Caused Caused' past caused aborted grown runs named facts.unique full mirrors inv locks votes lost s m T is l
  by-case _ _ (gone_down s m is) i l = down-past r w v Caused Caused' past caused aborted grown runs named facts.unique full mirrors inv locks votes lost s l
  by-case _ _ (come_up s pick Ws Ts is) i l = up-past r w v Caused Caused' past caused aborted grown runs named facts.unique full mirrors inv locks votes lost s pick Ws Ts i.0.1 l
  by-case step _ (found_anew _ s found lines is how) i l = anew-past r w v Caused Caused' past caused aborted grown runs named facts.unique full mirrors inv locks votes lost s step found lines is how l
  by-case _ _ dismissed i l = dismiss-past r.sent r.clients r.memory r.found w v Caused Caused' past caused aborted grown (none-same l.named)
  by-case step _ (quietly _ event sent lines how) i l = quiet-now step event sent lines how l

  pub step-past : (step : Step) → IsStep step r × ((c : ClientNo) → step ≡ Tell c Abort → (T : Tid) → (r.clients c).transaction ≡ Some T → Caused' c T Requested) → Later (after step r) v → Now (after step r)
  step-past step i l = by-case step (after step r) (step-case r step) i l
