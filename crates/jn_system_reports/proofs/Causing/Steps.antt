-- After any steps, with the events that they stand under: each abort that is reported has its cause.
use Rattle.jn_system_reports.proofs.Common.{◌≡◌, ◌≢◌, ◌⊎◌, inl, inr, ℕ, ◌+◌, Bool, true, false, List, [], ◌∷◌, ◌++◌, append-nil, length, Option, Some, None, is_some, refl, sym, ◌∙◌, ap, subst, arith, ◌&&◌, slice_get, nat_lt, list_any, ServerNo, ClientNo, Tid, WorkId, Cause, Requested, LostAt, FullAt, Client, Server, Command, Abort, Resource, client_eq, tid_eq, client_tells, tid_tells, Message, Event, Text, Line, Outstanding, Taken, Pick, stable, Sent, worker_row, transaction_at, coordinator_row, ClientTable, Commanded, Refuses, Sends, command_row, take_row, sent_again, Machine, Invariant, Grows, not_both, World, Memory, has_line, Room, storage_of, Step, Tell, IsStep, after, commanded, sent_now, LockFacts, UpFact, ServerFact, Mirrors, AreOpen, IsCurrent, IsTrue, IsAddressed, holds-of, Opening, opening_in, openings, openings-more, Has, has-first, began_by, Began, Facts, all-have-theirs, EndsNow, is_in, AreWithin, at_event, StableState, at_client, server_eq, same-server, if◌then◌else◌, ClientRow, by_command, by_ignoring, by_answering, by_telling, FoundThen, by_narrowing, by_raising, Quiet, event_begins, none_changes, is_refused, client_repeats, server_repeats, is_lost, StepCase, client_row, row_done, row_stopped, gone_late, gone_down, come_up, found_anew, dismissed, quietly, step-case, some-memory}
use Rattle.jn_msgs.specs.declared.message.Message.TheVariants as messages
use Rattle.jn_schedule.specs.declared.Event.TheVariants as events
use Rattle.jn_report.specs.declared.line.Text.TheVariants as texts
use Rattle.jn_rows.specs.declared.client.Taken.TheVariants as taken
use Rattle.jn_system_reports.proofs.Reporting.Lists.{In, Each, each-in, get-in}
use Rattle.jn_system_reports.proofs.Reporting.ClientTalk.{TableGoes, CommandTalks, command-talks, take-talks}
use Rattle.jn_system_reports.proofs.Reporting.Talk.{Talk}
use Rattle.jn_system_reports.proofs.Reporting.Past.{Had, Past, SaysPast}
use Rattle.jn_system_reports.proofs.Reporting.PastRows.{is_broke}
use Rattle.jn_system_reports.proofs.Reporting.PastSteps.{PastFacts}
use Rattle.jn_system_reports.proofs.Reporting.PastWorld.{Later, coordinator-quiet}
use Rattle.jn_system_reports.proofs.Reporting.PastAll.{step-past}
use Rattle.jn_system_reports.proofs.Reporting.Outcomes.{IsTrueAbort}
use Rattle.jn_system_reports.proofs.Reporting.Reached.{in-all}
use Rattle.jn_system_reports.proofs.Reporting.StepLines.{IsPlainText, AddsLines, step-lines}
use Rattle.jn_system_reports.proofs.Causing.Evidence.{Stands, Stood, DownAfter, in-here}
use Rattle.jn_system_reports.proofs.Causing.CoordinatorKeeps.{Spent}
use Rattle.jn_system_reports.proofs.Causing.Facts.{IsMute, HasTransaction, WasOpened, HasCause, MessageFact, CauseFacts, BeganAt, cause-more, opened-more, came-by, messages-on, client-on, told-on}
use Rattle.jn_system_reports.proofs.Causing.ServerSteps.{servers-mute, News, ServerKeeps, worker-row, row-keeps, down-keeps, late-keeps, restart-keeps, again-keeps}
use Rattle.jn_system_reports.proofs.Causing.ClientSteps.{client-facts, again-facts, dismissed-facts, TakesCause, take-keeps, CommandCauses, command-keeps}

-- an abort has its cause
abbrev pub AbortStands : List Event → List Line → Text → Type 0
AbortStands es ls (texts.Aborted c j T cause) = Stood es ls c T cause
AbortStands es ls text = Unit {0}

-- a client is told in an event of its own
pub record IsTold (es es' : List Event) (ls : List Line) (r : World) (c : ClientNo) (command : Command) : Type 0 where
  pub stands : Stands 1 es' r.event (events.Command c command)
  pub within : AreWithin 0 r.event ls
  pub now : r.event ≡ 1 + length es

-- ---- one step

module _ (es es' : List Event) (on : (j : ℕ) (e : Event) → Stands 1 es j e → Stands 1 es' j e) (ls : List Line) (r : World) (w v : Machine) (past : PastFacts r.sent r.clients r.memory r.found w (HasCause (openings r.sent) es ls)) (cause : CauseFacts es ls r.sent r.clients r.memory r.lines w)
    (parts : (T : Tid) (W : WorkId) → w.ended T ≡ true → w.part T W.server ≡ Some W → WasOpened r.sent T W) (mirrors : Mirrors r w) (inv : Invariant w) (locks : LockFacts r) (facts : Facts r w) (talk : Talk r w) (named : (T : Tid) → w.named T ≡ has_line T r.lines) (grown : Grows w v) where
  abbrev Caused : ClientNo → Tid → Cause → Type 0
  Caused = HasCause (openings r.sent) es ls

  spent : (T : Tid) → Spent w T → Spent v T
  spent T (inl e) = inl (grown.named T e)
  spent T (inr e) = inr (grown.aborted T e)

  began : (c : ClientNo) (T : Tid) → (r.clients c).transaction ≡ Some T → Began (openings r.sent) c (r.clients c).next T
  began c T e = (facts.clients c).current T e

  -- what is said of the causes after a step
  pub record NextCauses (q : World) : Type 0 where
    pub new : List Text
    pub adds : q.lines ≡ r.lines ++ new
    pub forth : (a : Opening) → Has a (openings r.sent) → Has a (openings q.sent)
    pub sends : (T : Tid) (W : WorkId) → WasOpened r.sent T W → WasOpened q.sent T W
    pub causes : CauseFacts es' (ls ++ at_event (1 + length es) new) q.sent q.clients q.memory q.lines v

  has-more : (more : List Sent) (a : Opening) → Has a (openings r.sent) → Has a (openings (r.sent ++ more))
  has-more more a h = subst (λ l. Has a l) (sym (openings-more r.sent more)) (has-first a (openings r.sent) (openings more) h)

  of-facts : (q : World) (new : List Text) (more : List Sent) → q.lines ≡ r.lines ++ new → q.sent ≡ r.sent ++ more → CauseFacts es' (ls ++ at_event (1 + length es) new) (r.sent ++ more) q.clients q.memory (r.lines ++ new) v → NextCauses q
  of-facts q new more adds sends h = record {
    new = new;
    adds = adds;
    forth = λ a k. subst (λ l. Has a (openings l)) (sym sends) (has-more more a k);
    sends = λ T W k. subst (λ l. WasOpened l T W) (sym sends) (opened-more r.sent more T W k);
    causes = subst (λ l. CauseFacts es' (ls ++ at_event (1 + length es) new) q.sent q.clients q.memory l v) (sym adds) (subst (λ l. CauseFacts es' (ls ++ at_event (1 + length es) new) l q.clients q.memory (r.lines ++ new) v) (sym sends) h);
  }

  -- ---- a server's

  server-next : (q : World) → ServerKeeps es ls r w v past cause parts mirrors inv locks facts spent q → NextCauses q
  server-next q k = of-facts q k.new k.more k.adds k.sends (subst (λ f. CauseFacts es' (ls ++ at_event (1 + length es) k.new) (r.sent ++ k.more) f q.memory (r.lines ++ k.new) v) (sym k.same) (record {
    messages = messages-on es es' on ls k.new r.sent k.more r.clients r.clients r.memory q.memory r.lines w v cause mirrors.says facts.unique began spent (λ c n l. l) (λ c o e. inl e) k.holds k.has (news k.more k.news);
    each = λ c. client-on es es' on ls k.new r.sent k.more r.clients r.clients r.memory q.memory r.lines w v cause mirrors.says facts.unique began spent (λ c n l. l) (λ c o e. inl e) k.holds k.has c (servers-mute k.new k.quiet c);
    broken = k.broken;
    told = told-on es es' on ls k.new r.lines cause.told;
  }))
    where
      fact : (x : Sent) → In x r.sent → MessageFact es ls (openings r.sent) r.clients r.memory w x
      fact x i = each-in (MessageFact es ls (openings r.sent) r.clients r.memory w) r.sent x cause.messages i

      one : (x : Sent) → News es ls r w v past cause parts mirrors inv locks facts spent q.memory x → MessageFact es' (ls ++ at_event (1 + length es) k.new) (openings (r.sent ++ k.more)) r.clients q.memory v x
      one (to, messages.Begun c n (Some T)) h = let b = fact (Server T.server, messages.Begin c n) h.1 in (b.0, λ o e f. record { to = b.1 o e f; stands = inl h.0 })
      one (to, messages.Begun c n None) h = tt
      one (to, messages.Opened c n T (Some W)) h = record {
        by = came-by es es' on ls k.new r.sent k.more r.clients r.clients r.memory q.memory r.lines w v cause mirrors.says facts.unique began spent (λ c n l. l) (λ c o e. inl e) k.holds k.has c T W.server (fact (Server W.server, messages.Open c n T) h.1 W.server refl);
        stands = inr (inl h.0);
      }
      one (to, messages.Opened c n T None) h = tt
      one (to, messages.Drop T W) h = h
      one (to, messages.Begin c n) h = absurd h
      one (to, messages.Open c n T) h = absurd h
      one (to, _) h = tt

      news : (more : List Sent) → Each (News es ls r w v past cause parts mirrors inv locks facts spent q.memory) more → Each (MessageFact es' (ls ++ at_event (1 + length es) k.new) (openings (r.sent ++ k.more)) r.clients q.memory v) more
      news [] h = tt
      news (x ∷ more) h = (one x h.0, news more h.1)

  -- no client and no memory changes
  still-next : (event : ℕ) (found : ServerNo → Pick → StableState) (lines new : List Text) → lines ≡ r.lines ++ new → ((c : ClientNo) → IsMute c new) → NextCauses (record r { event = event; found = found; lines = lines })
  still-next event found lines new adds mute = of-facts _ new [] adds (sym (append-nil r.sent)) (again-facts es es' on ls r w v cause mirrors facts spent new [] mute (λ x i. absurd i))

  -- ---- a client's

  current : (c : ClientNo) (T : Tid) → (r.clients c).transaction ≡ Some T → AreOpen w T (r.clients c).works
  current c T e = (subst (λ o. IsCurrent w o (r.clients c).works) e (mirrors.clients c).current).1

  told-next : (c : ClientNo) (command : Command) (row : Commanded) → command_row (r.clients c) r.event command ≡ row → IsTold es es' ls r c command → NextCauses (commanded c row r)
  told-next c command (Refuses refusal) e it = still-next r.event r.found _ (texts.Refused c r.event refusal ∷ []) refl (λ d n now. refl)
  told-next c command (Sends u to message) e it = of-facts _ [] ((to, message) ∷ []) (sym (append-nil r.lines)) refl (client-facts es es' on ls r w v cause mirrors facts spent c u [] ((to, message) ∷ [])
      (record { next = h.next; fresh = h.fresh; has = λ T k. inl (sym h.same ∙ k) }) (subst (CommandCauses es es' on ls r w v cause mirrors facts spent c it.within) e (command-keeps es es' on ls r w v cause mirrors facts spent c it.within command it.stands)))
    where
      h : CommandTalks (openings r.sent) w w.ended r.sent c (r.clients c) (facts.clients c) facts.unique (talk.waits c) (current c) (Sends u to message)
      h = subst (CommandTalks (openings r.sent) w w.ended r.sent c (r.clients c) (facts.clients c) facts.unique (talk.waits c) (current c)) e (command-talks (openings r.sent) w w.ended r.sent c (r.clients c) (facts.clients c) facts.unique (talk.waits c) (current c) r.event command)

  again-next : (c : ClientNo) (o : Option Outstanding) → (r.clients c).outstanding ≡ o → NextCauses (record r { sent = r.sent ++ sent_now (sent_again o) })
  again-next c None e = of-facts _ [] [] (sym (append-nil r.lines)) refl (again-facts es es' on ls r w v cause mirrors facts spent [] [] (λ d n now. refl) (λ x i. absurd i))
  again-next c (Some o) e = of-facts _ [] ((o.to, o.message) ∷ []) (sym (append-nil r.lines)) refl (again-facts es es' on ls r w v cause mirrors facts spent [] ((o.to, o.message) ∷ []) (λ d n now. refl) (λ x i. by x i))
    where
      by : (x : Sent) → ((o.to, o.message) ≡ x) ⊎ ⊥ → In x r.sent
      by x (inl f) = subst (λ (y : Sent). In y r.sent) f (talk.waits c o e).again
      by x (inr f) = absurd f

  takes : (c : ClientNo) (k : ℕ) (message : Message) (row : ClientTable × Taken) → slice_get r.sent k ≡ Some (Client c, message) → take_row (r.clients c) message ≡ row → TableGoes (openings r.sent) c (r.clients c) row.0 × TakesCause es es' on ls r w v cause mirrors facts spent c k row
  takes c k message row is e = let i = get-in r.sent k (Client c, message) is in (
    subst (λ x. TableGoes (openings r.sent) c (r.clients c) x.0) e (take-talks (openings r.sent) w w.ended r.sent c (r.clients c) (facts.clients c) facts.unique (talk.waits c) (current c) message
        (holds-of (λ (x : Sent). (a : Opening) → Has a (opening_in x) → Has a (openings r.sent)) r.sent k (Client c, message) (all-have-theirs r.sent) is)).goes,
    subst (TakesCause es es' on ls r w v cause mirrors facts spent c k) e (take-keeps es es' on ls r w v cause mirrors facts spent c k message i (each-in (MessageFact es ls (openings r.sent) r.clients r.memory w) r.sent (Client c, message) cause.messages i)),
  )

  up-at : (s : ServerNo) (m : Memory) → r.memory s ≡ Some m → UpFact s m (r.found s)
  up-at s m is = subst (λ o. ServerFact s o (r.found s)) is (locks s)

  -- ---- every step

  abbrev IsToldBy : Step → Type 0
  IsToldBy step = (c : ClientNo) (command : Command) → step ≡ Tell c command → IsTold es es' ls r c command

  client-next : (c : ClientNo) (step : Step) (u : ClientTable) (sent : List Sent) (lines : List Text) → ClientRow r c step u sent lines → IsToldBy step
      → NextCauses (record r { clients = at_client r.clients c u; sent = sent; lines = lines })
  client-next c _ _ _ _ (by_command command u to message e) told = told-next c command (Sends u to message) e (told c command refl)
  client-next c _ _ _ _ (by_ignoring k room stop message u is e) told = let h = takes c k message (u, taken.Ignored) is e in of-facts _ (texts.Ignored k ∷ []) [] refl (sym (append-nil r.sent)) (client-facts es es' on ls r w v cause mirrors facts spent c u (texts.Ignored k ∷ []) [] h.0 h.1)
  client-next c _ _ _ _ (by_answering k room stop message u to answer is e) told = let h = takes c k message (u, taken.Send to answer) is e in of-facts _ [] ((to, answer) ∷ []) (sym (append-nil r.lines)) refl (client-facts es es' on ls r w v cause mirrors facts spent c u [] ((to, answer) ∷ []) h.0 h.1)
  client-next c _ _ _ _ (by_telling k room stop message u line answer is e) told = let h = takes c k message (u, taken.Told line answer) is e in of-facts _ (line ∷ []) (sent_now answer) refl refl (client-facts es es' on ls r w v cause mirrors facts spent c u (line ∷ []) (sent_now answer) h.0 h.1)

  found-next : (step : Step) (s : ServerNo) (found : Pick → StableState) (lines : List Text) → FoundThen r s step found lines → NextCauses (record r { found = λ q c. if server_eq s q then found c else r.found q c; lines = lines })
  found-next _ s _ _ (by_narrowing g) = still-next r.event _ r.lines [] (sym (append-nil r.lines)) (λ d n now. refl)
  found-next _ s _ _ (by_raising raise) = still-next r.event _ _ (texts.Stopped s ∷ []) refl (λ d n now. refl)

  quiet-next : (step : Step) (event : ℕ) (sent : List Sent) (lines : List Text) → Quiet r step event sent lines → IsToldBy step → NextCauses (record r { event = event; sent = sent; lines = lines })
  quiet-next _ _ _ _ event_begins told = still-next (r.event + 1) r.found r.lines [] (sym (append-nil r.lines)) (λ d n now. refl)
  quiet-next _ _ _ _ (none_changes step) told = still-next r.event r.found r.lines [] (sym (append-nil r.lines)) (λ d n now. refl)
  quiet-next _ _ _ _ (is_refused c command refusal e) told = told-next c command (Refuses refusal) e (told c command refl)
  quiet-next _ _ _ _ (client_repeats c) told = again-next c (r.clients c).outstanding refl
  quiet-next _ _ _ _ (server_repeats s m e) told = server-next _ (again-keeps es ls r w v past cause parts mirrors inv locks facts spent s m e (up-at s m e))
  quiet-next _ _ _ _ (is_lost k room stop s message is e) told = still-next r.event r.found _ (texts.Lost k ∷ []) refl (λ d n now. refl)

  by-case : (step : Step) (now : World) → StepCase r step now → IsStep step r → IsToldBy step → ((x : Sent) → In x now.sent → IsTrue v x) → NextCauses now
  by-case step _ (client_row _ c u sent lines row) may told said = client-next c step u sent lines row told
  by-case step _ (row_done _ s m k row e is) may told said = server-next _ (row-keeps es ls r w v past cause parts mirrors inv locks facts spent s m e (up-at s m e) step k row is may said)
  by-case _ _ (row_stopped step s m k row made e is) may told said = server-next _ (down-keeps es ls r w v past cause parts mirrors inv locks facts spent s _ (texts.Stopped s) tt (same-server s))
  by-case _ _ (gone_late s m T e) may told said = server-next _ (late-keeps es ls r w v past cause parts mirrors inv locks facts spent s m e (up-at s m e) T)
  by-case _ _ (gone_down s m e) may told said = server-next _ (down-keeps es ls r w v past cause parts mirrors inv locks facts spent s r.found (texts.Down s) tt (same-server s))
  by-case _ _ (come_up s pick Ws Ts e) may told said = server-next _ (restart-keeps es ls r w v past cause parts mirrors inv locks facts spent s e (r.found s pick) Ws Ts)
  by-case step _ (found_anew _ s found lines e is) may told said = found-next step s found lines is
  by-case _ _ dismissed may told said = of-facts _ [] [] (sym (append-nil r.lines)) (sym (append-nil r.sent)) (dismissed-facts es es' on ls r w v cause mirrors facts spent [] [] (λ d n now. refl) (λ x j. absurd j))
  by-case step _ (quietly _ event sent lines is) may told said = quiet-next step event sent lines is told

  pub step-causes : (step : Step) → IsStep step r → IsToldBy step → ((x : Sent) → In x (after step r).sent → IsTrue v x) → NextCauses (after step r)
  step-causes step = by-case step (after step r) (step-case r step)

  -- ---- what aborts have as their causes

  pub votes-say : (s : ServerNo) (m : Memory) → r.memory s ≡ Some m → (room : Room) (message : Message) → In (Server s, message) r.sent → Each (SaysPast (openings r.sent) r.clients w Caused) (worker_row m.worker (storage_of m (stable (r.found s)) room) m.tickets message).messages
  votes-say s m is room message i = (worker-row es ls r w v past cause parts mirrors inv locks facts spent s m is (up-at s m is) None room message i).says

  -- a current transaction that its coordinator doesn't have was lost
  pub lost-there : (s : ServerNo) (m : Memory) → r.memory s ≡ Some m → (c : ClientNo) (T : Tid) → T.server ≡ s → transaction_at T m.coordinator.transactions ≡ None → Had (openings r.sent) r.clients w Caused c T → Past (openings r.sent) r.clients w Caused c T ⊎ Caused c T (LostAt s)
  lost-there s m is c T at none had = by (r.clients c).transaction refl
    where
      over : (r.clients c).transaction ≢ Some T → Past (openings r.sent) r.clients w Caused c T
      over e = record { request = had.request; has = had.has; drawn = had.drawn; over = e; answered = had.answered }

      lost : (r.clients c).transaction ≡ Some T → Caused c T (LostAt s)
      lost e = stand b.stands
        where
          b : BeganAt es ls r.memory c T
          b = (cause.each c).current T e

          stand : HasTransaction r.memory T ⊎ DownAfter ls T.server b.number → Caused c T (LostAt s)
          stand (inl h) = absurd (not_both (is_some (transaction_at T m.coordinator.transactions)) (subst (λ (z : Memory). is_some (transaction_at T z.coordinator.transactions) ≡ true) (some-memory h.0 m (sym h.1 ∙ ap r.memory at ∙ is)) h.2) (ap is_some none))
          stand (inr h) = inr (subst (λ (z : ServerNo). Stood es ls c T (LostAt z)) at (record { number = b.number; came = b.came; down = h }))

      none-tid : None ≡ Some T → ⊥
      none-tid e = cc

      some-tid : (U : Tid) → Some U ≡ Some T → U ≡ T
      some-tid U e = cc

      by : (o : Option Tid) → (r.clients c).transaction ≡ o → Past (openings r.sent) r.clients w Caused c T ⊎ Caused c T (LostAt s)
      by None e = inl (over (λ f. none-tid (sym e ∙ f)))
      by (Some U) e = same (tid_tells U T)
        where
          same : ((tid_eq U T ≡ true) × (U ≡ T)) ⊎ ((tid_eq U T ≡ false) × (U ≢ T)) → Past (openings r.sent) r.clients w Caused c T ⊎ Caused c T (LostAt s)
          same (inl p) = inr (lost (e ∙ ap (λ (z : Tid). Some z) p.1))
          same (inr p) = inl (over (λ f. p.1 (some-tid U (sym e ∙ f))))

  pub any-full : (c : ClientNo) (T : Tid) (s : ServerNo) (n : Resource) (free need : ℕ) → nat_lt free need ≡ true → Caused c T (FullAt s n free need)
  any-full c T s n free need h = inr h

  -- a client's own abort
  requested : (step : Step) → IsToldBy step → (new : List Text) (os : List Opening) (c : ClientNo) → step ≡ Tell c Abort → (T : Tid) → (r.clients c).transaction ≡ Some T → HasCause os es' (ls ++ at_event (1 + length es) new) c T Requested
  requested step told new os c e T f = let it = told c Abort e in inr (record {
    number = r.event;
    event = events.Command c Abort;
    stands = it.stands;
    is = both (client_eq c c) _ (self c) (subst (λ n. is_in c T r.event (ls ++ at_event n new) ≡ true) it.now (in-here r.event ls new c T it.within ((cause.each c).begun T f)));
  })
    where
      self : (d : ClientNo) → client_eq d d ≡ true
      self d = grind (arith, client_tells d d)

      both : (a b : Bool) → a ≡ true → b ≡ true → (a && b) ≡ true
      both a b h k = grind arith

  pub past-next : (step : Step) → IsStep step r → IsToldBy step → (next : NextCauses (after step r)) → Later (after step r) v
      → PastFacts (after step r).sent (after step r).clients (after step r).memory (after step r).found v (HasCause (openings (after step r).sent) es' (ls ++ at_event (1 + length es) next.new))
  past-next step i told next later = step-past r w v Caused (HasCause (openings (after step r).sent) es' (ls ++ at_event (1 + length es) next.new)) past (cause-more es es' on ls next.new (openings r.sent) (openings (after step r).sent) next.forth) grown.aborted grown.named named any-full mirrors inv locks facts talk votes-say lost-there
      step (i, requested step told next.new (openings (after step r).sent)) later

  -- a work of an end was told to be open
  pub parts-next : (step : Step) (next : NextCauses (after step r)) → ((T : Tid) → v.ended T ≡ true → (w.ended T ≡ true) ⊎ EndsNow (after step r) v T) → (T : Tid) (W : WorkId) → v.ended T ≡ true → v.part T W.server ≡ Some W → WasOpened (after step r).sent T W
  parts-next step next ends T W e p = by (ends T e)
    where
      by : (w.ended T ≡ true) ⊎ EndsNow (after step r) v T → WasOpened (after step r).sent T W
      by (inl k) = next.sends T W (parts T W k (sym (grown.part T k W.server) ∙ p))
      by (inr k) = (next.causes.each k.client).works T k.current W (k.all W.server W p)

  -- ---- the lines of the step

  plain-stands : (text : Text) → IsPlainText text → AbortStands es ls text
  plain-stands (texts.Aborted c j T why) h = absurd h
  plain-stands _ h = tt

  told-stands : (c : ClientNo) (text : Text) → IsTrueAbort (openings r.sent) r.clients w Caused c (facts.clients c).name text → AbortStands es ls text
  told-stands c (texts.Aborted d j T why) h = by h.3
    where
      by : HasCause (openings r.sent) es ls c T why → Stood es ls d T why
      by (inl o) = let b = (facts.clients c).current T h.1 in absurd (o.other (ap (λ (a : Opening). a.client) (facts.unique (began_by o.client o.request T) (began_by c b.request T) o.has b.has refl)))
      by (inr k) = subst (λ (z : ClientNo). Stood es ls z T why) (sym h.0) k
  told-stands c _ h = tt

  silent : (s : ServerNo) (m : Memory) (is : r.memory s ≡ Some m) (room : Room) (message : Message) → In (Server s, message) r.sent → list_any is_broke (coordinator_row m.coordinator room.free.records m.tickets message).notes ≡ false
  silent s m is room message i = coordinator-quiet r w w Caused Caused past (λ c T why h. h) (λ T h. h) (λ T h. h) began named facts.unique any-full mirrors inv locks votes-say lost-there
      s m is (up-at s m is) room message (in-all IsAddressed r.sent (Server s, message) mirrors.addressed i) (each-in (SaysPast (openings r.sent) r.clients w Caused) r.sent (Server s, message) past.says i)

  abbrev Any : World → Type 0
  Any q = Unit {0}

  pub lines-stand : (step : Step) → AddsLines (AbortStands es ls) r (after step r)
  lines-stand step = step-lines (AbortStands es ls) plain-stands r w Caused mirrors facts past Any told-stands (λ s m is k room message i l T u by n. tt) silent step tt
