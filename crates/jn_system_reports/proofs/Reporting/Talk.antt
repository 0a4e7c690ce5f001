-- Each step keeps what holds of the operations that clients ask for, and of their answers.
use Rattle.jn_system_reports.proofs.Common.{◌≡◌, ◌⊎◌, inl, inr, ◌≤◌, ℕ, ◌+◌, List, [], ◌∷◌, ◌++◌, append-nil, Option, Some, None, refl, sym, ◌∙◌, ap, subst, arith, slice_get, ServerNo, ClientNo, Tid, WorkId, Party, Client, Server, Message, OpenWork, Outstanding, Taken, Pick, stable, RowOutcome, Sent, WorkerTable, worker_row, worker_again, timeout_row, coordinator_again, ClientTable, Commanded, Sends, take_row, sent_again, over, Machine, IsWorkOf, World, Memory, at_server, at_client, new_memory, AllFiles, storage_of, of_timeout, restored, Step, after, sent_now, works, Mirrors, IsCurrent, AreOpen, found-open, Opening, opening_in, openings, openings-more, Has, has-first, Began, Facts, all-have-theirs, holds-of, OperationNo, RequestNo, one-client, ClientRow, by_command, by_ignoring, by_answering, by_telling, ServerRow, of_message, of_work, of_closing, Quiet, event_begins, none_changes, is_refused, client_repeats, server_repeats, is_lost, StepCase, client_row, row_done, row_stopped, gone_late, gone_down, come_up, found_anew, dismissed, quietly, step-case, server_timeout, row-either, row-of-step, Text, some-memory, memory-now, memory-gone, Dismiss, Left}
use Rattle.jn_msgs.specs.declared.message.Message.TheVariants as messages
use Rattle.jn_rows.specs.declared.client.Taken.TheVariants as taken
use Rattle.jn_rows.specs.Client.{work_at}
use Rattle.jn_system.specs.WholeSystem.World.{opening as opening_world}
use Rattle.jn_system_order.proofs.Ordering.Facts.{opening}
use Rattle.jn_system_reports.proofs.Reporting.Lists.{In, in-first, in-second, in-either, Each, each-in, each-append, each-more, get-in}
use Rattle.jn_system_reports.proofs.Reporting.Asking.{asked-more, Asking, IsAsked, IsReply, IsWorkers, workers-reply, KeepsWork, keeps-more, reply-more}
use Rattle.jn_system_reports.proofs.Reporting.WorkerTalk.{Talks, WasSent, worker-talks, step-talks, timeout-talks, restored-talks, again-talks}
use Rattle.jn_system_reports.proofs.Reporting.CoordinatorTalk.{coordinator-silent, again-silent-all}
use Rattle.jn_system_reports.proofs.Reporting.Known.{IsPast, IsOpen, IsKnown, AskedFact, known-grows, goes-on, ends as ends-known}
use Rattle.jn_system_reports.proofs.Reporting.ClientTalk.{WaitFact, asking_in, asked-alone, IsHeard, IsNext, CommandTalks, command-talks, TakeTalks, take-talks}

pub record TalkFacts (sent : List Sent) (clients : ClientNo → ClientTable) (memory : ServerNo → Option Memory) (w : Machine) : Type 0 where
  -- each number of a work is one operation of one request
  pub once : (a b : Asking) → IsAsked sent a → IsAsked sent b → a.work ≡ b.work → a.number ≡ b.number → a ≡ b
  pub asked : (a : Asking) → IsAsked sent a → AskedFact (openings sent) w (clients a.client) a
  pub waits : (c : ClientNo) (o : Outstanding) → (clients c).outstanding ≡ Some o → WaitFact sent (clients c) o
  pub works : (s : ServerNo) (m : Memory) → memory s ≡ Some m → Each (KeepsWork sent) m.worker
  pub heard : Each (IsHeard sent) sent

abbrev pub Talk : World → Machine → Type 0
Talk r w = TalkFacts r.sent r.clients r.memory w

abbrev as-sent : Party → Message → Sent
as-sent to message = (to, message)

heard-of : (sent : List Sent) (x : Sent) → IsReply sent x → IsHeard sent x
heard-of sent (to, messages.Answer c q answer) h = h
heard-of sent (to, _) h = tt

heard-more : (sent more : List Sent) (x : Sent) → IsHeard sent x → IsHeard (sent ++ more) x
heard-more sent more (to, messages.Answer c q answer) h = reply-more sent more (to, messages.Answer c q answer) h
heard-more sent more (to, _) h = tt

all-heard : (sent more : List Sent) → Each (IsHeard sent) sent → Each (IsHeard sent) more → Each (IsHeard (sent ++ more)) (sent ++ more)
all-heard sent more h k = each-append (IsHeard (sent ++ more)) sent more (each-more (IsHeard sent) (IsHeard (sent ++ more)) sent (λ x g. heard-more sent more x g) h)
    (each-more (IsHeard sent) (IsHeard (sent ++ more)) more (λ x g. heard-more sent more x g) k)

more-openings : (sent more : List Sent) (a : Opening) → Has a (openings sent) → Has a (openings (sent ++ more))
more-openings sent more a h = subst (λ l. Has a l) (sym (openings-more sent more)) (has-first a (openings sent) (openings more) h)

-- an operation that is asked for among more messages
asked-either : (sent more : List Sent) (a : Asking) → IsAsked (sent ++ more) a → IsAsked sent a ⊎ IsAsked more a
asked-either sent more a h = by (in-either _ sent more h.is)
  where
    by : In (h.to, messages.Op a.client a.request a.work a.number a.op) sent ⊎ In (h.to, messages.Op a.client a.request a.work a.number a.op) more → IsAsked sent a ⊎ IsAsked more a
    by (inl k) = inl (record { to = h.to; is = k })
    by (inr k) = inr (record { to = h.to; is = k })

none-asked : (sent more : List Sent) (a : Asking) → Each (IsReply sent) more → IsAsked more a → ⊥
none-asked sent more a h k = each-in (IsReply sent) more (k.to, messages.Op a.client a.request a.work a.number a.op) h k.is

-- ---- what is asked

-- an operation that is asked for now, by a client that waits for nothing
pub record IsFresh (r : World) (w : Machine) (a : Asking) : Type 0 where
  pub tid : Tid
  pub of : IsWorkOf w tid a.work
  pub current : (r.clients a.client).transaction ≡ Some tid
  pub idle : (r.clients a.client).outstanding ≡ None

pub record Asks (r : World) (w : Machine) (sent : List Sent) : Type 0 where
  pub back : (a : Asking) → IsAsked sent a → IsAsked r.sent a ⊎ IsFresh r w a
  pub forth : (a : Asking) → IsAsked r.sent a → IsAsked sent a

-- ---- every step

module _ (r : World) (w v : Machine) (mirrors : Mirrors r w) (facts : Facts r w) (talk : Talk r w) (grow : (T : Tid) (W : WorkId) → IsWorkOf w T W → IsWorkOf v T W) where
  -- what clients and workers have, and what is asked with these messages
  abbrev Now : List Sent → (ClientNo → ClientTable) → (ServerNo → Option Memory) → Type 0
  Now sent clients memory = TalkFacts sent clients memory v × Asks r w sent

  abbrev AllKeep : (ServerNo → Option Memory) → Type 0
  AllKeep memory = (s : ServerNo) (m : Memory) → memory s ≡ Some m → Each (KeepsWork r.sent) m.worker

  -- nothing new is asked
  more-now : (memory : ServerNo → Option Memory) (more : List Sent) → ((a : Asking) → IsAsked more a → IsAsked r.sent a) → Each (IsHeard r.sent) more → AllKeep memory → Now (r.sent ++ more) r.clients memory
  more-now memory more none heard works = (
    record {
      once = λ a b h k. talk.once a b (back a h) (back b k);
      asked = λ a h. known-grows (openings r.sent) (openings (r.sent ++ more)) w v (r.clients a.client) a (more-openings r.sent more) grow (talk.asked a (back a h));
      waits = λ c o e. let x = talk.waits c o e in record { again = in-first _ r.sent more x.again; begins = x.begins };
      works = λ s m e. each-more (KeepsWork r.sent) (KeepsWork (r.sent ++ more)) m.worker (λ x g. keeps-more r.sent more x g) (works s m e);
      heard = all-heard r.sent more talk.heard heard;
    },
    record { back = λ a h. inl (back a h); forth = λ a h. asked-more r.sent more a h },
  )
    where
      back : (a : Asking) → IsAsked (r.sent ++ more) a → IsAsked r.sent a
      back a h = by (asked-either r.sent more a h)
        where
          by : IsAsked r.sent a ⊎ IsAsked more a → IsAsked r.sent a
          by (inl k) = k
          by (inr k) = none a k

  replied : (memory : ServerNo → Option Memory) (more : List Sent) → Each (IsReply r.sent) more → AllKeep memory → Now (r.sent ++ more) r.clients memory
  replied memory more replies works = more-now memory more (λ a k. absurd (none-asked r.sent more a replies k)) (each-more (IsReply r.sent) (IsHeard r.sent) more (λ x g. heard-of r.sent x g) replies) works

  -- nothing is sent
  unsent : (memory : ServerNo → Option Memory) → AllKeep memory → Now r.sent r.clients memory
  unsent memory works = subst (λ l. Now l r.clients memory) (append-nil r.sent) (replied memory [] tt works)

  same : Now r.sent r.clients r.memory
  same = unsent r.memory talk.works

  -- a message is sent once more
  repeated : (x : Sent) → In x r.sent → Now (r.sent ++ x ∷ []) r.clients r.memory
  repeated x h = more-now r.memory (x ∷ []) (λ a k. record { to = k.to; is = by a k.to k.is }) (each-in (IsHeard r.sent) r.sent x talk.heard h, tt) talk.works
    where
      by : (a : Asking) (to : Party) → In (to, messages.Op a.client a.request a.work a.number a.op) (x ∷ []) → In (to, messages.Op a.client a.request a.work a.number a.op) r.sent
      by a to (inl e) = subst (λ (y : Sent). In y r.sent) e h
      by a to (inr k) = absurd k

  -- ---- a client's step

  client-now : (c : ClientNo) (u : ClientTable) (more : List Sent) (IsNew : Asking → Type 0) → ((a : Asking) → IsAsked more a → IsAsked r.sent a ⊎ IsNew a) → ((a b : Asking) → IsNew a → IsNew b → a ≡ b)
      → ((a b : Asking) → IsNew a → IsAsked r.sent b → a.work ≡ b.work → a.number ≡ b.number → ⊥)
      → ((a : Asking) → IsNew a → (a.client ≡ c) × AskedFact (openings r.sent) w u a × IsFresh r w a)
      → ((a : Asking) → a.client ≡ c → AskedFact (openings r.sent) w (r.clients c) a → AskedFact (openings r.sent) w u a)
      → ((o : Outstanding) → u.outstanding ≡ Some o → WaitFact (r.sent ++ more) u o) → Each (IsHeard r.sent) more → Now (r.sent ++ more) (at_client r.clients c u) r.memory
  client-now c u more IsNew back one apart new own waits heard = (
    record {
      once = λ a b h k e f. pair a b (from a h) (from b k) e f;
      asked = λ a h. known-grows (openings r.sent) (openings (r.sent ++ more)) w v (at_client r.clients c u a.client) a (more-openings r.sent more) grow (fact a (from a h));
      waits = λ d o. one-client (λ d (t : ClientTable). t.outstanding ≡ Some o → WaitFact (r.sent ++ more) t o) r.clients c u (waits o) (λ d p f. let x = talk.waits d o f in record { again = in-first _ r.sent more x.again; begins = x.begins }) d;
      works = λ s m e. each-more (KeepsWork r.sent) (KeepsWork (r.sent ++ more)) m.worker (λ x g. keeps-more r.sent more x g) (talk.works s m e);
      heard = all-heard r.sent more talk.heard heard;
    },
    record { back = λ a h. by a (from a h); forth = λ a h. asked-more r.sent more a h },
  )
    where
      from : (a : Asking) → IsAsked (r.sent ++ more) a → IsAsked r.sent a ⊎ IsNew a
      from a h = by (asked-either r.sent more a h)
        where
          by : IsAsked r.sent a ⊎ IsAsked more a → IsAsked r.sent a ⊎ IsNew a
          by (inl k) = inl k
          by (inr k) = back a k

      by : (a : Asking) → IsAsked r.sent a ⊎ IsNew a → IsAsked r.sent a ⊎ IsFresh r w a
      by a (inl h) = inl h
      by a (inr h) = inr (new a h).2

      pair : (a b : Asking) → IsAsked r.sent a ⊎ IsNew a → IsAsked r.sent b ⊎ IsNew b → a.work ≡ b.work → a.number ≡ b.number → a ≡ b
      pair a b (inl h) (inl k) e f = talk.once a b h k e f
      pair a b (inl h) (inr k) e f = absurd (apart b a k h (sym e) (sym f))
      pair a b (inr h) (inl k) e f = absurd (apart a b h k e f)
      pair a b (inr h) (inr k) e f = one a b h k

      fact : (a : Asking) → IsAsked r.sent a ⊎ IsNew a → AskedFact (openings r.sent) w (at_client r.clients c u a.client) a
      fact a (inl h) = one-client (λ d t. d ≡ a.client → AskedFact (openings r.sent) w t a) r.clients c u (λ e. own a (sym e) (subst (λ (d : ClientNo). AskedFact (openings r.sent) w (r.clients d) a) (sym e) (talk.asked a h)))
          (λ d p e. subst (λ (d : ClientNo). AskedFact (openings r.sent) w (r.clients d) a) (sym e) (talk.asked a h)) a.client refl
      fact a (inr h) = one-client (λ d t. d ≡ a.client → AskedFact (openings r.sent) w t a) r.clients c u (λ e. (new a h).1) (λ d p e. absurd (p (sym (e ∙ (new a h).0)))) a.client refl

  current : (c : ClientNo) (T : Tid) → (r.clients c).transaction ≡ Some T → AreOpen w T (r.clients c).works
  current c T e = (subst (λ o. IsCurrent w o (r.clients c).works) e (mirrors.clients c).current).1

  -- a new operation has a number that its work didn't have
  apart : (c : ClientNo) (u : ClientTable) (a b : Asking) → IsNext (openings r.sent) w w.ended r.sent c (r.clients c) (facts.clients c) facts.unique (talk.waits c) (current c) u a → IsAsked r.sent b → a.work ≡ b.work → a.number ≡ b.number → ⊥
  apart c u a b n asked same number = by known.stands
    where
      known : IsKnown (openings r.sent) w b.client (r.clients b.client) b.work b.number.0
      known = (talk.asked b asked).known

      its : IsWorkOf w n.tid n.work.work × (n.work.work.server ≡ n.server)
      its = found-open w n.tid n.server (r.clients c).works n.work (current c n.tid n.is) n.found

      tid : known.tid ≡ n.tid
      tid = sym known.of.1 ∙ ap w.owner (sym (sym n.named ∙ same)) ∙ its.0.1

      began : Began (openings r.sent) c (r.clients c).next n.tid
      began = (facts.clients c).current n.tid n.is

      is-own : (q : RequestNo) → Has (opening b.client q known.tid) (openings r.sent) → c ≡ b.client
      is-own q h = ap (λ (z : Opening). z.client) (facts.unique (opening c began.request n.tid) (opening b.client q known.tid) began.has h (sym tid))

      too-many : (n m k : ℕ) → n ≡ m → n ≡ k + 1 → m ≤ k → ⊥
      too-many n m k e f l = omega (arith, e, f, l)

      some-open : (v x : OpenWork) → Some v ≡ Some x → v ≡ x
      some-open v x e = cc

      by : IsOpen (r.clients b.client) known.tid b.work b.number.0 ⊎ IsPast (openings r.sent) b.client (r.clients b.client) known.tid → ⊥
      by (inl p) = too-many a.number.0 b.number.0 n.work.last (ap (λ (z : OperationNo). z.0) number) n.number (subst (λ (x : OpenWork). b.number.0 ≤ x.last) (some-open p.work n.work (sym p.found ∙ at-same ∙ n.found)) p.counted)
        where
          client : c ≡ b.client
          client = is-own ((facts.clients b.client).current known.tid p.current).request ((facts.clients b.client).current known.tid p.current).has

          at-same : work_at b.work.server (r.clients b.client).works ≡ work_at n.server (r.clients c).works
          at-same = ap (λ (s : ServerNo). work_at s (r.clients b.client).works) (ap (λ (W : WorkId). W.server) (sym same ∙ n.named) ∙ its.1) ∙ ap (λ (d : ClientNo). work_at n.server (r.clients d).works) (sym client)
      by (inr p) = p.over (ap (λ (d : ClientNo). (r.clients d).transaction) (sym (is-own p.request p.has)) ∙ n.is ∙ ap (λ (T : Tid). Some T) (sym tid))

  abbrev Tells : ClientNo → Commanded → Type 0
  Tells c row = CommandTalks (openings r.sent) w w.ended r.sent c (r.clients c) (facts.clients c) facts.unique (talk.waits c) (current c) row

  abbrev Hears : ClientNo → ClientTable × Taken → Type 0
  Hears c row = TakeTalks (openings r.sent) w w.ended r.sent c (r.clients c) (facts.clients c) facts.unique (talk.waits c) (current c) row

  commanded-now : (c : ClientNo) (u : ClientTable) (to : Party) (message : Message) → Tells c (Sends u to message) → Now (r.sent ++ (to, message) ∷ []) (at_client r.clients c u) r.memory
  commanded-now c u to message h = client-now c u ((to, message) ∷ []) (λ a. asking_in message ≡ Some a)
      (λ a k. inr (asked-alone (to, message) a k)) (λ a b e f. some-asking a b (sym e ∙ f)) (λ a b e k same number. apart c u a b (h.asks a e) k same number)
      (λ a e. let n = h.asks a e in (n.client, n.fact, record { tid = n.tid; of = n.of; current = ap (λ (d : ClientNo). (r.clients d).transaction) n.client ∙ n.is; idle = ap (λ (d : ClientNo). (r.clients d).outstanding) n.client ∙ n.idle }))
      (λ a n k. goes-on (openings r.sent) w (r.clients c) u a k h.next h.fresh h.same h.works)
      (λ o e. record { again = in-second _ r.sent ((to, message) ∷ []) (inl (same-sent o (h.waiting o e).0 (h.waiting o e).1)); begins = (h.waiting o e).2 }) (h.heard, tt)
    where
      some-asking : (a b : Asking) → Some a ≡ Some b → a ≡ b
      some-asking a b q = cc

      same-sent : (o : Outstanding) → o.to ≡ to → o.message ≡ message → as-sent to message ≡ as-sent o.to o.message
      same-sent o e f = cc

  hears : (c : ClientNo) (k : ℕ) (message : Message) (row : ClientTable × Taken) → slice_get r.sent k ≡ Some (Client c, message) → take_row (r.clients c) message ≡ row → Hears c row
  hears c k message row i e = subst (λ (x : ClientTable × Taken). Hears c x) e (take-talks (openings r.sent) w w.ended r.sent c (r.clients c) (facts.clients c) facts.unique (talk.waits c) (current c) message
      (holds-of (λ (x : Sent). (a : Opening) → Has a (opening_in x) → Has a (openings r.sent)) r.sent k (Client c, message) (all-have-theirs r.sent) i))

  took-now : (c : ClientNo) (u : ClientTable) (what : Taken) (more : List Sent) → Hears c (u, what) → Each (IsReply r.sent) more → Now (r.sent ++ more) (at_client r.clients c u) r.memory
  took-now c u what more h replies = client-now c u more (λ a. ⊥) (λ a k. absurd (none-asked r.sent more a replies k)) (λ a b e f. absurd e) (λ a b e k same number. absurd e) (λ a e. absurd e)
      h.keeps (λ o e. let x = talk.waits c o (h.waiting o e).0 in record { again = in-first _ r.sent more x.again; begins = λ b. (h.waiting o e).1 ∙ x.begins b })
      (each-more (IsReply r.sent) (IsHeard r.sent) more (λ x g. heard-of r.sent x g) replies)

  row-now : (c : ClientNo) (step : Step) (u : ClientTable) (sent : List Sent) (lines : List Text) → ClientRow r c step u sent lines → Now sent (at_client r.clients c u) r.memory
  row-now c _ _ _ _ (by_command command u to message e) = commanded-now c u to message (subst (λ (x : Commanded). Tells c x) e (command-talks (openings r.sent) w w.ended r.sent c (r.clients c) (facts.clients c) facts.unique (talk.waits c) (current c) r.event command))
  row-now c _ _ _ _ (by_ignoring k room stop message u i e) = subst (λ l. Now l (at_client r.clients c u) r.memory) (append-nil r.sent) (took-now c u taken.Ignored [] (hears c k message (u, taken.Ignored) i e) tt)
  row-now c _ _ _ _ (by_answering k room stop message u to answer i e) = let h = hears c k message (u, taken.Send to answer) i e in took-now c u (taken.Send to answer) ((to, answer) ∷ []) h (h.little, tt)
  row-now c _ _ _ _ (by_telling k room stop message u line None i e) = took-now c u (taken.Told line None) [] (hears c k message (u, taken.Told line None) i e) tt
  row-now c _ _ _ _ (by_telling k room stop message u line (Some x) i e) = let h = hears c k message (u, taken.Told line (Some x)) i e in took-now c u (taken.Told line (Some x)) (x ∷ []) h (h.little, tt)

  again-now : (c : ClientNo) (o : Option Outstanding) → (r.clients c).outstanding ≡ o → Now (r.sent ++ sent_now (sent_again o)) r.clients r.memory
  again-now c None e = replied r.memory [] tt talk.works
  again-now c (Some o) e = repeated (o.to, o.message) (talk.waits c o e).again

  -- ---- a server's

  with-table : (s : ServerNo) (m : Memory) → Each (KeepsWork r.sent) m.worker → AllKeep (at_server r.memory s (Some m))
  with-table = memory-now (λ m. Each (KeepsWork r.sent) m.worker) r.memory talk.works

  gone-now : (s : ServerNo) → Now r.sent r.clients (at_server r.memory s None)
  gone-now s = unsent (at_server r.memory s None) (memory-gone (λ m. Each (KeepsWork r.sent) m.worker) r.memory talk.works s)

  abbrev RowTalks : RowOutcome Memory → Type 0
  RowTalks row = Each (IsReply r.sent) row.messages × Each (KeepsWork r.sent) row.table.worker

  as-replies : (row : RowOutcome WorkerTable) → Talks r.sent talk.once row → Each (IsReply r.sent) row.messages × Each (KeepsWork r.sent) row.table
  as-replies row h = (each-more (IsWorkers r.sent) (IsReply r.sent) row.messages (workers-reply r.sent) h.0, h.1)

  row-talks : (s : ServerNo) (m : Memory) (stop : Option (Pick → Left)) (step : Step) (k : Option ℕ) (row : RowOutcome Memory) → r.memory s ≡ Some m → ServerRow r s m stop step k row → RowTalks row
  row-talks s m _ _ _ _ is (of_message stop k room message e) = row-either (λ row. RowTalks row) m (stable (r.found s)) room message
      (as-replies (worker_row m.worker (storage_of m (stable (r.found s)) room) m.tickets message) (worker-talks r.sent talk.once m.worker m.tickets (talk.works s m is) (storage_of m (stable (r.found s)) room) message (was-sent message e))) (coordinator-silent r.sent m.coordinator m.tickets room.free.records message, talk.works s m is)
    where
      was-sent : (message : Message) → slice_get r.sent k ≡ Some (Server s, message) → WasSent r.sent talk.once m.worker m.tickets (talk.works s m is) (storage_of m (stable (r.found s)) room) message
      was-sent (messages.Op c q W n op) e = record { to = Server s; is = get-in r.sent k _ e }
      was-sent _ e = tt
  row-talks s m _ _ _ _ is (of_work stop room row e) = row-of-step (λ row. RowTalks row) m (stable (r.found s)) room row e (λ step f. as-replies step (step-talks r.sent talk.once m.worker m.tickets (talk.works s m is) (storage_of m (stable (r.found s)) room) step f))
  row-talks s m _ _ _ _ is of_closing = (tt, talk.works s m is)

  late : (s : ServerNo) (m : Memory) (T : Tid) → r.memory s ≡ Some m → Each (KeepsWork r.sent) (server_timeout m T).worker
  late s m T is = by (timeout_row m.worker T) refl
    where
      by : (o : Option WorkerTable) → timeout_row m.worker T ≡ o → Each (KeepsWork r.sent) (of_timeout m o).worker
      by None e = talk.works s m is
      by (Some t) e = timeout-talks r.sent talk.once m.worker m.tickets (talk.works s m is) T t e

  dismiss-talk : Talk (after Dismiss r) v
  dismiss-talk = record {
    once = talk.once;
    asked = λ a h. known-grows (openings r.sent) (openings r.sent) w v (over (r.clients a.client)) a (λ o k. k) grow
        (ends-known (openings r.sent) w (r.clients a.client) (over (r.clients a.client)) a (talk.asked a h) (no-fall (r.clients a.client).next) refl refl (λ T e. (facts.clients a.client).current T e));
    waits = λ c o e. absurd (none-out o e);
    works = talk.works;
    heard = talk.heard;
  }
    where
      no-fall : (n : ℕ) → n ≤ n
      no-fall n = omega arith

      none-out : (o : Outstanding) → None ≡ Some o → ⊥
      none-out o e = cc

  quiet-now : (step : Step) (event : ℕ) (sent : List Sent) (lines : List Text) → Quiet r step event sent lines → Now sent r.clients r.memory
  quiet-now _ _ _ _ event_begins = same
  quiet-now _ _ _ _ (none_changes step) = same
  quiet-now _ _ _ _ (is_refused c command refusal e) = same
  quiet-now _ _ _ _ (client_repeats c) = again-now c (r.clients c).outstanding refl
  quiet-now _ _ _ _ (server_repeats s m e) = replied r.memory _ (each-append (IsReply r.sent) (worker_again (stable (r.found s)) m.worker) (coordinator_again m.coordinator.transactions)
      (each-more (IsWorkers r.sent) (IsReply r.sent) (worker_again (stable (r.found s)) m.worker) (workers-reply r.sent) (again-talks r.sent (stable (r.found s)) m.worker)) (again-silent-all r.sent m.coordinator.transactions)) talk.works
  quiet-now _ _ _ _ (is_lost k room stop s message i e) = same

  by-case : (step : Step) (now : World) → StepCase r step now → Now now.sent now.clients now.memory
  by-case step _ (client_row _ c u sent lines row) = row-now c step u sent lines row
  by-case step _ (row_done _ s m k row is how) = let h = row-talks s m None step k row is how in replied (at_server r.memory s (Some row.table)) row.messages h.0 (with-table s row.table h.1)
  by-case _ _ (row_stopped _ s m k row made is how) = gone-now s
  by-case _ _ (gone_late s m T is) = unsent (at_server r.memory s (Some (server_timeout m T))) (with-table s (server_timeout m T) (late s m T is))
  by-case _ _ (gone_down s m is) = gone-now s
  by-case _ _ (come_up s pick Ws Ts is) = unsent (at_server r.memory s (Some (restored s (r.found s pick) Ws Ts))) (with-table s (restored s (r.found s pick) Ws Ts) (restored-talks r.sent (r.found s pick) Ws))
  by-case _ _ (found_anew _ s found lines is how) = same
  by-case _ _ dismissed = (dismiss-talk, same.1)
  by-case step _ (quietly _ event sent lines how) = quiet-now step event sent lines how

  pub step-talk : (step : Step) → Talk (after step r) v
  step-talk step = (by-case step (after step r) (step-case r step)).0

module _ (r : World) (w : Machine) (mirrors : Mirrors r w) (facts : Facts r w) (talk : Talk r w) where
  pub step-asks : (step : Step) → Asks r w (after step r).sent
  step-asks step = (by-case r w w mirrors facts talk (λ T W h. h) step (after step r) (step-case r step)).1

pub opening-talk : (servers : ℕ) (files : AllFiles) (epochs : ServerNo → ℕ) (w : Machine) → Talk (opening_world servers files epochs) w
opening-talk servers files epochs w = record {
  once = λ a b h. absurd h.is;
  asked = λ a h. absurd h.is;
  waits = λ c o e. absurd (none-out o e);
  works = λ s m e. subst (λ (x : Memory). Each (KeepsWork []) x.worker) (some-memory (new_memory s (epochs s)) m e) tt;
  heard = tt;
}
  where
    none-out : (o : Outstanding) → None ≡ Some o → ⊥
    none-out o e = cc
