-- A client's step: what it is told to do is its event, and what it takes was asked for by one.
use Rattle.jn_system_reports.proofs.Common.{◌≡◌, ◌≢◌, ◌⊎◌, inl, inr, ◌<◌, ◌≤◌, ℕ, ◌+◌, Bool, true, false, List, [], ◌∷◌, ◌++◌, length, Option, Some, None, refl, sym, ◌∙◌, ap, subst, arith, ◌&&◌, ◌||◌, if◌then◌else◌, nat_eq, nat_lt, nat_tests, ServerNo, ClientNo, Tid, WorkId, Party, Client, Server, Answer, Command, Begin, Open, Do, End, Abort, server_eq, client_eq, tid_eq, work_eq, server_tells, client_tells, tid_tells, work_tells, Message, Outcome, Event, Text, Line, OpenWork, Outstanding, Taken, Sent, is_work, ClientTable, Commanded, Refuses, Sends, with_operation, names_of, if_server, if_idle, if_transaction, if_no_transaction, if_open, if_not_open, command_row, is_begin, is_tid, is_current, if_waits, idle, over, begun_row, opened_row, answer_line, decided_row, outcome_row, take_row, Machine, not_both, World, at_client, sent_now, Mirrors, openings, openings-more, Has, has-first, Facts, says, last_begun, begins, AreWithin, begun_then-append, at_event, RequestNo, request_eq, request_of, one-client}
use Rattle.jn_base.specs.declared.op.Answer.TheVariants as answers
use Rattle.jn_msgs.specs.declared.message.Message.TheVariants as messages
use Rattle.jn_msgs.specs.declared.message.Outcome.TheVariants as outcomes
use Rattle.jn_schedule.specs.declared.Event.TheVariants as events
use Rattle.jn_report.specs.declared.line.Refusal.TheVariants as refusals
use Rattle.jn_report.specs.declared.line.Text.TheVariants as texts
use Rattle.jn_rows.specs.declared.client.Taken.TheVariants as taken
use Rattle.jn_rows.specs.Client.{work_at}
use Rattle.jn_system_order.proofs.Ordering.Facts.{opening}
use Rattle.jn_system_reports.proofs.Reporting.Lists.{In, Each, each-of}
use Rattle.jn_system_reports.proofs.Reporting.ClientTalk.{TableGoes}
use Rattle.jn_system_reports.proofs.Causing.Evidence.{Stands, Came, DownAfter, down-more, any-last, in-here, none-here}
use Rattle.jn_system_reports.proofs.Causing.WorkerKeeps.{all-told}
use Rattle.jn_system_reports.proofs.Causing.CoordinatorKeeps.{Spent}
use Rattle.jn_system_reports.proofs.Causing.Facts.{HasTransaction, CameBy, WasOpened, MessageFact, BegunFor, BeganAt, ClientFact, CauseFacts, IsMute, opened-more, client-on, one-on, messages-on, told-on}

-- ---- works

same-names : (s : ServerNo) (works : List OpenWork) → names_of (with_operation s works) ≡ names_of works
same-names s [] = refl
same-names s (x ∷ xs) = by (server_eq x.work.server s) (same-names s xs)
  where
    by : (b : Bool) → names_of (with_operation s xs) ≡ names_of xs → names_of (if b then record x { last = x.last + 1 } ∷ xs else x ∷ with_operation s xs) ≡ x.work ∷ names_of xs
    by true on = refl
    by false on = ap (λ l. x.work ∷ l) on

more-names : (works : List OpenWork) (x : OpenWork) (W : WorkId) → is_work W (names_of (works ++ x ∷ [])) ≡ true → (is_work W (names_of works) ≡ true) ⊎ (x.work ≡ W)
more-names [] x W h = by (work_tells x.work W) h
  where
    by : ((work_eq x.work W ≡ true) × (x.work ≡ W)) ⊎ ((work_eq x.work W ≡ false) × (x.work ≢ W)) → (work_eq x.work W || false) ≡ true → (false ≡ true) ⊎ (x.work ≡ W)
    by (inl p) k = inr p.1
    by (inr p) k = inl (sym (ap (λ (b : Bool). b || false) p.0) ∙ k)
more-names (y ∷ ys) x W h = by (work_eq y.work W) h (more-names ys x W)
  where
    by : (b : Bool) → (b || is_work W (names_of (ys ++ x ∷ []))) ≡ true → (is_work W (names_of (ys ++ x ∷ [])) ≡ true → (is_work W (names_of ys) ≡ true) ⊎ (x.work ≡ W)) → ((b || is_work W (names_of ys)) ≡ true) ⊎ (x.work ≡ W)
    by true k on = inl refl
    by false k on = on k

none-out : (o : Outstanding) → None ≡ Some o → ⊥
none-out o e = cc

some-out : (o p : Outstanding) → Some o ≡ Some p → o ≡ p
some-out o p e = cc

none-tid : (T : Tid) → None ≡ Some T → ⊥
none-tid T e = cc

some-tid : (T U : Tid) → Some T ≡ Some U → T ≡ U
some-tid T U e = cc

same-server : (s q : ServerNo) → Server s ≡ Server q → s ≡ q
same-server s q e = cc

-- ---- a client's table changes

module _ (es es' : List Event) (on : (j : ℕ) (e : Event) → Stands 1 es j e → Stands 1 es' j e) (ls : List Line) (r : World) (w v : Machine) (cause : CauseFacts es ls r.sent r.clients r.memory r.lines w)
    (mirrors : Mirrors r w) (facts : Facts r w) (spent : (T : Tid) → Spent w T → Spent v T) (c : ClientNo) where
  abbrev t : ClientTable
  t = r.clients c

  -- the client's facts with more lines, before its table changes
  kept : (new : List Text) (more : List Sent) (d : ClientNo) → IsMute d new → ClientFact es' (ls ++ at_event (1 + length es) new) (r.sent ++ more) r.memory d (r.clients d)
  kept new more d mute = client-on es es' on ls new r.sent more r.clients r.clients r.memory r.memory r.lines w v cause mirrors.says facts.unique (λ e T k. (facts.clients e).current T k) spent (λ e q l. l) (λ e o k. inl k) (λ T not h. inl h) (λ W h. inl h) d mute

  -- what a client's step gives
  pub record ClientKeeps (u : ClientTable) (new : List Text) (more : List Sent) : Type 0 where
    pub own : ClientFact es' (ls ++ at_event (1 + length es) new) (r.sent ++ more) r.memory c u
    pub others : (d : ClientNo) → c ≢ d → IsMute d new
    pub news : Each (MessageFact es' (ls ++ at_event (1 + length es) new) (openings (r.sent ++ more)) (at_client r.clients c u) r.memory v) more

  pub client-facts : (u : ClientTable) (new : List Text) (more : List Sent) → TableGoes (openings r.sent) c (r.clients c) u → ClientKeeps u new more → CauseFacts es' (ls ++ at_event (1 + length es) new) (r.sent ++ more) (at_client r.clients c u) r.memory (r.lines ++ new) v
  client-facts u new more goes h = record {
    messages = messages-on es es' on ls new r.sent more r.clients (at_client r.clients c u) r.memory r.memory r.lines w v cause mirrors.says facts.unique (λ e T k. (facts.clients e).current T k) spent next waits (λ T not k. inl k) (λ W k. inl k) h.news;
    each = each;
    broken = λ s m e. all-told s r.lines new m.worker (cause.broken s m e);
    told = told-on es es' on ls new r.lines cause.told;
  }
    where
      up : (k n m : ℕ) → k < n → n ≤ m → k < m
      up j n m k l = omega (arith, k, l)

      next : (d : ClientNo) (q : RequestNo) → q.0 < (r.clients d).next → q.0 < (at_client r.clients c u d).next
      next d q = one-client (λ e x. q.0 < (r.clients e).next → q.0 < x.next) r.clients c u (λ k. up q.0 (r.clients c).next u.next k goes.next) (λ e other k. k) d

      waits : (d : ClientNo) (o : Outstanding) → (at_client r.clients c u d).outstanding ≡ Some o → ((r.clients d).outstanding ≡ Some o) ⊎ ((r.clients d).next ≤ o.request.0)
      waits d o = one-client (λ e x. x.outstanding ≡ Some o → ((r.clients e).outstanding ≡ Some o) ⊎ ((r.clients e).next ≤ o.request.0)) r.clients c u (goes.fresh o) (λ e other k. inl k) d

      each : (d : ClientNo) → ClientFact es' (ls ++ at_event (1 + length es) new) (r.sent ++ more) r.memory d (at_client r.clients c u d)
      each = one-client (ClientFact es' (ls ++ at_event (1 + length es) new) (r.sent ++ more) r.memory) r.clients c u h.own (λ d other. kept new more d (h.others d other))

  -- ---- a message

  abbrev pub texts_of : ℕ → Taken → List Text
  texts_of k taken.Ignored = texts.Ignored k ∷ []
  texts_of k (taken.Send to message) = []
  texts_of k (taken.Told line answer) = line ∷ []

  abbrev pub sent_of : Taken → List Sent
  sent_of taken.Ignored = []
  sent_of (taken.Send to message) = (to, message) ∷ []
  sent_of (taken.Told line answer) = sent_now answer

  abbrev pub TakesCause : ℕ → ClientTable × Taken → Type 0
  TakesCause k row = ClientKeeps row.0 (texts_of k row.1) (sent_of row.1)

  -- the client has no more than it had
  quiet : (u : ClientTable) (new : List Text) (more : List Sent) → ((d : ClientNo) → IsMute d new) → ((o : Outstanding) → u.outstanding ≡ Some o → t.outstanding ≡ Some o) → ((T : Tid) → u.transaction ≡ Some T → (t.transaction ≡ Some T) × (u.works ≡ t.works))
      → Each (MessageFact es' (ls ++ at_event (1 + length es) new) (openings (r.sent ++ more)) (at_client r.clients c u) r.memory v) more → ClientKeeps u new more
  quiet u new more mute out same news = let h = kept new more c (mute c) in record {
    own = record {
      asked = λ o e. h.asked o (out o e);
      to = λ o s e. h.to o s (out o e);
      current = λ T e. h.current T (same T e).0;
      works = λ T e W i. h.works T (same T e).0 W (subst (λ l. is_work W (names_of l) ≡ true) (same T e).1 i);
      begun = λ T e. h.begun T (same T e).0;
    };
    others = λ d ne. mute d;
    news = news;
  }

  module _ (k : ℕ) where
    -- a line that begins nothing
    abbrev Mutes : Text → Type 0
    Mutes line = (d : ClientNo) → IsMute d (line ∷ [])

    ignores : TakesCause k (t, taken.Ignored)
    ignores = quiet t (texts.Ignored k ∷ []) [] (λ d n now. refl) (λ o e. e) (λ T e. (e, refl)) tt

    idles : (line : Text) → Mutes line → TakesCause k (idle t, taken.Told line None)
    idles line mute = quiet (idle t) (line ∷ []) [] mute (λ o e. absurd (none-out o e)) (λ T e. (e, refl)) tt

    overs : (line : Text) (to : Party) (d : ClientNo) (T : Tid) → Mutes line → TakesCause k (over t, taken.Told line (Some (to, messages.Thanks d T)))
    overs line to d T mute = quiet (over t) (line ∷ []) _ mute (λ o e. absurd (none-out o e)) (λ U e. absurd (none-tid U e)) (tt, tt)

    waits-take : (o : Option Outstanding) (test : Outstanding → Bool) (row : ℕ → ClientTable × Taken) → t.outstanding ≡ o → ((x : Outstanding) → t.outstanding ≡ Some x → test x ≡ true → TakesCause k (row x.event)) → TakesCause k (if_waits t o test row)
    waits-take None test row e h = ignores
    waits-take (Some x) test row e h = by (test x) refl
      where
        by : (b : Bool) → test x ≡ b → TakesCause k (if b then row x.event else (t, taken.Ignored))
        by true f = h x e f
        by false f = ignores

    either : (b : Bool) (p q : ClientTable × Taken) → (b ≡ true → TakesCause k p) → TakesCause k q → TakesCause k (if b then p else q)
    either true p q h l = h refl
    either false p q h l = l

    first-of : (a b : Bool) → (a && b) ≡ true → a ≡ true
    first-of a b h = grind arith

    second-of : (a b : Bool) → (a && b) ≡ true → b ≡ true
    second-of a b h = grind arith

    same-number : (a b : RequestNo) → request_eq a b ≡ true → a ≡ b
    same-number a b e = grind (arith, nat_tests)

    name : t.client ≡ c
    name = (facts.clients c).name

    same-client : (d : ClientNo) → client_eq d t.client ≡ true → d ≡ c
    same-client d e = grind (arith, client_tells d t.client, e, name)

    answer-mutes : (j : ℕ) (answer : Answer) → Mutes (answer_line t.client j answer)
    answer-mutes j answers.Did d n now = refl
    answer-mutes j (answers.Read bytes) d n now = refl
    answer-mutes j answers.NoFile d n now = refl
    answer-mutes j answers.Exists d n now = refl
    answer-mutes j (answers.Locked u T) d n now = refl
    answer-mutes j answers.TooManyReads d n now = refl
    answer-mutes j answers.TooManyWrites d n now = refl
    answer-mutes j (answers.Broken u T) d n now = refl
    answer-mutes j (answers.Lost x y) d n now = refl
    answer-mutes j answers.Closing d n now = refl

    -- ---- a transaction begins

    begins-it : (x : Outstanding) (T : Tid) → t.outstanding ≡ Some x → is_begin x.command ≡ true → BegunFor ls r.memory T x → TakesCause k (begun_row t x.event (Some T))
    begins-it x T out begin h = record {
      own = record {
        asked = λ o e. absurd (none-out o e);
        to = λ o s e. absurd (none-out o e);
        current = λ U e. subst (λ (V : Tid). BeganAt es' (ls ++ at_event (1 + length es) (line ∷ [])) r.memory c V) (some-tid T U e) (record { number = x.event; came = came x.command refl begin; stands = stands h.stands });
        works = λ U e W i. absurd (no i);
        begun = λ U e. begun_then-last (client_tells c t.client) ∙ e;
      };
      others = λ d ne n now. other d ne now (client_tells d t.client);
      news = tt;
    }
      where
        line : Text
        line = texts.Begun t.client x.event T

        no : false ≡ true → ⊥
        no e = grind arith

        told : says (begins c x.event T) (ls ++ at_event (1 + length es) (line ∷ [])) ≡ true
        told = any-last (λ (l : Line). begins c x.event T l.text) ls (at_event (1 + length es) (line ∷ [])) (subst (λ (d : ClientNo). says (begins c x.event T) (at_event (1 + length es) (texts.Begun d x.event T ∷ [])) ≡ true) (sym name) (self c x.event T))
          where
            self : (c : ClientNo) (j : ℕ) (T : Tid) → ((client_eq c c && (nat_eq j j && tid_eq T T)) || false) ≡ true
            self c j T = grind (arith, nat_tests, client_tells c c, tid_tells T T)

        came : (command : Command) → x.command ≡ command → is_begin command ≡ true → Came es' (ls ++ at_event (1 + length es) (line ∷ [])) c T T.server x.event
        came (Begin s) e b = record { event = events.Command c (Begin s); stands = on x.event _ (subst (λ (z : Command). Stands 1 es x.event (events.Command c z)) e ((cause.each c).asked x out)); is = all (client_eq c c) (server_eq s T.server) _ (self c) (same s T.server (same-server s T.server (sym ((cause.each c).to x s out e) ∙ h.to))) told }
          where
            self : (d : ClientNo) → client_eq d d ≡ true
            self d = grind (arith, client_tells d d)

            same : (p q : ServerNo) → p ≡ q → server_eq p q ≡ true
            same p q e = grind (arith, server_tells p q)

            all : (a b d : Bool) → a ≡ true → b ≡ true → d ≡ true → (a && (b && d)) ≡ true
            all a b d f g h = grind arith
        came (Open s) e b = absurd (no b)
        came (Do s op) e b = absurd (no b)
        came End e b = absurd (no b)
        came Abort e b = absurd (no b)

        stands : HasTransaction r.memory T ⊎ DownAfter ls T.server x.event → HasTransaction r.memory T ⊎ DownAfter (ls ++ at_event (1 + length es) (line ∷ [])) T.server x.event
        stands (inl p) = inl p
        stands (inr p) = inr (down-more T.server x.event ls (at_event (1 + length es) (line ∷ [])) p)

        begun_then-last : ((client_eq c t.client ≡ true) × (c ≡ t.client)) ⊎ ((client_eq c t.client ≡ false) × (c ≢ t.client)) → last_begun c (ls ++ at_event (1 + length es) (line ∷ [])) ≡ Some T
        begun_then-last (inl p) = begun_then-append c None ls (at_event (1 + length es) (line ∷ [])) ∙ ap (λ (b : Bool). if b then Some T else last_begun c ls) p.0
        begun_then-last (inr p) = absurd (p.1 (sym name))

        other : (d : ClientNo) → c ≢ d → (now : Option Tid) → ((client_eq d t.client ≡ true) × (d ≡ t.client)) ⊎ ((client_eq d t.client ≡ false) × (d ≢ t.client)) → (if client_eq d t.client then Some T else now) ≡ now
        other d ne now (inl p) = absurd (ne (sym (p.1 ∙ name)))
        other d ne now (inr p) = ap (λ (b : Bool). if b then Some T else now) p.0

    begun-take : (x : Outstanding) (q : RequestNo) (o : Option Tid) → t.outstanding ≡ Some x → x.request ≡ q → is_begin x.command ≡ true → MessageFact es ls (openings r.sent) r.clients r.memory w (Client c, messages.Begun c q o) → TakesCause k (begun_row t x.event o)
    begun-take x q None out e b h = idles _ (λ d n now. refl)
    begun-take x q (Some T) out e b h = begins-it x T out b (h.1 x out e)

    -- ---- a work is open

    opened-take : (j : ℕ) (T : Tid) (o : Option WorkId) → ((W : WorkId) → o ≡ Some W → WasOpened r.sent T W) → t.transaction ≡ Some T → TakesCause k (opened_row t j o)
    opened-take j T None h e = idles _ (λ d n now. refl)
    opened-take j T (Some W) h e = let old = kept (texts.Opened t.client j W.server ∷ []) [] c (λ n now. refl) in record {
      own = record {
        asked = λ o f. absurd (none-out o f);
        to = λ o s f. absurd (none-out o f);
        current = old.current;
        works = λ U f V i. works U f V (more-names t.works (record { work = W; last = 0 }) V i);
        begun = old.begun;
      };
      others = λ d ne n now. refl;
      news = tt;
    }
      where
        works : (U : Tid) → t.transaction ≡ Some U → (V : WorkId) → (is_work V (names_of t.works) ≡ true) ⊎ (W ≡ V) → WasOpened (r.sent ++ []) U V
        works U f V (inl i) = opened-more r.sent [] U V ((cause.each c).works U f V i)
        works U f V (inr i) = opened-more r.sent [] U V (subst (λ (X : WorkId). WasOpened r.sent U X) i (subst (λ (X : Tid). WasOpened r.sent X W) (some-tid T U (sym e ∙ f)) (h W refl)))

    -- ---- an outcome

    decides : (T : Tid) (line : ℕ → Text) → ((j : ℕ) → Mutes (line j)) → TakesCause k (decided_row t T line)
    decides T line mute = either (is_current t T) _ _ (λ e. waits-take t.outstanding _ _ refl (λ x f g. overs (line x.event) _ _ _ (mute x.event))) (quiet t [] _ (λ d n now. refl) (λ o e. e) (λ U e. (e, refl)) (tt, tt))

    outcome-take : (T : Tid) (outcome : Outcome) → TakesCause k (outcome_row t T outcome)
    outcome-take T outcomes.Committed = decides T _ (λ j d n now. refl)
    outcome-take T (outcomes.Aborted why) = decides T _ (λ j d n now. refl)
    outcome-take T (outcomes.Waiting s u by) = either (is_current t T) _ _ (λ e. waits-take t.outstanding _ _ refl (λ x f g. quiet t _ _ (λ d n now. refl) (λ o e. e) (λ U e. (e, refl)) tt)) ignores
    outcome-take T (outcomes.NotKnown s epoch) = either (is_current t T) _ _ (λ e. waits-take t.outstanding _ _ refl (λ x f g. quiet (over t) _ _ (λ d n now. refl) (λ o e. absurd (none-out o e)) (λ U e. absurd (none-tid U e)) tt)) ignores

    its : (T : Tid) → is_current t T ≡ true → t.transaction ≡ Some T
    its T e = by t.transaction e
      where
        by : (o : Option Tid) → is_tid T o ≡ true → o ≡ Some T
        by None k = absurd (grind arith)
        by (Some U) k = same (tid_tells T U) k
          where
            same : ((tid_eq T U ≡ true) × (T ≡ U)) ⊎ ((tid_eq T U ≡ false) × (T ≢ U)) → tid_eq T U ≡ true → Some U ≡ Some T
            same (inl p) k = ap (λ (z : Tid). Some z) (sym p.1)
            same (inr p) k = absurd (not_both (tid_eq T U) k p.0)

    pub take-keeps : (message : Message) → In (Client c, message) r.sent → MessageFact es ls (openings r.sent) r.clients r.memory w (Client c, message) → TakesCause k (take_row t message)
    take-keeps (messages.Begun d q o) i h = waits-take t.outstanding _ _ refl (λ x e f. let rest = second-of (client_eq d t.client) _ f in
        begun-take x q o e (same-number x.request q (first-of (request_eq x.request q) (is_begin x.command) rest)) (second-of (request_eq x.request q) (is_begin x.command) rest)
        (subst (λ (z : ClientNo). MessageFact es ls (openings r.sent) r.clients r.memory w (Client c, messages.Begun z q o)) (same-client d (first-of (client_eq d t.client) _ f)) h))
    take-keeps (messages.Opened d q T o) i h = waits-take t.outstanding _ _ refl (λ x e f. opened-take x.event T o (λ W g. record { to = Client c; client = d; request = q; is = subst (λ (z : Option WorkId). In (Client c, messages.Opened d q T z) r.sent) g i })
        (its T (first-of (is_current t T) _ (second-of (request_eq x.request q) _ (second-of (client_eq d t.client) _ f)))))
    take-keeps (messages.Answer d q answer) i h = waits-take t.outstanding _ _ refl (λ x e f. idles _ (answer-mutes x.event answer))
    take-keeps (messages.Outcome d T outcome) i h = either (client_eq d t.client) _ _ (λ e. outcome-take T outcome) ignores
    take-keeps _ i h = ignores

  -- ---- a command of this event

  module _ (within : AreWithin 0 r.event ls) where
    abbrev pub CommandCauses : Commanded → Type 0
    CommandCauses (Refuses refusal) = Unit {0}
    CommandCauses (Sends u to message) = ClientKeeps u [] ((to, message) ∷ [])

    abbrev sent-table : Command → List OpenWork → Party → Message → ClientTable
    sent-table command works to message = record t { works = works; next = t.next + 1; outstanding = Some (record { event = r.event; request = request_of t.next; command = command; to = to; message = message }) }

    abbrev Said : ClientTable → Party → Message → Type 0
    Said u to message = MessageFact es' (ls ++ []) (openings (r.sent ++ (to, message) ∷ [])) (at_client r.clients c u) r.memory v (to, message)

    sends-it : (command : Command) → Stands 1 es' r.event (events.Command c command) → (works : List OpenWork) (to : Party) (message : Message) → names_of works ≡ names_of t.works → ((s : ServerNo) → command ≡ Begin s → to ≡ Server s) → Said (sent-table command works to message) to message → ClientKeeps (sent-table command works to message) [] ((to, message) ∷ [])
    sends-it command stands works to message same at h = let old = kept [] ((to, message) ∷ []) c (λ n now. refl) in record {
      own = record {
        asked = λ o e. subst (λ (z : Outstanding). Stands 1 es' z.event (events.Command c z.command)) (some-out _ o e) stands;
        to = λ o s e. subst (λ (z : Outstanding). z.command ≡ Begin s → z.to ≡ Server s) (some-out _ o e) (at s);
        current = old.current;
        works = λ T e W i. old.works T e W (subst (λ l. is_work W l ≡ true) same i);
        begun = old.begun;
      };
      others = λ d ne n now. refl;
      news = (h, tt);
    }

    own-table : (u : ClientTable) → at_client r.clients c u t.client ≡ u
    own-table u = one-client (λ d z. d ≡ t.client → z ≡ u) r.clients c u (λ e. refl) (λ d other e. absurd (other (sym (e ∙ (facts.clients c).name)))) t.client refl

    below : (n : ℕ) → n < n + 1
    below n = omega arith

    begin-said : (command : Command) (works : List OpenWork) (to : Party) → Said (sent-table command works to (messages.Begin t.client (request_of t.next))) to (messages.Begin t.client (request_of t.next))
    begin-said command works to = let u = sent-table command works to (messages.Begin t.client (request_of t.next)) in
        subst (λ (z : ClientTable). (t.next < z.next) × ((o : Outstanding) → z.outstanding ≡ Some o → o.request ≡ request_of t.next → o.to ≡ to)) (sym (own-table u)) (below t.next, λ o e f. ap (λ (z : Outstanding). z.to) (sym (some-out _ o e)))

    -- the client comes to the server by this event
    comes : (s : ServerNo) (T : Tid) (x : Sent) → Stands 1 es' r.event (events.Command c (Open s)) → t.transaction ≡ Some T → CameBy es' (ls ++ []) (openings (r.sent ++ x ∷ [])) c T s
    comes s T x stands f = let b = (facts.clients c).current T f in record {
      number = r.event;
      came = record { event = events.Command c (Open s); stands = stands; is = all (client_eq c c) (server_eq s s) _ _ (self c) (same s) (in-here r.event ls [] c T within ((cause.each c).begun T f)) (none-here r.event ls c within) };
      request = b.request;
      has = subst (λ l. Has (opening c b.request T) l) (sym (openings-more r.sent (x ∷ []))) (has-first _ (openings r.sent) (openings (x ∷ [])) b.has);
    }
      where
        self : (d : ClientNo) → client_eq d d ≡ true
        self d = grind (arith, client_tells d d)

        same : (q : ServerNo) → server_eq q q ≡ true
        same q = grind (arith, server_tells q q)

        all : (a b d e : Bool) → a ≡ true → b ≡ true → d ≡ true → e ≡ true → (a && (b && (d && e))) ≡ true
        all a b d e f g h k = grind arith

    at-server : (s : ServerNo) (row : Commanded) → CommandCauses row → CommandCauses (if_server t s row)
    at-server s row h = by (nat_lt s.0 t.servers)
      where
        by : (b : Bool) → CommandCauses (if b then row else Refuses refusals.NoSuchServer)
        by true = h
        by false = tt

    where-idle : (o : Option Outstanding) (row : Commanded) → CommandCauses row → CommandCauses (if_idle o row)
    where-idle None row h = h
    where-idle (Some o) row h = tt

    without-one : (o : Option Tid) (row : Commanded) → CommandCauses row → CommandCauses (if_no_transaction o row)
    without-one None row h = h
    without-one (Some T) row h = tt

    with-one : (o : Option Tid) (row : Tid → Commanded) → t.transaction ≡ o → ((T : Tid) → t.transaction ≡ Some T → CommandCauses (row T)) → CommandCauses (if_transaction o row)
    with-one None row e h = tt
    with-one (Some T) row e h = h T e

    where-none : (o : Option OpenWork) (row : Commanded) → CommandCauses row → CommandCauses (if_not_open o row)
    where-none None row h = h
    where-none (Some x) row h = tt

    where-open : (o : Option OpenWork) (row : OpenWork → Commanded) → ((x : OpenWork) → CommandCauses (row x)) → CommandCauses (if_open o row)
    where-open None row h = tt
    where-open (Some x) row h = h x

    pub command-keeps : (command : Command) → Stands 1 es' r.event (events.Command c command) → CommandCauses (command_row t r.event command)
    command-keeps (Begin s) stands = at-server s _ (where-idle t.outstanding _ (without-one t.transaction _ (sends-it (Begin s) stands t.works (Server s) _ refl (λ q e. ap (λ (z : ServerNo). Server z) (same-begin s q e)) (begin-said (Begin s) t.works (Server s)))))
      where
        same-begin : (p q : ServerNo) → Begin p ≡ Begin q → p ≡ q
        same-begin p q e = cc
    command-keeps (Open s) stands = at-server s _ (where-idle t.outstanding _ (with-one t.transaction _ refl (λ T e. where-none (work_at s t.works) _ (sends-it (Open s) stands t.works (Server s) _ refl (λ q f. absurd (no q f)) (opens T e)))))
      where
        no : (q : ServerNo) → Open s ≡ Begin q → ⊥
        no q e = cc

        opens : (T : Tid) → t.transaction ≡ Some T → (q : ServerNo) → Server s ≡ Server q → CameBy es' (ls ++ []) (openings (r.sent ++ (Server s, messages.Open t.client (request_of t.next) T) ∷ [])) t.client T q
        opens T e q f = subst (λ (z : ServerNo). CameBy es' (ls ++ []) (openings (r.sent ++ (Server s, messages.Open t.client (request_of t.next) T) ∷ [])) t.client T z) (same-server s q f)
            (subst (λ (d : ClientNo). CameBy es' (ls ++ []) (openings (r.sent ++ (Server s, messages.Open t.client (request_of t.next) T) ∷ [])) d T s) (sym (facts.clients c).name) (comes s T (Server s, messages.Open t.client (request_of t.next) T) stands e))
    command-keeps (Do s op) stands = at-server s _ (where-idle t.outstanding _ (with-one t.transaction _ refl (λ T e. where-open (work_at s t.works) _ (λ x. sends-it (Do s op) stands (with_operation s t.works) (Server s) _ (same-names s t.works) (λ q f. absurd (no q f)) tt))))
      where
        no : (q : ServerNo) → Do s op ≡ Begin q → ⊥
        no q e = cc
    command-keeps End stands = where-idle t.outstanding _ (with-one t.transaction _ refl (λ T e. sends-it End stands t.works (Server T.server) _ refl (λ q f. absurd (no q f)) tt))
      where
        no : (q : ServerNo) → End ≡ Begin q → ⊥
        no q e = cc
    command-keeps Abort stands = with-one t.transaction _ refl (λ T e. sends-it Abort stands t.works (Server T.server) _ refl (λ q f. absurd (no q f)) tt)
      where
        no : (q : ServerNo) → Abort ≡ Begin q → ⊥
        no q e = cc

-- ---- no client changes

module _ (es es' : List Event) (on : (j : ℕ) (e : Event) → Stands 1 es j e → Stands 1 es' j e) (ls : List Line) (r : World) (w v : Machine) (cause : CauseFacts es ls r.sent r.clients r.memory r.lines w)
    (mirrors : Mirrors r w) (facts : Facts r w) (spent : (T : Tid) → Spent w T → Spent v T) (new : List Text) (more : List Sent) (mute : (d : ClientNo) → IsMute d new) (old : (x : Sent) → In x more → In x r.sent) where
  -- some messages are sent once more
  pub again-facts : CauseFacts es' (ls ++ at_event (1 + length es) new) (r.sent ++ more) r.clients r.memory (r.lines ++ new) v
  again-facts = record {
    messages = messages-on es es' on ls new r.sent more r.clients r.clients r.memory r.memory r.lines w v cause mirrors.says facts.unique (λ e T k. (facts.clients e).current T k) spent (λ e q l. l) (λ e o k. inl k) (λ T not h. inl h) (λ W h. inl h)
        (each-of _ more (λ x i. one-on es es' on ls new r.sent more r.clients r.clients r.memory r.memory r.lines w v cause mirrors.says facts.unique (λ e T k. (facts.clients e).current T k) spent (λ e q l. l) (λ e o k. inl k) (λ T not h. inl h) (λ W h. inl h) x (old x i)));
    each = λ d. client-on es es' on ls new r.sent more r.clients r.clients r.memory r.memory r.lines w v cause mirrors.says facts.unique (λ e T k. (facts.clients e).current T k) spent (λ e q l. l) (λ e o k. inl k) (λ T not h. inl h) (λ W h. inl h) d (mute d);
    broken = λ s m e. all-told s r.lines new m.worker (cause.broken s m e);
    told = told-on es es' on ls new r.lines cause.told;
  }

  -- all clients are dismissed
  pub dismissed-facts : CauseFacts es' (ls ++ at_event (1 + length es) new) (r.sent ++ more) (λ c. over (r.clients c)) r.memory (r.lines ++ new) v
  dismissed-facts = record {
    messages = messages-on es es' on ls new r.sent more r.clients (λ c. over (r.clients c)) r.memory r.memory r.lines w v cause mirrors.says facts.unique (λ e T k. (facts.clients e).current T k) spent (λ e q l. l) (λ e o k. absurd (none-out o k)) (λ T not h. inl h) (λ W h. inl h)
        (each-of _ more (λ x i. one-on es es' on ls new r.sent more r.clients (λ c. over (r.clients c)) r.memory r.memory r.lines w v cause mirrors.says facts.unique (λ e T k. (facts.clients e).current T k) spent (λ e q l. l) (λ e o k. absurd (none-out o k)) (λ T not h. inl h) (λ W h. inl h) x (old x i)));
    each = λ d. record { asked = λ o e. absurd (none-out o e); to = λ o s e. absurd (none-out o e); current = λ T e. absurd (none-tid T e); works = λ T e. absurd (none-tid T e); begun = λ T e. absurd (none-tid T e) };
    broken = λ s m e. all-told s r.lines new m.worker (cause.broken s m e);
    told = told-on es es' on ls new r.lines cause.told;
  }
