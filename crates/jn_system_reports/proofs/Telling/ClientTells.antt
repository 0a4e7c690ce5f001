-- A client does a command, or sends its outstanding message once more.
use Rattle.jn_system_reports.proofs.Common.{nat_lt, ◌≡◌, ◌≢◌, ◌⊎◌, inl, inr, ◌<◌, ◌≤◌, ℕ, ◌+◌, Bool, true, false, List, [], ◌∷◌, ◌++◌, append-nil, Option, Some, None, refl, sym, ◌∙◌, ap, subst, arith, if◌then◌else◌, ◌||◌, All, All-nil, All-cons, All-append, ServerNo, ClientNo, Tid, WorkId, Party, Server, Op, Command, Begin, Open, Do, End, Abort, server_eq, work_eq, server_tells, work_tells, Event, CommandOf, Message, Refusal, ActiveWork, OpenWork, Outstanding, Sent, ClientTable, Commanded, if_server, if_idle, if_transaction, if_no_transaction, if_open, if_not_open, Refuses, open_at, with_operation, sent_again, is_end_or_abort, sends, event_at, work_same, Machine, Invariant, IsWorkOf, not_both, some_is, none_some, World, at_client, again, commanded, sent_now, Mirrors, IsCurrent, found-open, are-counted, openings, openings-more, Has, has-first, is_closing, Facts, request_of, operation_of, one-client, after, Tell}
use Rattle.jn_system_reports.proofs.Telling.TransactionLines.{owner_in, is_begun}
use Rattle.jn_msgs.specs.declared.message.Message.TheVariants as messages
use Rattle.jn_report.specs.declared.line.Refusal.TheVariants as refusals
use Rattle.jn_report.specs.declared.line.Text.TheVariants as says
use Rattle.jn_system_order.proofs.Ordering.Facts.{opening}
use Rattle.jn_system_reports.proofs.Telling.Tellings.{none-told}
use Rattle.jn_system_reports.proofs.Telling.Acting.{IsSilent}
use Rattle.jn_system_reports.proofs.Telling.Facts.{said, op_in, op_asked, IsOperation, IsAsking, IsNumbered, Hears, IsRunningAt, IsTalking, IsPast, IsEndedAt, IsDrawn, op_sent, IsOpenAt, IsKnown, Talk}
use Rattle.jn_system_reports.proofs.Telling.Quiet.{IsDumb, same-told, map-all, op_sent-more, silent-asks}
use Rattle.jn_system_reports.proofs.Telling.Clients.{at-own, same-client, now, client-talks, running-still, table-started, plain-talks, no-client-talks}

-- ---- a client's works, once one has an operation more

counted-at : (s : ServerNo) (works : List OpenWork) (v : OpenWork) → open_at s works ≡ Some v → open_at s (with_operation s works) ≡ Some (record v { last = v.last + 1 })
counted-at s [] v h = absurd (none_some v h)
counted-at s (u ∷ us) v h = by (server_eq u.work.server s) refl h (counted-at s us v)
  where
    by : (b : Bool) → server_eq u.work.server s ≡ b → (if b then Some u else open_at s us) ≡ Some v → (open_at s us ≡ Some v → open_at s (with_operation s us) ≡ Some (record v { last = v.last + 1 }))
        → open_at s (if b then record u { last = u.last + 1 } ∷ us else u ∷ with_operation s us) ≡ Some (record v { last = v.last + 1 })
    by true e k on = ap (λ (b : Bool). if b then Some (record u { last = u.last + 1 }) else open_at s us) e ∙ ap (λ (z : OpenWork). Some (record z { last = z.last + 1 })) (some_is u v k)
    by false e k on = ap (λ (b : Bool). if b then Some u else open_at s (with_operation s us)) e ∙ on k

counted-other : (s q : ServerNo) (works : List OpenWork) → s ≢ q → open_at q (with_operation s works) ≡ open_at q works
counted-other s q [] ne = refl
counted-other s q (u ∷ us) ne = by (server_tells u.work.server s) (counted-other s q us ne)
  where
    by : ((server_eq u.work.server s ≡ true) × (u.work.server ≡ s)) ⊎ ((server_eq u.work.server s ≡ false) × (u.work.server ≢ s)) → open_at q (with_operation s us) ≡ open_at q us
        → open_at q (if server_eq u.work.server s then record u { last = u.last + 1 } ∷ us else u ∷ with_operation s us) ≡ (if server_eq u.work.server q then Some u else open_at q us)
    by (inl p) on = ap (λ (b : Bool). open_at q (if b then record u { last = u.last + 1 } ∷ us else u ∷ with_operation s us)) p.0
        ∙ ap (λ (b : Bool). if b then Some (record u { last = u.last + 1 }) else open_at q us) (off (server_tells u.work.server q)) ∙ sym (ap (λ (b : Bool). if b then Some u else open_at q us) (off (server_tells u.work.server q)))
      where
        off : ((server_eq u.work.server q ≡ true) × (u.work.server ≡ q)) ⊎ ((server_eq u.work.server q ≡ false) × (u.work.server ≢ q)) → server_eq u.work.server q ≡ false
        off (inl k) = absurd (ne (sym p.1 ∙ k.1))
        off (inr k) = k.0
    by (inr p) on = ap (λ (b : Bool). open_at q (if b then record u { last = u.last + 1 } ∷ us else u ∷ with_operation s us)) p.0 ∙ ap (λ z. if server_eq u.work.server q then Some u else z) on

-- works at two servers are two
pub other-work : (V W : WorkId) → V.server ≢ W.server → work_eq V W ≡ false
other-work V W ne = by (work_tells V W)
  where
    by : ((work_eq V W ≡ true) × (V ≡ W)) ⊎ ((work_eq V W ≡ false) × (V ≢ W)) → work_eq V W ≡ false
    by (inl p) = absurd (ne (ap (λ (z : WorkId). z.server) p.1))
    by (inr p) = p.0

-- a transaction that is someone's was begun
pub its-begun : (events : List Event) (T : Tid) (texts : List _) (c : ClientNo) → owner_in T None texts ≡ Some c → is_begun T texts ≡ true
its-begun events T texts c h = by (is_begun T texts) refl
  where
    by : (b : Bool) → is_begun T texts ≡ b → is_begun T texts ≡ true
    by true e = e
    by false e = absurd (none_some c (sym (none-told events T texts e).1 ∙ h))

-- ---- an operation is sent, for the first time or once more

module _ (events : List Event) (r : World) (w : Machine) (talk : Talk events r w) (clients : (d : ClientNo) → IsCurrent w (r.clients d).transaction (r.clients d).works) (inv : Invariant w) (c : ClientNo) (o : Outstanding) (waits : (r.clients c).outstanding ≡ Some o)
    (s : ServerNo) (op : Op) (its : IsOperation events c (r.clients c) o s op) (drawn : o.request.0 < (r.clients c).next) (fresh : (T : Tid) → (r.clients c).transaction ≡ Some T → w.ended T ≡ false) where
  abbrev W : WorkId
  W = its.work.work

  abbrev x : Sent
  x = (o.to, messages.Op c o.request W (operation_of its.work.last) op)

  work-of : (d : ClientNo) (T : Tid) (q : ServerNo) (y : OpenWork) → (r.clients d).transaction ≡ Some T → open_at q (r.clients d).works ≡ Some y → IsWorkOf w T y.work × (y.work.server ≡ q)
  work-of d T q y e k = found-open w T q (r.clients d).works y (subst (λ z. IsCurrent w z (r.clients d).works) e (clients d)).1 k

  its-work : IsWorkOf w its.tid W × (W.server ≡ s)
  its-work = work-of c its.tid s its.work its.current its.is

  numbered : (d : ClientNo) (T : Tid) (q : ServerNo) (y : OpenWork) → (r.clients d).transaction ≡ Some T → open_at q (r.clients d).works ≡ Some y → IsNumbered y (r.clients d).outstanding x
  numbered d T q y e k same = by (same-client events r w d c its.tid talk (e ∙ ap Some tid) its.current)
    where
      tid : T ≡ its.tid
      tid = sym (work-of d T q y e k).0.1 ∙ ap w.owner (sym same) ∙ its-work.0.1

      place : q ≡ s
      place = sym (work-of d T q y e k).1 ∙ ap (λ (z : WorkId). z.server) (sym same) ∙ its-work.1

      by : d ≡ c → (its.work.last ≤ y.last) × (its.work.last ≡ y.last → (p : Op) → op_asked (r.clients d).outstanding y.work ≡ Some p → p ≡ op)
      by f = (subst (λ n. n ≤ y.last) (ap (λ (z : OpenWork). z.last) one) (self y.last), λ g p l. asked p l)
        where
          self : (n : ℕ) → n ≤ n
          self n = omega arith

          one : y ≡ its.work
          one = some_is y its.work (sym k ∙ ap (λ (z : ClientNo). open_at q (r.clients z).works) f ∙ ap (λ (z : ServerNo). open_at z (r.clients c).works) place ∙ its.is)

          asked : (p : Op) → op_asked (r.clients d).outstanding y.work ≡ Some p → p ≡ op
          asked p l = some_is p op (sym l ∙ ap (λ (z : ClientNo). op_asked (r.clients z).outstanding y.work) f ∙ ap (λ z. op_asked z y.work) waits ∙ ap (λ z. op_in y.work z) its.message
              ∙ ap (λ (z : WorkId). op_in z (messages.Op c o.request W (operation_of its.work.last) op)) (sym same) ∙ ap (λ (b : Bool). if b then Some op else None) (work_same W))

  past : (T : Tid) (q : ServerNo) (V : WorkId) (a : ActiveWork) → w.ended T ≡ true → w.part T q ≡ Some V → IsPast V a x
  past T q V a ended part same = absurd (not_both (w.ended T) ended (subst (λ (z : Tid). w.ended z ≡ false) (sym its-work.0.1 ∙ ap w.owner same ∙ (inv.core.parts T q V part).owner) (fresh its.tid its.current)))

  running-more : (d : ClientNo) (T : Tid) (q : ServerNo) (z : Option OpenWork) → (r.clients d).transaction ≡ Some T → open_at q (r.clients d).works ≡ z → IsRunningAt events r w T (r.clients d).outstanding q z
      → IsRunningAt events (record r { sent = r.sent ++ x ∷ [] }) w T (r.clients d).outstanding q z
  running-more d T q None e k h = h
  running-more d T q (Some y) e k h = (All-append (IsNumbered y (r.clients d).outstanding) r.sent (x ∷ []) h.0 (All-cons (IsNumbered y (r.clients d).outstanding) x [] (numbered d T q y e k) (All-nil (IsNumbered y (r.clients d).outstanding))), h.1)

  ended-more : (T : Tid) (q : ServerNo) (z : Option WorkId) → w.ended T ≡ true → w.part T q ≡ z → IsEndedAt events r w T q z → IsEndedAt events (record r { sent = r.sent ++ x ∷ [] }) w T q z
  ended-more T q None e k h = h
  ended-more T q (Some V) e k h = (h.0, λ a f. All-append (IsPast V a) r.sent (x ∷ []) (h.1 a f) (All-cons (IsPast V a) x [] (past T q V a e k) (All-nil (IsPast V a))))

  its-known : IsKnown (record r { sent = r.sent ++ x ∷ [] }) w W
  its-known = record {
    opened = its-work.0.0;
    begun = subst (λ (z : Tid). is_begun z r.lines ≡ true) (sym its-work.0.1) (its-begun events its.tid r.lines c ((talk.clients c).owner its.tid its.current));
    its = λ d e. subst (λ (z : ClientNo). IsOpenAt W (open_at W.server (r.clients z).works)) (same-client events r w c d its.tid talk its.current (e ∙ ap Some its-work.0.1))
        (subst (λ (z : ServerNo). IsOpenAt W (open_at z (r.clients c).works)) (sym its-work.1) (subst (λ z. IsOpenAt W z) (sym its.is) refl));
  }

  known : (V : WorkId) → op_sent V (r.sent ++ x ∷ []) ≡ true → IsKnown (record r { sent = r.sent ++ x ∷ [] }) w V
  known V e = by (op_sent V r.sent) refl (work_tells W V)
    where
      by : (b : Bool) → op_sent V r.sent ≡ b → ((work_eq W V ≡ true) × (W ≡ V)) ⊎ ((work_eq W V ≡ false) × (W ≢ V)) → IsKnown (record r { sent = r.sent ++ x ∷ [] }) w V
      by true f k = let h = talk.known V f in record { opened = h.opened; begun = h.begun; its = h.its }
      by false f (inl k) = subst (λ (z : WorkId). IsKnown (record r { sent = r.sent ++ x ∷ [] }) w z) k.1 its-known
      by false f (inr k) = absurd (no (sym (op_sent-more V r.sent (x ∷ []) ∙ ap (λ (b : Bool). b || (work_eq W V || false)) f ∙ ap (λ (b : Bool). b || false) k.0) ∙ e))
        where
          no : false ≡ true → ⊥
          no q = grind arith

  op-sent-talks : Talk events (record r { sent = r.sent ++ x ∷ [] }) w
  op-sent-talks = record {
    clients = λ d. let h = talk.clients d in record { asking = h.asking; owner = h.owner; running = λ T e k q. running-more d T q (open_at q (r.clients d).works) e refl (h.running T e k q) };
    ended = λ T e free q. ended-more T q (w.part T q) e refl (talk.ended T e free q);
    owners = talk.owners;
    drawn = All-append (IsDrawn (record r { sent = r.sent ++ x ∷ [] })) r.sent (x ∷ []) talk.drawn (All-cons (IsDrawn (record r { sent = r.sent ++ x ∷ [] })) x []
        (drawn, λ p e f. ap (λ (z : Outstanding). z.message) (some_is p o (sym e ∙ waits)) ∙ its.message) (All-nil (IsDrawn (record r { sent = r.sent ++ x ∷ [] }))));
    known = known;
    unasked = λ V e. talk.unasked V (first (op_sent V r.sent) (work_eq W V || false) (sym (op_sent-more V r.sent (x ∷ [])) ∙ e));
    started = λ T e. let h = talk.started T e in record {
      client = h.client;
      request = h.request;
      has = subst (λ l. Has (opening h.client h.request T) l) (sym (openings-more r.sent (x ∷ []))) (has-first (opening h.client h.request T) (openings r.sent) (openings (x ∷ [])) h.has);
      drawn = h.drawn;
      before = h.before;
      its = h.its;
    };
  }
    where
      first : (a b : Bool) → (a || b) ≡ false → a ≡ false
      first a b q = grind arith

  pub op-again : Talk events (record r { sent = r.sent ++ (o.to, o.message) ∷ [] }) w
  op-again = subst (λ (z : Message). Talk events (record r { sent = r.sent ++ (o.to, z) ∷ [] }) w) (sym its.message) op-sent-talks

-- ---- a command of the client

module _ (events : List Event) (r : World) (w : Machine) (mirrors : Mirrors r w) (facts : Facts r w) (inv : Invariant w) (talk : Talk events r w) (c : ClientNo) where
  abbrev t : ClientTable
  t = r.clients c

  its-name : t.client ≡ c
  its-name = (facts.clients c).name

  -- what a row makes of the world keeps the talk
  abbrev RowTalks : Commanded → Type 0
  RowTalks row = Talk events (commanded c row r) w

  le : (n : ℕ) → n ≤ n
  le n = omega arith

  more : (n : ℕ) → n ≤ n + 1
  more n = omega arith

  refuses : (refusal : Refusal) → IsDumb (says.Refused c r.event refusal) → RowTalks (Refuses refusal)
  refuses refusal dumb = subst (λ l. Talk events (record r { sent = l; lines = r.lines ++ says.Refused c r.event refusal ∷ [] }) w) (append-nil r.sent)
      (no-client-talks events r w c [] (says.Refused c r.event refusal ∷ []) talk tt (dumb, tt))

  -- a message that is no operation is sent for a command
  sends-plain : (event : ℕ) (command : Command) (to : Party) (message : Message) → IsSilent (to, message)
      → IsAsking events c (record t { next = t.next + 1; outstanding = Some (record { event = event; request = request_of t.next; command = command; to = to; message = message }) }) (record { event = event; request = request_of t.next; command = command; to = to; message = message }) command
      → (is_end_or_abort command ≡ false → (T : Tid) → t.transaction ≡ Some T → t.outstanding ≡ None) → RowTalks (sends t event command to message)
  sends-plain event command to message silent asking idle = subst (λ l. Talk events (record r { clients = at_client r.clients c u; sent = r.sent ++ (to, message) ∷ []; lines = l }) w) (append-nil r.lines)
      (plain-talks events r w c u ((to, message) ∷ []) [] talk (silent, tt) tt (more t.next, λ p e. inr (subst (λ (z : Outstanding). t.next ≤ z.request.0) (some_is o p e) (le t.next)))
      (λ T e. (e, refl)) (λ p e. subst (λ (z : Outstanding). IsAsking events c u z z.command) (some_is o p e) asking)
      (λ T e k. let free = idle k T e in (ap is_closing free, λ W. (ap (λ z. op_asked z W) free, silent-asks W to message silent))))
    where
      o : Outstanding
      o = record { event = event; request = request_of t.next; command = command; to = to; message = message }

      u : ClientTable
      u = record t { next = t.next + 1; outstanding = Some (record { event = event; request = request_of t.next; command = command; to = to; message = message }) }

  -- ---- an operation

  module _ (s : ServerNo) (op : Op) (idle : t.outstanding ≡ None) (T : Tid) (current : t.transaction ≡ Some T) (v : OpenWork) (is : open_at s t.works ≡ Some v) (told : event_at events r.event ≡ Some (CommandOf c (Do s op))) where
    abbrev asked : Outstanding
    asked = record { event = r.event; request = request_of t.next; command = Do s op; to = Server s; message = messages.Op t.client (request_of t.next) v.work (operation_of (v.last + 1)) op }

    abbrev u : ClientTable
    u = record t { works = with_operation s t.works; next = t.next + 1; outstanding = Some asked }

    abbrev grown : OpenWork
    grown = record v { last = v.last + 1 }

    abbrev r1 : World
    r1 = now events r w c u [] []

    operation : IsOperation events c u asked s op
    operation = record {
      work = grown;
      is = counted-at s t.works v is;
      message = ap (λ (z : ClientNo). messages.Op z (request_of t.next) v.work (operation_of (v.last + 1)) op) its-name;
      told = told;
      tid = T;
      current = current;
    }

    none-told-more : (U : Tid) (q : ServerNo) → said events U q (r.lines ++ []) ≡ said events U q r.lines
    none-told-more U q = (same-told r.lines [] tt).said events U q

    numbered-one : (z : Sent) → IsNumbered v None z → IsNumbered grown (Some asked) z
    numbered-one (to, messages.Op d request W number p) h = λ e. let le = (h e).0 in (omega (arith, le), λ g. absurd (omega (arith, le, g)))
    numbered-one (to, _) h = tt

    running-own : (U : Tid) (q : ServerNo) → t.transaction ≡ Some U → IsRunningAt events r w U None q (open_at q t.works) → IsRunningAt events r1 w U (Some asked) q (open_at q (with_operation s t.works))
    running-own U q e h = by (server_tells s q)
      where
        sent-same : (P : Sent → Type 0) → All P r.sent → All P (r.sent ++ [])
        sent-same P k = subst (λ l. All P l) (sym (append-nil r.sent)) k

        here : s ≡ q → IsRunningAt events r w U None q (Some v) → IsRunningAt events r1 w U (Some asked) q (Some grown)
        here k g = (
          sent-same (IsNumbered grown (Some asked)) (map-all (IsNumbered v None) (IsNumbered grown (Some asked)) r.sent numbered-one g.0),
          λ a f. subst (λ z. Hears z grown a (said events U q (r.lines ++ [])) (w.trace v.work)) (sym (ap (λ (b : Bool). if b then Some op else None) (work_same v.work)))
              (inl (ap (λ n. n + 1) (g.1 a f).0, subst (λ z. Rattle.jn_system_reports.proofs.Telling.Tellings.SaysAs z (w.trace v.work)) (sym (none-told-more U q)) (g.1 a f).1)),
        )

        apart : (y : OpenWork) → s ≢ q → open_at q t.works ≡ Some y → op_asked (Some asked) y.work ≡ None
        apart y ne k = ap (λ (b : Bool). if b then Some op else None) (other-work v.work y.work (λ f. ne (sym (place v s is) ∙ f ∙ place y q k)))
          where
            place : (z : OpenWork) (p : ServerNo) → open_at p t.works ≡ Some z → z.work.server ≡ p
            place z p l = (found-open w U p t.works z (subst (λ z. IsCurrent w z t.works) e (mirrors.clients c).current).1 l).1

        by : ((server_eq s q ≡ true) × (s ≡ q)) ⊎ ((server_eq s q ≡ false) × (s ≢ q)) → IsRunningAt events r1 w U (Some asked) q (open_at q (with_operation s t.works))
        by (inl k) = subst (λ z. IsRunningAt events r1 w U (Some asked) q z) (sym (ap (λ (z : ServerNo). open_at z (with_operation s t.works)) (sym k.1) ∙ counted-at s t.works v is))
            (here k.1 (subst (λ z. IsRunningAt events r w U None q z) (ap (λ (z : ServerNo). open_at z t.works) (sym k.1) ∙ is) h))
        by (inr k) = subst (λ z. IsRunningAt events r1 w U (Some asked) q z) (sym (counted-other s q t.works k.1))
            (running-still events r w c u [] [] U q None (Some asked) (open_at q t.works) tt (none-told-more U q) (λ y l. (refl, apart y k.1 l)) h)

    own : IsTalking events r1 w c u
    own = record {
      asking = λ p e. subst (λ (z : Outstanding). IsAsking events c u z z.command) (some_is asked p e) operation;
      owner = λ U e. (same-told r.lines [] tt).owner U ∙ (talk.clients c).owner U e;
      running = λ U e k q. running-own U q e (subst (λ o. IsRunningAt events r w U o q (open_at q t.works)) idle ((talk.clients c).running U e (ap is_closing idle) q));
    }

    open-still : (W : WorkId) (q : ServerNo) → IsOpenAt W (open_at q t.works) → IsOpenAt W (open_at q (with_operation s t.works))
    open-still W q h = by (server_tells s q)
      where
        by : ((server_eq s q ≡ true) × (s ≡ q)) ⊎ ((server_eq s q ≡ false) × (s ≢ q)) → IsOpenAt W (open_at q (with_operation s t.works))
        by (inl k) = subst (λ z. IsOpenAt W z) (sym (ap (λ (z : ServerNo). open_at z (with_operation s t.works)) (sym k.1) ∙ counted-at s t.works v is)) (subst (λ z. IsOpenAt W z) (ap (λ (z : ServerNo). open_at z t.works) (sym k.1) ∙ is) h)
        by (inr k) = subst (λ z. IsOpenAt W z) (sym (counted-other s q t.works k.1)) h

    draws : (t.next ≤ u.next) × ((p : Outstanding) → u.outstanding ≡ Some p → (t.outstanding ≡ Some p) ⊎ (t.next ≤ p.request.0))
    draws = (more t.next, λ p e. inr (subst (λ (z : Outstanding). t.next ≤ z.request.0) (some_is asked p e) (le t.next)))

    table-talks : Talk events r1 w
    table-talks = let same = same-told r.lines [] tt in
        client-talks events r w c u [] [] talk tt own (λ U d ne e. (same.owner U ∙ e, same.said events U)) (λ U e. same.said events U)
        (λ U d e. one-client (λ d z. owner_in U None r.lines ≡ Some d → (z.transaction ≡ None) ⊎ (z.transaction ≡ Some U)) r.clients c u (talk.owners U c) (λ d ne. talk.owners U d) d (sym (same.owner U) ∙ e))
        draws (All-nil (IsDrawn r1)) (λ W e k. record {
          opened = k.opened;
          begun = same.begun (w.owner W) ∙ k.begun;
          its = one-client (λ d z. z.transaction ≡ Some (w.owner W) → IsOpenAt W (open_at W.server z.works)) r.clients c u (λ f. open-still W W.server (k.its c f)) (λ d ne. k.its d);
        }) (λ U e. table-started events r w c u [] [] draws U (λ d f. sym (same.by d U) ∙ f) (talk.started U (sym (same.begun U) ∙ e)))

    -- the table as it is, with the message
    does-talks : RowTalks (sends (record t { works = with_operation s t.works }) r.event (Do s op) (Server s) (messages.Op t.client (request_of t.next) v.work (operation_of (v.last + 1)) op))
    does-talks = op-again events r2 w talk2 (one-client (λ d z. IsCurrent w z.transaction z.works) r.clients c u its-current (λ d ne. (mirrors.clients d).current)) inv c asked (ap (λ (z : ClientTable). z.outstanding) (at-own r.clients c u)) s op
        (subst (λ z. IsOperation events c z asked s op) (sym (at-own r.clients c u)) operation) (subst (λ z. t.next < z.next) (sym (at-own r.clients c u)) (below t.next)) fresh
      where
        below : (n : ℕ) → n < n + 1
        below n = omega arith

        r2 : World
        r2 = record r { clients = at_client r.clients c u }

        talk2 : Talk events (record r { clients = at_client r.clients c u }) w
        talk2 = subst (λ l. Talk events (record r { clients = at_client r.clients c u; lines = l }) w) (append-nil r.lines)
            (subst (λ l. Talk events (record r { clients = at_client r.clients c u; sent = l; lines = r.lines ++ [] }) w) (append-nil r.sent) table-talks)

        its-current : IsCurrent w t.transaction (with_operation s t.works)
        its-current = subst (λ z. IsCurrent w z (with_operation s t.works)) (sym current) (let k = subst (λ z. IsCurrent w z t.works) current (mirrors.clients c).current in (k.0, are-counted w T s t.works k.1))

        fresh : (U : Tid) → (at_client r.clients c u c).transaction ≡ Some U → w.ended U ≡ false
        fresh U e = (facts.clients c).fresh U (subst (λ (z : ClientTable). z.transaction ≡ Some U) (at-own r.clients c u) e) (ap is_closing idle)

  -- ---- every command

  guard-server : (s : ServerNo) (row : Commanded) → RowTalks row → RowTalks (if_server t s row)
  guard-server s row k = by (nat_lt s.0 t.servers)
    where
      by : (b : Bool) → RowTalks (if b then row else Refuses refusals.NoSuchServer)
      by true = k
      by false = refuses refusals.NoSuchServer tt

  guard-idle : (o : Option Outstanding) (row : Commanded) → (o ≡ None → RowTalks row) → RowTalks (if_idle o row)
  guard-idle None row k = k refl
  guard-idle (Some o) row k = refuses refusals.ClientBusy tt

  guard-none : (o : Option Tid) (row : Commanded) → (o ≡ None → RowTalks row) → RowTalks (if_no_transaction o row)
  guard-none None row k = k refl
  guard-none (Some T) row k = refuses refusals.HasTransaction tt

  guard-one : (o : Option Tid) (row : Tid → Commanded) → ((T : Tid) → o ≡ Some T → RowTalks (row T)) → RowTalks (if_transaction o row)
  guard-one None row k = refuses refusals.NoTransaction tt
  guard-one (Some T) row k = k T refl

  guard-closed : (o : Option OpenWork) (row : Commanded) → RowTalks row → RowTalks (if_not_open o row)
  guard-closed None row k = k
  guard-closed (Some v) row k = refuses refusals.AlreadyOpen tt

  guard-open : (o : Option OpenWork) (row : OpenWork → Commanded) → ((v : OpenWork) → o ≡ Some v → RowTalks (row v)) → RowTalks (if_open o row)
  guard-open None row k = refuses refusals.NotOpen tt
  guard-open (Some v) row k = k v refl

  closes : {A : Type 0} → true ≡ false → A
  closes q = absurd (grind arith)

  pub tell-talks : (command : Command) → event_at events r.event ≡ Some (CommandOf c command) → Talk events (after (Tell c command) r) w
  tell-talks (Begin s) told = guard-server s _ (guard-idle t.outstanding _ (λ e. guard-none t.transaction _ (λ f. sends-plain r.event (Begin s) _ _ tt tt (λ k T g. absurd (none_some T (sym f ∙ g))))))
  tell-talks (Open s) told = guard-server s _ (guard-idle t.outstanding _ (λ e. guard-one t.transaction _ (λ T f. guard-closed (open_at s t.works) _ (sends-plain r.event (Open s) _ _ tt tt (λ k U g. e)))))
  tell-talks (Do s op) told = guard-server s _ (guard-idle t.outstanding _ (λ e. guard-one t.transaction _ (λ T f. guard-open (open_at s t.works) _ (λ v g. does-talks s op e T f v g told))))
  tell-talks End told = guard-idle t.outstanding _ (λ e. guard-one t.transaction _ (λ T f. sends-plain r.event End _ _ tt tt (λ k U g. e)))
  tell-talks Abort told = guard-one t.transaction _ (λ T f. sends-plain r.event Abort _ _ tt tt (λ k U g. closes k))

  -- ---- once more

  pub again-talks : Talk events (again c r) w
  again-talks = by t.outstanding refl
    where
      plain : (o : Outstanding) → IsSilent (o.to, o.message) → Talk events (record r { sent = r.sent ++ (o.to, o.message) ∷ [] }) w
      plain o silent = subst (λ l. Talk events (record r { sent = r.sent ++ (o.to, o.message) ∷ []; lines = l }) w) (append-nil r.lines) (no-client-talks events r w c ((o.to, o.message) ∷ []) [] talk (silent, tt) tt)

      on : (o : Outstanding) (command : Command) → t.outstanding ≡ Some o → o.command ≡ command → IsAsking events c t o command → Talk events (record r { sent = r.sent ++ (o.to, o.message) ∷ [] }) w
      on o (Do s op) e f k = op-again events r w talk (λ d. (mirrors.clients d).current) inv c o e s op k ((facts.clients c).waits o e).drawn (λ T g. (facts.clients c).fresh T g (ap is_closing e ∙ ap is_end_or_abort f))
      on o (Begin s) e f k = plain o k
      on o (Open s) e f k = plain o k
      on o End e f k = plain o k
      on o Abort e f k = plain o k

      by : (o : Option Outstanding) → t.outstanding ≡ o → Talk events (record r { sent = r.sent ++ sent_now (sent_again o) }) w
      by None e = subst (λ l. Talk events (record r { sent = l }) w) (sym (append-nil r.sent)) talk
      by (Some o) e = on o o.command e refl ((talk.clients c).asking o e)
