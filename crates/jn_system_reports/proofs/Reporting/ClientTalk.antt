-- A client's rows keep what it has asked for, and a new operation of it is the next one of its work.
use Rattle.jn_system_reports.proofs.Common.{◌≡◌, ◌⊎◌, inl, inr, ◌<◌, ◌≤◌, ℕ, ◌+◌, Bool, true, false, List, [], ◌∷◌, ◌++◌, Option, Some, None, refl, sym, ◌∙◌, ap, subst, arith, ◌&&◌, if◌then◌else◌, nat_lt, nat_tests, ServerNo, ClientNo, Tid, WorkId, Party, Client, Server, Op, Command, Begin, Open, Do, End, Abort, server_eq, client_eq, client_tells, Message, Outcome, Text, OpenWork, Outstanding, Taken, Sent, ClientTable, Commanded, Refuses, Sends, with_operation, if_server, if_idle, if_transaction, if_no_transaction, if_open, if_not_open, command_row, sends, is_begin, is_current, if_waits, idle, over, begun_row, opened_row, decided_row, outcome_row, take_row, Machine, IsWorkOf, AreOpen, found-open, Opening, opening_in, Has, Began, IsRunning, request_eq, request_of, operation_of, RequestNo}
use Rattle.jn_msgs.specs.declared.message.Message.TheVariants as messages
use Rattle.jn_msgs.specs.declared.message.Outcome.TheVariants as outcomes
use Rattle.jn_report.specs.declared.line.Refusal.TheVariants as refusals
use Rattle.jn_rows.specs.declared.client.Taken.TheVariants as taken
use Rattle.jn_rows.specs.Client.{work_at}
use Rattle.jn_system_order.proofs.Ordering.Facts.{opening}
use Rattle.jn_system_reports.proofs.Reporting.Lists.{In}
use Rattle.jn_system_reports.proofs.Reporting.Asking.{Asking, IsAsked, IsReply}
use Rattle.jn_system_reports.proofs.Reporting.Known.{AskedFact, Does, WorksStay, WaitsStay, goes-on, ends, begins}

pub record WaitFact (sent : List Sent) (t : ClientTable) (o : Outstanding) : Type 0 where
  pub again : In (o.to, o.message) sent
  pub begins : is_begin o.command ≡ true → t.transaction ≡ None

some-out : (o p : Outstanding) → Some o ≡ Some p → o ≡ p
some-out o p e = cc

none-out : (o : Outstanding) → None ≡ Some o → ⊥
none-out o e = cc

none-open : (v : OpenWork) → None ≡ Some v → ⊥
none-open v e = cc

some-open : (v x : OpenWork) → Some v ≡ Some x → v ≡ x
some-open v x e = cc

-- ---- works

-- the work that is found is found here too, with no fewer operations
abbrev Stays : ServerNo → OpenWork → List OpenWork → Type 0
Stays q v xs = (x : OpenWork) × (work_at q xs ≡ Some x) × (x.work ≡ v.work) × (v.last ≤ x.last)

self : (n : ℕ) → n ≤ n
self n = omega arith

up : (n : ℕ) → n ≤ n + 1
up n = omega arith

it-stays : (q : ServerNo) (v : OpenWork) (xs : List OpenWork) → work_at q xs ≡ Some v → Stays q v xs
it-stays q v xs h = (v, h, refl, self v.last)

pub counted-stay : (s : ServerNo) (works : List OpenWork) (q : ServerNo) (v : OpenWork) → work_at q works ≡ Some v → Stays q v (with_operation s works)
counted-stay s [] q v h = absurd (none-open v h)
counted-stay s (y ∷ ys) q v h = by (server_eq y.work.server s) (server_eq y.work.server q) refl h (counted-stay s ys q v)
  where
    found : (z : OpenWork) (zs : List OpenWork) → server_eq z.work.server q ≡ true → work_at q (z ∷ zs) ≡ Some z
    found z zs e = ap (λ (b : Bool). if b then Some z else work_at q zs) e

    past : (z : OpenWork) (zs : List OpenWork) → server_eq z.work.server q ≡ false → Stays q v zs → Stays q v (z ∷ zs)
    past z zs e x = (x.0, ap (λ (b : Bool). if b then Some z else work_at q zs) e ∙ x.1, x.2, x.3)

    by : (b c : Bool) → server_eq y.work.server q ≡ c → (if c then Some y else work_at q ys) ≡ Some v
        → (work_at q ys ≡ Some v → Stays q v (with_operation s ys)) → Stays q v (if b then record y { last = y.last + 1 } ∷ ys else y ∷ with_operation s ys)
    by true true e k on = subst (λ (z : OpenWork). Stays q z (record y { last = y.last + 1 } ∷ ys)) (some-open y v k) (record y { last = y.last + 1 }, found (record y { last = y.last + 1 }) ys e, refl, up y.last)
    by true false e k on = past (record y { last = y.last + 1 }) ys e (it-stays q v ys k)
    by false true e k on = subst (λ (z : OpenWork). Stays q z (y ∷ with_operation s ys)) (some-open y v k) (it-stays q y (y ∷ with_operation s ys) (found y (with_operation s ys) e))
    by false false e k on = past y (with_operation s ys) e (on k)

-- the operation is counted at its work
counted-found : (s : ServerNo) (works : List OpenWork) (v : OpenWork) → work_at s works ≡ Some v → work_at s (with_operation s works) ≡ Some (record v { last = v.last + 1 })
counted-found s [] v h = absurd (none-open v h)
counted-found s (y ∷ ys) v h = by (server_eq y.work.server s) refl h (counted-found s ys v)
  where
    by : (b : Bool) → server_eq y.work.server s ≡ b → (if b then Some y else work_at s ys) ≡ Some v → (work_at s ys ≡ Some v → work_at s (with_operation s ys) ≡ Some (record v { last = v.last + 1 }))
        → work_at s (if b then record y { last = y.last + 1 } ∷ ys else y ∷ with_operation s ys) ≡ Some (record v { last = v.last + 1 })
    by true e k on = ap (λ (b : Bool). if b then Some (record y { last = y.last + 1 }) else work_at s ys) e ∙ ap (λ (z : OpenWork). Some (record z { last = z.last + 1 })) (some-open y v k)
    by false e k on = ap (λ (b : Bool). if b then Some y else work_at s (with_operation s ys)) e ∙ on k

pub more-stay : (works : List OpenWork) (w : OpenWork) (q : ServerNo) (v : OpenWork) → work_at q works ≡ Some v → Stays q v (works ++ w ∷ [])
more-stay [] w q v h = absurd (none-open v h)
more-stay (y ∷ ys) w q v h = by (server_eq y.work.server q) refl h (more-stay ys w q v)
  where
    by : (b : Bool) → server_eq y.work.server q ≡ b → (if b then Some y else work_at q ys) ≡ Some v → (work_at q ys ≡ Some v → Stays q v (ys ++ w ∷ [])) → Stays q v (y ∷ ys ++ w ∷ [])
    by true e k on = it-stays q v (y ∷ ys ++ w ∷ []) (ap (λ (b : Bool). if b then Some y else work_at q (ys ++ w ∷ [])) e ∙ k)
    by false e k on = let x = on k in (x.0, ap (λ (b : Bool). if b then Some y else work_at q (ys ++ w ∷ [])) e ∙ x.1, x.2, x.3)

-- ---- what a message asks

abbrev pub asking_in : Message → Option Asking
asking_in (messages.Op c q W n op) = Some (record { client = c; request = q; work = W; number = n; op = op })
asking_in message = None

pub asked-alone : (x : Sent) (a : Asking) → IsAsked (x ∷ []) a → asking_in x.1 ≡ Some a
asked-alone x a h = by h.is
  where
    by : In (h.to, messages.Op a.client a.request a.work a.number a.op) (x ∷ []) → asking_in x.1 ≡ Some a
    by (inl e) = ap (λ (y : Sent). asking_in y.1) e
    by (inr k) = absurd k

abbrev pub IsHeard : List Sent → Sent → Type 0
IsHeard sent (to, messages.Answer c q answer) = IsReply sent (to, messages.Answer c q answer)
IsHeard sent message = Unit {0}

-- what becomes of a table: its requests go on, and a transaction that it has was its before, or has just begun
pub record TableGoes (os : List Opening) (c : ClientNo) (t u : ClientTable) : Type 0 where
  pub next : t.next ≤ u.next
  pub fresh : WaitsStay t u
  pub has : (T : Tid) → u.transaction ≡ Some T → (t.transaction ≡ Some T) ⊎ ((x : Outstanding) × (t.outstanding ≡ Some x) × ((q : RequestNo) → Has (opening c q T) os → x.request ≡ q))

module _ (os : List Opening) (w : Machine) (ended : Tid → Bool) (sent : List Sent) (c : ClientNo) (t : ClientTable) (run : IsRunning os ended c t)
    (unique : (a b : Opening) → Has a os → Has b os → a.tid ≡ b.tid → a ≡ b) (waits : (o : Outstanding) → t.outstanding ≡ Some o → WaitFact sent t o)
    (current : (T : Tid) → t.transaction ≡ Some T → AreOpen w T t.works) where
  -- ---- a command

  -- the next operation of a work of the transaction
  pub record IsNext (u : ClientTable) (a : Asking) : Type 0 where
    pub client : a.client ≡ c
    pub tid : Tid
    pub is : t.transaction ≡ Some tid
    pub server : ServerNo
    pub work : OpenWork
    pub found : work_at server t.works ≡ Some work
    pub named : a.work ≡ work.work
    pub number : a.number.0 ≡ work.last + 1
    pub fact : AskedFact os w u a
    pub idle : t.outstanding ≡ None
    pub of : IsWorkOf w tid a.work

  pub record Commands (u : ClientTable) (to : Party) (message : Message) : Type 0 where
    pub next : t.next ≤ u.next
    pub fresh : WaitsStay t u
    pub same : u.transaction ≡ t.transaction
    pub works : WorksStay t u
    pub waiting : (o : Outstanding) → u.outstanding ≡ Some o → (o.to ≡ to) × (o.message ≡ message) × (is_begin o.command ≡ true → u.transaction ≡ None)
    pub asks : (a : Asking) → asking_in message ≡ Some a → IsNext u a
    pub heard : IsHeard sent (to, message)
    pub last : (o : Outstanding) → u.outstanding ≡ Some o → u.next ≡ o.request.0 + 1

  abbrev pub CommandTalks : Commanded → Type 0
  CommandTalks (Refuses refusal) = Unit {0}
  CommandTalks (Sends u to message) = Commands u to message

  at-server : (s : ServerNo) (row : Commanded) → CommandTalks row → CommandTalks (if_server t s row)
  at-server s row k = by (nat_lt s.0 t.servers)
    where
      by : (b : Bool) → CommandTalks (if b then row else Refuses refusals.NoSuchServer)
      by true = k
      by false = tt

  where-idle : (o : Option Outstanding) (row : Commanded) → t.outstanding ≡ o → (t.outstanding ≡ None → CommandTalks row) → CommandTalks (if_idle o row)
  where-idle None row e k = k e
  where-idle (Some o) row e k = tt

  without-one : (o : Option Tid) (row : Commanded) → t.transaction ≡ o → (t.transaction ≡ None → CommandTalks row) → CommandTalks (if_no_transaction o row)
  without-one None row e k = k e
  without-one (Some T) row e k = tt

  with-one : (o : Option Tid) (row : Tid → Commanded) → t.transaction ≡ o → ((T : Tid) → t.transaction ≡ Some T → CommandTalks (row T)) → CommandTalks (if_transaction o row)
  with-one None row e k = tt
  with-one (Some T) row e k = k T e

  where-none : (o : Option OpenWork) (row : Commanded) → CommandTalks row → CommandTalks (if_not_open o row)
  where-none None row k = k
  where-none (Some v) row k = tt

  where-open : (s : ServerNo) (o : Option OpenWork) (row : OpenWork → Commanded) → work_at s t.works ≡ o → ((v : OpenWork) → work_at s t.works ≡ Some v → CommandTalks (row v)) → CommandTalks (if_open o row)
  where-open s None row e k = tt
  where-open s (Some v) row e k = k v e

  abbrev sent-table : List OpenWork → ℕ → Command → Party → Message → ClientTable
  sent-table works j command to message = record t { works = works; next = t.next + 1; outstanding = Some (record { event = j; request = request_of t.next; command = command; to = to; message = message }) }

  sends-one : (works : List OpenWork) (j : ℕ) (command : Command) (to : Party) (message : Message) → ((q : ServerNo) (v : OpenWork) → work_at q t.works ≡ Some v → Stays q v works)
      → (is_begin command ≡ true → t.transaction ≡ None) → ((a : Asking) → asking_in message ≡ Some a → IsNext (sent-table works j command to message) a) → IsHeard sent (to, message)
      → CommandTalks (sends (record t { works = works }) j command to message)
  sends-one works j command to message stay none asks heard = record {
    next = up t.next;
    fresh = λ o e. inr (subst (λ (z : Outstanding). t.next ≤ z.request.0) (some-out _ o e) (self t.next));
    same = refl;
    works = stay;
    waiting = λ o e. subst (λ (z : Outstanding). (z.to ≡ to) × (z.message ≡ message) × (is_begin z.command ≡ true → t.transaction ≡ None)) (some-out _ o e) (refl, refl, none);
    asks = asks;
    heard = heard;
    last = λ o e. subst (λ (z : Outstanding). t.next + 1 ≡ z.request.0 + 1) (some-out _ o e) refl;
  }

  none-asked : (u : ClientTable) (a : Asking) → None ≡ Some a → IsNext u a
  none-asked u a e = absurd (no e)
    where
      no : None ≡ Some a → ⊥
      no q = cc

  no-begin : (b : Bool) → b ≡ false → b ≡ true → t.transaction ≡ None
  no-begin b e f = absurd (both b e f)
    where
      both : (b : Bool) → b ≡ false → b ≡ true → ⊥
      both b e f = grind arith

  one-stays : (q : ServerNo) (v : OpenWork) → work_at q t.works ≡ Some v → Stays q v t.works
  one-stays q v h = it-stays q v t.works h

  op-next : (j : ℕ) (s : ServerNo) (op : Op) (T : Tid) (v : OpenWork) → t.outstanding ≡ None → t.transaction ≡ Some T → work_at s t.works ≡ Some v
      → IsNext (sent-table (with_operation s t.works) j (Do s op) (Server s) (messages.Op t.client (request_of t.next) v.work (operation_of (v.last + 1)) op)) (record { client = t.client; request = request_of t.next; work = v.work; number = operation_of (v.last + 1); op = op })
  op-next j s op T v free e f = let its = found-open w T s t.works v (current T e) f in record {
    client = run.name;
    tid = T;
    is = e;
    server = s;
    work = v;
    found = f;
    named = refl;
    number = refl;
    idle = free;
    of = its.0;
    fact = record {
      drawn = below t.next;
      waits = λ o h k. subst (λ (z : Outstanding). Does z.command op) (some-out _ o h) (s, refl);
      known = record {
        tid = T;
        of = its.0;
        stands = inl (record {
          current = e;
          work = record v { last = v.last + 1 };
          found = ap (λ (q : ServerNo). work_at q (with_operation s t.works)) its.1 ∙ counted-found s t.works v f;
          named = refl;
          counted = self (v.last + 1);
        });
      };
    };
  }
    where
      below : (n : ℕ) → n < n + 1
      below n = omega arith

  pub command-talks : (j : ℕ) (command : Command) → CommandTalks (command_row t j command)
  command-talks j (Begin s) = at-server s _ (where-idle t.outstanding _ refl (λ free. without-one t.transaction _ refl (λ e. sends-one t.works j (Begin s) _ _ one-stays (λ b. e) (λ a k. none-asked _ a k) tt)))
  command-talks j (Open s) = at-server s _ (where-idle t.outstanding _ refl (λ free. with-one t.transaction _ refl (λ T e. where-none (work_at s t.works) _ (sends-one t.works j (Open s) _ _ one-stays (no-begin false refl) (λ a k. none-asked _ a k) tt))))
  command-talks j (Do s op) = at-server s _ (where-idle t.outstanding _ refl (λ free. with-one t.transaction _ refl (λ T e. where-open s (work_at s t.works) _ refl (λ v f. sends-one (with_operation s t.works) j (Do s op) _ _ (counted-stay s t.works) (no-begin false refl)
      (λ a k. subst (λ (z : Asking). IsNext (sent-table (with_operation s t.works) j (Do s op) (Server s) (messages.Op t.client (request_of t.next) v.work (operation_of (v.last + 1)) op)) z) (some-asking _ a k) (op-next j s op T v free e f)) tt))))
    where
      some-asking : (a b : Asking) → Some a ≡ Some b → a ≡ b
      some-asking a b q = cc
  command-talks j End = where-idle t.outstanding _ refl (λ free. with-one t.transaction _ refl (λ T e. sends-one t.works j End _ _ one-stays (no-begin false refl) (λ a k. none-asked _ a k) tt))
  command-talks j Abort = with-one t.transaction _ refl (λ T e. sends-one t.works j Abort _ _ one-stays (no-begin false refl) (λ a k. none-asked _ a k) tt)

  -- ---- a message

  abbrev pub SaysLittle : Taken → Type 0
  SaysLittle taken.Ignored = Unit {0}
  SaysLittle (taken.Send to message) = IsReply sent (to, message)
  SaysLittle (taken.Told line None) = Unit {0}
  SaysLittle (taken.Told line (Some x)) = IsReply sent x

  pub record TakeTalks (row : ClientTable × Taken) : Type 0 where
    pub keeps : (a : Asking) → a.client ≡ c → AskedFact os w t a → AskedFact os w row.0 a
    pub waiting : (o : Outstanding) → row.0.outstanding ≡ Some o → (t.outstanding ≡ Some o) × (row.0.transaction ≡ t.transaction)
    pub little : SaysLittle row.1
    pub goes : TableGoes os c t row.0
    pub same_next : row.0.next ≡ t.next

  same-row : (what : Taken) → SaysLittle what → TakeTalks (t, what)
  same-row what k = record { keeps = λ a n h. h; waiting = λ o e. (e, refl); little = k; goes = record { next = self t.next; fresh = λ o e. inl e; has = λ T e. inl e }; same_next = refl }

  where-waits : (o : Option Outstanding) (test : Outstanding → Bool) (row : ℕ → ClientTable × Taken) → t.outstanding ≡ o → ((x : Outstanding) → t.outstanding ≡ Some x → test x ≡ true → TakeTalks (row x.event)) → TakeTalks (if_waits t o test row)
  where-waits None test row e k = same-row taken.Ignored tt
  where-waits (Some o) test row e k = by (test o) refl
    where
      by : (b : Bool) → test o ≡ b → TakeTalks (if b then row o.event else (t, taken.Ignored))
      by true f = k o e f
      by false f = same-row taken.Ignored tt

  either : (b : Bool) (p q : ClientTable × Taken) → TakeTalks p → TakeTalks q → TakeTalks (if b then p else q)
  either true p q k l = k
  either false p q k l = l

  no-out : (o : Outstanding) (P : Type 0) → None ≡ Some o → P
  no-out o P e = absurd (none-out o e)

  idle-row : (works : List OpenWork) (line : Text) → ((q : ServerNo) (v : OpenWork) → work_at q t.works ≡ Some v → Stays q v works) → TakeTalks (record (idle t) { works = works }, taken.Told line None)
  idle-row works line stay = record {
    keeps = λ a n h. goes-on os w t (record (idle t) { works = works }) a h (self t.next) (λ o e. no-out o _ e) refl stay;
    waiting = λ o e. no-out o _ e;
    little = tt;
    goes = record { next = self t.next; fresh = λ o e. no-out o _ e; has = λ T e. inl e };
    same_next = refl;
  }

  no-tid : (T : Tid) → None ≡ Some T → ⊥
  no-tid T e = cc

  over-row : (what : Taken) → SaysLittle what → TakeTalks (over t, what)
  over-row what k = record {
    keeps = λ a n h. ends os w t (over t) a h (self t.next) refl refl (λ T e. subst (λ (d : ClientNo). Began os d t.next T) (sym n) (run.current T e));
    waiting = λ o e. no-out o _ e;
    little = k;
    goes = record { next = self t.next; fresh = λ o e. no-out o _ e; has = λ T e. absurd (no-tid T e) };
    same_next = refl;
  }

  first-of : (a b : Bool) → (a && b) ≡ true → a ≡ true
  first-of a b h = grind arith

  second-of : (a b : Bool) → (a && b) ≡ true → b ≡ true
  second-of a b h = grind arith

  same-client : (d : ClientNo) → client_eq d t.client ≡ true → d ≡ c
  same-client d e = let is = run.name in grind (arith, client_tells d t.client, e, is)

  same-number : (a b : RequestNo) → request_eq a b ≡ true → a ≡ b
  same-number a b e = grind (arith, nat_tests)

  begun-talks : (x : Outstanding) (d : ClientNo) (request : RequestNo) (o : Option Tid) → t.outstanding ≡ Some x → client_eq d t.client ≡ true → request_eq x.request request ≡ true → is_begin x.command ≡ true
      → ((a : Opening) → Has a (opening_in (Client c, messages.Begun d request o)) → Has a os) → TakeTalks (begun_row t x.event o)
  begun-talks x d request None e f g b has = idle-row t.works _ one-stays
  begun-talks x d request (Some T) e f g b has = record {
    keeps = λ a n h. begins os w t (record (idle t) { transaction = Some T; works = [] }) a h (self t.next) T x ((waits x e).begins b) e refl refl (λ q k. ap (λ (z : Opening). z.request) (unique (opening c x.request T) (opening a.client q T) its k refl));
    waiting = λ o q. no-out o _ q;
    little = tt;
    goes = record { next = self t.next; fresh = λ o q. no-out o _ q; has = λ U q. inr (x, e, λ n k. one U n q k) };
    same_next = refl;
  }
    where
      some-tid : (U V : Tid) → Some U ≡ Some V → U ≡ V
      some-tid U V q = cc

      its : Has (opening c x.request T) os
      its = subst (λ (z : ClientNo). Has (opening z x.request T) os) (same-client d f) (subst (λ n. Has (opening d n T) os) (sym (same-number x.request request g)) (has (opening d request T) (inl refl)))

      one : (U : Tid) (n : RequestNo) → Some T ≡ Some U → Has (opening c n U) os → x.request ≡ n
      one U n q k = ap (λ (z : Opening). z.request) (unique (opening c x.request T) (opening c n U) its k (some-tid T U q))

  opened-talks : (j : ℕ) (o : Option WorkId) → TakeTalks (opened_row t j o)
  opened-talks j None = idle-row t.works _ one-stays
  opened-talks j (Some W) = idle-row (t.works ++ (record { work = W; last = 0 }) ∷ []) _ (more-stay t.works (record { work = W; last = 0 }))

  decided-talks : (T : Tid) (line : ℕ → Text) → TakeTalks (decided_row t T line)
  decided-talks T line = either (is_current t T) _ _ (where-waits t.outstanding _ _ refl (λ x e k. over-row _ tt)) (same-row _ tt)

  outcome-talks : (T : Tid) (outcome : Outcome) → TakeTalks (outcome_row t T outcome)
  outcome-talks T outcomes.Committed = decided-talks T _
  outcome-talks T (outcomes.Aborted cause) = decided-talks T _
  outcome-talks T (outcomes.Waiting s u by) = either (is_current t T) _ _ (where-waits t.outstanding _ _ refl (λ x e k. same-row _ tt)) (same-row _ tt)
  outcome-talks T (outcomes.NotKnown s epoch) = either (is_current t T) _ _ (where-waits t.outstanding _ _ refl (λ x e k. over-row _ tt)) (same-row _ tt)

  pub take-talks : (message : Message) → ((a : Opening) → Has a (opening_in (Client c, message)) → Has a os) → TakeTalks (take_row t message)
  take-talks (messages.Begun d request answer) has = where-waits t.outstanding _ _ refl (λ x e k. let rest = second-of (client_eq d t.client) (request_eq x.request request && is_begin x.command) k in
      begun-talks x d request answer e (first-of (client_eq d t.client) (request_eq x.request request && is_begin x.command) k) (first-of (request_eq x.request request) (is_begin x.command) rest) (second-of (request_eq x.request request) (is_begin x.command) rest) has)
  take-talks (messages.Opened d request T answer) has = where-waits t.outstanding _ _ refl (λ x e k. opened-talks x.event answer)
  take-talks (messages.Answer d request answer) has = where-waits t.outstanding _ _ refl (λ x e k. idle-row t.works _ one-stays)
  take-talks (messages.Outcome d T outcome) has = either (client_eq d t.client) _ _ (outcome-talks T outcome) (same-row _ tt)
  take-talks _ has = same-row _ tt
