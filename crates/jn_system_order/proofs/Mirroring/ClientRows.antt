-- What a client sends is true, and its table says what the machine does.
use Rattle.jn_system_order.proofs.Common.{◌≡◌, ◌≢◌, ◌⊎◌, inl, inr, ℕ, ◌+◌, Bool, true, false, List, [], ◌∷◌, ◌++◌, Option, Some, None, refl, sym, ◌∙◌, ap, subst, arith, ◌&&◌, ◌||◌, if◌then◌else◌, nat_lt, ServerNo, ClientNo, Tid, WorkId, Party, Server, Answer, Command, server_eq, client_eq, tid_eq, work_eq, server_tells, tid_tells, work_tells, Message, Outcome, Text, OpenWork, Outstanding, Taken, Sent, is_work, ClientTable, Commanded, Refuses, Sends, with_operation, names_of, if_server, if_idle, if_transaction, if_no_transaction, if_open, if_not_open, command_row, is_end, opens, is_tid, is_current, if_waits, idle, over, begun_row, opened_row, answer_line, decided_row, outcome_row, take_row, sends, Machine, Says, IsWorkOf, AreWorksOf, committed_in, IsAddressed, AreOpen, IsCurrent, IsClient, request_eq, request_of, operation_of, RequestNo}
use Rattle.jn_base.specs.declared.op.Answer.TheVariants as answers
use Rattle.jn_base.specs.declared.op.Command.TheVariants.{Begin, Open, Do, End, Abort}
use Rattle.jn_msgs.specs.declared.message.Message.TheVariants as messages
use Rattle.jn_msgs.specs.declared.message.Outcome.TheVariants as outcomes
use Rattle.jn_report.specs.declared.line.Refusal.TheVariants as refusals
use Rattle.jn_rows.specs.declared.client.Taken.TheVariants.{Ignored, Send, Told}
use Rattle.jn_rows.specs.Client.{work_at}

abbrev IsServer : ServerNo → ServerNo → Type 0
IsServer s q = ((server_eq s q ≡ true) × (s ≡ q)) ⊎ ((server_eq s q ≡ false) × (s ≢ q))

first-of : (a b : Bool) → (a && b) ≡ true → a ≡ true
first-of a b h = grind arith

second-of : (a b : Bool) → (a && b) ≡ true → b ≡ true
second-of a b h = grind arith

none-work : (v : OpenWork) → None ≡ Some v → ⊥
none-work v e = cc

some-work : (u v : OpenWork) → Some u ≡ Some v → u ≡ v
some-work u v e = cc

work-none : (v : OpenWork) → Some v ≡ None → ⊥
work-none v e = cc

none-out : (o : Outstanding) → None ≡ Some o → ⊥
none-out o e = cc

some-out : (o p : Outstanding) → Some o ≡ Some p → o ≡ p
some-out o p e = cc

-- ---- its works

module _ (w : Machine) (T : Tid) where
  pub found-open : (s : ServerNo) (works : List OpenWork) (v : OpenWork) → AreOpen w T works → work_at s works ≡ Some v → IsWorkOf w T v.work × (v.work.server ≡ s)
  found-open s [] v are h = absurd (none-work v h)
  found-open s (u ∷ us) v are h = by (server_tells u.work.server s) h (found-open s us v are.2)
    where
      by : IsServer u.work.server s → (if server_eq u.work.server s then Some u else work_at s us) ≡ Some v → (work_at s us ≡ Some v → IsWorkOf w T v.work × (v.work.server ≡ s)) → IsWorkOf w T v.work × (v.work.server ≡ s)
      by (inl p) k on = let e = some-work u v (subst (λ (b : Bool). (if b then Some u else work_at s us) ≡ Some v) p.0 k) in
          (subst (λ (z : OpenWork). IsWorkOf w T z.work) e are.0, ap (λ (z : OpenWork). z.work.server) (sym e) ∙ p.1)
      by (inr p) k on = on (subst (λ (b : Bool). (if b then Some u else work_at s us) ≡ Some v) p.0 k)

  pub names-of : (works : List OpenWork) → AreOpen w T works → AreWorksOf w T (names_of works)
  names-of [] are W h = absurd (no h)
    where
      no : false ≡ true → ⊥
      no q = grind arith
  names-of (u ∷ us) are W h = by (work_tells u.work W) h (names-of us are.2 W)
    where
      by : ((work_eq u.work W ≡ true) × (u.work ≡ W)) ⊎ ((work_eq u.work W ≡ false) × (u.work ≢ W)) → (work_eq u.work W || is_work W (names_of us)) ≡ true → (is_work W (names_of us) ≡ true → IsWorkOf w T W) → IsWorkOf w T W
      by (inl p) k on = subst (λ (z : WorkId). IsWorkOf w T z) p.1 are.0
      by (inr p) k on = on (subst (λ (b : Bool). (b || is_work W (names_of us)) ≡ true) p.0 k)

  -- one more operation changes no name
  still-none : (s q : ServerNo) (works : List OpenWork) → work_at q works ≡ None → work_at q (with_operation s works) ≡ None
  still-none s q [] h = h
  still-none s q (u ∷ us) h = by (server_eq u.work.server s) (server_eq u.work.server q) refl h (still-none s q us)
    where
      by : (b c : Bool) → server_eq u.work.server q ≡ c → (if c then Some u else work_at q us) ≡ None → (work_at q us ≡ None → work_at q (with_operation s us) ≡ None)
          → work_at q (if b then record u { last = u.last + 1 } ∷ us else u ∷ with_operation s us) ≡ None
      by b true e k on = absurd (work-none u k)
      by true false e k on = ap (λ (c : Bool). if c then Some (record u { last = u.last + 1 }) else work_at q us) e ∙ k
      by false false e k on = ap (λ (c : Bool). if c then Some u else work_at q (with_operation s us)) e ∙ on k

  pub are-counted : (s : ServerNo) (works : List OpenWork) → AreOpen w T works → AreOpen w T (with_operation s works)
  are-counted s [] are = tt
  are-counted s (u ∷ us) are = by (server_eq u.work.server s) (are-counted s us are.2)
    where
      by : (b : Bool) → AreOpen w T (with_operation s us) → AreOpen w T (if b then record u { last = u.last + 1 } ∷ us else u ∷ with_operation s us)
      by true on = (are.0, are.1, are.2)
      by false on = (are.0, still-none s u.work.server us are.1, on)

  -- one more work, at another server
  more-none : (q : ServerNo) (works : List OpenWork) (v : OpenWork) → work_at q works ≡ None → server_eq v.work.server q ≡ false → work_at q (works ++ v ∷ []) ≡ None
  more-none q [] v h e = ap (λ (b : Bool). if b then Some v else None) e
  more-none q (u ∷ us) v h e = by (server_eq u.work.server q) h (more-none q us v)
    where
      by : (b : Bool) → (if b then Some u else work_at q us) ≡ None → (work_at q us ≡ None → server_eq v.work.server q ≡ false → work_at q (us ++ v ∷ []) ≡ None) → (if b then Some u else work_at q (us ++ v ∷ [])) ≡ None
      by true k on = absurd (work-none u k)
      by false k on = on k e

  pub are-more : (works : List OpenWork) (v : OpenWork) → AreOpen w T works → IsWorkOf w T v.work → work_at v.work.server works ≡ None → AreOpen w T (works ++ v ∷ [])
  are-more [] v are of none = (of, refl, tt)
  are-more (u ∷ us) v are of none = by (server_tells u.work.server v.work.server) none (are-more us v are.2 of)
    where
      by : IsServer u.work.server v.work.server → (if server_eq u.work.server v.work.server then Some u else work_at v.work.server us) ≡ None → (work_at v.work.server us ≡ None → AreOpen w T (us ++ v ∷ [])) → AreOpen w T (u ∷ us ++ v ∷ [])
      by (inl p) k on = absurd (work-none u (subst (λ (b : Bool). (if b then Some u else work_at v.work.server us) ≡ None) p.0 k))
      by (inr p) k on = (are.0, more-none u.work.server us v are.1 (other (server_tells v.work.server u.work.server)), on (subst (λ (b : Bool). (if b then Some u else work_at v.work.server us) ≡ None) p.0 k))
        where
          other : IsServer v.work.server u.work.server → server_eq v.work.server u.work.server ≡ false
          other (inl q) = absurd (p.1 (sym q.1))
          other (inr q) = q.0

-- ---- a command

-- what is sent for a command is true, and so is the new table
abbrev pub Tells : Machine → Commanded → Type 0
Tells w (Refuses refusal) = Unit {0}
Tells w (Sends t to message) = IsClient w t × Says w message × IsAddressed (to, message)

module _ (w : Machine) (t : ClientTable) (h : IsClient w t) (event : ℕ) where
  at-server : (s : ServerNo) (row : Commanded) → Tells w row → Tells w (if_server t s row)
  at-server s row k = by (nat_lt s.0 t.servers)
    where
      by : (b : Bool) → Tells w (if b then row else Refuses refusals.NoSuchServer)
      by true = k
      by false = tt

  where-idle : (o : Option Outstanding) (row : Commanded) → Tells w row → Tells w (if_idle o row)
  where-idle None row k = k
  where-idle (Some o) row k = tt

  without-one : (o : Option Tid) (row : Commanded) → Tells w row → Tells w (if_no_transaction o row)
  without-one None row k = k
  without-one (Some T) row k = tt

  with-one : (o : Option Tid) (row : Tid → Commanded) → ((T : Tid) → o ≡ Some T → Tells w (row T)) → Tells w (if_transaction o row)
  with-one None row k = tt
  with-one (Some T) row k = k T refl

  where-none : (o : Option OpenWork) (row : Commanded) → (o ≡ None → Tells w row) → Tells w (if_not_open o row)
  where-none None row k = k refl
  where-none (Some v) row k = tt

  where-open : (o : Option OpenWork) (row : OpenWork → Commanded) → ((v : OpenWork) → o ≡ Some v → Tells w (row v)) → Tells w (if_open o row)
  where-open None row k = tt
  where-open (Some v) row k = k v refl

  current : (T : Tid) → t.transaction ≡ Some T → (w.begun T ≡ true) × AreOpen w T t.works
  current T e = subst (λ o. IsCurrent w o t.works) e h.current

  -- the message goes out with a new request
  pub sends-it : (works : List OpenWork) (command : Command) (to : Party) (message : Message) → IsCurrent w t.transaction works → Says w message → IsAddressed (to, message) → ((s : ServerNo) → command ≡ Open s → work_at s works ≡ None)
      → Tells w (sends (record t { works = works }) event command to message)
  sends-it works command to message now says addressed opening = (
    record { current = now; waits = (says, addressed); opening = λ o s e f. opening s (ap (λ (z : Outstanding). z.command) (some-out _ o e) ∙ f) },
    says,
    addressed,
  )

  pub commands-tell : (command : Command) → is_end command ≡ false → Tells w (command_row t event command)
  commands-tell (Begin s) not = at-server s _ (where-idle t.outstanding _ (without-one t.transaction _ (sends-it t.works (Begin s) (Server s) (messages.Begin t.client (request_of t.next)) h.current tt tt (λ q e. absurd (no q e)))))
    where
      no : (q : ServerNo) → Begin s ≡ Open q → ⊥
      no q e = cc
  commands-tell (Open s) not = at-server s _ (where-idle t.outstanding _ (with-one t.transaction _ (λ T e. where-none (work_at s t.works) _ (λ none.
      sends-it t.works (Open s) (Server s) (messages.Open t.client (request_of t.next) T) h.current (current T e).0 tt (λ q f. subst (λ (z : ServerNo). work_at z t.works ≡ None) (same q f) none)))))
    where
      same : (q : ServerNo) → Open s ≡ Open q → s ≡ q
      same q e = cc
  commands-tell (Do s op) not = at-server s _ (where-idle t.outstanding _ (with-one t.transaction _ (λ T e. where-open (work_at s t.works) _ (λ v f. let its = found-open w T s t.works v (current T e).1 f in
      sends-it (with_operation s t.works) (Do s op) (Server s) (messages.Op t.client (request_of t.next) v.work (operation_of (v.last + 1)) op)
      (subst (λ o. IsCurrent w o (with_operation s t.works)) (sym e) ((current T e).0, are-counted w T s t.works (current T e).1)) its.0.0 its.1 (λ q g. absurd (no q g))))))
    where
      no : (q : ServerNo) → Do s op ≡ Open q → ⊥
      no q e = cc
  commands-tell Abort not = with-one t.transaction _ (λ T e. sends-it t.works Abort (Server T.server) (messages.Abort t.client (request_of t.next) T (names_of t.works)) h.current ((current T e).0, names-of w T t.works (current T e).1) refl (λ q f. absurd (no q f)))
    where
      no : (q : ServerNo) → Abort ≡ Open q → ⊥
      no q e = cc
  commands-tell End not = absurd (no not)
    where
      no : true ≡ false → ⊥
      no q = grind arith

-- ---- a message

-- all that a client sends for a message is thanks
abbrev pub IsThanks : Sent → Type 0
IsThanks (Server s, messages.Thanks c T) = T.server ≡ s
IsThanks sent = ⊥

abbrev pub Takes : Machine → ClientTable → Taken → Type 0
Takes w t Ignored = IsClient w t
Takes w t (Send to message) = IsClient w t × IsThanks (to, message)
Takes w t (Told line None) = IsClient w t × (committed_in line ≡ [])
Takes w t (Told line (Some sent)) = IsClient w t × (committed_in line ≡ []) × IsThanks sent

abbrev pub TakesRow : Machine → ClientTable × Taken → Type 0
TakesRow w row = Takes w row.0 row.1

answer-quiet : (c : ClientNo) (j : ℕ) (answer : Answer) → committed_in (answer_line c j answer) ≡ []
answer-quiet c j answers.Did = refl
answer-quiet c j (answers.Read bytes) = refl
answer-quiet c j answers.NoFile = refl
answer-quiet c j answers.Exists = refl
answer-quiet c j (answers.Locked u T) = refl
answer-quiet c j answers.TooManyReads = refl
answer-quiet c j answers.TooManyWrites = refl
answer-quiet c j (answers.Broken u T) = refl
answer-quiet c j (answers.Lost m n) = refl
answer-quiet c j answers.Closing = refl

module _ (w : Machine) (t : ClientTable) (h : IsClient w t) where
  waits : (o : Option Outstanding) (test : Outstanding → Bool) (row : ℕ → ClientTable × Taken) → t.outstanding ≡ o → ((x : Outstanding) → t.outstanding ≡ Some x → test x ≡ true → TakesRow w (row x.event)) → TakesRow w (if_waits t o test row)
  waits None test row e k = h
  waits (Some o) test row e k = by (test o) refl
    where
      by : (b : Bool) → test o ≡ b → TakesRow w (if b then row o.event else (t, Ignored))
      by true f = k o e f
      by false f = h

  either : (b : Bool) (p q : ClientTable × Taken) → (b ≡ true → TakesRow w p) → (b ≡ false → TakesRow w q) → TakesRow w (if b then p else q)
  either true p q k l = k refl
  either false p q k l = l refl

  is-idle : IsClient w (idle t)
  is-idle = record { current = h.current; waits = tt; opening = λ o s e f. absurd (none-out o e) }

  is-over : IsClient w (over t)
  is-over = record { current = tt; waits = tt; opening = λ o s e f. absurd (none-out o e) }

  begun-takes : (j : ℕ) (o : Option Tid) (c : ClientNo) (request : RequestNo) → Says w (messages.Begun c request o) → TakesRow w (begun_row t j o)
  begun-takes j None c request said = (is-idle, refl)
  begun-takes j (Some T) c request said = (record { current = (said, tt); waits = tt; opening = λ o s e f. absurd (none-out o e) }, refl)

  is-its : (T : Tid) (o : Option Tid) → is_tid T o ≡ true → o ≡ Some T
  is-its T None e = absurd (no e)
    where
      no : false ≡ true → ⊥
      no q = grind arith
  is-its T (Some U) e = by (tid_tells T U)
    where
      no : (b : Bool) → b ≡ true → b ≡ false → ⊥
      no b p q = grind arith

      by : ((tid_eq T U ≡ true) × (T ≡ U)) ⊎ ((tid_eq T U ≡ false) × (T ≢ U)) → Some U ≡ Some T
      by (inl p) = ap Some (sym p.1)
      by (inr p) = absurd (no (tid_eq T U) e p.0)

  -- the outstanding command opened a work there
  opens-there : (x : Outstanding) (W : WorkId) → t.outstanding ≡ Some x → opens (Some W) x.command ≡ true → work_at W.server t.works ≡ None
  opens-there x W e k = by x.command refl k
    where
      no : false ≡ true → ⊥
      no q = grind arith

      off : (b : Bool) → b ≡ true → b ≡ false → ⊥
      off b p q = grind arith

      by : (command : Command) → x.command ≡ command → opens (Some W) command ≡ true → work_at W.server t.works ≡ None
      by (Open s) f g = at (server_tells W.server s)
        where
          at : IsServer W.server s → work_at W.server t.works ≡ None
          at (inl p) = subst (λ (z : ServerNo). work_at z t.works ≡ None) (sym p.1) (h.opening x s e f)
          at (inr p) = absurd (off (server_eq W.server s) g p.0)
      by (Begin s) f g = absurd (no g)
      by (Do s op) f g = absurd (no g)
      by End f g = absurd (no g)
      by Abort f g = absurd (no g)

  opened-takes : (j : ℕ) (o : Option WorkId) (x : Outstanding) (c : ClientNo) (request : RequestNo) (T : Tid) → t.outstanding ≡ Some x → t.transaction ≡ Some T → opens o x.command ≡ true → Says w (messages.Opened c request T o) → TakesRow w (opened_row t j o)
  opened-takes j None x c request T e f g said = (is-idle, refl)
  opened-takes j (Some W) x c request T e f g said = (
    record {
      current = subst (λ o. IsCurrent w o (t.works ++ (record { work = W; last = 0 }) ∷ [])) (sym f) (now.0, are-more w T t.works (record { work = W; last = 0 }) now.1 said (opens-there x W e g));
      waits = tt;
      opening = λ o s q r. absurd (none-out o q);
    },
    refl,
  )
    where
      now : (w.begun T ≡ true) × AreOpen w T t.works
      now = subst (λ o. IsCurrent w o t.works) f h.current

  decided-takes : (T : Tid) (line : ℕ → Text) → ((j : ℕ) → committed_in (line j) ≡ []) → TakesRow w (decided_row t T line)
  decided-takes T line quiet = either (is_current t T) _ _ (λ e. waits t.outstanding _ _ refl (λ x f g. (is-over, quiet x.event, refl))) (λ e. (h, refl))

  outcome-takes : (T : Tid) (outcome : Outcome) → TakesRow w (outcome_row t T outcome)
  outcome-takes T outcomes.Committed = decided-takes T _ (λ j. refl)
  outcome-takes T (outcomes.Aborted cause) = decided-takes T _ (λ j. refl)
  outcome-takes T (outcomes.Waiting s u by) = either (is_current t T) _ _ (λ e. waits t.outstanding _ _ refl (λ x f g. (h, refl))) (λ e. h)
  outcome-takes T (outcomes.NotKnown s epoch) = either (is_current t T) _ _ (λ e. waits t.outstanding _ _ refl (λ x f g. (is-over, refl))) (λ e. h)

  pub takes : (message : Message) → Says w message → TakesRow w (take_row t message)
  takes (messages.Begun c request answer) said = waits t.outstanding _ _ refl (λ x e f. begun-takes x.event answer c request said)
  takes (messages.Opened c request T answer) said = waits t.outstanding _ _ refl (λ x e f. let rest = second-of (request_eq x.request request) (is_current t T && opens answer x.command) (second-of (client_eq c t.client) (request_eq x.request request && (is_current t T && opens answer x.command)) f) in
      opened-takes x.event answer x c request T e (is-its T t.transaction (first-of (is_current t T) (opens answer x.command) rest)) (second-of (is_current t T) (opens answer x.command) rest) said)
  takes (messages.Answer c request answer) said = waits t.outstanding _ _ refl (λ x e f. (is-idle, answer-quiet t.client x.event answer))
  takes (messages.Outcome c T outcome) said = either (client_eq c t.client) _ _ (λ e. outcome-takes T outcome) (λ e. h)
  takes _ said = h
