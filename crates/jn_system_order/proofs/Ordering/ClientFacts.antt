-- A client's steps keep what holds of the openings and of its requests.
use Rattle.jn_system_order.proofs.Common.{◌≡◌, inl, ◌<◌, ℕ, ◌+◌, Bool, true, false, List, [], ◌∷◌, Option, Some, None, refl, sym, ◌∙◌, ap, subst, arith, ◌&&◌, if◌then◌else◌, nat_lt, All, nat_tests, All-nil, All-cons, ServerNo, ClientNo, Tid, WorkId, Party, Client, Command, client_eq, client_tells, Message, Outcome, Text, OpenWork, Outstanding, Taken, Sent, ClientTable, Commanded, Refuses, Sends, with_operation, if_server, if_idle, if_transaction, if_no_transaction, if_open, if_not_open, command_row, is_begin, is_operation, is_end_or_abort, opens, is_current, if_waits, idle, over, begun_row, opened_row, decided_row, outcome_row, take_row, sends, false_unless, request_eq, request_of, RequestNo}
use Rattle.jn_base.specs.declared.op.Command.TheVariants.{Begin, Open, Do, End, Abort}
use Rattle.jn_msgs.specs.declared.message.Message.TheVariants as messages
use Rattle.jn_msgs.specs.declared.message.Outcome.TheVariants as outcomes
use Rattle.jn_report.specs.declared.line.Refusal.TheVariants as refusals
use Rattle.jn_rows.specs.declared.client.Taken.TheVariants as taken
use Rattle.jn_rows.specs.Client.{work_at}
use Rattle.jn_system_order.proofs.Ordering.Openings.{Opening, opening_in, openings, Has, has-first, has-second}
use Rattle.jn_system_order.proofs.Ordering.Facts.{opening, is_closing, Began, IsWaiting, IsRunning}

none-tid : (T : Tid) → None ≡ Some T → ⊥
none-tid T e = cc

some-tid : (T U : Tid) → Some T ≡ Some U → T ≡ U
some-tid T U e = cc

none-out : (o : Outstanding) → None ≡ Some o → ⊥
none-out o e = cc

some-out : (o p : Outstanding) → Some o ≡ Some p → o ≡ p
some-out o p e = cc

below : (a b : ℕ) → a < b → a < b + 1
below a b h = omega arith

self-below : (n : ℕ) → n < n + 1
self-below n = omega arith

not-self : (n : ℕ) → n < n → ⊥
not-self n h = omega arith

first-of : (a b : Bool) → (a && b) ≡ true → a ≡ true
first-of a b h = grind arith

second-of : (a b : Bool) → (a && b) ≡ true → b ≡ true
second-of a b h = grind arith

-- a message that was sent has its opening
all-have : (os : List Opening) (sent : List Sent) → ((a : Opening) → Has a (openings sent) → Has a os) → All (λ (x : Sent). (a : Opening) → Has a (opening_in x) → Has a os) sent
all-have os [] h = All-nil (λ (x : Sent). (a : Opening) → Has a (opening_in x) → Has a os)
all-have os (x ∷ sent) h = All-cons (λ (x : Sent). (a : Opening) → Has a (opening_in x) → Has a os) x sent (λ a k. h a (has-first a (opening_in x) (openings sent) k)) (all-have os sent (λ a k. h a (has-second a (opening_in x) (openings sent) k)))

pub all-have-theirs : (sent : List Sent) → All (λ (x : Sent). (a : Opening) → Has a (opening_in x) → Has a (openings sent)) sent
all-have-theirs sent = all-have (openings sent) sent (λ a h. h)

module _ (os : List Opening) (ended : Tid → Bool) (c : ClientNo) (t : ClientTable) (h : IsRunning os ended c t) (drawn : (T : Tid) (q : RequestNo) → Has (opening c q T) os → ended T ≡ true → q.0 < t.next) where
  -- ---- a command

  abbrev pub CommandFacts : Commanded → Type 0
  CommandFacts (Refuses refusal) = Unit {0}
  CommandFacts (Sends u to message) = IsRunning os ended c u × (opening_in (to, message) ≡ []) × (u.next ≡ t.next + 1)

  at-server : (s : ServerNo) (row : Commanded) → CommandFacts row → CommandFacts (if_server t s row)
  at-server s row k = by (nat_lt s.0 t.servers)
    where
      by : (b : Bool) → CommandFacts (if b then row else Refuses refusals.NoSuchServer)
      by true = k
      by false = tt

  where-idle : (o : Option Outstanding) (row : Commanded) → (o ≡ None → CommandFacts row) → CommandFacts (if_idle o row)
  where-idle None row k = k refl
  where-idle (Some o) row k = tt

  without-one : (o : Option Tid) (row : Commanded) → CommandFacts row → CommandFacts (if_no_transaction o row)
  without-one None row k = k
  without-one (Some T) row k = tt

  with-one : (o : Option Tid) (row : Tid → Commanded) → ((T : Tid) → CommandFacts (row T)) → CommandFacts (if_transaction o row)
  with-one None row k = tt
  with-one (Some T) row k = k T

  where-none : (o : Option OpenWork) (row : Commanded) → CommandFacts row → CommandFacts (if_not_open o row)
  where-none None row k = k
  where-none (Some v) row k = tt

  where-open : (o : Option OpenWork) (row : OpenWork → Commanded) → ((v : OpenWork) → CommandFacts (row v)) → CommandFacts (if_open o row)
  where-open None row k = tt
  where-open (Some v) row k = k v

  -- no opening has the next request
  next-free : (T : Tid) → Has (opening c (request_of t.next) T) os → ended T ≡ false
  next-free T k = false_unless (ended T) (λ e. not-self t.next (drawn T (request_of t.next) k e))

  pub sends-one : (works : List OpenWork) (event : ℕ) (command : Command) (to : Party) (message : Message) → opening_in (to, message) ≡ [] → (is_end_or_abort command ≡ false → t.outstanding ≡ None)
      → CommandFacts (sends (record t { works = works }) event command to message)
  sends-one works event command to message quiet free = (
    record {
      name = h.name;
      current = λ T e. let b = h.current T e in record { request = b.request; has = b.has; drawn = below b.request.0 t.next b.drawn };
      fresh = λ T e k. h.fresh T e (ap is_closing (free k));
      waits = λ o e. subst (λ (z : Outstanding). IsWaiting os ended c (t.next + 1) z) (some-out _ o e) (record { drawn = self-below t.next; quiet = quiet; begins = λ b T k. next-free T k });
    },
    quiet,
    refl,
  )

  pub command-facts : (event : ℕ) (command : Command) → CommandFacts (command_row t event command)
  command-facts event (Begin s) = at-server s _ (where-idle t.outstanding _ (λ e. without-one t.transaction _ (sends-one t.works event (Begin s) _ _ refl (λ k. e))))
  command-facts event (Open s) = at-server s _ (where-idle t.outstanding _ (λ e. with-one t.transaction _ (λ T. where-none (work_at s t.works) _ (sends-one t.works event (Open s) _ _ refl (λ k. e)))))
  command-facts event (Do s op) = at-server s _ (where-idle t.outstanding _ (λ e. with-one t.transaction _ (λ T. where-open (work_at s t.works) _ (λ v. sends-one (with_operation s t.works) event (Do s op) _ _ refl (λ k. e)))))
  command-facts event End = where-idle t.outstanding _ (λ e. with-one t.transaction _ (λ T. sends-one t.works event End _ _ refl (λ k. e)))
  command-facts event Abort = with-one t.transaction _ (λ T. sends-one t.works event Abort _ _ refl (λ k. absurd (no k)))
    where
      no : true ≡ false → ⊥
      no q = grind arith

  -- ---- a message

  abbrev pub IsQuiet : Taken → Type 0
  IsQuiet taken.Ignored = Unit {0}
  IsQuiet (taken.Send to message) = opening_in (to, message) ≡ []
  IsQuiet (taken.Told line None) = Unit {0}
  IsQuiet (taken.Told line (Some sent)) = opening_in sent ≡ []

  abbrev pub TakeFacts : ClientTable × Taken → Type 0
  TakeFacts row = IsRunning os ended c row.0 × (row.0.next ≡ t.next) × IsQuiet row.1

  where-waits : (o : Option Outstanding) (test : Outstanding → Bool) (row : ℕ → ClientTable × Taken) → t.outstanding ≡ o → ((x : Outstanding) → t.outstanding ≡ Some x → test x ≡ true → TakeFacts (row x.event)) → TakeFacts (if_waits t o test row)
  where-waits None test row e k = (h, refl, tt)
  where-waits (Some o) test row e k = by (test o) refl
    where
      by : (b : Bool) → test o ≡ b → TakeFacts (if b then row o.event else (t, taken.Ignored))
      by true f = k o e f
      by false f = (h, refl, tt)

  either : (b : Bool) (p q : ClientTable × Taken) → TakeFacts p → TakeFacts q → TakeFacts (if b then p else q)
  either true p q k l = k
  either false p q k l = l

  -- it waits for nothing, after a command that doesn't close
  is-idle : (x : Outstanding) (works : List OpenWork) → t.outstanding ≡ Some x → is_end_or_abort x.command ≡ false → IsRunning os ended c (record (idle t) { works = works })
  is-idle x works e stays = record { name = h.name; current = h.current; fresh = λ T f k. h.fresh T f (ap is_closing e ∙ stays); waits = λ o f. absurd (none-out o f) }

  is-over : IsRunning os ended c (over t)
  is-over = record { name = h.name; current = λ T e. absurd (none-tid T e); fresh = λ T e k. absurd (none-tid T e); waits = λ o f. absurd (none-out o f) }

  open-begin : (command : Command) → is_begin command ≡ true → is_end_or_abort command ≡ false
  open-begin (Begin s) e = refl
  open-begin (Open s) e = refl
  open-begin (Do s op) e = refl
  open-begin End e = absurd (grind arith)
  open-begin Abort e = absurd (grind arith)

  open-operation : (command : Command) → is_operation command ≡ true → is_end_or_abort command ≡ false
  open-operation (Begin s) e = refl
  open-operation (Open s) e = refl
  open-operation (Do s op) e = refl
  open-operation End e = absurd (grind arith)
  open-operation Abort e = absurd (grind arith)

  open-open : (o : Option WorkId) (command : Command) → opens o command ≡ true → is_end_or_abort command ≡ false
  open-open o (Begin s) e = refl
  open-open o (Open s) e = refl
  open-open o (Do s op) e = refl
  open-open None End e = absurd (grind arith)
  open-open None Abort e = absurd (grind arith)
  open-open (Some W) End e = absurd (grind arith)
  open-open (Some W) Abort e = absurd (grind arith)

  same-client : (d : ClientNo) → client_eq d t.client ≡ true → d ≡ c
  same-client d e = let is = h.name in grind (arith, client_tells d t.client, e, is)

  same-number : (a b : RequestNo) → request_eq a b ≡ true → a ≡ b
  same-number a b e = grind (arith, nat_tests)

  begun-takes : (x : Outstanding) (d : ClientNo) (request : RequestNo) (o : Option Tid) → t.outstanding ≡ Some x → client_eq d t.client ≡ true → request_eq x.request request ≡ true → is_begin x.command ≡ true
      → ((a : Opening) → Has a (opening_in (Client c, messages.Begun d request o)) → Has a os) → TakeFacts (begun_row t x.event o)
  begun-takes x d request None e f g b has = (is-idle x t.works e (open-begin x.command b), refl, tt)
  begun-takes x d request (Some T) e f g b has = (
    record {
      name = h.name;
      current = λ U q. subst (λ (z : Tid). Began os c t.next z) (some-tid T U q) (record { request = x.request; has = its; drawn = (h.waits x e).drawn });
      fresh = λ U q k. subst (λ (z : Tid). ended z ≡ false) (some-tid T U q) ((h.waits x e).begins b T its);
      waits = λ o q. absurd (none-out o q);
    },
    refl,
    tt,
  )
    where
      its : Has (opening c x.request T) os
      its = subst (λ (z : ClientNo). Has (opening z x.request T) os) (same-client d f) (subst (λ n. Has (opening d n T) os) (sym (same-number x.request request g)) (has (opening d request T) (inl refl)))

  opened-takes : (x : Outstanding) (o : Option WorkId) → t.outstanding ≡ Some x → opens o x.command ≡ true → TakeFacts (opened_row t x.event o)
  opened-takes x None e k = (is-idle x t.works e (open-open None x.command k), refl, tt)
  opened-takes x (Some W) e k = (is-idle x _ e (open-open (Some W) x.command k), refl, tt)

  decided-takes : (T : Tid) (line : ℕ → Text) → TakeFacts (decided_row t T line)
  decided-takes T line = either (is_current t T) _ _ (where-waits t.outstanding _ _ refl (λ x e k. (is-over, refl, refl))) (h, refl, refl)

  outcome-takes : (T : Tid) (outcome : Outcome) → TakeFacts (outcome_row t T outcome)
  outcome-takes T outcomes.Committed = decided-takes T _
  outcome-takes T (outcomes.Aborted cause) = decided-takes T _
  outcome-takes T (outcomes.Waiting s u by) = either (is_current t T) _ _ (where-waits t.outstanding _ _ refl (λ x e k. (h, refl, tt))) (h, refl, tt)
  outcome-takes T (outcomes.NotKnown s epoch) = either (is_current t T) _ _ (where-waits t.outstanding _ _ refl (λ x e k. (is-over, refl, tt))) (h, refl, tt)

  pub take-facts : (message : Message) → ((a : Opening) → Has a (opening_in (Client c, message)) → Has a os) → TakeFacts (take_row t message)
  take-facts (messages.Begun d request answer) has = where-waits t.outstanding _ _ refl (λ x e k. let rest = second-of (client_eq d t.client) (request_eq x.request request && is_begin x.command) k in
      begun-takes x d request answer e (first-of (client_eq d t.client) (request_eq x.request request && is_begin x.command) k) (first-of (request_eq x.request request) (is_begin x.command) rest) (second-of (request_eq x.request request) (is_begin x.command) rest) has)
  take-facts (messages.Opened d request T answer) has = where-waits t.outstanding _ _ refl (λ x e k. opened-takes x answer e
      (second-of (is_current t T) (opens answer x.command) (second-of (request_eq x.request request) (is_current t T && opens answer x.command) (second-of (client_eq d t.client) (request_eq x.request request && (is_current t T && opens answer x.command)) k))))
  take-facts (messages.Answer d request answer) has = where-waits t.outstanding _ _ refl (λ x e k. (
    is-idle x t.works e (open-operation x.command
        (second-of (request_eq x.request request) (is_operation x.command) (second-of (client_eq d t.client) (request_eq x.request request && is_operation x.command) k))),
    refl,
    tt,
  ))
  take-facts (messages.Outcome d T outcome) has = either (client_eq d t.client) _ _ (outcome-takes T outcome) (h, refl, tt)
  take-facts _ has = (h, refl, tt)
