-- What each message and each client says of the events that gave it, and of a server that went down after them.
use Rattle.jn_system_reports.proofs.Common.{◌≡◌, ◌≢◌, ◌⊎◌, inl, inr, ◌<◌, ◌≤◌, ℕ, ◌+◌, Bool, true, false, List, [], ◌∷◌, ◌++◌, length, Option, Some, None, refl, sym, ◌∙◌, ap, subst, arith, All, ◌||◌, list_any, ServerNo, ClientNo, Tid, WorkId, Cause, Party, Server, Event, Text, Line, Outstanding, Sent, is_work, ClientTable, names_of, Machine, IsWorkOf, Memory, IsTrue, all-have-theirs, Opening, opening_in, openings, openings-more, Has, has-first, Began, says, begun_then, last_begun, goes_down, begun_then-append, at_event, RequestNo}
use Rattle.jn_base.specs.declared.op.Command.TheVariants as commands
use Rattle.jn_msgs.specs.declared.message.Message.TheVariants as messages
use Rattle.jn_schedule.specs.declared.Event.TheVariants as events
use Rattle.jn_system_order.proofs.Ordering.Facts.{opening}
use Rattle.jn_system_reports.proofs.Reporting.Following.{texts-within}
use Rattle.jn_system_reports.proofs.Reporting.Lists.{In, in-first, Each, each-in, each-of, each-append}
use Rattle.jn_system_reports.proofs.Reporting.Known.{IsPast}
use Rattle.jn_system_reports.proofs.Reporting.PastRows.{IsThere}
use Rattle.jn_system_reports.proofs.Reporting.Reached.{in-all}
use Rattle.jn_system_reports.proofs.Causing.Evidence.{Stands, stands-below, Came, DownAfter, Stood, came-more, stood-more, down-more, down-now, any-more, any-last, any-line}
use Rattle.jn_system_reports.proofs.Causing.WorkerKeeps.{IsLive, WorkTold}
use Rattle.jn_system_reports.proofs.Causing.CoordinatorKeeps.{Spent}

-- ---- what is held

abbrev pub HasTransaction : (ServerNo → Option Memory) → Tid → Type 0
HasTransaction memory T = (m : Memory) × (memory T.server ≡ Some m) × IsThere T m.coordinator.transactions

abbrev pub HasWork : (ServerNo → Option Memory) → WorkId → Type 0
HasWork memory W = (m : Memory) × (memory W.server ≡ Some m) × IsLive W m.worker

-- the client's transaction came to the server by this event
pub record CameBy (es : List Event) (ls : List Line) (os : List Opening) (c : ClientNo) (T : Tid) (s : ServerNo) : Type 0 where
  pub number : ℕ
  pub came : Came es ls c T s number
  pub request : RequestNo
  pub has : Has (opening c request T) os

-- the work was told to be open
pub record WasOpened (sent : List Sent) (T : Tid) (W : WorkId) : Type 0 where
  pub to : Party
  pub client : ClientNo
  pub request : RequestNo
  pub is : In (to, messages.Opened client request T (Some W)) sent

-- an abort's cause, unless it is of another client's transaction
pub record OfAnother (os : List Opening) (c : ClientNo) (T : Tid) : Type 0 where
  pub client : ClientNo
  pub request : RequestNo
  pub has : Has (opening client request T) os
  pub other : client ≢ c

abbrev pub HasCause : List Opening → List Event → List Line → ClientNo → Tid → Cause → Type 0
HasCause os es ls c T cause = OfAnother os c T ⊎ Stood es ls c T cause

-- ---- facts

pub record OpenedBy (es : List Event) (ls : List Line) (os : List Opening) (memory : ServerNo → Option Memory) (w : Machine) (c : ClientNo) (T : Tid) (W : WorkId) : Type 0 where
  pub by : CameBy es ls os c T W.server
  -- its server has it, or went down, or knows its outcome
  pub stands : Spent w T ⊎ (HasWork memory W ⊎ DownAfter ls W.server by.number)

pub record BegunFor (ls : List Line) (memory : ServerNo → Option Memory) (T : Tid) (o : Outstanding) : Type 0 where
  pub to : o.to ≡ Server T.server
  pub stands : HasTransaction memory T ⊎ DownAfter ls T.server o.event

abbrev pub MessageFact : List Event → List Line → List Opening → (ClientNo → ClientTable) → (ServerNo → Option Memory) → Machine → Sent → Type 0
MessageFact es ls os clients memory w (to, messages.Begin c q) = (q.0 < (clients c).next) × ((o : Outstanding) → (clients c).outstanding ≡ Some o → o.request ≡ q → o.to ≡ to)
MessageFact es ls os clients memory w (to, messages.Open c q T) = (s : ServerNo) → to ≡ Server s → CameBy es ls os c T s
MessageFact es ls os clients memory w (to, messages.Begun c q (Some T)) = (q.0 < (clients c).next) × ((o : Outstanding) → (clients c).outstanding ≡ Some o → o.request ≡ q → BegunFor ls memory T o)
MessageFact es ls os clients memory w (to, messages.Opened c q T (Some W)) = OpenedBy es ls os memory w c T W
MessageFact es ls os clients memory w (to, messages.Drop T W) = Spent w T
MessageFact es ls os clients memory w (to, message) = Unit {0}

pub record BeganAt (es : List Event) (ls : List Line) (memory : ServerNo → Option Memory) (c : ClientNo) (T : Tid) : Type 0 where
  pub number : ℕ
  pub came : Came es ls c T T.server number
  pub stands : HasTransaction memory T ⊎ DownAfter ls T.server number

pub record ClientFact (es : List Event) (ls : List Line) (sent : List Sent) (memory : ServerNo → Option Memory) (c : ClientNo) (t : ClientTable) : Type 0 where
  -- what is outstanding is a command of an event
  pub asked : (o : Outstanding) → t.outstanding ≡ Some o → Stands 1 es o.event (events.Command c o.command)
  pub to : (o : Outstanding) (s : ServerNo) → t.outstanding ≡ Some o → o.command ≡ commands.Begin s → o.to ≡ Server s
  pub current : (T : Tid) → t.transaction ≡ Some T → BeganAt es ls memory c T
  pub works : (T : Tid) → t.transaction ≡ Some T → (W : WorkId) → is_work W (names_of t.works) ≡ true → WasOpened sent T W
  pub begun : (T : Tid) → t.transaction ≡ Some T → last_begun c ls ≡ Some T

pub record CauseFacts (es : List Event) (ls : List Line) (sent : List Sent) (clients : ClientNo → ClientTable) (memory : ServerNo → Option Memory) (lines : List Text) (w : Machine) : Type 0 where
  pub messages : Each (MessageFact es ls (openings sent) clients memory w) sent
  pub each : (c : ClientNo) → ClientFact es ls sent memory c (clients c)
  pub broken : (s : ServerNo) (m : Memory) → memory s ≡ Some m → Each (WorkTold s lines) m.worker
  -- what was reported stands among the lines
  pub told : (test : Text → Bool) → list_any test lines ≡ true → says test ls ≡ true

-- ---- growth

-- lines after which the client has begun what it had
abbrev pub IsMute : ClientNo → List Text → Type 0
IsMute c texts = (n : ℕ) (now : Option Tid) → begun_then c now (at_event n texts) ≡ now

pub opened-more : (sent more : List Sent) (T : Tid) (W : WorkId) → WasOpened sent T W → WasOpened (sent ++ more) T W
opened-more sent more T W h = record { to = h.to; client = h.client; request = h.request; is = in-first _ sent more h.is }

module _ (es es' : List Event) (on : (j : ℕ) (e : Event) → Stands 1 es j e → Stands 1 es' j e) (ls : List Line) (new : List Text) where
  pub cause-more : (os os' : List Opening) → ((a : Opening) → Has a os → Has a os') → (c : ClientNo) (T : Tid) (cause : Cause) → HasCause os es ls c T cause → HasCause os' es' (ls ++ at_event (1 + length es) new) c T cause
  cause-more os os' more c T cause (inl h) = inl (record { client = h.client; request = h.request; has = more _ h.has; other = h.other })
  cause-more os os' more c T cause (inr h) = inr (stood-more es es' on ls (at_event (1 + length es) new) (1 + length es + 1) (texts-within (1 + length es) new) c T cause h)

  came-on : (c : ClientNo) (T : Tid) (s : ServerNo) (j : ℕ) → Came es ls c T s j → Came es' (ls ++ at_event (1 + length es) new) c T s j
  came-on c T s j h = came-more es es' on ls (at_event (1 + length es) new) (1 + length es + 1) (texts-within (1 + length es) new) c T s j h

  -- the server goes down in this event
  abbrev pub GoesDown : ServerNo → Type 0
  GoesDown s = list_any (goes_down s) new ≡ true

  down-here : (s : ServerNo) (j : ℕ) → j < 1 + length es → GoesDown s → DownAfter (ls ++ at_event (1 + length es) new) s j
  down-here s j below h = down-now s (1 + length es) j ls new below h

  down-on : (s : ServerNo) (j : ℕ) → DownAfter ls s j → DownAfter (ls ++ at_event (1 + length es) new) s j
  down-on s j h = down-more s j ls (at_event (1 + length es) new) h

  -- what was reported stands too
  pub told-on : (lines : List Text) → ((test : Text → Bool) → list_any test lines ≡ true → says test ls ≡ true) → (test : Text → Bool) → list_any test (lines ++ new) ≡ true → says test (ls ++ at_event (1 + length es) new) ≡ true
  told-on lines h test k = by (split lines k)
    where
      split : (xs : List Text) → list_any test (xs ++ new) ≡ true → (list_any test xs ≡ true) ⊎ (list_any test new ≡ true)
      split [] g = inr g
      split (x ∷ xs) g = at (test x) g (split xs)
        where
          at : (b : Bool) → (b || list_any test (xs ++ new)) ≡ true → (list_any test (xs ++ new) ≡ true → (list_any test xs ≡ true) ⊎ (list_any test new ≡ true)) → ((b || list_any test xs) ≡ true) ⊎ (list_any test new ≡ true)
          at true g on = inl refl
          at false g on = on g

      by : (list_any test lines ≡ true) ⊎ (list_any test new ≡ true) → says test (ls ++ at_event (1 + length es) new) ≡ true
      by (inl g) = any-more (λ (l : Line). test l.text) ls (at_event (1 + length es) new) (h test g)
      by (inr g) = any-last (λ (l : Line). test l.text) ls (at_event (1 + length es) new) (any-line test (1 + length es) new g)

  module _ (sent more : List Sent) (clients clients' : ClientNo → ClientTable) (memory memory' : ServerNo → Option Memory) (lines : List Text) (w v : Machine) (facts : CauseFacts es ls sent clients memory lines w)
      (says : All (IsTrue w) sent) (unique : (a b : Opening) → Has a (openings sent) → Has b (openings sent) → a.tid ≡ b.tid → a ≡ b) (began : (c : ClientNo) (T : Tid) → (clients c).transaction ≡ Some T → Began (openings sent) c (clients c).next T)
      (spent : (T : Tid) → Spent w T → Spent v T) (next : (c : ClientNo) (q : RequestNo) → q.0 < (clients c).next → q.0 < (clients' c).next) (waits : (c : ClientNo) (o : Outstanding) → (clients' c).outstanding ≡ Some o → ((clients c).outstanding ≡ Some o) ⊎ ((clients c).next ≤ o.request.0))
      (holds : (T : Tid) → ((c : ClientNo) → IsPast (openings sent) c (clients c) T → ⊥) → HasTransaction memory T → HasTransaction memory' T ⊎ GoesDown T.server)
      (has : (W : WorkId) → HasWork memory W → HasWork memory' W ⊎ (GoesDown W.server ⊎ Spent v (w.owner W))) where
    pub forth : (a : Opening) → Has a (openings sent) → Has a (openings (sent ++ more))
    forth a h = subst (λ l. Has a l) (sym (openings-more sent more)) (has-first a (openings sent) (openings more) h)

    -- a transaction is past for none but its own client
    own-past : (c : ClientNo) (q : RequestNo) (T : Tid) → Has (opening c q T) (openings sent) → (IsPast (openings sent) c (clients c) T → q ≡ q → ⊥) → (d : ClientNo) → IsPast (openings sent) d (clients d) T → ⊥
    own-past c q T h not d p = not (subst (λ (z : ClientNo). IsPast (openings sent) z (clients z) T) (ap (λ (a : Opening). a.client) (unique (opening d p.request T) (opening c q T) p.has h refl)) p) refl

    not-new : (c : ClientNo) (q : RequestNo) (o : Outstanding) → q.0 < (clients c).next → o.request ≡ q → ((clients c).outstanding ≡ Some o) ⊎ ((clients c).next ≤ o.request.0) → (clients c).outstanding ≡ Some o
    not-new c q o l e (inl f) = f
    not-new c q o l e (inr k) = absurd (over q (clients c).next o.request l e k)
      where
        over : (a : RequestNo) (b : ℕ) (c : RequestNo) → a.0 < b → c ≡ a → b ≤ c.0 → ⊥
        over a b c l e k = let same = ap (λ (z : RequestNo). z.0) e in omega (arith, l, same, k)

    pub came-by : (c : ClientNo) (T : Tid) (s : ServerNo) → CameBy es ls (openings sent) c T s → CameBy es' (ls ++ at_event (1 + length es) new) (openings (sent ++ more)) c T s
    came-by c T s h = record { number = h.number; came = came-on c T s h.number h.came; request = h.request; has = forth _ h.has }

    begun-for : (c : ClientNo) (q : RequestNo) (T : Tid) (o : Outstanding) → Has (opening c q T) (openings sent) → o.request ≡ q → (clients c).outstanding ≡ Some o → BegunFor ls memory T o → BegunFor (ls ++ at_event (1 + length es) new) memory' T o
    begun-for c q T o opened e f h = record { to = h.to; stands = by h.stands }
      where
        below : o.event < 1 + length es
        below = stands-below 1 es o.event _ ((facts.each c).asked o f)

        not : (p : IsPast (openings sent) c (clients c) T) → q ≡ q → ⊥
        not p r = p.answered o f (e ∙ ap (λ (a : Opening). a.request) (unique (opening c q T) (opening c p.request T) opened p.has refl))

        here : HasTransaction memory' T ⊎ GoesDown T.server → HasTransaction memory' T ⊎ DownAfter (ls ++ at_event (1 + length es) new) T.server o.event
        here (inl k) = inl k
        here (inr k) = inr (down-here T.server o.event below k)

        by : HasTransaction memory T ⊎ DownAfter ls T.server o.event → HasTransaction memory' T ⊎ DownAfter (ls ++ at_event (1 + length es) new) T.server o.event
        by (inl k) = here (holds T (own-past c q T opened not) k)
        by (inr k) = inr (down-on T.server o.event k)

    opened-by : (c : ClientNo) (T : Tid) (W : WorkId) → IsWorkOf w T W → OpenedBy es ls (openings sent) memory w c T W → OpenedBy es' (ls ++ at_event (1 + length es) new) (openings (sent ++ more)) memory' v c T W
    opened-by c T W of h = record { by = record { number = h.by.number; came = came-on c T W.server h.by.number h.by.came; request = h.by.request; has = forth _ h.by.has }; stands = by h.stands }
      where
        here : HasWork memory' W ⊎ (GoesDown W.server ⊎ Spent v (w.owner W)) → Spent v T ⊎ (HasWork memory' W ⊎ DownAfter (ls ++ at_event (1 + length es) new) W.server h.by.number)
        here (inl k) = inr (inl k)
        here (inr (inl k)) = inr (inr (down-here W.server h.by.number (stands-below 1 es h.by.number h.by.came.event h.by.came.stands) k))
        here (inr (inr k)) = inl (subst (λ (U : Tid). Spent v U) of.1 k)

        by : Spent w T ⊎ (HasWork memory W ⊎ DownAfter ls W.server h.by.number) → Spent v T ⊎ (HasWork memory' W ⊎ DownAfter (ls ++ at_event (1 + length es) new) W.server h.by.number)
        by (inl k) = inl (spent T k)
        by (inr (inl k)) = here (has W k)
        by (inr (inr k)) = inr (inr (down-on W.server h.by.number k))

    abbrev pub Now : Sent → Type 0
    Now x = MessageFact es' (ls ++ at_event (1 + length es) new) (openings (sent ++ more)) clients' memory' v x

    message-on : (x : Sent) → IsTrue w x → ((a : Opening) → Has a (opening_in x) → Has a (openings sent)) → MessageFact es ls (openings sent) clients memory w x → Now x
    message-on (to, messages.Begin c q) said its h = (next c q h.0, λ o e f. h.1 o (not-new c q o h.0 f (waits c o e)) f)
    message-on (to, messages.Open c q T) said its h = λ s e. came-by c T s (h s e)
    message-on (to, messages.Begun c q (Some T)) said its h = (next c q h.0, λ o e f. let old = not-new c q o h.0 f (waits c o e) in begun-for c q T o (its (opening c q T) (inl refl)) f old (h.1 o old f))
    message-on (to, messages.Begun c q None) said its h = tt
    message-on (to, messages.Opened c q T (Some W)) said its h = opened-by c T W said h
    message-on (to, messages.Opened c q T None) said its h = tt
    message-on (to, messages.Drop T W) said its h = spent T h
    message-on (to, _) said its h = tt

    pub one-on : (x : Sent) → In x sent → Now x
    one-on x i = message-on x (in-all (IsTrue w) sent x says i) (in-all (λ (y : Sent). (a : Opening) → Has a (opening_in y) → Has a (openings sent)) sent x (all-have-theirs sent) i) (each-in (MessageFact es ls (openings sent) clients memory w) sent x facts.messages i)

    pub messages-on : Each Now more → Each Now (sent ++ more)
    messages-on h = each-append Now sent more (each-of Now sent one-on) h

    begun-on : (c : ClientNo) → IsMute c new → (T : Tid) → last_begun c ls ≡ Some T → last_begun c (ls ++ at_event (1 + length es) new) ≡ Some T
    begun-on c mute T h = begun_then-append c None ls (at_event (1 + length es) new) ∙ mute (1 + length es) (last_begun c ls) ∙ h

    pub current-on : (c : ClientNo) (T : Tid) → (clients c).transaction ≡ Some T → BeganAt es ls memory c T → BeganAt es' (ls ++ at_event (1 + length es) new) memory' c T
    current-on c T e h = record { number = h.number; came = came-on c T T.server h.number h.came; stands = by h.stands }
      where
        here : HasTransaction memory' T ⊎ GoesDown T.server → HasTransaction memory' T ⊎ DownAfter (ls ++ at_event (1 + length es) new) T.server h.number
        here (inl k) = inl k
        here (inr k) = inr (down-here T.server h.number (stands-below 1 es h.number h.came.event h.came.stands) k)

        by : HasTransaction memory T ⊎ DownAfter ls T.server h.number → HasTransaction memory' T ⊎ DownAfter (ls ++ at_event (1 + length es) new) T.server h.number
        by (inl k) = let b = began c T e in here (holds T (own-past c b.request T b.has (λ p r. p.over e)) k)
        by (inr k) = inr (down-on T.server h.number k)

    pub client-on : (c : ClientNo) → IsMute c new → ClientFact es' (ls ++ at_event (1 + length es) new) (sent ++ more) memory' c (clients c)
    client-on c mute = let h = facts.each c in record {
      asked = λ o e. on o.event _ (h.asked o e);
      to = h.to;
      current = λ T e. current-on c T e (h.current T e);
      works = λ T e W i. opened-more sent more T W (h.works T e W i);
      begun = λ T e. begun-on c mute T (h.begun T e);
    }
