-- What messages, tables and flags say of clients' requests, and that it stays true.
use Rattle.jn_system_settling.proofs.Common.{◌≡◌, ◌⊎◌, inl, inr, ◌≤◌, ◌<◌, ℕ, ◌+◌, Bool, true, false, List, [], ◌∷◌, ◌++◌, length, Option, Some, None, true≢false, refl, sym, ◌∙◌, ap, subst, arith, ◌&&◌, if◌then◌else◌, nat_lt, nat_eq, ClientNo, Tid, Tickets, Client, Message, Outstanding, Transaction, Open, Change, AddReady, MarkGoing, CarryOut, RemoveWork, AddFlag, DropFlag, RowOutcome, Sent, WorkerTable, client-closes, CoordinatorTable, after_closing, changes_of_closing, begin_again, begun_by, begin_row, seen_now, name_from, ClientTable, is_begin, Memory, of_worker, of_coordinator, Opening, request_of, RequestNo, one-client, keep_flags}
use Rattle.jn_msgs.specs.declared.message.Message.TheVariants as messages
use Rattle.jn_system_settling.proofs.AtRest.Ways.{Has}
use Rattle.jn_system_settling.proofs.AtRest.Owners.{owner_in, owner-more}
use Rattle.jn_system_settling.proofs.AtRest.Votes.{is_plain, are_plain, Votings, FlagsOf, both-votings, closes-votings, closes-flags-of, RowVotes}

abbrev pub Clients : Type 0
Clients = ClientNo → ClientTable

-- the client has drawn this request, and if it waits for its answer, it is a Begin or not
abbrev pub Past : Bool → Clients → ClientNo → RequestNo → Type 0
Past b f c q = (q.0 < (f c).next) × ((o : Outstanding) → (f c).outstanding ≡ Some o → o.request ≡ q → is_begin o.command ≡ b)

pub record HasBegun (sent : List Sent) (c : ClientNo) (q : RequestNo) : Type 0 where
  pub answer : Option Tid
  pub has : Has (Client c, messages.Begun c q answer) sent

abbrev pub MessageFits : Clients → List Opening → Message → Type 0
MessageFits f os (messages.Begin c q) = Past true f c q
MessageFits f os (messages.Begun c q a) = Past true f c q
MessageFits f os (messages.End c q T works) = Past false f c q × (owner_in os c T ≡ true)
MessageFits f os m = Unit {0}

-- the request of this number, which a coordinator has seen, was answered, or it was no Begin
abbrev pub SeenFits : Clients → List Sent → ClientNo → ℕ → Type 0
SeenFits f sent c n = (n ≡ 0) ⊎ (Past false f c (request_of n) ⊎ HasBegun sent c (request_of n))

-- ---- clients go on

pub data GoesOn (t now : ClientTable) : Type 0 where
  waits_on : t.next ≤ now.next → now.outstanding ≡ t.outstanding → GoesOn t now
  waits_not : t.next ≤ now.next → now.outstanding ≡ None → GoesOn t now
  waits_anew : t.next ≤ now.next → (o : Outstanding) → now.outstanding ≡ Some o → o.request.0 ≡ t.next → GoesOn t now

pub past-on : (b : Bool) (f g : Clients) (c : ClientNo) (q : RequestNo) → GoesOn (f c) (g c) → Past b f c q → Past b g c q
past-on b f g c q (waits_on l e) h = (let k = h.0 in omega (arith, l, k), λ o is. h.1 o (sym e ∙ is))
past-on b f g c q (waits_not l e) h = (let k = h.0 in omega (arith, l, k), λ o is. absurd (none o (sym e ∙ is)))
  where
    none : (o : Outstanding) → None ≡ Some o → ⊥
    none o z = cc
past-on b f g c q (waits_anew l p e new) h = (let k = h.0 in omega (arith, l, k), λ o is at. absurd (by o is at))
  where
    same : (o : Outstanding) → Some p ≡ Some o → p ≡ o
    same o z = cc

    by : (o : Outstanding) → (g c).outstanding ≡ Some o → o.request ≡ q → ⊥
    by o is at = let one = ap (λ (z : Outstanding). z.request.0) (same o (sym e ∙ is)) in let its = ap (λ (z : RequestNo). z.0) at in let k = h.0 in omega (arith, new, one, its, k)

has-more : (x : Sent) (a b : List Sent) → Has x a → Has x (a ++ b)
has-more x [] b h = absurd h
has-more x (y ∷ a) b (inl e) = inl e
has-more x (y ∷ a) b (inr h) = inr (has-more x a b h)

pub has-new : (x : Sent) (a b : List Sent) → Has x b → Has x (a ++ b)
has-new x [] b h = h
has-new x (y ∷ a) b h = inr (has-new x a b h)

pub has-in : (x : Sent) (a b : List Sent) → Has x (a ++ b) → Has x a ⊎ Has x b
has-in x [] b h = inr h
has-in x (y ∷ a) b (inl e) = inl (inl e)
has-in x (y ∷ a) b (inr h) = by (has-in x a b h)
  where
    by : Has x a ⊎ Has x b → ((y ≡ x) ⊎ Has x a) ⊎ Has x b
    by (inl k) = inl (inr k)
    by (inr k) = inr k

module _ (f g : Clients) (on : (c : ClientNo) → GoesOn (f c) (g c)) where
  pub message-on : (os more : List Opening) (m : Message) → MessageFits f os m → MessageFits g (os ++ more) m
  message-on os more (messages.Begin c q) h = past-on true f g c q (on c) h
  message-on os more (messages.Begun c q a) h = past-on true f g c q (on c) h
  message-on os more (messages.End c q T works) h = (past-on false f g c q (on c) h.0, owner-more os more c T h.1)
  message-on os more (messages.Open c q T) h = tt
  message-on os more (messages.Op c q W number op) h = tt
  message-on os more (messages.Abort c q T works) h = tt
  message-on os more (messages.Thanks c T) h = tt
  message-on os more (messages.Opened c q T W) h = tt
  message-on os more (messages.Answer c q answer) h = tt
  message-on os more (messages.Outcome c T outcome) h = tt
  message-on os more (messages.Prepare T c W) h = tt
  message-on os more (messages.Commit T W) h = tt
  message-on os more (messages.Drop T W) h = tt
  message-on os more (messages.Vote T W vote) h = tt
  message-on os more (messages.Done T W) h = tt
  message-on os more (messages.Inquire T W) h = tt

  pub seen-on : (sent more : List Sent) (c : ClientNo) (n : ℕ) → SeenFits f sent c n → SeenFits g (sent ++ more) c n
  seen-on sent more c n (inl e) = inl e
  seen-on sent more c n (inr (inl h)) = inr (inl (past-on false f g c (request_of n) (on c) h))
  seen-on sent more c n (inr (inr h)) = inr (inr (record { answer = h.answer; has = has-more _ sent more h.has }))

pub stays : (f : Clients) (c : ClientNo) → GoesOn (f c) (f c)
stays f c = waits_on (omega arith) refl

-- ---- messages that say nothing of it

pub plain-fits : (f : Clients) (os : List Opening) (xs : List Sent) → are_plain xs ≡ true → (x : Sent) → Has x xs → MessageFits f os x.1
plain-fits f os [] h x k = absurd k
plain-fits f os (y ∷ ys) h x (inl e) = subst (λ (z : Sent). MessageFits f os z.1) e (by y.1 (first (is_plain y.1) (are_plain ys) h))
  where
    first : (a b : Bool) → (a && b) ≡ true → a ≡ true
    first a b q = grind arith

    by : (m : Message) → is_plain m ≡ true → MessageFits f os m
    by (messages.Begin c q) p = absurd (true≢false (sym p))
    by (messages.Begun c q a) p = absurd (true≢false (sym p))
    by (messages.End c q T works) p = absurd (true≢false (sym p))
    by (messages.Open c q T) p = tt
    by (messages.Op c q W number op) p = tt
    by (messages.Abort c q T works) p = tt
    by (messages.Thanks c T) p = tt
    by (messages.Opened c q T W) p = tt
    by (messages.Answer c q answer) p = tt
    by (messages.Outcome c T outcome) p = tt
    by (messages.Prepare T c W) p = tt
    by (messages.Commit T W) p = tt
    by (messages.Drop T W) p = tt
    by (messages.Vote T W vote) p = tt
    by (messages.Done T W) p = tt
    by (messages.Inquire T W) p = tt
plain-fits f os (y ∷ ys) h x (inr k) = plain-fits f os ys (grind (arith, h)) x k

-- ---- a server's row

pub record RowRequests (f : Clients) (sent : List Sent) (row : RowOutcome Memory) : Type 0 where
  pub table : Votings (Past false f) row.table.coordinator.transactions
  pub seen : (c : ClientNo) → SeenFits f (sent ++ row.messages) c (row.table.coordinator.seen c)
  pub flags : FlagsOf (Past false f) row.changes
  pub fits : (os : List Opening) (x : Sent) → Has x row.messages → MessageFits f os x.1

works-of : (P : ClientNo → RequestNo → Type 0) (cs : List Change) → keep_flags cs ≡ true → FlagsOf P cs
works-of P [] h = tt
works-of P (AddReady head list reads ∷ cs) h = (tt, works-of P cs h)
works-of P (MarkGoing W ∷ cs) h = (tt, works-of P cs h)
works-of P (CarryOut W i ∷ cs) h = (tt, works-of P cs h)
works-of P (RemoveWork W ∷ cs) h = (tt, works-of P cs h)
works-of P (AddFlag flag ∷ cs) h = absurd (true≢false (sym h))
works-of P (DropFlag T ∷ cs) h = absurd (true≢false (sym h))

module _ (f : Clients) (sent : List Sent) (m : Memory) (votings : Votings (Past false f) m.coordinator.transactions) (seen : (c : ClientNo) → SeenFits f sent c (m.coordinator.seen c)) where
  old-seen : (more : List Sent) (c : ClientNo) → SeenFits f (sent ++ more) c (m.coordinator.seen c)
  old-seen more c = seen-on f f (λ d. stays f d) sent more c (m.coordinator.seen c) (seen c)

  pub worker-requests : (row : RowOutcome WorkerTable) → keep_flags row.changes ≡ true → are_plain row.messages ≡ true → RowRequests f sent (of_worker m row)
  worker-requests row same plain = record {
    table = votings;
    seen = old-seen row.messages;
    flags = works-of (Past false f) row.changes same;
    fits = λ os. plain-fits f os row.messages plain;
  }

  pub other-requests : (row : RowOutcome CoordinatorTable) → RowVotes (Past false f) m.coordinator row → RowRequests f sent (of_coordinator m row)
  other-requests row h = record {
    table = h.table;
    seen = λ c. subst (λ (s : ClientNo → ℕ). SeenFits f (sent ++ row.messages) c (s c)) (sym h.seen) (old-seen row.messages c);
    flags = h.flags;
    fits = λ os. plain-fits f os row.messages h.plain;
  }

  -- a Begin
  module _ (c : ClientNo) (q : RequestNo) (past : Past true f c q) where
    abbrev Is : RowOutcome CoordinatorTable → Type 0
    Is row = RowRequests f sent (of_coordinator m row)

    choose : (b : Bool) (p r : RowOutcome CoordinatorTable) → Is p → Is r → Is (if b then p else r)
    choose true p r a b = a
    choose false p r a b = b

    begun-fits : (a : Option Tid) (os : List Opening) (x : Sent) → Has x ((Client c, messages.Begun c q a) ∷ []) → MessageFits f os x.1
    begun-fits a os x (inl e) = subst (λ (z : Sent). MessageFits f os z.1) e past
    begun-fits a os x (inr k) = absurd k

    -- what is seen now is answered
    now-seen : (a : Option Tid) (d : ClientNo) → SeenFits f (sent ++ (Client c, messages.Begun c q a) ∷ []) d (seen_now m.coordinator.seen c q d)
    now-seen a = one-client (SeenFits f (sent ++ (Client c, messages.Begun c q a) ∷ [])) m.coordinator.seen c q.0 (inr (inr (record { answer = a; has = has-new _ sent _ (inl refl) }))) (λ d other. old-seen _ d)

    abbrev ys : List Transaction
    ys = after_closing c m.coordinator.transactions

    left : Votings (Past false f) ys
    left = closes-votings (Past false f) (client-closes c m.coordinator.transactions) votings

    new-requests : (k : Tickets) (b : Bool) → Is (if b
        then record { table = record { transactions = ys ++ (record { tid = name_from k; client = c; begun = Some q; stage = Open }) ∷ []; seen = seen_now m.coordinator.seen c q }; changes = changes_of_closing c m.coordinator.transactions; messages = (Client c, messages.Begun c q (Some (name_from k))) ∷ []; notes = []; tickets = record k { next = k.next + 1 } }
        else record { table = record { transactions = ys; seen = seen_now m.coordinator.seen c q }; changes = changes_of_closing c m.coordinator.transactions; messages = (Client c, messages.Begun c q None) ∷ []; notes = []; tickets = k })
    new-requests k true = record { table = both-votings (Past false f) ys _ left (tt, tt); seen = now-seen (Some (name_from k)); flags = closes-flags-of (Past false f) (client-closes c m.coordinator.transactions); fits = begun-fits (Some (name_from k)) }
    new-requests k false = record { table = left; seen = now-seen None; flags = closes-flags-of (Past false f) (client-closes c m.coordinator.transactions); fits = begun-fits None }

    again-requests : (k : Tickets) (o : Option Transaction) → Is (begin_again m.coordinator k c q o)
    again-requests k (Some y) = record { table = votings; seen = old-seen _; flags = tt; fits = begun-fits (Some y.tid) }
    again-requests k None = record { table = votings; seen = old-seen []; flags = tt; fits = λ os x k. absurd k }

    pub begin-requests : (k : Tickets) → Is (begin_row m.coordinator k c q)
    begin-requests k = choose (nat_lt (m.coordinator.seen c) q.0) _ _ (new-requests k (nat_lt (length ys) 64))
        (choose (nat_eq (m.coordinator.seen c) q.0) _ _ (again-requests k (begun_by c q m.coordinator.transactions)) (record { table = votings; seen = old-seen []; flags = tt; fits = λ os x k. absurd k }))
