-- A client's steps: what holds of the openings stays, and an End is a step of the machine.
use Rattle.jn_system_order.proofs.Common.{Step, Text, ◌≡◌, ◌≢◌, ◌⊎◌, inl, inr, ◌<◌, ℕ, ◌+◌, Bool, true, false, List, [], ◌∷◌, ◌++◌, append-nil, Option, Some, None, refl, sym, ◌∙◌, ap, subst, arith, ◌||◌, if◌then◌else◌, slice_get, All-nil, All-cons, All-append, ServerNo, ClientNo, Tid, WorkId, Client, Server, server_eq, tid_eq, work_eq, server_tells, tid_tells, work_tells, Message, OpenWork, Outstanding, Taken, Sent, is_work, ClientTable, Refuses, Sends, names_of, if_idle, if_transaction, take_row, sends, is_begin, sent_again, Machine, Invariant, Atom, Ends, end_it, run, MayRun, MayEnd, Says, IsWorkOf, at_tid_here, at_tid_other, at_tid_cases, World, at_client, commanded, again, sent_now, Mirrors, IsTrue, IsAddressed, AreOpen, IsCurrent, IsClient, request_of, RequestNo, one-client, ClientRow, by_command, by_ignoring, by_answering, by_telling, after, Tell, Dismiss}
use Rattle.jn_base.specs.declared.op.Command.TheVariants.{Open, End}
use Rattle.jn_msgs.specs.declared.message.Message.TheVariants as messages
use Rattle.jn_report.specs.declared.line.Refusal.{Refusal}
use Rattle.jn_report.specs.declared.line.Refusal.TheVariants as refusals
use Rattle.jn_report.specs.declared.line.Text.TheVariants as says
use Rattle.jn_rows.specs.Client.{work_at}
use Rattle.jn_system_order.proofs.Mirroring.Mirrored.{All-grows, client-still}
use Rattle.jn_system_order.proofs.Mirroring.ClientRows.{found-open, Tells, sends-it}
use Rattle.jn_system_order.proofs.Mirroring.ClientMoves.{mirrors-still, at-one, line-moves}
use Rattle.jn_system_order.proofs.Mirroring.StepMoves.{holds-of}
use Rattle.jn_system_order.proofs.Ordering.Openings.{Opening, opening_in, openings, openings-more, Has, HaveOpenings}
use Rattle.jn_system_order.proofs.Ordering.Facts.{opening, is_closing, Began, IsRunning, Facts}
use Rattle.jn_system_order.proofs.Ordering.ServerFacts.{still-facts}
use Rattle.jn_system_order.proofs.Ordering.ClientFacts.{CommandFacts, sends-one, command-facts, TakeFacts, take-facts, all-have-theirs}

below : (a b : ℕ) → a < b → a < b + 1
below a b h = omega arith

-- a transaction that a client has was ended, with the client's works
pub record EndsNow (r : World) (v : Machine) (T : Tid) : Type 0 where
  pub client : ClientNo
  pub current : (r.clients client).transaction ≡ Some T
  pub parts : (W : WorkId) → is_work W (names_of (r.clients client).works) ≡ true → v.part T W.server ≡ Some W
  pub all : (s : ServerNo) (W : WorkId) → v.part T s ≡ Some W → is_work W (names_of (r.clients client).works) ≡ true

-- the machine's steps for one step of the whole system, after which all holds again
pub record Next (r : World) (w : Machine) : Type 0 where
  pub atoms : List Atom
  pub may : MayRun atoms w
  pub mirrors : Mirrors r (run atoms w)
  pub facts : Facts r (run atoms w)
  -- what has ended was so, or ends now
  pub ends : (T : Tid) → (run atoms w).ended T ≡ true → (w.ended T ≡ true) ⊎ EndsNow r (run atoms w) T

-- a client's requests don't fall, so those of each opening stay below what is next
still-drawn : (clients : ClientNo → ClientTable) (c : ClientNo) (u : ClientTable) → ((n : ℕ) → n < (clients c).next → n < u.next) → (a : Opening) → a.request.0 < (clients a.client).next → a.request.0 < (at_client clients c u a.client).next
still-drawn clients c u more a h = one-client (λ (d : ClientNo) (t : ClientTable). a.client ≡ d → a.request.0 < t.next) clients c u (λ e. more a.request.0 (at e)) (λ d ne e. at e) a.client refl
  where
    at : {d : ClientNo} → a.client ≡ d → a.request.0 < (clients d).next
    at e = subst (λ (z : ClientNo). a.request.0 < (clients z).next) e h

-- one client changes, and sends nothing that opens
client-keeps : (r r' : World) (w v : Machine) → Facts r w → (c : ClientNo) (u : ClientTable) → r'.memory ≡ r.memory → r'.clients ≡ at_client r.clients c u → openings r'.sent ≡ openings r.sent
    → IsRunning (openings r.sent) v.ended c u → ((d : ClientNo) → c ≢ d → IsRunning (openings r.sent) v.ended d (r.clients d))
    → ((a : Opening) → Has a (openings r.sent) → v.ended a.tid ≡ true → a.request.0 < (at_client r.clients c u a.client).next) → ((T : Tid) → v.ended T ≡ true → v.begun T ≡ true) → Facts r' v
client-keeps r r' w v facts c u memory clients sent own others drawn begun = record {
  unique = subst (λ l. (a b : Opening) → Has a l → Has b l → a.tid ≡ b.tid → a ≡ b) (sym sent) facts.unique;
  tables = λ s m e. subst (λ l. HaveOpenings l m.coordinator.transactions) (sym sent) (facts.tables s m (ap (λ f. f s) (sym memory) ∙ e));
  drawn = λ a h e. subst (λ f. a.request.0 < (f a.client).next) (sym clients) (drawn a (subst (λ l. Has a l) sent h) e);
  clients = λ d. subst (λ l. IsRunning l v.ended d (r'.clients d)) (sym sent) (subst (λ f. IsRunning (openings r.sent) v.ended d (f d)) (sym clients) (one-client (IsRunning (openings r.sent) v.ended) r.clients c u own others d));
  begun = begun;
}

quiet-more : (sent : List Sent) (x : Sent) → opening_in x ≡ [] → openings (sent ++ x ∷ []) ≡ openings sent
quiet-more sent x e = openings-more sent (x ∷ []) ∙ ap (λ l. openings sent ++ (l ++ [])) e ∙ append-nil (openings sent)

module _ (r : World) (w v : Machine) (mirrors : Mirrors r w) (facts : Facts r w) (ended : v.ended ≡ w.ended) (grow : (T : Tid) → w.begun T ≡ true → v.begun T ≡ true) (inv : Invariant w) where
  own-drawn : (c : ClientNo) (T : Tid) (q : RequestNo) → Has (opening c q T) (openings r.sent) → w.ended T ≡ true → q.0 < (r.clients c).next
  own-drawn c T q h e = facts.drawn (opening c q T) h e

  -- its requests don't fall
  client-changes : (c : ClientNo) (u : ClientTable) (r' : World) → r'.memory ≡ r.memory → r'.clients ≡ at_client r.clients c u → openings r'.sent ≡ openings r.sent → IsRunning (openings r.sent) w.ended c u → ((n : ℕ) → n < (r.clients c).next → n < u.next) → Facts r' v
  client-changes c u r' memory clients sent own more = client-keeps r r' w v facts c u memory clients sent (subst (λ f. IsRunning (openings r.sent) f c u) (sym ended) own)
      (λ d ne. subst (λ f. IsRunning (openings r.sent) f d (r.clients d)) (sym ended) (facts.clients d)) (λ a h e. still-drawn r.clients c u more a (facts.drawn a h (subst (λ f. f a.tid ≡ true) ended e)))
      (λ T e. grow T (facts.begun T (subst (λ f. f T ≡ true) ended e)))

  pub again-facts : (c : ClientNo) → Facts (again c r) v
  again-facts c = still-facts r w v mirrors facts inv ended grow _ refl (by (r.clients c).outstanding refl) facts.tables
    where
      by : (o : Option Outstanding) → (r.clients c).outstanding ≡ o → openings (r.sent ++ sent_now (sent_again o)) ≡ openings r.sent
      by None e = ap openings (append-nil r.sent)
      by (Some o) e = quiet-more r.sent (o.to, o.message) ((facts.clients c).waits o e).quiet

  so-takes : (c : ClientNo) (k : ℕ) (message : Message) (row : ClientTable × Taken) → slice_get r.sent k ≡ Some (Client c, message) → take_row (r.clients c) message ≡ row → TakeFacts (openings r.sent) w.ended c (r.clients c) (facts.clients c) (own-drawn c) row
  so-takes c k message row is e = subst (TakeFacts (openings r.sent) w.ended c (r.clients c) (facts.clients c) (own-drawn c)) e (take-facts (openings r.sent) w.ended c (r.clients c) (facts.clients c) (own-drawn c) message
      (holds-of (λ (x : Sent). (a : Opening) → Has a (opening_in x) → Has a (openings r.sent)) r.sent k (Client c, message) (all-have-theirs r.sent) is))

  pub row-facts : (c : ClientNo) (step : Step) (u : ClientTable) (sent : List Sent) (lines : List Text) → ClientRow r c step u sent lines → Facts (record r { clients = at_client r.clients c u; sent = sent; lines = lines }) v
  row-facts c _ _ _ _ (by_command command u to message e) =
      let k = subst (CommandFacts (openings r.sent) w.ended c (r.clients c) (facts.clients c) (own-drawn c)) e (command-facts (openings r.sent) w.ended c (r.clients c) (facts.clients c) (own-drawn c) r.event command) in
      client-changes c u _ refl refl (quiet-more r.sent (to, message) k.1) k.0 (λ n l. subst (λ z. n < z) (sym k.2) (below n (r.clients c).next l))
  row-facts c _ _ _ _ (by_ignoring k room stop message u is e) = let h = so-takes c k message _ is e in client-changes c u _ refl refl refl h.0 (λ n l. subst (λ z. n < z) (sym h.1) l)
  row-facts c _ _ _ _ (by_answering k room stop message u to answer is e) = let h = so-takes c k message _ is e in client-changes c u _ refl refl (quiet-more r.sent (to, answer) h.2) h.0 (λ n l. subst (λ z. n < z) (sym h.1) l)
  row-facts c _ _ _ _ (by_telling k room stop message u line None is e) = let h = so-takes c k message _ is e in client-changes c u _ refl refl (ap openings (append-nil r.sent)) h.0 (λ n l. subst (λ z. n < z) (sym h.1) l)
  row-facts c _ _ _ _ (by_telling k room stop message u line (Some sent) is e) = let h = so-takes c k message _ is e in client-changes c u _ refl refl (quiet-more r.sent sent h.2) h.0 (λ n l. subst (λ z. n < z) (sym h.1) l)

  pub dismiss-facts : Facts (after Dismiss r) v
  dismiss-facts = record {
    unique = facts.unique;
    tables = facts.tables;
    drawn = λ a h e. facts.drawn a h (subst (λ f. f a.tid ≡ true) ended e);
    clients = λ c. record { name = (facts.clients c).name; current = λ T e. absurd (none-tid T e); fresh = λ T e k. absurd (none-tid T e); waits = λ o e. absurd (none-out o e) };
    begun = λ T e. grow T (facts.begun T (subst (λ f. f T ≡ true) ended e));
  }
    where
      none-tid : (T : Tid) → None ≡ Some T → ⊥
      none-tid T e = cc

      none-out : (o : Outstanding) → None ≡ Some o → ⊥
      none-out o e = cc

-- ---- an End

-- its work at a server
abbrev pub work_in : Option OpenWork → Option WorkId
work_in None = None
work_in (Some x) = Some x.work

abbrev pub parts_of : List OpenWork → ServerNo → Option WorkId
parts_of works s = work_in (work_at s works)

none-work : (W : WorkId) → None ≡ Some W → ⊥
none-work W e = cc

some-work : (V W : WorkId) → Some V ≡ Some W → V ≡ W
some-work V W e = cc

abbrev IsServer : ServerNo → ServerNo → Type 0
IsServer s q = ((server_eq s q ≡ true) × (s ≡ q)) ⊎ ((server_eq s q ≡ false) × (s ≢ q))

abbrev IsWork : WorkId → WorkId → Type 0
IsWork V W = ((work_eq V W ≡ true) × (V ≡ W)) ⊎ ((work_eq V W ≡ false) × (V ≢ W))

module _ (w : Machine) (T : Tid) where
  part-is : (works : List OpenWork) → AreOpen w T works → (s : ServerNo) (W : WorkId) → parts_of works s ≡ Some W → IsWorkOf w T W × (W.server ≡ s)
  part-is works are s W h = by (work_at s works) refl h
    where
      by : (o : Option OpenWork) → work_at s works ≡ o → work_in o ≡ Some W → IsWorkOf w T W × (W.server ≡ s)
      by None e k = absurd (none-work W k)
      by (Some x) e k = let f = found-open w T s works x are e in (subst (λ (V : WorkId). IsWorkOf w T V) (some-work x.work W k) f.0, ap (λ (V : WorkId). V.server) (sym (some-work x.work W k)) ∙ f.1)

  part-in : (works : List OpenWork) (s : ServerNo) (W : WorkId) → parts_of works s ≡ Some W → is_work W (names_of works) ≡ true
  part-in [] s W h = absurd (none-work W h)
  part-in (x ∷ xs) s W h = by (server_eq x.work.server s) h (part-in xs s W)
    where
      here : IsWork x.work W → x.work ≡ W → (work_eq x.work W || is_work W (names_of xs)) ≡ true
      here (inl p) e = ap (λ (b : Bool). b || is_work W (names_of xs)) p.0
      here (inr p) e = absurd (p.1 e)

      more : (a b : Bool) → b ≡ true → (a || b) ≡ true
      more a b k = grind arith

      by : (b : Bool) → work_in (if b then Some x else work_at s xs) ≡ Some W → (parts_of xs s ≡ Some W → is_work W (names_of xs) ≡ true) → (work_eq x.work W || is_work W (names_of xs)) ≡ true
      by true k on = here (work_tells x.work W) (some-work x.work W k)
      by false k on = more (work_eq x.work W) (is_work W (names_of xs)) (on k)

  in-part : (works : List OpenWork) → AreOpen w T works → (W : WorkId) → is_work W (names_of works) ≡ true → parts_of works W.server ≡ Some W
  in-part [] are W h = absurd (no h)
    where
      no : false ≡ true → ⊥
      no q = grind arith
  in-part (x ∷ xs) are W h = by (work_tells x.work W) h (in-part xs are.2 W)
    where
      self : (s : ServerNo) → IsServer x.work.server s → x.work.server ≡ s → work_in (if server_eq x.work.server s then Some x else work_at s xs) ≡ Some x.work
      self s (inl p) e = ap (λ (b : Bool). work_in (if b then Some x else work_at s xs)) p.0
      self s (inr p) e = absurd (p.1 e)

      other : IsServer x.work.server W.server → parts_of xs W.server ≡ Some W → work_in (if server_eq x.work.server W.server then Some x else work_at W.server xs) ≡ Some W
      other (inl p) k = absurd (none-work W (sym (ap work_in (subst (λ (s : ServerNo). work_at s xs ≡ None) p.1 are.1)) ∙ k))
      other (inr p) k = ap (λ (b : Bool). work_in (if b then Some x else work_at W.server xs)) p.0 ∙ k

      by : IsWork x.work W → (work_eq x.work W || is_work W (names_of xs)) ≡ true → (is_work W (names_of xs) ≡ true → parts_of xs W.server ≡ Some W) → work_in (if server_eq x.work.server W.server then Some x else work_at W.server xs) ≡ Some W
      by (inl p) k on = self W.server (server_tells x.work.server W.server) (ap (λ (V : WorkId). V.server) p.1) ∙ ap Some p.1
      by (inr p) k on = other (server_tells x.work.server W.server) (on (subst (λ (b : Bool). (b || is_work W (names_of xs)) ≡ true) p.0 k))

module _ (r : World) (w : Machine) (mirrors : Mirrors r w) (facts : Facts r w) (inv : Invariant w) (grow : (atoms : List Atom) → MayRun atoms w → (message : Message) → Says w message → Says (run atoms w) message) (c : ClientNo) where
  abbrev t : ClientTable
  t = r.clients c

  -- a refusal
  refused : (refusal : Refusal) → Next (commanded c (Refuses refusal) r) w
  refused refusal = let m = line-moves r w mirrors grow (says.Refused c r.event refusal) refl in record {
    atoms = m.atoms;
    may = m.may;
    mirrors = m.mirrors;
    facts = still-facts r w (run m.atoms w) mirrors facts inv m.ended (λ T b. grow m.atoms m.may (messages.Open c (request_of 0) T) b) _ refl refl facts.tables;
    ends = λ T e. inl (subst (λ f. f T ≡ true) m.ended e);
  }

  module _ (T : Tid) (idle : t.outstanding ≡ None) (its : t.transaction ≡ Some T) where
    current : (w.begun T ≡ true) × AreOpen w T t.works
    current = subst (λ o. IsCurrent w o t.works) its (mirrors.clients c).current

    abbrev parts : ServerNo → Option WorkId
    parts = parts_of t.works

    abbrev v : Machine
    v = end_it T parts w

    may-end : MayEnd w T parts
    may-end = record {
      fresh = (facts.clients c).fresh T its (ap is_closing idle);
      place = λ s W e. (part-is w T t.works current.1 s W e).1;
      opened = λ s W e. (part-is w T t.works current.1 s W e).0.0;
      owner = λ s W e. (part-is w T t.works current.1 s W e).0.1;
    }

    abbrev atoms : List Atom
    atoms = Ends T parts ∷ []

    may : MayRun atoms w
    may = (may-end, tt)

    g : (message : Message) → Says w message → Says v message
    g = grow atoms may

    its-part : v.part T ≡ parts
    its-part = at_tid_here w.part T parts

    end-says : Says v (messages.End t.client (request_of t.next) T (names_of t.works))
    end-says = (
      current.0,
      at_tid_here w.ended T true,
      record { each = λ W h. ap (λ f. f W.server) its-part ∙ in-part w T t.works current.1 W h; all = λ s W e. part-in w T t.works s W (sym (ap (λ f. f s) its-part) ∙ e) },
    )

    now : IsClient v t
    now = client-still w v g t (mirrors.clients c)

    told : Tells v (sends t r.event End (Server T.server) (messages.End t.client (request_of t.next) T (names_of t.works)))
    told = sends-it v t now r.event t.works End (Server T.server) (messages.End t.client (request_of t.next) T (names_of t.works)) now.current end-says refl (λ s e. absurd (no s e))
      where
        no : (s : ServerNo) → End ≡ Open s → ⊥
        no s e = cc

    abbrev u : ClientTable
    u = record t { next = t.next + 1; outstanding = Some (record { event = r.event; request = request_of t.next; command = End; to = Server T.server; message = messages.End t.client (request_of t.next) T (names_of t.works) }) }

    abbrev message : Message
    message = messages.End t.client (request_of t.next) T (names_of t.works)

    ended-mirrors : Mirrors (commanded c (Sends u (Server T.server) message) r) v
    ended-mirrors = mirrors-still r w mirrors grow v (record { up = refl; found = refl; active = refl; next = refl; ticket = refl; knowledge = refl; history = refl }) g (at_client r.clients c u) (at-one r w mirrors grow v g c u told.0) (r.sent ++ (Server T.server, message) ∷ [])
        (All-append (IsTrue v) r.sent ((Server T.server, message) ∷ []) (All-grows w v g r.sent mirrors.says) (All-cons (IsTrue v) (Server T.server, message) [] end-says (All-nil (IsTrue v))))
        (All-append IsAddressed r.sent ((Server T.server, message) ∷ []) mirrors.addressed (All-cons IsAddressed (Server T.server, message) [] refl (All-nil IsAddressed))) r.lines refl

    -- ---- what holds once it has ended

    began : Began (openings r.sent) c t.next T
    began = (facts.clients c).current T its

    before : CommandFacts (openings r.sent) w.ended c t (facts.clients c) (λ U q h e. facts.drawn (opening c q U) h e) (sends t r.event End (Server T.server) message)
    before = sends-one (openings r.sent) w.ended c t (facts.clients c) (λ U q h e. facts.drawn (opening c q U) h e) t.works r.event End (Server T.server) message refl (λ k. idle)

    -- another client has begun another transaction
    other-begun : (d : ClientNo) (q : RequestNo) (U : Tid) → c ≢ d → Has (opening d q U) (openings r.sent) → T ≢ U
    other-begun d q U ne h e = ne (ap (λ (a : Opening). a.client) (facts.unique (opening c began.request T) (opening d q U) began.has h e))

    still-open : (U : Tid) → T ≢ U → w.ended U ≡ false → v.ended U ≡ false
    still-open U ne h = at_tid_other w.ended T true U ne ∙ h

    own : IsRunning (openings r.sent) v.ended c u
    own = record {
      name = before.0.name;
      current = before.0.current;
      fresh = λ U e k. absurd (no k);
      waits = λ o e. let x = before.0.waits o e in record { drawn = x.drawn; quiet = x.quiet; begins = λ b. absurd (off o e b) };
    }
      where
        no : true ≡ false → ⊥
        no q = grind arith

        some : (o p : Outstanding) → Some o ≡ Some p → o ≡ p
        some o p e = cc

        off : (o : Outstanding) → u.outstanding ≡ Some o → is_begin o.command ≡ true → ⊥
        off o e b = no (sym (subst (λ (z : Outstanding). is_begin z.command ≡ true) (sym (some _ o e)) b))

    others : (d : ClientNo) → c ≢ d → IsRunning (openings r.sent) v.ended d (r.clients d)
    others d ne = let h = facts.clients d in record {
      name = h.name;
      current = h.current;
      fresh = λ U e k. let b = h.current U e in still-open U (other-begun d b.request U ne b.has) (h.fresh U e k);
      waits = λ o e. let x = h.waits o e in record { drawn = x.drawn; quiet = x.quiet; begins = λ b U k. still-open U (other-begun d o.request U ne k) (x.begins b U k) };
    }

    drawn : (a : Opening) → Has a (openings r.sent) → v.ended a.tid ≡ true → a.request.0 < (at_client r.clients c u a.client).next
    drawn a h e = by (tid_tells T a.tid)
      where
        same : a.request.0 < (r.clients a.client).next → a.request.0 < (at_client r.clients c u a.client).next
        same = still-drawn r.clients c u (λ n. below n t.next) a

        by : ((tid_eq T a.tid ≡ true) × (T ≡ a.tid)) ⊎ ((tid_eq T a.tid ≡ false) × (T ≢ a.tid)) → a.request.0 < (at_client r.clients c u a.client).next
        by (inl p) = same (subst (λ (z : Opening). z.request.0 < (r.clients z.client).next) (facts.unique (opening c began.request T) a began.has h p.1) began.drawn)
        by (inr p) = same (facts.drawn a h (sym (at_tid_other w.ended T true a.tid p.1) ∙ e))

    begun-still : (U : Tid) → v.ended U ≡ true → v.begun U ≡ true
    begun-still U e = by (at_tid_cases w.ended T true U true e)
      where
        by : ((T ≡ U) × (true ≡ true)) ⊎ ((T ≢ U) × (w.ended U ≡ true)) → w.begun U ≡ true
        by (inl p) = subst (λ (z : Tid). w.begun z ≡ true) p.0 current.0
        by (inr p) = facts.begun U p.1

    pub end-may : MayRun (Ends T (parts_of t.works) ∷ []) w
    end-may = may

    pub end-mirrors : Mirrors (commanded c (Sends u (Server T.server) message) r) (end_it T (parts_of t.works) w)
    end-mirrors = ended-mirrors

    pub end-facts : Facts (commanded c (Sends u (Server T.server) message) r) (end_it T (parts_of t.works) w)
    end-facts = client-keeps r _ w v facts c u refl refl (quiet-more r.sent (Server T.server, message) refl) own others drawn begun-still

    own-table : at_client r.clients c u c ≡ u
    own-table = one-client (λ (d : ClientNo) (z : ClientTable). c ≡ d → z ≡ u) r.clients c u (λ e. refl) (λ d ne e. absurd (ne e)) c refl

    its-end : EndsNow (commanded c (Sends u (Server T.server) message) r) v T
    its-end = record {
      client = c;
      current = ap (λ (z : ClientTable). z.transaction) own-table ∙ its;
      parts = λ W h. end-says.2.each W (subst (λ (z : ClientTable). is_work W (names_of z.works) ≡ true) own-table h);
      all = λ q W h. subst (λ (z : ClientTable). is_work W (names_of z.works) ≡ true) (sym own-table) (end-says.2.all q W h);
    }

    ends-now : (U : Tid) → ((T ≡ U) × (true ≡ true)) ⊎ ((T ≢ U) × (w.ended U ≡ true)) → (w.ended U ≡ true) ⊎ EndsNow (commanded c (Sends u (Server T.server) message) r) v U
    ends-now U (inl p) = inr (subst (λ (z : Tid). EndsNow (commanded c (Sends u (Server T.server) message) r) v z) p.0 its-end)
    ends-now U (inr p) = inl p.1

    ended-next : Next (commanded c (Sends u (Server T.server) message) r) w
    ended-next = record {
      atoms = atoms;
      may = may;
      mirrors = ended-mirrors;
      facts = end-facts;
      ends = λ U e. ends-now U (at_tid_cases w.ended T true U true e);
    }

  pub end-next : Next (after (Tell c End) r) w
  end-next = by t.outstanding t.transaction refl refl
    where
      by : (o : Option Outstanding) (x : Option Tid) → t.outstanding ≡ o → t.transaction ≡ x → Next (commanded c (if_idle o (if_transaction x (λ T. sends t r.event End (Server T.server) (messages.End t.client (request_of t.next) T (names_of t.works))))) r) w
      by (Some o) x e f = refused refusals.ClientBusy
      by None None e f = refused refusals.NoTransaction
      by None (Some T) e f = ended-next T e f
