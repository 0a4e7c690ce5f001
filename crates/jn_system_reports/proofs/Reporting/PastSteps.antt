-- Each step keeps what holds of transactions that are past: a server forgets no other, and a client asks nothing more of it.
use Rattle.jn_system_reports.proofs.Common.{◌≡◌, ◌≢◌, ◌⊎◌, inl, inr, ◌<◌, ℕ, zero, suc, ◌+◌, Bool, true, false, List, [], ◌∷◌, ◌++◌, take, Option, Some, None, is_some, refl, sym, ◌∙◌, ap, subst, if◌then◌else◌, ServerNo, ClientNo, Tid, Cause, tid_eq, tid_tells, Outstanding, StableState, Pick, Change, AddReady, MarkGoing, CarryOut, RemoveWork, AddFlag, DropFlag, made_by, made_all, stable, Sent, ClientTable, Machine, World, Memory, Opening, opening_in, openings, openings-more, Has, has-first, has-either, Began, RequestNo}
use Rattle.jn_msgs.specs.declared.message.Message.TheVariants as messages
use Rattle.jn_system_order.proofs.Ordering.Facts.{opening}
use Rattle.jn_system_reports.proofs.Reporting.Lists.{Each, each-append, each-more}
use Rattle.jn_system_reports.proofs.Reporting.Past.{EndedBy, Past, SaysPast, EntryFact, ChangeFact, FlagPast, Goes, says-goes, entry-goes, flag-goes, opened-goes}
use Rattle.jn_system_reports.proofs.Reporting.PastRows.{IsThere}

pub record PastFacts (sent : List Sent) (clients : ClientNo → ClientTable) (memory : ServerNo → Option Memory) (found : ServerNo → Pick → StableState) (w : Machine) (Caused : ClientNo → Tid → Cause → Type 0) : Type 0 where
  -- what is outstanding has the last request
  pub last : (c : ClientNo) (o : Outstanding) → (clients c).outstanding ≡ Some o → (clients c).next ≡ o.request.0 + 1
  pub says : Each (SaysPast (openings sent) clients w Caused) sent
  pub entries : (s : ServerNo) (m : Memory) → memory s ≡ Some m → Each (EntryFact (openings sent) clients w Caused m.coordinator.seen) m.coordinator.transactions
  pub flags : (s : ServerNo) (c : Pick) (T : Tid) → FlagPast (openings sent) clients w Caused T ((found s c).flags T)
  -- a server that is up has each transaction whose flag is found
  pub held : (s : ServerNo) (m : Memory) → memory s ≡ Some m → (T : Tid) → is_some ((stable (found s)).flags T) ≡ true → IsThere T m.coordinator.transactions
  -- the flag of a named one is found, until it is past
  pub named : (T : Tid) (c : Pick) → w.named T ≡ true → (is_some ((found T.server c).flags T) ≡ true) ⊎ ((d : ClientNo) × Past (openings sent) clients w Caused d T)

-- ---- openings

opening-drawn : (os : List Opening) (clients : ClientNo → ClientTable) (w : Machine) (Caused : ClientNo → Tid → Cause → Type 0) (x : Sent) → SaysPast os clients w Caused x → (a : Opening) → Has a (opening_in x) → a.request.0 < (clients a.client).next
opening-drawn os clients w Caused (to, messages.Begun c q (Some T)) h a (inl e) = subst (λ (z : Opening). z.request.0 < (clients z.client).next) e h
opening-drawn os clients w Caused (to, messages.Begun c q (Some T)) h a (inr k) = absurd k
opening-drawn os clients w Caused (to, messages.Begun c q None) h a k = absurd k
opening-drawn os clients w Caused (to, _) h a k = absurd k

pub all-drawn : (os : List Opening) (clients : ClientNo → ClientTable) (w : Machine) (Caused : ClientNo → Tid → Cause → Type 0) (sent : List Sent) → Each (SaysPast os clients w Caused) sent → (a : Opening) → Has a (openings sent) → a.request.0 < (clients a.client).next
all-drawn os clients w Caused [] h a k = absurd k
all-drawn os clients w Caused (x ∷ sent) h a k = by (has-either a (opening_in x) (openings sent) k) (all-drawn os clients w Caused sent h.1 a)
  where
    by : Has a (opening_in x) ⊎ Has a (openings sent) → (Has a (openings sent) → a.request.0 < (clients a.client).next) → a.request.0 < (clients a.client).next
    by (inl i) on = opening-drawn os clients w Caused x h.0 a i
    by (inr i) on = on i

-- ---- changes

pub each-take : {A : Type 0} (P : A → Type 0) (n : ℕ) (xs : List A) → Each P xs → Each P (take n xs)
each-take P zero [] h = tt
each-take P zero (x ∷ xs) h = tt
each-take P (suc n) [] h = tt
each-take P (suc n) (x ∷ xs) h = (h.0, each-take P n xs h.1)

module _ (os : List Opening) (clients : ClientNo → ClientTable) (w : Machine) (Caused : ClientNo → Tid → Cause → Type 0) where
  one-flags : (change : Change) (x : StableState) → ChangeFact os clients w Caused change → ((T : Tid) → FlagPast os clients w Caused T (x.flags T)) → (T : Tid) → FlagPast os clients w Caused T ((made_by change x).flags T)
  one-flags (AddReady head list reads) x h f T = f T
  one-flags (MarkGoing W) x h f T = f T
  one-flags (CarryOut W i) x h f T = f T
  one-flags (RemoveWork W) x h f T = f T
  one-flags (AddFlag flag) x h f T = by (tid_tells flag.tid T)
    where
      by : ((tid_eq flag.tid T ≡ true) × (flag.tid ≡ T)) ⊎ ((tid_eq flag.tid T ≡ false) × (flag.tid ≢ T)) → FlagPast os clients w Caused T (if tid_eq flag.tid T then Some (record { client = flag.client; request = flag.request; works = flag.works }) else x.flags T)
      by (inl p) = subst (λ (b : Bool). FlagPast os clients w Caused T (if b then Some (record { client = flag.client; request = flag.request; works = flag.works }) else x.flags T)) (sym p.0) (subst (λ (U : Tid). EndedBy os flag.client (clients flag.client) U flag.request) p.1 h)
      by (inr p) = subst (λ (b : Bool). FlagPast os clients w Caused T (if b then Some (record { client = flag.client; request = flag.request; works = flag.works }) else x.flags T)) (sym p.0) (f T)
  one-flags (DropFlag U) x h f T = by (tid_eq U T)
    where
      by : (b : Bool) → FlagPast os clients w Caused T (if b then None else x.flags T)
      by true = tt
      by false = f T

  pub all-flags : (changes : List Change) (x : StableState) → Each (ChangeFact os clients w Caused) changes → ((T : Tid) → FlagPast os clients w Caused T (x.flags T)) → (T : Tid) → FlagPast os clients w Caused T ((made_all changes x).flags T)
  all-flags [] x h f T = f T
  all-flags (change ∷ changes) x h f T = all-flags changes (made_by change x) h.1 (one-flags change x h.0 f) T

  -- a flag stays, or its transaction is past
  abbrev pub StaysOrPast : StableState → Tid → Type 0
  StaysOrPast x T = (is_some (x.flags T) ≡ true) ⊎ ((d : ClientNo) × Past os clients w Caused d T)

  one-stays : (change : Change) (x : StableState) → ChangeFact os clients w Caused change → (T : Tid) → is_some (x.flags T) ≡ true → StaysOrPast (made_by change x) T
  one-stays (AddReady head list reads) x h T e = inl e
  one-stays (MarkGoing W) x h T e = inl e
  one-stays (CarryOut W i) x h T e = inl e
  one-stays (RemoveWork W) x h T e = inl e
  one-stays (AddFlag flag) x h T e = inl (by (tid_eq flag.tid T))
    where
      by : (b : Bool) → is_some (if b then Some (record { client = flag.client; request = flag.request; works = flag.works }) else x.flags T) ≡ true
      by true = refl
      by false = e
  one-stays (DropFlag U) x h T e = by (tid_tells U T)
    where
      by : ((tid_eq U T ≡ true) × (U ≡ T)) ⊎ ((tid_eq U T ≡ false) × (U ≢ T)) → (is_some (if tid_eq U T then None else x.flags T) ≡ true) ⊎ ((d : ClientNo) × Past os clients w Caused d T)
      by (inl p) = inr (h.0, subst (λ (V : Tid). Past os clients w Caused h.0 V) p.1 h.1)
      by (inr p) = inl (ap (λ (b : Bool). is_some (if b then None else x.flags T)) p.0 ∙ e)

  pub all-stay : (changes : List Change) (x : StableState) → Each (ChangeFact os clients w Caused) changes → (T : Tid) → is_some (x.flags T) ≡ true → StaysOrPast (made_all changes x) T
  all-stay [] x h T e = inl e
  all-stay (change ∷ changes) x h T e = by (one-stays change x h.0 T e) (all-stay changes (made_by change x) h.1 T)
    where
      by : StaysOrPast (made_by change x) T → (is_some ((made_by change x).flags T) ≡ true → StaysOrPast (made_all changes (made_by change x)) T) → StaysOrPast (made_all changes (made_by change x)) T
      by (inl k) on = on k
      by (inr p) on = inr p

-- ---- a server's step

module _ (r : World) (w v : Machine) (Caused Caused' : ClientNo → Tid → Cause → Type 0) (past : PastFacts r.sent r.clients r.memory r.found w Caused)
    (caused : (c : ClientNo) (T : Tid) (cause : Cause) → Caused c T cause → Caused' c T cause) (aborted : (T : Tid) → w.aborted T ≡ true → v.aborted T ≡ true) (named : (T : Tid) → w.named T ≡ true → v.named T ≡ true)
    (runs : (c : ClientNo) (T : Tid) → (r.clients c).transaction ≡ Some T → Began (openings r.sent) c (r.clients c).next T) where
  os : List Opening
  os = openings r.sent

  -- what a step of a server gives
  pub record ServerPast (memory : ServerNo → Option Memory) (found : ServerNo → Pick → StableState) (more : List Sent) : Type 0 where
    pub says : Each (SaysPast (openings r.sent) r.clients w Caused) more
    pub entries : (s : ServerNo) (m : Memory) → memory s ≡ Some m → Each (EntryFact (openings r.sent ++ openings more) r.clients w Caused m.coordinator.seen) m.coordinator.transactions
    pub flags : (s : ServerNo) (c : Pick) (T : Tid) → FlagPast (openings r.sent) r.clients w Caused T ((found s c).flags T)
    pub held : (s : ServerNo) (m : Memory) → memory s ≡ Some m → (T : Tid) → is_some ((stable (found s)).flags T) ≡ true → IsThere T m.coordinator.transactions
    pub stays : (T : Tid) (c : Pick) → v.named T ≡ true → StaysOrPast (openings r.sent) r.clients w Caused (found T.server c) T

  module _ (more : List Sent) (unique : (a b : Opening) → Has a (openings (r.sent ++ more)) → Has b (openings (r.sent ++ more)) → a.tid ≡ b.tid → a ≡ b) where
    forth : (a : Opening) → Has a (openings r.sent) → Has a (openings (r.sent ++ more))
    forth a h = subst (λ l. Has a l) (sym (openings-more r.sent more)) (has-first a (openings r.sent) (openings more) h)

    back : (c : ClientNo) (T : Tid) (q : RequestNo) → (r.clients c).transaction ≡ Some T → Has (opening c q T) (openings (r.sent ++ more)) → Has (opening c q T) (openings r.sent)
    back c T q e h = let b = runs c T e in subst (λ (a : Opening). Has a (openings r.sent)) (unique (opening c b.request T) (opening c q T) (forth _ b.has) h refl) b.has

    goes : Goes (openings r.sent) (openings (r.sent ++ more)) r.clients r.clients w v Caused Caused'
    goes = opened-goes (openings r.sent) (openings (r.sent ++ more)) r.clients w v Caused Caused' forth back caused aborted named

    goes-own : Goes (openings (r.sent ++ more)) (openings (r.sent ++ more)) r.clients r.clients w v Caused Caused'
    goes-own = opened-goes (openings (r.sent ++ more)) (openings (r.sent ++ more)) r.clients w v Caused Caused' (λ a h. h) (λ c T q e h. h) caused aborted named

    pub server-past : (memory : ServerNo → Option Memory) (found : ServerNo → Pick → StableState) → ServerPast memory found more → PastFacts (r.sent ++ more) r.clients memory found v Caused'
    server-past memory found h = record {
      last = past.last;
      says = each-append (SaysPast (openings (r.sent ++ more)) r.clients v Caused') r.sent more
          (each-more (SaysPast (openings r.sent) r.clients w Caused) (SaysPast (openings (r.sent ++ more)) r.clients v Caused') r.sent (says-goes _ _ _ _ _ _ _ _ goes) past.says)
          (each-more (SaysPast (openings r.sent) r.clients w Caused) (SaysPast (openings (r.sent ++ more)) r.clients v Caused') more (says-goes _ _ _ _ _ _ _ _ goes) h.says);
      entries = λ s m e. each-more (EntryFact (openings (r.sent ++ more)) r.clients w Caused m.coordinator.seen) (EntryFact (openings (r.sent ++ more)) r.clients v Caused' m.coordinator.seen) m.coordinator.transactions
          (entry-goes _ _ _ _ _ _ _ _ goes-own m.coordinator.seen) (subst (λ l. Each (EntryFact l r.clients w Caused m.coordinator.seen) m.coordinator.transactions) (sym (openings-more r.sent more)) (h.entries s m e));
      flags = λ s c T. flag-goes _ _ _ _ _ _ _ _ goes T ((found s c).flags T) (h.flags s c T);
      held = h.held;
      named = λ T c e. by T c (h.stays T c e);
    }
      where
        by : (T : Tid) (c : Pick) → StaysOrPast (openings r.sent) r.clients w Caused (found T.server c) T → (is_some ((found T.server c).flags T) ≡ true) ⊎ ((d : ClientNo) × Past (openings (r.sent ++ more)) r.clients v Caused' d T)
        by T c (inl k) = inl k
        by T c (inr p) = inr (p.0, goes.past p.0 T p.1)
