-- The requests that a coordinator keeps, and which of a server's rows speak of requests.
use Rattle.jn_system_settling.proofs.Common.{◌≡◌, ◌≢◌, ◌⊎◌, inl, inr, ℕ, zero, suc, Bool, true, false, List, [], ◌∷◌, ◌++◌, take, Option, Some, None, true≢false, refl, sym, ◌∙◌, ap, subst, arith, ◌&&◌, if◌then◌else◌, ClientNo, Tid, WorkId, Tickets, tid_eq, tid_tells, change, Message, Transaction, Stage, Open, Voting, Committed, Aborted, Ballot, StableState, FlagState, Change, AddReady, MarkGoing, CarryOut, RemoveWork, AddFlag, DropFlag, made_by, made_all, at_tid, RowOutcome, Sent, WorkerTable, WorkStorage, worker_row, worker_step, worker_again, Closes, Empty, Stays, Goes, Waits, Forgets, outcomes-close, close_clients_row, CoordinatorTable, transaction_at, with_stage, besides, drops, commits, prepares, with_work, coordinator_row, committed_to, aborted_to, told_again, coordinator_again, restored_transaction, restored_transactions, RequestNo, Replies, is_open_already, WorkerCase, replies_only, worker-case, WorkerStep, carries_out, worker-step-case, IsListed, Committing, has_no_works, is_last_vote, Saying, says_nothing, says_begun, says_unknown, prepares_again, CoordinatorCase, is_ignored_by, is_left_by, begins_anew, finds_no_room, starts_voting, counts_vote, is_committed_by, is_aborted_by, notes_commit, forgets_commit, forgets_abort, coordinator-case}
use Rattle.jn_msgs.specs.declared.message.Message.TheVariants as messages
use Rattle.jn_rows.specs.Coordinator.{without}

-- ---- messages that speak of no request that begins, opens or ends

abbrev pub is_plain : Message → Bool
is_plain (messages.Begin c q) = false
is_plain (messages.Begun c q a) = false
is_plain (messages.Open c q T) = false
is_plain (messages.End c q T works) = false
is_plain m = true

abbrev pub are_plain : List Sent → Bool
are_plain [] = true
are_plain (x ∷ xs) = is_plain x.1 && are_plain xs

plain-both : (a b : List Sent) → are_plain a ≡ true → are_plain b ≡ true → are_plain (a ++ b) ≡ true
plain-both [] b h k = k
plain-both (x ∷ a) b h k = let again = plain-both a b in grind (arith, h, k)

plain-drops : (T : Tid) (Ws : List WorkId) → are_plain (drops T Ws) ≡ true
plain-drops T [] = refl
plain-drops T (W ∷ Ws) = plain-drops T Ws

plain-commits : (T : Tid) (Ws : List WorkId) → are_plain (commits T Ws) ≡ true
plain-commits T [] = refl
plain-commits T (W ∷ Ws) = plain-commits T Ws

plain-prepares : (T : Tid) (c : ClientNo) (Ws : List WorkId) → are_plain (prepares T c Ws) ≡ true
plain-prepares T c [] = refl
plain-prepares T c (W ∷ Ws) = plain-prepares T c Ws

-- ---- a worker's rows

abbrev Plain : RowOutcome WorkerTable → Type 0
Plain row = are_plain row.messages ≡ true

pub worker-plain : (t : WorkerTable) (s : WorkStorage) (k : Tickets) (m : Message) → Plain (worker_row t s k m)
worker-plain t s k m = by m (worker_row t s k m) (worker-case t s k m)
  where
    reply : (m : Message) (x : Sent) → Replies t s k m x → are_plain (x ∷ []) ≡ true
    reply _ _ (is_open_already c q T w e) = refl
    reply m x r = refl

    by : (m : Message) (row : RowOutcome WorkerTable) → WorkerCase t s k m row → Plain row
    by _ _ (replies_only m x r) = reply m x r
    by m row case = refl

pub step-plain : (t : WorkerTable) (s : WorkStorage) (k : Tickets) (row : RowOutcome WorkerTable) → worker_step t s k ≡ Some row → Plain row
step-plain t s k row h = by row (worker-step-case t s k row h)
  where
    by : (row : RowOutcome WorkerTable) → WorkerStep t s k row → Plain row
    by _ (carries_out w i e f) = refl
    by row step = refl

-- ---- what is sent again

inquires-plain : (x : StableState) (t : WorkerTable) → are_plain (worker_again x t) ≡ true
inquires-plain x [] = refl
inquires-plain x (v ∷ vs) = let again = inquires-plain x vs in grind arith

told-plain : (x : Transaction) (s : Stage) → are_plain (told_again x s) ≡ true
told-plain x Open = refl
told-plain x (Voting b) = refl
told-plain x (Aborted cause) = refl
told-plain x (Committed d) = plain-both (commits x.tid (besides d.works d.done)) _ (plain-commits x.tid (besides d.works d.done)) (by d.thanked)
  where
    by : (b : Bool) → are_plain (if b then [] else committed_to x ∷ []) ≡ true
    by true = refl
    by false = refl

all-told-plain : (xs : List Transaction) → are_plain (coordinator_again xs) ≡ true
all-told-plain [] = refl
all-told-plain (x ∷ xs) = plain-both (told_again x x.stage) (coordinator_again xs) (told-plain x x.stage) (all-told-plain xs)

pub again-plain : (x : StableState) (t : WorkerTable) (xs : List Transaction) → are_plain (worker_again x t ++ coordinator_again xs) ≡ true
again-plain x t xs = plain-both (worker_again x t) (coordinator_again xs) (inquires-plain x t) (all-told-plain xs)

-- ---- the requests that ended what is voted on, and flags

abbrev pub Asker : Type 1
Asker = ClientNo → RequestNo → Type 0

abbrev pub VoteOf : Asker → ClientNo → Stage → Type 0
VoteOf P c (Voting b) = P c b.request
VoteOf P c stage = Unit {0}

abbrev pub Votings : Asker → List Transaction → Type 0
Votings P [] = Unit {0}
Votings P (x ∷ xs) = VoteOf P x.client x.stage × Votings P xs

abbrev pub FlagOf : Asker → Change → Type 0
FlagOf P (AddFlag flag) = P flag.client flag.request
FlagOf P change = Unit {0}

abbrev pub FlagsOf : Asker → List Change → Type 0
FlagsOf P [] = Unit {0}
FlagsOf P (c ∷ cs) = FlagOf P c × FlagsOf P cs

abbrev pub StoredOf : Asker → (Tid → Option FlagState) → Type 0
StoredOf P flags = (T : Tid) (f : FlagState) → flags T ≡ Some f → P f.client f.request

vote-grown : (P Q : Asker) → ((c : ClientNo) (q : RequestNo) → P c q → Q c q) → (c : ClientNo) (s : Stage) → VoteOf P c s → VoteOf Q c s
vote-grown P Q more c (Voting b) h = more c b.request h
vote-grown P Q more c Open h = tt
vote-grown P Q more c (Committed d) h = tt
vote-grown P Q more c (Aborted cause) h = tt

pub votings-grown : (P Q : Asker) → ((c : ClientNo) (q : RequestNo) → P c q → Q c q) → (xs : List Transaction) → Votings P xs → Votings Q xs
votings-grown P Q more [] h = tt
votings-grown P Q more (x ∷ xs) h = (vote-grown P Q more x.client x.stage h.0, votings-grown P Q more xs h.1)

found-vote : (P : Asker) (T : Tid) (xs : List Transaction) (y : Transaction) → Votings P xs → transaction_at T xs ≡ Some y → VoteOf P y.client y.stage
found-vote P T [] y h e = absurd (cc e)
found-vote P T (x ∷ xs) y h e = by (tid_eq x.tid T) e (found-vote P T xs y h.1)
  where
    by : (b : Bool) → (if b then Some x else transaction_at T xs) ≡ Some y → (transaction_at T xs ≡ Some y → VoteOf P y.client y.stage) → VoteOf P y.client y.stage
    by true q again = subst (λ (z : Transaction). VoteOf P z.client z.stage) (some q) h.0
      where
        some : Some x ≡ Some y → x ≡ y
        some z = cc
    by false q again = again q

-- the first of a name comes to a stage that its client may have
staged-votings : (P : Asker) (T : Tid) (s : Stage) (xs : List Transaction) → ((y : Transaction) → transaction_at T xs ≡ Some y → VoteOf P y.client s) → Votings P xs → Votings P (with_stage T s xs)
staged-votings P T s [] mine h = tt
staged-votings P T s (x ∷ xs) mine h = by (tid_eq x.tid T) mine (staged-votings P T s xs)
  where
    by : (b : Bool) → ((y : Transaction) → (if b then Some x else transaction_at T xs) ≡ Some y → VoteOf P y.client s) → (((y : Transaction) → transaction_at T xs ≡ Some y → VoteOf P y.client s) → Votings P xs → Votings P (with_stage T s xs))
        → Votings P (if b then record x { stage = s } ∷ xs else x ∷ with_stage T s xs)
    by true mine again = (mine x refl, h.1)
    by false mine again = (h.0, again mine h.1)

without-votings : (P : Asker) (T : Tid) (xs : List Transaction) → Votings P xs → Votings P (without T xs)
without-votings P T [] h = tt
without-votings P T (x ∷ xs) h = by (tid_eq x.tid T) (without-votings P T xs h.1)
  where
    by : (b : Bool) → Votings P (without T xs) → Votings P (if b then xs else x ∷ without T xs)
    by true again = h.1
    by false again = (h.0, again)

pub both-votings : (P : Asker) (xs ys : List Transaction) → Votings P xs → Votings P ys → Votings P (xs ++ ys)
both-votings P [] ys h k = k
both-votings P (x ∷ xs) ys h k = (h.0, both-votings P xs ys h.1 k)

pub closes-votings : (P : Asker) {Q : Transaction → Type 0} {xs ys : List Transaction} {cs : List Change} → Closes Q xs ys cs → Votings P xs → Votings P ys
closes-votings P Empty h = tt
closes-votings P (Stays x c) h = (h.0, closes-votings P c h.1)
closes-votings P (Goes x p e c) h = closes-votings P c h.1
closes-votings P (Waits x d p e c) h = (tt, closes-votings P c h.1)
closes-votings P (Forgets x d p e g c) h = closes-votings P c h.1

pub closes-flags-of : (P : Asker) {Q : Transaction → Type 0} {xs ys : List Transaction} {cs : List Change} → Closes Q xs ys cs → FlagsOf P cs
closes-flags-of P Empty = tt
closes-flags-of P (Stays x c) = closes-flags-of P c
closes-flags-of P (Goes x p e c) = closes-flags-of P c
closes-flags-of P (Waits x d p e c) = closes-flags-of P c
closes-flags-of P (Forgets x d p e g c) = (tt, closes-flags-of P c)

-- ---- a coordinator's rows

pub record RowVotes (P : Asker) (t : CoordinatorTable) (row : RowOutcome CoordinatorTable) : Type 0 where
  pub table : Votings P row.table.transactions
  pub seen : row.table.seen ≡ t.seen
  pub flags : FlagsOf P row.changes
  pub plain : are_plain row.messages ≡ true

pub close-votes : (P : Asker) (t : CoordinatorTable) (k : Tickets) → Votings P t.transactions → RowVotes P t (close_clients_row t k)
close-votes P t k h = record { table = closes-votings P (outcomes-close t.transactions) h; seen = refl; flags = closes-flags-of P (outcomes-close t.transactions); plain = refl }

-- what an End says of its request
abbrev pub EndOf : Asker → CoordinatorTable → Message → Type 0
EndOf P t (messages.End c request T works) = (y : Transaction) → transaction_at T t.transactions ≡ Some y → P y.client request
EndOf P t m = Unit {0}

abbrev pub is_begin_message : Message → Bool
is_begin_message (messages.Begin c q) = true
is_begin_message m = false

module _ (P : Asker) (t : CoordinatorTable) (free : ℕ) (k : Tickets) (h : Votings P t.transactions) where
  -- what its own name finds has its client
  same-client : (y : Transaction) → IsListed t y → (s : Stage) → VoteOf P y.client s → (z : Transaction) → transaction_at y.tid t.transactions ≡ Some z → VoteOf P z.client s
  same-client y found s v z e = subst (λ (a : Transaction). VoteOf P a.client s) (some (sym found ∙ e)) v
    where
      some : Some y ≡ Some z → y ≡ z
      some q = cc

  its-vote : (y : Transaction) → IsListed t y → (b : Ballot) → y.stage ≡ Voting b → P y.client b.request
  its-vote y found b e = subst (λ (s : Stage). VoteOf P y.client s) e (found-vote P y.tid t.transactions y h found)

  commit-asked : (m : Message) (y : Transaction) (q : RequestNo) (works : List WorkId) → IsListed t y → EndOf P t m → Committing free y m q works → P y.client q
  commit-asked _ y _ _ found asked (has_no_works c q e room) = asked y found
  commit-asked _ y _ _ found asked (is_last_vote W b e is all) = its-vote y found b e

  says-plain : (m : Message) (sent : List Sent) → is_begin_message m ≡ false → Saying t k m sent → are_plain sent ≡ true
  says-plain _ _ other (says_nothing m W y asks found) = refl
  says-plain _ _ other (says_begun c q y same e) = absurd (true≢false other)
  says-plain _ _ other (says_unknown m c T works ends none) = plain-drops T works
  says-plain _ _ other (prepares_again c q works y b found e) = plain-prepares y.tid y.client (besides b.works b.ready)
  says-plain _ _ other _ = refl

  votes-case : (m : Message) (row : RowOutcome CoordinatorTable) → EndOf P t m → is_begin_message m ≡ false → CoordinatorCase t free k m row → RowVotes P t row
  votes-case _ _ asked other (is_ignored_by m) = record { table = h; seen = refl; flags = tt; plain = refl }
  votes-case _ _ asked other (is_left_by m sent says) = record { table = h; seen = refl; flags = tt; plain = says-plain m sent other says }
  votes-case _ _ asked other (begins_anew c q later room) = absurd (true≢false other)
  votes-case _ _ asked other (finds_no_room c q later full) = absurd (true≢false other)
  votes-case _ _ asked other (starts_voting c q W Ws y found e room) = record {
    table = staged-votings P y.tid _ t.transactions (same-client y found (Voting (record { request = q; works = W ∷ Ws; ready = [] })) (asked y found)) h;
    seen = refl;
    flags = tt;
    plain = plain-prepares y.tid y.client (W ∷ Ws);
  }
  votes-case _ _ asked other (counts_vote W y b found e is waits) = record {
    table = staged-votings P y.tid _ t.transactions (same-client y found (Voting (record b { ready = with_work W b.ready })) (its-vote y found b e)) h;
    seen = refl;
    flags = tt;
    plain = refl;
  }
  votes-case _ _ asked other (is_committed_by m y q works found why) = record {
    table = staged-votings P y.tid _ t.transactions (λ z e. tt) h;
    seen = refl;
    flags = (commit-asked m y q works found asked why, tt);
    plain = plain-both (commits y.tid works) (committed_to y ∷ []) (plain-commits y.tid works) refl;
  }
  votes-case _ _ asked other (is_aborted_by m y cause works found why) = record {
    table = staged-votings P y.tid (Aborted cause) t.transactions (λ z e. tt) h;
    seen = refl;
    flags = tt;
    plain = plain-both (drops y.tid works) (aborted_to y cause ∷ []) (plain-drops y.tid works) refl;
  }
  votes-case _ _ asked other (notes_commit m y d found notes waits) = record { table = staged-votings P y.tid (Committed d) t.transactions (λ z e. tt) h; seen = refl; flags = tt; plain = refl }
  votes-case _ _ asked other (forgets_commit m y d found notes through) = record { table = without-votings P y.tid t.transactions h; seen = refl; flags = (tt, tt); plain = refl }
  votes-case _ _ asked other (forgets_abort c y cause found e) = record { table = without-votings P y.tid t.transactions h; seen = refl; flags = tt; plain = refl }

pub coordinator-votes : (P : Asker) (t : CoordinatorTable) (free : ℕ) (k : Tickets) (m : Message) → Votings P t.transactions → EndOf P t m → is_begin_message m ≡ false → RowVotes P t (coordinator_row t free k m)
coordinator-votes P t free k m h asked other = votes-case P t free k h m _ asked other (coordinator-case t free k m)

-- ---- changes and restarts

changed-of : (P : Asker) (c : Change) (x : StableState) → FlagOf P c → StoredOf P x.flags → StoredOf P (made_by c x).flags
changed-of P (AddFlag flag) x h of = λ T f e. by T f (tid_tells flag.tid T) e
  where
    by : (T : Tid) (f : FlagState) → ((tid_eq flag.tid T ≡ true) × (flag.tid ≡ T)) ⊎ ((tid_eq flag.tid T ≡ false) × (flag.tid ≢ T)) → at_tid x.flags flag.tid (Some (record { client = flag.client; request = flag.request; works = flag.works })) T ≡ Some f → P f.client f.request
    by T f (inl t) e = subst (λ (z : FlagState). P z.client z.request) (some (sym (ap (λ (b : Bool). if b then Some (record { client = flag.client; request = flag.request; works = flag.works }) else x.flags T) t.0) ∙ e)) h
      where
        some : {a b : FlagState} → Some a ≡ Some b → a ≡ b
        some q = cc
    by T f (inr t) e = of T f (sym (ap (λ (b : Bool). if b then Some (record { client = flag.client; request = flag.request; works = flag.works }) else x.flags T) t.0) ∙ e)
changed-of P (DropFlag U) x h of = λ T f e. by T f (tid_eq U T) e
  where
    by : (T : Tid) (f : FlagState) (b : Bool) → (if b then None else x.flags T) ≡ Some f → P f.client f.request
    by T f true e = absurd (cc e)
    by T f false e = of T f e
changed-of P (AddReady head list reads) x h of = of
changed-of P (MarkGoing W) x h of = of
changed-of P (CarryOut W i) x h of = of
changed-of P (RemoveWork W) x h of = of

pub prefix-of : (P : Asker) (changes : List Change) (j : ℕ) (x : StableState) → FlagsOf P changes → StoredOf P x.flags → StoredOf P (made_all (take j changes) x).flags
prefix-of P [] zero x h of = of
prefix-of P [] (suc j) x h of = of
prefix-of P (c ∷ cs) zero x h of = of
prefix-of P (c ∷ cs) (suc j) x h of = prefix-of P cs j (made_by c x) h.1 (changed-of P c x h.0 of)

pub all-changes-of : (P : Asker) (changes : List Change) (x : StableState) → FlagsOf P changes → StoredOf P x.flags → StoredOf P (made_all changes x).flags
all-changes-of P [] x h of = of
all-changes-of P (c ∷ cs) x h of = all-changes-of P cs (made_by c x) h.1 (changed-of P c x h.0 of)

pub restored-votings : (P : Asker) (x : StableState) (Ts : List Tid) → Votings P (restored_transactions x Ts)
restored-votings P x [] = tt
restored-votings P x (T ∷ Ts) = by (x.flags T) (restored-votings P x Ts)
  where
    by : (o : Option FlagState) → Votings P (restored_transactions x Ts) → Votings P (restored_transaction T o ++ restored_transactions x Ts)
    by None again = again
    by (Some f) again = (tt, again)
