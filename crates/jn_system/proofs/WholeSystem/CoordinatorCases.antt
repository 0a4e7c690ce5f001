-- What a coordinator's row does, in eleven cases: the message is ignored, the table is left, a transaction begins or finds no room, a vote
-- begins or counts, it commits or aborts, a commit is noted or forgotten, an abort is forgotten. The transaction of a case is found by its own name.
use Rattle.jn_system.proofs.Common.{◌≡◌, ℕ, ◌+◌, Bool, true, false, not, ◌&&◌, List, [], ◌∷◌, ◌++◌, Option, Some, None, refl, sym, subst, arith, if◌then◌else◌, nat_lt, nat_eq, length, ClientNo, RequestNo, Tid, WorkId, Tickets, tid_tells, Message, Vote, Transaction, Stage, Commitment, DropFlag, RowOutcome, Sent, CoordinatorTable, transaction_at, is_work, all_in, with_work, commit_row, forget_row, after_closing, changes_of_closing, begin_again, begun_by, seen_now, end_promised, end_stage, end_row, abort_stage, abort_request, told_stage, inquire_row, counted_vote, vote_stage, vote_row, done_stage, done_row, thanks_stage, thanks_row, coordinator_row, LockUnit, Client, abort_row, aborted_to, besides, commits, committed_to, drops, prepares, staged, ignored, quiet, sends}
use Rattle.jn_base.specs.declared.names.Cause.{Cause}
use Rattle.jn_base.specs.declared.names.Cause.TheVariants.{Requested, Broken as BrokenAt, Lost as LostAt, Full as FullAt}
use Rattle.jn_base.specs.declared.names.Resource.{Resource}
use Rattle.jn_base.specs.declared.names.Resource.TheVariants as resources
use Rattle.jn_msgs.specs.declared.message.Message.TheVariants as messages
use Rattle.jn_msgs.specs.declared.message.Outcome.TheVariants as outcomes
use Rattle.jn_msgs.specs.declared.message.Vote.TheVariants as votes
use Rattle.jn_rows.specs.declared.coordinator.Stage.TheVariants.{Open, Voting, Committed, Aborted}
use Rattle.jn_rows.specs.declared.coordinator.Voting.{Voting as Ballot}
use Rattle.jn_rows.specs.Coordinator.{name_from, without}

abbrev pub IsListed : CoordinatorTable → Transaction → Type 0
IsListed t x = transaction_at x.tid t.transactions ≡ Some x

-- whether this commit waits for this work
abbrev pub still_waits : Commitment → WorkId → Bool
still_waits d W = is_work W d.works && not (is_work W d.done)

abbrev pub is_through : Commitment → Bool
is_through d = d.thanked && all_in d.works d.done

-- a client wants the transaction ended, with these works
pub data WantsEnd (c : ClientNo) (T : Tid) (works : List WorkId) : Message → Type 0 where
  wants_to_commit : (q : RequestNo) → WantsEnd c T works (messages.End c q T works)
  wants_to_abort : (q : RequestNo) → WantsEnd c T works (messages.Abort c q T works)

-- a work has to know the outcome
pub data WantsOutcome (T : Tid) (W : WorkId) : Message → Type 0 where
  wants_outcome : WantsOutcome T W (messages.Inquire T W)
  votes_late : (vote : Vote) → WantsOutcome T W (messages.Vote T W vote)

-- the work is wanted no more
pub data Unneeded (t : CoordinatorTable) (W : WorkId) : Tid → Type 0 where
  is_not_here : (T : Tid) → transaction_at T t.transactions ≡ None → Unneeded t W T
  is_carried_out : (x : Transaction) (d : Commitment) → IsListed t x → x.stage ≡ Committed d → still_waits d W ≡ false → Unneeded t W x.tid
  has_aborted : (x : Transaction) (cause : Cause) → IsListed t x → x.stage ≡ Aborted cause → Unneeded t W x.tid

-- what is said where the table is left
pub data Saying (t : CoordinatorTable) (k : Tickets) : Message → List Sent → Type 0 where
  says_nothing : (m : Message) (W : WorkId) (x : Transaction) → WantsOutcome x.tid W m → IsListed t x → Saying t k m []
  says_begun : (c : ClientNo) (q : RequestNo) (x : Transaction) → nat_eq (t.seen c) q.0 ≡ true → begun_by c q t.transactions ≡ Some x → Saying t k (messages.Begin c q) ((Client c, messages.Begun c q (Some x.tid)) ∷ [])
  says_unknown : (m : Message) (c : ClientNo) (T : Tid) (works : List WorkId) → WantsEnd c T works m → transaction_at T t.transactions ≡ None
      → Saying t k m ((Client c, messages.Outcome c T (outcomes.NotKnown k.server k.epoch)) ∷ drops T works)
  prepares_again : (c : ClientNo) (q : RequestNo) (works : List WorkId) (x : Transaction) (b : Ballot) → IsListed t x → x.stage ≡ Voting b
      → Saying t k (messages.End c q x.tid works) (prepares x.tid x.client (besides b.works b.ready))
  says_committed : (m : Message) (c : ClientNo) (works : List WorkId) (x : Transaction) (d : Commitment) → WantsEnd c x.tid works m → IsListed t x → x.stage ≡ Committed d → Saying t k m (committed_to x ∷ [])
  says_aborted : (m : Message) (c : ClientNo) (works : List WorkId) (x : Transaction) (cause : Cause) → WantsEnd c x.tid works m → IsListed t x → x.stage ≡ Aborted cause → Saying t k m (aborted_to x cause ∷ [])
  says_commit : (m : Message) (W : WorkId) (x : Transaction) (d : Commitment) → WantsOutcome x.tid W m → IsListed t x → x.stage ≡ Committed d → still_waits d W ≡ true → Saying t k m (commits x.tid (W ∷ []))
  says_drop : (m : Message) (T : Tid) (W : WorkId) → WantsOutcome T W m → Unneeded t W T → Saying t k m (drops T (W ∷ []))
  says_waiting : (W : WorkId) (u : LockUnit) (held : Tid) (x : Transaction) (b : Ballot) → IsListed t x → x.stage ≡ Voting b → is_work W b.works ≡ true → is_work W b.ready ≡ false
      → Saying t k (messages.Vote x.tid W (votes.Waiting u held)) ((Client x.client, messages.Outcome x.client x.tid (outcomes.Waiting W.server u held)) ∷ [])

-- what commits a transaction: an End without works, or the last vote
pub data Committing (free : ℕ) (x : Transaction) : Message → RequestNo → List WorkId → Type 0 where
  has_no_works : (c : ClientNo) (q : RequestNo) → x.stage ≡ Open → nat_lt free 1 ≡ false → Committing free x (messages.End c q x.tid []) q []
  is_last_vote : (W : WorkId) (b : Ballot) → x.stage ≡ Voting b → is_work W b.works ≡ true → all_in b.works (with_work W b.ready) ≡ true
      → Committing free x (messages.Vote x.tid W votes.Ready) b.request b.works

-- what aborts one, why, and which works are dropped
pub data Aborting (free : ℕ) (k : Tickets) (x : Transaction) : Message → Cause → List WorkId → Type 0 where
  finds_no_record : (c : ClientNo) (q : RequestNo) (works : List WorkId) → x.stage ≡ Open → nat_lt free 1 ≡ true → Aborting free k x (messages.End c q x.tid works) (FullAt k.server resources.Records free 1) works
  stops_open : (c : ClientNo) (q : RequestNo) (works : List WorkId) → x.stage ≡ Open → Aborting free k x (messages.Abort c q x.tid works) Requested works
  stops_voting : (c : ClientNo) (q : RequestNo) (works : List WorkId) (b : Ballot) → x.stage ≡ Voting b → Aborting free k x (messages.Abort c q x.tid works) Requested (b.works ++ besides works b.works)
  work_is_lost : (W : WorkId) (before now : ℕ) (b : Ballot) → x.stage ≡ Voting b → is_work W b.works ≡ true → Aborting free k x (messages.Vote x.tid W (votes.Lost before now)) (LostAt W.server) (besides b.works (W ∷ []))
  work_is_broken : (W : WorkId) (u : LockUnit) (held : Tid) (b : Ballot) → x.stage ≡ Voting b → is_work W b.works ≡ true → Aborting free k x (messages.Vote x.tid W (votes.Broken u held)) (BrokenAt W.server u held) b.works
  work_has_no_room : (W : WorkId) (number : Resource) (left need : ℕ) (b : Ballot) → x.stage ≡ Voting b → is_work W b.works ≡ true → Aborting free k x (messages.Vote x.tid W (votes.Full number left need)) (FullAt W.server number left need) b.works

-- what a commit goes on with
pub data Noting (x : Transaction) : Message → Commitment → Type 0 where
  work_is_done : (W : WorkId) (d : Commitment) → x.stage ≡ Committed d → still_waits d W ≡ true → Noting x (messages.Done x.tid W) (record d { done = d.done ++ W ∷ [] })
  client_thanks : (c : ClientNo) (d : Commitment) → x.stage ≡ Committed d → d.thanked ≡ false → Noting x (messages.Thanks c x.tid) (record d { thanked = true })

pub data CoordinatorCase (t : CoordinatorTable) (free : ℕ) (k : Tickets) : Message → RowOutcome CoordinatorTable → Type 0 where
  is_ignored_by : (m : Message) → CoordinatorCase t free k m (ignored t k)
  is_left_by : (m : Message) (sent : List Sent) → Saying t k m sent → CoordinatorCase t free k m (sends t k sent)
  begins_anew : (c : ClientNo) (q : RequestNo) → nat_lt (t.seen c) q.0 ≡ true → nat_lt (length (after_closing c t.transactions)) 64 ≡ true → CoordinatorCase t free k (messages.Begin c q) (record {
    table = record { transactions = after_closing c t.transactions ++ (record { tid = name_from k; client = c; begun = Some q; stage = Open }) ∷ []; seen = seen_now t.seen c q };
    changes = changes_of_closing c t.transactions;
    messages = (Client c, messages.Begun c q (Some (name_from k))) ∷ [];
    notes = [];
    tickets = record k { next = k.next + 1 };
  })
  finds_no_room : (c : ClientNo) (q : RequestNo) → nat_lt (t.seen c) q.0 ≡ true → nat_lt (length (after_closing c t.transactions)) 64 ≡ false → CoordinatorCase t free k (messages.Begin c q) (record {
    table = record { transactions = after_closing c t.transactions; seen = seen_now t.seen c q };
    changes = changes_of_closing c t.transactions;
    messages = (Client c, messages.Begun c q None) ∷ [];
    notes = [];
    tickets = k;
  })
  starts_voting : (c : ClientNo) (q : RequestNo) (W : WorkId) (Ws : List WorkId) (x : Transaction) → IsListed t x → x.stage ≡ Open → nat_lt free 1 ≡ false
      → CoordinatorCase t free k (messages.End c q x.tid (W ∷ Ws)) (sends (staged t x.tid (Voting (record { request = q; works = W ∷ Ws; ready = [] }))) k (prepares x.tid x.client (W ∷ Ws)))
  counts_vote : (W : WorkId) (x : Transaction) (b : Ballot) → IsListed t x → x.stage ≡ Voting b → is_work W b.works ≡ true → all_in b.works (with_work W b.ready) ≡ false
      → CoordinatorCase t free k (messages.Vote x.tid W votes.Ready) (quiet (staged t x.tid (Voting (record b { ready = with_work W b.ready }))) k)
  is_committed_by : (m : Message) (x : Transaction) (q : RequestNo) (works : List WorkId) → IsListed t x → Committing free x m q works → CoordinatorCase t free k m (commit_row t k x q works)
  is_aborted_by : (m : Message) (x : Transaction) (cause : Cause) (works : List WorkId) → IsListed t x → Aborting free k x m cause works → CoordinatorCase t free k m (abort_row t k x cause works)
  notes_commit : (m : Message) (x : Transaction) (d : Commitment) → IsListed t x → Noting x m d → is_through d ≡ false → CoordinatorCase t free k m (quiet (staged t x.tid (Committed d)) k)
  forgets_commit : (m : Message) (x : Transaction) (d : Commitment) → IsListed t x → Noting x m d → is_through d ≡ true
      → CoordinatorCase t free k m (record (quiet (record t { transactions = without x.tid t.transactions }) k) { changes = DropFlag x.tid ∷ [] })
  forgets_abort : (c : ClientNo) (x : Transaction) (cause : Cause) → IsListed t x → x.stage ≡ Aborted cause → CoordinatorCase t free k (messages.Thanks c x.tid) (quiet (record t { transactions = without x.tid t.transactions }) k)

pub transaction-named : (T : Tid) (xs : List Transaction) (x : Transaction) → transaction_at T xs ≡ Some x → x.tid ≡ T
transaction-named T [] x e = absurd (cc e)
transaction-named T (y ∷ ys) x e = let again = transaction-named T ys x in let t = tid_tells y.tid T in grind (arith, e)

module _ (t : CoordinatorTable) (free : ℕ) (k : Tickets) where
  abbrev Case : Message → RowOutcome CoordinatorTable → Type 0
  Case m row = CoordinatorCase t free k m row

  either : (m : Message) (b : Bool) (p q : RowOutcome CoordinatorTable) → (b ≡ true → Case m p) → (b ≡ false → Case m q) → Case m (if b then p else q)
  either m true p q h l = h refl
  either m false p q h l = l refl

  -- what is found by a name is found by its own
  by-name : (F : Tid → Type 0) (T : Tid) (x : Transaction) → transaction_at T t.transactions ≡ Some x → (IsListed t x → F x.tid) → F T
  by-name F T x e of = let name = transaction-named T t.transactions x e in subst F name (of (subst (λ (U : Tid). transaction_at U t.transactions ≡ Some x) (sym name) e))

  begin-case : (c : ClientNo) (q : RequestNo) (o : Option Transaction) → begun_by c q t.transactions ≡ o → nat_eq (t.seen c) q.0 ≡ true → Case (messages.Begin c q) (begin_again t k c q o)
  begin-case c q (Some x) e same = is_left_by _ _ (says_begun c q x same e)
  begin-case c q None e same = is_ignored_by _

  module _ (x : Transaction) (found : IsListed t x) where
    promised-case : (c : ClientNo) (q : RequestNo) (works : List WorkId) → x.stage ≡ Open → nat_lt free 1 ≡ false → Case (messages.End c q x.tid works) (end_promised t k x q works)
    promised-case c q [] e room = is_committed_by _ x q [] found (has_no_works c q e room)
    promised-case c q (W ∷ Ws) e room = starts_voting c q W Ws x found e room

    end-case : (c : ClientNo) (q : RequestNo) (works : List WorkId) (s : Stage) → x.stage ≡ s → Case (messages.End c q x.tid works) (end_stage t free k x q works s)
    end-case c q works Open e = either _ (nat_lt free 1) _ _ (λ full. is_aborted_by _ x _ works found (finds_no_record c q works e full)) (promised-case c q works e)
    end-case c q works (Voting b) e = is_left_by _ _ (prepares_again c q works x b found e)
    end-case c q works (Committed d) e = is_left_by _ _ (says_committed _ c works x d (wants_to_commit q) found e)
    end-case c q works (Aborted cause) e = is_left_by _ _ (says_aborted _ c works x cause (wants_to_commit q) found e)

    abort-case : (c : ClientNo) (q : RequestNo) (works : List WorkId) (s : Stage) → x.stage ≡ s → Case (messages.Abort c q x.tid works) (abort_stage t k x works s)
    abort-case c q works Open e = is_aborted_by _ x _ works found (stops_open c q works e)
    abort-case c q works (Voting b) e = is_aborted_by _ x _ _ found (stops_voting c q works b e)
    abort-case c q works (Committed d) e = is_left_by _ _ (says_committed _ c works x d (wants_to_abort q) found e)
    abort-case c q works (Aborted cause) e = is_left_by _ _ (says_aborted _ c works x cause (wants_to_abort q) found e)

    told-case : (m : Message) (W : WorkId) → WantsOutcome x.tid W m → (s : Stage) → x.stage ≡ s → Case m (told_stage t k x.tid W s)
    told-case m W asks (Committed d) e = either m (still_waits d W) _ _ (λ waits. is_left_by _ _ (says_commit m W x d asks found e waits)) (λ over. is_left_by _ _ (says_drop m x.tid W asks (is_carried_out x d found e over)))
    told-case m W asks (Aborted cause) e = is_left_by _ _ (says_drop m x.tid W asks (has_aborted x cause found e))
    told-case m W asks Open e = is_left_by _ _ (says_nothing m W x asks found)
    told-case m W asks (Voting b) e = is_left_by _ _ (says_nothing m W x asks found)

    counted-case : (b : Ballot) (W : WorkId) (vote : Vote) → x.stage ≡ Voting b → is_work W b.works ≡ true → Case (messages.Vote x.tid W vote) (counted_vote t k x b W vote)
    counted-case b W votes.Ready e is = either _ (all_in b.works (with_work W b.ready)) _ _ (λ all. is_committed_by _ x _ _ found (is_last_vote W b e is all)) (counts_vote W x b found e is)
    counted-case b W (votes.Waiting u held) e is = either _ (is_work W b.ready) _ _ (λ ready. is_ignored_by _) (λ waits. is_left_by _ _ (says_waiting W u held x b found e is waits))
    counted-case b W (votes.Lost before now) e is = is_aborted_by _ x _ _ found (work_is_lost W before now b e is)
    counted-case b W (votes.Broken u held) e is = is_aborted_by _ x _ _ found (work_is_broken W u held b e is)
    counted-case b W (votes.Full number left need) e is = is_aborted_by _ x _ _ found (work_has_no_room W number left need b e is)

    vote-case : (W : WorkId) (vote : Vote) (s : Stage) → x.stage ≡ s → Case (messages.Vote x.tid W vote) (vote_stage t k x W vote s)
    vote-case W vote Open e = is_ignored_by _
    vote-case W vote (Voting b) e = either _ (is_work W b.works) _ _ (counted-case b W vote e) (λ other. is_ignored_by _)
    vote-case W vote (Committed d) e = told-case _ W (votes_late vote) (Committed d) e
    vote-case W vote (Aborted cause) e = told-case _ W (votes_late vote) (Aborted cause) e

    forget-case : (m : Message) (d : Commitment) → Noting x m d → Case m (forget_row t k x.tid d)
    forget-case m d notes = either m (is_through d) _ _ (forgets_commit m x d found notes) (notes_commit m x d found notes)

    done-case : (W : WorkId) (s : Stage) → x.stage ≡ s → Case (messages.Done x.tid W) (done_stage t k x.tid W s)
    done-case W (Committed d) e = either _ (still_waits d W) _ _ (λ waits. forget-case _ _ (work_is_done W d e waits)) (λ over. is_ignored_by _)
    done-case W Open e = is_ignored_by _
    done-case W (Voting b) e = is_ignored_by _
    done-case W (Aborted cause) e = is_ignored_by _

    thanks-case : (c : ClientNo) (s : Stage) → x.stage ≡ s → Case (messages.Thanks c x.tid) (thanks_stage t k x.tid s)
    thanks-case c (Committed d) e = either _ d.thanked _ _ (λ known. is_ignored_by _) (λ new. forget-case _ _ (client_thanks c d e new))
    thanks-case c (Aborted cause) e = forgets_abort c x cause found e
    thanks-case c Open e = is_ignored_by _
    thanks-case c (Voting b) e = is_ignored_by _

  -- by what a name finds
  by-found : (message : Tid → Message) (row : Tid → Option Transaction → RowOutcome CoordinatorTable) (T : Tid) → (transaction_at T t.transactions ≡ None → Case (message T) (row T None))
      → ((x : Transaction) → IsListed t x → Case (message x.tid) (row x.tid (Some x))) → Case (message T) (row T (transaction_at T t.transactions))
  by-found message row T none some = by (transaction_at T t.transactions) refl
    where
      by : (o : Option Transaction) → transaction_at T t.transactions ≡ o → Case (message T) (row T o)
      by None e = none e
      by (Some x) e = by-name (λ (U : Tid). Case (message U) (row U (Some x))) T x e (some x)

  pub coordinator-case : (m : Message) → CoordinatorCase t free k m (coordinator_row t free k m)
  coordinator-case (messages.Begin c q) = either _ (nat_lt (t.seen c) q.0) _ _ (λ later. either _ (nat_lt (length (after_closing c t.transactions)) 64) _ _ (begins_anew c q later) (finds_no_room c q later))
      (λ old. either _ (nat_eq (t.seen c) q.0) _ _ (begin-case c q (begun_by c q t.transactions) refl) (λ less. is_ignored_by _))
  coordinator-case (messages.End c q T works) = by-found (λ U. messages.End c q U works) (λ U o. end_row t free k c q U works o) T (λ e. is_left_by _ _ (says_unknown _ c T works (wants_to_commit q) e)) (λ x found. end-case x found c q works x.stage refl)
  coordinator-case (messages.Abort c q T works) = by-found (λ U. messages.Abort c q U works) (λ U o. abort_request t k c U works o) T (λ e. is_left_by _ _ (says_unknown _ c T works (wants_to_abort q) e)) (λ x found. abort-case x found c q works x.stage refl)
  coordinator-case (messages.Thanks c T) = by-found (λ U. messages.Thanks c U) (λ U o. thanks_row t k U o) T (λ e. is_ignored_by _) (λ x found. thanks-case x found c x.stage refl)
  coordinator-case (messages.Vote T W vote) = by-found (λ U. messages.Vote U W vote) (λ U o. vote_row t k U W vote o) T (λ e. is_left_by _ _ (says_drop _ T W (votes_late vote) (is_not_here T e))) (λ x found. vote-case x found W vote x.stage refl)
  coordinator-case (messages.Done T W) = by-found (λ U. messages.Done U W) (λ U o. done_row t k U W o) T (λ e. is_ignored_by _) (λ x found. done-case x found W x.stage refl)
  coordinator-case (messages.Inquire T W) = by-found (λ U. messages.Inquire U W) (λ U o. inquire_row t k U W o) T (λ e. is_left_by _ _ (says_drop _ T W wants_outcome (is_not_here T e))) (λ x found. told-case x found _ W wants_outcome x.stage refl)
  coordinator-case m = is_ignored_by m
