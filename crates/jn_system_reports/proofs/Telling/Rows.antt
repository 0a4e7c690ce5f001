-- No row of a server but that of an operation changes what a work did, or sends an operation or an answer.
use Rattle.jn_system_reports.proofs.Common.{◌≡◌, ◌⊎◌, inl, inr, ℕ, Bool, true, false, not, List, [], ◌∷◌, ◌++◌, Option, Some, None, refl, arith, ◌&&◌, if◌then◌else◌, nat_lt, nat_eq, length, ClientNo, Tid, WorkId, Tickets, Cause, Message, Vote, Transaction, Stage, Ballot, Commitment, StableState, Change, RowOutcome, Sent, WorkerTable, CoordinatorTable, all_in, is_work, besides, drops, commits, prepares, committed_to, commit_row, abort_row, forget_row, after_closing, close_clients_row, begin_again, begin_row, end_promised, end_stage, end_row, abort_stage, abort_request, not_known, told_stage, inquire_row, noted, counted_vote, vote_stage, vote_row, done_stage, done_row, thanks_stage, thanks_row, told_again, coordinator_again, transaction_at, with_work, Memory, storage_of, Room, of_worker, of_coordinator, server_row, server_again, TableFact, Closes, Empty, Remains, Goes, Waits, Forgets, client-closes, outcomes-close, named_by, worker-none, RequestNo, worker_row, begun_by}
use Rattle.jn_msgs.specs.declared.message.Message.TheVariants as messages
use Rattle.jn_msgs.specs.declared.message.Vote.TheVariants as votes
use Rattle.jn_rows.specs.declared.coordinator.Stage.TheVariants.{Open, Voting, Committed, Aborted}
use Rattle.jn_system_reports.proofs.Telling.Acting.{TableGoes, table-same, Adds, AreSilent, silent-more, Stays, IsNoOp, worker-stays, works-again}

-- ---- what a coordinator sends

drops-silent : (T : Tid) (works : List WorkId) → AreSilent (drops T works)
drops-silent T [] = tt
drops-silent T (W ∷ works) = (tt, drops-silent T works)

commits-silent : (T : Tid) (works : List WorkId) → AreSilent (commits T works)
commits-silent T [] = tt
commits-silent T (W ∷ works) = (tt, commits-silent T works)

prepares-silent : (T : Tid) (c : ClientNo) (works : List WorkId) → AreSilent (prepares T c works)
prepares-silent T c [] = tt
prepares-silent T c (W ∷ works) = (tt, prepares-silent T c works)

again-silent : (xs : List Transaction) → AreSilent (coordinator_again xs)
again-silent [] = tt
again-silent (x ∷ xs) = silent-more (told_again x x.stage) (coordinator_again xs) (by x.stage) (again-silent xs)
  where
    one : (b : Bool) → AreSilent (if b then [] else committed_to x ∷ [])
    one true = tt
    one false = (tt, tt)

    by : (stage : Stage) → AreSilent (told_again x stage)
    by Open = tt
    by (Voting b) = tt
    by (Committed d) = silent-more (commits x.tid (besides d.works d.done)) _ (commits-silent x.tid (besides d.works d.done)) (one d.thanked)
    by (Aborted cause) = (tt, tt)

pub server-again : (m : Memory) (x : StableState) → AreSilent (server_again m x)
server-again m x = silent-more _ _ (works-again x m.worker) (again-silent m.coordinator.transactions)

-- ---- a coordinator's rows

-- whatever works there are
module _ (t : WorkerTable) where
  abbrev IsPlain : RowOutcome CoordinatorTable → Type 0
  IsPlain row = AreSilent row.messages × Adds t row.changes

  either : (b : Bool) (p q : RowOutcome CoordinatorTable) → IsPlain p → IsPlain q → IsPlain (if b then p else q)
  either true p q h l = h
  either false p q h l = l

  then-one : (sent : List Sent) (last : Sent) → AreSilent sent → AreSilent (last ∷ []) → AreSilent (sent ++ last ∷ [])
  then-one sent last h l = silent-more sent (last ∷ []) h l

  closes-add : {P : Transaction → Type 0} {xs ys : List Transaction} {cs : List Change} → Closes P xs ys cs → Adds t cs
  closes-add Empty = tt
  closes-add (Remains x c) = closes-add c
  closes-add (Goes x p e c) = closes-add c
  closes-add (Waits x d p e c) = closes-add c
  closes-add (Forgets x d p e g c) = (tt, closes-add c)

  module _ (k : Tickets) where
    commit-plain : (ct : CoordinatorTable) (x : Transaction) (request : RequestNo) (works : List WorkId) → IsPlain (commit_row ct k x request works)
    commit-plain ct x request works = (then-one (commits x.tid works) (committed_to x) (commits-silent x.tid works) (tt, tt), (tt, tt))

    abort-plain : (ct : CoordinatorTable) (x : Transaction) (cause : Cause) (works : List WorkId) → IsPlain (abort_row ct k x cause works)
    abort-plain ct x cause works = (silent-more (drops x.tid works) _ (drops-silent x.tid works) (tt, tt), tt)

    forget-plain : (ct : CoordinatorTable) (T : Tid) (d : Commitment) → IsPlain (forget_row ct k T d)
    forget-plain ct T d = either (d.thanked && all_in d.works d.done) _ _ (tt, (tt, tt)) (tt, tt)

    begin-plain : (ct : CoordinatorTable) (c : ClientNo) (request : RequestNo) → IsPlain (begin_row ct k c request)
    begin-plain ct c request = either (nat_lt (ct.seen c) request.0) _ _ (either (nat_lt (length (after_closing c ct.transactions)) 64) _ _ ((tt, tt), closes-add (client-closes c ct.transactions)) ((tt, tt), closes-add (client-closes c ct.transactions))) (either (nat_eq (ct.seen c) request.0) _ _ (again (begun_by c request ct.transactions)) (tt, tt))
      where
        again : (o : Option Transaction) → IsPlain (begin_again ct k c request o)
        again (Some x) = ((tt, tt), tt)
        again None = (tt, tt)

    not-known-plain : (ct : CoordinatorTable) (c : ClientNo) (T : Tid) (works : List WorkId) → IsPlain (not_known ct k c T works)
    not-known-plain ct c T works = ((tt, drops-silent T works), tt)

    end-plain : (ct : CoordinatorTable) (free : ℕ) (c : ClientNo) (request : RequestNo) (T : Tid) (works : List WorkId) (o : Option Transaction) → IsPlain (end_row ct free k c request T works o)
    end-plain ct free c request T works None = not-known-plain ct c T works
    end-plain ct free c request T works (Some x) = by x.stage
      where
        promised : (works : List WorkId) → IsPlain (end_promised ct k x request works)
        promised [] = commit-plain ct x request []
        promised (W ∷ Ws) = (prepares-silent x.tid x.client (W ∷ Ws), tt)

        by : (stage : Stage) → IsPlain (end_stage ct free k x request works stage)
        by Open = either (nat_lt free 1) _ _ (abort-plain ct x _ works) (promised works)
        by (Voting b) = (prepares-silent x.tid x.client (besides b.works b.ready), tt)
        by (Committed d) = ((tt, tt), tt)
        by (Aborted cause) = ((tt, tt), tt)

    abort-request-plain : (ct : CoordinatorTable) (c : ClientNo) (T : Tid) (works : List WorkId) (o : Option Transaction) → IsPlain (abort_request ct k c T works o)
    abort-request-plain ct c T works None = not-known-plain ct c T works
    abort-request-plain ct c T works (Some x) = by x.stage
      where
        by : (stage : Stage) → IsPlain (abort_stage ct k x works stage)
        by Open = abort-plain ct x _ works
        by (Voting b) = abort-plain ct x _ _
        by (Committed d) = ((tt, tt), tt)
        by (Aborted cause) = ((tt, tt), tt)

    told-plain : (ct : CoordinatorTable) (T : Tid) (W : WorkId) (stage : Stage) → IsPlain (told_stage ct k T W stage)
    told-plain ct T W (Committed d) = either (is_work W d.works && not (is_work W d.done)) _ _ ((tt, tt), tt) ((tt, tt), tt)
    told-plain ct T W (Aborted cause) = ((tt, tt), tt)
    told-plain ct T W Open = (tt, tt)
    told-plain ct T W (Voting b) = (tt, tt)

    inquire-plain : (ct : CoordinatorTable) (T : Tid) (W : WorkId) (o : Option Transaction) → IsPlain (inquire_row ct k T W o)
    inquire-plain ct T W (Some x) = told-plain ct T W x.stage
    inquire-plain ct T W None = ((tt, tt), tt)

    vote-plain : (ct : CoordinatorTable) (T : Tid) (W : WorkId) (vote : Vote) (o : Option Transaction) → IsPlain (vote_row ct k T W vote o)
    vote-plain ct T W vote None = ((tt, tt), tt)
    vote-plain ct T W vote (Some x) = by x.stage
      where
        noted-plain : (b : Ballot) → IsPlain (noted ct k x b)
        noted-plain b = either (all_in b.works b.ready) _ _ (commit-plain ct x b.request b.works) (tt, tt)

        counted : (b : Ballot) (vote : Vote) → IsPlain (counted_vote ct k x b W vote)
        counted b votes.Ready = noted-plain (record b { ready = with_work W b.ready })
        counted b (votes.Waiting u by) = either (is_work W b.ready) _ _ (tt, tt) ((tt, tt), tt)
        counted b (votes.Lost n l) = abort-plain ct x _ _
        counted b (votes.Broken u by) = abort-plain ct x _ _
        counted b (votes.Full n l m) = abort-plain ct x _ _

        by : (stage : Stage) → IsPlain (vote_stage ct k x W vote stage)
        by Open = (tt, tt)
        by (Voting b) = either (is_work W b.works) _ _ (counted b vote) (tt, tt)
        by (Committed d) = told-plain ct x.tid W (Committed d)
        by (Aborted cause) = told-plain ct x.tid W (Aborted cause)

    done-plain : (ct : CoordinatorTable) (T : Tid) (W : WorkId) (o : Option Transaction) → IsPlain (done_row ct k T W o)
    done-plain ct T W None = (tt, tt)
    done-plain ct T W (Some x) = by x.stage
      where
        by : (stage : Stage) → IsPlain (done_stage ct k T W stage)
        by (Committed d) = either (is_work W d.works && not (is_work W d.done)) _ _ (forget-plain ct T (record d { done = d.done ++ W ∷ [] })) (tt, tt)
        by Open = (tt, tt)
        by (Voting b) = (tt, tt)
        by (Aborted cause) = (tt, tt)

    close-plain : (ct : CoordinatorTable) → IsPlain (close_clients_row ct k)
    close-plain ct = (tt, closes-add (outcomes-close ct.transactions))

    thanks-plain : (ct : CoordinatorTable) (T : Tid) (o : Option Transaction) → IsPlain (thanks_row ct k T o)
    thanks-plain ct T None = (tt, tt)
    thanks-plain ct T (Some x) = by x.stage
      where
        by : (stage : Stage) → IsPlain (thanks_stage ct k T stage)
        by (Committed d) = either d.thanked _ _ (tt, tt) (forget-plain ct T (record d { thanked = true }))
        by (Aborted cause) = (tt, tt)
        by Open = (tt, tt)
        by (Voting b) = (tt, tt)

-- ---- a server's rows

-- what a row of a server leaves of its works
pub record ServerStays (m : Memory) (row : RowOutcome Memory) : Type 0 where
  pub table : TableGoes m.worker row.table.worker
  pub adds : Adds m.worker row.changes
  pub silent : AreSilent row.messages
  -- it names no commit, or no work changes
  pub quiet : (named_by row.notes ≡ []) ⊎ (row.table.worker ≡ m.worker)

pub of-worker : (m : Memory) (row : RowOutcome _) → named_by row.notes ≡ [] → Stays m.worker row → ServerStays m (of_worker m row)
of-worker m row none h = record { table = h.table; adds = h.adds; silent = h.silent; quiet = inl none }

of-plain : (m : Memory) (row : RowOutcome CoordinatorTable) → IsPlain m.worker row → ServerStays m (of_coordinator m row)
of-plain m row h = record { table = table-same m.worker; adds = h.1; silent = h.0; quiet = inr refl }

abbrev pub is_op : Message → Bool
is_op (messages.Op c request W number op) = true
is_op message = false

by-worker : (m : Memory) (x : StableState) (room : Room) (message : Message) (fact : TableFact m.worker m.tickets x.works) → IsNoOp m.worker m.tickets x.works fact message → ServerStays m (of_worker m (worker_row m.worker (storage_of m x room) m.tickets message))
by-worker m x room message fact other = of-worker m _ (worker-none m.worker (storage_of m x room) m.tickets message) (worker-stays m.worker m.tickets x.works fact (storage_of m x room) message other)

pub row-stays : (m : Memory) (x : StableState) (room : Room) (message : Message) → TableFact m.worker m.tickets x.works → is_op message ≡ false → ServerStays m (server_row m x room message)
row-stays m x room (messages.Open c request T) fact other = by-worker m x room (messages.Open c request T) fact tt
row-stays m x room (messages.Op c request W number op) fact other = absurd (grind arith)
row-stays m x room (messages.Prepare T c W) fact other = by-worker m x room (messages.Prepare T c W) fact tt
row-stays m x room (messages.Commit T W) fact other = by-worker m x room (messages.Commit T W) fact tt
row-stays m x room (messages.Drop T W) fact other = by-worker m x room (messages.Drop T W) fact tt
row-stays m x room (messages.Begin c request) fact other = of-plain m _ (begin-plain m.worker m.tickets m.coordinator c request)
row-stays m x room (messages.End c request T works) fact other = of-plain m _ (end-plain m.worker m.tickets m.coordinator room.free.records c request T works (transaction_at T m.coordinator.transactions))
row-stays m x room (messages.Abort c request T works) fact other = of-plain m _ (abort-request-plain m.worker m.tickets m.coordinator c T works (transaction_at T m.coordinator.transactions))
row-stays m x room (messages.Thanks c T) fact other = of-plain m _ (thanks-plain m.worker m.tickets m.coordinator T (transaction_at T m.coordinator.transactions))
row-stays m x room (messages.Vote T W vote) fact other = of-plain m _ (vote-plain m.worker m.tickets m.coordinator T W vote (transaction_at T m.coordinator.transactions))
row-stays m x room (messages.Done T W) fact other = of-plain m _ (done-plain m.worker m.tickets m.coordinator T W (transaction_at T m.coordinator.transactions))
row-stays m x room (messages.Inquire T W) fact other = of-plain m _ (inquire-plain m.worker m.tickets m.coordinator T W (transaction_at T m.coordinator.transactions))
row-stays m x room (messages.Begun c request T) fact other = of-plain m _ (tt, tt)
row-stays m x room (messages.Opened c request T W) fact other = of-plain m _ (tt, tt)
row-stays m x room (messages.Answer c request answer) fact other = of-plain m _ (tt, tt)
row-stays m x room (messages.Outcome c T outcome) fact other = of-plain m _ (tt, tt)

pub close-stays : (m : Memory) → ServerStays m (of_coordinator m (close_clients_row m.coordinator m.tickets))
close-stays m = of-plain m _ (close-plain m.worker m.tickets m.coordinator)
