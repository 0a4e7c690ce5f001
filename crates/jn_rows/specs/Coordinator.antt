-- The rows of a coordinator's table: what it does with a message.
use Rattle.std.specs.Prelude.{ℕ, Bool, true, false, not, nat_eq, nat_lt, ◌+◌, ◌&&◌, ◌||◌, if◌then◌else◌, List, [], ◌∷◌, ◌++◌, map, filter, length, Option, Some, None}
use Rattle.std.specs.List.{list_all}
use Rattle.jn_base.specs.declared.names.ClientNo.{ClientNo}
use Rattle.jn_base.specs.declared.names.RequestNo.{RequestNo}
use Rattle.jn_base.specs.declared.names.Tid.{Tid}
use Rattle.jn_base.specs.declared.names.WorkId.{WorkId}
use Rattle.jn_base.specs.declared.names.Tickets.{Tickets}
use Rattle.jn_base.specs.declared.names.Cause.{Cause}
use Rattle.jn_base.specs.declared.names.Cause.TheVariants.{Requested, Broken as BrokenAt, Lost as LostAt, Full as FullAt}
use Rattle.jn_base.specs.declared.names.Party.TheVariants.{Client, Server}
use Rattle.jn_base.specs.declared.names.Resource.TheVariants as resources
use Rattle.jn_base.specs.Names.{client_eq, request_eq, tid_eq, work_eq}
use Rattle.jn_base.specs.Limits.{most_transactions}
use Rattle.jn_msgs.specs.declared.message.Message.{Message}
use Rattle.jn_msgs.specs.declared.message.Message.TheVariants as messages
use Rattle.jn_msgs.specs.declared.message.Outcome.TheVariants as outcomes
use Rattle.jn_msgs.specs.declared.message.Vote.{Vote}
use Rattle.jn_msgs.specs.declared.message.Vote.TheVariants as votes
use Rattle.jn_msgs.specs.declared.message.Note.TheVariants as notes
use Rattle.jn_rows.specs.declared.coordinator.Transaction.{Transaction}
use Rattle.jn_rows.specs.declared.coordinator.Stage.{Stage}
use Rattle.jn_rows.specs.declared.coordinator.Stage.TheVariants.{Open, Voting, Committed, Aborted}
use Rattle.jn_rows.specs.declared.coordinator.Voting.{Voting as Ballot}
use Rattle.jn_rows.specs.declared.coordinator.Committed.{Committed as Commitment}
use Rattle.jn_rows.specs.Stable.{Change, FlagState, AddFlag, DropFlag, StableState}
use Rattle.jn_rows.specs.Outcomes.{RowOutcome, Sent, quiet, ignored, sends}

-- its live transactions, rising, and the greatest request that it has seen of each client, 0 where it has seen none
pub record CoordinatorTable : Type 0 where
  pub transactions : List Transaction
  pub seen : ClientNo → ℕ

-- what each of its rows gives
abbrev pub Row : Type 0
Row = RowOutcome CoordinatorTable

-- ---- the transactions of a table

abbrev pub transaction_at : Tid → List Transaction → Option Transaction
transaction_at T [] = None
transaction_at T (x ∷ xs) = if tid_eq x.tid T then Some x else transaction_at T xs

abbrev pub is_committed : Stage → Bool
is_committed (Committed d) = true
is_committed stage = false

abbrev pub with_stage : Tid → Stage → List Transaction → List Transaction
with_stage T stage [] = []
with_stage T stage (x ∷ xs) = if tid_eq x.tid T then record x { stage = stage } ∷ xs else x ∷ with_stage T stage xs

abbrev pub without : Tid → List Transaction → List Transaction
without T [] = []
without T (x ∷ xs) = if tid_eq x.tid T then xs else x ∷ without T xs

abbrev pub staged : CoordinatorTable → Tid → Stage → CoordinatorTable
staged t T stage = record t { transactions = with_stage T stage t.transactions }

abbrev pub is_work : WorkId → List WorkId → Bool
is_work W [] = false
is_work W (V ∷ Vs) = work_eq V W || is_work W Vs

-- the works of the first list that the second doesn't have
abbrev pub besides : List WorkId → List WorkId → List WorkId
besides Vs Ws = filter (λ (V : WorkId). not (is_work V Ws)) Vs

abbrev pub all_in : List WorkId → List WorkId → Bool
all_in Vs Ws = list_all (λ (V : WorkId). is_work V Ws) Vs

-- ---- what is sent

abbrev pub drops : Tid → List WorkId → List Sent
drops T Ws = map (λ (W : WorkId). (Server W.server, messages.Drop T W)) Ws

abbrev pub commits : Tid → List WorkId → List Sent
commits T Ws = map (λ (W : WorkId). (Server W.server, messages.Commit T W)) Ws

abbrev pub prepares : Tid → ClientNo → List WorkId → List Sent
prepares T c Ws = map (λ (W : WorkId). (Server W.server, messages.Prepare T c W)) Ws

abbrev pub committed_to : Transaction → Sent
committed_to x = (Client x.client, messages.Outcome x.client x.tid outcomes.Committed)

abbrev pub aborted_to : Transaction → Cause → Sent
aborted_to x cause = (Client x.client, messages.Outcome x.client x.tid (outcomes.Aborted cause))

-- ---- to commit, to abort, to forget

-- its flag is put, and then its works and its client are told
abbrev pub commit_row : CoordinatorTable → Tickets → Transaction → RequestNo → List WorkId → Row
commit_row t k x request works = record {
  table = staged t x.tid (Committed (record { works = works; done = []; thanked = false }));
  changes = AddFlag (record { tid = x.tid; client = x.client; request = request; works = works }) ∷ [];
  messages = commits x.tid works ++ committed_to x ∷ [];
  notes = notes.Commit x.tid ∷ [];
  tickets = k;
}

-- these works are dropped and its client is told; a promise for its flag goes with its votes
abbrev pub abort_row : CoordinatorTable → Tickets → Transaction → Cause → List WorkId → Row
abort_row t k x cause works = sends (staged t x.tid (Aborted cause)) k (drops x.tid works ++ aborted_to x cause ∷ [])

-- a committed transaction goes with its flag once every work is done and its client knows
abbrev pub forget_row : CoordinatorTable → Tickets → Tid → Commitment → Row
forget_row t k T d = if d.thanked && all_in d.works d.done
    then record (quiet (record t { transactions = without T t.transactions }) k) { changes = DropFlag T ∷ [] }
    else quiet (staged t T (Committed d)) k

-- ---- Begin

-- a transaction whose client knows its outcome, which an undecided one doesn't have
abbrev pub thanked : Stage → Transaction → List Transaction
thanked (Committed d) x = if all_in d.works d.done then [] else record x { stage = Committed (record d { thanked = true }) } ∷ []
thanked (Aborted cause) x = []
thanked stage x = x ∷ []

abbrev pub thanked_changes : Stage → Transaction → List Change
thanked_changes (Committed d) x = if all_in d.works d.done then DropFlag x.tid ∷ [] else []
thanked_changes stage x = []

-- and one that is dropped where it is undecided
abbrev pub closed : Stage → Transaction → List Transaction
closed Open x = []
closed (Voting b) x = []
closed stage x = thanked stage x

abbrev pub after_closing : ClientNo → List Transaction → List Transaction
after_closing c [] = []
after_closing c (x ∷ xs) = if client_eq x.client c then closed x.stage x ++ after_closing c xs else x ∷ after_closing c xs

abbrev pub changes_of_closing : ClientNo → List Transaction → List Change
changes_of_closing c [] = []
changes_of_closing c (x ∷ xs) = if client_eq x.client c then thanked_changes x.stage x ++ changes_of_closing c xs else changes_of_closing c xs

abbrev pub name_from : Tickets → Tid
name_from k = record { server = k.server; epoch = k.epoch; ticket = k.next }

abbrev pub seen_now : (ClientNo → ℕ) → ClientNo → RequestNo → ClientNo → ℕ
seen_now seen c request d = if client_eq c d then request.0 else seen d

abbrev pub begin_new : CoordinatorTable → List Change → Tickets → ClientNo → RequestNo → Row
begin_new t changes k c request = if nat_lt (length t.transactions) most_transactions
    then record (sends (record t { transactions = t.transactions ++ (record { tid = name_from k; client = c; begun = Some request; stage = Open }) ∷ [] })
    (record k { next = k.next + 1 }) ((Client c, messages.Begun c request (Some (name_from k))) ∷ [])) { changes = changes }
    else record (sends t k ((Client c, messages.Begun c request None) ∷ [])) { changes = changes }

abbrev pub is_begun : Option RequestNo → RequestNo → Bool
is_begun None request = false
is_begun (Some begun) request = request_eq begun request

-- the client's transaction that this request began
abbrev pub begun_by : ClientNo → RequestNo → List Transaction → Option Transaction
begun_by c request [] = None
begun_by c request (x ∷ xs) = if client_eq x.client c && is_begun x.begun request then Some x else begun_by c request xs

abbrev pub begin_again : CoordinatorTable → Tickets → ClientNo → RequestNo → Option Transaction → Row
begin_again t k c request (Some x) = sends t k ((Client c, messages.Begun c request (Some x.tid)) ∷ [])
begin_again t k c request None = ignored t k

-- a greater request than was seen closes the client's transactions first; an equal one is answered again
abbrev pub begin_row : CoordinatorTable → Tickets → ClientNo → RequestNo → Row
begin_row t k c request = if nat_lt (t.seen c) request.0
    then begin_new (record { transactions = after_closing c t.transactions; seen = seen_now t.seen c request }) (changes_of_closing c t.transactions) k c request
    else (if nat_eq (t.seen c) request.0 then begin_again t k c request (begun_by c request t.transactions) else ignored t k)

-- ---- End and Abort

-- the transaction isn't known here in this epoch
abbrev pub not_known : CoordinatorTable → Tickets → ClientNo → Tid → List WorkId → Row
not_known t k c T works = sends t k ((Client c, messages.Outcome c T (outcomes.NotKnown k.server k.epoch)) ∷ drops T works)

abbrev pub end_promised : CoordinatorTable → Tickets → Transaction → RequestNo → List WorkId → Row
end_promised t k x request [] = commit_row t k x request []
end_promised t k x request (W ∷ Ws) = sends (staged t x.tid (Voting (record { request = request; works = W ∷ Ws; ready = [] }))) k (prepares x.tid x.client (W ∷ Ws))

-- one record is promised for its flag; without works it commits at once
abbrev pub end_open : CoordinatorTable → ℕ → Tickets → Transaction → RequestNo → List WorkId → Row
end_open t free k x request works = if nat_lt free 1
    then abort_row t k x (FullAt k.server resources.Records free 1) works
    else end_promised t k x request works

abbrev pub end_stage : CoordinatorTable → ℕ → Tickets → Transaction → RequestNo → List WorkId → Stage → Row
end_stage t free k x request works Open = end_open t free k x request works
end_stage t free k x request works (Voting b) = sends t k (prepares x.tid x.client (besides b.works b.ready))
end_stage t free k x request works (Committed d) = sends t k (committed_to x ∷ [])
end_stage t free k x request works (Aborted cause) = sends t k (aborted_to x cause ∷ [])

abbrev pub end_row : CoordinatorTable → ℕ → Tickets → ClientNo → RequestNo → Tid → List WorkId → Option Transaction → Row
end_row t free k c request T works (Some x) = end_stage t free k x request works x.stage
end_row t free k c request T works None = not_known t k c T works

abbrev pub abort_stage : CoordinatorTable → Tickets → Transaction → List WorkId → Stage → Row
abort_stage t k x works Open = abort_row t k x Requested works
abort_stage t k x works (Voting b) = abort_row t k x Requested (b.works ++ besides works b.works)
abort_stage t k x works (Committed d) = sends t k (committed_to x ∷ [])
abort_stage t k x works (Aborted cause) = sends t k (aborted_to x cause ∷ [])

abbrev pub abort_request : CoordinatorTable → Tickets → ClientNo → Tid → List WorkId → Option Transaction → Row
abort_request t k c T works (Some x) = abort_stage t k x works x.stage
abort_request t k c T works None = not_known t k c T works

-- ---- Vote, Inquire and Done

abbrev pub dropped : CoordinatorTable → Tickets → Tid → WorkId → Row
dropped t k T W = sends t k (drops T (W ∷ []))

-- a work that asks for the outcome
abbrev pub told_stage : CoordinatorTable → Tickets → Tid → WorkId → Stage → Row
told_stage t k T W (Committed d) = if is_work W d.works && not (is_work W d.done) then sends t k (commits T (W ∷ [])) else dropped t k T W
told_stage t k T W (Aborted cause) = dropped t k T W
told_stage t k T W stage = quiet t k

abbrev pub inquire_row : CoordinatorTable → Tickets → Tid → WorkId → Option Transaction → Row
inquire_row t k T W (Some x) = told_stage t k T W x.stage
inquire_row t k T W None = dropped t k T W

-- the work is noted, and the last one commits
abbrev pub noted : CoordinatorTable → Tickets → Transaction → Ballot → Row
noted t k x b = if all_in b.works b.ready then commit_row t k x b.request b.works else quiet (staged t x.tid (Voting b)) k

abbrev pub with_work : WorkId → List WorkId → List WorkId
with_work W Ws = if is_work W Ws then Ws else Ws ++ W ∷ []

-- the vote of one of its works; what a work lost needs no Drop
abbrev pub counted_vote : CoordinatorTable → Tickets → Transaction → Ballot → WorkId → Vote → Row
counted_vote t k x b W votes.Ready = noted t k x (record b { ready = with_work W b.ready })
counted_vote t k x b W (votes.Waiting u by) = if is_work W b.ready then ignored t k
    else sends t k ((Client x.client, messages.Outcome x.client x.tid (outcomes.Waiting W.server u by)) ∷ [])
counted_vote t k x b W (votes.Lost then' now) = abort_row t k x (LostAt W.server) (besides b.works (W ∷ []))
counted_vote t k x b W (votes.Broken u by) = abort_row t k x (BrokenAt W.server u by) b.works
counted_vote t k x b W (votes.Full number free need) = abort_row t k x (FullAt W.server number free need) b.works

abbrev pub vote_stage : CoordinatorTable → Tickets → Transaction → WorkId → Vote → Stage → Row
vote_stage t k x W vote Open = ignored t k
vote_stage t k x W vote (Voting b) = if is_work W b.works then counted_vote t k x b W vote else ignored t k
vote_stage t k x W vote stage = told_stage t k x.tid W stage

abbrev pub vote_row : CoordinatorTable → Tickets → Tid → WorkId → Vote → Option Transaction → Row
vote_row t k T W vote (Some x) = vote_stage t k x W vote x.stage
vote_row t k T W vote None = dropped t k T W

abbrev pub done_stage : CoordinatorTable → Tickets → Tid → WorkId → Stage → Row
done_stage t k T W (Committed d) = if is_work W d.works && not (is_work W d.done) then forget_row t k T (record d { done = d.done ++ W ∷ [] }) else ignored t k
done_stage t k T W stage = ignored t k

abbrev pub done_row : CoordinatorTable → Tickets → Tid → WorkId → Option Transaction → Row
done_row t k T W (Some x) = done_stage t k T W x.stage
done_row t k T W None = ignored t k

-- ---- Thanks

abbrev pub thanks_stage : CoordinatorTable → Tickets → Tid → Stage → Row
thanks_stage t k T (Committed d) = if d.thanked then ignored t k else forget_row t k T (record d { thanked = true })
thanks_stage t k T (Aborted cause) = quiet (record t { transactions = without T t.transactions }) k
thanks_stage t k T stage = ignored t k

abbrev pub thanks_row : CoordinatorTable → Tickets → Tid → Option Transaction → Row
thanks_row t k T (Some x) = thanks_stage t k T x.stage
thanks_row t k T None = ignored t k

-- ---- every message

-- over how many records are free and not promised; a message that no coordinator takes is ignored
abbrev pub coordinator_row : CoordinatorTable → ℕ → Tickets → Message → Row
coordinator_row t free k (messages.Begin c request) = begin_row t k c request
coordinator_row t free k (messages.End c request T works) = end_row t free k c request T works (transaction_at T t.transactions)
coordinator_row t free k (messages.Abort c request T works) = abort_request t k c T works (transaction_at T t.transactions)
coordinator_row t free k (messages.Thanks c T) = thanks_row t k T (transaction_at T t.transactions)
coordinator_row t free k (messages.Vote T W vote) = vote_row t k T W vote (transaction_at T t.transactions)
coordinator_row t free k (messages.Done T W) = done_row t k T W (transaction_at T t.transactions)
coordinator_row t free k (messages.Inquire T W) = inquire_row t k T W (transaction_at T t.transactions)
coordinator_row t free k m = ignored t k

-- ---- without a message

-- what a transaction tells once more
abbrev pub told_again : Transaction → Stage → List Sent
told_again x (Committed d) = commits x.tid (besides d.works d.done) ++ (if d.thanked then [] else committed_to x ∷ [])
told_again x (Aborted cause) = aborted_to x cause ∷ []
told_again x stage = []

abbrev pub coordinator_again : List Transaction → List Sent
coordinator_again [] = []
coordinator_again (x ∷ xs) = told_again x x.stage ++ coordinator_again xs

-- the records that are promised for flags
abbrev pub is_voting : Stage → Bool
is_voting (Voting b) = true
is_voting stage = false

abbrev pub promised : List Transaction → ℕ
promised [] = 0
promised (x ∷ xs) = if is_voting x.stage then promised xs + 1 else promised xs

-- every decided transaction counts as thanked
abbrev pub all_thanked : List Transaction → List Transaction
all_thanked [] = []
all_thanked (x ∷ xs) = thanked x.stage x ++ all_thanked xs

abbrev pub flags_of_thanked : List Transaction → List Change
flags_of_thanked [] = []
flags_of_thanked (x ∷ xs) = thanked_changes x.stage x ++ flags_of_thanked xs

abbrev pub close_clients_row : CoordinatorTable → Tickets → Row
close_clients_row t k = record (quiet (record t { transactions = all_thanked t.transactions }) k) { changes = flags_of_thanked t.transactions }

-- ---- after a restart

abbrev pub restored_transaction : Tid → Option FlagState → List Transaction
restored_transaction T None = []
restored_transaction T (Some flag) = record {
  tid = T;
  client = flag.client;
  begun = None;
  stage = Committed (record { works = flag.works; done = []; thanked = false });
} ∷ []

abbrev pub restored_transactions : StableState → List Tid → List Transaction
restored_transactions x [] = []
restored_transactions x (T ∷ Ts) = restored_transaction T (x.flags T) ++ restored_transactions x Ts

-- the greatest request in a flag of the client
abbrev pub seen_in_flag : ClientNo → Option FlagState → ℕ → ℕ
seen_in_flag c None seen = seen
seen_in_flag c (Some flag) seen = if client_eq flag.client c && nat_lt seen flag.request.0 then flag.request.0 else seen

abbrev pub seen_in_flags : StableState → List Tid → ClientNo → ℕ
seen_in_flags x [] c = 0
seen_in_flags x (T ∷ Ts) c = seen_in_flag c (x.flags T) (seen_in_flags x Ts c)

-- the table of the flags, whose transactions are these, rising
abbrev pub restored_coordinator : StableState → List Tid → CoordinatorTable
restored_coordinator x Ts = record { transactions = restored_transactions x Ts; seen = seen_in_flags x Ts }
