-- Whatever is named is at one of so many servers, and each message to a server is for one of these.
use Rattle.jn_system_settling.proofs.Common.{◌≡◌, ◌≤◌, ◌<◌, ℕ, zero, suc, ◌+◌, Bool, true, false, List, [], ◌∷◌, ◌++◌, take, Option, Some, None, true≢false, refl, sym, ◌∙◌, ap, subst, arith, if◌then◌else◌, slice_get, ◌&&◌, not, nat_lt, nat_eq, length, nat_tests, ServerNo, ClientNo, Tid, WorkId, Tickets, Cause, Party, Client, Server, Answer, Command, client_eq, tid_tells, work_tells, AllFiles, change, answer_to, list_change, Intention, Message, Vote, Outstanding, Taken, WorkEntry, Phase, Transaction, Stage, Open, Voting, Committed, Aborted, StableState, Prepared, FlagState, Pick, Change, AddReady, MarkGoing, RemoveWork, made_by, made_all, stable, RowOutcome, Sent, ClientTable, Commanded, Refuses, Sends, command_row, take_row, if_waits, is_current, opens, opened_row, sent_again, WorkerTable, WorkStorage, Wanted, work_at, work_of, with_phase, without, after_grant, wants_of, is_fit, refusal_of, granted_row, repeated, op_phase, op_row, prepare_phase, prepare_row, commit_phase, drop_phase, drop_row, worker_row, going_work, going_row, carried_row, intentions_of, worker_step, worker_again, timed_out, restored_worker, CoordinatorTable, transaction_at, is_work, all_in, besides, drops, commits, prepares, end_stage, end_row, abort_stage, abort_request, told_stage, inquire_row, with_work, counted_vote, vote_stage, vote_row, begin_again, begun_by, after_closing, coordinator_row, commit_row, abort_row, told_again, coordinator_again, close_clients_row, with_epoch, World, Memory, new_memory, opening, Room, storage_of, server_row, of_timeout, server_timeout, restored, Step, IsStep, after, works, sent_now, LockFacts, are_of_flags, coordinator-aside, close-aside, are_near, is_few, IsSmall, is_small, is_small_stage, are_small_stages, Sizes, openings, request_eq, RequestNo, Text, ClientRow, by_command, by_ignoring, by_answering, by_telling, ServerRow, of_message, of_work, of_closing, Quiet, event_begins, none_changes, is_refused, client_repeats, server_repeats, is_lost, StepCase, client_row, row_done, row_stopped, gone_late, gone_down, come_up, found_anew, dismissed, quietly, step-case, one-client, some-memory, memory-now, memory-gone, found-now, found-then, row-either, row-of-step, holds-of, Asked, Here, asked_for, asked_here, Left, left_of}
use Rattle.jn_base.specs.declared.op.Command.TheVariants as commands
use Rattle.jn_msgs.specs.declared.message.Message.TheVariants as messages
use Rattle.jn_msgs.specs.declared.message.Vote.TheVariants as votes
use Rattle.jn_msgs.specs.declared.message.Outcome.TheVariants as outcomes
use Rattle.jn_rows.specs.declared.client.Taken.TheVariants as taken
use Rattle.jn_rows.specs.declared.worker.Phase.TheVariants as phases
use Rattle.jn_rows.specs.Worker as worker
use Rattle.jn_system_settling.proofs.Settling.ClientFits.{sent_with}
use Rattle.jn_system_settling.proofs.Settling.WorldSizes.{up-sizes, up-locks}
use Rattle.jn_system_settling.proofs.AtRest.Owners.{Owner, owner_in, all_owned, grown, owned-found}
use Rattle.jn_system_settling.proofs.AtRest.OwnerSteps.{AreOwned, step-keeps-owned}

-- ---- messages

abbrev pub near : ℕ → Tid → Bool
near n T = nat_lt T.server.0 n

abbrev pub work_near : ℕ → WorkId → Bool
work_near n W = nat_lt W.server.0 n

abbrev pub any_near : ℕ → Option Tid → Bool
any_near n None = true
any_near n (Some T) = near n T

abbrev pub is_within : ℕ → Party → Bool
is_within n (Client c) = true
is_within n (Server s) = nat_lt s.0 n

-- what its taker may name again; of the works of an End and an Abort `Sizes` speaks
abbrev pub is_named : ℕ → Message → Bool
is_named n (messages.Open c q T) = near n T
is_named n (messages.End c q T works) = near n T
is_named n (messages.Abort c q T works) = near n T
is_named n (messages.Begun c q T) = any_near n T
is_named n (messages.Outcome c T outcome) = near n T
is_named n (messages.Prepare T c W) = near n T && work_near n W
is_named n (messages.Commit T W) = near n T
is_named n (messages.Vote T W vote) = near n T && work_near n W
is_named n (messages.Inquire T W) = near n T && work_near n W
is_named n m = true

abbrev pub is_inside : ℕ → Sent → Bool
is_inside n x = is_within n x.0 && is_named n x.1

abbrev pub are_inside : ℕ → List Sent → Bool
are_inside n [] = true
are_inside n (x ∷ xs) = is_inside n x && are_inside n xs

inside-both : (n : ℕ) (a b : List Sent) → are_inside n a ≡ true → are_inside n b ≡ true → are_inside n (a ++ b) ≡ true
inside-both n [] b h k = k
inside-both n (x ∷ a) b h k = let again = inside-both n a b in grind (arith, h, k)

inside-at : (n : ℕ) (xs : List Sent) (k : ℕ) (x : Sent) → are_inside n xs ≡ true → slice_get xs k ≡ Some x → is_inside n x ≡ true
inside-at n [] k x h e = absurd (cc e)
inside-at n (y ∷ ys) zero x h e = grind (arith, h, e)
inside-at n (y ∷ ys) (suc k) x h e = inside-at n ys k x (grind (arith, h)) e

first-of : (a b : Bool) → (a && b) ≡ true → a ≡ true
first-of a b h = grind arith

second-of : (a b : Bool) → (a && b) ≡ true → b ≡ true
second-of a b h = grind arith

within-of : (n : ℕ) (x : Sent) → is_inside n x ≡ true → is_within n x.0 ≡ true
within-of n x h = first-of (is_within n x.0) (is_named n x.1) h

named-of : (n : ℕ) (x : Sent) → is_inside n x ≡ true → is_named n x.1 ≡ true
named-of n x h = second-of (is_within n x.0) (is_named n x.1) h

-- ---- clients

abbrev pub is_inside_again : ℕ → Option Outstanding → Bool
is_inside_again n None = true
is_inside_again n (Some o) = is_inside n (o.to, o.message)

abbrev pub client_near : ℕ → ClientTable → Bool
client_near n t = is_inside_again n t.outstanding && any_near n t.transaction

abbrev commanded_near : ℕ → Commanded → Bool
commanded_near n (Refuses refusal) = true
commanded_near n (Sends t to message) = is_inside n (to, message) && client_near n t

command-near : (n : ℕ) (t : ClientTable) (j : ℕ) (c : Command) → t.servers ≡ n → client_near n t ≡ true → commanded_near n (command_row t j c) ≡ true
command-near n t j (commands.Begin s) e h = grind (arith, e, h)
command-near n t j (commands.Open s) e h = grind (arith, e, h)
command-near n t j (commands.Do s op) e h = grind (arith, e, h)
command-near n t j commands.End e h = grind (arith, e, h)
command-near n t j commands.Abort e h = grind (arith, e, h)

abbrev taken_near : ℕ → ClientTable × Taken → Bool
taken_near n r = client_near n r.0 && are_inside n (sent_with r.1)

take-near : (n : ℕ) (t : ClientTable) (m : Message) → client_near n t ≡ true → is_named n m ≡ true → taken_near n (take_row t m) ≡ true
take-near n t (messages.Begun c request answer) h k = grind (arith, h, k)
take-near n t (messages.Opened c request T answer) h k = by t.outstanding
  where
    opened : (j : ℕ) (answer : Option WorkId) → taken_near n (opened_row t j answer) ≡ true
    opened j (Some W) = grind (arith, h)
    opened j None = grind (arith, h)

    on : (o : Outstanding) (b : Bool) → taken_near n (if b then opened_row t o.event answer else (t, taken.Ignored)) ≡ true
    on o true = opened o.event answer
    on o false = grind (arith, h)

    by : (o : Option Outstanding) → taken_near n (if_waits t o (λ o. client_eq c t.client && (request_eq o.request request && (is_current t T && opens answer o.command))) (λ j. opened_row t j answer)) ≡ true
    by None = grind (arith, h)
    by (Some o) = on o (client_eq c t.client && (request_eq o.request request && (is_current t T && opens answer o.command)))
take-near n t (messages.Answer c request answer) h k = grind (arith, h, k)
take-near n t (messages.Outcome c T outcomes.Committed) h k = grind (arith, h, k)
take-near n t (messages.Outcome c T (outcomes.Aborted cause)) h k = grind (arith, h, k)
take-near n t (messages.Outcome c T (outcomes.Waiting s u held)) h k = grind (arith, h)
take-near n t (messages.Outcome c T (outcomes.NotKnown s epoch)) h k = grind (arith, h)
take-near n t m h k = grind (arith, h)

-- ---- a coordinator's rows

-- any client's
abbrev pub near_owner : ℕ → Owner
near_owner n c T = near n T

near-both : (n : ℕ) (a b : List WorkId) → are_near n a ≡ true → are_near n b ≡ true → are_near n (a ++ b) ≡ true
near-both n [] b h k = k
near-both n (W ∷ a) b h k = let again = near-both n a b in grind (arith, h, k)

near-besides : (n : ℕ) (Vs Ws : List WorkId) → are_near n Vs ≡ true → are_near n (besides Vs Ws) ≡ true
near-besides n [] Ws h = refl
near-besides n (V ∷ Vs) Ws h = let again = near-besides n Vs Ws in grind (arith, h)

few-near : (n : ℕ) (Ws : List WorkId) → is_few n Ws ≡ true → are_near n Ws ≡ true
few-near n Ws h = second-of (not (nat_lt n (length Ws))) (are_near n Ws) h

pub near-one : (n : ℕ) (W : WorkId) (Vs : List WorkId) → are_near n Vs ≡ true → is_work W Vs ≡ true → work_near n W ≡ true
near-one n W [] h k = absurd (true≢false (sym k))
near-one n W (V ∷ Vs) h k = let again = near-one n W Vs in let tells = work_tells V W in grind (arith, h, k)

drops-inside : (n : ℕ) (T : Tid) (Ws : List WorkId) → are_near n Ws ≡ true → are_inside n (drops T Ws) ≡ true
drops-inside n T [] h = refl
drops-inside n T (W ∷ Ws) h = let again = drops-inside n T Ws in grind (arith, h)

commits-inside : (n : ℕ) (T : Tid) (Ws : List WorkId) → near n T ≡ true → are_near n Ws ≡ true → are_inside n (commits T Ws) ≡ true
commits-inside n T [] k h = refl
commits-inside n T (W ∷ Ws) k h = let again = commits-inside n T Ws k in grind (arith, h, k)

prepares-inside : (n : ℕ) (T : Tid) (c : ClientNo) (Ws : List WorkId) → near n T ≡ true → are_near n Ws ≡ true → are_inside n (prepares T c Ws) ≡ true
prepares-inside n T c [] k h = refl
prepares-inside n T c (W ∷ Ws) k h = let again = prepares-inside n T c Ws k in grind (arith, h, k)

pub found-small : (n : ℕ) (T : Tid) (xs : List Transaction) (y : Transaction) → are_small_stages n xs ≡ true → transaction_at T xs ≡ Some y → is_small_stage n y.stage ≡ true
found-small n T [] y h q = absurd (cc q)
found-small n T (x ∷ xs) y h q = let again = found-small n T xs y in grind (arith, h, q)

module _ (n : ℕ) (t : CoordinatorTable) (free : ℕ) (k : Tickets) where
  abbrev Inside : RowOutcome CoordinatorTable → Type 0
  Inside row = are_inside n row.messages ≡ true

  either : (b : Bool) (p q : RowOutcome CoordinatorTable) → Inside p → Inside q → Inside (if b then p else q)
  either true p q h l = h
  either false p q h l = l

  told-inside : (T : Tid) (W : WorkId) (s : Stage) → near n T ≡ true → work_near n W ≡ true → Inside (told_stage t k T W s)
  told-inside T W s h l = grind (arith, h, l)

  module _ (y : Transaction) (h : near n y.tid ≡ true) where
    commit-inside : (request : RequestNo) (works : List WorkId) → are_near n works ≡ true → Inside (commit_row t k y request works)
    commit-inside request works l = inside-both n (commits y.tid works) _ (commits-inside n y.tid works h l) (grind (arith, h))

    abort-inside : (cause : Cause) (works : List WorkId) → are_near n works ≡ true → Inside (abort_row t k y cause works)
    abort-inside cause works l = inside-both n (drops y.tid works) _ (drops-inside n y.tid works l) (grind (arith, h))

    end-inside : (request : RequestNo) (works : List WorkId) (s : Stage) → are_near n works ≡ true → is_small_stage n s ≡ true → Inside (end_stage t free k y request works s)
    end-inside request works s l m = grind (arith, commit-inside request, abort-inside, prepares-inside n y.tid y.client, near-besides n, h, l, m)

    abort-stage-inside : (works : List WorkId) (s : Stage) → are_near n works ≡ true → is_small_stage n s ≡ true → Inside (abort_stage t k y works s)
    abort-stage-inside works s l m = grind (arith, abort-inside, near-both n, near-besides n, h, l, m)

    vote-inside : (W : WorkId) (vote : Vote) (s : Stage) → work_near n W ≡ true → is_small_stage n s ≡ true → Inside (vote_stage t k y W vote s)
    vote-inside W vote (Voting b) l m = either (is_work W b.works) _ _ (by vote) refl
      where
        works : are_near n b.works ≡ true
        works = few-near n b.works m

        by : (vote : Vote) → Inside (counted_vote t k y b W vote)
        by votes.Ready = either (all_in b.works (with_work W b.ready)) _ _ (commit-inside b.request b.works works) refl
        by (votes.Waiting u held) = grind (arith, h)
        by (votes.Lost i j) = abort-inside _ (besides b.works (W ∷ [])) (near-besides n b.works (W ∷ []) works)
        by (votes.Broken u held) = abort-inside _ b.works works
        by (votes.Full i j need) = abort-inside _ b.works works
    vote-inside W vote s l m = grind (arith, h, l)

  module _ (mine : nat_lt k.server.0 n ≡ true) (tids : all_owned (near_owner n) t.transactions ≡ true) (small : are_small_stages n t.transactions ≡ true) where
    -- a row on a transaction, if it is there
    on-one : (T : Tid) (f : Option Transaction → RowOutcome CoordinatorTable) → Inside (f None) → ((y : Transaction) → near n y.tid ≡ true → is_small_stage n y.stage ≡ true → Inside (f (Some y))) → Inside (f (transaction_at T t.transactions))
    on-one T f none some = by (transaction_at T t.transactions) refl
      where
        by : (o : Option Transaction) → transaction_at T t.transactions ≡ o → Inside (f o)
        by None e = none
        by (Some y) e = some y (owned-found (near_owner n) T t.transactions y tids e) (found-small n T t.transactions y small e)

    begun-inside : (c : ClientNo) (q : RequestNo) (xs : List Transaction) → all_owned (near_owner n) xs ≡ true → Inside (begin_again t k c q (begun_by c q xs))
    begun-inside c q [] h = refl
    begun-inside c q (x ∷ xs) h = let again = begun-inside c q xs in grind (arith, h)

    coordinator-inside : (m : Message) → is_named n m ≡ true → is_small n m ≡ true → Inside (coordinator_row t free k m)
    coordinator-inside (messages.Begin c q) h l = either (nat_lt (t.seen c) q.0) _ _ (either (nat_lt (length (after_closing c t.transactions)) 64) _ _ (grind (arith, mine)) refl) (either (nat_eq (t.seen c) q.0) _ _ (begun-inside c q t.transactions tids) refl)
    coordinator-inside (messages.End c q T works) h l = on-one T (end_row t free k c q T works) (let d = drops-inside n T works (few-near n works l) in grind (arith, h, d)) (λ y near stage. end-inside y near q works y.stage (few-near n works l) stage)
    coordinator-inside (messages.Abort c q T works) h l = on-one T (abort_request t k c T works) (let d = drops-inside n T works (few-near n works l) in grind (arith, h, d)) (λ y near stage. abort-stage-inside y near works y.stage (few-near n works l) stage)
    coordinator-inside (messages.Vote T W vote) h l = on-one T (vote_row t k T W vote) (grind (arith, h)) (λ y near stage. vote-inside y near W vote y.stage (second-of _ _ h) stage)
    coordinator-inside (messages.Inquire T W) h l = on-one T (inquire_row t k T W) (grind (arith, h)) (λ y near stage. told-inside T W y.stage (first-of _ _ h) (second-of _ _ h))
    coordinator-inside (messages.Thanks c T) h l = grind arith
    coordinator-inside (messages.Done T W) h l = grind arith
    coordinator-inside m h l = refl

told-again-inside : (n : ℕ) (x : Transaction) (s : Stage) → near n x.tid ≡ true → is_small_stage n s ≡ true → are_inside n (told_again x s) ≡ true
told-again-inside n x (Committed d) h l = inside-both n (commits x.tid (besides d.works d.done)) _ (commits-inside n x.tid (besides d.works d.done) h (near-besides n d.works d.done (few-near n d.works l))) (grind (arith, h))
told-again-inside n x (Aborted cause) h l = grind (arith, h)
told-again-inside n x Open h l = refl
told-again-inside n x (Voting b) h l = refl

all-again-inside : (n : ℕ) (xs : List Transaction) → all_owned (near_owner n) xs ≡ true → are_small_stages n xs ≡ true → are_inside n (coordinator_again xs) ≡ true
all-again-inside n [] h l = refl
all-again-inside n (x ∷ xs) h l = inside-both n (told_again x x.stage) (coordinator_again xs) (told-again-inside n x x.stage (first-of _ _ h) (first-of _ _ l)) (all-again-inside n xs (second-of _ _ h) (second-of _ _ l))

-- ---- a worker's rows

abbrev pub entry_near : ℕ → WorkEntry → Bool
entry_near n w = work_near n w.name && near n w.tid

abbrev pub table_near : ℕ → WorkerTable → Bool
table_near n [] = true
table_near n (w ∷ ws) = entry_near n w && table_near n ws

abbrev pub change_near : ℕ → Change → Bool
change_near n (AddReady head list reads) = work_near n head.work && near n head.tid
change_near n change = true

abbrev pub changes_near : ℕ → List Change → Bool
changes_near n [] = true
changes_near n (c ∷ cs) = change_near n c && changes_near n cs

found-entry : (n : ℕ) (W : WorkId) (t : WorkerTable) (w : WorkEntry) → table_near n t ≡ true → work_at W t ≡ Some w → entry_near n w ≡ true
found-entry n W [] w h e = absurd (cc e)
found-entry n W (v ∷ vs) w h e = let again = found-entry n W vs w in grind (arith, h, e)

phase-near : (n : ℕ) (W : WorkId) (p : Phase) (t : WorkerTable) → table_near n t ≡ true → table_near n (with_phase W p t) ≡ true
phase-near n W p [] h = refl
phase-near n W p (v ∷ vs) h = let again = phase-near n W p vs in grind (arith, h)

less-near : (n : ℕ) (W : WorkId) (t : WorkerTable) → table_near n t ≡ true → table_near n (without W t) ≡ true
less-near n W [] h = refl
less-near n W (v ∷ vs) h = let again = less-near n W vs in grind (arith, h)

more-near : (n : ℕ) (a b : WorkerTable) → table_near n a ≡ true → table_near n b ≡ true → table_near n (a ++ b) ≡ true
more-near n [] b h k = k
more-near n (v ∷ a) b h k = let again = more-near n a b in grind (arith, h, k)

grant-near : (n : ℕ) (T : Tid) (W : WorkId) (wants : List Wanted) (t : WorkerTable) → table_near n t ≡ true → table_near n (after_grant T W wants t) ≡ true
grant-near n T W wants [] h = refl
grant-near n T W wants (v ∷ vs) h = let again = grant-near n T W wants vs in grind (arith, h)

again-inside : (n : ℕ) (x : StableState) (t : WorkerTable) → table_near n t ≡ true → are_inside n (worker_again x t) ≡ true
again-inside n x [] h = refl
again-inside n x (v ∷ vs) h = let again = again-inside n x vs in grind (arith, h)

-- of a worker's row and a server's
pub record IsNear (n : ℕ) (t : WorkerTable) (changes : List Change) (sent : List Sent) : Type 0 where
  pub table : table_near n t ≡ true
  pub changes_are : changes_near n changes ≡ true
  pub sent_are : are_inside n sent ≡ true

abbrev RowNear : ℕ → RowOutcome WorkerTable → Type 0
RowNear n row = IsNear n row.table row.changes row.messages

module _ (n : ℕ) (t : WorkerTable) (s : WorkStorage) (k : Tickets) (h : table_near n t ≡ true) where
  choose : (b : Bool) (p q : RowOutcome WorkerTable) → RowNear n p → RowNear n q → RowNear n (if b then p else q)
  choose true p q a b = a
  choose false p q a b = b

  still : (sent : List Sent) → are_inside n sent ≡ true → IsNear n t [] sent
  still sent l = record { table = h; changes_are = refl; sent_are = l }

  abbrev here : Here
  here = asked_here t s.state.files k

  op-near : (q : Asked) (w : WorkEntry) (p : Phase) → RowNear n (op_phase here q w p)
  op-near q w (phases.Active a) = let answer = answer_to q.op (change (list_change a.list) s.state.files) in
      choose (nat_eq q.number.0 (a.last + 1)) _ _ (grants answer (wants_of q.op (is_fit answer)) (refusal_of t w.name a q.op answer (wants_of q.op (is_fit answer)))) (choose (nat_eq q.number.0 a.last) _ _ (repeats a.kept) (still _ refl))
    where
      grants : (answer : Answer) (wants : List Wanted) (o : Option Answer) → RowNear n (granted_row here q w a answer wants o)
      grants answer wants o = grind (arith, phase-near n, grant-near n, h)

      repeats : (o : Option Answer) → RowNear n (repeated here q o)
      repeats o = grind (arith, h)
  op-near q w _ = still _ refl

  prepare-near : (T : Tid) (c : ClientNo) (w : WorkEntry) (p : Phase) → near n T ≡ true → entry_near n w ≡ true → RowNear n (prepare_phase t s k T c w p)
  prepare-near T c w p l e = grind (arith, phase-near n, grant-near n, h, l, e)

  drop-near : (W : WorkId) (p : Phase) → RowNear n (drop_phase t s k W p)
  drop-near W p = let less = less-near n W t h in grind (arith, h, less)

  commit-near : (W : WorkId) (p : Phase) → RowNear n (commit_phase t s k W p)
  commit-near W p = grind (arith, h)

  -- a row on a work, if it is there
  on-work : (W : WorkId) (f : Option WorkEntry → RowOutcome WorkerTable) → RowNear n (f None) → ((w : WorkEntry) → entry_near n w ≡ true → RowNear n (f (Some w))) → RowNear n (f (work_at W t))
  on-work W f none some = by (work_at W t) refl
    where
      by : (o : Option WorkEntry) → work_at W t ≡ o → RowNear n (f o)
      by None e = none
      by (Some w) e = some w (found-entry n W t w h e)

  worker-near : (m : Message) → nat_lt k.server.0 n ≡ true → is_named n m ≡ true → RowNear n (worker_row t s k m)
  worker-near (messages.Open c request T) mine l = grind (arith, more-near n t, h, mine, l)
  worker-near (messages.Op c request W number op) mine l = on-work W (op_row here (asked_for c request number op) W) (still _ refl) (λ w e. op-near (asked_for c request number op) w w.phase)
  worker-near (messages.Prepare T c W) mine l = on-work W (prepare_row t s k T c W) (still _ (grind (arith, l))) (λ w e. prepare-near T c w w.phase (first-of _ _ l) e)
  worker-near (messages.Commit T W) mine l = on-work W (worker.commit_row t s k T W) (still _ (grind (arith, l))) (λ w e. commit-near W w.phase)
  worker-near (messages.Drop T W) mine l = on-work W (worker.drop_row t s k W) (still _ refl) (λ w e. drop-near W w.phase)
  worker-near m mine l = still _ refl

  step-near : (row : RowOutcome WorkerTable) → worker_step t s k ≡ Some row → RowNear n row
  step-near row e = by (going_work s.state t) refl e
    where
      some : (a b : RowOutcome WorkerTable) → Some a ≡ Some b → a ≡ b
      some a b q = cc

      going : (x : StableState) (t : WorkerTable) (w : WorkEntry) → table_near n t ≡ true → going_work x t ≡ Some w → entry_near n w ≡ true
      going x [] w h e = absurd (cc e)
      going x (v ∷ vs) w h e = let again = going x vs w in grind (arith, h, e)

      carried : (w : WorkEntry) (o : Option Intention) → entry_near n w ≡ true → RowNear n (carried_row t k w o)
      carried w o l = let less = less-near n w.name t h in grind (arith, h, l, less)

      rest : (b : Bool) → (if b then Some (record { table = t; changes = []; messages = []; notes = []; tickets = k }) else None) ≡ Some row → RowNear n row
      rest true q = subst (λ (z : RowOutcome WorkerTable). RowNear n z) (some _ row q) (still [] refl)
      rest false q = absurd (cc q)

      by : (o : Option WorkEntry) → going_work s.state t ≡ o → going_row t s k o ≡ Some row → RowNear n row
      by (Some w) f q = subst (λ (z : RowOutcome WorkerTable). RowNear n z) (some _ row q) (carried w (slice_get (intentions_of (s.state.works w.name)) (s.next w.name)) (going s.state t w h f))
      by None f q = rest s.rubbish q

-- ---- stable states

abbrev pub StoredNear : ℕ → StableState → Type 0
StoredNear n x = (W : WorkId) (p : Prepared) → x.works W ≡ Some p → (work_near n W && near n p.tid) ≡ true

none-prepared : (a : Prepared) → None ≡ Some a → ⊥
none-prepared a e = cc

changed-near : (n : ℕ) (c : Change) (x : StableState) → change_near n c ≡ true → StoredNear n x → StoredNear n (made_by c x)
changed-near n (AddReady head list reads) x h old W p e = let tells = work_tells head.work W in let before = old W p in grind (arith, h, e)
changed-near n (MarkGoing V) x h old W p e = let tells = work_tells V W in let before = old V in let other = old W p in grind (arith, e)
changed-near n (RemoveWork V) x h old W p e = let before = old W p in grind (arith, e)
changed-near n c x h old W p e = old W p e

all-near : (n : ℕ) (cs : List Change) (x : StableState) → changes_near n cs ≡ true → StoredNear n x → StoredNear n (made_all cs x)
all-near n [] x h old = old
all-near n (c ∷ cs) x h old = all-near n cs (made_by c x) (second-of _ _ h) (changed-near n c x (first-of _ _ h) old)

front-near : (n j : ℕ) (cs : List Change) (x : StableState) → changes_near n cs ≡ true → StoredNear n x → StoredNear n (made_all (take j cs) x)
front-near n zero [] x h old = old
front-near n (suc j) [] x h old = old
front-near n zero (c ∷ cs) x h old = old
front-near n (suc j) (c ∷ cs) x h old = front-near n j cs (made_by c x) (second-of _ _ h) (changed-near n c x (first-of _ _ h) old)

flags-near : (n : ℕ) (cs : List Change) → are_of_flags cs ≡ true → changes_near n cs ≡ true
flags-near n [] h = refl
flags-near n (c ∷ cs) h = let again = flags-near n cs in grind (arith, h)

restored-near : (n : ℕ) (x : StableState) (Ws : List WorkId) → StoredNear n x → table_near n (restored_worker x Ws) ≡ true
restored-near n x [] h = refl
restored-near n x (W ∷ Ws) h = let again = restored-near n x Ws h in let own = h W in grind (arith, again)

-- ---- the world

pub record AreNear (n : ℕ) (w : World) : Type 0 where
  pub sent : are_inside n w.sent ≡ true
  pub clients : (c : ClientNo) → client_near n (w.clients c) ≡ true
  pub works : (s : ServerNo) (m : Memory) → w.memory s ≡ Some m → table_near n m.worker ≡ true
  pub stored : (s : ServerNo) (c : Pick) → StoredNear n (w.found s c)

pub record Within (n : ℕ) (w : World) : Type 0 where
  pub near_all : AreNear n w
  pub owned : AreOwned w

-- a transaction of which a message says that it began
owner-near : (n : ℕ) (sent : List Sent) (c : ClientNo) (T : Tid) → are_inside n sent ≡ true → owner_in (openings sent) c T ≡ true → near n T ≡ true
owner-near n [] c T h k = absurd (true≢false (sym k))
owner-near n ((to, messages.Begun d q (Some U)) ∷ xs) c T h k = let again = owner-near n xs c T in let tells = tid_tells U T in grind (arith, h, k)
owner-near n ((to, _) ∷ xs) c T h k = owner-near n xs c T (second-of _ _ h) k

module _ (n : ℕ) (at_most : n ≤ 8) (w : World) (sizes : Sizes n w) (locks : LockFacts w) (within : Within n w) where
  h : AreNear n w
  h = within.near_all

  -- a message is for one of these servers
  pub to-near : (k : ℕ) (s : ServerNo) (message : Message) → slice_get w.sent k ≡ Some (Server s, message) → s.0 < n
  to-near k s message e = let at = within-of n (Server s, message) (inside-at n w.sent k (Server s, message) h.sent e) in grind (arith, nat_tests, at)

  pub waits-near : (c : ClientNo) (o : Outstanding) (s : ServerNo) → (w.clients c).outstanding ≡ Some o → o.to ≡ Server s → s.0 < n
  waits-near c o s e to = let at = within-of n (o.to, o.message) (ap (is_inside_again n) (sym e) ∙ first-of _ _ (h.clients c)) in let here = ap (is_within n) (sym to) ∙ at in grind (arith, nat_tests, here)

  pub tids-near : (s : ServerNo) (m : Memory) → w.memory s ≡ Some m → all_owned (near_owner n) m.coordinator.transactions ≡ true
  tids-near s m e = grown (owner_in (openings w.sent)) (near_owner n) (λ c T k. owner-near n w.sent c T h.sent k) m.coordinator.transactions ((within.owned s).table m e)

  abbrev MemoryNear : RowOutcome Memory → Type 0
  MemoryNear row = IsNear n row.table.worker row.changes row.messages

  row-near : (s : ServerNo) (m : Memory) (room : Room) (k : ℕ) (message : Message) → w.memory s ≡ Some m → slice_get w.sent k ≡ Some (Server s, message) → MemoryNear (server_row m (stable (w.found s)) room message)
  row-near s m room k message up e = row-either MemoryNear m (stable (w.found s)) room message (worker-near n m.worker (storage_of m (stable (w.found s)) room) m.tickets (h.works s m up) message mine here) (record {
    table = h.works s m up;
    changes_are = let a = coordinator-aside m.coordinator room.free.records m.tickets message in flags-near n (coordinator_row m.coordinator room.free.records m.tickets message).changes a.flags;
    sent_are = let z = up-sizes n at_most w sizes locks s m up in coordinator-inside n m.coordinator room.free.records m.tickets mine (tids-near s m up) z.stages message here (holds-of (IsSmall n) w.sent k (Server s, message) sizes.sent e);
  })
    where
      here : is_named n message ≡ true
      here = named-of n (Server s, message) (inside-at n w.sent k (Server s, message) h.sent e)

      mine : nat_lt m.tickets.server.0 n ≡ true
      mine = let f = up-locks n at_most w sizes locks s m up in ap (λ (q : ServerNo). nat_lt q.0 n) f.server ∙ within-of n (Server s, message) (inside-at n w.sent k (Server s, message) h.sent e)

  row-of : (s : ServerNo) (m : Memory) (stop : Option (Pick → Left)) (step : Step) (k : Option ℕ) (row : RowOutcome Memory) → w.memory s ≡ Some m → ServerRow w s m stop step k row → MemoryNear row
  row-of s m _ _ _ _ up (of_message stop k room message is) = row-near s m room k message up is
  row-of s m _ _ _ _ up (of_work stop room row is) = row-of-step MemoryNear m (stable (w.found s)) room row is (step-near n m.worker (storage_of m (stable (w.found s)) room) m.tickets (h.works s m up))
  row-of s m _ _ _ _ up of_closing = record {
    table = h.works s m up;
    changes_are = let a = close-aside m.coordinator m.tickets in flags-near n (close_clients_row m.coordinator m.tickets).changes a.flags;
    sent_are = refl;
  }

  -- ---- one of them changes

  abbrev WorksNear : Memory → Type 0
  WorksNear m = table_near n m.worker ≡ true

  late-near : (m : Memory) → table_near n m.worker ≡ true → (o : Option WorkEntry) → table_near n (of_timeout m (timed_out m.worker o)).worker ≡ true
  late-near m l o = grind (arith, phase-near n, l)

  raised-near : (x : StableState) → StoredNear n x → StoredNear n (with_epoch x)
  raised-near x h W p e = h W p e

  -- what a client's row sends, and its table
  took-near : (c : ClientNo) (k : ℕ) (message : Message) (r : ClientTable × Taken) → slice_get w.sent k ≡ Some (Client c, message) → take_row (w.clients c) message ≡ r → (are_inside n (w.sent ++ sent_with r.1) ≡ true) × (client_near n r.0 ≡ true)
  took-near c k message r is e = let l = subst (λ r. taken_near n r ≡ true) e (take-near n (w.clients c) message (h.clients c) (named-of n (Client c, message) (inside-at n w.sent k (Client c, message) h.sent is))) in
      (inside-both n w.sent _ h.sent (second-of _ _ l), first-of _ _ l)

  row-of-client : (c : ClientNo) (step : Step) (t : ClientTable) (sent : List Sent) (lines : List Text) → ClientRow w c step t sent lines → (are_inside n sent ≡ true) × (client_near n t ≡ true)
  row-of-client c _ _ _ _ (by_command command t to message e) = let size = sizes.clients c in let l = subst (λ r. commanded_near n r ≡ true) e (command-near n (w.clients c) w.event command size.servers_are (h.clients c)) in
      (inside-both n w.sent ((to, message) ∷ []) h.sent (grind (arith, l)), second-of _ _ l)
  row-of-client c _ _ _ _ (by_ignoring k room stop message t is e) = (h.sent, (took-near c k message _ is e).1)
  row-of-client c _ _ _ _ (by_answering k room stop message t to answer is e) = took-near c k message _ is e
  row-of-client c _ _ _ _ (by_telling k room stop message t line answer is e) = took-near c k message _ is e

  again-near : (o : Option Outstanding) → is_inside_again n o ≡ true → are_inside n (sent_now (sent_again o)) ≡ true
  again-near o l = grind (arith, l)

  quiet-near : (step : Step) (event : ℕ) (sent : List Sent) (lines : List Text) → Quiet w step event sent lines → are_inside n sent ≡ true
  quiet-near _ _ _ _ (client_repeats c) = inside-both n w.sent _ h.sent (again-near (w.clients c).outstanding (first-of _ _ (h.clients c)))
  quiet-near _ _ _ _ (server_repeats s m e) = let z = up-sizes n at_most w sizes locks s m e in inside-both n w.sent _ h.sent
      (inside-both n (worker_again (stable (w.found s)) m.worker) (coordinator_again m.coordinator.transactions) (again-inside n (stable (w.found s)) m.worker (h.works s m e)) (all-again-inside n m.coordinator.transactions (tids-near s m e) z.stages))
  quiet-near _ _ _ _ event_begins = h.sent
  quiet-near _ _ _ _ (none_changes step) = h.sent
  quiet-near _ _ _ _ (is_refused c command refusal e) = h.sent
  quiet-near _ _ _ _ (is_lost k room stop s message is e) = h.sent

  -- ---- every step

  by-case : (step : Step) (now : World) → StepCase w step now → AreNear n now
  by-case step _ (client_row _ c t sent lines row) = let r = row-of-client c step t sent lines row in record { sent = r.0; clients = one-client (λ d t. client_near n t ≡ true) w.clients c t r.1 (λ d other. h.clients d); works = h.works; stored = h.stored }
  by-case step _ (row_done _ s m k row e is) = let r = row-of s m None step k row e is in record {
    sent = inside-both n w.sent row.messages h.sent r.sent_are;
    clients = h.clients;
    works = memory-now WorksNear w.memory h.works s row.table r.table;
    stored = found-now (StoredNear n) w h.stored s (λ c. made_all row.changes (w.found s c)) (λ c. all-near n row.changes (w.found s c) r.changes_are (h.stored s c));
  }
  by-case step _ (row_stopped _ s m k row made e is) = let r = row-of s m (Some made) step k row e is in record {
    sent = h.sent;
    clients = h.clients;
    works = memory-gone WorksNear w.memory h.works s;
    stored = found-now (StoredNear n) w h.stored s (λ c. left_of (made c) row.changes (w.found s c)) (λ c. front-near n (made c).whole row.changes (w.found s c) r.changes_are (h.stored s c));
  }
  by-case _ _ (gone_late s m T e) = record { sent = h.sent; clients = h.clients; works = memory-now WorksNear w.memory h.works s (server_timeout m T) (late-near m (h.works s m e) (work_of T m.worker)); stored = h.stored }
  by-case _ _ (gone_down s m e) = record { sent = h.sent; clients = h.clients; works = memory-gone WorksNear w.memory h.works s; stored = h.stored }
  by-case _ _ (come_up s pick Ws Ts e) = record {
    sent = h.sent;
    clients = h.clients;
    works = memory-now WorksNear w.memory h.works s (restored s (w.found s pick) Ws Ts) (restored-near n (w.found s pick) Ws (h.stored s pick));
    stored = found-now (StoredNear n) w h.stored s (λ c. with_epoch (w.found s pick)) (λ c. h.stored s pick);
  }
  by-case step _ (found_anew _ s found lines e is) = record { sent = h.sent; clients = h.clients; works = h.works; stored = found-then (StoredNear n) w h.stored s raised-near step found lines is }
  by-case _ _ dismissed = record { sent = h.sent; clients = λ c. refl; works = h.works; stored = h.stored }
  by-case step _ (quietly _ event sent lines is) = record { sent = quiet-near step event sent lines is; clients = h.clients; works = h.works; stored = h.stored }

  pub within-step : (step : Step) → IsStep step w → Within n (after step w)
  within-step step i = record { near_all = by-case step (after step w) (step-case w step); owned = step-keeps-owned n at_most w sizes locks within.owned step i }

pub opening-within : (n : ℕ) (files : AllFiles) (epochs : ServerNo → ℕ) → Within n (opening n files epochs)
opening-within n files epochs = record {
  near_all = record { sent = refl; clients = λ c. refl; works = λ s m e. subst (λ (z : Memory). table_near n z.worker ≡ true) (some-memory (new_memory s (epochs s)) m e) refl; stored = λ s c W p e. absurd (none-prepared p e) };
  owned = λ s. record { table = λ m e. subst (λ (z : Memory). all_owned (owner_in []) z.coordinator.transactions ≡ true) (some-memory (new_memory s (epochs s)) m e) refl; flags = λ c T f e. absurd (no-flag f e) };
}
  where
    no-flag : (f : FlagState) → None ≡ Some f → ⊥
    no-flag f e = cc
