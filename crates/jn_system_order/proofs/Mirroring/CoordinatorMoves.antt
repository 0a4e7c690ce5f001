-- What a coordinator does with a message of one of its transactions, as steps of the machine.
use Rattle.jn_system_order.proofs.Common.{◌≡◌, ◌≢◌, ◌⊎◌, inl, inr, ℕ, Bool, true, false, List, [], ◌∷◌, ◌++◌, Option, Some, None, refl, sym, ap, subst, arith, ◌&&◌, not, nat_lt, if◌then◌else◌, All, All-nil, All-cons, All-append, ServerNo, ClientNo, Tid, WorkId, Client, Server, work_tells, work_eq, Flag, Message, Vote, Transaction, Stage, Open, Voting, Committed, Aborted, Commitment, DropFlag, RowOutcome, Sent, CoordinatorTable, transaction_at, is_work, besides, all_in, with_work, drops, commits, prepares, committed_to, aborted_to, staged, without, commit_row, abort_row, forget_row, not_known, end_promised, end_stage, end_row, abort_stage, abort_request, told_stage, inquire_row, counted_vote, vote_stage, vote_row, done_stage, done_row, thanks_stage, thanks_row, Machine, Unknown, Notes, Finishes, AllReady, AllOver, AreParts, Knows, Invariant, Atom, Learn, Decide, run, MayRun, MayLearn, Says, IsPartOf, IsWorkOf, AreWorksOf, DropSays, VoteSays, at_tid_here, World, Memory, of_coordinator, UpFact, Mirrors, IsTrue, IsAddressed, IsStage, knowledge_of, knowledge_in, RequestNo}
use Rattle.jn_system.specs.SmallSteps.Steps.{after, Abort}
use Rattle.jn_base.specs.declared.names.Cause.{Cause}
use Rattle.jn_msgs.specs.declared.message.Note.TheVariants.{Ignored}
use Rattle.jn_rows.specs.declared.coordinator.Voting.{Voting as Ballot}
use Rattle.jn_msgs.specs.declared.message.Message.TheVariants as messages
use Rattle.jn_msgs.specs.declared.message.Outcome.TheVariants as outcomes
use Rattle.jn_msgs.specs.declared.message.Vote.TheVariants as votes
use Rattle.jn_system_order.proofs.Mirroring.QuietMoves.{ServerMoves}
use Rattle.jn_system_order.proofs.Mirroring.Transactions.{is-work-one, in-besides, in-either, in-with, in-all, All-works}
use Rattle.jn_system_order.proofs.Mirroring.StageMoves.{knows, is-up, tells-moves, its, place, begun, stage-is, stage-known, stage-moves, decide-moves, forget-moves, leave-moves}

abbrev flag-of : Transaction → RequestNo → List WorkId → Flag
flag-of x request works = record { tid = x.tid; client = x.client; request = request; works = works }

-- ---- messages to works

drops-true : (v : Machine) (T : Tid) (works : List WorkId) → ((W : WorkId) → is_work W works ≡ true → DropSays v T W) → All (IsTrue v) (drops T works)
drops-true v T works h = All-works (IsTrue v) (λ W. (Server W.server, messages.Drop T W)) works h

drops-addressed : (T : Tid) (works : List WorkId) → All IsAddressed (drops T works)
drops-addressed T works = All-works IsAddressed (λ W. (Server W.server, messages.Drop T W)) works (λ W h. refl)

commits-true : (v : Machine) (T : Tid) (works : List WorkId) → ((W : WorkId) → is_work W works ≡ true → Says v (messages.Commit T W)) → All (IsTrue v) (commits T works)
commits-true v T works h = All-works (IsTrue v) (λ W. (Server W.server, messages.Commit T W)) works h

commits-addressed : (T : Tid) (works : List WorkId) → All IsAddressed (commits T works)
commits-addressed T works = All-works IsAddressed (λ W. (Server W.server, messages.Commit T W)) works (λ W h. refl)

prepares-true : (v : Machine) (T : Tid) (c : ClientNo) (works : List WorkId) → ((W : WorkId) → is_work W works ≡ true → IsPartOf v T W) → All (IsTrue v) (prepares T c works)
prepares-true v T c works h = All-works (IsTrue v) (λ W. (Server W.server, messages.Prepare T c W)) works h

prepares-addressed : (T : Tid) (c : ClientNo) (works : List WorkId) → All IsAddressed (prepares T c works)
prepares-addressed T c works = All-works IsAddressed (λ W. (Server W.server, messages.Prepare T c W)) works (λ W h. refl)

one : (P : Sent → Type 0) (sent : Sent) → P sent → All P (sent ∷ [])
one P sent h = All-cons P sent [] h (All-nil P)

first-of : (a b : Bool) → (a && b) ≡ true → a ≡ true
first-of a b h = grind arith

second-of : (a b : Bool) → (a && b) ≡ true → b ≡ true
second-of a b h = grind arith

off : (b : Bool) → b ≡ true → b ≡ false → ⊥
off b h k = grind arith

some-work : (V W : WorkId) → Some V ≡ Some W → V ≡ W
some-work V W e = cc

none-work : (W : WorkId) → None ≡ Some W → ⊥
none-work W e = cc

-- a work is the one or not
is-part : (o : Option WorkId) (W : WorkId) → (o ≡ Some W) ⊎ (o ≢ Some W)
is-part None W = inr (λ e. none-work W e)
is-part (Some V) W = by (work_tells V W)
  where
    by : ((work_eq V W ≡ true) × (V ≡ W)) ⊎ ((work_eq V W ≡ false) × (V ≢ W)) → (Some V ≡ Some W) ⊎ (Some V ≢ Some W)
    by (inl p) = inl (ap Some p.1)
    by (inr p) = inr (λ e. p.1 (some-work V W e))

module _ (r : World) (w : Machine) (s : ServerNo) (m : Memory) (mirrors : Mirrors r w) (is : r.memory s ≡ Some m) (up : UpFact s m (r.found s))
    (grow : (atoms : List Atom) → MayRun atoms w → (message : Message) → Says w message → Says (run atoms w) message) (inv : Invariant w) where
  abbrev pub Moves : RowOutcome CoordinatorTable → Type 0
  Moves row = ServerMoves s (of_coordinator m row) w

  abbrev xs : List Transaction
  xs = m.coordinator.transactions

  -- nothing is reported, or a message alone
  pub ignores : Moves (record { table = m.coordinator; changes = []; messages = []; notes = Ignored ∷ []; tickets = m.tickets })
  ignores = tells-moves r w s m mirrors is up grow inv [] (Ignored ∷ []) refl (All-nil (IsTrue w)) (All-nil IsAddressed)

  pub says-nothing : Moves (record { table = m.coordinator; changes = []; messages = []; notes = []; tickets = m.tickets })
  says-nothing = tells-moves r w s m mirrors is up grow inv [] [] refl (All-nil (IsTrue w)) (All-nil IsAddressed)

  pub tells : (sent : List Sent) → All (IsTrue w) sent → All IsAddressed sent → Moves (record { table = m.coordinator; changes = []; messages = sent; notes = []; tickets = m.tickets })
  tells sent says addressed = tells-moves r w s m mirrors is up grow inv sent [] refl says addressed

  either : (b : Bool) (p q : RowOutcome CoordinatorTable) → Moves p → Moves q → Moves (if b then p else q)
  either true p q h l = h
  either false p q h l = l

  -- ---- a transaction that isn't in the table

  not-there : (T : Tid) → transaction_at T xs ≡ None → T.server ≡ s → w.begun T ≡ true → Knows w T Unknown
  not-there T none at b = subst (λ k. Knows w T k) (ap knowledge_of none) (knows r w s m mirrors is up grow inv T at b)

  -- a work of it may go
  unknown-drop : (T : Tid) (W : WorkId) → Knows w T Unknown → IsWorkOf w T W → DropSays w T W
  unknown-drop T W (inl h) of = (of, inl h)
  unknown-drop T W (inr h) of = (of, by (is-part (w.part T W.server) W))
    where
      by : (w.part T W.server ≡ Some W) ⊎ (w.part T W.server ≢ Some W) → (w.aborted T ≡ true) ⊎ ((w.over W ≡ true) ⊎ ((w.ended T ≡ true) × (w.part T W.server ≢ Some W)))
      by (inl e) = inr (inl (h.1.0 W.server W e))
      by (inr ne) = inr (inr ((inv.core.named T h.0).ended, ne))

  unknown-outcome : (T : Tid) → Knows w T Unknown → (w.aborted T ≡ true) ⊎ (w.closed T ≡ true)
  unknown-outcome T (inl h) = inl h
  unknown-outcome T (inr h) = inr h.1.1

  of-part : (T : Tid) (W : WorkId) → w.part T W.server ≡ Some W → IsWorkOf w T W
  of-part T W e = let p = inv.core.parts T W.server W e in (p.opened, p.owner)

  begun-of : (T : Tid) (W : WorkId) → IsWorkOf w T W → w.begun T ≡ true
  begun-of T W of = subst (λ (U : Tid). w.begun U ≡ true) of.1 (inv.core.rest.of_begun W of.0)

  drops-it : (T : Tid) (W : WorkId) → DropSays w T W → Moves (record { table = m.coordinator; changes = []; messages = drops T (W ∷ []); notes = []; tickets = m.tickets })
  drops-it T W h = tells (drops T (W ∷ [])) (one (IsTrue w) (Server W.server, messages.Drop T W) h) (one IsAddressed (Server W.server, messages.Drop T W) refl)

  not-known-moves : (c : ClientNo) (T : Tid) (works : List WorkId) → transaction_at T xs ≡ None → T.server ≡ s → w.begun T ≡ true → AreWorksOf w T works → Moves (not_known m.coordinator m.tickets c T works)
  not-known-moves c T works none at b of = tells _
      (All-cons (IsTrue w) (Client c, messages.Outcome c T (outcomes.NotKnown m.tickets.server m.tickets.epoch)) (drops T works) (unknown-outcome T (not-there T none at b)) (drops-true w T works (λ W h. unknown-drop T W (not-there T none at b) (of W h))))
      (All-cons IsAddressed (Client c, messages.Outcome c T (outcomes.NotKnown m.tickets.server m.tickets.epoch)) (drops T works) tt (drops-addressed T works))

  -- ---- one that is

  module _ (T : Tid) (x : Transaction) (found : transaction_at T xs ≡ Some x) where
    same : x.tid ≡ T
    same = (its r w s m mirrors is up grow inv T x found).1

    stands : (stage : Stage) → x.stage ≡ stage → IsStage w T stage
    stands stage e = subst (λ (z : Stage). IsStage w T z) e (stage-is r w s m mirrors is up grow inv T x found)

    known : (stage : Stage) → x.stage ≡ stage → Knows w T (knowledge_in stage)
    known stage e = subst (λ (z : Stage). Knows w T (knowledge_in z)) e (stage-known r w s m mirrors is up grow inv T x found)

    -- a work that asks for the outcome
    told-committed : (d : Commitment) (W : WorkId) (a b : Bool) → x.stage ≡ Committed d → is_work W d.works ≡ a → is_work W d.done ≡ b → IsWorkOf w T W
        → Moves (if a && not b then record { table = m.coordinator; changes = []; messages = commits T (W ∷ []); notes = []; tickets = m.tickets } else record { table = m.coordinator; changes = []; messages = drops T (W ∷ []); notes = []; tickets = m.tickets })
    told-committed d W true false e f g of = tells (commits T (W ∷ []))
        (one (IsTrue w) (Server W.server, messages.Commit T W) ((known (Committed d) e).0, ((stands (Committed d) e).0, (stands (Committed d) e).1.each W f))) (one IsAddressed (Server W.server, messages.Commit T W) refl)
    told-committed d W true true e f g of = drops-it T W (of, inr (inl ((known (Committed d) e).2 W g)))
    told-committed d W false b e f g of = drops-it T W (of, inr (inr ((stands (Committed d) e).0, λ k. off (is_work W d.works) ((stands (Committed d) e).1.all W.server W k) f)))

    told-moves : (W : WorkId) (stage : Stage) → x.stage ≡ stage → IsWorkOf w T W → Moves (told_stage m.coordinator m.tickets T W stage)
    told-moves W (Committed d) e of = told-committed d W (is_work W d.works) (is_work W d.done) e refl refl of
    told-moves W (Aborted cause) e of = drops-it T W (of, inl (stands (Aborted cause) e))
    told-moves W Open e of = says-nothing
    told-moves W (Voting b) e of = says-nothing

    -- one more work is done, or its client knows
    forget-move : (old d : Commitment) → x.stage ≡ Committed old → d.works ≡ old.works → ((W : WorkId) → is_work W d.done ≡ true → w.over W ≡ true) → (d.thanked ≡ true → w.closed T ≡ true) → Moves (forget_row m.coordinator m.tickets T d)
    forget-move old d e works done thanked = by (d.thanked && all_in d.works d.done) refl
      where
        parts : AreParts w T d.works
        parts = subst (λ l. AreParts w T l) (sym works) (stands (Committed old) e).1

        over : (d.thanked && all_in d.works d.done) ≡ true → AllOver w T
        over g = (λ q W k. done W (in-all W d.works d.done (second-of d.thanked (all_in d.works d.done) g) (parts.all q W k)), thanked (first-of d.thanked (all_in d.works d.done) g))

        may : MayLearn w T (Finishes (λ W. is_work W d.done))
        may = record {
          up = is-up r w s m mirrors is up grow inv T.server (place r w s m mirrors is up grow inv T x found);
          begun = begun r w s m mirrors is up grow inv T x found;
          not_aborted = (known (Committed old) e).1;
          knows = ((known (Committed old) e).0, (known (Committed old) e).1, done);
        }

        by : (b : Bool) → (d.thanked && all_in d.works d.done) ≡ b
            → Moves (if b then record { table = record m.coordinator { transactions = without T xs }; changes = DropFlag T ∷ []; messages = []; notes = []; tickets = m.tickets }
            else record { table = staged m.coordinator T (Committed d); changes = []; messages = []; notes = []; tickets = m.tickets })
        by true g = forget-moves r w s m mirrors is up grow inv T x found (over g) (known (Committed old) e).0 (known (Committed old) e).1
        by false g = let atom : Atom = Learn T (Finishes (λ W. is_work W d.done)) in
            stage-moves r w s m mirrors is up grow inv T x found (Committed d) atom may (record { up = refl; found = refl; active = refl; next = refl; ticket = refl; history = refl; ended = refl; knowledge = refl })
            ((stands (Committed old) e).0, parts, thanked) [] (All-nil (IsTrue (after atom w))) (All-nil IsAddressed)

    done-moves : (W : WorkId) (stage : Stage) → x.stage ≡ stage → w.over W ≡ true → Moves (done_stage m.coordinator m.tickets T W stage)
    done-moves W (Committed d) e over = either (is_work W d.works && not (is_work W d.done)) _ _
        (forget-move d (record d { done = d.done ++ W ∷ [] }) e refl (λ V k. by V (in-either V d.done (W ∷ []) k)) (stands (Committed d) e).2) ignores
      where
        by : (V : WorkId) → (is_work V d.done ≡ true) ⊎ (is_work V (W ∷ []) ≡ true) → w.over V ≡ true
        by V (inl k) = (known (Committed d) e).2 V k
        by V (inr k) = subst (λ (z : WorkId). w.over z ≡ true) (is-work-one V W k) over
    done-moves W Open e over = ignores
    done-moves W (Voting b) e over = ignores
    done-moves W (Aborted cause) e over = ignores

    thanks-moves : (stage : Stage) → x.stage ≡ stage → w.closed T ≡ true → Moves (thanks_stage m.coordinator m.tickets T stage)
    thanks-moves (Committed d) e closed = either d.thanked _ _ ignores (forget-move d (record d { thanked = true }) e refl (known (Committed d) e).2 (λ q. closed))
    thanks-moves (Aborted cause) e closed = leave-moves r w s m mirrors is up grow inv T x found (ap knowledge_in e)
    thanks-moves Open e closed = ignores
    thanks-moves (Voting b) e closed = ignores

  -- ---- by its own name

  module _ (x : Transaction) (found : transaction_at x.tid xs ≡ Some x) where
    here : x.tid.server ≡ s
    here = place r w s m mirrors is up grow inv x.tid x found

    begun-it : w.begun x.tid ≡ true
    begun-it = begun r w s m mirrors is up grow inv x.tid x found

    -- it is given up
    abort-moves : (cause : Cause) (works : List WorkId) → w.named x.tid ≡ false → AreWorksOf w x.tid works → Moves (abort_row m.coordinator m.tickets x cause works)
    abort-moves cause works not-named of = stage-moves r w s m mirrors is up grow inv x.tid x found (Aborted cause) (Abort x.tid)
        (record { up = is-up r w s m mirrors is up grow inv x.tid.server here; begun = begun-it; not_named = not-named })
        (record { up = refl; found = refl; active = refl; next = refl; ticket = refl; history = refl; ended = refl; knowledge = refl }) now (drops x.tid works ++ aborted_to x cause ∷ [])
        (All-append (IsTrue (after (Abort x.tid) w)) (drops x.tid works) (aborted_to x cause ∷ []) (drops-true (after (Abort x.tid) w) x.tid works (λ W k. (of W k, inl now))) (one (IsTrue (after (Abort x.tid) w)) (aborted_to x cause) now))
        (All-append IsAddressed (drops x.tid works) (aborted_to x cause ∷ []) (drops-addressed x.tid works) (one IsAddressed (aborted_to x cause) tt))
      where
        now : (after (Abort x.tid) w).aborted x.tid ≡ true
        now = at_tid_here w.aborted x.tid true

    -- its flag is put
    commit-moves : (request : RequestNo) (works : List WorkId) → w.named x.tid ≡ false → w.aborted x.tid ≡ false → w.ended x.tid ≡ true → AllReady w x.tid → AreParts w x.tid works → Moves (commit_row m.coordinator m.tickets x request works)
    commit-moves request works not-named not-aborted ended ready parts = decide-moves r w s m mirrors is up grow inv x.tid x found (flag-of x request works) refl
        (record { begun = begun-it; ended = ended; not_aborted = not-aborted; ready = ready; works = parts }) not-named (commits x.tid works ++ committed_to x ∷ [])
        (All-append (IsTrue (after (Decide (flag-of x request works)) w)) (commits x.tid works) (committed_to x ∷ []) (commits-true (after (Decide (flag-of x request works)) w) x.tid works (λ W k. (now, (ended, parts.each W k)))) (one (IsTrue (after (Decide (flag-of x request works)) w)) (committed_to x) now))
        (All-append IsAddressed (commits x.tid works) (committed_to x ∷ []) (commits-addressed x.tid works) (one IsAddressed (committed_to x) tt))
      where
        now : (after (Decide (flag-of x request works)) w).named x.tid ≡ true
        now = at_tid_here w.named x.tid true

    -- once these votes are noted
    abbrev with-votes : List WorkId → Machine
    with-votes ready = after (Learn x.tid (Notes (λ W. is_work W ready))) w

    -- its works are asked to prepare, or one more vote is noted
    vote-stage-moves : (b : Ballot) → w.named x.tid ≡ false → w.aborted x.tid ≡ false → w.ended x.tid ≡ true → AreParts w x.tid b.works → ((W : WorkId) → is_work W b.ready ≡ true → w.was_ready W ≡ true)
        → (sent : List Sent) → All (IsTrue (after (Learn x.tid (Notes (λ W. is_work W b.ready))) w)) sent → All IsAddressed sent
        → Moves (record { table = staged m.coordinator x.tid (Voting b); changes = []; messages = sent; notes = []; tickets = m.tickets })
    vote-stage-moves b not-named not-aborted ended parts ready sent says addressed = stage-moves r w s m mirrors is up grow inv x.tid x found (Voting b) (Learn x.tid (Notes (λ W. is_work W b.ready)))
        (record { up = is-up r w s m mirrors is up grow inv x.tid.server here; begun = begun-it; not_aborted = not-aborted; knows = (not-named, not-aborted, ended, ready) })
        (record { up = refl; found = refl; active = refl; next = refl; ticket = refl; history = refl; ended = refl; knowledge = refl }) (ended, parts) sent says addressed

    -- ---- a vote

    votes-move : (b : Ballot) (W : WorkId) (vote : Vote) → x.stage ≡ Voting b → VoteSays w W vote → Moves (counted_vote m.coordinator m.tickets x b W vote)
    votes-move b W votes.Ready e said = by (all_in b.works (with_work W b.ready)) refl
      where
        ready : (V : WorkId) → (is_work V b.ready ≡ true) ⊎ (W ≡ V) → w.was_ready V ≡ true
        ready V (inl k) = (known x.tid x found (Voting b) e).3 V k
        ready V (inr k) = subst (λ (z : WorkId). w.was_ready z ≡ true) k said

        by : (c : Bool) → all_in b.works (with_work W b.ready) ≡ c → Moves (if c then commit_row m.coordinator m.tickets x b.request b.works
            else record { table = staged m.coordinator x.tid (Voting (record b { ready = with_work W b.ready })); changes = []; messages = []; notes = []; tickets = m.tickets })
        by true g = let k = known x.tid x found (Voting b) e in let p = stands x.tid x found (Voting b) e in
            commit-moves b.request b.works k.0 k.1 p.0 (λ q V l. ready V (in-with V W b.ready (in-all V b.works (with_work W b.ready) g (p.1.all q V l)))) p.1
        by false g = let k = known x.tid x found (Voting b) e in let p = stands x.tid x found (Voting b) e in
            vote-stage-moves (record b { ready = with_work W b.ready }) k.0 k.1 p.0 p.1 (λ V l. ready V (in-with V W b.ready l)) [] (All-nil (IsTrue (with-votes (with_work W b.ready)))) (All-nil IsAddressed)
    votes-move b W (votes.Waiting u by) e said = either (is_work W b.ready) _ _ ignores (tells _ (one (IsTrue w) (Client x.client, messages.Outcome x.client x.tid (outcomes.Waiting W.server u by)) tt) (one IsAddressed _ tt))
    votes-move b W (votes.Lost n l) e said = abort-moves _ (besides b.works (W ∷ [])) (known x.tid x found (Voting b) e).0 (λ V k. of-part x.tid V ((stands x.tid x found (Voting b) e).1.each V (in-besides V b.works (W ∷ []) k)))
    votes-move b W (votes.Broken u by) e said = abort-moves _ b.works (known x.tid x found (Voting b) e).0 (λ V k. of-part x.tid V ((stands x.tid x found (Voting b) e).1.each V k))
    votes-move b W (votes.Full n l k) e said = abort-moves _ b.works (known x.tid x found (Voting b) e).0 (λ V k. of-part x.tid V ((stands x.tid x found (Voting b) e).1.each V k))

    vote-moves : (W : WorkId) (vote : Vote) (stage : Stage) → x.stage ≡ stage → VoteSays w W vote → IsPartOf w x.tid W → Moves (vote_stage m.coordinator m.tickets x W vote stage)
    vote-moves W vote Open e said part = ignores
    vote-moves W vote (Voting b) e said part = either (is_work W b.works) _ _ (votes-move b W vote e said) ignores
    vote-moves W vote (Committed d) e said part = told-moves x.tid x found W (Committed d) e (of-part x.tid W part.1)
    vote-moves W vote (Aborted cause) e said part = told-moves x.tid x found W (Aborted cause) e (of-part x.tid W part.1)

    -- ---- its end

    tell-client : (sent : Sent) → IsTrue w sent → IsAddressed sent → Moves (record { table = m.coordinator; changes = []; messages = sent ∷ []; notes = []; tickets = m.tickets })
    tell-client sent h a = tells (sent ∷ []) (one (IsTrue w) sent h) (one IsAddressed sent a)

    promised-moves : (request : RequestNo) (works : List WorkId) → x.stage ≡ Open → w.ended x.tid ≡ true → AreParts w x.tid works → Moves (end_promised m.coordinator m.tickets x request works)
    promised-moves request [] e ended parts = let k = known x.tid x found Open e in commit-moves request [] k.0 k.1 ended (λ q W l. absurd (no (parts.all q W l))) parts
      where
        no : false ≡ true → ⊥
        no q = grind arith
    promised-moves request (W ∷ Ws) e ended parts = let k = known x.tid x found Open e in
        vote-stage-moves (record { request = request; works = W ∷ Ws; ready = [] }) k.0 k.1 ended parts (λ V l. absurd (no l)) (prepares x.tid x.client (W ∷ Ws))
        (prepares-true (with-votes []) x.tid x.client (W ∷ Ws) (λ V l. (ended, parts.each V l))) (prepares-addressed x.tid x.client (W ∷ Ws))
      where
        no : false ≡ true → ⊥
        no q = grind arith

    end-moves : (free : ℕ) (request : RequestNo) (works : List WorkId) (stage : Stage) → x.stage ≡ stage → w.ended x.tid ≡ true → AreParts w x.tid works → Moves (end_stage m.coordinator free m.tickets x request works stage)
    end-moves free request works Open e ended parts = either (nat_lt free 1) _ _ (abort-moves _ works (known x.tid x found Open e).0 (λ W k. of-part x.tid W (parts.each W k))) (promised-moves request works e ended parts)
    end-moves free request works (Voting b) e ended parts = tells _ (prepares-true w x.tid x.client (besides b.works b.ready) (λ W k. (ended, (stands x.tid x found (Voting b) e).1.each W (in-besides W b.works b.ready k))))
        (prepares-addressed x.tid x.client (besides b.works b.ready))
    end-moves free request works (Committed d) e ended parts = tell-client (committed_to x) (known x.tid x found (Committed d) e).0 tt
    end-moves free request works (Aborted cause) e ended parts = tell-client (aborted_to x cause) (stands x.tid x found (Aborted cause) e) tt

    abort-stage-moves : (works : List WorkId) (stage : Stage) → x.stage ≡ stage → AreWorksOf w x.tid works → Moves (abort_stage m.coordinator m.tickets x works stage)
    abort-stage-moves works Open e of = abort-moves _ works (known x.tid x found Open e).0 of
    abort-stage-moves works (Voting b) e of = abort-moves _ (b.works ++ besides works b.works) (known x.tid x found (Voting b) e).0 (λ W k. by W (in-either W b.works (besides works b.works) k))
      where
        by : (W : WorkId) → (is_work W b.works ≡ true) ⊎ (is_work W (besides works b.works) ≡ true) → IsWorkOf w x.tid W
        by W (inl k) = of-part x.tid W ((stands x.tid x found (Voting b) e).1.each W k)
        by W (inr k) = of W (in-besides W works b.works k)
    abort-stage-moves works (Committed d) e of = tell-client (committed_to x) (known x.tid x found (Committed d) e).0 tt
    abort-stage-moves works (Aborted cause) e of = tell-client (aborted_to x cause) (stands x.tid x found (Aborted cause) e) tt

  -- ---- every such message

  own : (T : Tid) (x : Transaction) → transaction_at T xs ≡ Some x → transaction_at x.tid xs ≡ Some x
  own T x h = subst (λ (U : Tid). transaction_at U xs ≡ Some x) (sym (same T x h)) h

  pub inquires-move : (T : Tid) (W : WorkId) (o : Option Transaction) → transaction_at T xs ≡ o → Says w (messages.Inquire T W) → T.server ≡ s → Moves (inquire_row m.coordinator m.tickets T W o)
  inquires-move T W None h said at = drops-it T W (unknown-drop T W (not-there T h at (begun-of T W said)) said)
  inquires-move T W (Some x) h said at = told-moves T x h W x.stage refl said

  pub vote-row-moves : (T : Tid) (W : WorkId) (vote : Vote) (o : Option Transaction) → transaction_at T xs ≡ o → Says w (messages.Vote T W vote) → T.server ≡ s → Moves (vote_row m.coordinator m.tickets T W vote o)
  vote-row-moves T W vote None h said at = let of = of-part T W said.1.1 in drops-it T W (unknown-drop T W (not-there T h at (begun-of T W of)) of)
  vote-row-moves T W vote (Some x) h said at = vote-moves x (own T x h) W vote x.stage refl said.0 (subst (λ (U : Tid). IsPartOf w U W) (sym (same T x h)) said.1)

  pub done-row-moves : (T : Tid) (W : WorkId) (o : Option Transaction) → transaction_at T xs ≡ o → Says w (messages.Done T W) → Moves (done_row m.coordinator m.tickets T W o)
  done-row-moves T W None h said = ignores
  done-row-moves T W (Some x) h said = done-moves T x h W x.stage refl said

  pub thanks-row-moves : (c : ClientNo) (T : Tid) (o : Option Transaction) → transaction_at T xs ≡ o → Says w (messages.Thanks c T) → Moves (thanks_row m.coordinator m.tickets T o)
  thanks-row-moves c T None h said = ignores
  thanks-row-moves c T (Some x) h said = thanks-moves T x h x.stage refl said

  pub end-row-moves : (free : ℕ) (c : ClientNo) (request : RequestNo) (T : Tid) (works : List WorkId) (o : Option Transaction) → transaction_at T xs ≡ o → Says w (messages.End c request T works) → T.server ≡ s
      → Moves (end_row m.coordinator free m.tickets c request T works o)
  end-row-moves free c request T works None h said at = not-known-moves c T works h at said.0 (λ W k. of-part T W (said.2.each W k))
  end-row-moves free c request T works (Some x) h said at = end-moves x (own T x h) free request works x.stage refl (subst (λ (U : Tid). w.ended U ≡ true) (sym (same T x h)) said.1) (subst (λ (U : Tid). AreParts w U works) (sym (same T x h)) said.2)

  pub abort-row-moves : (c : ClientNo) (request : RequestNo) (T : Tid) (works : List WorkId) (o : Option Transaction) → transaction_at T xs ≡ o → Says w (messages.Abort c request T works) → T.server ≡ s
      → Moves (abort_request m.coordinator m.tickets c T works o)
  abort-row-moves c request T works None h said at = not-known-moves c T works h at said.0 said.1
  abort-row-moves c request T works (Some x) h said at = abort-stage-moves x (own T x h) works x.stage refl (subst (λ (U : Tid). AreWorksOf w U works) (sym (same T x h)) said.1)
