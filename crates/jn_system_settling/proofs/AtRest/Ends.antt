-- An End that a client waits for when a settle asks again is answered, or the client is told that it waits: each work that has no
-- vote noted has a Prepare or a vote on its way.
use Rattle.jn_system_settling.proofs.Common.{◌≡◌, ◌≢◌, ◌⊎◌, inl, inr, ◌≤◌, ℕ, zero, suc, Bool, true, false, List, [], ◌∷◌, ◌++◌, length, length-append, append-nil, drop, Option, Some, None, true≢false, refl, sym, ◌∙◌, ap, subst, arith, ◌&&◌, ◌||◌, not, if◌then◌else◌, nat_eq, nat_lt, slice_get, list_any, nat_tests, ServerNo, ClientNo, Tid, WorkId, LockUnit, Cause, Full, Tickets, Client, Server, End, server_eq, client_eq, tid_eq, work_eq, server_tells, tid_tells, work_tells, AllFiles, Message, Outcome, Vote, Text, Work, Phase, Active, Broken, Stored, ActiveWork, Outstanding, Taken, Transaction, Stage, Open, Voting, Committed, Aborted, Ballot, Commitment, stable, is_going, RowOutcome, Sent, quiet, ignored, WorkerTable, WorkStorage, worker_row, work_at, prepare_phase, prepare_row, prepared_row, conflict, commit_wants, vote_of, shortage, need_in, voted_row, CoordinatorTable, commit_row, abort_row, staged, transaction_at, all_in, is_work, with_work, besides, prepares, drops, commits, committed_to, aborted_to, end_stage, end_promised, end_row, counted_vote, vote_stage, vote_row, coordinator_row, ClientTable, take_row, outcome_row, is_current, is_tid, is_end, is_end_or_abort, if_waits, told, names_of, Machine, World, Memory, opening, Room, storage_of, server_row, of_worker, of_coordinator, is_for_worker, lines_of, took, taken_by, done, in_stage, at-stage, Course, In, get-in, Reached, tells_waiting, is_undecided, some-memory, tid-name}
use Rattle.jn_lock_rows.proofs.Works.{found-name}
use Rattle.jn_rows.specs.Outcomes.{sends}
use Rattle.jn_base.specs.declared.names.Resource.TheVariants as resources
use Rattle.jn_msgs.specs.declared.message.Message.TheVariants as messages
use Rattle.jn_msgs.specs.declared.message.Outcome.TheVariants as outcomes
use Rattle.jn_msgs.specs.declared.message.Vote.TheVariants as votes
use Rattle.jn_report.specs.declared.line.Text.TheVariants as says
use Rattle.jn_rows.specs.declared.client.Taken.TheVariants as taken
use Rattle.jn_system_settling.proofs.AtRest.Talk.{IsStill}
use Rattle.jn_system_settling.proofs.AtRest.Ways.{any-left, any-right, Has, Waits, IsEnd, none-still, taken-still, taken-taken, took-memory}
use Rattle.jn_system_settling.proofs.AtRest.Answered.{ends_outcome, its-client, outcome-ends}
use Rattle.jn_system_settling.proofs.AtRest.Begins.{Good}
use Rattle.jn_system_settling.proofs.AtRest.Fates.{is_unfinished, has-after, Move, starts, notes_one, commits_now, aborts_now, finishes, Fate, stays, moves, forgets, closes, row-fate}
use Rattle.jn_system_settling.proofs.AtRest.Memories.{found-unfinished, Unfinished}
use Rattle.jn_system_settling.proofs.AtRest.Calm.{Comes, carried}
use Rattle.jn_system_settling.proofs.AtRest.Standing.{machine, not-next, no-later, not-going}

-- the message that is handed over is this one
abbrev pub IsIt : Sent → Sent → Type 0
IsIt x y = ◌≡◌ {A = Option Sent} (Some x) (Some y)

pub it-is-it : (x y : Sent) → IsIt x y → x ≡ y
it-is-it x y e = cc

pub same-client : (e c : ClientNo) (m r : Message) → IsIt (Client e, m) (Client c, r) → (e ≡ c) × (m ≡ r)
same-client e c m r q = (party (ap (λ (z : Sent). z.0) (it-is-it (Client e, m) (Client c, r) q)), ap (λ (z : Sent). z.1) (it-is-it (Client e, m) (Client c, r) q))
  where
    party : Client e ≡ Client c → e ≡ c
    party q = cc

pub same-server : (s q : ServerNo) (m r : Message) → IsIt (Server s, m) (Server q, r) → (s ≡ q) × (m ≡ r)
same-server s q m r h = (party (ap (λ (z : Sent). z.0) (it-is-it (Server s, m) (Server q, r) h)), ap (λ (z : Sent). z.1) (it-is-it (Server s, m) (Server q, r) h))
  where
    party : Server s ≡ Server q → s ≡ q
    party h = cc

pub other-party : (d : ClientNo) (s : ServerNo) (m r : Message) → IsIt (Client d, m) (Server s, r) → ⊥
other-party d s m r e = apart (ap (λ (z : Sent). z.0) (it-is-it (Client d, m) (Server s, r) e))
  where
    apart : Client d ≡ Server s → ⊥
    apart q = cc

-- ---- lines grow

pub record Longer (w now : World) : Type 0 where
  pub more : List Text
  pub is : now.lines ≡ w.lines ++ more

pub took-longer : (c : ClientNo) (k : ℕ) (t : ClientTable) (r : Taken) (w : World) → Longer w (took c k t r w)
took-longer c k t taken.Ignored w = record { more = says.Ignored k ∷ []; is = refl }
took-longer c k t (taken.Send to message) w = record { more = []; is = sym (append-nil w.lines) }
took-longer c k t (taken.Told line answer) w = record { more = line ∷ []; is = refl }

-- what was reported after so many lines stays reported, and what is new is reported after them
pub any-drop-more : (f : Text → Bool) (k : ℕ) (a b : List Text) → list_any f (drop k a) ≡ true → list_any f (drop k (a ++ b)) ≡ true
any-drop-more f zero a b h = any-left f a b h
any-drop-more f (suc k) [] b h = absurd (true≢false (sym h))
any-drop-more f (suc k) (x ∷ a) b h = any-drop-more f k a b h

pub any-drop-new : (f : Text → Bool) (k : ℕ) (a b : List Text) → k ≤ length a → list_any f b ≡ true → list_any f (drop k (a ++ b)) ≡ true
any-drop-new f zero a b l h = any-right f a b h
any-drop-new f (suc k) [] b l h = absurd (omega (arith, l))
any-drop-new f (suc k) (x ∷ a) b l h = any-drop-new f k a b (omega (arith, l)) h

-- ---- rows

with-still : (V W : WorkId) (Ws : List WorkId) → is_work V Ws ≡ true → is_work V (with_work W Ws) ≡ true
with-still V W Ws h = by (is_work W Ws)
  where
    more : (Ws : List WorkId) → is_work V Ws ≡ true → is_work V (Ws ++ W ∷ []) ≡ true
    more [] k = absurd (true≢false (sym k))
    more (X ∷ Ws) k = let again = more Ws in grind (arith, k)

    by : (b : Bool) → is_work V (if b then Ws else Ws ++ W ∷ []) ≡ true
    by true = h
    by false = more Ws h

with-itself : (W : WorkId) (Ws : List WorkId) → is_work W (with_work W Ws) ≡ true
with-itself W Ws = by (is_work W Ws) refl
  where
    last : (Ws : List WorkId) → is_work W (Ws ++ W ∷ []) ≡ true
    last [] = grind (arith, work_tells W W)
    last (X ∷ Ws) = let again = last Ws in grind arith

    by : (b : Bool) → is_work W Ws ≡ b → is_work W (if b then Ws else Ws ++ W ∷ []) ≡ true
    by true e = e
    by false e = last Ws

has-prepare : (T : Tid) (c : ClientNo) (W : WorkId) (Ws : List WorkId) → is_work W Ws ≡ true → Has (Server W.server, messages.Prepare T c W) (prepares T c Ws)
has-prepare T c W [] h = absurd (true≢false (sym h))
has-prepare T c W (V ∷ Vs) h = by (work_tells V W) (has-prepare T c W Vs)
  where
    by : ((work_eq V W ≡ true) × (V ≡ W)) ⊎ ((work_eq V W ≡ false) × (V ≢ W)) → (is_work W Vs ≡ true → Has (Server W.server, messages.Prepare T c W) (prepares T c Vs)) → Has (Server W.server, messages.Prepare T c W) (prepares T c (V ∷ Vs))
    by (inl p) again = inl (ap (λ (U : WorkId). (Server U.server, messages.Prepare T c U)) p.1)
    by (inr p) again = inr (again (sym (ap (λ (b : Bool). b || is_work W Vs) p.0) ∙ h))

-- one that isn't noted is asked
pub in-left : (W : WorkId) (Vs Ws : List WorkId) → is_work W Vs ≡ true → is_work W Ws ≡ false → is_work W (besides Vs Ws) ≡ true
in-left W [] Ws h k = h
in-left W (V ∷ Vs) Ws h k = by (work_tells V W) (in-left W Vs Ws)
  where
    more : (b : Bool) → is_work W (besides Vs Ws) ≡ true → is_work W (if b then V ∷ besides Vs Ws else besides Vs Ws) ≡ true
    more true q = grind (arith, q)
    more false q = q

    by : ((work_eq V W ≡ true) × (V ≡ W)) ⊎ ((work_eq V W ≡ false) × (V ≢ W)) → (is_work W Vs ≡ true → is_work W Ws ≡ false → is_work W (besides Vs Ws) ≡ true) → is_work W (besides (V ∷ Vs) Ws) ≡ true
    by (inl p) again = subst (λ (b : Bool). is_work W (if b then V ∷ besides Vs Ws else besides Vs Ws) ≡ true) (sym (ap not (ap (λ (U : WorkId). is_work U Ws) p.1 ∙ k))) (ap (λ (b : Bool). b || is_work W (besides Vs Ws)) p.0)
    by (inr p) again = more (not (is_work V Ws)) (again (sym (ap (λ (b : Bool). b || is_work W Vs) p.0) ∙ h) k)

-- a Prepare of a work that doesn't go is answered by a vote
prepare-votes : (t : WorkerTable) (s : WorkStorage) (k : Tickets) (T : Tid) (c : ClientNo) (W : WorkId) → is_going (s.state.works W) ≡ false → (o : Option Work) → work_at W t ≡ o
    → (vote : Vote) × Has (Server T.server, messages.Vote T W vote) (prepare_row t s k T c W o).messages
prepare-votes t s k T c W idle None e = (votes.Lost W.epoch k.epoch, inl refl)
prepare-votes t s k T c W idle (Some w) e = subst (λ (V : WorkId). (vote : Vote) × Has (Server T.server, messages.Vote T V vote) (prepare_phase t s k T c w w.phase).messages) name (by w.phase)
  where
    name : w.name ≡ W
    name = found-name W t w e

    voted : (a : ActiveWork) (vote : Vote) → (v : Vote) × Has (Server T.server, messages.Vote T w.name v) (prepared_row t k T c w a vote).messages
    voted a votes.Ready = (votes.Ready, inl refl)
    voted a vote = (vote, inl refl)

    stored : (b : Bool) → b ≡ false → (v : Vote) × Has (Server T.server, messages.Vote T w.name v) (if b then ignored t k else voted_row t k T w.name votes.Ready).messages
    stored true q = absurd (true≢false q)
    stored false q = (votes.Ready, inl refl)

    by : (p : Phase) → (v : Vote) × Has (Server T.server, messages.Vote T w.name v) (prepare_phase t s k T c w p).messages
    by (Active a) = voted a (vote_of (conflict w.name (commit_wants a.writes) t) (shortage s.free (need_in s.maps s.state.files a.list)))
    by (Broken u held) = (votes.Broken u held, inl refl)
    by (Stored p) = stored (is_going (s.state.works w.name)) (ap (λ (V : WorkId). is_going (s.state.works V)) name ∙ idle)

-- what a vote that is asked for leads to
data Heard (T : Tid) (x : Transaction) (b : Ballot) (V : WorkId) (t : CoordinatorTable) (row : RowOutcome CoordinatorTable) : Type 0 where
  noted_now : transaction_at T row.table.transactions ≡ Some (record x { stage = Voting (record b { ready = with_work V b.ready }) }) → Heard T x b V t row
  was_noted : is_work V b.ready ≡ true → row.table.transactions ≡ t.transactions → Heard T x b V t row
  waits_told : (s : ServerNo) (u : LockUnit) (by : Tid) → Has (Client x.client, messages.Outcome x.client x.tid (outcomes.Waiting s u by)) row.messages → Heard T x b V t row
  decided_now : (outcome : Outcome) → ends_outcome outcome ≡ true → Has (Client x.client, messages.Outcome x.client x.tid outcome) row.messages → Heard T x b V t row

vote-heard : (t : CoordinatorTable) (k : Tickets) (T : Tid) (x : Transaction) (b : Ballot) (V : WorkId) (vote : Vote) → transaction_at T t.transactions ≡ Some x → x.stage ≡ Voting b → is_work V b.works ≡ true
    → Heard T x b V t (vote_row t k T V vote (transaction_at T t.transactions))
vote-heard t k T x b V vote found stage work = subst (λ o. Heard T x b V t (vote_row t k T V vote o)) (sym found) (subst (λ (z : Stage). Heard T x b V t (vote_stage t k x V vote z)) (sym stage)
    (subst (λ (z : Bool). Heard T x b V t (if z then counted_vote t k x b V vote else ignored t k)) (sym work) (by vote)))
  where
    aborts : (cause : Cause) (works : List WorkId) → Heard T x b V t (abort_row t k x cause works)
    aborts cause works = decided_now (outcomes.Aborted cause) refl (has-after (drops x.tid works) (aborted_to x cause ∷ []) (aborted_to x cause) (inl refl))

    by : (vote : Vote) → Heard T x b V t (counted_vote t k x b V vote)
    by votes.Ready = on (all_in b.works (with_work V b.ready))
      where
        name : x.tid ≡ T
        name = tid-name T t.transactions x found

        itself : tid_eq x.tid T ≡ true
        itself = grind (arith, tid_tells x.tid T, name)

        on : (z : Bool) → Heard T x b V t (if z then commit_row t k x b.request b.works else quiet (staged t x.tid (Voting (record b { ready = with_work V b.ready }))) k)
        on true = decided_now outcomes.Committed refl (has-after (commits x.tid b.works) (committed_to x ∷ []) (committed_to x) (inl refl))
        on false = noted_now (at-stage T x.tid (Voting (record b { ready = with_work V b.ready })) t.transactions
            ∙ ap (λ (z : Bool). if z then in_stage (Voting (record b { ready = with_work V b.ready })) (transaction_at T t.transactions) else transaction_at T t.transactions) itself
            ∙ ap (in_stage (Voting (record b { ready = with_work V b.ready }))) found)
    by (votes.Waiting u held) = on (is_work V b.ready) refl
      where
        on : (z : Bool) → is_work V b.ready ≡ z → Heard T x b V t (if z then ignored t k else sends t k ((Client x.client, messages.Outcome x.client x.tid (outcomes.Waiting V.server u held)) ∷ []))
        on true e = was_noted e refl
        on false e = waits_told V.server u held (inl refl)
    by (votes.Lost m n) = aborts _ (besides b.works (V ∷ []))
    by (votes.Broken u held) = aborts _ b.works
    by (votes.Full m free need) = aborts _ b.works

-- each is in the other list
pub all-ready : (Ws Vs : List WorkId) → ((W : WorkId) → is_work W Ws ≡ true → is_work W Vs ≡ true) → all_in Ws Vs ≡ true
all-ready [] Vs h = refl
all-ready (W ∷ Ws) Vs h = let first = h W (grind (arith, work_tells W W)) in let again = all-ready Ws Vs (λ V k. h V (grind (arith, k))) in grind (arith, first, again)

-- ---- on its way

module _ (n : ℕ) (at_most : n ≤ 8) (files : AllFiles) (epochs : ServerNo → ℕ) (reached : (d : Course) → Good n at_most (opening n files epochs) files epochs d → Reached files epochs d.world)
    (c : ClientNo) (t : ClientTable) (o : Outstanding) (T : Tid) (before : ℕ) (name : t.client ≡ c) (waits : t.outstanding ≡ Some o) (ends : o.command ≡ End) (current : t.transaction ≡ Some T) where
  abbrev start : World
  start = opening n files epochs

  abbrev pub the_end : Message
  the_end = messages.End t.client o.request T (names_of t.works)

  abbrev pub IsTold : World → Type 0
  IsTold w = list_any (tells_waiting c o.event) (drop before w.lines) ≡ true

  -- what a work that isn't noted has on its way
  pub data Pending (d : Course) (W : WorkId) : Type 0 where
    to_prepare : Waits d.world.sent d.waiting (Server W.server, messages.Prepare T c W) → Pending d W
    to_vote : (vote : Vote) → Waits d.world.sent d.waiting (Server T.server, messages.Vote T W vote) → Pending d W

  pub record IsVoting (d : Course) : Type 0 where
    pub memory : Memory
    pub up : d.world.memory T.server ≡ Some memory
    pub entry : Transaction
    pub found : transaction_at T memory.coordinator.transactions ≡ Some entry
    pub ballot : Ballot
    pub stage : entry.stage ≡ Voting ballot
    pub client : entry.client ≡ c
    pub each : (W : WorkId) → is_work W ballot.works ≡ true → (is_work W ballot.ready ≡ true) ⊎ Pending d W

  pub data EndWay (d : Course) : Type 0 where
    over : (d.world.clients c).outstanding ≡ None → EndWay d
    told_so : IsTold d.world → EndWay d
    asks : d.world.clients c ≡ t → Waits d.world.sent d.waiting (Server T.server, the_end) → EndWay d
    answering : d.world.clients c ≡ t → (r : Message) → Waits d.world.sent d.waiting (Client c, r) → IsEnd t r → EndWay d
    telling : d.world.clients c ≡ t → (s : ServerNo) (u : LockUnit) (by : Tid) → Waits d.world.sent d.waiting (Client c, messages.Outcome c T (outcomes.Waiting s u by)) → EndWay d
    voting : d.world.clients c ≡ t → IsVoting d → EndWay d

  pub record OnWay (d : Course) : Type 0 where
    pub long : before ≤ length d.world.lines
    pub way : EndWay d

  closing : is_end_or_abort o.command ≡ true
  closing = ap is_end_or_abort ends

  -- an outcome that ends it
  ends-it : (outcome : Outcome) → ends_outcome outcome ≡ true → IsEnd t (messages.Outcome c T outcome)
  ends-it outcome k = subst (λ (z : ClientNo). IsEnd t (messages.Outcome z T outcome)) name (outcome-ends n at_most start files epochs t o T waits current closing outcome k)

  -- ---- longer lines

  long-on : (w now : World) → Longer w now → before ≤ length w.lines → before ≤ length now.lines
  long-on w now l h = let e = ap length l.is ∙ length-append w.lines l.more in omega (arith, e, h)

  told-on : (w now : World) → Longer w now → IsTold w → IsTold now
  told-on w now l h = subst (λ z. list_any (tells_waiting c o.event) (drop before z) ≡ true) (sym l.is) (any-drop-more (tells_waiting c o.event) before w.lines l.more h)

  -- ---- the client takes a message

  waits-row : (s : ServerNo) (u : LockUnit) (by : Tid) → take_row t (messages.Outcome c T (outcomes.Waiting s u by)) ≡ (t, taken.Told (says.Waiting t.client o.event s u by) None)
  waits-row s u by = ap (λ (b : Bool). if◌then◌else◌ {A = ClientTable × Taken} b (outcome_row t T (outcomes.Waiting s u by)) (t, taken.Ignored)) its-own
      ∙ ap (λ (b : Bool). if◌then◌else◌ {A = ClientTable × Taken} b (if_waits t t.outstanding (λ p. is_end p.command) (λ j. told t (says.Waiting t.client j s u by))) (t, taken.Ignored)) its
      ∙ ap (λ z. if_waits t z (λ p. is_end p.command) (λ j. told t (says.Waiting t.client j s u by))) waits
      ∙ ap (λ (b : Bool). if◌then◌else◌ {A = ClientTable × Taken} b (told t (says.Waiting t.client o.event s u by)) (t, taken.Ignored)) (ap is_end ends)
    where
      its-own : client_eq c t.client ≡ true
      its-own = grind (arith, nat_tests, name)

      its : is_current t T ≡ true
      its = ap (λ z. is_tid T z) current ∙ grind (arith, nat_tests)

  tells-it : (s : ServerNo) (u : LockUnit) (by : Tid) → list_any (tells_waiting c o.event) (says.Waiting t.client o.event s u by ∷ []) ≡ true
  tells-it s u by = grind (arith, nat_tests, name)

  pub client-way : (d now : Course) (k : ℕ) (e : ClientNo) (message : Message) → Good n at_most start files epochs d → slice_get d.world.sent k ≡ Some (Client e, message)
      → Comes d now (Some (Client e, message)) (taken_by e k (take_row (d.world.clients e) message) d.world) → OnWay d → OnWay now
  client-way d now k e message g is comes h = record { long = long-on d.world now.world longer h.long; way = by h.way still }
    where
      longer : Longer d.world now.world
      longer = subst (λ (z : World). Longer d.world z) (sym comes.world) (took-longer e k (take_row (d.world.clients e) message).0 (take_row (d.world.clients e) message).1 d.world)

      still : IsStill (d.world.clients c) (now.world.clients c)
      still = subst (λ (z : World). IsStill (d.world.clients c) (z.clients c)) (sym comes.world) (taken-still c e k message d.world)

      memory : now.world.memory ≡ d.world.memory
      memory = ap (λ (z : World). z.memory) comes.world ∙ took-memory e k (take_row (d.world.clients e) message).0 (take_row (d.world.clients e) message).1 d.world

      server-waits : (s : ServerNo) (r : Message) → Waits d.world.sent d.waiting (Server s, r) → Waits now.world.sent now.waiting (Server s, r)
      server-waits s r w = on (comes.waits (Server s, r) w)
        where
          on : (IsIt (Client e, message) (Server s, r)) ⊎ Waits now.world.sent now.waiting (Server s, r) → Waits now.world.sent now.waiting (Server s, r)
          on (inl q) = absurd (other-party e s message r q)
          on (inr w) = w

      -- it is the one that the client takes
      it-is : (r : Message) → IsIt (Client e, message) (Client c, r) → (e ≡ c) × (message ≡ r)
      it-is r q = same-client e c message r q

      takes : (r : Message) → (e ≡ c) × (message ≡ r) → now.world ≡ taken_by c k (take_row (d.world.clients c) r) d.world
      takes r i = comes.world ∙ ap (λ (z : ClientNo). taken_by z k (take_row (d.world.clients z) message) d.world) i.0 ∙ ap (λ z. taken_by c k (take_row (d.world.clients c) z) d.world) i.1

      pending-on : (W : WorkId) → Pending d W → Pending now W
      pending-on W (to_prepare w) = to_prepare (server-waits W.server (messages.Prepare T c W) w)
      pending-on W (to_vote vote w) = to_vote vote (server-waits T.server (messages.Vote T W vote) w)

      votes-on : IsVoting d → IsVoting now
      votes-on v = record { memory = v.memory; up = ap (λ f. f T.server) memory ∙ v.up; entry = v.entry; found = v.found; ballot = v.ballot; stage = v.stage; client = v.client; each = λ W k. on W (v.each W k) }
        where
          on : (W : WorkId) → (is_work W v.ballot.ready ≡ true) ⊎ Pending d W → (is_work W v.ballot.ready ≡ true) ⊎ Pending now W
          on W (inl k) = inl k
          on W (inr p) = inr (pending-on W p)

      by : EndWay d → IsStill (d.world.clients c) (now.world.clients c) → EndWay now
      by (over q) s = over (none-still c (d.world.clients c) (now.world.clients c) s q)
      by (told_so q) s = told_so (told-on d.world now.world longer q)
      by way (inr q) = over q
      by (asks same w) (inl q) = asks (q ∙ same) (server-waits T.server the_end w)
      by (answering same r w end) (inl q) = on (comes.waits (Client c, r) w)
        where
          on : (IsIt (Client e, message) (Client c, r)) ⊎ Waits now.world.sent now.waiting (Client c, r) → EndWay now
          on (inr w) = answering (q ∙ same) r w end
          on (inl z) = over (ap (λ (w : World). (w.clients c).outstanding) (takes r (it-is r z)) ∙ ap (λ (w : ClientTable). w.outstanding) (taken-taken c k r d.world) ∙ ap (λ (w : ClientTable). (take_row w r).0.outstanding) same ∙ end)
      by (telling same s u held w) (inl q) = on (comes.waits (Client c, messages.Outcome c T (outcomes.Waiting s u held)) w)
        where
          on : (IsIt (Client e, message) (Client c, messages.Outcome c T (outcomes.Waiting s u held))) ⊎ Waits now.world.sent now.waiting (Client c, messages.Outcome c T (outcomes.Waiting s u held)) → EndWay now
          on (inr w) = telling (q ∙ same) s u held w
          on (inl z) = told_so (subst (λ l. list_any (tells_waiting c o.event) (drop before l) ≡ true) (sym (ap (λ (w : World). w.lines) (takes _ (it-is _ z)
              ∙ ap (λ (v : ClientTable). taken_by c k (take_row v (messages.Outcome c T (outcomes.Waiting s u held))) d.world) same ∙ ap (λ r. taken_by c k r d.world) (waits-row s u held))))
              (any-drop-new (tells_waiting c o.event) before d.world.lines (says.Waiting t.client o.event s u held ∷ []) h.long (tells-it s u held)))
      by (voting same v) (inl q) = voting (q ∙ same) (votes-on v)

  -- ---- a server takes one

  module _ (d now : Course) (k : ℕ) (room : Room) (s : ServerNo) (message : Message) (m : Memory) (g : Good n at_most start files epochs d) (is : slice_get d.world.sent k ≡ Some (Server s, message)) (up : d.world.memory s ≡ Some m)
      (comes : Comes d now (Some (Server s, message)) (done s (Some k) (server_row m (stable (d.world.found s)) room message) d.world)) where
    abbrev row : RowOutcome Memory
    row = server_row m (stable (d.world.found s)) room message

    same-clients : now.world.clients ≡ d.world.clients
    same-clients = ap (λ (z : World). z.clients) comes.world

    same-at : d.world.clients c ≡ t → now.world.clients c ≡ t
    same-at e = ap (λ f. f c) same-clients ∙ e

    new-waits : (x : Sent) → Has x row.messages → Waits now.world.sent now.waiting x
    new-waits x h = comes.new row.messages refl x h

    -- what is sent to the client
    answered-by : d.world.clients c ≡ t → (outcome : Outcome) → ends_outcome outcome ≡ true → Has (Client c, messages.Outcome c T outcome) row.messages → EndWay now
    answered-by same outcome e h = answering (same-at same) (messages.Outcome c T outcome) (new-waits _ h) (ends-it outcome e)

    client-waits : (r : Message) → Waits d.world.sent d.waiting (Client c, r) → Waits now.world.sent now.waiting (Client c, r)
    client-waits r w = on (comes.waits (Client c, r) w)
      where
        on : (IsIt (Server s, message) (Client c, r)) ⊎ Waits now.world.sent now.waiting (Client c, r) → Waits now.world.sent now.waiting (Client c, r)
        on (inl q) = absurd (other-party c s r message (sym q))
        on (inr w) = w

    -- the message is this one
    abbrev Meets : ServerNo → Message → Type 0
    Meets q r = (s ≡ q) × (message ≡ r)

    meets : (q : ServerNo) (r : Message) → IsIt (Server s, message) (Server q, r) → Meets q r
    meets q r e = same-server s q message r e

    idle-works : (W : WorkId) (v : IsVoting d) → is_work W v.ballot.works ≡ true → is_going ((stable (d.world.found W.server)).works W) ≡ false
    idle-works W v work = not-going files epochs d.world (reached d g) T v.memory v.entry v.ballot W v.up v.found v.stage work (λ n. false)

    -- a work's Prepare or vote waits on, or its Prepare has come, which gives a vote
    pending-on : (v : IsVoting d) (W : WorkId) → is_work W v.ballot.works ≡ true
        → ((vote : Vote) → Meets T.server (messages.Vote T W vote) → ⊥) → Pending d W → Pending now W
    pending-on v W work other (to_vote vote w) = on (comes.waits (Server T.server, messages.Vote T W vote) w)
      where
        on : (IsIt (Server s, message) (Server T.server, messages.Vote T W vote)) ⊎ Waits now.world.sent now.waiting (Server T.server, messages.Vote T W vote) → Pending now W
        on (inl q) = absurd (other vote (meets T.server (messages.Vote T W vote) q))
        on (inr w) = to_vote vote w
    pending-on v W work other (to_prepare w) = on (comes.waits (Server W.server, messages.Prepare T c W) w)
      where
        on : (IsIt (Server s, message) (Server W.server, messages.Prepare T c W)) ⊎ Waits now.world.sent now.waiting (Server W.server, messages.Prepare T c W) → Pending now W
        on (inr w) = to_prepare w
        on (inl q) = let i = meets W.server (messages.Prepare T c W) q in
            let sent = prepare-votes m.worker (storage_of m (stable (d.world.found s)) room) m.tickets T c W (ap (λ (z : ServerNo). is_going ((stable (d.world.found z)).works W)) i.0 ∙ idle-works W v work) (work_at W m.worker) refl in
            to_vote sent.0 (new-waits (Server T.server, messages.Vote T W sent.0) (subst (λ z. Has (Server T.server, messages.Vote T W sent.0) (server_row m (stable (d.world.found s)) room z).messages) (sym i.1) sent.1))

    -- the transaction is found so at its coordinator
    votes-at : (v : IsVoting d) (n : Memory) (y : Transaction) (b : Ballot) → now.world.memory T.server ≡ Some n → transaction_at T n.coordinator.transactions ≡ Some y → y.stage ≡ Voting b → y.client ≡ c
        → ((W : WorkId) → is_work W b.works ≡ true → (is_work W b.ready ≡ true) ⊎ Pending now W) → d.world.clients c ≡ t → EndWay now
    votes-at v n y b u f e cl each same = voting (same-at same) (record { memory = n; up = u; entry = y; found = f; ballot = b; stage = e; client = cl; each = each })

    -- as long as no vote of it comes
    pendings : (v : IsVoting d) → ((W : WorkId) (vote : Vote) → is_work W v.ballot.works ≡ true → Meets T.server (messages.Vote T W vote) → ⊥) → (W : WorkId) → is_work W v.ballot.works ≡ true → (is_work W v.ballot.ready ≡ true) ⊎ Pending now W
    pendings v other W work = on (v.each W work)
      where
        on : (is_work W v.ballot.ready ≡ true) ⊎ Pending d W → (is_work W v.ballot.ready ≡ true) ⊎ Pending now W
        on (inl e) = inl e
        on (inr p) = inr (pending-on v W work (λ vote. other W vote work) p)

    here-now : s ≡ T.server → now.world.memory T.server ≡ Some row.table
    here-now e = ap (λ (z : World). z.memory T.server) comes.world ∙ ap (λ (b : Bool). if b then Some row.table else d.world.memory T.server) (itself s T.server e)
      where
        itself : (p q : ServerNo) → p ≡ q → server_eq p q ≡ true
        itself p q e = grind (arith, nat_tests, e)

    same-ballot : (a b : Ballot) → Voting a ≡ Voting b → a ≡ b
    same-ballot a b e = cc

    -- at the coordinator, any message but a vote of one of its works
    module _ (v : IsVoting d) (same : d.world.clients c ≡ t) (e : s ≡ T.server) where
      its : m ≡ v.memory
      its = some-memory m v.memory (sym up ∙ ap d.world.memory e ∙ v.up)

      found-here : transaction_at T m.coordinator.transactions ≡ Some v.entry
      found-here = ap (λ (z : Memory). transaction_at T z.coordinator.transactions) its ∙ v.found

      up-here : d.world.memory T.server ≡ Some m
      up-here = sym (ap d.world.memory e) ∙ up

      its-tid : v.entry.tid ≡ T
      its-tid = tid-name T m.coordinator.transactions v.entry found-here

      is-the-client : (outcome : Outcome) → ◌≡◌ {A = Sent} (Client v.entry.client, messages.Outcome v.entry.client v.entry.tid outcome) (Client c, messages.Outcome c T outcome)
      is-the-client outcome = ap (λ (z : ClientNo). (Client z, messages.Outcome z v.entry.tid outcome)) v.client ∙ ap (λ (z : Tid). (Client c, messages.Outcome c z outcome)) its-tid

      abbrev coordinated : RowOutcome Memory
      coordinated = of_coordinator m (coordinator_row m.coordinator room.free.records m.tickets message)

      by-fate : row ≡ coordinated → ((W : WorkId) (vote : Vote) → is_work W v.ballot.works ≡ true → Meets T.server (messages.Vote T W vote) → ⊥)
          → Fate T v.entry m.coordinator message (coordinator_row m.coordinator room.free.records m.tickets message) → EndWay now
      by-fate r other (stays f) = votes-at v row.table v.entry v.ballot (here-now e) (ap (λ (z : RowOutcome Memory). transaction_at T z.table.coordinator.transactions) r ∙ f) v.stage v.client (pendings v other) same
      by-fate r other (forgets f u) = absurd (true≢false (sym (ap is_undecided v.stage) ∙ u))
      by-fate r other (closes q f l u none) = absurd (no-later files epochs d.world (reached d g) T m v.entry up-here found-here q s (subst (λ z. In (Server s, z) d.world.sent) f (get-in d.world.sent k (Server s, message) is))
          (ap (λ (z : ClientNo). (d.world.clients z).transaction) v.client ∙ ap (λ (z : ClientTable). z.transaction) same ∙ current) l)
      by-fate r other (moves stage f move) = on stage f move
        where
          has : (outcome : Outcome) → Has (Client v.entry.client, messages.Outcome v.entry.client v.entry.tid outcome) (coordinator_row m.coordinator room.free.records m.tickets message).messages → Has (Client c, messages.Outcome c T outcome) row.messages
          has outcome h = subst (λ (z : Sent). Has z row.messages) (is-the-client outcome) (subst (λ (z : RowOutcome Memory). Has (Client v.entry.client, messages.Outcome v.entry.client v.entry.tid outcome) z.messages) (sym r) h)

          open-voting : Open ≡ Voting v.ballot → ⊥
          open-voting q = cc

          committed-voting : (x : Commitment) → Committed x ≡ Voting v.ballot → ⊥
          committed-voting x q = cc

          on : (stage : Stage) → transaction_at T (coordinator_row m.coordinator room.free.records m.tickets message).table.transactions ≡ Some (record v.entry { stage = stage })
              → Move v.entry (coordinator_row m.coordinator room.free.records m.tickets message).messages (coordinator_row m.coordinator room.free.records m.tickets message).notes stage → EndWay now
          on (Voting b) f (starts _ q) = absurd (open-voting (sym q ∙ v.stage))
          on (Committed x) f (commits_now _ u note told commit) = answered-by same outcomes.Committed refl (has outcomes.Committed told)
          on (Aborted cause) f (aborts_now _ u told) = answered-by same (outcomes.Aborted cause) refl (has (outcomes.Aborted cause) told)
          on (Committed x) f (finishes a _ q w g h) = absurd (committed-voting a (sym q ∙ v.stage))
          on stage f (notes_one b W q) = let eq = same-ballot v.ballot b (sym v.stage ∙ q) in
              votes-at v row.table (record v.entry { stage = Voting (record b { ready = with_work W b.ready }) }) (record b { ready = with_work W b.ready }) (here-now e) (ap (λ (z : RowOutcome Memory). transaction_at T z.table.coordinator.transactions) r ∙ f) refl v.client
              (λ V work. noted V (pendings v other V (subst (λ (z : Ballot). is_work V z.works ≡ true) (sym eq) work)) eq) same
            where
              noted : (V : WorkId) → (is_work V v.ballot.ready ≡ true) ⊎ Pending now V → v.ballot ≡ b → (is_work V (with_work W b.ready) ≡ true) ⊎ Pending now V
              noted V (inl k) eq = inl (with-still V W b.ready (subst (λ (z : Ballot). is_work V z.ready ≡ true) eq k))
              noted V (inr p) eq = inr p

      -- a vote of one of its works
      by-vote : (V : WorkId) (vote : Vote) → message ≡ messages.Vote T V vote → is_work V v.ballot.works ≡ true → EndWay now
      by-vote V vote is-vote work = on (vote-heard m.coordinator m.tickets T v.entry v.ballot V vote found-here v.stage work)
        where
          as-vote : row ≡ of_coordinator m (vote_row m.coordinator m.tickets T V vote (transaction_at T m.coordinator.transactions))
          as-vote = ap (λ z. server_row m (stable (d.world.found s)) room z) is-vote

          has : (outcome : Outcome) → Has (Client v.entry.client, messages.Outcome v.entry.client v.entry.tid outcome) (vote_row m.coordinator m.tickets T V vote (transaction_at T m.coordinator.transactions)).messages → Has (Client c, messages.Outcome c T outcome) row.messages
          has outcome h = subst (λ (z : Sent). Has z row.messages) (is-the-client outcome) (subst (λ (z : RowOutcome Memory). Has (Client v.entry.client, messages.Outcome v.entry.client v.entry.tid outcome) z.messages) (sym as-vote) h)

          -- of the others nothing comes
          others : (ready : List WorkId) → is_work V ready ≡ true → ((W : WorkId) → is_work W v.ballot.ready ≡ true → is_work W ready ≡ true) → (W : WorkId) → is_work W v.ballot.works ≡ true → (is_work W ready ≡ true) ⊎ Pending now W
          others ready own more W w = at (work_tells V W) (v.each W w)
            where
              vote-of : (W : WorkId) (x : Vote) → Meets T.server (messages.Vote T W x) → V ≡ W
              vote-of W x i = named (sym is-vote ∙ i.1)
                where
                  named : messages.Vote T V vote ≡ messages.Vote T W x → V ≡ W
                  named q = cc

              at : ((work_eq V W ≡ true) × (V ≡ W)) ⊎ ((work_eq V W ≡ false) × (V ≢ W)) → (is_work W v.ballot.ready ≡ true) ⊎ Pending d W → (is_work W ready ≡ true) ⊎ Pending now W
              at (inl p) x = inl (subst (λ (U : WorkId). is_work U ready ≡ true) p.1 own)
              at (inr p) (inl x) = inl (more W x)
              at (inr p) (inr x) = inr (pending-on v W w (λ x i. p.1 (vote-of W x i)) x)

          on : Heard T v.entry v.ballot V m.coordinator (vote_row m.coordinator m.tickets T V vote (transaction_at T m.coordinator.transactions)) → EndWay now
          on (noted_now f) = votes-at v row.table (record v.entry { stage = Voting (record v.ballot { ready = with_work V v.ballot.ready }) }) (record v.ballot { ready = with_work V v.ballot.ready }) (here-now e)
              (ap (λ (z : RowOutcome Memory). transaction_at T z.table.coordinator.transactions) as-vote ∙ f) refl v.client (others (with_work V v.ballot.ready) (with-itself V v.ballot.ready) (λ W h. with-still W V v.ballot.ready h)) same
          on (was_noted own f) = votes-at v row.table v.entry v.ballot (here-now e) (ap (λ (z : RowOutcome Memory). transaction_at T z.table.coordinator.transactions) as-vote ∙ ap (transaction_at T) f ∙ found-here) v.stage v.client (others v.ballot.ready own (λ W h. h)) same
          on (waits_told q u held h) = telling (same-at same) q u held (new-waits _ (has (outcomes.Waiting q u held) h))
          on (decided_now outcome x h) = answered-by same outcome x (has outcome h)

      same-part : (a b : Bool) → (a && b) ≡ true → (a ≡ true) × (b ≡ true)
      same-part a b h = (grind arith, grind arith)

      -- a message for the coordinator
      by-message : row ≡ coordinated → EndWay now
      by-message r = on message refl
        where
          fate : ((W : WorkId) (vote : Vote) → is_work W v.ballot.works ≡ true → Meets T.server (messages.Vote T W vote) → ⊥) → EndWay now
          fate other = by-fate r other (row-fate machine-now T.server m.coordinator room.free.records m.tickets (R.mirrors.transactions T.server m up-here) T v.entry found-here (not-next files epochs d.world R T m v.entry up-here found-here) message)
            where
              R : Reached files epochs d.world
              R = reached d g

              machine-now : Machine
              machine-now = machine files epochs d.world (reached d g)

          none : (V : WorkId) (vote : Vote) (U : Tid) (W : WorkId) (x : Vote) → message ≡ messages.Vote U V vote → Meets T.server (messages.Vote T W x) → (U ≡ T) × (V ≡ W)
          none V vote U W x e i = (named (sym e ∙ i.1), works (sym e ∙ i.1))
            where
              named : messages.Vote U V vote ≡ messages.Vote T W x → U ≡ T
              named q = cc

              works : messages.Vote U V vote ≡ messages.Vote T W x → V ≡ W
              works q = cc

          vote-of : (U : Tid) (V : WorkId) (vote : Vote) → message ≡ messages.Vote U V vote → (b : Bool) → (tid_eq U T && is_work V v.ballot.works) ≡ b → EndWay now
          vote-of U V vote e true q = let two = same-part (tid_eq U T) (is_work V v.ballot.works) q in by-vote V vote (e ∙ ap (λ (z : Tid). messages.Vote z V vote) (tid-is U two.0)) two.1
            where
              tid-is : (U : Tid) → tid_eq U T ≡ true → U ≡ T
              tid-is U h = let tells = tid_tells U T in grind (arith, h)
          vote-of U V vote e false q = fate (λ W x work i. let two = none V vote U W x e i in true≢false (sym (both U V two.0 (ap (λ (z : WorkId). is_work z v.ballot.works) two.1 ∙ work)) ∙ q))
            where
              both : (U : Tid) (V : WorkId) → U ≡ T → is_work V v.ballot.works ≡ true → (tid_eq U T && is_work V v.ballot.works) ≡ true
              both U V e h = let tells = tid_tells U T in grind (arith, e, h)

          other : (r : Message) → message ≡ r → ((W : WorkId) (x : Vote) → r ≡ messages.Vote T W x → ⊥) → EndWay now
          other r e not = fate (λ W x work i. not W x (sym e ∙ i.1))

          on : (r : Message) → message ≡ r → EndWay now
          on (messages.Vote U V vote) e = vote-of U V vote e (tid_eq U T && is_work V v.ballot.works) refl
          on (messages.Begin a q) e = other _ e (λ W x z. cc)
          on (messages.Open a q U) e = other _ e (λ W x z. cc)
          on (messages.Op a q W i op) e = other _ e (λ W x z. cc)
          on (messages.End a q U Ws) e = other _ e (λ W x z. cc)
          on (messages.Abort a q U Ws) e = other _ e (λ W x z. cc)
          on (messages.Thanks a U) e = other _ e (λ W x z. cc)
          on (messages.Begun a q U) e = other _ e (λ W x z. cc)
          on (messages.Opened a q U W) e = other _ e (λ W x z. cc)
          on (messages.Answer a q x) e = other _ e (λ W x z. cc)
          on (messages.Outcome a U x) e = other _ e (λ W x z. cc)
          on (messages.Prepare U a W) e = other _ e (λ W x z. cc)
          on (messages.Commit U W) e = other _ e (λ W x z. cc)
          on (messages.Drop U W) e = other _ e (λ W x z. cc)
          on (messages.Done U W) e = other _ e (λ W x z. cc)
          on (messages.Inquire U W) e = other _ e (λ W x z. cc)

      -- one for the worker
      by-worker : is_for_worker message ≡ true → EndWay now
      by-worker w = votes-at v row.table v.entry v.ballot (here-now e) (coordinator ∙ found-here) v.stage v.client (pendings v (λ W vote work i. true≢false (sym w ∙ ap is_for_worker i.1))) same
        where
          coordinator : transaction_at T row.table.coordinator.transactions ≡ transaction_at T m.coordinator.transactions
          coordinator = ap (λ (b : Bool). transaction_at T (if b then of_worker m (worker_row m.worker (storage_of m (stable (d.world.found s)) room) m.tickets message) else of_coordinator m (coordinator_row m.coordinator room.free.records m.tickets message)).table.coordinator.transactions) w

      voting-here : EndWay now
      voting-here = at (is_for_worker message) refl
        where
          at : (b : Bool) → is_for_worker message ≡ b → EndWay now
          at true w = by-worker w
          at false w = by-message (ap (λ (b : Bool). if b then of_worker m (worker_row m.worker (storage_of m (stable (d.world.found s)) room) m.tickets message) else of_coordinator m (coordinator_row m.coordinator room.free.records m.tickets message)) w)

    -- at another server
    voting-there : IsVoting d → d.world.clients c ≡ t → server_eq s T.server ≡ false → EndWay now
    voting-there v same e = votes-at v v.memory v.entry v.ballot (ap (λ (z : World). z.memory T.server) comes.world ∙ ap (λ (b : Bool). if b then Some row.table else d.world.memory T.server) e ∙ v.up) v.found v.stage v.client
        (pendings v (λ W vote work i. apart i.0)) same
      where
        apart : s ≡ T.server → ⊥
        apart q = true≢false (sym (let tells = server_tells s T.server in grind (arith, nat_tests, q)) ∙ e)

    -- ---- the End itself

    module _ (same : d.world.clients c ≡ t) (i : Meets T.server the_end) where
      up-there : d.world.memory T.server ≡ Some m
      up-there = sym (ap d.world.memory i.0) ∙ up

      row-is : row ≡ of_coordinator m (end_row m.coordinator room.free.records m.tickets t.client o.request T (names_of t.works) (transaction_at T m.coordinator.transactions))
      row-is = ap (λ z. server_row m (stable (d.world.found s)) room z) i.1

      outcome : (x : Outcome) → ends_outcome x ≡ true → (r : RowOutcome CoordinatorTable) → row ≡ of_coordinator m r → Has (Client c, messages.Outcome c T x) r.messages → EndWay now
      outcome x k r e h = answered-by same x k (subst (λ (z : RowOutcome Memory). Has (Client c, messages.Outcome c T x) z.messages) (sym e) h)

      module _ (y : Transaction) (found : transaction_at T m.coordinator.transactions ≡ Some y) where
        its-tid-is : y.tid ≡ T
        its-tid-is = tid-name T m.coordinator.transactions y found

        client-is : y.client ≡ c
        client-is = its-client n at_most start files epochs d c T m y g.talking (ap (λ (z : ClientTable). z.transaction) same ∙ current) up-there found

        to-client : (x : Outcome) → ◌≡◌ {A = Sent} (Client y.client, messages.Outcome y.client y.tid x) (Client c, messages.Outcome c T x)
        to-client x = ap (λ (z : ClientNo). (Client z, messages.Outcome z y.tid x)) client-is ∙ ap (λ (z : Tid). (Client c, messages.Outcome c z x)) its-tid-is

        told-them : (x : Outcome) → ends_outcome x ≡ true → (r : RowOutcome CoordinatorTable) → row ≡ of_coordinator m r → Has (Client y.client, messages.Outcome y.client y.tid x) r.messages → EndWay now
        told-them x k r e h = outcome x k r e (subst (λ (z : Sent). Has z r.messages) (to-client x) h)

        prepare-new : (W : WorkId) (r : RowOutcome CoordinatorTable) → row ≡ of_coordinator m r → Has (Server W.server, messages.Prepare y.tid y.client W) r.messages → Pending now W
        prepare-new W r e h = to_prepare (new-waits _ (subst (λ (z : RowOutcome Memory). Has (Server W.server, messages.Prepare T c W) z.messages) (sym e)
            (subst (λ (z : Sent). Has z r.messages) (ap (λ (z : Tid). (Server W.server, messages.Prepare z y.client W)) its-tid-is ∙ ap (λ (z : ClientNo). (Server W.server, messages.Prepare T z W)) client-is) h)))

        promised : (Ws : List WorkId) → row ≡ of_coordinator m (end_promised m.coordinator m.tickets y o.request Ws) → EndWay now
        promised [] e = told-them outcomes.Committed refl _ e (has-after (commits y.tid []) (committed_to y ∷ []) (committed_to y) (inl refl))
        promised (W ∷ Ws) e = voting (same-at same) (record {
          memory = row.table;
          up = here-now i.0;
          entry = record y { stage = Voting (record { request = o.request; works = W ∷ Ws; ready = [] }) };
          found = ap (λ (z : RowOutcome Memory). transaction_at T z.table.coordinator.transactions) e ∙ at-stage T y.tid (Voting (record { request = o.request; works = W ∷ Ws; ready = [] })) m.coordinator.transactions
              ∙ ap (λ (z : Bool). if z then in_stage (Voting (record { request = o.request; works = W ∷ Ws; ready = [] })) (transaction_at T m.coordinator.transactions) else transaction_at T m.coordinator.transactions) itself
              ∙ ap (in_stage (Voting (record { request = o.request; works = W ∷ Ws; ready = [] }))) found;
          ballot = record { request = o.request; works = W ∷ Ws; ready = [] };
          stage = refl;
          client = client-is;
          each = λ V work. inr (prepare-new V _ e (has-prepare y.tid y.client V (W ∷ Ws) work));
        })
          where
            itself : tid_eq y.tid T ≡ true
            itself = let tells = tid_tells y.tid T in let is = its-tid-is in grind (arith, is)

        by-stage : (z : Stage) → y.stage ≡ z → row ≡ of_coordinator m (end_stage m.coordinator room.free.records m.tickets y o.request (names_of t.works) z) → EndWay now
        by-stage (Committed x) q e = told-them outcomes.Committed refl _ e (inl refl)
        by-stage (Aborted cause) q e = told-them (outcomes.Aborted cause) refl _ e (inl refl)
        by-stage (Voting b) q e = voting (same-at same) (record { memory = row.table; up = here-now i.0; entry = y; found = ap (λ (z : RowOutcome Memory). transaction_at T z.table.coordinator.transactions) e ∙ found; ballot = b; stage = q; client = client-is; each = λ V work. at V work (is_work V b.ready) refl })
          where
            at : (V : WorkId) → is_work V b.works ≡ true → (z : Bool) → is_work V b.ready ≡ z → (is_work V b.ready ≡ true) ⊎ Pending now V
            at V work true k = inl k
            at V work false k = inr (prepare-new V _ e (has-prepare y.tid y.client V (besides b.works b.ready) (in-left V b.works b.ready work k)))
        by-stage Open q e = on (nat_lt room.free.records 1) e
          where
            on : (z : Bool) → row ≡ of_coordinator m (if z then abort_row m.coordinator m.tickets y (Full m.tickets.server resources.Records room.free.records 1) (names_of t.works) else end_promised m.coordinator m.tickets y o.request (names_of t.works)) → EndWay now
            on true e = told-them (outcomes.Aborted (Full m.tickets.server resources.Records room.free.records 1)) refl _ e (has-after (drops y.tid (names_of t.works)) (aborted_to y (Full m.tickets.server resources.Records room.free.records 1) ∷ []) (aborted_to y (Full m.tickets.server resources.Records room.free.records 1)) (inl refl))
            on false e = promised (names_of t.works) e

      end-comes : EndWay now
      end-comes = on (transaction_at T m.coordinator.transactions) refl
        where
          on : (z : Option Transaction) → transaction_at T m.coordinator.transactions ≡ z → EndWay now
          on (Some y) q = by-stage y q y.stage refl (row-is ∙ ap (λ z. of_coordinator m (end_row m.coordinator room.free.records m.tickets t.client o.request T (names_of t.works) z)) q)
          on None q = outcome (outcomes.NotKnown m.tickets.server m.tickets.epoch) refl _ (row-is ∙ ap (λ z. of_coordinator m (end_row m.coordinator room.free.records m.tickets t.client o.request T (names_of t.works) z)) q)
              (inl (ap (λ (z : ClientNo). (Client z, messages.Outcome z T (outcomes.NotKnown m.tickets.server m.tickets.epoch))) name))

    longer-now : Longer d.world now.world
    longer-now = record { more = lines_of s (Some k) row.notes; is = ap (λ (z : World). z.lines) comes.world }

    pub server-way : OnWay d → OnWay now
    server-way h = record { long = long-on d.world now.world longer-now h.long; way = by h.way }
      where
        by : EndWay d → EndWay now
        by (over q) = over (ap (λ f. (f c).outstanding) same-clients ∙ q)
        by (told_so q) = told_so (told-on d.world now.world longer-now q)
        by (answering same r w e) = answering (same-at same) r (client-waits r w) e
        by (telling same q u held w) = telling (same-at same) q u held (client-waits _ w)
        by (asks same w) = on (comes.waits (Server T.server, the_end) w)
          where
            on : (IsIt (Server s, message) (Server T.server, the_end)) ⊎ Waits now.world.sent now.waiting (Server T.server, the_end) → EndWay now
            on (inl q) = end-comes same (meets T.server the_end q)
            on (inr w) = asks (same-at same) w
        by (voting same v) = on (server_eq s T.server) refl
          where
            is-server : server_eq s T.server ≡ true → s ≡ T.server
            is-server q = let tells = server_tells s T.server in grind (arith, q)

            on : (b : Bool) → server_eq s T.server ≡ b → EndWay now
            on true q = voting-here v same (is-server q)
            on false q = voting-there v same q

  -- ---- at rest

  nothing-waits : (d : Course) (x : Sent) → d.waiting ≡ [] → Waits d.world.sent d.waiting x → ⊥
  nothing-waits d x e w = true≢false (sym w.waits ∙ ap (λ l. list_any (nat_eq w.number) l) e)

  pub rest-way : (unfinished : (d : Course) → Good n at_most start files epochs d → Unfinished d.world) (d : Course) → Good n at_most start files epochs d → d.waiting ≡ [] → EndWay d → ((d.world.clients c).outstanding ≡ None) ⊎ IsTold d.world
  rest-way unfinished d g e (over q) = inl q
  rest-way unfinished d g e (told_so q) = inr q
  rest-way unfinished d g e (asks same w) = absurd (nothing-waits d _ e w)
  rest-way unfinished d g e (answering same r w z) = absurd (nothing-waits d _ e w)
  rest-way unfinished d g e (telling same s u held w) = absurd (nothing-waits d _ e w)
  rest-way unfinished d g e (voting same v) = absurd (no (found-unfinished T v.memory.coordinator.transactions v.entry (unfinished d g T.server v.memory v.up) v.found))
    where
      done-each : (W : WorkId) → (is_work W v.ballot.ready ≡ true) ⊎ Pending d W → is_work W v.ballot.ready ≡ true
      done-each W (inl k) = k
      done-each W (inr (to_prepare w)) = absurd (nothing-waits d _ e w)
      done-each W (inr (to_vote vote w)) = absurd (nothing-waits d _ e w)

      all : all_in v.ballot.works v.ballot.ready ≡ true
      all = all-ready v.ballot.works v.ballot.ready (λ W k. done-each W (v.each W k))

      no : is_unfinished v.entry.stage ≡ true → ⊥
      no h = true≢false (sym h ∙ ap is_unfinished v.stage ∙ ap not all)

  -- a server's own step comes where nothing waits
  pub work-way : (unfinished : (d : Course) → Good n at_most start files epochs d → Unfinished d.world) (d now : Course) (s : ServerNo) (m : Memory) (v : Work) → Good n at_most start files epochs d → d.waiting ≡ []
      → Comes d now None (done s None (carried m d.world s v) d.world) → OnWay d → OnWay now
  work-way unfinished d now s m v g e comes h = record { long = long-on d.world now.world longer h.long; way = by (rest-way unfinished d g e h.way) }
    where
      longer : Longer d.world now.world
      longer = record { more = lines_of s None (carried m d.world s v).notes; is = ap (λ (z : World). z.lines) comes.world }

      by : ((d.world.clients c).outstanding ≡ None) ⊎ IsTold d.world → EndWay now
      by (inl q) = over (ap (λ (z : World). (z.clients c).outstanding) comes.world ∙ q)
      by (inr q) = told_so (told-on d.world now.world longer q)
