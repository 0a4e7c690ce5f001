-- Transactions that their clients have had, and that are past for them.
use Rattle.jn_system_reports.proofs.Common.{◌≡◌, ◌≢◌, ◌⊎◌, inl, inr, ◌<◌, ◌≤◌, ℕ, ◌+◌, Bool, true, false, List, Option, Some, None, refl, arith, ClientNo, Tid, WorkId, Cause, Requested, BrokenAt, LostAt, FullAt, Outcome, Vote, Outstanding, Transaction, Stage, FlagState, Change, AddFlag, DropFlag, Sent, ClientTable, Machine, Opening, Has, request_of, RequestNo}
use Rattle.jn_msgs.specs.declared.message.Message.TheVariants as messages
use Rattle.jn_msgs.specs.declared.message.Outcome.TheVariants as outcomes
use Rattle.jn_msgs.specs.declared.message.Vote.TheVariants as votes
use Rattle.jn_rows.specs.declared.coordinator.Stage.TheVariants.{Open, Voting, Committed, Aborted}
use Rattle.jn_system_order.proofs.Ordering.Facts.{opening}
use Rattle.jn_system_reports.proofs.Reporting.Known.{IsPast}

-- the client took its beginning
pub record WasHad (os : List Opening) (c : ClientNo) (t : ClientTable) (T : Tid) : Type 0 where
  pub request : RequestNo
  pub has : Has (opening c request T) os
  pub drawn : request.0 < t.next
  pub answered : (o : Outstanding) → t.outstanding ≡ Some o → o.request ≢ request

-- and ended it by this later request
pub record EndedBy (os : List Opening) (c : ClientNo) (t : ClientTable) (T : Tid) (q : RequestNo) : Type 0 where
  pub had : WasHad os c t T
  pub later : had.request.0 < q.0

-- a request that began a transaction came no later than the one that began what the client has now
pub record BeganBy (os : List Opening) (c : ClientNo) (t : ClientTable) (q : RequestNo) : Type 0 where
  pub drawn : q.0 < t.next
  pub now : (T : Tid) (p : RequestNo) → t.transaction ≡ Some T → Has (opening c p T) os → q.0 ≤ p.0

module _ (os : List Opening) (clients : ClientNo → ClientTable) (w : Machine) (Caused : ClientNo → Tid → Cause → Type 0) where
  abbrev pub Had : ClientNo → Tid → Type 0
  Had c T = WasHad os c (clients c) T

  abbrev pub Past : ClientNo → Tid → Type 0
  Past c T = IsPast os c (clients c) T

  -- a vote that aborts an undecided transaction is a cause
  abbrev pub VoteFact : Tid → WorkId → Vote → Type 0
  VoteFact T W (votes.Lost m n) = w.named T ≡ false → w.aborted T ≡ false → (c : ClientNo) → Caused c T (LostAt W.server)
  VoteFact T W (votes.Broken u by) = (c : ClientNo) → Caused c T (BrokenAt W.server u by)
  VoteFact T W (votes.Full n free need) = (c : ClientNo) → Caused c T (FullAt W.server n free need)
  VoteFact T W vote = Unit {0}

  abbrev pub OutcomeFact : ClientNo → Tid → Outcome → Type 0
  OutcomeFact c T outcomes.Committed = Had c T
  OutcomeFact c T (outcomes.Aborted cause) = Had c T × Caused c T cause
  OutcomeFact c T (outcomes.Waiting s u by) = Unit {0}
  OutcomeFact c T (outcomes.NotKnown s epoch) = Past c T ⊎ ((w.aborted T ≡ true) × Caused c T (LostAt s))

  -- what a message says of its transaction's client
  abbrev pub SaysPast : Sent → Type 0
  SaysPast (to, messages.Begin c q) = BeganBy os c (clients c) q
  SaysPast (to, messages.Begun c q T) = q.0 < (clients c).next
  SaysPast (to, messages.End c q T Ws) = EndedBy os c (clients c) T q
  SaysPast (to, messages.Abort c q T Ws) = Had c T × Caused c T Requested
  SaysPast (to, messages.Thanks c T) = Past c T
  SaysPast (to, messages.Outcome c T outcome) = OutcomeFact c T outcome
  SaysPast (to, messages.Vote T W vote) = VoteFact T W vote
  SaysPast (to, message) = Unit {0}

  -- ---- tables

  abbrev pub StageFact : ClientNo → Tid → Stage → Type 0
  StageFact c T Open = Unit {0}
  StageFact c T (Voting b) = EndedBy os c (clients c) T b.request
  StageFact c T (Committed d) = Had c T × (d.thanked ≡ true → Past c T)
  StageFact c T (Aborted cause) = Had c T × Caused c T cause

  pub record EntryFact (seen : ClientNo → ℕ) (x : Transaction) : Type 0 where
    pub request : RequestNo
    pub has : Has (opening x.client request x.tid) os
    pub seen_it : request.0 ≤ seen x.client
    pub stage : StageFact x.client x.tid x.stage

  -- ---- changes

  abbrev pub ChangeFact : Change → Type 0
  ChangeFact (AddFlag flag) = EndedBy os flag.client (clients flag.client) flag.tid flag.request
  ChangeFact (DropFlag T) = (c : ClientNo) × Past c T
  ChangeFact change = Unit {0}

  abbrev pub FlagPast : Tid → Option FlagState → Type 0
  FlagPast T None = Unit {0}
  FlagPast T (Some flag) = EndedBy os flag.client (clients flag.client) T flag.request

-- ---- growth

-- what is said of clients goes on to hold
pub record Goes (os os' : List Opening) (clients clients' : ClientNo → ClientTable) (w v : Machine) (Caused Caused' : ClientNo → Tid → Cause → Type 0) : Type 0 where
  pub opened : (a : Opening) → Has a os → Has a os'
  pub next : (c : ClientNo) (n : ℕ) → n < (clients c).next → n < (clients' c).next
  pub had : (c : ClientNo) (T : Tid) (q : RequestNo) → EndedBy os c (clients c) T q → EndedBy os' c (clients' c) T q
  pub past : (c : ClientNo) (T : Tid) → IsPast os c (clients c) T → IsPast os' c (clients' c) T
  pub began : (c : ClientNo) (q : RequestNo) → BeganBy os c (clients c) q → BeganBy os' c (clients' c) q
  pub caused : (c : ClientNo) (T : Tid) (cause : Cause) → Caused c T cause → Caused' c T cause
  pub aborted : (T : Tid) → w.aborted T ≡ true → v.aborted T ≡ true
  pub named : (T : Tid) → w.named T ≡ true → v.named T ≡ true

module _ (os os' : List Opening) (clients clients' : ClientNo → ClientTable) (w v : Machine) (Caused Caused' : ClientNo → Tid → Cause → Type 0) (g : Goes os os' clients clients' w v Caused Caused') where
  below : (n : ℕ) → n < n + 1
  below n = omega arith

  pub had-goes : (c : ClientNo) (T : Tid) → WasHad os c (clients c) T → WasHad os' c (clients' c) T
  had-goes c T h = (g.had c T (request_of (h.request.0 + 1)) (record { had = h; later = below h.request.0 })).had

  not-yet : (a b : Bool) → (a ≡ true → b ≡ true) → b ≡ false → a ≡ false
  not-yet true b h e = absurd (grind arith)
  not-yet false b h e = refl

  vote-goes : (T : Tid) (W : WorkId) (vote : Vote) → VoteFact os clients w Caused T W vote → VoteFact os' clients' v Caused' T W vote
  vote-goes T W (votes.Lost m n) h = λ a b c. g.caused c T (LostAt W.server) (h (not-yet (w.named T) (v.named T) (g.named T) a) (not-yet (w.aborted T) (v.aborted T) (g.aborted T) b) c)
  vote-goes T W (votes.Broken u by) h = λ c. g.caused c T (BrokenAt W.server u by) (h c)
  vote-goes T W (votes.Full n free need) h = λ c. g.caused c T (FullAt W.server n free need) (h c)
  vote-goes T W _ h = tt

  outcome-goes : (c : ClientNo) (T : Tid) (outcome : Outcome) → OutcomeFact os clients w Caused c T outcome → OutcomeFact os' clients' v Caused' c T outcome
  outcome-goes c T outcomes.Committed h = had-goes c T h
  outcome-goes c T (outcomes.Aborted cause) h = (had-goes c T h.0, g.caused c T cause h.1)
  outcome-goes c T (outcomes.Waiting s u by) h = tt
  outcome-goes c T (outcomes.NotKnown s epoch) (inl p) = inl (g.past c T p)
  outcome-goes c T (outcomes.NotKnown s epoch) (inr p) = inr (g.aborted T p.0, g.caused c T (LostAt s) p.1)

  pub says-goes : (x : Sent) → SaysPast os clients w Caused x → SaysPast os' clients' v Caused' x
  says-goes (to, messages.Begin c q) h = g.began c q h
  says-goes (to, messages.Begun c q T) h = g.next c q.0 h
  says-goes (to, messages.End c q T Ws) h = g.had c T q h
  says-goes (to, messages.Abort c q T Ws) h = (had-goes c T h.0, g.caused c T Requested h.1)
  says-goes (to, messages.Thanks c T) h = g.past c T h
  says-goes (to, messages.Outcome c T outcome) h = outcome-goes c T outcome h
  says-goes (to, messages.Vote T W vote) h = vote-goes T W vote h
  says-goes (to, _) h = tt

  stage-goes : (c : ClientNo) (T : Tid) (stage : Stage) → StageFact os clients w Caused c T stage → StageFact os' clients' v Caused' c T stage
  stage-goes c T Open h = tt
  stage-goes c T (Voting b) h = g.had c T b.request h
  stage-goes c T (Committed d) h = (had-goes c T h.0, λ e. g.past c T (h.1 e))
  stage-goes c T (Aborted cause) h = (had-goes c T h.0, g.caused c T cause h.1)

  pub entry-goes : (seen : ClientNo → ℕ) (x : Transaction) → EntryFact os clients w Caused seen x → EntryFact os' clients' v Caused' seen x
  entry-goes seen x h = record { request = h.request; has = g.opened _ h.has; seen_it = h.seen_it; stage = stage-goes x.client x.tid x.stage h.stage }

  pub flag-goes : (T : Tid) (o : Option FlagState) → FlagPast os clients w Caused T o → FlagPast os' clients' v Caused' T o
  flag-goes T None h = tt
  flag-goes T (Some flag) h = g.had flag.client T flag.request h

-- more openings, that are none of what a client has now
pub opened-goes : (os os' : List Opening) (clients : ClientNo → ClientTable) (w v : Machine) (Caused Caused' : ClientNo → Tid → Cause → Type 0) → ((a : Opening) → Has a os → Has a os')
    → ((c : ClientNo) (T : Tid) (q : RequestNo) → (clients c).transaction ≡ Some T → Has (opening c q T) os' → Has (opening c q T) os) → ((c : ClientNo) (T : Tid) (cause : Cause) → Caused c T cause → Caused' c T cause)
    → ((T : Tid) → w.aborted T ≡ true → v.aborted T ≡ true) → ((T : Tid) → w.named T ≡ true → v.named T ≡ true) → Goes os os' clients clients w v Caused Caused'
opened-goes os os' clients w v Caused Caused' more back caused aborted named = record {
  opened = more;
  next = λ c n h. h;
  had = λ c T n h. record { had = record { request = h.had.request; has = more _ h.had.has; drawn = h.had.drawn; answered = h.had.answered }; later = h.later };
  past = λ c T h. record { request = h.request; has = more _ h.has; drawn = h.drawn; over = h.over; answered = h.answered };
  began = λ c n h. record { drawn = h.drawn; now = λ T q e k. h.now T q e (back c T q e k) };
  caused = caused;
  aborted = aborted;
  named = named;
}
