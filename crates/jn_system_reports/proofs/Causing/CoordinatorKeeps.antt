-- A coordinator's row: a transaction that isn't past stays in its table, and what is dropped has its outcome.
use Rattle.jn_system_reports.proofs.Common.{◌≡◌, ◌≢◌, ◌⊎◌, inl, inr, ℕ, ◌+◌, Bool, true, false, List, [], ◌∷◌, ◌++◌, Some, None, is_some, refl, sym, ap, subst, arith, ◌&&◌, if◌then◌else◌, nat_lt, ServerNo, ClientNo, Tid, WorkId, Tickets, Cause, FullAt, Resource, client_eq, tid_eq, client_tells, tid_tells, Message, Note, Outstanding, Transaction, Stage, Commitment, StableState, Change, RowOutcome, Sent, ClientTable, CoordinatorTable, transaction_at, with_stage, all_in, besides, drops, commits, prepares, aborted_to, committed_to, closed, after_closing, coordinator_row, Machine, IsTrue, Opening, Has, RequestNo, IsListed, wants_to_commit, wants_to_abort, WantsOutcome, wants_outcome, votes_late, Unneeded, is_not_here, is_carried_out, has_aborted, Saying, says_nothing, says_begun, says_unknown, prepares_again, says_drop, Noting, work_is_done, client_thanks, CoordinatorCase, is_ignored_by, is_left_by, begins_anew, finds_no_room, starts_voting, counts_vote, is_committed_by, is_aborted_by, notes_commit, forgets_commit, forgets_abort, coordinator-case, begun_by, is_begun}
use Rattle.jn_msgs.specs.declared.message.Message.TheVariants as messages
use Rattle.jn_rows.specs.declared.coordinator.Stage.TheVariants.{Open, Committed, Aborted}
use Rattle.jn_rows.specs.Coordinator.{without, name_from}
use Rattle.jn_system_reports.proofs.Reporting.Lists.{In, in-second, Each, each-append}
use Rattle.jn_system_reports.proofs.Reporting.Past.{BeganBy, Past, StageFact, EntryFact}
use Rattle.jn_system_reports.proofs.Reporting.PastRows.{IsThere, each-found, there-staged, there-less, there-more, begin-past}

-- ---- tables

there-later : (U : Tid) (xs ys : List Transaction) → IsThere U ys → IsThere U (xs ++ ys)
there-later U [] ys h = h
there-later U (x ∷ xs) ys h = by (tid_eq x.tid U) (there-later U xs ys h)
  where
    by : (b : Bool) → IsThere U (xs ++ ys) → is_some (if b then Some x else transaction_at U (xs ++ ys)) ≡ true
    by true on = refl
    by false on = on

there-first : (x : Transaction) (xs : List Transaction) → IsThere x.tid (x ∷ xs)
there-first x xs = by (tid_tells x.tid x.tid)
  where
    by : ((tid_eq x.tid x.tid ≡ true) × (x.tid ≡ x.tid)) ⊎ ((tid_eq x.tid x.tid ≡ false) × (x.tid ≢ x.tid)) → is_some (if tid_eq x.tid x.tid then Some x else transaction_at x.tid xs) ≡ true
    by (inl p) = ap (λ (b : Bool). is_some (if b then Some x else transaction_at x.tid xs)) p.0
    by (inr p) = absurd (p.1 refl)

-- the transaction that a request began is in the table
begun-there : (P : Transaction → Type 0) (c : ClientNo) (q : RequestNo) (xs : List Transaction) (x : Transaction) → Each P xs → begun_by c q xs ≡ Some x → P x × IsThere x.tid xs
begun-there P c q [] x h k = absurd (none k)
  where
    none : None ≡ Some x → ⊥
    none e = cc
begun-there P c q (y ∷ ys) x h k = by (client_eq y.client c && is_begun y.begun q) k (begun-there P c q ys x h.1)
  where
    some : Some y ≡ Some x → y ≡ x
    some e = cc

    by : (b : Bool) → (if b then Some y else begun_by c q ys) ≡ Some x → (begun_by c q ys ≡ Some x → P x × IsThere x.tid ys) → P x × IsThere x.tid (y ∷ ys)
    by true e on = (subst P (some e) h.0, subst (λ (z : Transaction). IsThere z.tid (y ∷ ys)) (some e) (there-first y ys))
    by false e on = let p = on e in (p.0, there-later x.tid (y ∷ []) ys p.1)

-- a stable state that says nothing
abbrev no-state : StableState
no-state = record { epoch = 0; files = λ u. None; works = λ W. None; flags = λ T. None }

no-true : {B : Type 0} → false ≡ true → B
no-true e = absurd (grind arith)

-- it won't commit, or has
abbrev pub Spent : Machine → Tid → Type 0
Spent w T = (w.named T ≡ true) ⊎ (w.aborted T ≡ true)

module _ (os : List Opening) (clients : ClientNo → ClientTable) (w v : Machine) (Caused : ClientNo → Tid → Cause → Type 0) (unique : (a b : Opening) → Has a os → Has b os → a.tid ≡ b.tid → a ≡ b)
    (full : (c : ClientNo) (T : Tid) (s : ServerNo) (n : Resource) (free need : ℕ) → nat_lt free need ≡ true → Caused c T (FullAt s n free need)) where
  -- no client is past it
  abbrev pub NotPast : Tid → Type 0
  NotPast T = (c : ClientNo) → Past os clients w Caused c T → ⊥

  module _ (t : CoordinatorTable) (k : Tickets) (all-entries : Each (EntryFact os clients w Caused t.seen) t.transactions)
      (place : Each (λ (y : Transaction). y.tid.server ≡ k.server) t.transactions)
      (last : (c : ClientNo) (o : Outstanding) → (clients c).outstanding ≡ Some o → (clients c).next ≡ o.request.0 + 1)
      (committed : (T : Tid) (y : Transaction) (d : Commitment) → transaction_at T t.transactions ≡ Some y → y.stage ≡ Committed d → Spent v T)
      (aborted : (T : Tid) (y : Transaction) (cause : Cause) → transaction_at T t.transactions ≡ Some y → y.stage ≡ Aborted cause → Spent v T) where
    abbrev Entry : Transaction → Type 0
    Entry y = EntryFact os clients w Caused t.seen y

    -- what is told to have begun is in the table and was asked for, and what is dropped has its outcome
    abbrev pub NewsFact : (ClientNo → RequestNo → Type 0) → List Transaction → Sent → Type 0
    NewsFact Asks now (to, messages.Begun c q (Some T)) = IsThere T now × (T.server ≡ k.server) × Asks c q
    NewsFact Asks now (to, messages.Begun c q None) = Unit {0}
    NewsFact Asks now (to, messages.Outcome c T outcome) = Unit {0}
    NewsFact Asks now (to, messages.Prepare T c W) = Unit {0}
    NewsFact Asks now (to, messages.Commit T W) = Unit {0}
    NewsFact Asks now (to, messages.Drop T W) = Spent v T
    NewsFact Asks now (to, message) = ⊥

    pub record RowHolds (Asks : ClientNo → RequestNo → Type 0) (row : RowOutcome CoordinatorTable) : Type 0 where
      pub held : (T : Tid) → NotPast T → IsThere T t.transactions → IsThere T row.table.transactions
      pub news : ((m : Sent) → In m row.messages → IsTrue v m) → Each (NewsFact Asks row.table.transactions) row.messages

    module _ (Asks : ClientNo → RequestNo → Type 0) where
      abbrev Holds : RowOutcome CoordinatorTable → Type 0
      Holds row = RowHolds Asks row

      drops-new : (now : List Transaction) (T : Tid) (Ws : List WorkId) → Spent v T → Each (NewsFact Asks now) (drops T Ws)
      drops-new now T [] h = tt
      drops-new now T (W ∷ Ws) h = (h, drops-new now T Ws h)

      commits-new : (now : List Transaction) (T : Tid) (Ws : List WorkId) → Each (NewsFact Asks now) (commits T Ws)
      commits-new now T [] = tt
      commits-new now T (W ∷ Ws) = (tt, commits-new now T Ws)

      prepares-new : (now : List Transaction) (T : Tid) (c : ClientNo) (Ws : List WorkId) → Each (NewsFact Asks now) (prepares T c Ws)
      prepares-new now T c [] = tt
      prepares-new now T c (W ∷ Ws) = (tt, prepares-new now T c Ws)

      staged : (T : Tid) (stage : Stage) (changes : List Change) (sent : List Sent) (told : List Note) → (((m : Sent) → In m sent → IsTrue v m) → Each (NewsFact Asks (with_stage T stage t.transactions)) sent)
          → Holds (record { table = record t { transactions = with_stage T stage t.transactions }; changes = changes; messages = sent; notes = told; tickets = k })
      staged T stage changes sent told h = record { held = λ U past l. there-staged U T stage t.transactions l; news = h }

      leaves : (T : Tid) (changes : List Change) (c : ClientNo) → Past os clients w Caused c T → Holds (record { table = record t { transactions = without T t.transactions }; changes = changes; messages = []; notes = []; tickets = k })
      leaves T changes c past = record { held = λ U not l. there-less U T t.transactions (λ e. not c (subst (λ (V : Tid). Past os clients w Caused c V) e past)) l; news = λ h. tt }

      -- ---- Begin

      module _ (c : ClientNo) (q : RequestNo) (began : BeganBy os c (clients c) q) (later : nat_lt (t.seen c) q.0 ≡ true) where
        closing-holds : (U : Tid) → NotPast U → (xs : List Transaction) → Each Entry xs → IsThere U xs → IsThere U (after_closing c xs)
        closing-holds U past [] h l = l
        closing-holds U past (y ∷ ys) h l = by (tid_tells y.tid U) (client_tells y.client c) (closing-holds U past ys h.1)
          where
            rest : tid_eq y.tid U ≡ false → IsThere U ys
            rest e = subst (λ (b : Bool). is_some (if b then Some y else transaction_at U ys) ≡ true) e l

            by : ((tid_eq y.tid U ≡ true) × (y.tid ≡ U)) ⊎ ((tid_eq y.tid U ≡ false) × (y.tid ≢ U)) → ((client_eq y.client c ≡ true) × (y.client ≡ c)) ⊎ ((client_eq y.client c ≡ false) × (y.client ≢ c))
                → (IsThere U ys → IsThere U (after_closing c ys)) → IsThere U (if client_eq y.client c then closed y.stage y ++ after_closing c ys else y ∷ after_closing c ys)
            by (inl e) (inl p) on = absurd (past c (subst (λ (V : Tid). Past os clients w Caused c V) e.1 (begin-past os clients w Caused unique full t k no-state all-entries (λ T z e f. refl) (λ T e. no-true e) c q began (last c) later y h.0 p.1)))
            by (inr e) (inl p) on = subst (λ (b : Bool). IsThere U (if b then closed y.stage y ++ after_closing c ys else y ∷ after_closing c ys)) (sym p.0) (there-later U (closed y.stage y) (after_closing c ys) (on (rest e.0)))
            by (inl e) (inr p) on = subst (λ (b : Bool). IsThere U (if b then closed y.stage y ++ after_closing c ys else y ∷ after_closing c ys)) (sym p.0) (subst (λ (V : Tid). IsThere V (y ∷ after_closing c ys)) e.1 (there-first y (after_closing c ys)))
            by (inr e) (inr p) on = subst (λ (b : Bool). IsThere U (if b then closed y.stage y ++ after_closing c ys else y ∷ after_closing c ys)) (sym p.0) (there-later U (y ∷ []) (after_closing c ys) (on (rest e.0)))

      -- ---- every message

      -- what isn't in the table has its outcome
      abbrev pub IsKnown : Tid → Type 0
      IsKnown T = transaction_at T t.transactions ≡ None → Spent v T

      -- what is said of the transaction, and that it is known here
      abbrev pub Comes : Message → Type 0
      Comes (messages.Begin c q) = Asks c q × BeganBy os c (clients c) q
      Comes (messages.End c q T Ws) = IsKnown T
      Comes (messages.Abort c q T Ws) = IsKnown T
      Comes (messages.Thanks c T) = Past os clients w Caused c T
      Comes (messages.Vote T W v) = IsKnown T
      Comes (messages.Inquire T W) = IsKnown T
      Comes message = Unit {0}

      unneeded-spent : (m : Message) (T : Tid) (W : WorkId) → Comes m → WantsOutcome T W m → Unneeded t W T → Spent v T
      unneeded-spent _ _ W known wants_outcome (is_not_here T none) = known none
      unneeded-spent _ _ W known (votes_late vote) (is_not_here T none) = known none
      unneeded-spent _ _ W known asks (is_carried_out y d found e over) = committed y.tid y d found e
      unneeded-spent _ _ W known asks (has_aborted y cause found e) = aborted y.tid y cause found e

      says-new : (m : Message) (sent : List Sent) → Comes m → Saying t k m sent → Each (NewsFact Asks t.transactions) sent
      says-new _ _ h (says_nothing m W y asks found) = tt
      says-new _ _ h (says_begun c q y same e) = let p = begun-there (λ (z : Transaction). z.tid.server ≡ k.server) c q t.transactions y place e in ((p.1, p.0, h.0), tt)
      says-new _ _ h (says_unknown _ c T Ws (wants_to_commit q) none) = (tt, drops-new _ T Ws (h none))
      says-new _ _ h (says_unknown _ c T Ws (wants_to_abort q) none) = (tt, drops-new _ T Ws (h none))
      says-new _ _ h (prepares_again c q Ws y b found e) = prepares-new _ y.tid y.client (besides b.works b.ready)
      says-new _ _ h (says_drop m T W asks why) = (unneeded-spent m T W h asks why, tt)
      says-new _ _ h _ = (tt, tt)

      noting-past : (m : Message) (y : Transaction) (d : Commitment) → IsListed t y → Comes m → Noting y m d → d.thanked ≡ true → (c : ClientNo) × Past os clients w Caused c y.tid
      noting-past _ y _ found h (work_is_done W d e waits) thanks = (y.client, (subst (λ (z : Stage). StageFact os clients w Caused y.client y.tid z) e (each-found Entry y.tid t.transactions y all-entries found).0.stage).1 thanks)
      noting-past _ y _ found h (client_thanks c d e new) thanks = (c, h)

      case-holds : (free : ℕ) (m : Message) (row : RowOutcome CoordinatorTable) → Comes m → CoordinatorCase t free k m row → Holds row
      case-holds free _ _ h (is_ignored_by m) = record { held = λ T past l. l; news = λ i. tt }
      case-holds free _ _ h (is_left_by m sent says) = record { held = λ T past l. l; news = λ i. says-new m sent h says }
      case-holds free _ _ h (begins_anew c q later room) = record {
        held = λ T past l. there-more T (after_closing c t.transactions) _ (closing-holds c q h.1 later T past t.transactions all-entries l);
        news = λ i. ((there-later (name_from k) (after_closing c t.transactions) _ (there-first (record { tid = name_from k; client = c; begun = Some q; stage = Open }) []), refl, h.0), tt);
      }
      case-holds free _ _ h (finds_no_room c q later less) = record { held = λ T past l. closing-holds c q h.1 later T past t.transactions all-entries l; news = λ i. (tt, tt) }
      case-holds free _ _ h (starts_voting c q W Ws y found e room) = staged y.tid _ _ _ _ (λ i. prepares-new _ y.tid y.client (W ∷ Ws))
      case-holds free _ _ h (counts_vote W y b found e is waits) = staged y.tid _ _ _ _ (λ i. tt)
      case-holds free _ _ h (is_committed_by m y q Ws found why) = staged y.tid _ _ _ _ (λ i. each-append (NewsFact Asks _) (commits y.tid Ws) (committed_to y ∷ []) (commits-new _ y.tid Ws) (tt, tt))
      case-holds free _ _ h (is_aborted_by m y cause Ws found why) = staged y.tid (Aborted cause) _ _ _
          (λ i. each-append (NewsFact Asks _) (drops y.tid Ws) (aborted_to y cause ∷ []) (drops-new _ y.tid Ws (inr (i (aborted_to y cause) (in-second (aborted_to y cause) (drops y.tid Ws) (aborted_to y cause ∷ []) (inl refl))))) (tt, tt))
      case-holds free _ _ h (notes_commit m y d found notes waits) = staged y.tid (Committed d) [] [] [] (λ i. tt)
      case-holds free _ _ h (forgets_commit m y d found notes through) = let p = noting-past m y d found h notes (first-of d.thanked (all_in d.works d.done) through) in leaves y.tid _ p.0 p.1
        where
          first-of : (a b : Bool) → (a && b) ≡ true → a ≡ true
          first-of a b e = grind arith
      case-holds free _ _ h (forgets_abort c y cause found e) = leaves y.tid [] c h

      pub row-holds : (free : ℕ) (message : Message) → Comes message → Holds (coordinator_row t free k message)
      row-holds free message h = case-holds free message _ h (coordinator-case t free k message)
