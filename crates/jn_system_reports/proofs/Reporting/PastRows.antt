-- A coordinator's rows keep what they say of transactions that are past, and forget only those.
use Rattle.jn_system_reports.proofs.Common.{◌≡◌, ◌≢◌, ◌⊎◌, inl, inr, ◌<◌, ◌≤◌, ℕ, ◌+◌, Bool, true, false, List, [], ◌∷◌, ◌++◌, Option, Some, None, is_some, refl, sym, ◌∙◌, ap, subst, arith, ◌&&◌, if◌then◌else◌, nat_lt, list_any, nat_tests, ServerNo, ClientNo, Tid, WorkId, Tickets, Cause, Requested, FullAt, Party, Resource, client_eq, tid_eq, client_tells, tid_tells, Message, Note, Outstanding, Transaction, Stage, Ballot, Commitment, StableState, FlagState, Change, DropFlag, at_tid, made_by, made_all, RowOutcome, Sent, ClientTable, CoordinatorTable, transaction_at, with_stage, with_work, all_in, besides, drops, commits, prepares, commit_row, after_closing, changes_of_closing, all_thanked, close_clients_row, seen_now, seen_in_flag, seen_in_flags, restored_transaction, restored_transactions, coordinator_row, told_again, coordinator_again, committed_to, Machine, IsIdle, is_committed, Closes, Empty, Stays, Goes, Waits, Forgets, client-closes, outcomes-close, named_by, Opening, Has, openings, has-first, has-second, RequestNo, IsListed, wants_to_commit, wants_to_abort, Saying, says_nothing, says_begun, says_unknown, prepares_again, says_committed, says_aborted, Committing, has_no_works, is_last_vote, Aborting, finds_no_record, stops_open, stops_voting, work_is_lost, work_is_broken, work_has_no_room, Noting, work_is_done, client_thanks, CoordinatorCase, is_ignored_by, is_left_by, begins_anew, finds_no_room, starts_voting, counts_vote, is_committed_by, is_aborted_by, notes_commit, forgets_commit, forgets_abort, coordinator-case, one-changes}
use Rattle.jn_base.specs.declared.names.Resource.TheVariants as resources
use Rattle.jn_msgs.specs.declared.message.Message.TheVariants as messages
use Rattle.jn_msgs.specs.declared.message.Outcome.TheVariants as outcomes
use Rattle.jn_msgs.specs.declared.message.Note.TheVariants.{Broke}
use Rattle.jn_rows.specs.declared.coordinator.Stage.TheVariants.{Open, Voting, Committed, Aborted}
use Rattle.jn_rows.specs.Coordinator.{without, name_from}
use Rattle.jn_system_order.proofs.Ordering.Facts.{opening}
use Rattle.jn_system_reports.proofs.Reporting.Lists.{In, Each, each-append, each-more}
use Rattle.jn_system_reports.proofs.Reporting.Past.{WasHad, EndedBy, BeganBy, Had, Past, OutcomeFact, SaysPast, StageFact, EntryFact, ChangeFact, FlagPast}

-- ---- tables

pub each-stage : (P : Transaction → Type 0) (T : Tid) (stage : Stage) (xs : List Transaction) → ((y : Transaction) → y.tid ≡ T → P y → P (record y { stage = stage })) → Each P xs → Each P (with_stage T stage xs)
each-stage P T stage [] f h = tt
each-stage P T stage (x ∷ xs) f h = by (tid_tells x.tid T) (each-stage P T stage xs f h.1)
  where
    by : ((tid_eq x.tid T ≡ true) × (x.tid ≡ T)) ⊎ ((tid_eq x.tid T ≡ false) × (x.tid ≢ T)) → Each P (with_stage T stage xs) → Each P (if tid_eq x.tid T then record x { stage = stage } ∷ xs else x ∷ with_stage T stage xs)
    by (inl p) on = subst (λ (b : Bool). Each P (if b then record x { stage = stage } ∷ xs else x ∷ with_stage T stage xs)) (sym p.0) (f x p.1 h.0, h.1)
    by (inr p) on = subst (λ (b : Bool). Each P (if b then record x { stage = stage } ∷ xs else x ∷ with_stage T stage xs)) (sym p.0) (h.0, on)

pub each-without : (P : Transaction → Type 0) (T : Tid) (xs : List Transaction) → Each P xs → Each P (without T xs)
each-without P T [] h = tt
each-without P T (x ∷ xs) h = by (tid_eq x.tid T) (each-without P T xs h.1)
  where
    by : (b : Bool) → Each P (without T xs) → Each P (if b then xs else x ∷ without T xs)
    by true on = h.1
    by false on = (h.0, on)

pub each-found : (P : Transaction → Type 0) (T : Tid) (xs : List Transaction) (x : Transaction) → Each P xs → transaction_at T xs ≡ Some x → P x × (x.tid ≡ T)
each-found P T [] x h k = absurd (none k)
  where
    none : None ≡ Some x → ⊥
    none e = cc
each-found P T (y ∷ ys) x h k = by (tid_tells y.tid T) k (each-found P T ys x h.1)
  where
    some : Some y ≡ Some x → y ≡ x
    some e = cc

    by : ((tid_eq y.tid T ≡ true) × (y.tid ≡ T)) ⊎ ((tid_eq y.tid T ≡ false) × (y.tid ≢ T)) → (if tid_eq y.tid T then Some y else transaction_at T ys) ≡ Some x → (transaction_at T ys ≡ Some x → P x × (x.tid ≡ T)) → P x × (x.tid ≡ T)
    by (inl p) e on = let same = some (subst (λ (b : Bool). (if b then Some y else transaction_at T ys) ≡ Some x) p.0 e) in (subst P same h.0, ap (λ (z : Transaction). z.tid) (sym same) ∙ p.1)
    by (inr p) e on = on (subst (λ (b : Bool). (if b then Some y else transaction_at T ys) ≡ Some x) p.0 e)

-- whether it is in a table
abbrev pub IsThere : Tid → List Transaction → Type 0
IsThere T xs = is_some (transaction_at T xs) ≡ true

pub there-staged : (U T : Tid) (stage : Stage) (xs : List Transaction) → IsThere U xs → IsThere U (with_stage T stage xs)
there-staged U T stage [] h = h
there-staged U T stage (x ∷ xs) h = by (tid_eq x.tid T) (tid_eq x.tid U) refl h (there-staged U T stage xs)
  where
    by : (b c : Bool) → tid_eq x.tid U ≡ c → is_some (if c then Some x else transaction_at U xs) ≡ true → (IsThere U xs → IsThere U (with_stage T stage xs)) → IsThere U (if b then record x { stage = stage } ∷ xs else x ∷ with_stage T stage xs)
    by true true e k on = ap (λ (c : Bool). is_some (if c then Some (record x { stage = stage }) else transaction_at U xs)) e
    by true false e k on = ap (λ (c : Bool). is_some (if c then Some (record x { stage = stage }) else transaction_at U xs)) e ∙ k
    by false true e k on = ap (λ (c : Bool). is_some (if c then Some x else transaction_at U (with_stage T stage xs))) e
    by false false e k on = ap (λ (c : Bool). is_some (if c then Some x else transaction_at U (with_stage T stage xs))) e ∙ on k

pub there-less : (U T : Tid) (xs : List Transaction) → T ≢ U → IsThere U xs → IsThere U (without T xs)
there-less U T [] ne h = h
there-less U T (x ∷ xs) ne h = by (tid_tells x.tid T) (tid_tells x.tid U) h (there-less U T xs ne)
  where
    by : ((tid_eq x.tid T ≡ true) × (x.tid ≡ T)) ⊎ ((tid_eq x.tid T ≡ false) × (x.tid ≢ T)) → ((tid_eq x.tid U ≡ true) × (x.tid ≡ U)) ⊎ ((tid_eq x.tid U ≡ false) × (x.tid ≢ U))
        → is_some (if tid_eq x.tid U then Some x else transaction_at U xs) ≡ true → (IsThere U xs → IsThere U (without T xs)) → IsThere U (if tid_eq x.tid T then xs else x ∷ without T xs)
    by (inl p) (inl q) k on = absurd (ne (sym p.1 ∙ q.1))
    by (inl p) (inr q) k on = subst (λ (b : Bool). IsThere U (if b then xs else x ∷ without T xs)) (sym p.0) (subst (λ (c : Bool). is_some (if c then Some x else transaction_at U xs) ≡ true) q.0 k)
    by (inr p) (inl q) k on = subst (λ (b : Bool). IsThere U (if b then xs else x ∷ without T xs)) (sym p.0) (ap (λ (c : Bool). is_some (if c then Some x else transaction_at U (without T xs))) q.0)
    by (inr p) (inr q) k on = subst (λ (b : Bool). IsThere U (if b then xs else x ∷ without T xs)) (sym p.0)
        (ap (λ (c : Bool). is_some (if c then Some x else transaction_at U (without T xs))) q.0 ∙ on (subst (λ (c : Bool). is_some (if c then Some x else transaction_at U xs) ≡ true) q.0 k))

pub there-more : (U : Tid) (xs ys : List Transaction) → IsThere U xs → IsThere U (xs ++ ys)
there-more U [] ys h = absurd (grind arith)
there-more U (x ∷ xs) ys h = by (tid_eq x.tid U) h (there-more U xs ys)
  where
    by : (c : Bool) → is_some (if c then Some x else transaction_at U xs) ≡ true → (IsThere U xs → IsThere U (xs ++ ys)) → is_some (if c then Some x else transaction_at U (xs ++ ys)) ≡ true
    by true k on = refl
    by false k on = on k

-- ---- flags

no-true : {B : Type 0} → false ≡ true → B
no-true e = absurd (grind arith)

dropped-none : (flags : Tid → Option FlagState) (T U : Tid) → is_some (at_tid flags T None U) ≡ true → (T ≢ U) × (is_some (flags U) ≡ true)
dropped-none flags T U h = by (tid_tells T U) h
  where
    by : ((tid_eq T U ≡ true) × (T ≡ U)) ⊎ ((tid_eq T U ≡ false) × (T ≢ U)) → is_some (if tid_eq T U then None else flags U) ≡ true → (T ≢ U) × (is_some (flags U) ≡ true)
    by (inl p) k = no-true (subst (λ (b : Bool). is_some (if b then None else flags U) ≡ true) p.0 k)
    by (inr p) k = (p.1, subst (λ (b : Bool). is_some (if b then None else flags U) ≡ true) p.0 k)

-- none but a committed transaction of the table has a flag
abbrev pub NoFlag : (Tid → Option FlagState) → List Transaction → Type 0
NoFlag flags xs = (T : Tid) (y : Transaction) → transaction_at T xs ≡ Some y → is_committed y.stage ≡ false → flags T ≡ None

-- a flag that is found once these were dropped was found before
closes-flags : {P : Transaction → Type 0} {xs ys : List Transaction} {cs : List Change} → Closes P xs ys cs → (x : StableState) (U : Tid) → is_some ((made_all cs x).flags U) ≡ true → is_some (x.flags U) ≡ true
closes-flags Empty x U h = h
closes-flags (Stays y c) x U h = closes-flags c x U h
closes-flags (Goes y p e c) x U h = closes-flags c x U h
closes-flags (Waits y d p e c) x U h = closes-flags c x U h
closes-flags (Forgets y d p e g c) x U h = (dropped-none x.flags y.tid U (closes-flags c (made_by (DropFlag y.tid) x) U h)).1

abbrev HasNone : (Tid → Option FlagState) → Tid → List Transaction → Type 0
HasNone flags U xs = (y : Transaction) → transaction_at U xs ≡ Some y → is_committed y.stage ≡ false → flags U ≡ None

module _ (y : Transaction) (xs : List Transaction) (flags : Tid → Option FlagState) (U : Tid) (none : HasNone flags U (y ∷ xs)) (there : IsThere U (y ∷ xs)) (ys : List Transaction) (on : HasNone flags U xs → IsThere U xs → IsThere U ys) where
  -- one of its name is left
  kept-there : (z : Transaction) → is_some (if tid_eq y.tid U then Some z else transaction_at U ys) ≡ true
  kept-there z = by (tid_eq y.tid U) none there
    where
      by : (b : Bool) → ((v : Transaction) → (if b then Some y else transaction_at U xs) ≡ Some v → is_committed v.stage ≡ false → flags U ≡ None) → is_some (if b then Some y else transaction_at U xs) ≡ true → is_some (if b then Some z else transaction_at U ys) ≡ true
      by true n i = refl
      by false n i = on n i

  -- it goes
  gone-there : (tid_eq y.tid U ≡ true → ⊥) → IsThere U ys
  gone-there other = by (tid_eq y.tid U) other none there
    where
      by : (b : Bool) → (b ≡ true → ⊥) → ((v : Transaction) → (if b then Some y else transaction_at U xs) ≡ Some v → is_committed v.stage ≡ false → flags U ≡ None) → is_some (if b then Some y else transaction_at U xs) ≡ true → IsThere U ys
      by true o n i = absurd (o refl)
      by false o n i = on n i

-- what is closed goes with its flag
closes-there : {P : Transaction → Type 0} {xs ys : List Transaction} {cs : List Change} → Closes P xs ys cs → (x : StableState) (U : Tid) → HasNone x.flags U xs → is_some ((made_all cs x).flags U) ≡ true → IsThere U xs → IsThere U ys
closes-there Empty x U none h k = k
closes-there (Stays {xs = xs} {ys = ys} y c) x U none h k = kept-there y xs x.flags U none k ys (λ n i. closes-there c x U n h i) y
closes-there (Goes {xs = xs} {ys = ys} y p e c) x U none h k = gone-there y xs x.flags U none k ys (λ n i. closes-there c x U n h i)
    (λ t. no-true (sym (ap is_some (none y (ap (λ (b : Bool). if b then Some y else transaction_at U xs) t) e)) ∙ closes-flags c x U h))
closes-there (Waits {xs = xs} {ys = ys} y d p e c) x U none h k = kept-there y xs x.flags U none k ys (λ n i. closes-there c x U n h i) (record y { stage = Committed (record d { thanked = true }) })
closes-there (Forgets {xs = xs} {ys = ys} y d p e g c) x U none h k = gone-there y xs x.flags U none k ys (λ n i. closes-there c (made_by (DropFlag y.tid) x) U (λ z f q. still-none (tid_eq y.tid U) (n z f q)) h i)
    (λ t. no-true (subst (λ (b : Bool). is_some (if b then None else x.flags U) ≡ true) t (closes-flags c (made_by (DropFlag y.tid) x) U h)))
  where
    still-none : (b : Bool) → x.flags U ≡ None → (if b then None else x.flags U) ≡ None
    still-none true q = refl
    still-none false q = q

-- ---- rows

abbrev pub is_broke : Note → Bool
is_broke (Broke T u by) = true
is_broke note = false

module _ (os : List Opening) (clients : ClientNo → ClientTable) (w : Machine) (Caused : ClientNo → Tid → Cause → Type 0) (unique : (a b : Opening) → Has a os → Has b os → a.tid ≡ b.tid → a ≡ b)
    (full : (c : ClientNo) (T : Tid) (s : ServerNo) (n : Resource) (free need : ℕ) → nat_lt free need ≡ true → Caused c T (FullAt s n free need)) where
  -- two openings of a transaction
  one-client : (c d : ClientNo) (p q : RequestNo) (T U : Tid) → Has (opening c p T) os → Has (opening d q U) os → T ≡ U → c ≡ d
  one-client c d p q T U h k e = ap (λ (a : Opening). a.client) (unique (opening c p T) (opening d q U) h k e)

  past-had : (c : ClientNo) (T : Tid) → Past os clients w Caused c T → Had os clients w Caused c T
  past-had c T p = record { request = p.request; has = p.has; drawn = p.drawn; answered = p.answered }

  pub entry-opened : (seen : ClientNo → ℕ) (os' : List Opening) (y : Transaction) → EntryFact os clients w Caused seen y → EntryFact (os ++ os') clients w Caused seen y
  entry-opened seen os' y h = record { request = h.request; has = has-first _ os os' h.has; seen_it = h.seen_it; stage = stage y.stage h.stage }
    where
      had : (c : ClientNo) → Had os clients w Caused c y.tid → WasHad (os ++ os') c (clients c) y.tid
      had c h = record { request = h.request; has = has-first _ os os' h.has; drawn = h.drawn; answered = h.answered }

      stage : (z : Stage) → StageFact os clients w Caused y.client y.tid z → StageFact (os ++ os') clients w Caused y.client y.tid z
      stage Open h = tt
      stage (Voting b) h = record { had = had y.client h.had; later = h.later }
      stage (Committed d) h = (had y.client h.0, λ e. let p = h.1 e in record { request = p.request; has = has-first _ os os' p.has; drawn = p.drawn; over = p.over; answered = p.answered })
      stage (Aborted cause) h = (had y.client h.0, h.1)

  -- what is closed is past
  module _ (seen : ClientNo → ℕ) {P : Transaction → Type 0} (past : (y : Transaction) (d : Commitment) → P y → y.stage ≡ Committed d → EntryFact os clients w Caused seen y → Past os clients w Caused y.client y.tid) where
    closes-changes : {xs ys : List Transaction} {cs : List Change} → Closes P xs ys cs → Each (EntryFact os clients w Caused seen) xs → Each (ChangeFact os clients w Caused) cs
    closes-changes Empty h = tt
    closes-changes (Stays y c) h = closes-changes c h.1
    closes-changes (Goes y p e c) h = closes-changes c h.1
    closes-changes (Waits y d p e c) h = closes-changes c h.1
    closes-changes (Forgets y d p e g c) h = ((y.client, past y d p e h.0), closes-changes c h.1)

  module _ (seen seen' : ClientNo → ℕ) {P : Transaction → Type 0} (past : (y : Transaction) (d : Commitment) → P y → y.stage ≡ Committed d → EntryFact os clients w Caused seen y → Past os clients w Caused y.client y.tid)
      (later : (y : Transaction) → EntryFact os clients w Caused seen y → EntryFact os clients w Caused seen' y) where
    closes-entries : {xs ys : List Transaction} {cs : List Change} → Closes P xs ys cs → Each (EntryFact os clients w Caused seen) xs → Each (EntryFact os clients w Caused seen') ys
    closes-entries Empty h = tt
    closes-entries (Stays y c) h = (later y h.0, closes-entries c h.1)
    closes-entries (Goes y p e c) h = closes-entries c h.1
    closes-entries (Waits y d p e c) h = (
      record {
        request = (later y h.0).request;
        has = (later y h.0).has;
        seen_it = (later y h.0).seen_it;
        stage = ((subst (λ (z : Stage). StageFact os clients w Caused y.client y.tid z) e h.0.stage).0, λ f. past y d p e h.0);
      },
      closes-entries c h.1,
    )
    closes-entries (Forgets y d p e g c) h = closes-entries c h.1

  module _ (t : CoordinatorTable) (k : Tickets) (x : StableState) (all-entries : Each (EntryFact os clients w Caused t.seen) t.transactions)
      (no-flag : NoFlag x.flags t.transactions) (all-held : (T : Tid) → is_some (x.flags T) ≡ true → IsThere T t.transactions) where
    abbrev Entry : Transaction → Type 0
    Entry y = EntryFact os clients w Caused t.seen y

    abbrev Says : Sent → Type 0
    Says m = SaysPast os clients w Caused m

    pub record RowPast (row : RowOutcome CoordinatorTable) : Type 0 where
      pub sends : Each Says row.messages
      pub entries : Each (EntryFact (os ++ openings row.messages) clients w Caused row.table.seen) row.table.transactions
      pub changes : Each (ChangeFact os clients w Caused) row.changes
      pub held : (T : Tid) → is_some ((made_all row.changes x).flags T) ≡ true → IsThere T row.table.transactions
      pub quiet : list_any is_broke row.notes ≡ false
      pub names : (T : Tid) → In T (named_by row.notes) → is_some ((made_all row.changes x).flags T) ≡ true

    more : (seen : ClientNo → ℕ) (os' : List Opening) (xs : List Transaction) → Each (EntryFact os clients w Caused seen) xs → Each (EntryFact (os ++ os') clients w Caused seen) xs
    more seen os' xs h = each-more (EntryFact os clients w Caused seen) (EntryFact (os ++ os') clients w Caused seen) xs (entry-opened seen os') h

    drops-say : (T : Tid) (Ws : List WorkId) → Each Says (drops T Ws)
    drops-say T [] = tt
    drops-say T (W ∷ Ws) = (tt, drops-say T Ws)

    commits-say : (T : Tid) (Ws : List WorkId) → Each Says (commits T Ws)
    commits-say T [] = tt
    commits-say T (W ∷ Ws) = (tt, commits-say T Ws)

    prepares-say : (T : Tid) (c : ClientNo) (Ws : List WorkId) → Each Says (prepares T c Ws)
    prepares-say T c [] = tt
    prepares-say T c (W ∷ Ws) = (tt, prepares-say T c Ws)

    -- ---- a transaction of the table

    module _ (y : Transaction) (found : IsListed t y) where
      its : Entry y
      its = (each-found Entry y.tid t.transactions y all-entries found).0

      at-stage : (stage : Stage) → y.stage ≡ stage → StageFact os clients w Caused y.client y.tid stage
      at-stage stage e = subst (λ (z : Stage). StageFact os clients w Caused y.client y.tid z) e its.stage

      -- it is reported by its client alone
      its-client : (c : ClientNo) → Had os clients w Caused c y.tid → c ≡ y.client
      its-client c h = one-client c y.client h.request its.request y.tid y.tid h.has its.has refl

      staged-entries : (stage : Stage) → StageFact os clients w Caused y.client y.tid stage → Each Entry (with_stage y.tid stage t.transactions)
      staged-entries stage h = each-stage Entry y.tid stage t.transactions
          (λ z e f. record { request = f.request; has = f.has; seen_it = f.seen_it; stage = subst (λ (U : Tid). StageFact os clients w Caused z.client U stage) (sym e) (subst (λ (c : ClientNo). StageFact os clients w Caused c y.tid stage) (one-client y.client z.client its.request f.request y.tid z.tid its.has f.has (sym e)) h) }) all-entries

      staged : (stage : Stage) (sent : List Sent) → StageFact os clients w Caused y.client y.tid stage → Each Says sent
          → RowPast (record { table = record t { transactions = with_stage y.tid stage t.transactions }; changes = []; messages = sent; notes = []; tickets = k })
      staged stage sent h says = record { quiet = refl; sends = says; entries = more t.seen _ _ (staged-entries stage h); changes = tt; held = λ U f. there-staged U y.tid stage t.transactions (all-held U f); names = λ U i. absurd i }

      commits-it : (q : RequestNo) (Ws : List WorkId) → EndedBy os y.client (clients y.client) y.tid q → RowPast (commit_row t k y q Ws)
      commits-it q Ws h = record {
        quiet = refl;
        sends = each-append Says (commits y.tid Ws) _ (commits-say y.tid Ws) (h.had, tt);
        entries = more t.seen _ _ (staged-entries (Committed (record { works = Ws; done = []; thanked = false })) (h.had, λ e. no-true e));
        changes = (h, tt);
        held = λ U f. there-staged U y.tid _ t.transactions (flagged U (tid_tells y.tid U) f);
        names = λ U i. named U i;
      }
        where
          flagged : (U : Tid) → ((tid_eq y.tid U ≡ true) × (y.tid ≡ U)) ⊎ ((tid_eq y.tid U ≡ false) × (y.tid ≢ U)) → is_some (if tid_eq y.tid U then Some (record { client = y.client; request = q; works = Ws }) else x.flags U) ≡ true → IsThere U t.transactions
          flagged U (inl p) f = subst (λ (V : Tid). IsThere V t.transactions) p.1 (ap is_some found)
          flagged U (inr p) f = all-held U (subst (λ (b : Bool). is_some (if b then Some (record { client = y.client; request = q; works = Ws }) else x.flags U) ≡ true) p.0 f)

          named : (U : Tid) → (y.tid ≡ U) ⊎ ⊥ → is_some (at_tid x.flags y.tid (Some (record { client = y.client; request = q; works = Ws })) U) ≡ true
          named U (inl e) = subst (λ (V : Tid). is_some (at_tid x.flags y.tid (Some (record { client = y.client; request = q; works = Ws })) V) ≡ true) e (here y.tid)
            where
              here : (V : Tid) → is_some (if tid_eq V V then Some (record { client = y.client; request = q; works = Ws }) else x.flags V) ≡ true
              here V = grind (arith, tid_tells V V)
          named U (inr i) = absurd i

      -- what commits it, aborts it, or goes on with its commit
      committing-ended : (free : ℕ) (to : Party) (m : Message) (q : RequestNo) (Ws : List WorkId) → Says (to, m) → Committing free y m q Ws → EndedBy os y.client (clients y.client) y.tid q
      committing-ended free to _ _ _ h (has_no_works c q e room) = subst (λ (d : ClientNo). EndedBy os d (clients d) y.tid q) (its-client c h.had) h
      committing-ended free to _ _ _ h (is_last_vote W b e is all) = at-stage (Voting b) e

      aborting-caused : (free : ℕ) (to : Party) (m : Message) (cause : Cause) (Ws : List WorkId) → ((b : Ballot) → y.stage ≡ Voting b → (w.named y.tid ≡ false) × (w.aborted y.tid ≡ false)) → Says (to, m) → Aborting free k y m cause Ws
          → Had os clients w Caused y.client y.tid × Caused y.client y.tid cause
      aborting-caused free to _ _ _ undecided h (finds_no_record c q Ws e less) = (subst (λ (d : ClientNo). Had os clients w Caused d y.tid) (its-client c h.had) h.had, full y.client y.tid k.server resources.Records free 1 less)
      aborting-caused free to _ _ _ undecided h (stops_open c q Ws e) = subst (λ (d : ClientNo). Had os clients w Caused d y.tid × Caused d y.tid Requested) (its-client c h.0) h
      aborting-caused free to _ _ _ undecided h (stops_voting c q Ws b e) = subst (λ (d : ClientNo). Had os clients w Caused d y.tid × Caused d y.tid Requested) (its-client c h.0) h
      aborting-caused free to _ _ _ undecided h (work_is_lost W before now b e is) = let un = undecided b e in ((at-stage (Voting b) e).had, h un.0 un.1 y.client)
      aborting-caused free to _ _ _ undecided h (work_is_broken W u held b e is) = ((at-stage (Voting b) e).had, h y.client)
      aborting-caused free to _ _ _ undecided h (work_has_no_room W number left need b e is) = ((at-stage (Voting b) e).had, h y.client)

      noting-past : (to : Party) (m : Message) (d : Commitment) → Says (to, m) → Noting y m d → StageFact os clients w Caused y.client y.tid (Committed d)
      noting-past to _ _ h (work_is_done W d e waits) = at-stage (Committed d) e
      noting-past to _ _ h (client_thanks c d e new) = ((at-stage (Committed d) e).0, λ f. subst (λ (z : ClientNo). Past os clients w Caused z y.tid) (its-client c (past-had c y.tid h)) h)

    -- ---- Begin

    module _ (c : ClientNo) (q : RequestNo) (began : BeganBy os c (clients c) q) (last : (o : Outstanding) → (clients c).outstanding ≡ Some o → (clients c).next ≡ o.request.0 + 1) (later : nat_lt (t.seen c) q.0 ≡ true) where
      is-later : t.seen c < q.0
      is-later = grind (arith, nat_tests)

      -- what its client began before is past
      pub begin-past : (y : Transaction) → Entry y → y.client ≡ c → Past os clients w Caused c y.tid
      begin-past y h e = record {
        request = h.request;
        has = has;
        drawn = drawn h.request.0 (t.seen c) q.0 (clients c).next seen is-later began.drawn;
        over = λ f. not-after h.request.0 (t.seen c) q.0 seen is-later (began.now y.tid h.request f has);
        answered = λ o f. other o.request h.request (t.seen c) q.0 (clients c).next seen is-later began.drawn (last o f);
      }
        where
          has : Has (opening c h.request y.tid) os
          has = subst (λ (d : ClientNo). Has (opening d h.request y.tid) os) e h.has

          seen : h.request.0 ≤ t.seen c
          seen = subst (λ (d : ClientNo). h.request.0 ≤ t.seen d) e h.seen_it

          drawn : (a b c n : ℕ) → a ≤ b → b < c → c < n → a < n
          drawn a b c n k l m = omega (arith, k, l, m)

          not-after : (a b c : ℕ) → a ≤ b → b < c → c ≤ a → ⊥
          not-after a b c k l m = omega (arith, k, l, m)

          other : (o a : RequestNo) (b c n : ℕ) → a.0 ≤ b → b < c → c < n → n ≡ o.0 + 1 → o ≢ a
          other o a b c n k l m e f = let same = ap (λ (z : RequestNo). z.0) f in omega (arith, k, l, m, e, same)

      seen' : ClientNo → ℕ
      seen' = seen_now t.seen c q

      seen-more : (y : Transaction) (n : ℕ) → n ≤ t.seen y.client → n ≤ seen_now t.seen c q y.client
      seen-more y n = one-changes (λ d x. n ≤ t.seen d → n ≤ x) t.seen c q.0 (λ h. up n (t.seen c) q.0 h is-later) (λ d other h. h) y.client
        where
          up : (n m k : ℕ) → n ≤ m → m < k → n ≤ k
          up n m j k l = omega (arith, k, l)

      entry-later : (y : Transaction) → Entry y → EntryFact os clients w Caused (seen_now t.seen c q) y
      entry-later y h = record { request = h.request; has = h.has; seen_it = seen-more y h.request.0 h.seen_it; stage = h.stage }

      closing : Closes (λ (y : Transaction). y.client ≡ c) t.transactions (after_closing c t.transactions) (changes_of_closing c t.transactions)
      closing = client-closes c t.transactions

      its-past : (y : Transaction) (d : Commitment) → y.client ≡ c → y.stage ≡ Committed d → Entry y → Past os clients w Caused y.client y.tid
      its-past y d e f h = subst (λ (z : ClientNo). Past os clients w Caused z y.tid) (sym e) (begin-past y h e)

      after-entries : Each (EntryFact os clients w Caused (seen_now t.seen c q)) (after_closing c t.transactions)
      after-entries = closes-entries t.seen (seen_now t.seen c q) its-past entry-later closing all-entries

      after-changes : Each (ChangeFact os clients w Caused) (changes_of_closing c t.transactions)
      after-changes = closes-changes t.seen its-past closing all-entries

      after-held : (T : Tid) → is_some ((made_all (changes_of_closing c t.transactions) x).flags T) ≡ true → IsThere T (after_closing c t.transactions)
      after-held T h = closes-there closing x T (no-flag T) h (all-held T (closes-flags closing x T h))

      seen-own : q.0 ≤ seen_now t.seen c q c
      seen-own = one-changes (λ d x. c ≡ d → q.0 ≤ x) t.seen c q.0 (λ e. self q.0) (λ d other e. absurd (other e)) c refl
        where
          self : (n : ℕ) → n ≤ n
          self n = omega arith

    -- every outcome is thanked, once every client is idle
    pub close-past : ((c : ClientNo) → IsIdle (clients c)) → RowPast (close_clients_row t k)
    close-past idle = let its = outcomes-close t.transactions in record {
      quiet = refl;
      sends = tt;
      entries = more t.seen [] (all_thanked t.transactions) (closes-entries t.seen t.seen idle-past (λ y h. h) its all-entries);
      changes = closes-changes t.seen idle-past its all-entries;
      held = λ T h. closes-there its x T (no-flag T) h (all-held T (closes-flags its x T h));
      names = λ T i. absurd i;
    }
      where
        none-tid : (T : Tid) → None ≡ Some T → ⊥
        none-tid T e = cc

        idle-past : (y : Transaction) (d : Commitment) → Unit {0} → y.stage ≡ Committed d → Entry y → Past os clients w Caused y.client y.tid
        idle-past y d p e h = let had = (subst (λ (z : Stage). StageFact os clients w Caused y.client y.tid z) e h.stage).0 in
            record { request = had.request; has = had.has; drawn = had.drawn; over = λ f. none-tid y.tid (sym (idle y.client).0 ∙ f); answered = had.answered }

    -- ---- every message

    -- what holds where the transaction isn't in the table, or votes
    module _ (Here : Tid → Type 0) (unknown : (c : ClientNo) (T : Tid) → Here T → transaction_at T t.transactions ≡ None → Had os clients w Caused c T → OutcomeFact os clients w Caused c T (outcomes.NotKnown k.server k.epoch))
        (undecided : (T : Tid) (y : Transaction) (b : Ballot) → transaction_at T t.transactions ≡ Some y → y.stage ≡ Voting b → (w.named T ≡ false) × (w.aborted T ≡ false))
        (last : (c : ClientNo) (o : Outstanding) → (clients c).outstanding ≡ Some o → (clients c).next ≡ o.request.0 + 1) where
      -- what asks for the outcome comes to its transaction's server
      abbrev pub ComesHere : Message → Type 0
      ComesHere (messages.End c q T Ws) = Here T
      ComesHere (messages.Abort c q T Ws) = Here T
      ComesHere message = Unit {0}

      says-past : (to : Party) (m : Message) (sent : List Sent) → ComesHere m → Says (to, m) → Saying t k m sent → Each Says sent
      says-past to _ _ here h (says_nothing m W y asks found) = tt
      says-past to _ _ here h (says_begun c q y same e) = (h.drawn, tt)
      says-past to _ _ here h (says_unknown _ c T Ws (wants_to_commit q) none) = (unknown c T here none h.had, drops-say T Ws)
      says-past to _ _ here h (says_unknown _ c T Ws (wants_to_abort q) none) = (unknown c T here none h.0, drops-say T Ws)
      says-past to _ _ here h (prepares_again c q Ws y b found e) = prepares-say y.tid y.client (besides b.works b.ready)
      says-past to _ _ here h (says_committed m c Ws y d wants found e) = ((at-stage y found (Committed d) e).0, tt)
      says-past to _ _ here h (says_aborted m c Ws y cause wants found e) = (at-stage y found (Aborted cause) e, tt)
      says-past to _ _ here h _ = (tt, tt)

      tells : (sent : List Sent) (told : List Note) → named_by told ≡ [] → list_any is_broke told ≡ false → Each Says sent → RowPast (record { table = t; changes = []; messages = sent; notes = told; tickets = k })
      tells sent told none quiet h = record { quiet = quiet; sends = h; entries = more t.seen _ t.transactions all-entries; changes = tt; held = all-held; names = λ T i. absurd (subst (λ l. In T l) none i) }

      case-past : (free : ℕ) (to : Party) (m : Message) (row : RowOutcome CoordinatorTable) → ComesHere m → Says (to, m) → CoordinatorCase t free k m row → RowPast row
      case-past free to _ _ here h (is_ignored_by m) = tells _ _ refl refl tt
      case-past free to _ _ here h (is_left_by m sent says) = tells sent [] refl refl (says-past to m sent here h says)
      case-past free to _ _ here h (begins_anew c q later room) = record {
        quiet = refl;
        sends = (h.drawn, tt);
        entries = each-append (EntryFact (os ++ opening c q (name_from k) ∷ []) clients w Caused (seen_now t.seen c q)) (after_closing c t.transactions) _
            (more (seen_now t.seen c q) (opening c q (name_from k) ∷ []) (after_closing c t.transactions) (after-entries c q h (last c) later))
            (record { request = q; has = has-second _ os (opening c q (name_from k) ∷ []) (inl refl); seen_it = seen-own c q h (last c) later; stage = tt }, tt);
        changes = after-changes c q h (last c) later;
        held = λ T f. there-more T (after_closing c t.transactions) _ (after-held c q h (last c) later T f);
        names = λ T i. absurd i;
      }
      case-past free to _ _ here h (finds_no_room c q later less) = record {
        quiet = refl;
        sends = (h.drawn, tt);
        entries = more (seen_now t.seen c q) [] (after_closing c t.transactions) (after-entries c q h (last c) later);
        changes = after-changes c q h (last c) later;
        held = after-held c q h (last c) later;
        names = λ T i. absurd i;
      }
      case-past free to _ _ here h (starts_voting c q W Ws y found e room) = staged y found (Voting (record { request = q; works = W ∷ Ws; ready = [] })) _ (subst (λ (d : ClientNo). EndedBy os d (clients d) y.tid q) (its-client y found c h.had) h) (prepares-say y.tid y.client (W ∷ Ws))
      case-past free to _ _ here h (counts_vote W y b found e is waits) = staged y found (Voting (record b { ready = with_work W b.ready })) [] (at-stage y found (Voting b) e) tt
      case-past free to _ _ here h (is_committed_by m y q Ws found why) = commits-it y found q Ws (committing-ended y found free to m q Ws h why)
      case-past free to _ _ here h (is_aborted_by m y cause Ws found why) = let caused = aborting-caused y found free to m cause Ws (λ b e. undecided y.tid y b found e) h why in staged y found (Aborted cause) _ caused (each-append Says (drops y.tid Ws) _ (drops-say y.tid Ws) (caused, tt))
      case-past free to _ _ here h (notes_commit m y d found notes waits) = staged y found (Committed d) [] (noting-past y found to m d h notes) tt
      case-past free to _ _ here h (forgets_commit m y d found notes through) = record {
        quiet = refl;
        sends = tt;
        entries = more t.seen _ _ (each-without Entry y.tid t.transactions all-entries);
        changes = ((y.client, (noting-past y found to m d h notes).1 (first-of d.thanked (all_in d.works d.done) through)), tt);
        held = λ U f. let g = dropped-none x.flags y.tid U f in there-less U y.tid t.transactions g.0 (all-held U g.1);
        names = λ U i. absurd i;
      }
        where
          first-of : (a b : Bool) → (a && b) ≡ true → a ≡ true
          first-of a b e = grind arith
      case-past free to _ _ here h (forgets_abort c y cause found e) = record { quiet = refl; sends = tt; entries = more t.seen _ _ (each-without Entry y.tid t.transactions all-entries); changes = tt; held = λ U f. there-less U y.tid t.transactions (other U f) (all-held U f); names = λ U i. absurd i }
        where
          -- it has no flag
          other : (U : Tid) → is_some (x.flags U) ≡ true → y.tid ≢ U
          other U f same = no-true (sym (ap is_some (no-flag y.tid y found (ap is_committed e))) ∙ subst (λ (V : Tid). is_some (x.flags V) ≡ true) (sym same) f)

      pub row-past : (free : ℕ) (to : Party) (message : Message) → ComesHere message → Says (to, message) → RowPast (coordinator_row t free k message)
      row-past free to message here h = case-past free to message _ here h (coordinator-case t free k message)

  -- ---- what is sent again

  pub again-says : (seen : ClientNo → ℕ) (xs : List Transaction) → Each (EntryFact os clients w Caused seen) xs → Each (SaysPast os clients w Caused) (coordinator_again xs)
  again-says seen [] h = tt
  again-says seen (y ∷ ys) h = each-append (SaysPast os clients w Caused) (told_again y y.stage) (coordinator_again ys) (one y.stage h.0.stage) (again-says seen ys h.1)
    where
      commits-say : (T : Tid) (Ws : List WorkId) → Each (SaysPast os clients w Caused) (commits T Ws)
      commits-say T [] = tt
      commits-say T (W ∷ Ws) = (tt, commits-say T Ws)

      one : (stage : Stage) → StageFact os clients w Caused y.client y.tid stage → Each (SaysPast os clients w Caused) (told_again y stage)
      one Open s = tt
      one (Voting b) s = tt
      one (Aborted cause) s = (s, tt)
      one (Committed d) s = each-append (SaysPast os clients w Caused) (commits y.tid (besides d.works d.done)) _ (commits-say y.tid (besides d.works d.done)) (by d.thanked)
        where
          by : (b : Bool) → Each (SaysPast os clients w Caused) (if b then [] else committed_to y ∷ [])
          by true = tt
          by false = (s.0, tt)

-- ---- a restart

pub restored-past : (os : List Opening) (clients : ClientNo → ClientTable) (w : Machine) (Caused : ClientNo → Tid → Cause → Type 0) (x : StableState) (Ts : List Tid) → ((T : Tid) → FlagPast os clients w Caused T (x.flags T))
    → Each (EntryFact os clients w Caused (seen_in_flags x Ts)) (restored_transactions x Ts)
restored-past os clients w Caused x Ts flags = some Ts (λ c n h. h)
  where
    -- requests of flags are seen
    up : (seen : ClientNo → ℕ) (T : Tid) (Us : List Tid) → ((c : ClientNo) (n : ℕ) → n ≤ seen_in_flags x (T ∷ Us) c → n ≤ seen c) → (c : ClientNo) (n : ℕ) → n ≤ seen_in_flags x Us c → n ≤ seen c
    up seen T Us h c n k = h c n (by (x.flags T))
      where
        over : (n m r : ℕ) → n ≤ m → nat_lt m r ≡ true → n ≤ r
        over n m r a e = grind (arith, nat_tests)

        at : (flag : FlagState) (a b : Bool) → nat_lt (seen_in_flags x Us c) flag.request.0 ≡ b → n ≤ (if a && b then flag.request.0 else seen_in_flags x Us c)
        at flag true true e = over n (seen_in_flags x Us c) flag.request.0 k e
        at flag true false e = k
        at flag false b e = k

        by : (o : Option FlagState) → n ≤ seen_in_flag c o (seen_in_flags x Us c)
        by None = k
        by (Some flag) = at flag (client_eq flag.client c) (nat_lt (seen_in_flags x Us c) flag.request.0) refl

    own : (T : Tid) (Us : List Tid) (flag : FlagState) → x.flags T ≡ Some flag → flag.request.0 ≤ seen_in_flags x (T ∷ Us) flag.client
    own T Us flag e = subst (λ o. flag.request.0 ≤ seen_in_flag flag.client o (seen_in_flags x Us flag.client)) (sym e) (by (client_tells flag.client flag.client))
      where
        least : (r m : ℕ) → r ≤ (if nat_lt m r then r else m)
        least r m = grind (arith, nat_tests)

        by : ((client_eq flag.client flag.client ≡ true) × (flag.client ≡ flag.client)) ⊎ ((client_eq flag.client flag.client ≡ false) × (flag.client ≢ flag.client)) → flag.request.0 ≤ (if client_eq flag.client flag.client && nat_lt (seen_in_flags x Us flag.client) flag.request.0 then flag.request.0 else seen_in_flags x Us flag.client)
        by (inl p) = subst (λ (b : Bool). flag.request.0 ≤ (if b && nat_lt (seen_in_flags x Us flag.client) flag.request.0 then flag.request.0 else seen_in_flags x Us flag.client)) (sym p.0) (least flag.request.0 (seen_in_flags x Us flag.client))
        by (inr p) = absurd (p.1 refl)

    less : (a b : ℕ) → a < b → (c : ℕ) → b ≤ c → a ≤ c
    less a b h c k = omega (arith, h, k)

    some : (Us : List Tid) → ((c : ClientNo) (n : ℕ) → n ≤ seen_in_flags x Us c → n ≤ seen_in_flags x Ts c) → Each (EntryFact os clients w Caused (seen_in_flags x Ts)) (restored_transactions x Us)
    some [] h = tt
    some (T ∷ Us) h = by (x.flags T) refl (flags T) (some Us (up (seen_in_flags x Ts) T Us h))
      where
        by : (o : Option FlagState) → x.flags T ≡ o → FlagPast os clients w Caused T o → Each (EntryFact os clients w Caused (seen_in_flags x Ts)) (restored_transactions x Us)
            → Each (EntryFact os clients w Caused (seen_in_flags x Ts)) (restored_transaction T o ++ restored_transactions x Us)
        by None e f on = on
        by (Some flag) e f on = (record { request = f.had.request; has = f.had.has; seen_it = h flag.client f.had.request.0 (less f.had.request.0 flag.request.0 f.later _ (own T Us flag e)); stage = (f.had, λ q. no-true q) }, on)
