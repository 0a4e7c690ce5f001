-- Each transaction of a table and of a flag has the client that began it.
use Rattle.jn_system_settling.proofs.Common.{◌≡◌, ℕ, zero, suc, Bool, true, false, List, [], ◌∷◌, ◌++◌, take, Option, Some, None, true≢false, refl, sym, arith, ◌&&◌, ◌||◌, nat_tests, ClientNo, Tid, Tickets, tid_eq, client_eq, tid_tells, Message, Transaction, Stage, StableState, FlagState, Change, AddReady, MarkGoing, CarryOut, RemoveWork, AddFlag, DropFlag, made_by, made_all, RowOutcome, Closes, Empty, Stays, Goes, Waits, Forgets, client-closes, CoordinatorTable, transaction_at, with_stage, after_closing, name_from, coordinator_row, restored_transaction, restored_transactions, Opening, openings, CoordinatorCase, is_ignored_by, is_left_by, begins_anew, finds_no_room, starts_voting, counts_vote, is_committed_by, is_aborted_by, notes_commit, forgets_commit, forgets_abort, coordinator-case}
use Rattle.jn_rows.specs.Coordinator.{without}

-- who began it, as the messages say
abbrev pub owner_in : List Opening → ClientNo → Tid → Bool
owner_in [] c T = false
owner_in (a ∷ os) c T = (client_eq a.client c && tid_eq a.tid T) || owner_in os c T

pub owner-more : (os more : List Opening) (c : ClientNo) (T : Tid) → owner_in os c T ≡ true → owner_in (os ++ more) c T ≡ true
owner-more [] more c T h = absurd (true≢false (sym h))
owner-more (a ∷ os) more c T h = let again = owner-more os more c T in grind (arith, h)

owner-last : (os more : List Opening) (c : ClientNo) (T : Tid) → owner_in more c T ≡ true → owner_in (os ++ more) c T ≡ true
owner-last [] more c T h = h
owner-last (a ∷ os) more c T h = let again = owner-last os more c T h in grind arith

abbrev pub Owner : Type 0
Owner = ClientNo → Tid → Bool

abbrev pub all_owned : Owner → List Transaction → Bool
all_owned P [] = true
all_owned P (x ∷ xs) = P x.client x.tid && all_owned P xs

abbrev pub FlagsOwned : Owner → (Tid → Option FlagState) → Type 0
FlagsOwned P flags = (T : Tid) (f : FlagState) → flags T ≡ Some f → P f.client T ≡ true

abbrev pub flag_owned : Owner → Change → Bool
flag_owned P (AddFlag flag) = P flag.client flag.tid
flag_owned P change = true

abbrev pub flags_owned : Owner → List Change → Bool
flags_owned P [] = true
flags_owned P (c ∷ cs) = flag_owned P c && flags_owned P cs

-- ---- lists of transactions

pub grown : (P Q : Owner) → ((c : ClientNo) (T : Tid) → P c T ≡ true → Q c T ≡ true) → (xs : List Transaction) → all_owned P xs ≡ true → all_owned Q xs ≡ true
grown P Q more [] h = refl
grown P Q more (x ∷ xs) h = let again = grown P Q more xs in let one = more x.client x.tid in grind (arith, h)

pub owned-found : (P : Owner) (T : Tid) (xs : List Transaction) (x : Transaction) → all_owned P xs ≡ true → transaction_at T xs ≡ Some x → P x.client x.tid ≡ true
owned-found P T [] x h e = absurd (cc e)
owned-found P T (y ∷ ys) x h e = let again = owned-found P T ys x in grind (arith, h, e)

owned-staged : (P : Owner) (T : Tid) (s : Stage) (xs : List Transaction) → all_owned P xs ≡ true → all_owned P (with_stage T s xs) ≡ true
owned-staged P T s [] h = refl
owned-staged P T s (y ∷ ys) h = let again = owned-staged P T s ys in grind (arith, h)

owned-without : (P : Owner) (T : Tid) (xs : List Transaction) → all_owned P xs ≡ true → all_owned P (without T xs) ≡ true
owned-without P T [] h = refl
owned-without P T (y ∷ ys) h = let again = owned-without P T ys in grind (arith, h)

owned-both : (P : Owner) (xs ys : List Transaction) → all_owned P xs ≡ true → all_owned P ys ≡ true → all_owned P (xs ++ ys) ≡ true
owned-both P [] ys h k = k
owned-both P (x ∷ xs) ys h k = let again = owned-both P xs ys in grind (arith, h, k)

pub closes-owned : (P : Owner) {Q : Transaction → Type 0} {xs ys : List Transaction} {cs : List Change} → Closes Q xs ys cs → all_owned P xs ≡ true → all_owned P ys ≡ true
closes-owned P Empty h = refl
closes-owned P (Stays y c) h = let again = closes-owned P c in grind (arith, h)
closes-owned P (Goes y p e c) h = closes-owned P c (grind (arith, h))
closes-owned P (Waits y d p e c) h = let again = closes-owned P c in grind (arith, h)
closes-owned P (Forgets y d p e g c) h = closes-owned P c (grind (arith, h))

pub closes-flags-owned : (P : Owner) {Q : Transaction → Type 0} {xs ys : List Transaction} {cs : List Change} → Closes Q xs ys cs → flags_owned P cs ≡ true
closes-flags-owned P Empty = refl
closes-flags-owned P (Stays y c) = closes-flags-owned P c
closes-flags-owned P (Goes y p e c) = closes-flags-owned P c
closes-flags-owned P (Waits y d p e c) = closes-flags-owned P c
closes-flags-owned P (Forgets y d p e g c) = closes-flags-owned P c

-- ---- rows

pub record RowOwned (P : Owner) (row : RowOutcome CoordinatorTable) : Type 0 where
  pub table : all_owned P row.table.transactions ≡ true
  pub flags : flags_owned P row.changes ≡ true

module _ (t : CoordinatorTable) (free : ℕ) (k : Tickets) where
  flags-case : (P : Owner) → all_owned P t.transactions ≡ true → (m : Message) (row : RowOutcome CoordinatorTable) → CoordinatorCase t free k m row → flags_owned P row.changes ≡ true
  flags-case P h _ _ (begins_anew c q later room) = closes-flags-owned P (client-closes c t.transactions)
  flags-case P h _ _ (finds_no_room c q later full) = closes-flags-owned P (client-closes c t.transactions)
  flags-case P h _ _ (is_committed_by m y q works found why) = let own = owned-found P y.tid t.transactions y h found in grind arith
  flags-case P h _ _ _ = refl

  -- the new one's client is told that it has begun
  table-case : (os : List Opening) (m : Message) (row : RowOutcome CoordinatorTable) → CoordinatorCase t free k m row → all_owned (owner_in (os ++ openings row.messages)) t.transactions ≡ true
      → all_owned (owner_in (os ++ openings row.messages)) row.table.transactions ≡ true
  table-case os _ _ (is_ignored_by m) h = h
  table-case os _ _ (is_left_by m sent says) h = h
  table-case os _ _ (begins_anew c q later room) h = owned-both (owner_in (os ++ (record { client = c; request = q; tid = name_from k }) ∷ [])) (after_closing c t.transactions) _ (closes-owned _ (client-closes c t.transactions) h)
      (let now = owner-last os ((record { client = c; request = q; tid = name_from k }) ∷ []) c (name_from k) (grind (arith, nat_tests)) in grind (arith, now))
  table-case os _ _ (finds_no_room c q later full) h = closes-owned _ (client-closes c t.transactions) h
  table-case os _ _ (starts_voting c q W Ws y found e room) h = owned-staged _ y.tid _ t.transactions h
  table-case os _ _ (counts_vote W y b found e is waits) h = owned-staged _ y.tid _ t.transactions h
  table-case os _ _ (is_committed_by m y q works found why) h = owned-staged _ y.tid _ t.transactions h
  table-case os _ _ (is_aborted_by m y cause works found why) h = owned-staged _ y.tid _ t.transactions h
  table-case os _ _ (notes_commit m y d found notes waits) h = owned-staged _ y.tid _ t.transactions h
  table-case os _ _ (forgets_commit m y d found notes through) h = owned-without _ y.tid t.transactions h
  table-case os _ _ (forgets_abort c y cause found e) h = owned-without _ y.tid t.transactions h

-- the flags that are put are of transactions that were there
pub coordinator-flags : (P : Owner) (t : CoordinatorTable) (free : ℕ) (k : Tickets) (m : Message) → all_owned P t.transactions ≡ true → flags_owned P (coordinator_row t free k m).changes ≡ true
coordinator-flags P t free k m h = flags-case t free k P h m _ (coordinator-case t free k m)

pub coordinator-owned : (os : List Opening) (t : CoordinatorTable) (free : ℕ) (k : Tickets) (m : Message) → all_owned (owner_in os) t.transactions ≡ true → RowOwned (owner_in (os ++ openings (coordinator_row t free k m).messages)) (coordinator_row t free k m)
coordinator-owned os t free k m h = record { table = table-case t free k os m _ (coordinator-case t free k m) more; flags = coordinator-flags _ t free k m more }
  where
    more : all_owned (owner_in (os ++ openings (coordinator_row t free k m).messages)) t.transactions ≡ true
    more = grown (owner_in os) (owner_in (os ++ openings (coordinator_row t free k m).messages)) (owner-more os (openings (coordinator_row t free k m).messages)) t.transactions h

-- ---- changes and restarts

changed-owned : (P : Owner) (c : Change) (x : StableState) → flag_owned P c ≡ true → FlagsOwned P x.flags → FlagsOwned P (made_by c x).flags
changed-owned P (AddFlag flag) x h of = λ T f e. let tells = tid_tells flag.tid T in let before = of T f in grind (arith, h, e)
changed-owned P (DropFlag U) x h of = λ T f e. let before = of T f in grind (arith, e)
changed-owned P (AddReady head list reads) x h of = of
changed-owned P (MarkGoing W) x h of = of
changed-owned P (CarryOut W i) x h of = of
changed-owned P (RemoveWork W) x h of = of

pub prefix-owned : (P : Owner) (changes : List Change) (j : ℕ) (x : StableState) → flags_owned P changes ≡ true → FlagsOwned P x.flags → FlagsOwned P (made_all (take j changes) x).flags
prefix-owned P [] zero x h of = of
prefix-owned P [] (suc j) x h of = of
prefix-owned P (c ∷ cs) zero x h of = of
prefix-owned P (c ∷ cs) (suc j) x h of = prefix-owned P cs j (made_by c x) (grind (arith, h)) (changed-owned P c x (grind (arith, h)) of)

pub all-changed-owned : (P : Owner) (changes : List Change) (x : StableState) → flags_owned P changes ≡ true → FlagsOwned P x.flags → FlagsOwned P (made_all changes x).flags
all-changed-owned P [] x h of = of
all-changed-owned P (c ∷ cs) x h of = all-changed-owned P cs (made_by c x) (grind (arith, h)) (changed-owned P c x (grind (arith, h)) of)

pub restored-owned : (P : Owner) (x : StableState) (Ts : List Tid) → FlagsOwned P x.flags → all_owned P (restored_transactions x Ts) ≡ true
restored-owned P x [] h = refl
restored-owned P x (T ∷ Ts) h = by (x.flags T) refl (restored-owned P x Ts h)
  where
    by : (o : Option FlagState) → x.flags T ≡ o → all_owned P (restored_transactions x Ts) ≡ true → all_owned P (restored_transaction T o ++ restored_transactions x Ts) ≡ true
    by None e again = again
    by (Some f) e again = let own = h T f e in grind (arith, again)
