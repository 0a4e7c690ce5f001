-- No row of a coordinator changes a stable work. Each draws one ticket at most, and drops no more flags than there are transactions.
use Rattle.jn_system.proofs.Common.{◌≡◌, ◌⊎◌, inl, inr, ℕ, zero, suc, ◌+◌, ◌≤◌, Bool, true, false, List, [], ◌∷◌, take, refl, ◌∙◌, arith, ◌&&◌, length, Tickets, Message, Note, Transaction, StableState, Change, AddReady, MarkGoing, CarryOut, RemoveWork, AddFlag, DropFlag, made_all, RowOutcome, Sent, CoordinatorTable, close_clients_row, coordinator_row}
use Rattle.jn_system.proofs.WholeSystem.CoordinatorCases.{CoordinatorCase, is_ignored_by, is_left_by, begins_anew, finds_no_room, starts_voting, counts_vote, is_committed_by, is_aborted_by, notes_commit, forgets_commit, forgets_abort, coordinator-case}
use Rattle.jn_system.proofs.WholeSystem.Closes.{Closes, Empty, Stays, Goes, Waits, Forgets, client-closes, outcomes-close}

abbrev pub is_of_flag : Change → Bool
is_of_flag (AddFlag flag) = true
is_of_flag (DropFlag T) = true
is_of_flag change = false

abbrev pub are_of_flags : List Change → Bool
are_of_flags [] = true
are_of_flags (change ∷ changes) = is_of_flag change && are_of_flags changes

-- ---- such changes keep the works

flag-works : (c : Change) (x : StableState) → is_of_flag c ≡ true → (made_all (c ∷ []) x).works ≡ x.works
flag-works (AddFlag flag) x h = refl
flag-works (DropFlag T) x h = refl
flag-works (AddReady head list reads) x h = absurd (grind arith)
flag-works (MarkGoing W) x h = absurd (grind arith)
flag-works (CarryOut W i) x h = absurd (grind arith)
flag-works (RemoveWork W) x h = absurd (grind arith)

flag-epoch : (c : Change) (x : StableState) → (made_all (c ∷ []) x).epoch ≡ x.epoch
flag-epoch (AddFlag flag) x = refl
flag-epoch (DropFlag T) x = refl
flag-epoch (AddReady head list reads) x = refl
flag-epoch (MarkGoing W) x = refl
flag-epoch (CarryOut W i) x = refl
flag-epoch (RemoveWork W) x = refl

pub first-of : (a b : Bool) → (a && b) ≡ true → a ≡ true
first-of a b h = grind arith

pub second-of : (a b : Bool) → (a && b) ≡ true → b ≡ true
second-of a b h = grind arith

pub flags-keep : (changes : List Change) (n : ℕ) (x : StableState) → are_of_flags changes ≡ true → (made_all (take n changes) x).works ≡ x.works
flags-keep [] zero x h = refl
flags-keep [] (suc n) x h = refl
flags-keep (c ∷ changes) zero x h = refl
flags-keep (c ∷ changes) (suc n) x h = flags-keep changes n (made_all (c ∷ []) x) (second-of (is_of_flag c) (are_of_flags changes) h) ∙ flag-works c x (first-of (is_of_flag c) (are_of_flags changes) h)

pub flags-all : (changes : List Change) (x : StableState) → are_of_flags changes ≡ true → (made_all changes x).works ≡ x.works
flags-all [] x h = refl
flags-all (c ∷ changes) x h = flags-all changes (made_all (c ∷ []) x) (second-of (is_of_flag c) (are_of_flags changes) h) ∙ flag-works c x (first-of (is_of_flag c) (are_of_flags changes) h)

pub epoch-kept : (changes : List Change) (n : ℕ) (x : StableState) → (made_all (take n changes) x).epoch ≡ x.epoch
epoch-kept [] zero x = refl
epoch-kept [] (suc n) x = refl
epoch-kept (c ∷ changes) zero x = refl
epoch-kept (c ∷ changes) (suc n) x = epoch-kept changes n (made_all (c ∷ []) x) ∙ flag-epoch c x

pub epoch-all : (changes : List Change) (x : StableState) → (made_all changes x).epoch ≡ x.epoch
epoch-all [] x = refl
epoch-all (c ∷ changes) x = epoch-all changes (made_all (c ∷ []) x) ∙ flag-epoch c x

-- ---- the rows

pub record Aside (n : ℕ) (k : Tickets) (row : RowOutcome CoordinatorTable) : Type 0 where
  pub flags : are_of_flags row.changes ≡ true
  pub tickets : (row.tickets ≡ k) ⊎ (row.tickets ≡ record k { next = k.next + 1 })
  -- one change, or one for each of so many transactions
  pub few : (length row.changes ≤ 1) ⊎ (length row.changes ≤ n)

still : {n : ℕ} (k : Tickets) (t : CoordinatorTable) (sent : List Sent) (notes : List Note) → Aside n k (record { table = t; changes = []; messages = sent; notes = notes; tickets = k })
still k t sent notes = record { flags = refl; tickets = inl refl; few = inl (omega arith) }

pub closes-flags : {P : Transaction → Type 0} {xs ys : List Transaction} {cs : List Change} → Closes P xs ys cs → are_of_flags cs ≡ true
closes-flags Empty = refl
closes-flags (Stays x h) = closes-flags h
closes-flags (Goes x p e h) = closes-flags h
closes-flags (Waits x d p e h) = closes-flags h
closes-flags (Forgets x d p e g h) = closes-flags h

pub closes-few : {P : Transaction → Type 0} {xs ys : List Transaction} {cs : List Change} → Closes P xs ys cs → length cs ≤ length xs
closes-few Empty = omega arith
closes-few (Stays x h) = let few = closes-few h in omega (arith, few)
closes-few (Goes x p e h) = let few = closes-few h in omega (arith, few)
closes-few (Waits x d p e h) = let few = closes-few h in omega (arith, few)
closes-few (Forgets x d p e g h) = let few = closes-few h in omega (arith, few)

pub coordinator-aside : (t : CoordinatorTable) (free : ℕ) (k : Tickets) (m : Message) → Aside (length t.transactions) k (coordinator_row t free k m)
coordinator-aside t free k m = by m (coordinator_row t free k m) (coordinator-case t free k m)
  where
    by : (m : Message) (row : RowOutcome CoordinatorTable) → CoordinatorCase t free k m row → Aside (length t.transactions) k row
    by _ _ (is_ignored_by m) = still k t _ _
    by _ _ (is_left_by m sent says) = still k t _ _
    by _ _ (begins_anew c q later room) = record { flags = closes-flags (client-closes c t.transactions); tickets = inr refl; few = inr (closes-few (client-closes c t.transactions)) }
    by _ _ (finds_no_room c q later full) = record { flags = closes-flags (client-closes c t.transactions); tickets = inl refl; few = inr (closes-few (client-closes c t.transactions)) }
    by _ _ (starts_voting c q W Ws x found e room) = still k _ _ _
    by _ _ (counts_vote W x b found e is waits) = still k _ _ _
    by _ _ (is_committed_by m x q works found commits) = record { flags = refl; tickets = inl refl; few = inl (omega arith) }
    by _ _ (is_aborted_by m x cause works found aborts) = still k _ _ _
    by _ _ (notes_commit m x d found notes waits) = still k _ _ _
    by _ _ (forgets_commit m x d found notes through) = record { flags = refl; tickets = inl refl; few = inl (omega arith) }
    by _ _ (forgets_abort c x cause found e) = still k _ _ _

-- each outcome is thanked
pub close-aside : (t : CoordinatorTable) (k : Tickets) → Aside (length t.transactions) k (close_clients_row t k)
close-aside t k = record { flags = closes-flags (outcomes-close t.transactions); tickets = inl refl; few = inr (closes-few (outcomes-close t.transactions)) }
