-- A coordinator names servers that there are.
use Rattle.jn_row_ranges.proofs.Common.{◌≡◌, ℕ, Bool, true, false, List, [], ◌∷◌, ◌++◌, length, Some, refl, subst, arith, ◌&&◌, not, if◌then◌else◌, nat_lt, ClientNo, Tid, WorkId, Tickets, tid_eq, Message, Transaction, Stage, Open, Voting, Committed, Aborted, Change, RowOutcome, Sent, CoordinatorTable, transaction_at, with_stage, without, besides, drops, commits, prepares, after_closing, begun_by, coordinator_row, told_again, coordinator_again, close_clients_row, are_near, is_few, is_small_stage, is_near, are_both_near, names_near, are_within, is_transaction_within, are_transactions_within, are_changes_within, IsListed, WantsEnd, wants_to_commit, wants_to_abort, WantsOutcome, wants_outcome, votes_late, Saying, says_nothing, says_begun, says_unknown, prepares_again, says_committed, says_aborted, says_commit, says_drop, says_waiting, Committing, has_no_works, is_last_vote, Aborting, finds_no_record, stops_open, stops_voting, work_is_lost, work_is_broken, work_has_no_room, Noting, work_is_done, client_thanks, CoordinatorCase, is_ignored_by, is_left_by, begins_anew, finds_no_room, starts_voting, counts_vote, is_committed_by, is_aborted_by, notes_commit, forgets_commit, forgets_abort, coordinator-case, Cause, Commitment, RequestNo, Closes, Empty, Stays, Goes, Waits, Forgets, client-closes, outcomes-close}

-- ---- lists of works

first-of : (a b : Bool) → (a && b) ≡ true → a ≡ true
first-of a b h = grind arith

second-of : (a b : Bool) → (a && b) ≡ true → b ≡ true
second-of a b h = grind arith

pub sent-both : (n : ℕ) (a b : List Sent) → are_within n a ≡ true → are_within n b ≡ true → are_within n (a ++ b) ≡ true
sent-both n [] b h k = k
sent-both n (x ∷ a) b h k = let again = sent-both n a b in grind (arith, h, k)

near-both : (n : ℕ) (a b : List WorkId) → are_near n a ≡ true → are_near n b ≡ true → are_near n (a ++ b) ≡ true
near-both n [] b h k = k
near-both n (W ∷ a) b h k = let again = near-both n a b in grind (arith, h, k)

near-besides : (n : ℕ) (Vs Ws : List WorkId) → are_near n Vs ≡ true → are_near n (besides Vs Ws) ≡ true
near-besides n [] Ws h = refl
near-besides n (V ∷ Vs) Ws h = let again = near-besides n Vs Ws in grind (arith, h)

few-near : (n : ℕ) (Ws : List WorkId) → is_few n Ws ≡ true → are_near n Ws ≡ true
few-near n Ws h = second-of (not (nat_lt n (length Ws))) (are_near n Ws) h

drops-within : (n : ℕ) (T : Tid) (Ws : List WorkId) → is_near n T.server ≡ true → are_near n Ws ≡ true → are_within n (drops T Ws) ≡ true
drops-within n T [] k h = refl
drops-within n T (W ∷ Ws) k h = let again = drops-within n T Ws k in grind (arith, h, k)

commits-within : (n : ℕ) (T : Tid) (Ws : List WorkId) → is_near n T.server ≡ true → are_near n Ws ≡ true → are_within n (commits T Ws) ≡ true
commits-within n T [] k h = refl
commits-within n T (W ∷ Ws) k h = let again = commits-within n T Ws k in grind (arith, h, k)

prepares-within : (n : ℕ) (T : Tid) (c : ClientNo) (Ws : List WorkId) → is_near n T.server ≡ true → are_near n Ws ≡ true → are_within n (prepares T c Ws) ≡ true
prepares-within n T c [] k h = refl
prepares-within n T c (W ∷ Ws) k h = let again = prepares-within n T c Ws k in grind (arith, h, k)

-- ---- lists of transactions

found-within : (n : ℕ) (T : Tid) (xs : List Transaction) (y : Transaction) → are_transactions_within n xs ≡ true → transaction_at T xs ≡ Some y → is_transaction_within n y ≡ true
found-within n T [] y h e = absurd (cc e)
found-within n T (x ∷ xs) y h e = by (tid_eq x.tid T) e (found-within n T xs y (second-of _ _ h))
  where
    some : (a b : Transaction) → Some a ≡ Some b → a ≡ b
    some a b q = cc

    by : (b : Bool) → (if b then Some x else transaction_at T xs) ≡ Some y → (transaction_at T xs ≡ Some y → is_transaction_within n y ≡ true) → is_transaction_within n y ≡ true
    by true q again = subst (λ (z : Transaction). is_transaction_within n z ≡ true) (some x y q) (first-of _ _ h)
    by false q again = again q

staged-within : (n : ℕ) (T : Tid) (s : Stage) (xs : List Transaction) → are_transactions_within n xs ≡ true → is_small_stage n s ≡ true → are_transactions_within n (with_stage T s xs) ≡ true
staged-within n T s [] h k = refl
staged-within n T s (x ∷ xs) h k = let again = staged-within n T s xs in grind (arith, h, k)

less-within : (n : ℕ) (T : Tid) (xs : List Transaction) → are_transactions_within n xs ≡ true → are_transactions_within n (without T xs) ≡ true
less-within n T [] h = refl
less-within n T (x ∷ xs) h = let again = less-within n T xs in grind (arith, h)

pub more-transactions : (n : ℕ) (a b : List Transaction) → are_transactions_within n a ≡ true → are_transactions_within n b ≡ true → are_transactions_within n (a ++ b) ≡ true
more-transactions n [] b h k = k
more-transactions n (x ∷ a) b h k = let again = more-transactions n a b in grind (arith, h, k)

-- ---- transactions are closed

closes-within : (n : ℕ) {P : Transaction → Type 0} {xs ys : List Transaction} {cs : List Change} → Closes P xs ys cs → are_transactions_within n xs ≡ true → are_transactions_within n ys ≡ true
closes-within n Empty h = refl
closes-within n (Stays y c) h = let again = closes-within n c in grind (arith, h)
closes-within n (Goes y p e c) h = closes-within n c (second-of _ _ h)
closes-within n (Waits y d p e c) h = let again = closes-within n c in grind (arith, h, e)
closes-within n (Forgets y d p e g c) h = closes-within n c (second-of _ _ h)

closes-changes : (n : ℕ) {P : Transaction → Type 0} {xs ys : List Transaction} {cs : List Change} → Closes P xs ys cs → are_changes_within n cs ≡ true
closes-changes n Empty = refl
closes-changes n (Stays y c) = closes-changes n c
closes-changes n (Goes y p e c) = closes-changes n c
closes-changes n (Waits y d p e c) = closes-changes n c
closes-changes n (Forgets y d p e g c) = closes-changes n c

begun-within : (n : ℕ) (c : ClientNo) (q : RequestNo) (xs : List Transaction) (y : Transaction) → are_transactions_within n xs ≡ true → begun_by c q xs ≡ Some y → is_near n y.tid.server ≡ true
begun-within n c q [] y h e = absurd (cc e)
begun-within n c q (x ∷ xs) y h e = let again = begun-within n c q xs y in grind (arith, h, e)

-- ---- rows

pub record CoordinatorWithin (n : ℕ) (xs : List Transaction) (changes : List Change) (sent : List Sent) : Type 0 where
  pub table : are_transactions_within n xs ≡ true
  pub changes_are : are_changes_within n changes ≡ true
  pub sent_are : are_within n sent ≡ true

abbrev Within : ℕ → RowOutcome CoordinatorTable → Type 0
Within n row = CoordinatorWithin n row.table.transactions row.changes row.messages

module _ (n : ℕ) (t : CoordinatorTable) (free : ℕ) (k : Tickets) (h : are_transactions_within n t.transactions ≡ true) where
  still : (sent : List Sent) → are_within n sent ≡ true → CoordinatorWithin n t.transactions [] sent
  still sent l = record { table = h; changes_are = refl; sent_are = l }

  staged : (T : Tid) (s : Stage) (sent : List Sent) → is_small_stage n s ≡ true → are_within n sent ≡ true → CoordinatorWithin n (with_stage T s t.transactions) [] sent
  staged T s sent l m = record { table = staged-within n T s t.transactions h l; changes_are = refl; sent_are = m }

  module _ (y : Transaction) (found : IsListed t y) where
    its : is_transaction_within n y ≡ true
    its = found-within n y.tid t.transactions y h found

    near : is_near n y.tid.server ≡ true
    near = first-of _ _ its

    small : (s : Stage) → y.stage ≡ s → is_small_stage n s ≡ true
    small s e = subst (λ (z : Stage). is_small_stage n z ≡ true) e (second-of _ _ its)

    commits-few : (m : Message) (q : RequestNo) (works : List WorkId) → names_near n m ≡ true → Committing free y m q works → is_few n works ≡ true
    commits-few _ _ _ l (has_no_works c q e room) = second-of _ _ l
    commits-few _ _ _ l (is_last_vote W b e is all) = small (Voting b) e

    aborts-near : (m : Message) (cause : Cause) (works : List WorkId) → names_near n m ≡ true → Aborting free k y m cause works → are_near n works ≡ true
    aborts-near _ _ _ l (finds_no_record c q works e full) = few-near n works (second-of _ _ l)
    aborts-near _ _ _ l (stops_open c q works e) = few-near n works (second-of _ _ l)
    aborts-near _ _ _ l (stops_voting c q works b e) = near-both n b.works _ (few-near n b.works (small (Voting b) e)) (near-besides n works b.works (few-near n works (second-of _ _ l)))
    aborts-near _ _ _ l (work_is_lost W before now b e is) = near-besides n b.works (W ∷ []) (few-near n b.works (small (Voting b) e))
    aborts-near _ _ _ l (work_is_broken W u held b e is) = few-near n b.works (small (Voting b) e)
    aborts-near _ _ _ l (work_has_no_room W number left need b e is) = few-near n b.works (small (Voting b) e)

    notes-few : (m : Message) (d : Commitment) → Noting y m d → is_few n d.works ≡ true
    notes-few _ _ (work_is_done W d e waits) = small (Committed d) e
    notes-few _ _ (client_thanks c d e new) = small (Committed d) e

  ends-named : (c : ClientNo) (T : Tid) (works : List WorkId) (m : Message) → WantsEnd c T works m → names_near n m ≡ true → (is_near n T.server ≡ true) × (is_few n works ≡ true)
  ends-named c T works _ (wants_to_commit q) l = (first-of _ _ l, second-of _ _ l)
  ends-named c T works _ (wants_to_abort q) l = (first-of _ _ l, second-of _ _ l)

  asks-named : (T : Tid) (W : WorkId) (m : Message) → WantsOutcome T W m → names_near n m ≡ true → are_both_near n T W ≡ true
  asks-named T W _ wants_outcome l = l
  asks-named T W _ (votes_late vote) l = l

  said-within : (m : Message) (sent : List Sent) → names_near n m ≡ true → Saying t k m sent → are_within n sent ≡ true
  said-within _ _ l (says_nothing m W y asks found) = refl
  said-within _ _ l (says_begun c q y same e) = let of = begun-within n c q t.transactions y h e in grind (arith, of)
  said-within _ _ l (says_unknown m c T works ends none) = let named = ends-named c T works m ends l in let near = named.0 in
      let dropped = drops-within n T works near (few-near n works named.1) in grind (arith, near, dropped)
  said-within _ _ l (prepares_again c q works y b found e) = prepares-within n y.tid y.client _ (near y found) (near-besides n b.works b.ready (few-near n b.works (small y found (Voting b) e)))
  said-within _ _ l (says_committed m c works y d ends found e) = let of = near y found in grind (arith, of)
  said-within _ _ l (says_aborted m c works y cause ends found e) = let of = near y found in grind (arith, of)
  said-within _ _ l (says_commit m W y d asks found e waits) = let named = asks-named y.tid W m asks l in grind (arith, named)
  said-within _ _ l (says_drop m T W asks why) = let named = asks-named T W m asks l in grind (arith, named)
  said-within _ _ l (says_waiting W u held y b found e is waits) = let of = near y found in grind (arith, of)

  pub coordinator-within : (m : Message) → is_near n k.server ≡ true → names_near n m ≡ true → Within n (coordinator_row t free k m)
  coordinator-within m mine l = by m (coordinator_row t free k m) l (coordinator-case t free k m)
    where
      by : (m : Message) (row : RowOutcome CoordinatorTable) → names_near n m ≡ true → CoordinatorCase t free k m row → Within n row
      by _ _ l (is_ignored_by m) = still [] refl
      by _ _ l (is_left_by m sent says) = still sent (said-within m sent l says)
      by _ _ l (begins_anew c q later room) = record {
        table = more-transactions n (after_closing c t.transactions) _ (closes-within n (client-closes c t.transactions) h) (grind (arith, mine));
        changes_are = closes-changes n (client-closes c t.transactions);
        sent_are = grind (arith, mine);
      }
      by _ _ l (finds_no_room c q later full) = record { table = closes-within n (client-closes c t.transactions) h; changes_are = closes-changes n (client-closes c t.transactions); sent_are = refl }
      by _ _ l (starts_voting c q W Ws y found e room) = let few = second-of _ _ l in staged y.tid _ _ few (prepares-within n y.tid y.client (W ∷ Ws) (near y found) (few-near n (W ∷ Ws) few))
      by _ _ l (counts_vote W y b found e is waits) = staged y.tid _ [] (small y found (Voting b) e) refl
      by _ _ l (is_committed_by m y q works found why) = let few = commits-few y found m q works l why in let of = near y found in record {
        table = staged-within n y.tid _ t.transactions h few;
        changes_are = grind (arith, of, few);
        sent_are = sent-both n (commits y.tid works) _ (commits-within n y.tid works of (few-near n works few)) (grind (arith, of));
      }
      by _ _ l (is_aborted_by m y cause works found why) = let of = near y found in
          staged y.tid (Aborted cause) _ refl (sent-both n (drops y.tid works) _ (drops-within n y.tid works of (aborts-near y found m cause works l why)) (grind (arith, of)))
      by _ _ l (notes_commit m y d found notes waits) = staged y.tid (Committed d) [] (notes-few y found m d notes) refl
      by _ _ l (forgets_commit m y d found notes through) = record { table = less-within n y.tid t.transactions h; changes_are = refl; sent_are = refl }
      by _ _ l (forgets_abort c y cause found e) = record { table = less-within n y.tid t.transactions h; changes_are = refl; sent_are = refl }

  pub close-within : Within n (close_clients_row t k)
  close-within = record { table = closes-within n (outcomes-close t.transactions) h; changes_are = closes-changes n (outcomes-close t.transactions); sent_are = refl }

told-again-within : (n : ℕ) (x : Transaction) (s : Stage) → is_near n x.tid.server ≡ true → is_small_stage n s ≡ true → are_within n (told_again x s) ≡ true
told-again-within n x (Committed d) h l = sent-both n (commits x.tid (besides d.works d.done)) _ (commits-within n x.tid (besides d.works d.done) h (near-besides n d.works d.done (few-near n d.works l))) (grind (arith, h))
told-again-within n x (Aborted cause) h l = grind (arith, h)
told-again-within n x Open h l = refl
told-again-within n x (Voting b) h l = refl

pub coordinator-again-within : (n : ℕ) (xs : List Transaction) → are_transactions_within n xs ≡ true → are_within n (coordinator_again xs) ≡ true
coordinator-again-within n [] h = refl
coordinator-again-within n (x ∷ xs) h = let first = first-of _ _ h in sent-both n (told_again x x.stage) (coordinator_again xs) (told-again-within n x x.stage (first-of _ _ first) (second-of _ _ first)) (coordinator-again-within n xs (second-of _ _ h))
