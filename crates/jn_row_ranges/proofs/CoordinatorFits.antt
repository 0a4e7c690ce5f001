-- What a coordinator's row sends weighs less than the message, and its table stays small.
use Rattle.jn_row_ranges.proofs.Common.{◌≡◌, ◌≤◌, ℕ, ◌*◌, Bool, true, false, List, [], ◌∷◌, ◌++◌, length-append, Some, true≢false, refl, sym, subst, arith, ◌+◌, ◌&&◌, if◌then◌else◌, is_some, nat_tests, ClientNo, Tid, WorkId, Tickets, Cause, Client, tid_eq, tid_tells, Message, Transaction, Stage, Open, Voting, Committed, Aborted, Commitment, StableState, Change, AddFlag, DropFlag, made_by, made_all, RowOutcome, Sent, CoordinatorTable, transaction_at, with_stage, besides, drops, commits, prepares, commit_row, after_closing, changes_of_closing, coordinator_row, close_clients_row, committed_to, aborted_to, Closes, Empty, Stays, Goes, Waits, Forgets, client-closes, outcomes-close, weight, is_few, is_small, is_small_stage, are_small_stages, is_committed, committed_at, AreFlagsOf, RequestNo, IsListed, WantsEnd, wants_to_commit, wants_to_abort, WantsOutcome, wants_outcome, votes_late, Saying, says_nothing, says_begun, says_unknown, prepares_again, says_committed, says_aborted, says_commit, says_drop, says_waiting, Committing, has_no_works, is_last_vote, Aborting, finds_no_record, stops_open, stops_voting, work_is_lost, work_is_broken, work_has_no_room, Noting, work_is_done, client_thanks, CoordinatorCase, is_ignored_by, is_left_by, begins_anew, finds_no_room, starts_voting, counts_vote, is_committed_by, is_aborted_by, notes_commit, forgets_commit, forgets_abort, coordinator-case, weigh_all, without}
use Rattle.std.specs.Prelude.{length}
use Rattle.jn_rows.specs.Coordinator.{name_from}
use Rattle.jn_msgs.specs.declared.message.Message.TheVariants as messages
use Rattle.jn_msgs.specs.declared.message.Outcome.TheVariants as outcomes

-- ---- lists of works

pub weigh-all-more : (a b : List Sent) → weigh_all (a ++ b) ≡ weigh_all a + weigh_all b
weigh-all-more [] b = omega arith
weigh-all-more (m ∷ a) b = let again = weigh-all-more a b in omega (arith, again)

weigh-drops : (T : Tid) (Ws : List WorkId) → weigh_all (drops T Ws) ≡ length Ws
weigh-drops T [] = refl
weigh-drops T (W ∷ Ws) = let again = weigh-drops T Ws in omega (arith, again)

pub weigh-commits : (T : Tid) (Ws : List WorkId) → weigh_all (commits T Ws) ≡ 2 * length Ws
weigh-commits T [] = refl
weigh-commits T (W ∷ Ws) = let again = weigh-commits T Ws in omega (arith, again)

weigh-prepares : (T : Tid) (c : ClientNo) (Ws : List WorkId) → weigh_all (prepares T c Ws) ≡ 20 * length Ws
weigh-prepares T c [] = refl
weigh-prepares T c (W ∷ Ws) = let again = weigh-prepares T c Ws in omega (arith, again)

pub besides-few : (Vs Ws : List WorkId) → length (besides Vs Ws) ≤ length Vs
besides-few [] Ws = omega arith
besides-few (V ∷ Vs) Ws = let again = besides-few Vs Ws in grind (arith, again)

pub few-of : (n : ℕ) (Ws : List WorkId) → is_few n Ws ≡ true → length Ws ≤ n
few-of n Ws h = grind (arith, nat_tests, h)

-- ---- transactions

pub committed-found : (T : Tid) (xs : List Transaction) (x : Transaction) → transaction_at T xs ≡ Some x → committed_at T xs ≡ is_committed x.stage
committed-found T [] x e = absurd (cc e)
committed-found T (y ∷ ys) x e = let again = committed-found T ys x in grind (arith, e)

found-small : (n : ℕ) (T : Tid) (xs : List Transaction) (x : Transaction) → are_small_stages n xs ≡ true → transaction_at T xs ≡ Some x → is_small_stage n x.stage ≡ true
found-small n T [] x h e = absurd (cc e)
found-small n T (y ∷ ys) x h e = let again = found-small n T ys x in grind (arith, h, e)

-- the first transaction of a name comes to another stage
committed-staged : (T U : Tid) (s : Stage) (xs : List Transaction) (x : Transaction) → transaction_at T xs ≡ Some x → committed_at U (with_stage T s xs) ≡ (if tid_eq T U then is_committed s else committed_at U xs)
committed-staged T U s [] x e = absurd (cc e)
committed-staged T U s (y ∷ ys) x e = let again = committed-staged T U s ys x in let t = tid_tells y.tid T in let u = tid_tells y.tid U in let v = tid_tells T U in grind (arith, e)

length-staged : (T : Tid) (s : Stage) (xs : List Transaction) → length (with_stage T s xs) ≡ length xs
length-staged T s [] = refl
length-staged T s (y ∷ ys) = let again = length-staged T s ys in grind arith

small-staged : (n : ℕ) (T : Tid) (s : Stage) (xs : List Transaction) → are_small_stages n xs ≡ true → is_small_stage n s ≡ true → are_small_stages n (with_stage T s xs) ≡ true
small-staged n T s [] h k = refl
small-staged n T s (y ∷ ys) h k = let again = small-staged n T s ys in grind (arith, h, k)

-- it goes
committed-without : (T U : Tid) (xs : List Transaction) → tid_eq T U ≡ false → committed_at U (without T xs) ≡ committed_at U xs
committed-without T U [] e = refl
committed-without T U (y ∷ ys) e = let again = committed-without T U ys e in let t = tid_tells y.tid T in let u = tid_tells y.tid U in let v = tid_tells T U in grind (arith, e)

length-without : (T : Tid) (xs : List Transaction) → length (without T xs) ≤ length xs
length-without T [] = omega arith
length-without T (y ∷ ys) = let again = length-without T ys in grind arith

small-without : (n : ℕ) (T : Tid) (xs : List Transaction) → are_small_stages n xs ≡ true → are_small_stages n (without T xs) ≡ true
small-without n T [] h = refl
small-without n T (y ∷ ys) h = let again = small-without n T ys in grind (arith, h)

-- ---- what is kept of a table

abbrev pub named_at : Tid → List Transaction → Bool
named_at T [] = false
named_at T (x ∷ xs) = if tid_eq x.tid T then true else named_at T xs

pub committed-named : (T : Tid) (xs : List Transaction) → committed_at T xs ≡ true → named_at T xs ≡ true
committed-named T [] h = h
committed-named T (x ∷ xs) h = let again = committed-named T xs in grind (arith, h)

named-found : (T : Tid) (xs : List Transaction) (x : Transaction) → transaction_at T xs ≡ Some x → named_at x.tid xs ≡ true
named-found T [] x e = absurd (cc e)
named-found T (y ∷ ys) x e = let again = named-found T ys x in let t = tid_tells y.tid T in let u = tid_tells y.tid x.tid in grind (arith, e)

-- a flag that is put is small, and of a transaction of the table
abbrev pub flag_fits : ℕ → List Transaction → Change → Bool
flag_fits n xs (AddFlag flag) = named_at flag.tid xs && is_few n flag.works
flag_fits n xs change = true

abbrev pub flags_fit : ℕ → List Transaction → List Change → Bool
flags_fit n xs [] = true
flags_fit n xs (c ∷ cs) = flag_fits n xs c && flags_fit n xs cs

pub record CoordinatorFits (n : ℕ) (x : StableState) (t : CoordinatorTable) (weight_of : ℕ) (row : RowOutcome CoordinatorTable) : Type 0 where
  pub few : length row.table.transactions ≤ 64
  pub small : are_small_stages n row.table.transactions ≡ true
  pub flags : AreFlagsOf row.table.transactions (made_all row.changes x).flags
  pub fits : flags_fit n t.transactions row.changes ≡ true
  pub sent : weigh_all row.messages + 1 ≤ weight_of

-- ---- transactions are closed

dropped-only : {P : Transaction → Type 0} {xs ys : List Transaction} {cs : List Change} → Closes P xs ys cs → (x : StableState) (T : Tid) → is_some ((made_all cs x).flags T) ≡ true → is_some (x.flags T) ≡ true
dropped-only Empty x T h = h
dropped-only (Stays y c) x T h = dropped-only c x T h
dropped-only (Goes y p e c) x T h = dropped-only c x T h
dropped-only (Waits y d p e c) x T h = dropped-only c x T h
dropped-only (Forgets y d p e g c) x T h = let old = dropped-only c (made_by (DropFlag y.tid) x) T h in grind (arith, old)

-- a flag that stays is of a transaction that stays
closed-flags : {P : Transaction → Type 0} {xs ys : List Transaction} {cs : List Change} → Closes P xs ys cs → (x : StableState) (T : Tid) → is_some ((made_all cs x).flags T) ≡ true → committed_at T xs ≡ true → committed_at T ys ≡ true
closed-flags Empty x T h k = k
closed-flags (Stays y c) x T h k = let on = closed-flags c x T h in grind (arith, k)
closed-flags (Goes y p e c) x T h k = let on = closed-flags c x T h in grind (arith, e, k)
closed-flags (Waits y d p e c) x T h k = let on = closed-flags c x T h in grind (arith, k)
closed-flags (Forgets y d p e g c) x T h k = let on = closed-flags c (made_by (DropFlag y.tid) x) T h in let old = dropped-only c (made_by (DropFlag y.tid) x) T h in grind (arith, k)

closed-few : {P : Transaction → Type 0} {xs ys : List Transaction} {cs : List Change} → Closes P xs ys cs → length ys ≤ length xs
closed-few Empty = omega arith
closed-few (Stays y c) = let h = closed-few c in omega (arith, h)
closed-few (Goes y p e c) = let h = closed-few c in omega (arith, h)
closed-few (Waits y d p e c) = let h = closed-few c in omega (arith, h)
closed-few (Forgets y d p e g c) = let h = closed-few c in omega (arith, h)

closed-small : (n : ℕ) {P : Transaction → Type 0} {xs ys : List Transaction} {cs : List Change} → Closes P xs ys cs → are_small_stages n xs ≡ true → are_small_stages n ys ≡ true
closed-small n Empty h = h
closed-small n (Stays y c) h = let again = closed-small n c in grind (arith, h)
closed-small n (Goes y p e c) h = closed-small n c (grind (arith, h))
closed-small n (Waits {xs = xs} y d p e c) h = let again = closed-small n c in let k = subst (λ (s : Stage). (is_small_stage n s && are_small_stages n xs) ≡ true) e h in grind (arith, k)
closed-small n (Forgets y d p e g c) h = closed-small n c (grind (arith, h))

closed-fit : (n : ℕ) (zs : List Transaction) {P : Transaction → Type 0} {xs ys : List Transaction} {cs : List Change} → Closes P xs ys cs → flags_fit n zs cs ≡ true
closed-fit n zs Empty = refl
closed-fit n zs (Stays y c) = closed-fit n zs c
closed-fit n zs (Goes y p e c) = closed-fit n zs c
closed-fit n zs (Waits y d p e c) = closed-fit n zs c
closed-fit n zs (Forgets y d p e g c) = closed-fit n zs c

committed-more : (U : Tid) (xs : List Transaction) (y : Transaction) → committed_at U xs ≡ true → committed_at U (xs ++ y ∷ []) ≡ true
committed-more U [] y h = absurd (true≢false (sym h))
committed-more U (x ∷ xs) y h = let again = committed-more U xs y in grind (arith, h)

small-more : (n : ℕ) (xs : List Transaction) (y : Transaction) → are_small_stages n xs ≡ true → is_small_stage n y.stage ≡ true → are_small_stages n (xs ++ y ∷ []) ≡ true
small-more n [] y h k = rw k refl
small-more n (x ∷ xs) y h k = let again = small-more n xs y in grind (arith, h, k)

-- ---- rows

module _ (n : ℕ) (at_most : n ≤ 8) (x : StableState) (t : CoordinatorTable) (k : Tickets) (few : length t.transactions ≤ 64) (small : are_small_stages n t.transactions ≡ true) (flags : AreFlagsOf t.transactions x.flags) where
  still : (w : ℕ) (row : RowOutcome CoordinatorTable) → row.table ≡ t → row.changes ≡ [] → weigh_all row.messages + 1 ≤ w → CoordinatorFits n x t w row
  still w row same none light = record { few = rw same few; small = rw same small; flags = rw (same, none) flags; fits = rw none refl; sent = light }

  module _ (y : Transaction) (found : IsListed t y) where
    works-few : (s : Stage) → y.stage ≡ s → is_small_stage n s ≡ true
    works-few s e = subst (λ z. is_small_stage n z ≡ true) e (found-small n y.tid t.transactions y small found)

    staged-fits : (w : ℕ) (s : Stage) (sent : List Sent) → is_committed s ≡ is_committed y.stage → is_small_stage n s ≡ true → weigh_all sent + 1 ≤ w
        → CoordinatorFits n x t w (record { table = record t { transactions = with_stage y.tid s t.transactions }; changes = []; messages = sent; notes = []; tickets = k })
    staged-fits w s sent same k light = record {
      few = let l = length-staged y.tid s t.transactions in omega (arith, l, few);
      small = small-staged n y.tid s t.transactions small k;
      flags = λ U h. let old = flags U h in let is = committed-staged y.tid U s t.transactions y found in let was = committed-found y.tid t.transactions y found in let v = tid_tells y.tid U in grind arith;
      fits = refl;
      sent = light;
    }

    commit-fits : (w : ℕ) (request : RequestNo) (works : List WorkId) → is_few n works ≡ true → 2 * length works + 3 ≤ w → CoordinatorFits n x t w (commit_row t k y request works)
    commit-fits w request works l light = record {
      few = let l = length-staged y.tid (Committed (record { works = works; done = []; thanked = false })) t.transactions in omega (arith, l, few);
      small = small-staged n y.tid _ t.transactions small l;
      flags = λ U h. let old = flags U in let is = committed-staged y.tid U (Committed (record { works = works; done = []; thanked = false })) t.transactions y found in let v = tid_tells y.tid U in grind (arith, h);
      fits = let named = named-found y.tid t.transactions y found in grind (arith, l);
      sent = let a = weigh-all-more (commits y.tid works) (committed_to y ∷ []) in let b = weigh-commits y.tid works in omega (arith, a, b, light);
    }

    -- what a message that commits it, aborts it or goes on with its commit weighs, and what its works are
    committing-few : (free : ℕ) (m : Message) (request : RequestNo) (works : List WorkId) → is_small n m ≡ true → Committing free y m request works → (is_few n works ≡ true) × (2 * length works + 3 ≤ weight m)
    committing-few free _ _ _ l (has_no_works c q e room) = (l, omega arith)
    committing-few free _ _ _ l (is_last_vote W b e is all) = (works-few (Voting b) e, let f = few-of n b.works (works-few (Voting b) e) in omega (arith, f, at_most))

    aborting-few : (free : ℕ) (m : Message) (cause : Cause) (works : List WorkId) → is_small n m ≡ true → Aborting free k y m cause works → (is_committed y.stage ≡ false) × (length works + 3 ≤ weight m)
    aborting-few free _ _ _ l (finds_no_record c q works e full) = (rw e refl, let f = few-of n works l in omega (arith, f, at_most))
    aborting-few free _ _ _ l (stops_open c q works e) = (rw e refl, let f = few-of n works l in omega (arith, f, at_most))
    aborting-few free _ _ _ l (stops_voting c q works b e) = (rw e refl, let a = length-append b.works (besides works b.works) in let c = besides-few works b.works in let d = few-of n b.works (works-few (Voting b) e) in let f = few-of n works l in omega (arith, a, c, d, f, at_most))
    aborting-few free _ _ _ l (work_is_lost W before now b e is) = (rw e refl, let a = besides-few b.works (W ∷ []) in let f = few-of n b.works (works-few (Voting b) e) in omega (arith, a, f, at_most))
    aborting-few free _ _ _ l (work_is_broken W u held b e is) = (rw e refl, let f = few-of n b.works (works-few (Voting b) e) in omega (arith, f, at_most))
    aborting-few free _ _ _ l (work_has_no_room W number left need b e is) = (rw e refl, let f = few-of n b.works (works-few (Voting b) e) in omega (arith, f, at_most))

    noting-few : (m : Message) (d : Commitment) → Noting y m d → (is_few n d.works ≡ true) × (is_committed y.stage ≡ true) × (1 ≤ weight m)
    noting-few _ _ (work_is_done W d e waits) = (works-few (Committed d) e, rw e refl, omega arith)
    noting-few _ _ (client_thanks c d e new) = (works-few (Committed d) e, rw e refl, omega arith)

  -- every outcome is thanked
  pub close-fits : CoordinatorFits n x t 1 (close_clients_row t k)
  close-fits = let its = outcomes-close t.transactions in record {
    few = let l = closed-few its in omega (arith, l, few);
    small = closed-small n its small;
    flags = λ U h. closed-flags its x U h (flags U (dropped-only its x U h));
    fits = closed-fit n t.transactions its;
    sent = omega arith;
  }

  -- ---- what is said

  unknown-light : (c : ClientNo) (T : Tid) (works : List WorkId) → is_few n works ≡ true → weigh_all ((Client c, messages.Outcome c T (outcomes.NotKnown k.server k.epoch)) ∷ drops T works) + 1 ≤ 161
  unknown-light c T works l = let a = weigh-drops T works in let b = few-of n works l in omega (arith, a, b, at_most)

  some-weight : (m : Message) → 1 ≤ weight m
  some-weight (messages.Begin c request) = omega arith
  some-weight _ = omega arith

  ending-weight : (c : ClientNo) (T : Tid) (works : List WorkId) (m : Message) → WantsEnd c T works m → 3 ≤ weight m
  ending-weight c T works _ (wants_to_commit q) = omega arith
  ending-weight c T works _ (wants_to_abort q) = omega arith

  asking-weight : (T : Tid) (W : WorkId) (m : Message) → WantsOutcome T W m → 3 ≤ weight m
  asking-weight T W _ wants_outcome = omega arith
  asking-weight T W _ (votes_late vote) = omega arith

  says-light : (m : Message) (sent : List Sent) → is_small n m ≡ true → Saying t k m sent → weigh_all sent + 1 ≤ weight m
  says-light _ _ l (says_nothing m W y asks found) = some-weight m
  says-light _ _ l (says_begun c q y same e) = omega arith
  says-light _ _ l (says_unknown _ c T works (wants_to_commit q) none) = unknown-light c T works l
  says-light _ _ l (says_unknown _ c T works (wants_to_abort q) none) = unknown-light c T works l
  says-light _ _ l (prepares_again c q works y b found e) = let a = weigh-prepares y.tid y.client (besides b.works b.ready) in let f = besides-few b.works b.ready in let d = few-of n b.works (works-few y found (Voting b) e) in omega (arith, a, f, d, at_most)
  says-light _ _ l (says_committed m c works y d ends found e) = ending-weight c y.tid works m ends
  says-light _ _ l (says_aborted m c works y cause ends found e) = ending-weight c y.tid works m ends
  says-light _ _ l (says_commit m W y d asks found e waits) = asking-weight y.tid W m asks
  says-light _ _ l (says_drop m T W asks why) = let w = asking-weight T W m asks in omega (arith, w)
  says-light _ _ l (says_waiting W u held y b found e is waits) = omega arith

  -- ---- every message

  module _ (c : ClientNo) (request : RequestNo) where
    abbrev ys : List Transaction
    ys = after_closing c t.transactions

    abbrev new : Transaction
    new = record { tid = name_from k; client = c; begun = Some request; stage = Open }

    left : AreFlagsOf ys (made_all (changes_of_closing c t.transactions) x).flags
    left U h = closed-flags (client-closes c t.transactions) x U h (flags U (dropped-only (client-closes c t.transactions) x U h))

  row-fits : (free : ℕ) (m : Message) (row : RowOutcome CoordinatorTable) → is_small n m ≡ true → CoordinatorCase t free k m row → CoordinatorFits n x t (weight m) row
  row-fits free _ _ l (is_ignored_by m) = still (weight m) _ refl refl (some-weight m)
  row-fits free _ _ l (is_left_by m sent says) = still (weight m) _ refl refl (says-light m sent l says)
  row-fits free _ _ l (begins_anew c q later room) = record {
    few = let more = length-append (ys c q) (new c q ∷ []) in grind (arith, nat_tests, room);
    small = small-more n (ys c q) (new c q) (closed-small n (client-closes c t.transactions) small) refl;
    flags = λ U h. committed-more U (ys c q) (new c q) (left c q U h);
    fits = closed-fit n t.transactions (client-closes c t.transactions);
    sent = omega arith;
  }
  row-fits free _ _ l (finds_no_room c q later full) = record {
    few = let l = closed-few (client-closes c t.transactions) in omega (arith, l, few);
    small = closed-small n (client-closes c t.transactions) small;
    flags = left c q;
    fits = closed-fit n t.transactions (client-closes c t.transactions);
    sent = omega arith;
  }
  row-fits free _ _ l (starts_voting c q W Ws y found e room) = staged-fits y found 161 _ _ (rw e refl) l (let a = weigh-prepares y.tid y.client (W ∷ Ws) in let b = few-of n (W ∷ Ws) l in omega (arith, a, b, at_most))
  row-fits free _ _ l (counts_vote W y b found e is waits) = staged-fits y found 19 _ [] (rw e refl) (works-few y found (Voting b) e) (omega arith)
  row-fits free _ _ l (is_committed_by m y q works found why) = let its = committing-few y found free m q works l why in commit-fits y found (weight m) q works its.0 its.1
  row-fits free _ _ l (is_aborted_by m y cause works found why) = let its = aborting-few y found free m cause works l why in staged-fits y found (weight m) (Aborted cause) (drops y.tid works ++ aborted_to y cause ∷ []) (sym its.0) refl
      (let a = weigh-all-more (drops y.tid works) (aborted_to y cause ∷ []) in let b = weigh-drops y.tid works in let light = its.1 in omega (arith, a, b, light))
  row-fits free _ _ l (notes_commit m y d found notes waits) = let its = noting-few y found m d notes in staged-fits y found (weight m) (Committed d) [] (sym its.1) its.0 its.2
  row-fits free _ _ l (forgets_commit m y d found notes through) = record {
    few = let l = length-without y.tid t.transactions in omega (arith, l, few);
    small = small-without n y.tid t.transactions small;
    flags = λ U h. let old = flags U in let rest = committed-without y.tid U t.transactions in let v = tid_tells y.tid U in grind (arith, h);
    fits = refl;
    sent = let its = noting-few y found m d notes in its.2;
  }
  row-fits free _ _ l (forgets_abort c y cause found e) = record {
    few = let l = length-without y.tid t.transactions in omega (arith, l, few);
    small = small-without n y.tid t.transactions small;
    flags = λ U h. let old = flags U h in let rest = committed-without y.tid U t.transactions in let v = tid_tells y.tid U in let was = committed-found y.tid t.transactions y found in grind (arith, e);
    fits = refl;
    sent = omega arith;
  }

  pub coordinator-fits : (free : ℕ) (m : Message) → is_small n m ≡ true → CoordinatorFits n x t (weight m) (coordinator_row t free k m)
  coordinator-fits free m l = row-fits free m _ l (coordinator-case t free k m)
