-- What holds of the sizes of a server's tables and of what it has stored, after each of its steps.
use Rattle.jn_system_settling.proofs.Common.{◌≡◌, ◌≢◌, ◌⊎◌, inl, inr, ◌≤◌, ℕ, zero, suc, ◌+◌, Bool, true, false, List, [], ◌∷◌, ◌++◌, length, take, Option, Some, None, true≢false, refl, sym, ◌∙◌, ap, subst, arith, is_some, map, list_any, list_all, IsDistinct, AllByRecursion, nat_tests, ServerNo, Tid, WorkId, tid_eq, work_eq, tid_tells, work_before, Message, Work, Transaction, StableState, Prepared, FlagState, Change, AddReady, MarkGoing, CarryOut, RemoveWork, AddFlag, DropFlag, made_by, made_all, at_tid, RowOutcome, WorkerTable, work_at, worker_row, restored_work, restored_worker, CoordinatorTable, coordinator_row, close_clients_row, restored_transaction, restored_transactions, not-before, Memory, Room, storage_of, of_worker, of_coordinator, server_row, server_step, restored, AreNames, tid_before, TableFact, worker-keeps, step-keeps, coordinator-aside, close-aside, are_of_flags, flags-keep, flags-all, weight, goings, goings_at, is_few, is_small, are_small_stages, committed_at, AreFlagsOf, AreSmallFlags, AreAtMost64, StoredSizes, TableSizes, row-either, row-of-step, weigh_all, keep_flags, worker-fits, step-fits, CoordinatorFits, named_at, committed-named, flags_fit, coordinator-fits, close-fits, Tickets, AreOrderly}
use Rattle.std.specs.Cmp.{IsEquivalence}
use Rattle.std.proofs.lemmas.Map.Made.{length-le_from_is_member}
use Rattle.jn_system.specs.WholeSystem.Steps.{are_rising}
use Rattle.jn_system.proofs.WholeSystem.Rows.{RowKeeps}

-- ---- names in a list

rename : {A : Type 0} (eq : A → A → Bool) → ((a b : A) → eq a b ≡ eq b a) → (a : A) (names : List A) → list_any (λ b. eq b a) names ≡ list_any (eq a) names
rename eq symmetric a [] = refl
rename eq symmetric a (b ∷ bs) = let again = rename eq symmetric a bs in let same = symmetric b a in grind arith

all-apart : {A : Type 0} (eq before : A → A → Bool) → ((a b : A) → before a b ≡ true → eq a b ≡ false) → (a : A) (bs : List A) → list_all (λ b. before a b) bs ≡ true → AllByRecursion (λ b. eq a b ≡ false) bs
all-apart eq before apart a [] h = tt
all-apart eq before apart a (b ∷ bs) h = (apart a b (grind (arith, h)), all-apart eq before apart a bs (grind (arith, h)))

distinct : {A : Type 0} (eq before : A → A → Bool) → ((a b : A) → before a b ≡ true → eq a b ≡ false) → (names : List A) → are_rising before names ≡ true → IsDistinct eq names
unfolding IsDistinct
distinct eq before apart [] h = tt
distinct eq before apart (a ∷ names) h = (all-apart eq before apart a names (grind (arith, h)), distinct eq before apart names (grind (arith, h)))

-- names of what is there are no more than the list has
named-few : {A B : Type 0} (eq before : A → A → Bool) → IsEquivalence eq → ((a b : A) → before a b ≡ true → eq a b ≡ false) → (there : A → Option B) (names : List A)
    → AreNames eq before there names → AreAtMost64 eq there → length names ≤ 64
named-few eq before laws apart there names are most = let few = length-le_from_is_member laws names most.names (distinct eq before apart names are.rising)
    (λ a h. most.each a (sym (are.each a) ∙ rename eq laws.symm a names ∙ h)) in let most_few = most.few in omega (arith, few, most_few)

work-laws : IsEquivalence work_eq
work-laws = record { refl = λ a. grind (arith, nat_tests); symm = λ a b. grind (arith, nat_tests); congr = λ a b c h. grind (arith, nat_tests, h) }

tid-laws : IsEquivalence tid_eq
tid-laws = record { refl = λ a. grind (arith, nat_tests); symm = λ a b. grind (arith, nat_tests); congr = λ a b c h. grind (arith, nat_tests, h) }

tids-apart : (a b : Tid) → tid_before a b ≡ true → tid_eq a b ≡ false
tids-apart a b h = grind (arith, nat_tests, h)

-- ---- what a server that is up has stored

named-work : (W : WorkId) (t : WorkerTable) → is_some (work_at W t) ≡ true → list_any (work_eq W) (map (λ (w : Work). w.name) t) ≡ true
named-work W [] h = absurd (true≢false (sym h))
named-work W (w ∷ ws) h = let again = named-work W ws in let same = work-laws.symm w.name W in grind (arith, h)

named-flag : (T : Tid) (xs : List Transaction) → named_at T xs ≡ true → list_any (tid_eq T) (map (λ (x : Transaction). x.tid) xs) ≡ true
named-flag T [] h = absurd (true≢false (sym h))
named-flag T (x ∷ xs) h = let again = named-flag T xs in let same = tid-laws.symm x.tid T in grind (arith, h)

length-mapped : {A B : Type 0} (f : A → B) (xs : List A) → length (map f xs) ≡ length xs
length-mapped f [] = refl
length-mapped f (x ∷ xs) = let again = length-mapped f xs in grind arith

abbrev AreNamed : List Transaction → (Tid → Option FlagState) → Type 0
AreNamed xs flags = (T : Tid) → is_some (flags T) ≡ true → named_at T xs ≡ true

-- all the works have a place in a table, and all the flags in another
stored-sizes : (n : ℕ) (t : WorkerTable) (xs : List Transaction) (x : StableState) → length t ≤ 64 → ((W : WorkId) → is_some (x.works W) ≡ true → is_some (work_at W t) ≡ true)
    → length xs ≤ 64 → AreNamed xs x.flags → AreSmallFlags n x.flags → StoredSizes n x
stored-sizes n t xs x few live most named small = record {
  works = record { names = map (λ (w : Work). w.name) t; few = let l = length-mapped (λ (w : Work). w.name) t in omega (arith, l, few); each = λ W h. named-work W t (live W h) };
  flags = record { names = map (λ (y : Transaction). y.tid) xs; few = let l = length-mapped (λ (y : Transaction). y.tid) xs in omega (arith, l, most); each = λ T h. named-flag T xs (named T h) };
  small = small;
}

pub up-stored : (n : ℕ) (m : Memory) (x : StableState) → TableSizes n m x → TableFact m.worker m.tickets x.works → StoredSizes n x
up-stored n m x h table = stored-sizes n m.worker m.coordinator.transactions x h.works table.live h.transactions (λ T e. committed-named T m.coordinator.transactions (h.flags T e)) h.small

-- ---- changes of flags

all-kept : (changes : List Change) (x : StableState) → keep_flags changes ≡ true → (made_all changes x).flags ≡ x.flags
all-kept [] x h = refl
all-kept (AddReady head list reads ∷ cs) x h = all-kept cs (made_by (AddReady head list reads) x) h
all-kept (MarkGoing W ∷ cs) x h = all-kept cs (made_by (MarkGoing W) x) h
all-kept (CarryOut W i ∷ cs) x h = all-kept cs (made_by (CarryOut W i) x) h
all-kept (RemoveWork W ∷ cs) x h = all-kept cs (made_by (RemoveWork W) x) h
all-kept (AddFlag flag ∷ cs) x h = absurd (true≢false (sym h))
all-kept (DropFlag T ∷ cs) x h = absurd (true≢false (sym h))

more-named : (xs : List Transaction) (T : Tid) (o : Option FlagState) (flags : Tid → Option FlagState) → named_at T xs ≡ true → AreNamed xs flags → AreNamed xs (at_tid flags T o)
more-named xs T o flags here named U h = let t = tid_tells T U in let old = named U in grind (arith, h)

less-named : (xs : List Transaction) (T : Tid) (flags : Tid → Option FlagState) → AreNamed xs flags → AreNamed xs (at_tid flags T None)
less-named xs T flags named U h = let old = named U in grind (arith, h)

more-small : (n : ℕ) (T : Tid) (f : FlagState) (flags : Tid → Option FlagState) → is_few n f.works ≡ true → AreSmallFlags n flags → AreSmallFlags n (at_tid flags T (Some f))
more-small n T f flags here small U g h = let old = small U g in grind (arith, h)

less-small : (n : ℕ) (T : Tid) (flags : Tid → Option FlagState) → AreSmallFlags n flags → AreSmallFlags n (at_tid flags T None)
less-small n T flags small U g h = let old = small U g in grind (arith, h)

-- flags that are of a table, after changes that fit it
abbrev OfTable : ℕ → List Transaction → StableState → Type 0
OfTable n xs x = AreNamed xs x.flags × AreSmallFlags n x.flags

changed-flags : (n : ℕ) (xs : List Transaction) (c : Change) (x : StableState) → flags_fit n xs (c ∷ []) ≡ true → OfTable n xs x → OfTable n xs (made_by c x)
changed-flags n xs (AddFlag flag) x h of = (more-named xs flag.tid _ x.flags (grind (arith, h)) of.0, more-small n flag.tid _ x.flags (grind (arith, h)) of.1)
changed-flags n xs (DropFlag T) x h of = (less-named xs T x.flags of.0, less-small n T x.flags of.1)
changed-flags n xs (AddReady head list reads) x h of = of
changed-flags n xs (MarkGoing W) x h of = of
changed-flags n xs (CarryOut W i) x h of = of
changed-flags n xs (RemoveWork W) x h of = of

prefix-flags : (n : ℕ) (xs : List Transaction) (changes : List Change) (j : ℕ) (x : StableState) → flags_fit n xs changes ≡ true → OfTable n xs x → OfTable n xs (made_all (take j changes) x)
prefix-flags n xs [] zero x h of = of
prefix-flags n xs [] (suc j) x h of = of
prefix-flags n xs (c ∷ cs) zero x h of = of
prefix-flags n xs (c ∷ cs) (suc j) x h of = prefix-flags n xs cs j (made_by c x) (grind (arith, h)) (changed-flags n xs c x (grind (arith, h)) of)

all-flags : (n : ℕ) (xs : List Transaction) (changes : List Change) (x : StableState) → flags_fit n xs changes ≡ true → OfTable n xs x → OfTable n xs (made_all changes x)
all-flags n xs [] x h of = of
all-flags n xs (c ∷ cs) x h of = all-flags n xs cs (made_by c x) (grind (arith, h)) (changed-flags n xs c x (grind (arith, h)) of)

-- ---- rows

-- what the rows of a worker ask of its table
pub orderly : {t : WorkerTable} {k : Tickets} {stored : WorkId → Option Prepared} → TableFact t k stored → AreOrderly t k stored
orderly fact = record { rising = fact.rising; before = fact.before; live = fact.live }

-- A row of a server: what it leaves where it is done and where it is stopped, and what its messages and going works weigh.
-- Where it takes a message of a weight they weigh less; a background step leaves no more than there was.
pub record RowSizes (n : ℕ) (m : Memory) (x : StableState) (light less weight_of : ℕ) (row : RowOutcome Memory) : Type 0 where
  pub now : TableSizes n row.table (made_all row.changes x)
  pub stops : (j : ℕ) → StoredSizes n (made_all (take j row.changes) x)
  pub sent : weigh_all row.messages + 1 ≤ light
  pub goes : weigh_all row.messages + goings_at (made_all row.changes x) (Some row.table) + less ≤ goings_at x (Some m) + weight_of

module _ (n : ℕ) (at_most : n ≤ 8) (m : Memory) (x : StableState) (sizes : TableSizes n m x) (table : TableFact m.worker m.tickets x.works) where
  of-worker : (light less weight_of : ℕ) (row : RowOutcome WorkerTable) → RowKeeps x m.tickets row → length row.table ≤ 64 → keep_flags row.changes ≡ true → weigh_all row.messages + 1 ≤ light
      → weigh_all row.messages + goings (made_all row.changes x).works row.table + less ≤ goings x.works m.worker + weight_of → RowSizes n m x light less weight_of (of_worker m row)
  of-worker light less weight_of row keeps few same sent goes = record {
    now = record {
      works = few;
      transactions = sizes.transactions;
      stages = sizes.stages;
      flags = subst (λ f. AreFlagsOf m.coordinator.transactions f) (sym (all-kept row.changes x same)) sizes.flags;
      small = subst (λ f. AreSmallFlags n f) (sym (all-kept row.changes x same)) sizes.small;
    };
    stops = λ j. by j (keeps.few j);
    sent = sent;
    goes = goes;
  }
    where
      by : (j : ℕ) → (take j row.changes ≡ []) ⊎ (take j row.changes ≡ row.changes) → StoredSizes n (made_all (take j row.changes) x)
      by j (inl e) = subst (λ (cs : List Change). StoredSizes n (made_all cs x)) (sym e) (up-stored n m x sizes table)
      by j (inr e) = subst (λ (cs : List Change). StoredSizes n (made_all cs x)) (sym e)
          (stored-sizes n row.table m.coordinator.transactions (made_all row.changes x) few keeps.table.live sizes.transactions
          (subst (λ f. AreNamed m.coordinator.transactions f) (sym (all-kept row.changes x same)) (λ T h. committed-named T m.coordinator.transactions (sizes.flags T h)))
          (subst (λ f. AreSmallFlags n f) (sym (all-kept row.changes x same)) sizes.small))

  old : OfTable n m.coordinator.transactions x
  old = (λ T h. committed-named T m.coordinator.transactions (sizes.flags T h), sizes.small)

  of-coordinator : (weight_of : ℕ) (row : RowOutcome CoordinatorTable) → are_of_flags row.changes ≡ true → CoordinatorFits n x m.coordinator weight_of row → RowSizes n m x weight_of 1 weight_of (of_coordinator m row)
  of-coordinator weight_of row of fits = record {
    now = record {
      works = sizes.works;
      transactions = fits.few;
      stages = fits.small;
      flags = fits.flags;
      small = (all-flags n m.coordinator.transactions row.changes x fits.fits old).1;
    };
    stops = λ j. stored-sizes n m.worker m.coordinator.transactions (made_all (take j row.changes) x) sizes.works
        (subst (λ f. (W : WorkId) → is_some (f W) ≡ true → is_some (work_at W m.worker) ≡ true) (sym (flags-keep row.changes j x of)) table.live)
        sizes.transactions (prefix-flags n m.coordinator.transactions row.changes j x fits.fits old).0 (prefix-flags n m.coordinator.transactions row.changes j x fits.fits old).1;
    sent = fits.sent;
    goes = let light = fits.sent in subst (λ f. weigh_all row.messages + goings f m.worker + 1 ≤ goings x.works m.worker + weight_of) (sym (flags-all row.changes x of)) (omega (arith, light));
  }

  pub row-sizes : (room : Room) (message : Message) → is_small n message ≡ true → RowSizes n m x (weight message) 1 (weight message) (server_row m x room message)
  row-sizes room message small = row-either (RowSizes n m x (weight message) 1 (weight message)) m x room message
      (let fits = worker-fits (storage_of m x room) m.tickets m.worker message (orderly table) sizes.works in
      of-worker (weight message) 1 (weight message) (worker_row m.worker (storage_of m x room) m.tickets message) (worker-keeps (storage_of m x room) m.tickets m.worker table message) fits.few fits.flags fits.sent fits.goes)
      (of-coordinator (weight message) (coordinator_row m.coordinator room.free.records m.tickets message) (coordinator-aside m.coordinator room.free.records m.tickets message).flags
      (coordinator-fits n at_most x m.coordinator m.tickets sizes.transactions sizes.stages sizes.flags room.free.records message small))

  pub close-sizes : RowSizes n m x 1 1 1 (of_coordinator m (close_clients_row m.coordinator m.tickets))
  close-sizes = of-coordinator 1 (close_clients_row m.coordinator m.tickets) (close-aside m.coordinator m.tickets).flags (close-fits n at_most x m.coordinator m.tickets sizes.transactions sizes.stages sizes.flags)

  pub step-sizes : (room : Room) (row : RowOutcome Memory) → server_step m x room ≡ Some row → RowSizes n m x 2 0 0 row
  step-sizes room row h = row-of-step (RowSizes n m x 2 0 0) m x room row h
      (λ r e. let fits = step-fits (storage_of m x room) m.tickets m.worker r sizes.works e in
      of-worker 2 0 0 r (step-keeps (storage_of m x room) m.tickets m.worker table r e) fits.few fits.flags (let l = fits.sent in omega (arith, l)) (let g = fits.goes in omega (arith, g)))

-- ---- a restart

restored-few : (x : StableState) (Ws : List WorkId) → length (restored_worker x Ws) ≤ length Ws
restored-few x [] = omega arith
restored-few x (W ∷ Ws) = by (x.works W) (restored-few x Ws)
  where
    by : (o : Option Prepared) → length (restored_worker x Ws) ≤ length Ws → length (restored_work W o ++ restored_worker x Ws) ≤ suc (length Ws)
    by None h = omega (arith, h)
    by (Some p) h = omega (arith, h)

restored-tids : (x : StableState) (Ts : List Tid) → length (restored_transactions x Ts) ≤ length Ts
restored-tids x [] = omega arith
restored-tids x (T ∷ Ts) = by (x.flags T) (restored-tids x Ts)
  where
    by : (o : Option FlagState) → length (restored_transactions x Ts) ≤ length Ts → length (restored_transaction T o ++ restored_transactions x Ts) ≤ suc (length Ts)
    by None h = omega (arith, h)
    by (Some f) h = omega (arith, h)

restored-small : (n : ℕ) (x : StableState) (Ts : List Tid) → AreSmallFlags n x.flags → are_small_stages n (restored_transactions x Ts) ≡ true
restored-small n x [] h = refl
restored-small n x (T ∷ Ts) h = by (x.flags T) refl (restored-small n x Ts h)
  where
    by : (o : Option FlagState) → x.flags T ≡ o → are_small_stages n (restored_transactions x Ts) ≡ true → are_small_stages n (restored_transaction T o ++ restored_transactions x Ts) ≡ true
    by None e again = again
    by (Some f) e again = let small = h T f e in grind (arith, again)

restored-flags : (x : StableState) (U : Tid) (Ts : List Tid) → list_any (λ (T : Tid). tid_eq T U) Ts ≡ true → is_some (x.flags U) ≡ true → committed_at U (restored_transactions x Ts) ≡ true
restored-flags x U [] h is = absurd (true≢false (sym h))
restored-flags x U (T ∷ Ts) h is = by (x.flags T) refl (restored-flags x U Ts) (tid_tells T U)
  where
    by : (o : Option FlagState) → x.flags T ≡ o → (list_any (λ (T : Tid). tid_eq T U) Ts ≡ true → is_some (x.flags U) ≡ true → committed_at U (restored_transactions x Ts) ≡ true)
        → ((tid_eq T U ≡ true) × (T ≡ U)) ⊎ ((tid_eq T U ≡ false) × (T ≢ U)) → committed_at U (restored_transaction T o ++ restored_transactions x Ts) ≡ true
    by None e again (inl t) = absurd (true≢false (sym is ∙ ap (λ (V : Tid). is_some (x.flags V)) (sym t.1) ∙ ap is_some e))
    by None e again (inr t) = again (grind (arith, h, t.0)) is
    by (Some f) e again (inl t) = rw t.0 refl
    by (Some f) e again (inr t) = rw t.0 (again (grind (arith, h, t.0)) is)

pub restart-sizes : (n : ℕ) (s : ServerNo) (x : StableState) (Ws : List WorkId) (Ts : List Tid) → AreNames work_eq work_before x.works Ws → AreNames tid_eq tid_before x.flags Ts → StoredSizes n x → TableSizes n (restored s x Ws Ts) x
restart-sizes n s x Ws Ts works tids h = record {
  works = let a = restored-few x Ws in let b = named-few work_eq work_before work-laws not-before x.works Ws works h.works in omega (arith, a, b);
  transactions = let a = restored-tids x Ts in let b = named-few tid_eq tid_before tid-laws tids-apart x.flags Ts tids h.flags in omega (arith, a, b);
  stages = restored-small n x Ts h.small;
  flags = λ T e. restored-flags x T Ts (tids.each T ∙ e) e;
  small = h.small;
}
