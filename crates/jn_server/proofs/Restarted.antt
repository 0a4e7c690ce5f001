-- A server that comes up is the restarted one of the whole system.
use Rattle.jn_server.proofs.Common.{◌≡◌, ◌⊎◌, inl, inr, ℕ, suc, ◌+◌, ◌≤◌, ◌<◌, ◌^◌, Bool, true, false, List, [], ◌∷◌, ◌++◌, Option, Some, None, is_some, refl, sym, ◌∙◌, ap, subst, arith, true≢false, ◌&&◌, ◌||◌, list_all, list_any, nat_tests, ServerNo, Tickets, Tid, WorkId, tid_eq, work_eq, tid_tells, work_before, is_after, Counts, StableState, Prepared, FlagState, Change, Pick, restored_worker, restored_work, work_from, restored_coordinator, restored_transactions, restored_transaction, tid_from, seen_in_flags, seen_in_flag, is_in, StorageView, state, StoreView, found_on, WorkerView, Remembered, table_of, rises, are_above, are_before, restored, ServerView, memory_of, AreTables, IsRestarted, IsNotRestarted, IsWithin, Composes, fun_ext}
use Rattle.jn_system.specs.WholeSystem.Steps.{are_rising, tid_before}
use Rattle.jn_recovery.specs.Loading.{IsLoaded, IsDown, Recovering, IsSameOrNext}
use Rattle.jn_recovery.specs.declared.load.Found.{Found}
use Rattle.jn_recovery.specs.declared.load.DownCause.{DownCause}
use Rattle.jn_recovery.specs.declared.load.DownCause.TheVariants.{Stopped, Memory, EpochsUsedUp}
use Rattle.jn_worker.specs.Restoring.{comes_before, names_rise}
use Rattle.jn_transactions.specs.Listed.{name_below}

-- ---- any number of restarts

-- the same state in the same epoch or the next
within-next : (x : StableState) (changes : List Change) (y z : StableState) → IsSameOrNext y z → IsWithin x changes y → IsWithin x changes z
within-next x changes y z s h = record { left = h.left; is_after = s.same ∙ ap (λ (u : StableState). record u { epoch = z.epoch }) h.is_after }

next-least : (low : ℕ) (y z : StableState) → IsSameOrNext y z → low ≤ y.epoch → low ≤ z.epoch
next-least low y z s h = by s.epoch
  where
    by : (z.epoch ≡ y.epoch) ⊎ (z.epoch ≡ suc y.epoch) → low ≤ z.epoch
    by (inl e) = omega (arith, e, h)
    by (inr e) = omega (arith, e, h)

next-most : (high : ℕ) (y z : StableState) → IsSameOrNext y z → y.epoch ≤ high → z.epoch ≤ high + 1
next-most high y z s h = by s.epoch
  where
    by : (z.epoch ≡ y.epoch) ⊎ (z.epoch ≡ suc y.epoch) → z.epoch ≤ high + 1
    by (inl e) = omega (arith, e, h)
    by (inr e) = omega (arith, e, h)

pub composed : (before after : Pick → StableState) → ((c : Pick) → (b : Pick) × IsSameOrNext (before b) (after c)) → Composes before after
composed before after each = record {
  within = λ x changes h c. let (b, s) = each c in within-next x changes (before b) (after c) s (h b);
  between = λ low high h. record {
    least = λ c. let (b, s) = each c in next-least low (before b) (after c) s (h.least b);
    most = λ c. let (b, s) = each c in next-most high (before b) (after c) s (h.most b);
  };
}

pub not_restarted : (server : ServerNo) (g : Counts) (v : StoreView) (cause : DownCause) (w : StoreView) → IsDown server g v cause w → IsNotRestarted server g v cause w
not_restarted server g v cause w h = record { down = h; composes = composed (found_on g v) (found_on g w) h.recovering.each }

-- ---- the names, as the whole system lists them

rising-works : (Ws : List WorkId) → names_rise Ws ≡ true → are_rising work_before Ws ≡ true
rising-works [] h = refl
rising-works (W ∷ Ws) h = let again = rising-works Ws in let first = all-before W Ws in grind (arith, h)
  where
    all-before : (W : WorkId) (Vs : List WorkId) → comes_before W Vs ≡ true → list_all (λ b. work_before W b) Vs ≡ true
    all-before W [] h = refl
    all-before W (V ∷ Vs) h = let again = all-before W Vs in grind (arith, h)

-- the flags of these names are there
abbrev Flagged : StableState → List Tid → Type 0
Flagged x Ts = (T : Tid) → is_in tid_eq T Ts ≡ true → is_some (x.flags T) ≡ true

own : (T : Tid) (b : Bool) → (tid_eq T T || b) ≡ true
own T b = grind (arith, tid_tells T T)

or-later : (a b : Bool) → b ≡ true → (a || b) ≡ true
or-later a b h = grind arith

all-above : (x : StableState) (T : Tid) (Us : List Tid) → Flagged x Us → are_above T (restored_transactions x Us) ≡ true → list_all (λ b. tid_before T b) Us ≡ true
all-above x T [] f h = refl
all-above x T (U ∷ Us) f h = by (x.flags U) (f U (own U (is_in tid_eq U Us))) h (all-above x T Us (λ V k. f V (or-later (tid_eq U V) (is_in tid_eq V Us) k)))
  where
    by : (o : Option FlagState) → is_some o ≡ true → are_above T (restored_transaction U o ++ restored_transactions x Us) ≡ true
        → (are_above T (restored_transactions x Us) ≡ true → list_all (λ b. tid_before T b) Us ≡ true) → (tid_before T U && list_all (λ b. tid_before T b) Us) ≡ true
    by None e k again = absurd (true≢false (sym e))
    by (Some flag) e k again = grind (arith, k)

rising-tids : (x : StableState) (Ts : List Tid) → Flagged x Ts → rises (restored_transactions x Ts) ≡ true → are_rising tid_before Ts ≡ true
rising-tids x [] f h = refl
rising-tids x (T ∷ Ts) f h = by (x.flags T) (f T (own T (is_in tid_eq T Ts))) h (all-above x T Ts later) (rising-tids x Ts later)
  where
    later : Flagged x Ts
    later V k = f V (or-later (tid_eq T V) (is_in tid_eq V Ts) k)

    by : (o : Option FlagState) → is_some o ≡ true → rises (restored_transaction T o ++ restored_transactions x Ts) ≡ true
        → (are_above T (restored_transactions x Ts) ≡ true → list_all (λ b. tid_before T b) Ts ≡ true)
        → (rises (restored_transactions x Ts) ≡ true → are_rising tid_before Ts ≡ true) → (list_all (λ b. tid_before T b) Ts && are_rising tid_before Ts) ≡ true
    by None e k first again = absurd (true≢false (sym e))
    by (Some flag) e k first again = grind (arith, k)

-- ---- an epoch changes neither table

worker-same : (x : StableState) (n : ℕ) (Ws : List WorkId) → restored_worker (record x { epoch = n }) Ws ≡ restored_worker x Ws
worker-same x n [] = refl
worker-same x n (W ∷ Ws) = ap (λ t. restored_work W (x.works W) ++ t) (worker-same x n Ws)

transactions-same : (x : StableState) (n : ℕ) (Ts : List Tid) → restored_transactions (record x { epoch = n }) Ts ≡ restored_transactions x Ts
transactions-same x n [] = refl
transactions-same x n (T ∷ Ts) = ap (λ t. restored_transaction T (x.flags T) ++ t) (transactions-same x n Ts)

-- ---- new names come after those that are there

after-works : (x : StableState) (N : WorkId) (Ws : List WorkId) → ((W : WorkId) → is_some (x.works W) ≡ true → work_before W N ≡ true) → is_after N (restored_worker x Ws) ≡ true
after-works x N [] h = refl
after-works x N (W ∷ Ws) h = by (x.works W) (h W) (after-works x N Ws h)
  where
    by : (o : Option Prepared) → (is_some o ≡ true → work_before W N ≡ true) → is_after N (restored_worker x Ws) ≡ true → is_after N (restored_work W o ++ restored_worker x Ws) ≡ true
    by None k again = again
    by (Some p) k again = let one = k refl in grind (arith, one, again)

after-tids : (x : StableState) (N : Tid) (Ts : List Tid) → ((T : Tid) → is_some (x.flags T) ≡ true → name_below T N ≡ true) → are_before (restored_transactions x Ts) N ≡ true
after-tids x N [] h = refl
after-tids x N (T ∷ Ts) h = by (x.flags T) (h T) (after-tids x N Ts h)
  where
    by : (o : Option FlagState) → (is_some o ≡ true → name_below T N ≡ true) → are_before (restored_transactions x Ts) N ≡ true → are_before (restored_transaction T o ++ restored_transactions x Ts) N ≡ true
    by None k again = again
    by (Some f) k again = let one = k refl in grind (arith, one, again)

-- a name of an earlier epoch comes before a new one
earlier-work : (W : WorkId) (n : ℕ) → W.epoch < n → work_before W (record { server = W.server; epoch = n; ticket = 0 }) ≡ true
unfolding work_before
earlier-work W n h = grind (arith, nat_tests, h)

earlier-tid : (T : Tid) (n : ℕ) → T.epoch < n → name_below T (record { server = T.server; epoch = n; ticket = 0 }) ≡ true
earlier-tid T n h = grind (arith, nat_tests, h)

-- without memory for the tables the storage goes down again
pub no_tables : (server : ServerNo) (g : Counts) (v : StoreView) (told : Found) (w : StorageView) → IsLoaded server g v told w → (store : StoreView) → store ≡ w.store → IsDown server g v Memory store
no_tables server g v told w l store e = record {
  some = l.before;
  recovering = subst (Recovering server g v l.before) (sym e) l.recovering;
  stop = λ is. absurd (not-stopped is);
  calm = λ is. not-stopped;
  used_up = λ is. absurd (not-used is);
  memory = λ is. record { read = l.before; before_last = last _ _ (l.epoch ∙ ap (λ (z : StableState). z.epoch) (l.found (λ n. false))) l.epoch_fits };
}
  where
    not-stopped : Memory ≡ Stopped → ⊥
    not-stopped is = cc

    not-used : Memory ≡ EpochsUsedUp → ⊥
    not-used is = cc

    last : (a b : ℕ) → a ≡ suc b → a < 2 ^ 32 → b < 4294967295
    last a b h k = omega (arith, h, k)

module _ (server : ServerNo) (g : Counts) (v : StoreView) (told : Found) (w : StorageView) (l : IsLoaded server g v told w) (t : WorkerView) (r : Remembered) (tables : AreTables w t r) where
  abbrev x : StableState
  x = found_on g v l.before

  abbrev k : Tickets
  k = record { server = w.accounts.server; epoch = told.epoch; next = 0 }

  abbrev up : ServerView
  up = record { storage = w; worker = t; coordinator = r; tickets = k }

  now : state w ≡ record x { epoch = suc x.epoch }
  now = l.found (λ n. false)

  epoch-is : told.epoch ≡ x.epoch + 1
  epoch-is = let e = l.epoch ∙ ap (λ (z : StableState). z.epoch) now in let n = next x.epoch in e ∙ n
    where
      next : (a : ℕ) → suc a ≡ a + 1
      next a = omega arith

  work-first : (W : WorkId) → is_some ((state w).works W) ≡ true → work_before W (work_from k) ≡ true
  work-first W h = let given = l.recovered.serving.orderly.works_given W h in
      subst (λ (z : ServerNo). work_before W (record { server = z; epoch = told.epoch; ticket = 0 }) ≡ true) given.own
      (subst (λ n. work_before W (record { server = W.server; epoch = n; ticket = 0 }) ≡ true) (sym l.epoch) (earlier-work W (state w).epoch (l.works_earlier W h)))

  tid-first : (T : Tid) → is_some ((state w).flags T) ≡ true → name_below T (tid_from k) ≡ true
  tid-first T h = let given = l.recovered.serving.orderly.flags_given T h in
      subst (λ (z : ServerNo). name_below T (record { server = z; epoch = told.epoch; ticket = 0 }) ≡ true) given.own
      (subst (λ n. name_below T (record { server = T.server; epoch = n; ticket = 0 }) ≡ true) (sym l.epoch) (earlier-tid T (state w).epoch (l.flags_earlier T h)))

  table-is : t.table ≡ restored_worker x tables.works.names
  table-is = tables.works.row ∙ ap (λ (z : StableState). restored_worker z tables.works.names) now ∙ worker-same x (suc x.epoch) tables.works.names

  seen-same : (n : ℕ) (Ts : List Tid) → seen_in_flags (record x { epoch = n }) Ts ≡ seen_in_flags x Ts
  seen-same n Ts = fun_ext (λ c. by c Ts)
    where
      by : (c : _) (Ts : List Tid) → seen_in_flags (record x { epoch = n }) Ts c ≡ seen_in_flags x Ts c
      by c [] = refl
      by c (T ∷ Ts) = ap (seen_in_flag c (x.flags T)) (by c Ts)

  coordinator-is : table_of r ≡ restored_coordinator x tables.flags.names
  coordinator-is = tables.flags.table ∙ ap (λ (z : StableState). restored_coordinator z tables.flags.names) now
      ∙ ap (λ xs. record { transactions = xs; seen = seen_in_flags (record x { epoch = suc x.epoch }) tables.flags.names }) (transactions-same x (suc x.epoch) tables.flags.names)
      ∙ ap (λ f. record { transactions = restored_transactions x tables.flags.names; seen = f }) (seen-same (suc x.epoch) tables.flags.names)

  transactions-are : r.transactions ≡ restored_transactions x tables.flags.names
  transactions-are = ap (λ (z : _). z.transactions) coordinator-is

  -- the listings, of what was found before
  works-all : (W : WorkId) → is_in work_eq W tables.works.names ≡ is_some (x.works W)
  works-all W = tables.works.are_for.all.all W ∙ ap (λ (z : StableState). is_some (z.works W)) now

  flags-all : (T : Tid) → is_in tid_eq T tables.flags.names ≡ is_some (x.flags T)
  flags-all T = tables.flags.listing.all T ∙ ap (λ (z : StableState). is_some (z.flags T)) now

  any-in : {A : Type 0} (eq : A → A → Bool) (a : A) (xs : List A) → list_any (λ b. eq b a) xs ≡ is_in eq a xs
  any-in eq a [] = refl
  any-in eq a (y ∷ ys) = ap (λ b. eq y a || b) (any-in eq a ys)

  there-work : (W : WorkId) → is_some (x.works W) ≡ true → is_some ((state w).works W) ≡ true
  there-work W h = ap (λ (z : StableState). is_some (z.works W)) now ∙ h

  there-flag : (T : Tid) → is_some (x.flags T) ≡ true → is_some ((state w).flags T) ≡ true
  there-flag T h = ap (λ (z : StableState). is_some (z.flags T)) now ∙ h

  pub restarted : IsRestarted server g v told up
  restarted = record {
    loaded = l;
    works = tables.works.names;
    tids = tables.flags.names;
    work_names = record { each = λ W. any-in work_eq W tables.works.names ∙ works-all W; rising = rising-works tables.works.names tables.works.are_for.rising };
    flag_names = record {
      each = λ T. any-in tid_eq T tables.flags.names ∙ flags-all T;
      rising = rising-tids x tables.flags.names (λ T h. sym (flags-all T) ∙ h) (subst (λ xs. rises xs ≡ true) transactions-are tables.flags.fits.rising);
    };
    remembers = ap (λ z. record (memory_of up) { worker = z }) table-is
        ∙ ap (λ z. record (memory_of up) { worker = restored_worker x tables.works.names; coordinator = z }) coordinator-is
        ∙ ap (λ n. record (restored server x tables.works.names tables.flags.names) { tickets = record { server = w.accounts.server; epoch = n; next = 0 }; next = w.accounts.next }) epoch-is
        ∙ ap (λ s. record (restored server x tables.works.names tables.flags.names) { tickets = record { server = s; epoch = x.epoch + 1; next = 0 }; next = w.accounts.next }) l.server_is
        ∙ ap (λ f. record (restored server x tables.works.names tables.flags.names) { next = f }) (fun_ext (λ W. l.recovered.next W));
    serves = record {
      works = tables.works.fits;
      transactions = tables.flags.fits;
      works_before = record {
        server = refl;
        epoch = l.epoch;
        live = subst (λ z. is_after (work_from k) z ≡ true) (sym table-is) (after-works x (work_from k) tables.works.names (λ W h. work-first W (there-work W h)));
        rubbish = λ W h. absurd (true≢false (sym h ∙ ap (is_in work_eq W) l.recovered.rubbish));
      };
      transactions_before = record {
        server = refl;
        epoch = l.epoch;
        after = subst (λ z. are_before z (tid_from k) ≡ true) (sym transactions-are) (after-tids x (tid_from k) tables.flags.names (λ T h. tid-first T (there-flag T h)));
      };
    };
    composes = composed (found_on g v) w.found (λ c. (l.before, record { same = l.found c ∙ sym (ap (λ n. record x { epoch = n }) (ap (λ (z : StableState). z.epoch) (l.found c))); epoch = inr (ap (λ (z : StableState). z.epoch) (l.found c)) }));
  }
