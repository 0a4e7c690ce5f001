-- Steps of one server on which nothing is stored, over its device.
use Rattle.jn_page_state.specs.Puts.{IsFrontClean, IsFrontWhole}
use Rattle.jn_wrong.proofs.Common.{MapsAreClean, maps_named, Pages, most_calls, ◌≡◌, ◌<◌, ◌≤◌, ◌+◌, ◌-◌, ℕ, Bool, true, false, if◌then◌else◌, List, [], refl, sym, ◌∙◌, ap, subst, arith, is_some, server_eq, ServerNo, no_files, World, Memory, run, IsRun, Chance, Deed, Devices, Alone, Befalls, IsCalled, IsRecovery, IsUsed, rubbish_on, pages_of, setup, s0, blank, DeviceState, PageState, Armed, disarmed, found_on, pairs_view, Pick, stable, StableState, closed_world, AreImages, replicate, count_by, pool_on, heads_on, IsRecoverable, Head, FreeHead, Need, Record, Free, page_count, promised, is_free_head, promised_heads, free_on, has_rubbish, beside_by, beside_at, left_by_steps, AreCounted, CountsAll, IsFreshDevice, free_count, rubbish_count, Beside, MapPlaces, no_maps, maps_in, fun_ext, pick_read, pages_by, Step, WorkId}
use Rattle.jn_recovery.specs.Pages.{supplied_on}
use Rattle.jn_device.specs.Happens.{none}
use Rattle.jn_wrong.proofs.NewDevice.{Tally, device, good_at, pages_at, OthersGood, IsBlankOn, blank-on, halves-equal, thrice, thrice-least, mends}
use Rattle.jn_wrong.proofs.Pairs.{the_counts}
use Rattle.jn_wrong.proofs.Unused.{so_many, all-free as all-unused}

-- ---- devices

-- what the run begins with, and stays at servers that aren't there
abbrev pub new_device : DeviceState
new_device = device (good_at 0) true [] (record { calls = 2; puts = 2; stops = 0 })

abbrev pub at_s0 : DeviceState → Devices
at_s0 d q = if server_eq s0 q then d else new_device

pub new-blank : IsBlankOn 0 new_device
new-blank = blank-on 0 (omega arith) (λ q. true) (λ q. 0) true [] (record { calls = 2; puts = 2; stops = 0 })

abbrev numbered : ℕ → ServerNo
numbered n = record { 0 = n }

-- of one server
pub one-there : (P : ServerNo → Type 0) → P s0 → (q : ServerNo) → q.0 < 1 → P q
one-there P p q lt = subst P (ap numbered (first q.0 lt)) p
  where
    first : (n : ℕ) → n < 1 → 0 ≡ n
    first n lt = omega (arith, lt)

no-rubbish : (d : DeviceState) (a : ℕ) → IsBlankOn a d → (q : ServerNo) → rubbish_on (setup 1) (at_s0 d) q ≡ false
no-rubbish d a is q = by (server_eq s0 q)
  where
    by : (b : Bool) → has_rubbish (pool_on the_counts (pages_of (if b then d else new_device))) ≡ false
    by true = ap (λ (l : List Record). has_rubbish l) is.pool
    by false = ap (λ (l : List Record). has_rubbish l) new-blank.pool

pub new-images : AreImages (setup 1) no_files (λ q. 0) (at_s0 new_device)
new-images = record {
  its = λ q u far. refl;
  fresh = λ q lt. one-there (λ q. IsFreshDevice (page_count the_counts) (at_s0 new_device q)) (record { count = refl; waiting = refl; told = refl; calls = omega arith }) q lt;
  found = λ q c lt. one-there (λ q. (closed_world 1 no_files (λ q. 0)).found q c ≡ found_on the_counts (pairs_view (at_s0 new_device q)) c) (sym (new-blank.found c)) q lt;
  recoverable = λ q lt. one-there (λ q. IsRecoverable q the_counts (pairs_view (at_s0 new_device q))) new-blank.recoverable q lt;
}

-- ---- any step

counted-blank : (epoch : ℕ) → AreCounted the_counts (blank epoch) (replicate 32 Free) (replicate 16 FreeHead)
counted-blank epoch = record {
  works = [];
  flags = [];
  files = [];
  works_all = record { different = refl; all = λ W. refl };
  flags_all = record { different = refl; all = λ T. refl };
  files_all = record { different = refl; all = λ f. refl };
  records_all = refl;
  heads_all = refl;
}

counted : (epoch : ℕ) (d : DeviceState) (y : StableState) → IsBlankOn epoch d → y ≡ blank epoch → CountsAll the_counts y (pages_of d)
counted epoch d y is e =
    subst (λ (z : StableState). AreCounted the_counts z (pool_on the_counts (pages_of d)) (heads_on the_counts (pages_of d))) (sym e)
    (subst (λ (l : List Record). AreCounted the_counts (blank epoch) l (heads_on the_counts (pages_of d))) (sym is.pool)
    (subst (λ (l : List Head). AreCounted the_counts (blank epoch) (replicate 32 Free) l) (sym is.heads) (counted-blank epoch)))

-- nothing stands beside the stable state
abbrev pub no_beside : Beside
no_beside = record { rubbish = 0; maps = no_maps; supplied = λ W. [] }

abbrev beside_in : List Record → List Head → Beside
beside_in pool heads = record { rubbish = rubbish_count pool; maps = maps_in heads; supplied = supplied_on pool }

pub none-named : maps_in (replicate 16 FreeHead) ≡ no_maps
none-named = fun_ext (λ f. fun_ext (λ j. refl))

none-supplied : supplied_on (replicate 32 Free) ≡ (λ W. [])
none-supplied = fun_ext (λ W. refl)

none-beside : (d : DeviceState) (epoch : ℕ) → IsBlankOn epoch d → (c : Pick) → beside_by (setup 1) (at_s0 d) s0 c ≡ no_beside
none-beside d epoch is c = ap (λ (pages : Pages). beside_in (pool_on the_counts pages) (heads_on the_counts pages)) (is.same c)
    ∙ ap (λ (l : List Record). beside_in l (heads_on the_counts (pages_of d))) is.pool
    ∙ ap (λ (l : List Head). beside_in (replicate 32 Free) l) is.heads
    ∙ ap (λ (maps : MapPlaces). record { rubbish = 0; maps = maps; supplied = supplied_on (replicate 32 Free) }) none-named
    ∙ ap (λ (supplied : WorkId → List Bool). record { rubbish = 0; maps = no_maps; supplied = supplied }) none-supplied

-- so steps lead from there
abbrev pub left_blank : World → List Step → Beside
left_blank w steps = left_by_steps (λ c. no_beside) w s0 steps no_beside

module _ (h : Chance) (deed : Deed) (w : World) (d e : DeviceState) (a b : ℕ) (was : IsBlankOn a d) (is : IsBlankOn b e) (rubbish : (q : ServerNo) → h.rubbish q ≡ false) (steps : IsRun deed.steps w) (used : IsUsed (setup 1) h deed.device w (run deed.steps w) (at_s0 d) (at_s0 e))
    (found : (c : Pick) → (run deed.steps w).found s0 c ≡ blank b) (left : left_blank w deed.steps ≡ no_beside) where
  as-left : beside_at (setup 1) (at_s0 e) s0 ≡ left_by_steps (beside_by (setup 1) (at_s0 d) s0) w s0 deed.steps (beside_at (setup 1) (at_s0 d) s0)
  as-left = none-beside e b is (λ n. false)
      ∙ sym (ap (λ (reads : Pick → Beside). left_by_steps reads w s0 deed.steps (reads (λ n. false))) (fun_ext (none-beside d a was)) ∙ left)

  pub befalls : Befalls (setup 1) h deed w (at_s0 d) (at_s0 e)
  befalls = record {
    rubbish = λ q. rubbish q ∙ sym (no-rubbish d a was q);
    steps = steps;
    used = used;
    found = λ q c lt. one-there (λ q. (run deed.steps w).found q c ≡ found_on the_counts (pairs_view (at_s0 e q)) c) (found c ∙ sym (is.found c)) q lt;
    left = λ q lt up. one-there (λ q. beside_at (setup 1) (at_s0 e) q ≡ left_by_steps (beside_by (setup 1) (at_s0 d) q) w q deed.steps (beside_at (setup 1) (at_s0 d) q)) as-left q lt;
    counted = λ q lt up. one-there (λ q. CountsAll the_counts (stable ((run deed.steps w).found q)) (pages_of (at_s0 e q))) (counted b e (stable ((run deed.steps w).found s0)) is (found (λ n. false))) q lt;
    recoverable = λ q lt. one-there (λ q. IsRecoverable q the_counts (pairs_view (at_s0 e q))) is.recoverable q lt;
  }

-- ---- what a step does with the device

pub alone : (becomes : DeviceState → DeviceState → Type 0) (d e : DeviceState) → becomes d e → Alone s0 becomes (at_s0 d) (at_s0 e)
alone becomes d e it = record { its = it; others = λ q ne. ap (λ (b : Bool). if b then e else new_device) ne ∙ sym (ap (λ (b : Bool). if b then d else new_device) ne) }

pub disarms : (d : DeviceState) (q : ServerNo) → at_s0 (disarmed d) q ≡ disarmed (at_s0 d q)
disarms d q = by (server_eq s0 q)
  where
    by : (b : Bool) → (if b then disarmed d else new_device) ≡ disarmed (if b then d else new_device)
    by true = refl
    by false = refl

-- it is called, and makes no call
pub uncalled : (most : ℕ) (h : Chance) (pages : ℕ → PageState) (waiting : List Armed) (t : Tally) → h.told ≡ [] → is_some h.stop ≡ false → IsCalled most h (device pages true waiting t) (device pages true waiting t)
uncalled most h pages waiting t told stop = record {
  last = device pages true waiting t;
  happens = none (device pages true waiting t);
  few = omega arith;
  whole = λ c i lt whole. whole;
  told = told;
  stop = stop;
  after = refl;
}

-- all is free
abbrev pub all_free : Need
all_free = record { records = 32; heads = 16; pages = 128 }

pub all-free : (epoch : ℕ) (d : DeviceState) (x : StableState) (m : Memory) → IsBlankOn epoch d → promised m.coordinator.transactions ≡ 0 → promised_heads x m.worker ≡ 0 → all_free ≡ free_on the_counts (pages_of d) x m
all-free epoch d x m is records files = sym (
    all-unused the_counts (pages_of d) (record { records = ap (λ (l : List Record). free_count l) is.pool; heads = ap (λ (l : List Head). count_by is_free_head l) is.heads }) x m
    ∙ ap (λ (n : ℕ). so_many (32 - n) (16 - promised_heads x m.worker) 128) records
    ∙ ap (λ (n : ℕ). so_many 32 (16 - n) 128) files
    )

-- root, records and heads are clean, and whole where all halves are good
pub front-clean : (epoch : ℕ) (good : ℕ → Bool) (fails : ℕ → ℕ) (power : Bool) (waiting : List Armed) (t : Tally) → IsFrontClean the_counts (pairs_view (device (pages_at epoch good fails) power waiting t))
front-clean epoch good fails power waiting t = record {
  root = refl;
  pool = λ i lt. halves-equal epoch (1 + i) (omega (arith, lt));
  heads = λ i lt. halves-equal epoch (1 + 32 + i) (omega (arith, lt));
}

pub front-whole : (epoch : ℕ) (power : Bool) (waiting : List Armed) (t : Tally) → IsFrontWhole the_counts (pairs_view (device (good_at epoch) power waiting t))
front-whole epoch power waiting t = record {
  root = record { both = refl; clean = refl };
  pool = λ i lt. record { both = refl; clean = halves-equal epoch (1 + i) (omega (arith, lt)) };
  heads = λ i lt. record { both = refl; clean = halves-equal epoch (1 + 32 + i) (omega (arith, lt)) };
  maps = λ c d below named. record { both = refl; clean = halves-equal epoch (1 + 32 + 16 + d) (omega (arith, below)) };
}

-- how many map pages heads name there by a pick
abbrev pub named_by : DeviceState → Pick → ℕ
named_by d c = maps_named (heads_on the_counts (pages_by (pairs_view d) c))

-- a recovery may call the device so often, whichever map pages heads name
pub few-so : (m last calls : ℕ) → last ≤ calls + 5 → last ≤ calls + most_calls the_counts m
few-so m last calls few = omega (arith, few)

-- each map page that could be named is clean
pub maps-clean : (epoch : ℕ) (good : ℕ → Bool) (fails : ℕ → ℕ) (power : Bool) (waiting : List Armed) (t : Tally) → MapsAreClean the_counts (pairs_view (device (pages_at epoch good fails) power waiting t))
maps-clean epoch good fails power waiting t = λ c d below named. halves-equal epoch (1 + 32 + 16 + d) (omega (arith, below))

-- the power comes, this half is put anew, and the root with the next epoch
pub recovers-so : (h : Chance) (old epoch p : ℕ) (good : ℕ → Bool) (power : Bool) (fails : ℕ → ℕ) (t : Tally) → p < 354 → OthersGood p good → h.told ≡ [] → is_some h.stop ≡ false
    → IsRecovery s0 the_counts h true (device (pages_at old good fails) power [] t) (device (good_at epoch) true [] (thrice t))
recovers-so h old epoch p good power fails t lt others told stop = record {
  powered = device (pages_at old good (λ q. 0)) true [] t;
  last = device (good_at epoch) true [] (thrice t);
  power = record { count = refl; pages_are = λ q. refl; power_is = refl; waiting = refl; told = refl; calls = refl; puts = refl; stops = refl };
  pick = pick_read h;
  read = λ up. refl;
  called = record {
    last = device (good_at epoch) true [] (thrice t);
    happens = mends old epoch p good t lt others;
    few = few-so (named_by (device (pages_at old good fails) power [] t) (pick_read h)) (thrice t).calls t.calls (let three = thrice-least t in omega (arith, three));
    whole = λ c i lt whole. record { both = refl; clean = halves-equal epoch i lt };
    told = told;
    stop = stop;
    after = refl;
  };
  after = refl;
  front = λ up. front-clean epoch (λ q. true) (λ q. 0) true [] (thrice t);
  maps = λ up. maps-clean epoch (λ q. true) (λ q. 0) true [] (thrice t);
  front_whole = λ up quiet. front-whole epoch true [] (thrice t);
  root = λ up. (epoch, record { first = refl; second = refl });
}
