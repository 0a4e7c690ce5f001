-- What decays, revivals and restarts do to the two halves of a page, of 177: physical pages 5 and 182.
use Rattle.jn_wrong.proofs.Common.{◌≡◌, ◌≤◌, ℕ, ◌+◌, Bool, true, false, List, [], ◌∷◌, ◌++◌, refl, ◌∙◌, ap, not, ◌&&◌, if◌then◌else◌, nat_lt, DeviceState, Counts, Chance, IsRecovery, IsCalled, World, None, arith, ◌*◌, FaultKind, Armed, PageState, decayed, may_decay_at, decay_outside, page_count, put_calls, pairs_view, IsWholePage, s0, IsScrubbed, ServerNo}
use Rattle.std.specs.Prelude.{◌/◌}
use Rattle.jn_device.specs.Events.{Decays, Revives, Arms}
use Rattle.jn_machine.proofs.Called.{called-later}
use Rattle.jn_wrong.proofs.Calls.{IsSpared, calls-spare}
use Rattle.jn_wrong.proofs.Driving.{IsStill}

abbrev pub the_counts : Counts
the_counts = record { pool = 32; heads = 16; leaves = 128 }

-- the device is as it was made: it did the calls of one put at most, no fault waits, and its pages are good
pub record IsWhole (d : DeviceState) : Type 0 where
  pub count : d.count ≡ 354
  pub waiting : d.waiting ≡ []
  pub told : d.told ≡ []
  pub calls : d.calls ≤ put_calls
  pub good : (p : ℕ) → (d.pages p).good ≡ true

-- Half 5 is good or bad and has failed so often; the other one is good and has not failed.
pub record Pair (power good : Bool) (fails : ℕ) (d : DeviceState) : Type 0 where
  pub count : d.count ≡ 354
  pub waiting : d.waiting ≡ []
  pub told : d.told ≡ []
  pub power_is : d.power ≡ power
  pub first : (d.pages 5).good ≡ good
  pub failed : (d.pages 5).fails ≡ fails
  pub second : (d.pages 182).good ≡ true
  pub unfailed : (d.pages 182).fails ≡ 0

-- ---- the power comes, and the device is called

-- both halves are good, whatever they have failed
pub record AreBothGood (d : DeviceState) : Type 0 where
  pub count : d.count ≡ 354
  pub waiting : d.waiting ≡ []
  pub told : d.told ≡ []
  pub first : (d.pages 5).good ≡ true
  pub second : (d.pages 182).good ≡ true

pub both-good : (d : DeviceState) → IsWhole d → AreBothGood d
both-good d h = record { count = h.count; waiting = h.waiting; told = h.told; first = h.good 5; second = h.good 182 }

pub pair-good : (power : Bool) (k : ℕ) (d : DeviceState) → Pair power true k d → AreBothGood d
pair-good power k d h = record { count = h.count; waiting = h.waiting; told = h.told; first = h.first; second = h.second }

-- a half that is good stays so in a restart that brings the server up, and hasn't failed then
recovery-spares : {s : ServerNo} (g : Counts) (h : Chance) (d e : DeviceState) (r : IsRecovery s g h true d e) → d.waiting ≡ [] → (q : ℕ) → (d.pages q).good ≡ true → IsSpared q r.called.last
recovery-spares g h d e r quiet q good = calls-spare q r.powered r.called.last r.called.happens (record {
  waiting = r.power.waiting ∙ quiet;
  power = r.power.power_is;
  good = ap (λ (y : PageState). y.good) (r.power.pages_are q) ∙ good;
  fails = ap (λ (y : PageState). y.fails) (r.power.pages_are q);
})

pub recovery-pairs : {s : ServerNo} (g : Counts) (h : Chance) (d e : DeviceState) → IsRecovery s g h true d e → AreBothGood d → e.power ≡ true → Pair true true 0 e
recovery-pairs g h d e r a lit = record {
  count = ap (λ (f : DeviceState). f.count) is ∙ (let later = called-later _ h r.powered r.last r.called in later.count) ∙ r.power.count ∙ a.count;
  waiting = ap (λ (f : DeviceState). f.waiting) is ∙ (spared 5 a.first).waiting;
  told = ap (λ (f : DeviceState). f.told) is;
  power_is = lit;
  first = ap (λ (f : DeviceState). (f.pages 5).good) is ∙ (spared 5 a.first).good;
  failed = ap (λ (f : DeviceState). (f.pages 5).fails) is ∙ (spared 5 a.first).fails;
  second = ap (λ (f : DeviceState). (f.pages 182).good) is ∙ (spared 182 a.second).good;
  unfailed = ap (λ (f : DeviceState). (f.pages 182).fails) is ∙ (spared 182 a.second).fails;
}
  where
    is : e ≡ record r.called.last { told = [] }
    is = r.after ∙ r.called.after

    spared : (q : ℕ) → (d.pages q).good ≡ true → IsSpared q r.called.last
    spared q good = recovery-spares g h d e r a.waiting q good

-- ---- decays and revivals

module _ (power : Bool) (k : ℕ) (few : nat_lt k 3 ≡ true) (d : DeviceState) (h : Pair power true k d) where
  may-decay : may_decay_at (d.count / 2) d.pages 5 ≡ true
  may-decay = ap (λ (n : ℕ). may_decay_at (n / 2) d.pages 5) h.count
      ∙ ap (λ (n : ℕ). nat_lt n 3 && (d.pages 182).good) h.failed ∙ ap (λ (c : Bool). nat_lt k 3 && c) h.second ∙ ap (λ (c : Bool). c && true) few

  -- a first, second or third failure is allowed
  pub decay-allowed : decay_outside (d.count / 2) d.pages 5 ≡ false
  decay-allowed = ap (λ (c : Bool). (d.pages 5).good && not c) may-decay ∙ ap (λ (c : Bool). c && false) h.first

  pub decay-pairs : (answer : Bool) (e : DeviceState) → Decays d 5 answer e → Pair power false (k + 1) e
  decay-pairs answer e b = record {
    count = b.becomes.count ∙ h.count;
    waiting = b.becomes.waiting ∙ h.waiting;
    told = b.becomes.told ∙ h.told;
    power_is = b.becomes.power_is ∙ h.power_is;
    first = ap (λ (y : PageState). y.good) gone;
    failed = ap (λ (y : PageState). y.fails) gone ∙ ap (λ (n : ℕ). n + 1) h.failed;
    second = ap (λ (y : PageState). y.good) (b.becomes.pages_are 182) ∙ h.second;
    unfailed = ap (λ (y : PageState). y.fails) (b.becomes.pages_are 182) ∙ h.unfailed;
  }
    where
      gone : e.pages 5 ≡ decayed (d.pages 5)
      gone = b.becomes.pages_are 5 ∙ ap (λ (c : Bool). if true && ((d.pages 5).good && c) then decayed (d.pages 5) else d.pages 5) may-decay
          ∙ ap (λ (c : Bool). if true && (c && true) then decayed (d.pages 5) else d.pages 5) h.first

pub revive-pairs : (power : Bool) (k : ℕ) (d e : DeviceState) → Pair power false k d → Revives d 5 e → Pair power true k e
revive-pairs power k d e h b = record {
  count = b.count ∙ h.count;
  waiting = b.waiting ∙ h.waiting;
  told = b.told ∙ h.told;
  power_is = b.power_is ∙ h.power_is;
  first = ap (λ (y : PageState). y.good) (b.pages_are 5);
  failed = ap (λ (y : PageState). y.fails) (b.pages_are 5) ∙ h.failed;
  second = ap (λ (y : PageState). y.good) (b.pages_are 182) ∙ h.second;
  unfailed = ap (λ (y : PageState). y.fails) (b.pages_are 182) ∙ h.unfailed;
}

-- the other half may not go bad too
pub other-outside : (power : Bool) (k : ℕ) (d : DeviceState) → Pair power false k d → decay_outside (d.count / 2) d.pages 182 ≡ true
other-outside power k d h = ap (λ (n : ℕ). decay_outside (n / 2) d.pages 182) h.count
    ∙ ap (λ (c : Bool). (d.pages 182).good && not (nat_lt (d.pages 182).fails 3 && c)) h.first ∙ ap (λ (c : Bool). c && not (nat_lt (d.pages 182).fails 3 && false)) h.second ∙ neither (nat_lt (d.pages 182).fails 3)
  where
    neither : (b : Bool) → (true && not (b && false)) ≡ true
    neither true = refl
    neither false = refl

pub decay-still : (good : Bool) (k : ℕ) (p : ℕ) (answer : Bool) (d e : DeviceState) → Pair true good k d → Decays d p answer e → IsStill e
decay-still good k p answer d e h b = record { waiting = b.becomes.waiting ∙ h.waiting; told = b.becomes.told ∙ h.told; power = b.becomes.power_is ∙ h.power_is }

-- ---- scrubs and restarts

-- both halves are good, and the second one hasn't failed
pub record IsRestored (d : DeviceState) : Type 0 where
  pub count : d.count ≡ 354
  pub waiting : d.waiting ≡ []
  pub told : d.told ≡ []
  pub power_is : d.power ≡ true
  pub first : (d.pages 5).good ≡ true
  pub second : (d.pages 182).good ≡ true
  pub unfailed : (d.pages 182).fails ≡ 0

pub each-good : (a b : Bool) → (a && b) ≡ true → (a ≡ true) × (b ≡ true)
each-good true true k = (refl, refl)
each-good true false k = absurd (cc k)
each-good false b k = absurd (cc k)

pub scrub-restores : (h : Chance) (w : World) (d e : DeviceState) → IsScrubbed the_counts h w s0 d e → Pair true false 1 d → h.stop ≡ None → IsRestored e
scrub-restores h w d e c p unstopped = record {
  count = count;
  waiting = ap (λ (f : DeviceState). f.waiting) called.after ∙ spared.waiting;
  told = ap (λ (f : DeviceState). f.told) called.after;
  power_is = ap (λ (f : DeviceState). f.power) called.after ∙ spared.power;
  first = (each-good _ _ whole.both).0;
  second = ap (λ (f : DeviceState). (f.pages 182).good) called.after ∙ spared.good;
  unfailed = ap (λ (f : DeviceState). (f.pages 182).fails) called.after ∙ spared.fails;
}
  where
    called : IsCalled (put_calls * page_count the_counts) h d e
    called = c.served.called

    count : e.count ≡ 354
    count = ap (λ (f : DeviceState). f.count) called.after ∙ (let later = called-later _ h d e called in later.count) ∙ p.count

    spared : IsSpared 182 called.last
    spared = calls-spare 182 d called.last called.happens (record { waiting = p.waiting; power = p.power_is; good = p.second; fails = p.unfailed })

    whole : IsWholePage (pairs_view e) 5
    whole = c.whole unstopped (record { quiet = p.waiting; power = p.power_is }) 5 (omega arith)

-- page 5 is that of a record
pub restart-restores : (h : Chance) (d e : DeviceState) → IsRecovery s0 the_counts h true d e → Pair false false 1 d → e.power ≡ true → IsRestored e
restart-restores h d e r p lit = record {
  count = ap (λ (f : DeviceState). f.count) is ∙ (let later = called-later _ h r.powered r.last r.called in later.count) ∙ r.power.count ∙ p.count;
  waiting = ap (λ (f : DeviceState). f.waiting) is ∙ spared.waiting;
  told = ap (λ (f : DeviceState). f.told) is;
  power_is = lit;
  first = (each-good _ _ whole.both).0;
  second = ap (λ (f : DeviceState). (f.pages 182).good) is ∙ spared.good;
  unfailed = ap (λ (f : DeviceState). (f.pages 182).fails) is ∙ spared.fails;
}
  where
    is : e ≡ record r.called.last { told = [] }
    is = r.after ∙ r.called.after

    spared : IsSpared 182 r.called.last
    spared = recovery-spares the_counts h d e r p.waiting 182 p.second

    whole : IsWholePage (pairs_view e) 5
    whole = let front = r.front_whole refl p.waiting in front.pool 4 (omega arith)

-- so the other half may go bad
pub other-allowed : (d : DeviceState) → IsRestored d → decay_outside (d.count / 2) d.pages 182 ≡ false
other-allowed d h = ap (λ (n : ℕ). decay_outside (n / 2) d.pages 182) h.count
    ∙ ap (λ (c : Bool). (d.pages 182).good && not (nat_lt (d.pages 182).fails 3 && c)) h.first ∙ ap (λ (c : Bool). c && not (nat_lt (d.pages 182).fails 3 && true)) h.second ∙ ap (λ (n : ℕ). true && not (nat_lt n 3 && true)) h.unfailed

-- ---- faults that are to wait

-- these wait, and none was reported
pub record Waits (faults : List Armed) (d : DeviceState) : Type 0 where
  pub waiting : d.waiting ≡ faults
  pub told : d.told ≡ []
  pub power : d.power ≡ true

pub arm-waits : (n : ℕ) (kind : FaultKind) (faults : List Armed) (answer : Bool) (d e : DeviceState) → Waits faults d → answer ≡ true → Arms d n kind answer e → Waits (faults ++ (record { after = n; kind = kind }) ∷ []) e
arm-waits n kind faults answer d e h allowed a = record {
  waiting = ap (λ (f : DeviceState). f.waiting) is ∙ ap (λ (ws : List Armed). ws ++ (record { after = n; kind = kind }) ∷ []) h.waiting;
  told = ap (λ (f : DeviceState). f.told) is ∙ h.told;
  power = ap (λ (f : DeviceState). f.power) is ∙ h.power;
}
  where
    is : e ≡ record d { waiting = d.waiting ++ (record { after = n; kind = kind }) ∷ [] }
    is = a.armed ∙ ap (λ (b : Bool). record d { waiting = if b then d.waiting ++ (record { after = n; kind = kind }) ∷ [] else d.waiting }) allowed
