-- What holds on while a device is called, call by call.
use Rattle.jn_wrong.proofs.Common.{◌≡◌, ◌⊎◌, inl, inr, ℕ, ◌+◌, ◌-◌, ◌≤◌, ◌<◌, ◌/◌, Bool, true, false, List, [], ◌∷◌, ◌++◌, Option, Some, None, Result, refl, ◌∙◌, ap, arith, append-nil, nat_tests, nat_lt, if◌then◌else◌, FaultKind, StopBefore, StopAfter, DeviceState, bumped, due, strike, GetStep, PutStep, told_of, got_outside, put_outside, Happens, get, put, joined}
use Rattle.jn_base.specs.declared.device.Stopped.{Stopped}
use Rattle.jn_device.specs.declared.Look.{Look}
use Rattle.jn_device.specs.Happens.{none}

-- what each call keeps, any run of calls keeps
pub carried : (P : DeviceState → Type 0)
    → ((s t : DeviceState) (p : ℕ) (answer : Result Look Stopped) → p < s.count → GetStep s p answer t → P s → P t)
    → ((s t : DeviceState) (p : ℕ) (new : List ℕ) (stopped : Bool) → p < s.count → PutStep s p new stopped t → P s → P t)
    → (s t : DeviceState) → Happens s t → P s → P t
carried P g k s t (none _) h = h
carried P g k s t (get _ _ p answer below step) h = g s t p answer below step h
carried P g k s t (put _ _ p new stopped below step) h = k s t p new stopped below step h
carried P g k s t (joined _ u _ a b) h = carried P g k u t b (carried P g k s u a h)

-- ---- where nothing waits

-- the page is good, and hasn't failed
pub record IsSpared (q : ℕ) (d : DeviceState) : Type 0 where
  pub waiting : d.waiting ≡ []
  pub power : d.power ≡ true
  pub good : (d.pages q).good ≡ true
  pub fails : (d.pages q).fails ≡ 0

get-spares : (q : ℕ) (s t : DeviceState) (p : ℕ) (answer : Result Look Stopped) → p < s.count → GetStep s p answer t → IsSpared q s → IsSpared q t
get-spares q s t p answer below step h = record {
  waiting = grind (arith, h.waiting, h.power);
  power = grind (arith, h.waiting, h.power);
  good = grind (arith, nat_tests, h.waiting, h.power, h.good);
  fails = grind (arith, nat_tests, h.waiting, h.power, h.fails, h.good);
}

put-spares : (q : ℕ) (s t : DeviceState) (p : ℕ) (new : List ℕ) (stopped : Bool) → p < s.count → PutStep s p new stopped t → IsSpared q s → IsSpared q t
put-spares q s t p new stopped below step h = record {
  waiting = grind (arith, h.waiting, h.power);
  power = grind (arith, h.waiting, h.power);
  good = grind (arith, nat_tests, h.waiting, h.power, h.good);
  fails = grind (arith, nat_tests, h.waiting, h.power, h.fails);
}

pub calls-spare : (q : ℕ) (s t : DeviceState) → Happens s t → IsSpared q s → IsSpared q t
calls-spare q s t = carried (IsSpared q) (get-spares q) (put-spares q) s t

-- a page that hasn't failed, be it good or bad
pub record IsUnfailed (q : ℕ) (d : DeviceState) : Type 0 where
  pub waiting : d.waiting ≡ []
  pub power : d.power ≡ true
  pub fails : (d.pages q).fails ≡ 0

get-unfailed : (q : ℕ) (s t : DeviceState) (p : ℕ) (answer : Result Look Stopped) → p < s.count → GetStep s p answer t → IsUnfailed q s → IsUnfailed q t
get-unfailed q s t p answer below step h = record {
  waiting = grind (arith, h.waiting, h.power);
  power = grind (arith, h.waiting, h.power);
  fails = grind (arith, nat_tests, h.waiting, h.power, h.fails);
}

put-unfailed : (q : ℕ) (s t : DeviceState) (p : ℕ) (new : List ℕ) (stopped : Bool) → p < s.count → PutStep s p new stopped t → IsUnfailed q s → IsUnfailed q t
put-unfailed q s t p new stopped below step h = record {
  waiting = grind (arith, h.waiting, h.power);
  power = grind (arith, h.waiting, h.power);
  fails = grind (arith, nat_tests, h.waiting, h.power, h.fails);
}

pub calls-unfailed : (q : ℕ) (s t : DeviceState) → Happens s t → IsUnfailed q s → IsUnfailed q t
calls-unfailed q s t = carried (IsUnfailed q) (get-unfailed q) (put-unfailed q) s t

-- ---- a stop that waits

-- a stop waits for the next call, and none was made; or it has struck
data Strikes (s d : DeviceState) : Type 0 where
  unmade : d ≡ s → Strikes s d
  struck : d.power ≡ false → Strikes s d

module _ (s : DeviceState) (lit : s.power ≡ true) (stop : FaultKind) (is : s.waiting ≡ (record { after = 1; kind = stop }) ∷ []) (stops : (stop ≡ StopBefore) ⊎ (stop ≡ StopAfter)) where
  get-strikes : (t u : DeviceState) (p : ℕ) (answer : Result Look Stopped) → p < t.count → GetStep t p answer u → Strikes s t → Strikes s u
  get-strikes t u p answer below step (unmade e) = struck (by stops)
    where
      by : (stop ≡ StopBefore) ⊎ (stop ≡ StopAfter) → u.power ≡ false
      by (inl k) = grind (arith, nat_tests, e, is, lit, k)
      by (inr k) = grind (arith, nat_tests, e, is, lit, k)
  get-strikes t u p answer below step (struck dark) = struck (grind (arith, dark))

  put-strikes : (t u : DeviceState) (p : ℕ) (new : List ℕ) (stopped : Bool) → p < t.count → PutStep t p new stopped u → Strikes s t → Strikes s u
  put-strikes t u p new stopped below step (unmade e) = struck (by stops)
    where
      by : (stop ≡ StopBefore) ⊎ (stop ≡ StopAfter) → u.power ≡ false
      by (inl k) = grind (arith, nat_tests, e, is, lit, k)
      by (inr k) = grind (arith, nat_tests, e, is, lit, k)
  put-strikes t u p new stopped below step (struck dark) = struck (grind (arith, dark))

  pub first-call-stops : (t : DeviceState) → Happens s t → (t ≡ s) ⊎ (t.power ≡ false)
  first-call-stops t happens = by (carried (Strikes s) get-strikes put-strikes s t happens (unmade refl))
    where
      by : Strikes s t → (t ≡ s) ⊎ (t.power ≡ false)
      by (unmade e) = inl e
      by (struck dark) = inr dark

-- ---- a stop that waits for a call far off

-- so many calls were made of those that it waits for, or it has struck, behind all of them but its own
data Nears (n first : ℕ) (d : DeviceState) : Type 0 where
  before : (made left : ℕ) → made + left ≡ n → d.power ≡ true → d.waiting ≡ (record { after = left; kind = StopBefore }) ∷ [] → d.told ≡ [] → first + made ≤ d.calls → 0 < left → Nears n first d
  behind : first + n ≤ d.calls + 1 → Nears n first d

-- it doesn't strike yet
unstruck : (t : DeviceState) (left : ℕ) → t.power ≡ true → t.waiting ≡ (record { after = left; kind = StopBefore }) ∷ [] → nat_lt left 2 ≡ false → strike t ≡ None
unstruck t left lit is e = ap (λ (b : Bool). if b then due t.waiting else None) lit ∙ ap due is ∙ ap (λ (b : Bool). if b then Some StopBefore else None) e

-- it waits on, and nothing was reported
pub record StillFar (d : DeviceState) : Type 0 where
  pub power : d.power ≡ true
  pub told : d.told ≡ []

module _ (n first most : ℕ) (few : first + n ≤ 18446744073709551615) where
  get-nears : (t u : DeviceState) (p : ℕ) (answer : Result Look Stopped) → p < t.count → GetStep t p answer u → Nears n first t → Nears n first u
  get-nears t u p answer below step (behind h) = behind (let z : t.calls ≤ u.calls = grind (arith, nat_tests) in omega (arith, h, z))
  get-nears t u p answer below step (before made left all lit is untold calls some) = by (nat_lt left 2) refl
    where
      by : (b : Bool) → nat_lt left 2 ≡ b → Nears n first u
      by true e = behind (let z : t.calls ≤ u.calls = grind (arith, nat_tests) in let l : left < 2 = grind (arith, nat_tests, e) in omega (arith, calls, all, z, l))
      by false e = let l : 2 ≤ left = grind (arith, nat_tests, e) in
          let c : u.calls ≡ bumped t.calls = grind (arith, nat_tests, e, is, lit) in
          let more : (t.calls + 1 ≤ bumped t.calls) ⊎ (18446744073709551615 ≤ bumped t.calls) = bumps t.calls in
          go l c more
        where
          bumps : (m : ℕ) → (m + 1 ≤ bumped m) ⊎ (18446744073709551615 ≤ bumped m)
          bumps m = grind (arith, nat_tests)

          go : 2 ≤ left → u.calls ≡ bumped t.calls → (t.calls + 1 ≤ bumped t.calls) ⊎ (18446744073709551615 ≤ bumped t.calls) → Nears n first u
          go l c (inl m) = before (made + 1) (left - 1) (omega (arith, all, l)) (grind (arith, nat_tests, e, is, lit)) (grind (arith, nat_tests, e, is, lit))
              (step.call.told_is ∙ ap (λ (o : Option FaultKind). t.told ++ told_of (got_outside (t.count / 2) t.pages p) p o) (unstruck t left lit is e) ∙ append-nil t.told ∙ untold) (omega (arith, calls, c, m)) (omega (arith, l))
          go l c (inr m) = behind (omega (arith, c, m, few))

  put-nears : (t u : DeviceState) (p : ℕ) (new : List ℕ) (stopped : Bool) → p < t.count → PutStep t p new stopped u → Nears n first t → Nears n first u
  put-nears t u p new stopped below step (behind h) = behind (let z : t.calls ≤ u.calls = grind (arith, nat_tests) in omega (arith, h, z))
  put-nears t u p new stopped below step (before made left all lit is untold calls some) = by (nat_lt left 2) refl
    where
      by : (b : Bool) → nat_lt left 2 ≡ b → Nears n first u
      by true e = behind (let z : t.calls ≤ u.calls = grind (arith, nat_tests) in let l : left < 2 = grind (arith, nat_tests, e) in omega (arith, calls, all, z, l))
      by false e = let l : 2 ≤ left = grind (arith, nat_tests, e) in
          let c : u.calls ≡ bumped t.calls = grind (arith, nat_tests, e, is, lit) in
          let more : (t.calls + 1 ≤ bumped t.calls) ⊎ (18446744073709551615 ≤ bumped t.calls) = bumps t.calls in
          go l c more
        where
          bumps : (m : ℕ) → (m + 1 ≤ bumped m) ⊎ (18446744073709551615 ≤ bumped m)
          bumps m = grind (arith, nat_tests)

          go : 2 ≤ left → u.calls ≡ bumped t.calls → (t.calls + 1 ≤ bumped t.calls) ⊎ (18446744073709551615 ≤ bumped t.calls) → Nears n first u
          go l c (inl m) = before (made + 1) (left - 1) (omega (arith, all, l)) (grind (arith, nat_tests, e, is, lit)) (grind (arith, nat_tests, e, is, lit))
              (step.call.told_is ∙ ap (λ (o : Option FaultKind). t.told ++ told_of (put_outside (t.count / 2) t.pages p) p o) (unstruck t left lit is e) ∙ append-nil t.told ∙ untold) (omega (arith, calls, c, m)) (omega (arith, l))
          go l c (inr m) = behind (omega (arith, c, m, few))

  -- so many calls don't reach it
  pub far-stop-waits : (s t : DeviceState) → Happens s t → s.calls ≡ first → s.power ≡ true → s.told ≡ [] → s.waiting ≡ (record { after = n; kind = StopBefore }) ∷ [] → 0 < n → t.calls ≤ s.calls + most → most + 1 < n → StillFar t
  far-stop-waits s t happens start lit untold is some within far = by (carried (Nears n first) get-nears put-nears s t happens (before 0 n (omega arith) lit is untold (omega (arith, start)) some))
    where
      by : Nears n first t → StillFar t
      by (before made left all on waits silent calls more) = record { power = on; told = silent }
      by (behind h) = absurd (never h start within far)
        where
          never : first + n ≤ t.calls + 1 → s.calls ≡ first → t.calls ≤ s.calls + most → most + 1 < n → ⊥
          never a b c d = omega (arith, a, b, c, d)
