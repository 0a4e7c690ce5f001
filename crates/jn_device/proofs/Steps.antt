-- What one call of the device keeps.
use Rattle.std.proofs.Common.{◌≡◌, ◌≢◌, ◌⊎◌, inl, inr, ◌∙◌, ℕ, ◌+◌, ◌≤◌, ◌<◌, ◌/◌, Bool, true, List, [], ◌∷◌, ◌++◌, Option, Some, None, Result, sym, ap, subst, arith}
use Rattle.std.proofs.lemmas.Bool.Decides.{nat_tests}
use Rattle.std.specs.Prelude.{◌||◌, if◌then◌else◌}
use Rattle.jn_base.specs.declared.device.FaultKind.{FaultKind}
use Rattle.jn_base.specs.declared.device.FaultKind.TheVariants.{Soft, Null, Bad, Decay, Revive, StopBefore, StopTorn, StopAfter}
use Rattle.jn_base.specs.declared.device.Outside.{Outside}
use Rattle.jn_base.specs.declared.device.Stopped.{Stopped}
use Rattle.jn_device.specs.declared.Armed.{Armed}
use Rattle.jn_device.specs.declared.Look.{Look}
use Rattle.jn_device.specs.Device.{DeviceState, page_met, IsSoundDevice}
use Rattle.jn_device.specs.Calls.{due, waiting_on, strike, CallStep, GetStep, PutStep, told_of}
use Rattle.jn_device.specs.Events.{Becomes, Decays}
use Rattle.jn_device.specs.Later.{Later, Struck, count_kind, count_told, touches, darkness}
use Rattle.jn_base.specs.Names.{is_stop}

-- 1 where the fault that strikes is of these kinds
abbrev struck_count : (FaultKind → Bool) → Option FaultKind → ℕ
struck_count f None = 0
struck_count f (Some k) = if f k then 1 else 0

-- the fault that strikes is spent
spent_on : (f : FaultKind → Bool) (ws : List Armed) → count_kind f (waiting_on ws) + struck_count f (due ws) ≤ count_kind f ws
spent_on f [] = omega arith
spent_on f (w ∷ ws) = grind (arith, nat_tests, spent_on f ws)

count_told-append : (f : FaultKind → Bool) (xs ys : List Outside) → count_told f (xs ++ ys) ≡ count_told f xs + count_told f ys
count_told-append f [] ys = omega arith
count_told-append f (x ∷ xs) ys = grind (arith, count_told-append f xs ys)

-- no more is reported than the fault that struck
told_one : (f : FaultKind → Bool) (g : FaultKind → Bool) (p : ℕ) (k : Option FaultKind) → count_told f (told_of g p k) ≤ struck_count f k
told_one f g p None = omega arith
told_one f g p (Some k) = grind arith

-- a fault that strikes by itself leaves one half of each pair good
decay_sound : (s : DeviceState) (d i : ℕ) → i < s.count / 2 → ((s.pages i).good || (s.pages (i + s.count / 2)).good) ≡ true
    → ((page_met s (Some (Decay d)) i).good || (page_met s (Some (Decay d)) (i + s.count / 2)).good) ≡ true
decay_sound s d i below had = grind (arith, nat_tests)

pub met_sound : (s : DeviceState) (k : Option FaultKind) (i : ℕ) → i < s.count / 2 → ((s.pages i).good || (s.pages (i + s.count / 2)).good) ≡ true
    → ((page_met s k i).good || (page_met s k (i + s.count / 2)).good) ≡ true
met_sound s (Some (Decay d)) i below had = decay_sound s d i below had
met_sound s (Some (Revive d)) i below had = grind (arith, nat_tests)
met_sound s None i below had = had
met_sound s (Some Soft) i below had = had
met_sound s (Some Null) i below had = had
met_sound s (Some Bad) i below had = had
met_sound s (Some StopBefore) i below had = had
met_sound s (Some StopTorn) i below had = had
met_sound s (Some StopAfter) i below had = had

-- a page that becomes good or bad by itself is the one of the fault that strikes
met_struck : (s : DeviceState) (k : Option FaultKind) (q : ℕ) → ((page_met s k q).good ≡ (s.pages q).good) ⊎ (struck_count (touches q) k ≡ 1)
met_struck s k q = grind (arith, nat_tests)

-- what each call does to the faults, whatever it reports
module _ (s : DeviceState) (stops is_done : Bool) (g : FaultKind → Bool) (p : ℕ) (t : DeviceState) (call : CallStep s stops is_done (told_of g p (strike s)) t) where
  call_used : (f : FaultKind → Bool) → count_kind f t.waiting ≤ count_kind f s.waiting
  call_used f = grind (arith, spent_on f s.waiting, ap (count_kind f) call.waiting)

  call_told : (f : FaultKind → Bool) → count_kind f t.waiting + count_told f t.told ≤ count_kind f s.waiting + count_told f s.told
  call_told f = grind (arith, spent_on f s.waiting, told_one f g p (strike s), count_told-append f s.told (told_of g p (strike s)), ap (count_kind f) call.waiting, ap (count_told f) call.told_is)

module _ (s : DeviceState) (p : ℕ) (answer : Result Look Stopped) (t : DeviceState) (step : GetStep s p answer t) where
  got_good : (q : ℕ) → (t.pages q).good ≡ (page_met s (strike s) q).good
  got_good q = grind (arith, nat_tests)

  get_sound_at : (i : ℕ) → i < s.count / 2 → ((s.pages i).good || (s.pages (i + s.count / 2)).good) ≡ true → ((t.pages i).good || (t.pages (i + s.count / 2)).good) ≡ true
  get_sound_at i below had = cc (got_good i, got_good (i + s.count / 2), met_sound s (strike s) i below had)

  get_stop : count_kind is_stop t.waiting + darkness t.power ≤ count_kind is_stop s.waiting + darkness s.power
  get_stop = grind (arith, nat_tests, spent_on is_stop s.waiting, ap (count_kind is_stop) step.call.waiting)

  get_good : s.waiting ≡ [] → s.power ≡ true → (q : ℕ) → (s.pages q).good ≡ true → (t.pages q).good ≡ true
  get_good quiet on q g = grind (arith, nat_tests)

  pub get_later : Later s t
  get_later = record {
    count = step.call.count;
    calls = grind (arith, nat_tests);
    puts = omega (arith, step.puts);
    stops = grind (arith, nat_tests);
    spends = record { used = call_used s _ _ _ p t step.call; told_of = call_told s _ _ _ p t step.call; stop_of = get_stop; dark = λ off. grind arith };
    sound = λ sound i below. let lt : i < s.count / 2 = subst (λ c. i < c / 2) step.call.count below in
        subst (λ c. ((t.pages i).good || (t.pages (i + c / 2)).good) ≡ true) (sym step.call.count) (get_sound_at i lt (sound i lt));
    quiet = λ q. grind arith;
    power = λ q on. grind arith;
    no_stop = λ q on. grind arith;
    good = get_good;
  }

  pub get_struck : (q : ℕ) → Struck q s t
  get_struck q = elim (met_struck s (strike s) q) [
    | inl same ↦ inl (got_good q ∙ same)
    | inr one ↦ inr (grind (arith, spent_on (touches q) s.waiting, ap (count_kind (touches q)) step.call.waiting))
  ]

  -- a get changes no bytes
  pub get_bytes : (q : ℕ) → (t.pages q).bytes ≡ (s.pages q).bytes
  get_bytes q = grind (arith, nat_tests)

module _ (s : DeviceState) (p : ℕ) (new : List ℕ) (stopped : Bool) (t : DeviceState) (step : PutStep s p new stopped t) where
  put_sound_at : (i : ℕ) → i < s.count / 2 → ((s.pages i).good || (s.pages (i + s.count / 2)).good) ≡ true → ((t.pages i).good || (t.pages (i + s.count / 2)).good) ≡ true
  put_sound_at i below had = let m = met_sound s (strike s) i below had in grind (arith, nat_tests)

  put_stop : count_kind is_stop t.waiting + darkness t.power ≤ count_kind is_stop s.waiting + darkness s.power
  put_stop = grind (arith, nat_tests, spent_on is_stop s.waiting, ap (count_kind is_stop) step.call.waiting)

  put_good : s.waiting ≡ [] → s.power ≡ true → (q : ℕ) → (s.pages q).good ≡ true → (t.pages q).good ≡ true
  put_good quiet on q g = grind (arith, nat_tests)

  pub put_later : Later s t
  put_later = record {
    count = step.call.count;
    calls = grind (arith, nat_tests);
    puts = grind (arith, nat_tests);
    stops = grind (arith, nat_tests);
    spends = record { used = call_used s _ _ _ p t step.call; told_of = call_told s _ _ _ p t step.call; stop_of = put_stop; dark = λ off. grind arith };
    sound = λ sound i below. let lt : i < s.count / 2 = subst (λ c. i < c / 2) step.call.count below in
        subst (λ c. ((t.pages i).good || (t.pages (i + c / 2)).good) ≡ true) (sym step.call.count) (put_sound_at i lt (sound i lt));
    quiet = λ q. grind arith;
    power = λ q on. grind arith;
    no_stop = λ q on. grind arith;
    good = put_good;
  }

  pub put_struck : (q : ℕ) → q ≢ p → Struck q s t
  put_struck q ne = grind (arith, nat_tests, spent_on (touches q) s.waiting, ap (count_kind (touches q)) step.call.waiting)

  -- a put changes the bytes of its page alone
  pub put_bytes : (q : ℕ) → q ≢ p → (t.pages q).bytes ≡ (s.pages q).bytes
  put_bytes q ne = grind (arith, nat_tests)

  -- to the new ones, or not
  pub put_bytes_at : ((t.pages p).bytes ≡ new) ⊎ ((t.pages p).bytes ≡ (s.pages p).bytes)
  put_bytes_at = grind (arith, nat_tests)

-- so does an event that strikes a page
pub becomes_met_sound : (s t : DeviceState) (k : Option FaultKind) (power : Bool) → Becomes s (page_met s k) power t → IsSoundDevice s → IsSoundDevice t
becomes_met_sound s t k power becomes sound i below =
    let lt : i < s.count / 2 = subst (λ c. i < c / 2) becomes.count below in
    let met = met_sound s k i lt (sound i lt) in
    let first = becomes.pages_are i in
    let second = becomes.pages_are (i + s.count / 2) in
    let now : ((t.pages i).good || (t.pages (i + s.count / 2)).good) ≡ true = cc (met, first, second) in
    subst (λ c. ((t.pages i).good || (t.pages (i + c / 2)).good) ≡ true) (sym becomes.count) now

pub decays_sound : (s t : DeviceState) (p : ℕ) (answer : Bool) → Decays s p answer t → IsSoundDevice s → IsSoundDevice t
decays_sound s t p answer decays sound = becomes_met_sound s t (Some (Decay p)) s.power decays.becomes sound
