-- The looks of a careful get.
use Rattle.jn_careful.proofs.Common.{later_refl, inl, inr, ◌≡◌, ◌≢◌, ◌⊎◌, ⊎_elim, ℕ, ◌+◌, ◌≤◌, ◌<◌, Bool, true, false, List, Option, Some, None, Result, Ok, Err, refl, ◌∙◌, ap, sym, arith, nat_tests, IsErr, Stopped, Look, Good, LooksBad, DeviceState, partner_of, GetStep, Later, Struck, later_trans, struck_trans, get_later, get_struck, get_bytes, Found, Same, Other, FoundBad, look_compared, CarefulGot, IsServed, IsStopped, page_read, page_compared, subst, Happens, get, joined, AreGotBad, no_get, got_again, GetRun, gets, last_look, GetsCarefully}

-- after n looks that failed
pub record Looking (s : DeviceState) (p n : ℕ) (t : DeviceState) : Type 0 where
  pub bad : AreGotBad p n s t
  pub happens : (from : DeviceState) → Happens from s → Happens from t
  pub later : Later s t
  pub calls : t.calls ≤ s.calls + n
  pub puts : t.puts ≡ s.puts
  pub struck : (q : ℕ) → Struck q s t
  pub bytes : (q : ℕ) → (t.pages q).bytes ≡ (s.pages q).bytes
  pub tried : ((t.pages p).good ≡ false) ⊎ (n ≤ (t.pages p).fails)
  pub half : partner_of s p ≢ p → (s.pages p).good ≡ true → (s.pages (partner_of s p)).good ≡ false → ((t.pages p).good ≡ true) × ((t.pages (partner_of s p)).good ≡ false)
  pub power : 0 < n → t.power ≡ true
  pub stops : t.stops ≡ s.stops

-- a good page whose partner is bad, in a look that fails
lonely : (t : DeviceState) (p : ℕ) (answer : Result Look Stopped) (u : DeviceState) → GetStep t p answer u → answer ≡ Ok LooksBad → (t.pages p).good ≡ true → (t.pages (partner_of t p)).good ≡ false → (u.pages p).good ≡ true
lonely t p answer u step e g b = grind (arith, nat_tests)

lonely_partner : (t : DeviceState) (p : ℕ) (answer : Result Look Stopped) (u : DeviceState) → GetStep t p answer u → answer ≡ Ok LooksBad → (t.pages p).good ≡ true → (t.pages (partner_of t p)).good ≡ false → partner_of t p ≢ p → (u.pages (partner_of t p)).good ≡ false
lonely_partner t p answer u step e g b apart = let now = step.others (partner_of t p) apart in grind (arith, nat_tests)

pub gets_up : (t : DeviceState) (p : ℕ) (answer : Result Look Stopped) (u : DeviceState) → GetStep t p answer u → u.calls ≤ t.calls + 1
gets_up t p answer u step = grind (arith, nat_tests)

module _ (s : DeviceState) (p n : ℕ) (below : p < s.count) (t : DeviceState) (l : Looking s p n t) (answer : Result Look Stopped) (u : DeviceState) (step : GetStep t p answer u) where
  happened : (from : DeviceState) → Happens from s → Happens from u
  happened from h = joined from t u (l.happens from h) (get t u p answer (subst (λ c. p < c) (sym l.later.count) below) step)

  since : Later s u
  since = later_trans s t u l.later (get_later t p answer u step)

  more_struck : (q : ℕ) → Struck q s u
  more_struck q = struck_trans q s t u l.later (get_later t p answer u step) (l.struck q) (get_struck t p answer u step q)

  same_bytes : (q : ℕ) → (u.pages q).bytes ≡ (s.pages q).bytes
  same_bytes q = get_bytes t p answer u step q ∙ l.bytes q

  same_partner : partner_of t p ≡ partner_of s p
  same_partner = grind (arith, l.later.count)

  still : answer ≡ Ok LooksBad → ((u.pages p).good ≡ false) ⊎ (n + 1 ≤ (u.pages p).fails)
  still e = let was = l.tried in grind (arith, nat_tests)

  ok_served : (look : Look) → answer ≡ Ok look → IsServed s u
  ok_served look e = record { power = grind (arith, nat_tests); stops = let was = l.stops in grind (arith, nat_tests) }

  rises : (w : Stopped) → answer ≡ Err w → IsStopped s u
  rises w e = let up = l.later.stops in record { power = grind (arith, nat_tests); stops = grind (arith, nat_tests) }

  makes : (result : Result (Option (List ℕ)) Stopped) → n + 1 ≤ 4 → answer ≡ last_look result → (result ≡ Ok None → n ≡ 3) → CarefulGot s p result u → GetsCarefully s p result u
  makes result few e all got = record { got = got; makes = λ a is. subst (λ (a : Result (Option (List ℕ)) Stopped). GetRun s p a u) is (gets n t l.bad (subst (λ a. GetStep t p a u) e step) (omega (arith, few)) all) }

  pub look_again : answer ≡ Ok LooksBad → Looking s p (n + 1) u
  look_again e = record {
    bad = subst (λ k. AreGotBad p k s u) (omega arith) (got_again n s t u l.bad (subst (λ a. GetStep t p a u) e step));
    happens = happened;
    later = since;
    calls = omega (arith, gets_up t p answer u step, l.calls);
    puts = step.puts ∙ l.puts;
    struck = more_struck;
    bytes = same_bytes;
    tried = still e;
    half = λ apart g b. let now = l.half apart g b in
        let bad : (t.pages (partner_of t p)).good ≡ false = ap (λ q. (t.pages q).good) same_partner ∙ now.1 in
        (lonely t p answer u step e now.0 bad, ap (λ q. (u.pages q).good) (sym same_partner) ∙ lonely_partner t p answer u step e now.0 bad (λ h. apart (sym same_partner ∙ h)));
    power = λ _. (ok_served LooksBad e).power;
    stops = (ok_served LooksBad e).stops;
  }

  pub look_good : (v : List ℕ) → n + 1 ≤ 4 → answer ≡ Ok (Good v) → GetsCarefully s p (Ok (Some v)) u
  look_good v few e = makes (Ok (Some v)) few e (λ is. absurd (cc is)) (record {
    happens = happened;
    later = since;
    calls = omega (arith, gets_up t p answer u step, l.calls);
    puts = step.puts ∙ l.puts;
    struck = λ q _. more_struck q;
    own = more_struck p;
    bytes = same_bytes;
    good = λ w is. grind (arith, nat_tests);
    bad = λ is. absurd (cc is);
    half = λ is. absurd (cc is);
    served = λ _ _. ok_served (Good v) e;
    stopped = λ w is. absurd (cc is);
    calm = λ q on w is. cc is;
  })

  pub look_err : (w : Stopped) → n + 1 ≤ 4 → answer ≡ Err w → (v : Stopped) → GetsCarefully s p (Err v) u
  look_err w few e v = makes (Err v) few e (λ is. absurd (cc is)) (record {
    happens = happened;
    later = since;
    calls = omega (arith, gets_up t p answer u step, l.calls);
    puts = step.puts ∙ l.puts;
    struck = λ q _. more_struck q;
    own = more_struck p;
    bytes = same_bytes;
    good = λ v is. absurd (cc is);
    bad = λ is. absurd (cc is);
    half = λ is. absurd (cc is);
    served = λ a is. absurd (cc is);
    stopped = λ w' is. rises w e;
    calm = λ q on w' is. let on' = since.power q on in let off = (rises w e).power in cc (on', off);
  })

-- the looks of a get into a page, and of one that compares
module _ (s : DeviceState) (p n : ℕ) (below : p < s.count) (t : DeviceState) (l : Looking s p n t) (few : n + 1 ≤ 4) (u : DeviceState) where
  pub read_err : (e : Stopped) → GetStep t p (Err e) u → (r : Result Bool Stopped) → IsErr r → (bytes : List ℕ) → GetsCarefully s p (page_read r bytes) u
  read_err e step (Ok good) h bytes = absurd (cc h)
  read_err e step (Err v) h bytes = look_err s p n below t l (Err e) u step e few refl v

  pub compared_err : (e : Stopped) → GetStep t p (Err e) u → (r : Result Found Stopped) → IsErr r → (bytes : List ℕ) → GetsCarefully s p (page_compared r bytes) u
  compared_err e step (Ok found) h bytes = absurd (cc h)
  compared_err e step (Err v) h bytes = look_err s p n below t l (Err e) u step e few refl v

  pub compared_good : (found : Found) → GetStep t p (look_compared (Ok found) (u.pages p).bytes) u → (found ≡ FoundBad → ⊥) → GetsCarefully s p (page_compared (Ok found) (u.pages p).bytes) u
  compared_good Same step good = look_good s p n below t l _ u step (u.pages p).bytes few refl
  compared_good Other step good = look_good s p n below t l _ u step (u.pages p).bytes few refl
  compared_good FoundBad step good = absurd (good refl)

  pub compared_again : (found : Found) → GetStep t p (look_compared (Ok found) (u.pages p).bytes) u → found ≡ FoundBad → Looking s p (n + 1) u
  compared_again Same step bad = absurd (cc bad)
  compared_again Other step bad = absurd (cc bad)
  compared_again FoundBad step bad = look_again s p n below t l _ u step refl

-- before the first look
pub looking_first : (s : DeviceState) (p : ℕ) → Looking s p 0 s
looking_first s p = record {
  bad = no_get s;
  happens = λ from h. h;
  later = later_refl s;
  calls = omega arith;
  puts = refl;
  struck = λ q. inl refl;
  bytes = λ q. refl;
  tried = inr (omega arith);
  half = λ apart g b. (g, b);
  power = λ h. absurd (omega (arith, h));
  stops = refl;
}

-- after four looks that failed
all_bad : (s : DeviceState) (p n : ℕ) (t : DeviceState) → n ≡ 4 → AreGotBad p n s t → GetRun s p (Ok None) t
all_bad s p n t four (no_get _) = absurd (omega (arith, four))
all_bad s p n t four (got_again k _ m _ bad step) = gets k m bad step (omega (arith, four)) (λ _. omega (arith, four))

pub look_none : (s : DeviceState) (p n : ℕ) (t : DeviceState) → n ≡ 4 → (t.pages p).fails ≤ 3 → Looking s p n t → GetsCarefully s p (Ok None) t
look_none s p n t four few l = record {
  makes = λ a is. subst (λ (a : Result (Option (List ℕ)) Stopped). GetRun s p a t) is (all_bad s p n t four l.bad);
  got = record {
    happens = l.happens;
    later = l.later;
    calls = omega (arith, four, l.calls);
    puts = l.puts;
    struck = λ q _. l.struck q;
    own = l.struck p;
    bytes = l.bytes;
    good = λ v is. absurd (cc is);
    bad = λ _. is_bad;
    half = λ _ apart g b. let now = l.half apart g b in let good = now.0 in cc (good, is_bad);
    served = λ _ _. record { power = l.power (omega (arith, four)); stops = l.stops };
    stopped = λ w is. absurd (cc is);
    calm = λ _ _ w is. cc is;
  };
}
  where
    is_bad : (t.pages p).good ≡ false
    is_bad = ⊎_elim (λ e. e) (λ h. absurd (omega (arith, four, few, h))) l.tried
