-- The turns of a careful put.
use Rattle.jn_careful.proofs.Common.{Happens, get, joined, later_refl, ◌<◌, ◌≡◌, ◌≢◌, ◌⊎◌, inl, inr, ⊎_elim, ℕ, ◌+◌, ◌*◌, ◌≤◌, Bool, true, false, List, [], ap, Result, Ok, Err, refl, sym, ◌∙◌, subst, arith, nat_tests, IsErr, is_err, Stopped, Look, Good, LooksBad, DeviceState, GetStep, PutStep, Later, Struck, later_trans, struck_trans, rose_since, rose_then, get_later, put_later, get_struck, put_struck, get_bytes, put_bytes, put_bytes_at, Found, Same, Other, FoundBad, look_compared, IsCompared, PutCompared, CarefulPut, IsServed, IsStopped, putting, ArePutInVain, no_put, put_once_more, PutRun, puts, PutsCarefully}
use Rattle.jn_base.specs.Counts.{Rose}
use Rattle.jn_careful.proofs.Get.{gets_up}

-- after n puts whose page was not there
pub record Putting (s : DeviceState) (p : ℕ) (new : List ℕ) (n : ℕ) (t : DeviceState) : Type 0 where
  pub vain : ArePutInVain p new n s t
  pub happens : (from : DeviceState) → Happens from s → Happens from t
  pub later : Later s t
  pub calls : t.calls ≤ s.calls + 2 * n
  pub struck : (q : ℕ) → q ≢ p → Struck q s t
  pub others : (q : ℕ) → q ≢ p → (t.pages q).bytes ≡ (s.pages q).bytes
  pub bytes : ((t.pages p).bytes ≡ new) ⊎ ((t.pages p).bytes ≡ (s.pages p).bytes)
  pub tried : n ≤ (t.pages p).fails
  pub stops : t.stops ≡ s.stops

-- a put that is answered Ok: the page is there, or it failed once more
done_or_failed : (t : DeviceState) (p : ℕ) (new : List ℕ) (m : DeviceState) → PutStep t p new false m
    → (((m.pages p).good ≡ true) × ((m.pages p).bytes ≡ new) × ((t.pages p).fails ≤ (m.pages p).fails)) ⊎ (((t.pages p).fails + 1 ≤ (m.pages p).fails) × (((m.pages p).bytes ≡ new) ⊎ ((m.pages p).missed ≡ true)))
done_or_failed t p new m put = grind (arith, nat_tests)

lost : (m : DeviceState) (p : ℕ) (u : DeviceState) → GetStep m p (Ok LooksBad) u → ((m.pages p).fails ≤ (u.pages p).fails) × ((m.pages p).good ≡ true → (m.pages p).fails + 1 ≤ (u.pages p).fails)
lost m p u look = (grind (arith, nat_tests), λ g. grind (arith, nat_tests))

seen : (m : DeviceState) (p : ℕ) (v : List ℕ) (u : DeviceState) → GetStep m p (Ok (Good v)) u → (v ≡ (m.pages p).bytes) × ((m.pages p).missed ≡ true → (m.pages p).fails ≤ (u.pages p).fails)
seen m p v u look = (grind (arith, nat_tests), λ g. grind (arith, nat_tests))

fails_bad : (t : DeviceState) (p : ℕ) (new : List ℕ) (m u : DeviceState) → PutStep t p new false m → GetStep m p (Ok LooksBad) u → (t.pages p).fails + 1 ≤ (u.pages p).fails
fails_bad t p new m u put look = let f = lost m p u look in ⊎_elim (λ d. omega (arith, d.2, f.1 d.0)) (λ d. omega (arith, d.0, f.0)) (done_or_failed t p new m put)

fails_other : (t : DeviceState) (p : ℕ) (new : List ℕ) (m : DeviceState) (v : List ℕ) (u : DeviceState) → PutStep t p new false m → GetStep m p (Ok (Good v)) u → (v ≡ new → ⊥) → (t.pages p).fails + 1 ≤ (u.pages p).fails
fails_other t p new m v u put look other =
    let f = seen m p v u look in
    ⊎_elim (λ d. absurd (other (f.0 ∙ d.1))) (λ d. ⊎_elim (λ b. absurd (other (f.0 ∙ b))) (λ g. omega (arith, d.0, f.1 g)) d.1) (done_or_failed t p new m put)

put_stopped : (t : DeviceState) (p : ℕ) (new : List ℕ) (m : DeviceState) → PutStep t p new true m → IsStopped t m
put_stopped t p new m step = record { power = grind (arith, nat_tests); stops = grind (arith, nat_tests) }

put_served : (t : DeviceState) (p : ℕ) (new : List ℕ) (m : DeviceState) → PutStep t p new false m → (m.stops ≡ t.stops) × Rose t.puts m.puts
put_served t p new m step = (grind (arith, nat_tests), grind (arith, nat_tests))

get_stopped : (t : DeviceState) (p : ℕ) (w : Stopped) (m : DeviceState) → GetStep t p (Err w) m → IsStopped t m
get_stopped t p w m step = record { power = grind (arith, nat_tests); stops = grind (arith, nat_tests) }

get_served : (t : DeviceState) (p : ℕ) (look : Look) (m : DeviceState) → GetStep t p (Ok look) m → IsServed t m
get_served t p look m step = record { power = grind (arith, nat_tests); stops = grind (arith, nat_tests) }

found_good : (t : DeviceState) (p : ℕ) (v : List ℕ) (u : DeviceState) → GetStep t p (Ok (Good v)) u → ((u.pages p).good ≡ true) × ((u.pages p).bytes ≡ v)
found_good t p v u step = grind (arith, nat_tests)

puts_up : (t : DeviceState) (p : ℕ) (new : List ℕ) (stopped : Bool) (m : DeviceState) → PutStep t p new stopped m → m.calls ≤ t.calls + 1
puts_up t p new stopped m step = grind (arith, nat_tests)

stopped_since : (s t m : DeviceState) → Later s t → Later t m → IsStopped t m → IsStopped s m
stopped_since s t m st tm off = record { power = off.power; stops = rose_since s.stops t.stops m.stops st.stops tm.stops off.stops }

ends : (s m : DeviceState) → Later s m → m.power ≡ false → s.waiting ≡ [] → s.power ≡ true → ⊥
ends s m later off quiet on = let on' = later.power quiet on in cc (on', off)

err_only : {A : Type 0} (r : Result (Unit {0}) Stopped) → IsErr r → is_err r ≡ false → A
err_only (Ok v) h ok = absurd (cc h)
err_only (Err v) h ok = absurd (cc ok)

module _ (s : DeviceState) (p : ℕ) (new : List ℕ) (n : ℕ) (below : p < s.count) (t : DeviceState) (l : Putting s p new n t) (few : n + 1 ≤ 4) where
  happened_put : (stopped : Bool) (m : DeviceState) → PutStep t p new stopped m → (from : DeviceState) → Happens from s → Happens from m
  happened_put stopped m step from h = joined from t m (l.happens from h) (putting t m p new stopped (subst (λ c. p < c) (sym l.later.count) below) step)

  at : (x : List ℕ) → (x ≡ new) ⊎ (x ≡ (t.pages p).bytes) → (x ≡ new) ⊎ (x ≡ (s.pages p).bytes)
  at x h = ⊎_elim (λ e. inl e) (λ e. ⊎_elim (λ f. inl (e ∙ f)) (λ f. inr (e ∙ f)) l.bytes) h

  put_err : (m : DeviceState) → PutStep t p new true m → (r : Result (Unit {0}) Stopped) → IsErr r → CarefulPut s p new (is_err r) m
  put_err m step (Ok v) h = absurd (cc h)
  put_err m step (Err v) h =
      let later = put_later t p new true m step in
      let off = put_stopped t p new m step in
      record {
        happens = happened_put true m step;
        later = later_trans s t m l.later later;
        calls = omega (arith, puts_up t p new true m step, l.calls);
        struck = λ q ne. struck_trans q s t m l.later later (l.struck q ne) (put_struck t p new true m step q ne);
        others = λ q ne. put_bytes t p new true m step q ne ∙ l.others q ne;
        bytes = at (m.pages p).bytes (put_bytes_at t p new true m step);
        done = λ is. absurd (cc is);
        wrote = λ is. absurd (cc is);
        served = λ is. absurd (cc is);
        stop = λ _. stopped_since s t m l.later later off;
        calm = λ q on. absurd (ends s m (later_trans s t m l.later later) off.power q on);
      }

  module _ (m : DeviceState) (put : PutStep t p new false m) (answer : Result Look Stopped) (u : DeviceState) (look : GetStep m p answer u) where
    to_m : Later s m
    to_m = later_trans s t m l.later (put_later t p new false m put)

    happened : (from : DeviceState) → Happens from s → Happens from u
    happened from h = joined from m u (happened_put false m put from h) (get m u p answer (subst (λ c. p < c) (sym to_m.count) below) look)

    turn : Later s u
    turn = later_trans s m u to_m (get_later m p answer u look)

    turn_calls : u.calls ≤ s.calls + (2 * n + 2)
    turn_calls = omega (arith, puts_up t p new false m put, gets_up m p answer u look, l.calls)

    turn_struck : (q : ℕ) → q ≢ p → Struck q s u
    turn_struck q ne = struck_trans q s m u to_m (get_later m p answer u look) (struck_trans q s t m l.later (put_later t p new false m put) (l.struck q ne) (put_struck t p new false m put q ne)) (get_struck m p answer u look q)

    turn_others : (q : ℕ) → q ≢ p → (u.pages q).bytes ≡ (s.pages q).bytes
    turn_others q ne = get_bytes m p answer u look q ∙ put_bytes t p new false m put q ne ∙ l.others q ne

    turn_at : ((u.pages p).bytes ≡ new) ⊎ ((u.pages p).bytes ≡ (s.pages p).bytes)
    turn_at = at (u.pages p).bytes (⊎_elim (λ e. inl (get_bytes m p answer u look p ∙ e)) (λ e. inr (get_bytes m p answer u look p ∙ e)) (put_bytes_at t p new false m put))

    at_look : {a : Result Look Stopped} → answer ≡ a → GetStep m p a u
    at_look e = subst (λ (a : Result Look Stopped). GetStep m p a u) e look

    turn_served : (found : Look) → answer ≡ Ok found → IsServed s u
    turn_served found e = let now = get_served m p found u (at_look e) in record { power = now.power; stops = now.stops ∙ (put_served t p new m put).0 ∙ l.stops }

    put_again : (found : Look) → answer ≡ Ok found → (t.pages p).fails + 1 ≤ (u.pages p).fails → ArePutInVain p new (n + 1) s u → Putting s p new (n + 1) u
    put_again found e more vain = record {
      vain = vain;
      happens = happened;
      later = turn;
      calls = omega (arith, turn_calls);
      struck = turn_struck;
      others = turn_others;
      bytes = turn_at;
      tried = omega (arith, more, l.tried);
      stops = (turn_served found e).stops;
    }

    put_found : (v : List ℕ) → answer ≡ Ok (Good v) → v ≡ new → CarefulPut s p new false u
    put_found v e is = record {
      happens = happened;
      later = turn;
      calls = omega (arith, turn_calls);
      struck = turn_struck;
      others = turn_others;
      bytes = turn_at;
      done = λ _. let f = found_good m p v u (at_look e) in (f.0, f.1 ∙ is);
      wrote = λ _. rose_then s.puts m.puts u.puts (rose_since s.puts t.puts m.puts l.later.puts (put_later t p new false m put).puts (put_served t p new m put).1) (get_later m p answer u look).puts;
      served = λ _. turn_served (Good v) e;
      stop = λ is. absurd (cc is);
      calm = λ _ _. refl;
    }

    put_looked_err : (w : Stopped) → answer ≡ Err w → (r : Result (Unit {0}) Stopped) → IsErr r → CarefulPut s p new (is_err r) u
    put_looked_err w e (Ok v) h = absurd (cc h)
    put_looked_err w e (Err v) h =
        let off = get_stopped m p w u (at_look e) in
        record {
          happens = happened;
          later = turn;
          calls = omega (arith, turn_calls);
          struck = turn_struck;
          others = turn_others;
          bytes = turn_at;
          done = λ is. absurd (cc is);
          wrote = λ is. absurd (cc is);
          served = λ is. absurd (cc is);
          stop = λ _. stopped_since s m u to_m (get_later m p answer u look) off;
          calm = λ q on. absurd (ends s u turn off.power q on);
        }

  put_bad : (m u : DeviceState) → PutStep t p new false m → GetStep m p (Ok LooksBad) u → ArePutInVain p new (n + 1) s u → Putting s p new (n + 1) u
  put_bad m u put look vain = put_again m put _ u look LooksBad refl (fails_bad t p new m u put look) vain

  put_other : (m u : DeviceState) (v : List ℕ) → PutStep t p new false m → GetStep m p (Ok (Good v)) u → (v ≡ new → ⊥) → ArePutInVain p new (n + 1) s u → Putting s p new (n + 1) u
  put_other m u v put look other vain = put_again m put _ u look (Good v) refl (fails_other t p new m v u put look other) vain

  module _ (m u : DeviceState) (put : PutStep t p new false m) where
    put_same : (found : Found) → GetStep m p (look_compared (Ok found) (u.pages p).bytes) u → IsCompared (Ok found) (u.pages p).bytes new → found ≡ Same → CarefulPut s p new false u
    put_same Same look is same = put_found m put _ u look (u.pages p).bytes refl (is.same refl)
    put_same Other look is same = absurd (cc same)
    put_same FoundBad look is same = absurd (cc same)

    put_unlike : (found : Found) → GetStep m p (look_compared (Ok found) (u.pages p).bytes) u → IsCompared (Ok found) (u.pages p).bytes new → (found ≡ Same → ⊥) → ArePutInVain p new (n + 1) s u → Putting s p new (n + 1) u
    put_unlike Same look is unlike vain = absurd (unlike refl)
    put_unlike Other look is unlike vain = put_other m u (u.pages p).bytes put look (is.other refl) vain
    put_unlike FoundBad look is unlike vain = put_bad m u put look vain

  pub compared_err : (u : DeviceState) (w : Stopped) → PutCompared t p new (Err w) u → (r : Result (Unit {0}) Stopped) → IsErr r → PutsCarefully s p new (is_err r) u
  compared_err u w both r h = record { put = by both.stops refl; makes = λ b is. subst (λ (b : Bool). PutRun s p new b u) is made }
    where
      made : PutRun s p new (is_err r) u
      made = puts n t (Err w) l.vain both (omega (arith, few)) (λ ok. err_only r h ok) (λ _. refl)

      by : (b : Bool) → both.stops ≡ b → CarefulPut s p new (is_err r) u
      by true e = subst (λ (m : DeviceState). CarefulPut s p new (is_err r) m) (sym (both.stopped e).1) (put_err both.middle (subst (λ (b : Bool). PutStep t p new b both.middle) e both.put) r h)
      by false e = put_looked_err both.middle (subst (λ (b : Bool). PutStep t p new b both.middle) e both.put) _ u (both.got e) w refl r h

  module _ (u : DeviceState) (found : Found) (both : PutCompared t p new (Ok found) u) where
    goes_on : both.stops ≡ false
    goes_on = by both.stops refl
      where
        by : (b : Bool) → both.stops ≡ b → b ≡ false
        by true e = absurd (let is = (both.stopped e).0 in cc is)
        by false e = refl

    was_put : PutStep t p new false both.middle
    was_put = subst (λ (b : Bool). PutStep t p new b both.middle) goes_on both.put

    pub compared_same : found ≡ Same → PutsCarefully s p new false u
    compared_same is = record {
      put = put_same both.middle u was_put found (both.got goes_on) both.compared is;
      makes = λ b same. subst (λ (b : Bool). PutRun s p new b u) same (puts n t (Ok found) l.vain both (omega (arith, few)) (λ _. ap (λ (f : Found). Ok f) is) (λ h. absurd (cc h)));
    }

    pub compared_unlike : (found ≡ Same → ⊥) → Putting s p new (n + 1) u
    compared_unlike unlike = put_unlike both.middle u was_put found (both.got goes_on) both.compared unlike
        (subst (λ k. ArePutInVain p new k s u) (omega arith) (put_once_more n s t u found l.vain both unlike))

-- before the first put
pub putting_first : (s : DeviceState) (p : ℕ) (new : List ℕ) → Putting s p new 0 s
putting_first s p new = record {
  vain = no_put s;
  happens = λ from h. h;
  later = later_refl s;
  calls = omega arith;
  struck = λ q _. inl refl;
  others = λ q _. refl;
  bytes = inr refl;
  tried = omega arith;
  stops = refl;
}
