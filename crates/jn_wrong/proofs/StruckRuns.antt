-- Whole runs over devices at whose restart a fault strikes that waited.
use Rattle.jn_wrong.proofs.Common.{◌≡◌, ◌≤◌, ◌+◌, ◌++◌, ℕ, true, false, true≢false, List, [], ◌∷◌, append_assoc, refl, sym, ◌∙◌, ap, arith, Meets, State, Chance, FaultKind, StopBefore, Null, Bad, Outside, recovered, pick_read, IsRecovery, Happens, get, put, joined, more, calm, stopped, s0, DeviceState, Armed, bumped, arms_first, arms_in_order, arms_null, null_told, stop_met, outside_in_order, Ok, Err, IsOneOfGood, whole_only}
use Rattle.jn_device.specs.declared.Look.TheVariants.{Good}
use Rattle.jn_device.specs.Happens.{none}
use Rattle.jn_schedule.specs.declared.Event.TheVariants as events
use Rattle.jn_wrong.proofs.NewDevice.{Tally, device, good_at, bytes_at, thrice, thrice-least, bumped-least, mends, halves-equal, blank-on}
use Rattle.jn_wrong.proofs.OnDevices.{alone, front-clean, front-whole, maps-clean, named_by, few-so}
use Rattle.jn_wrong.proofs.OnSteps.{does, idled}
use Rattle.jn_wrong.proofs.OnEvents.{armed, crashed, begins-then, arms-then, crashes-then}
use Rattle.jn_wrong.proofs.Endings.{one-so, names-nothing, at_up, first_tally, from-up, from-off}
use Rattle.jn_wrong.proofs.Pairs.{the_counts}

-- ---- a device that has reported faults goes on as one that hasn't

abbrev telling : List Outside → DeviceState → DeviceState
telling told d = record d { told = told ++ d.told }

tells-on : (told : List Outside) (d e : DeviceState) → Happens d e → Happens (telling told d) (telling told e)
tells-on told d e (none _) = none (telling told d)
tells-on told d e (get _ _ p answer lt step) = get (telling told d) (telling told e) p answer lt (record {
  call = let c = step.call in record { count = c.count; power = c.power; waiting = c.waiting; told_is = ap (λ (l : List Outside). told ++ l) c.told_is ∙ sym (append_assoc told d.told _); calls = c.calls; stops_are = c.stops_are };
  answers = step.answers;
  page = step.page;
  others = step.others;
  puts = step.puts;
})
tells-on told d e (put _ _ p new stopped lt step) = put (telling told d) (telling told e) p new stopped lt (record {
  call = let c = step.call in record { count = c.count; power = c.power; waiting = c.waiting; told_is = ap (λ (l : List Outside). told ++ l) c.told_is ∙ sym (append_assoc told d.told _); calls = c.calls; stops_are = c.stops_are };
  answers = step.answers;
  page = step.page;
  others = step.others;
  puts = step.puts;
})
tells-on told d e (joined _ u _ a b) = joined (telling told d) (telling told u) (telling told e) (tells-on told d u a) (tells-on told u e b)

-- ---- a crash, and a fault that waits for the restart

abbrev waits : ℕ → FaultKind → Armed
waits n kind = record { after = n; kind = kind }

-- it is down, and these faults wait
abbrev off_with : List Armed → DeviceState
off_with waiting = device (good_at 1) false waiting first_tally

-- behind a get
abbrev got_on : Tally → Tally
got_on t = record { calls = bumped t.calls; puts = t.puts; stops = t.stops }

-- ---- a stop before the first call

abbrev stop_now : Chance
stop_now = stopped (λ c. whole_only 0)

abbrev stopped_tally : Tally
stopped_tally = record { calls = first_tally.calls; puts = first_tally.puts; stops = bumped first_tally.stops }

abbrev as_stopped : DeviceState
as_stopped = device (good_at 1) false [] stopped_tally

is-stopped : IsRecovery s0 the_counts stop_now false (off_with (waits 1 StopBefore ∷ [])) as_stopped
is-stopped = record {
  powered = device (good_at 1) true (waits 1 StopBefore ∷ []) first_tally;
  last = as_stopped;
  power = record { count = refl; pages_are = λ q. refl; power_is = refl; waiting = refl; told = refl; calls = refl; puts = refl; stops = refl };
  pick = λ n. false;
  read = λ up. absurd (true≢false (sym up));
  called = record {
    last = as_stopped;
    happens = get (device (good_at 1) true (waits 1 StopBefore ∷ []) first_tally) as_stopped 0 (Err (record {})) (omega arith) (record {
      call = record { count = refl; power = refl; waiting = refl; told_is = refl; calls = refl; stops_are = refl };
      answers = refl;
      page = refl;
      others = λ q ne. refl;
      puts = refl;
    });
    few = few-so (named_by (off_with (waits 1 StopBefore ∷ [])) (λ n. false)) stopped_tally.calls first_tally.calls (omega arith);
    whole = λ c i lt whole. record { both = refl; clean = halves-equal 1 i lt };
    told = refl;
    stop = refl;
    after = refl;
  };
  after = refl;
  front = λ up. absurd (true≢false (sym up));
  maps = λ up. absurd (true≢false (sym up));
  front_whole = λ up quiet. absurd (true≢false (sym up));
  root = λ up. absurd (true≢false (sym up));
}

abbrev stop_armed : State
stop_armed = armed 1 StopBefore (crashed (at_up arms_first))

pub stop-one : IsOneOfGood arms_first stop_met
stop-one = one-so arms_first stop_met _ _
    (crashes-then 1 (omega arith) (at_up arms_first) _ (λ q. true) (λ q. 0) [] first_tally (record { begins = refl; next = refl; is = refl; found = λ c. refl }) (λ c. refl)
    (arms-then 1 (omega arith) (crashed (at_up arms_first)) _ 1 StopBefore (λ q. true) (λ q. 0) false [] first_tally refl (record { begins = refl; next = refl; is = refl; found = λ c. refl })
    (begins-then 1 (omega arith) stop_armed _ (events.Restart s0) (recovered calm s0) (record { begins = refl; next = refl; is = refl; found = λ c. refl }) (λ q. true) (λ q. 0) false (waits 1 StopBefore ∷ []) first_tally
    (more _ _ _ (does stop_now (Meets (events.Restart s0)) (recovered stop_now s0) (idled 1 stop_armed) (off_with (waits 1 StopBefore ∷ [])) as_stopped 1 1 refl refl
    (blank-on 1 (omega arith) (λ q. true) (λ q. 0) false (waits 1 StopBefore ∷ []) first_tally) (blank-on 1 (omega arith) (λ q. true) (λ q. 0) false [] stopped_tally) (λ q. refl) (tt, (tt, tt)) (λ c. refl) refl
    (alone (λ d e. IsRecovery s0 the_counts stop_now false d e) (off_with (waits 1 StopBefore ∷ [])) as_stopped is-stopped))
    (from-off 1 (omega arith) _ _ 3 _ _ _ 5 (omega arith) (λ q. true) (λ q other. refl) (λ q. 0) [] stopped_tally))))) refl refl refl

-- ---- faults that a get refuses

abbrev refused : FaultKind → ℕ → Outside
refused kind page = record { kind = kind; page = page }

-- the root's first half is read
gets-null : Happens (device (good_at 1) true (waits 1 Null ∷ []) first_tally) (telling (refused Null 0 ∷ []) (device (good_at 1) true [] (got_on first_tally)))
gets-null = get (device (good_at 1) true (waits 1 Null ∷ []) first_tally) (telling (refused Null 0 ∷ []) (device (good_at 1) true [] (got_on first_tally))) 0 (Ok (Good (bytes_at 1 0))) (omega arith) (record {
  call = record { count = refl; power = refl; waiting = refl; told_is = refl; calls = refl; stops_are = refl };
  answers = refl;
  page = refl;
  others = λ q ne. refl;
  puts = refl;
})

-- and its second one too
abbrev one_told : DeviceState
one_told = telling (refused Null 0 ∷ []) (device (good_at 1) true (waits 1 Bad ∷ []) (got_on first_tally))

gets-both : Happens (device (good_at 1) true (waits 1 Null ∷ waits 2 Bad ∷ []) first_tally) (telling (refused Null 0 ∷ refused Bad 177 ∷ []) (device (good_at 1) true [] (got_on (got_on first_tally))))
gets-both = joined (device (good_at 1) true (waits 1 Null ∷ waits 2 Bad ∷ []) first_tally) one_told (telling (refused Null 0 ∷ refused Bad 177 ∷ []) (device (good_at 1) true [] (got_on (got_on first_tally))))
    (get (device (good_at 1) true (waits 1 Null ∷ waits 2 Bad ∷ []) first_tally) one_told 0 (Ok (Good (bytes_at 1 0))) (omega arith) (record {
      call = record { count = refl; power = refl; waiting = refl; told_is = refl; calls = refl; stops_are = refl };
      answers = refl;
      page = refl;
      others = λ q ne. refl;
      puts = refl;
    }))
    (get one_told (telling (refused Null 0 ∷ refused Bad 177 ∷ []) (device (good_at 1) true [] (got_on (got_on first_tally)))) 177 (Ok (Good (bytes_at 1 177))) (omega arith) (record {
      call = record { count = refl; power = refl; waiting = refl; told_is = refl; calls = refl; stops_are = refl };
      answers = refl;
      page = refl;
      others = λ q ne. refl;
      puts = refl;
    }))

abbrev telling_chance : List Outside → Chance
telling_chance told = record calm { told = told }

-- behind such gets the restart goes on
recovers-told : (told : List Outside) (waiting : List Armed) (t : Tally) → told ++ [] ≡ told → t.calls ≤ first_tally.calls + 2
    → Happens (device (good_at 1) true waiting first_tally) (telling told (device (good_at 1) true [] t)) → IsRecovery s0 the_counts (telling_chance told) true (off_with waiting) (device (good_at 2) true [] (thrice t))
recovers-told told waiting t same near gets = record {
  powered = device (good_at 1) true waiting first_tally;
  last = device (good_at 2) true [] (thrice t);
  power = record { count = refl; pages_are = λ q. refl; power_is = refl; waiting = refl; told = refl; calls = refl; puts = refl; stops = refl };
  pick = pick_read (telling_chance told);
  read = λ up. refl;
  called = record {
    last = telling told (device (good_at 2) true [] (thrice t));
    happens = joined (device (good_at 1) true waiting first_tally) (telling told (device (good_at 1) true [] t)) (telling told (device (good_at 2) true [] (thrice t))) gets
        (tells-on told (device (good_at 1) true [] t) (device (good_at 2) true [] (thrice t)) (mends 1 2 5 (λ q. true) t (omega arith) (λ q other. refl)));
    few = few-so (named_by (off_with waiting) (pick_read (telling_chance told))) (thrice t).calls first_tally.calls (let three = thrice-least t in omega (arith, three, near));
    whole = λ c i lt whole. record { both = refl; clean = halves-equal 2 i lt };
    told = sym same;
    stop = refl;
    after = refl;
  };
  after = refl;
  front = λ up. front-clean 2 (λ q. true) (λ q. 0) true [] (thrice t);
  maps = λ up. maps-clean 2 (λ q. true) (λ q. 0) true [] (thrice t);
  front_whole = λ up quiet. front-whole 2 true [] (thrice t);
  root = λ up. (2, record { first = refl; second = refl });
}

abbrev null_armed : State
null_armed = armed 1 Null (crashed (at_up arms_null))

pub null-one : IsOneOfGood arms_null (null_told Null 0)
null-one = one-so arms_null (null_told Null 0) _ _
    (crashes-then 1 (omega arith) (at_up arms_null) _ (λ q. true) (λ q. 0) [] first_tally (record { begins = refl; next = refl; is = refl; found = λ c. refl }) (λ c. refl)
    (arms-then 1 (omega arith) (crashed (at_up arms_null)) _ 1 Null (λ q. true) (λ q. 0) false [] first_tally refl (record { begins = refl; next = refl; is = refl; found = λ c. refl })
    (begins-then 1 (omega arith) null_armed _ (events.Restart s0) (recovered calm s0) (record { begins = refl; next = refl; is = refl; found = λ c. refl }) (λ q. true) (λ q. 0) false (waits 1 Null ∷ []) first_tally
    (more _ _ _ (does (telling_chance (refused Null 0 ∷ [])) (Meets (events.Restart s0)) (recovered (telling_chance (refused Null 0 ∷ [])) s0) (idled 1 null_armed) (off_with (waits 1 Null ∷ [])) (device (good_at 2) true [] (thrice (got_on first_tally))) 1 2 refl refl
    (blank-on 1 (omega arith) (λ q. true) (λ q. 0) false (waits 1 Null ∷ []) first_tally) (blank-on 2 (omega arith) (λ q. true) (λ q. 0) true [] (thrice (got_on first_tally))) (λ q. refl) (names-nothing, tt) (λ c. refl) refl
    (alone (λ d e. IsRecovery s0 the_counts (telling_chance (refused Null 0 ∷ [])) true d e) (off_with (waits 1 Null ∷ [])) (device (good_at 2) true [] (thrice (got_on first_tally)))
    (recovers-told (refused Null 0 ∷ []) (waits 1 Null ∷ []) (got_on first_tally) refl (let one = bumped-least first_tally.calls in omega (arith, one)) gets-null)))
    (from-up 2 (omega arith) _ _ _ 3 _ _ _ 5 (omega arith) (λ q. true) (λ q other. refl) (λ q. 0) [] (thrice (got_on first_tally))))))) refl refl refl

abbrev both_armed : State
both_armed = armed 2 Bad (armed 1 Null (crashed (at_up arms_in_order)))

abbrev two_told : List Outside
two_told = refused Null 0 ∷ refused Bad 177 ∷ []

pub in-order-one : IsOneOfGood arms_in_order (outside_in_order 0 177)
in-order-one = one-so arms_in_order (outside_in_order 0 177) _ _
    (crashes-then 1 (omega arith) (at_up arms_in_order) _ (λ q. true) (λ q. 0) [] first_tally (record { begins = refl; next = refl; is = refl; found = λ c. refl }) (λ c. refl)
    (arms-then 1 (omega arith) (crashed (at_up arms_in_order)) _ 1 Null (λ q. true) (λ q. 0) false [] first_tally refl (record { begins = refl; next = refl; is = refl; found = λ c. refl })
    (arms-then 1 (omega arith) (armed 1 Null (crashed (at_up arms_in_order))) _ 2 Bad (λ q. true) (λ q. 0) false (waits 1 Null ∷ []) first_tally refl (record { begins = refl; next = refl; is = refl; found = λ c. refl })
    (begins-then 1 (omega arith) both_armed _ (events.Restart s0) (recovered calm s0) (record { begins = refl; next = refl; is = refl; found = λ c. refl }) (λ q. true) (λ q. 0) false (waits 1 Null ∷ waits 2 Bad ∷ []) first_tally
    (more _ _ _ (does (telling_chance two_told) (Meets (events.Restart s0)) (recovered (telling_chance two_told) s0) (idled 1 both_armed) (off_with (waits 1 Null ∷ waits 2 Bad ∷ [])) (device (good_at 2) true [] (thrice (got_on (got_on first_tally)))) 1 2 refl refl
    (blank-on 1 (omega arith) (λ q. true) (λ q. 0) false (waits 1 Null ∷ waits 2 Bad ∷ []) first_tally) (blank-on 2 (omega arith) (λ q. true) (λ q. 0) true [] (thrice (got_on (got_on first_tally)))) (λ q. refl) (names-nothing, tt) (λ c. refl) refl
    (alone (λ d e. IsRecovery s0 the_counts (telling_chance two_told) true d e) (off_with (waits 1 Null ∷ waits 2 Bad ∷ [])) (device (good_at 2) true [] (thrice (got_on (got_on first_tally))))
    (recovers-told two_told (waits 1 Null ∷ waits 2 Bad ∷ []) (got_on (got_on first_tally)) refl (let one = bumped-least first_tally.calls in let two = bumped-least (bumped first_tally.calls) in omega (arith, one, two)) gets-both)))
    (from-up 2 (omega arith) _ _ _ 4 _ _ _ 5 (omega arith) (λ q. true) (λ q other. refl) (λ q. 0) [] (thrice (got_on (got_on first_tally))))))))) refl refl refl
