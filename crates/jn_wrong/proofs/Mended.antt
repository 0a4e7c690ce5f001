-- Behind a restart root, records and heads are mended: each has one candidate, and where no fault waited either half of it may go bad.
use Rattle.jn_wrong.proofs.Common.{◌≡◌, ◌<◌, ◌/◌, ◌+◌, ◌-◌, ℕ, Bool, true, false, not, ◌&&◌, if◌then◌else◌, [], ◌∷◌, Option, None, is_some, refl, ◌∙◌, ap, subst, arith, nat_tests, nat_lt, ServerNo, EventRefusal, EpochsUsedUp, World, run, Setup, Chance, Task, Meets, ComesUp, Use, Recovers, IsUsed, IsRecovery, Alone, deed_of, met, refusal_of, is_used_up, given_up, recovered, restarted, brought_up, Moment, DoesStep, DeviceState, PageState, decay_outside, pairs_view, IsWholePage, partner_at, slot_place, head_place, steps_in, IsUpBehind, MayDecay, AreMended, data_place}
use Rattle.jn_schedule.specs.declared.Event.TheVariants as events
use Rattle.jn_report.specs.declared.line.Text.TheVariants as says
use Rattle.jn_wrong.proofs.Calls.{IsUnfailed, calls-unfailed}
use Rattle.jn_wrong.proofs.Pairs.{each-good}

-- ---- one page

-- a half that hasn't failed may go bad where the other one is good
fine : (half : ℕ) (pages : ℕ → PageState) (p : ℕ) → (pages p).fails ≡ 0 → (pages (partner_at half p)).good ≡ true → decay_outside half pages p ≡ false
fine half pages p unfailed other = ap (λ (n : ℕ). (pages p).good && not (nat_lt n 3 && (pages (partner_at half p)).good)) unfailed
    ∙ ap (λ (b : Bool). (pages p).good && not (true && b)) other ∙ never (pages p).good
  where
    never : (b : Bool) → (b && false) ≡ false
    never true = refl
    never false = refl

first-partner : (half i : ℕ) → i < half → partner_at half i ≡ i + half
first-partner half i l = by (nat_lt i half) refl
  where
    over : nat_lt i half ≡ false → ⊥
    over e = grind (arith, nat_tests, e, l)

    by : (b : Bool) → nat_lt i half ≡ b → (if b then i + half else i - half) ≡ i + half
    by true e = refl
    by false e = absurd (over e)

second-partner : (half i : ℕ) → i < half → partner_at half (i + half) ≡ i
second-partner half i l = by (nat_lt (i + half) half) refl
  where
    under : nat_lt (i + half) half ≡ true → ⊥
    under e = grind (arith, nat_tests, e)

    by : (b : Bool) → nat_lt (i + half) half ≡ b → (if b then i + half + half else i + half - half) ≡ i
    by true e = absurd (under e)
    by false e = omega arith

may-decay : (e : DeviceState) → ((p : ℕ) → (e.pages p).fails ≡ 0) → (i : ℕ) → i < e.count / 2 → IsWholePage (pairs_view e) i → MayDecay e i
may-decay e unfailed i l whole = record {
  first = fine half e.pages i (unfailed i) (ap (λ (p : ℕ). (e.pages p).good) (first-partner half i l) ∙ both.1);
  second = fine half e.pages (i + half) (unfailed (i + half)) (ap (λ (p : ℕ). (e.pages p).good) (second-partner half i l) ∙ both.0);
}
  where
    half : ℕ
    half = e.count / 2

    both : ((e.pages i).good ≡ true) × ((e.pages (i + half)).good ≡ true)
    both = each-good (e.pages i).good (e.pages (i + half)).good whole.both

-- ---- a restart

module _ (x : Setup) (q : ServerNo) (a b : Moment) (d : DoesStep x a b) (there : q.0 < x.servers) (recovers : (deed_of x d.chance d.task a.state).device ≡ Recovers q) (up : IsUpBehind x a b d q) where
  abbrev w : World
  w = a.state.course.world

  abbrev e : DeviceState
  e = b.devices q

  recovery : IsRecovery q (x.counts q) d.chance true (a.devices q) e
  recovery = by (subst (λ (device : Use). IsUsed x d.chance device w (run (steps_in x a b d) w) a.devices b.devices) recovers d.befalls.used)
    where
      by : Alone q (IsRecovery q (x.counts q) d.chance (is_some ((run (steps_in x a b d) w).memory q))) a.devices b.devices → IsRecovery q (x.counts q) d.chance true (a.devices q) e
      by alone = subst (λ (c : Bool). IsRecovery q (x.counts q) d.chance c (a.devices q) e) up alone.its

  unfailed : (a.devices q).waiting ≡ [] → (p : ℕ) → (e.pages p).fails ≡ 0
  unfailed quiet p = ap (λ (f : DeviceState). (f.pages p).fails) (recovery.after ∙ recovery.called.after) ∙ called.fails
    where
      called : IsUnfailed p recovery.called.last
      called = calls-unfailed p recovery.powered recovery.called.last recovery.called.happens
          (record { waiting = recovery.power.waiting ∙ quiet; power = recovery.power.power_is; fails = ap (λ (y : PageState). y.fails) (recovery.power.pages_are p) })

  within : (i : ℕ) → i < 1 + (x.counts q).pool + (x.counts q).heads + (x.counts q).leaves → i < e.count / 2
  within i l = below (x.counts q).pool (x.counts q).heads (x.counts q).leaves (e.count / 2) (let k = d.befalls.recoverable q there in k.count) l
    where
      below : (pool heads leaves n : ℕ) → 1 + pool + heads + leaves ≡ n → i < 1 + pool + heads + leaves → i < n
      below pool heads leaves n k m = omega (arith, k, m)

  mended : AreMended (x.counts q) (a.devices q) e
  mended = record {
    clean = recovery.front refl;
    root = λ quiet. may-decay e (unfailed quiet) 0 (within 0 (omega arith)) (let whole = recovery.front_whole refl quiet in whole.root);
    pool = λ quiet i l. may-decay e (unfailed quiet) (slot_place (x.counts q) i) (within (slot_place (x.counts q) i) (omega (arith, l))) (let whole = recovery.front_whole refl quiet in whole.pool i l);
    heads = λ quiet i l. may-decay e (unfailed quiet) (head_place (x.counts q) i) (within (head_place (x.counts q) i) (omega (arith, l))) (let whole = recovery.front_whole refl quiet in whole.heads i l);
    maps = λ quiet c i l names. may-decay e (unfailed quiet) (data_place (x.counts q) i) (within (data_place (x.counts q) i) (omega (arith, l))) (let whole = recovery.front_whole refl quiet in whole.maps c i l names);
  }

-- its device recovers whether or not the epochs are used up
restarts : (h : Chance) (q : ServerNo) (w : World) → (restarted h q w).device ≡ Recovers q
restarts h q w = by (is_used_up h q w)
  where
    by : (b : Bool) → (if b then record (given_up h q) { texts = says.RefusedEvent EpochsUsedUp ∷ [] } else recovered h q).device ≡ Recovers q
    by true = refl
    by false = refl

rises : (h : Chance) (q : ServerNo) (w : World) → (brought_up h q w).device ≡ Recovers q
rises h q w = by (is_used_up h q w)
  where
    by : (b : Bool) → (if b then record (given_up h q) { cuts = true } else recovered h q).device ≡ Recovers q
    by true = refl
    by false = refl

pub mended-in-schedule : (x : Setup) (q : ServerNo) (a b : Moment) (d : DoesStep x a b) → q.0 < x.servers → d.task ≡ Meets (events.Restart q) → refusal_of x a.state.course.world (events.Restart q) ≡ None → IsUpBehind x a b d q
    → AreMended (x.counts q) (a.devices q) (b.devices q)
mended-in-schedule x q a b d there task unrefused up = mended x q a b d there (ap (λ (t : Task). (deed_of x d.chance t a.state).device) task
    ∙ ap (λ (o : Option EventRefusal). (met x d.chance (events.Restart q) a.state.clients a.state.course.world o).device) unrefused ∙ restarts d.chance q a.state.course.world) up

pub mended-at-start-and-end : (x : Setup) (q : ServerNo) (a b : Moment) (d : DoesStep x a b) → q.0 < x.servers → d.task ≡ ComesUp q → IsUpBehind x a b d q → AreMended (x.counts q) (a.devices q) (b.devices q)
mended-at-start-and-end x q a b d there task up = mended x q a b d there (ap (λ (t : Task). (deed_of x d.chance t a.state).device) task ∙ rises d.chance q a.state.course.world) up
