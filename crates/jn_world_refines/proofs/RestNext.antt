-- What a rest does next.
use Rattle.jn_world_refines.proofs.Common.{◌≡◌, ◌<◌, ◌≤◌, ℕ, zero, suc, ◌+◌, Bool, true, false, List, [], ◌∷◌, length, slice_get, drop, Option, Some, None, refl, sym, ◌∙◌, ap, subst, arith, if◌then◌else◌, fun_ext, ServerNo, DeviceState, waiting, Place, has_work_at, World, servers_from, counts_by, Line, waiting_numbers, Event, pairs_view, StoreView, Setup, is_busy, rubbish_on, servers_of, first_busy, next_event, next_in, resting, Moment, Rests, next_task, Standing, Stands, ReadsPages, IsIdleAt, ActsNext, IsStepTo}
use Rattle.jn_world_refines.proofs.WaitingNumbers.{least-waits, none-waits}
use Rattle.jn_schedule.specs.declared.Event.TheVariants as events
use Rattle.jn_world_refines.proofs.Placed.{get-below, get-there}
use Rattle.jn_world_refines.proofs.Working.{busy-here}
use Rattle.jn_world_refines.proofs.Plain.{no-chance, nothing-step}

-- ---- which server is first

first-from : (rubbish : ServerNo → Bool) (w : World) (n j i : ℕ) → j + i < j + n → is_busy rubbish w (record { 0 = j + i }) ≡ true
    → ((k : ℕ) → k < i → is_busy rubbish w (record { 0 = j + k }) ≡ false) → first_busy rubbish w (servers_from j n) ≡ Some (record { 0 = j + i })
first-from rubbish w zero j i l is before = absurd (omega (arith, l))
first-from rubbish w (suc n) j zero l is before = subst (λ (k : ℕ). first_busy rubbish w (servers_from j (suc n)) ≡ Some (record { 0 = k })) same
    (ap (λ (b : Bool). if b then Some (record { 0 = j }) else first_busy rubbish w (servers_from (j + 1) n)) (subst (λ (k : ℕ). is_busy rubbish w (record { 0 = k }) ≡ true) (sym same) is))
  where
    same : j ≡ j + zero
    same = omega arith
first-from rubbish w (suc n) j (suc i) l is before = ap (λ (b : Bool). if b then Some (record { 0 = j }) else first_busy rubbish w (servers_from (j + 1) n)) (subst (λ (k : ℕ). is_busy rubbish w (record { 0 = k }) ≡ false) none (before zero (omega arith)))
    ∙ subst (λ (k : ℕ). first_busy rubbish w (servers_from (j + 1) n) ≡ Some (record { 0 = k })) (one-on i)
    (first-from rubbish w n (j + 1) i (omega (arith, l)) (subst (λ (k : ℕ). is_busy rubbish w (record { 0 = k }) ≡ true) (sym (one-on i)) is)
    (λ k less. subst (λ (a : ℕ). is_busy rubbish w (record { 0 = a }) ≡ false) (sym (one-on k)) (before (suc k) (omega (arith, less)))))
  where
    none : j + zero ≡ j
    none = omega arith

    one-on : (k : ℕ) → j + 1 + k ≡ j + suc k
    one-on k = omega arith

none-from : (rubbish : ServerNo → Bool) (w : World) (n j : ℕ) → ((k : ℕ) → k < n → is_busy rubbish w (record { 0 = j + k }) ≡ false) → first_busy rubbish w (servers_from j n) ≡ None
none-from rubbish w zero j idle = refl
none-from rubbish w (suc n) j idle = ap (λ (b : Bool). if b then Some (record { 0 = j }) else first_busy rubbish w (servers_from (j + 1) n)) (subst (λ (k : ℕ). is_busy rubbish w (record { 0 = k }) ≡ false) none (idle zero (omega arith)))
    ∙ none-from rubbish w n (j + 1) (λ k less. subst (λ (a : ℕ). is_busy rubbish w (record { 0 = a }) ≡ false) (sym (one-on k)) (idle (suc k) (omega (arith, less))))
  where
    none : j + zero ≡ j
    none = omega arith

    one-on : (k : ℕ) → j + 1 + k ≡ j + suc k
    one-on k = omega arith

pub first-is : (rubbish : ServerNo → Bool) (w : World) (servers n : ℕ) → n < servers → is_busy rubbish w (record { 0 = n }) ≡ true → ((k : ℕ) → k < n → is_busy rubbish w (record { 0 = k }) ≡ false)
    → first_busy rubbish w (servers_from 0 servers) ≡ Some (record { 0 = n })
first-is rubbish w servers n l is before = subst (λ (k : ℕ). first_busy rubbish w (servers_from 0 servers) ≡ Some (record { 0 = k })) (sym (from-none n))
    (first-from rubbish w servers 0 n (omega (arith, l)) (subst (λ (k : ℕ). is_busy rubbish w (record { 0 = k }) ≡ true) (from-none n) is)
    (λ k less. subst (λ (a : ℕ). is_busy rubbish w (record { 0 = a }) ≡ false) (from-none k) (before k less)))
  where
    from-none : (k : ℕ) → k ≡ 0 + k
    from-none k = omega arith

pub none-is : (rubbish : ServerNo → Bool) (w : World) (servers : ℕ) → ((k : ℕ) → k < servers → is_busy rubbish w (record { 0 = k }) ≡ false) → first_busy rubbish w (servers_from 0 servers) ≡ None
none-is rubbish w servers idle = none-from rubbish w servers 0 (λ k less. subst (λ (a : ℕ). is_busy rubbish w (record { 0 = a }) ≡ false) (from-none k) (idle k less))
  where
    from-none : (k : ℕ) → k ≡ 0 + k
    from-none k = omega arith

-- ---- the next event

head-is : (ks : List ℕ) (k : ℕ) (busy : Option ServerNo) → slice_get ks 0 ≡ Some k → next_event ks busy ≡ Some (events.Deliver k)
head-is [] k busy e = absurd (cc e)
head-is (j ∷ ks) k busy e = ap (λ (i : ℕ). Some (events.Deliver i)) (some-of j k e)
  where
    some-of : (a b : ℕ) → Some a ≡ Some b → a ≡ b
    some-of a b e = cc

module _ {S : Type 0} (look : S → StoreView) (device : S → DeviceState) (seen : (s : S) → look s ≡ pairs_view (device s)) (x : Setup) (w : Standing S) (m : Moment) (stand : Stands look device x w m) where
  abbrev v : World
  v = m.state.course.world

  abbrev rubbish : ServerNo → Bool
  rubbish = rubbish_on x m.devices

  idle-at : (n : ℕ) (p : Place S) → slice_get w.places n ≡ Some p → IsIdleAt look device p → is_busy rubbish v (record { 0 = n }) ≡ false
  idle-at n p at idle = busy-here look device seen x w m stand (record { 0 = n }) p at idle.reads ∙ idle.idle

  none-before : (n : ℕ) → n ≤ length w.places → ((i : ℕ) (p : Place S) → i < n → slice_get w.places i ≡ Some p → IsIdleAt look device p) → (k : ℕ) → k < n → is_busy rubbish v (record { 0 = k }) ≡ false
  none-before n few idle k less = by (get-there w.places k (omega (arith, few, less)))
    where
      by : ((p : Place S) × (slice_get w.places k ≡ Some p)) → is_busy rubbish v (record { 0 = k }) ≡ false
      by (p, e) = idle-at k p e (idle k p less e)

  -- the least message that waits
  pub next-delivers : (k : ℕ) → waiting w.net ≡ Some k → next_in x rubbish m.state.course ≡ Some (events.Deliver k)
  next-delivers k e = let net = stand.net in ap (λ (ks : List ℕ). next_event ks (first_busy rubbish v (servers_of x))) net.waiting ∙ head-is (waiting_numbers w.net) k (first_busy rubbish v (servers_of x)) (sym (least-waits w.net) ∙ e)

  -- where none waits, the first server that has something to do
  pub next-works : waiting w.net ≡ None → (q : ServerNo) (place : Place S) → slice_get w.places q.0 ≡ Some place → ReadsPages look device (counts_by place.counts) place.slot → has_work_at look place.slot ≡ true
      → ((i : ℕ) (p : Place S) → i < q.0 → slice_get w.places i ≡ Some p → IsIdleAt look device p) → next_in x rubbish m.state.course ≡ Some (events.Step q)
  next-works none q place at reads busy idle = ap (λ (ks : List ℕ). next_event ks (first_busy rubbish v (servers_of x))) (none-waits w.net m.state.course stand.net none)
      ∙ ap (next_event []) (first-is rubbish v x.servers q.0 (subst (λ (n : ℕ). q.0 < n) stand.servers below) (busy-here look device seen x w m stand q place at reads ∙ busy) (none-before q.0 (omega (arith, below)) idle))
    where
      below : q.0 < length w.places
      below = get-below w.places q.0 place at

  -- or nothing
  pub next-none : waiting w.net ≡ None → ((i : ℕ) (p : Place S) → slice_get w.places i ≡ Some p → IsIdleAt look device p) → next_in x rubbish m.state.course ≡ None
  next-none none idle = ap (λ (ks : List ℕ). next_event ks (first_busy rubbish v (servers_of x))) (none-waits w.net m.state.course stand.net none)
      ∙ ap (next_event []) (none-is rubbish v x.servers (λ k less. none-before (length w.places) (omega arith) (λ i p l e. idle i p e) k (subst (λ (n : ℕ). k < n) (sym stand.servers) less)))

  module _ (rests : next_task m.state ≡ Some Rests) where
    -- A rest does the next event, and goes on.
    pub rest-next : (event : Event) → next_in x rubbish m.state.course ≡ Some event → ActsNext x m event (Rests ∷ [])
    rest-next event e = record {
      task = Rests;
      next = rests;
      deed = λ h same. ap (λ (f : ServerNo → Bool). resting x h m.state.callers v (next_in x f m.state.course)) (fun_ext same) ∙ ap (λ (o : Option Event). resting x h m.state.callers v o) e;
      begun_is = refl;
    }

    -- It is over where nothing is left.
    pub rest-over-step : next_in x rubbish m.state.course ≡ None → (lines : List Line) → IsStepTo look device x m (drop 1 m.state.tasks) w lines lines
    rest-over-step e lines = nothing-step look device seen x w m stand Rests [] rests refl (ap (λ (o : Option Event). resting x (no-chance look device seen x w m stand) m.state.callers v o) e) lines
