-- A restart that faults wait for: what it reports, and that a stop at its first call isn't passed by.
use Rattle.jn_wrong.proofs.Common.{◌≡◌, ◌⊎◌, inl, inr, ℕ, ◌+◌, Bool, true, false, not, ◌||◌, List, [], ◌∷◌, ◌++◌, map, Option, Some, None, is_some, refl, sym, ◌∙◌, ap, subst, arith, if◌then◌else◌, nat_eq, list_any, ServerNo, Event, Line, When, Text, Chance, allowed, Counts, Begins, Meets, ComesUp, State, next_task, EpochsUsedUp, TooManyArmed, Arms, Pick, StableState, World, Deed, Alone, Befalls, IsRecovery, last_epoch, given_up, recovered, recovering, pick_read, told_unless, refusal_of, begun, done, made, lines_at, when_of, own_texts, go_on, append-nil, run, Moment, FaultKind, Outside, Armed, DeviceState, PageState, may_arm, powered_off, FaultArmed, found_on, pairs_view, s0, recovers, is_stopped, may-lead, Longer, longer, IsNoneOfGood, arms_first, stop_passed_by, Left}
use Rattle.jn_wrong.proofs.StillRuns.{still}
use Rattle.std.specs.Prelude.{◌/◌}
use Rattle.jn_base.specs.declared.device.FaultKind.TheVariants as faults
use Rattle.jn_page_state.proofs.Picking.{same_found}
use Rattle.jn_schedule.specs.declared.Event.TheVariants as events
use Rattle.jn_report.specs.declared.line.Text.TheVariants as says
use Rattle.jn_wrong.proofs.Calls.{first-call-stops}
use Rattle.jn_wrong.proofs.Driving.{Stand, Driven, drive, begins-one, answered, answers-one, crashes-one, recovers-one}
use Rattle.jn_wrong.proofs.OneServer.{x1, at_first, at_up, none-of-good}
use Rattle.jn_wrong.proofs.Pairs.{IsWhole, both-good, recovery-pairs}

-- these wait, the server is down or up, and the first epoch stands on its pages
pub record Armed_so (power : Bool) (wait : List Armed) (d : DeviceState) : Type 0 where
  pub count : d.count ≡ 354
  pub waiting : d.waiting ≡ wait
  pub told : d.told ≡ []
  pub power_is : d.power ≡ power
  pub epoch : (c : Pick) → (found_on (x1.counts s0) (pairs_view d) c).epoch ≡ 1

-- ---- until the restart

module _ (schedule : List Event) (epochs : ServerNo → ℕ) (last : Moment) (over : next_task last.state ≡ None) where
  pub comes-armed : Stand x1 last (at_first schedule epochs) IsWhole → Stand x1 last (at_up schedule epochs) (Armed_so true [])
  comes-armed h = recovers-one x1 refl last over (at_first schedule epochs) (ComesUp s0) IsWhole (Armed_so true [])
      (record { epoch = 0; below = refl; found = λ c. refl; not_last = refl }) refl refl
      (λ g e. ap (λ (b : Bool). if b then record (given_up g s0) { cuts = true } else recovered g s0) e) refl
      (λ d p. (p.told, p.waiting))
      (λ g e. ap (λ stop. is_some ((run (recovering g s0 stop) (at_first schedule epochs).course.world).memory s0)) e)
      (λ g d e r p lit stop found. let k = recovery-pairs (x1.counts s0) g d e r (both-good d p) lit in record {
        count = k.count;
        waiting = k.waiting;
        told = k.told;
        power_is = lit;
        epoch = λ c. sym (ap (λ (y : StableState). y.epoch) (found c)) ∙ ap (λ o. ((run (recovering g s0 o) (at_first schedule epochs).course.world).found s0 c).epoch) stop;
      }) h

module _ (last : Moment) (over : next_task last.state ≡ None) where
  abbrev pub begun_by : Event → State → State
  begun_by e s = done x1 still (Begins e) s

  abbrev pub armed_by : ℕ → FaultKind → State → State
  armed_by n kind s = answered x1 (begun_by (events.Arm s0 n kind) s) (events.Arm s0 n kind) (Arms s0 n kind) []

  abbrev pub crashed_by : State → State
  crashed_by s = done x1 still (Meets (events.Crash s0)) (begun_by (events.Crash s0) s)

  pub arms-dark : (s : State) (n : ℕ) (kind : FaultKind) (wait : List Armed) → may_arm n wait ≡ true → next_task s ≡ Some (Begins (events.Arm s0 n kind)) → next_task (begun_by (events.Arm s0 n kind) s) ≡ Some (Meets (events.Arm s0 n kind))
      → refusal_of x1 (begun_by (events.Arm s0 n kind) s).course.world (events.Arm s0 n kind) ≡ None → Stand x1 last s (Armed_so false wait) → Stand x1 last (armed_by n kind s) (Armed_so false (wait ++ (record { after = n; kind = kind }) ∷ []))
  arms-dark s n kind wait may k m unrefused h = answers-one x1 refl last over (begun_by (events.Arm s0 n kind) s) (events.Arm s0 n kind) (Arms s0 n kind) (λ b. told_unless b (says.RefusedEvent TooManyArmed)) true
      (Armed_so false wait) (Armed_so false (wait ++ (record { after = n; kind = kind }) ∷ [])) m unrefused (λ g. refl) (λ told. refl) (λ g ds es used p. by (ds s0) (es s0) (allowed g.found) used.its p)
      (begins-one x1 refl last over s (events.Arm s0 n kind) (Armed_so false wait) k h)
    where
      by : (d e : DeviceState) (answer : Bool) → FaultArmed d n kind answer e → Armed_so false wait d → (answer ≡ true) × Armed_so false (wait ++ (record { after = n; kind = kind }) ∷ []) e
      by d e answer a p = (
        permitted,
        record {
          count = ap (λ (f : DeviceState). f.count) is ∙ p.count;
          waiting = ap (λ (f : DeviceState). f.waiting) is ∙ ap (λ (ws : List Armed). ws ++ (record { after = n; kind = kind }) ∷ []) p.waiting;
          told = ap (λ (f : DeviceState). f.told) is ∙ p.told;
          power_is = ap (λ (f : DeviceState). f.power) is ∙ p.power_is;
          epoch = λ c. ap (λ (f : DeviceState). (found_on (x1.counts s0) (pairs_view f) c).epoch) is ∙ p.epoch c;
        },
      )
        where
          permitted : answer ≡ true
          permitted = a.answers ∙ ap (may_arm n) p.waiting ∙ may

          is : e ≡ record d { waiting = d.waiting ++ (record { after = n; kind = kind }) ∷ [] }
          is = a.armed ∙ ap (λ (b : Bool). record d { waiting = if b then d.waiting ++ (record { after = n; kind = kind }) ∷ [] else d.waiting }) permitted

  pub off : (wait : List Armed) (d : DeviceState) → Armed_so true wait d → Armed_so false wait (powered_off d)
  off wait d p = record { count = p.count; waiting = p.waiting; told = p.told; power_is = refl; epoch = p.epoch }

-- ---- the restart

-- what the power leaves as it is
module _ {s : ServerNo} (g : Counts) (h : Chance) (b : Bool) (wait : List Armed) (d e : DeviceState) (r : IsRecovery s g h b d e) (p : Armed_so false wait d) where
  -- its pages are those before where no call was made
  unmade-same : g ≡ x1.counts s0 → r.called.last ≡ r.powered → (c : Pick) → (found_on g (pairs_view e) c).epoch ≡ 1
  unmade-same is none c = ap (λ (f : Pick → StableState). (f c).epoch) (same_found (pairs_view d) (pairs_view e) (record { count = ap (λ (n : ℕ). n / 2) (ap (λ (f : DeviceState). f.count) e-is ∙ either b (λ (f : DeviceState). f.count) refl ∙ r.power.count); pages = λ i. record { first = bytes i; second = ap (λ (n : ℕ). (e.pages (i + n / 2)).bytes) (ap (λ (f : DeviceState). f.count) e-is ∙ either b (λ (f : DeviceState). f.count) refl ∙ r.power.count) ∙ bytes (i + d.count / 2) } }) g)
      ∙ ap (λ (k : Counts). (found_on k (pairs_view d) c).epoch) is ∙ p.epoch c
    where
      left : DeviceState
      left = record r.powered { told = [] }

      e-is : e ≡ (if b then left else powered_off left)
      e-is = r.after ∙ ap (λ (f : DeviceState). if b then f else powered_off f) (r.called.after ∙ ap (λ (f : DeviceState). record f { told = [] }) none)

      either : {A : Type 0} (k : Bool) (look : DeviceState → A) → look (powered_off left) ≡ look left → look (if k then left else powered_off left) ≡ look left
      either true look same = refl
      either false look same = same

      bytes : (q : ℕ) → (e.pages q).bytes ≡ (d.pages q).bytes
      bytes q = ap (λ (f : DeviceState). (f.pages q).bytes) e-is ∙ either b (λ (f : DeviceState). (f.pages q).bytes) refl ∙ ap (λ (y : PageState). y.bytes) (r.power.pages_are q)

-- ---- lines

any-behind : {A : Type 0} (test : A → Bool) (a b : List A) → list_any test b ≡ true → list_any test (a ++ b) ≡ true
any-behind test [] b h = h
any-behind test (x ∷ a) b h = by (test x) (any-behind test a b h)
  where
    by : (c : Bool) → list_any test (a ++ b) ≡ true → (c || list_any test (a ++ b)) ≡ true
    by true k = refl
    by false k = k

pub any-before : {A : Type 0} (test : A → Bool) (a b : List A) → list_any test a ≡ true → list_any test (a ++ b) ≡ true
any-before test [] b h = absurd (clash h)
  where
    clash : false ≡ true → ⊥
    clash z = cc
any-before test (x ∷ a) b h = by (test x) h (any-before test a b)
  where
    by : (c : Bool) → (c || list_any test a) ≡ true → (list_any test a ≡ true → list_any test (a ++ b) ≡ true) → (c || list_any test (a ++ b)) ≡ true
    by true k later = refl
    by false k later = later k

abbrev pub tells_stop : Line → Bool
tells_stop l = is_stopped l.text

abbrev pub outside_texts_of : List Outside → List Text
outside_texts_of told = map (λ (fault : Outside). says.Outside s0 fault) told

any-told : (when : When) (told : List Outside) (more : List Text) → list_any tells_stop (lines_at when more) ≡ true → list_any tells_stop (lines_at when (outside_texts_of told ++ more)) ≡ true
any-told when [] more h = h
any-told when (fault ∷ told) more h = any-told when told more h

-- with nothing reported behind them
pub texts-plain : (a b : List Text) → a ++ b ++ [] ++ [] ≡ a ++ b
texts-plain a b = append-nil (a ++ b ++ []) ∙ append-nil (a ++ b)

abbrev pub outside_of : Text → Option Outside
outside_of (says.Outside q fault) = Some fault
outside_of text = None

-- the fault that the third line reports, and the fourth
abbrev pub third_fault : List Line → Option Outside
third_fault (a ∷ b ∷ l ∷ lines) = outside_of l.text
third_fault lines = None

abbrev pub fourth_fault : List Line → Option Outside
fourth_fault (a ∷ b ∷ c ∷ l ∷ lines) = outside_of l.text
fourth_fault lines = None

-- ---- what it does

-- by whether it is stopped
abbrev pub restarting : Chance → World → Option (Pick → Left) → Deed
restarting h w stop = if (if is_some stop then false else nat_eq (w.found s0 (pick_read h)).epoch last_epoch) then record (given_up h s0) { texts = says.RefusedEvent EpochsUsedUp ∷ [] } else recovers s0 (recovering h s0 stop)

clash : true ≡ false → ⊥
clash z = cc

-- ---- a stop at its first call

module _ (epochs : ServerNo → ℕ) (last : Moment) (over : next_task last.state ≡ None) where
  abbrev down_first : State
  down_first = crashed_by last over (at_up arms_first epochs)

  abbrev armed_first : State
  armed_first = armed_by last over 1 faults.StopBefore down_first

  abbrev restarts_first : State
  restarts_first = begun_by last over (events.Restart s0) armed_first

  abbrev the_stop : Armed
  the_stop = record { after = 1; kind = faults.StopBefore }

  to-restart : Stand x1 last (at_first arms_first epochs) IsWhole → Stand x1 last restarts_first (Armed_so false (the_stop ∷ []))
  to-restart h = begins-one x1 refl last over armed_first (events.Restart s0) (Armed_so false (the_stop ∷ [])) refl
      (arms-dark last over down_first 1 faults.StopBefore [] refl refl refl refl
      (crashes-one x1 refl last over (begun_by last over (events.Crash s0) (at_up arms_first epochs)) _ (Armed_so true []) (Armed_so false []) refl refl refl (off last over [])
      (begins-one x1 refl last over (at_up arms_first epochs) (events.Crash s0) (Armed_so true []) refl (comes-armed arms_first epochs last over h))))

  stopped-first : Stand x1 last restarts_first (Armed_so false (the_stop ∷ [])) → list_any tells_stop last.state.lines ≡ true
  stopped-first h = by (drive x1 refl last over restarts_first (Meets (events.Restart s0)) h.moment h.leads h.state refl)
    where
      by : Driven x1 refl last over restarts_first (Meets (events.Restart s0)) h.moment → list_any tells_stop last.state.lines ≡ true
      by d = at d.chance.stop refl d.befalls (ap (λ (t : State). t.lines) d.state)
        where
          g : Chance
          g = d.chance

          w : World
          w = restarts_first.course.world

          its : {up : Bool} → Alone s0 (IsRecovery s0 (x1.counts s0) g up) h.moment.devices d.next.devices → IsRecovery s0 (x1.counts s0) g up (h.moment.devices s0) (d.next.devices s0)
          its a = a.its

          -- it isn't passed by
          not-passed : g.stop ≡ None → Befalls x1 g (restarting g w None) w h.moment.devices d.next.devices → ⊥
          not-passed none b = from (its b.used)
            where
              from : IsRecovery s0 (x1.counts s0) g true (h.moment.devices s0) (d.next.devices s0) → ⊥
              from r = either (first-call-stops r.powered r.power.power_is faults.StopBefore (r.power.waiting ∙ (let p = h.device in p.waiting)) (inl refl) r.called.last r.called.happens)
                where
                  lit : r.called.last.power ≡ true
                  lit = on r.called.last.power (sym (ap (λ (o : Option (Pick → Left)). is_some o) none) ∙ r.called.stop)
                    where
                      on : (c : Bool) → false ≡ not c → c ≡ true
                      on true k = refl
                      on false k = absurd (cc k)

                  either : (r.called.last ≡ r.powered) ⊎ (r.called.last.power ≡ false) → ⊥
                  either (inr dark) = clash (sym lit ∙ dark)
                  either (inl same) = two (ap (λ (y : StableState). y.epoch) (b.found s0 (λ n. false) (omega arith)) ∙ unmade-same (x1.counts s0) g true (the_stop ∷ []) (h.moment.devices s0) (d.next.devices s0) r h.device refl same (λ n. false))
                    where
                      two : ◌≡◌ {A = ℕ} 2 1 → ⊥
                      two z = cc

          at : (stop : Option (Pick → Left)) → g.stop ≡ stop → Befalls x1 g (restarting g w g.stop) w h.moment.devices d.next.devices
              → d.next.state.lines ≡ (made x1 g (restarting g w g.stop) (begun (Meets (events.Restart s0)) restarts_first)).lines → list_any tells_stop last.state.lines ≡ true
          at None k b e = absurd (not-passed k (subst (λ (o : Option (Pick → Left)). Befalls x1 g (restarting g w o) w h.moment.devices d.next.devices) k b))
          at (Some made') k b e = from (longer x1 d.next.state last.state (may-lead x1 d.next last d.leads))
            where
              own : List Text
              own = own_texts w (go_on (recovering g s0 (Some made')) restarts_first.course).world

              told : list_any tells_stop d.next.state.lines ≡ true
              told = ap (λ (ls : List Line). list_any tells_stop ls) (e ∙ ap (λ (o : Option (Pick → Left)). (made x1 g (restarting g w o) (begun (Meets (events.Restart s0)) restarts_first)).lines) k
                  ∙ ap (λ (texts : List Text). restarts_first.lines ++ lines_at (when_of restarts_first) texts) (texts-plain (outside_texts_of g.told) own))
                  ∙ any-behind tells_stop restarts_first.lines (lines_at (when_of restarts_first) (outside_texts_of g.told ++ own)) (any-told (when_of restarts_first) g.told own refl)

              from : Longer d.next.state last.state → list_any tells_stop last.state.lines ≡ true
              from l = ap (λ (ls : List Line). list_any tells_stop ls) l.lines ∙ any-before tells_stop d.next.state.lines l.new told

pub not-passed-by : IsNoneOfGood arms_first stop_passed_by
not-passed-by = none-of-good arms_first stop_passed_by (λ epochs last over h e. no-stop (sym (stopped-first epochs last over (to-restart epochs last over h)) ∙ ap (λ (ls : List Line). list_any tells_stop ls) e))
  where
    no-stop : true ≡ list_any tells_stop stop_passed_by → ⊥
    no-stop z = clash z
