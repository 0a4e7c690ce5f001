-- The faults that a restart reports: of pages that there are, armed before, and in the order of the calls that they met.
use Rattle.jn_wrong.proofs.Common.{◌≡◌, ◌≢◌, ◌<◌, ℕ, Bool, true, false, not, List, [], ◌∷◌, ◌++◌, Option, Some, None, is_some, refl, sym, ◌∙◌, ap, subst, arith, nat_tests, nat_lt, ServerNo, Line, When, Text, Chance, Meets, State, next_task, Pick, World, Alone, Befalls, IsRecovery, begun, made, when_of, lines_at, own_texts, go_on, recovering, Moment, FaultKind, Outside, Armed, DeviceState, struck_page, Happens, s0, line, may-lead, Longer, longer, IsNoneOfGood, arms_in_order, outside_swapped, arms_null, null_told, Left}
use Rattle.jn_base.specs.declared.device.FaultKind.TheVariants as faults
use Rattle.jn_schedule.specs.declared.Event.TheVariants as events
use Rattle.jn_report.specs.declared.line.Text.TheVariants as says
use Rattle.jn_wrong.proofs.Driving.{Stand, Driven, drive, begins-one, crashes-one}
use Rattle.jn_wrong.proofs.OneServer.{x1, at_first, at_up, none-of-good}
use Rattle.jn_wrong.proofs.Order.{AllWait, AllTold, calls-hold, are_swapped, told-in-order}
use Rattle.jn_wrong.proofs.Pairs.{IsWhole}
use Rattle.jn_wrong.proofs.Struck.{Armed_so, comes-armed, begun_by, armed_by, crashed_by, arms-dark, off, outside_texts_of, outside_of, third_fault, fourth_fault, restarting, texts-plain}

-- ---- lines

-- there is a text, and the first one reports no fault
abbrev starts_plain : List Text → Bool
starts_plain [] = false
starts_plain (text ∷ texts) = not (is_some (outside_of text))

head-none : (text : Text) → not (is_some (outside_of text)) ≡ true → outside_of text ≡ None
head-none text h = by (outside_of text) h
  where
    by : (o : Option Outside) → not (is_some o) ≡ true → o ≡ None
    by None k = refl
    by (Some fault) k = absurd (cc k)

some-none : {A : Type 0} (fault : Outside) → None ≡ Some fault → A
some-none fault e = absurd (no' e)
  where
    no' : None ≡ Some fault → ⊥
    no' k = cc

the-same : {a b : Outside} → Some a ≡ Some b → a ≡ b
the-same k = cc

-- faults, and then something else
module _ (when : When) (a b : Line) (rest : List Text) (new : List Line) (plain : starts_plain rest ≡ true) where
  abbrev lines_with : List Outside → List Line
  lines_with told = a ∷ b ∷ (lines_at when (outside_texts_of told ++ rest) ++ new)

  third-plain : third_fault (a ∷ b ∷ (lines_at when rest ++ new)) ≡ None
  third-plain = by rest plain
    where
      by : (texts : List Text) → starts_plain texts ≡ true → third_fault (a ∷ b ∷ (lines_at when texts ++ new)) ≡ None
      by [] h = absurd (cc h)
      by (text ∷ texts) h = head-none text h

  fourth-plain : (c : Line) → fourth_fault (a ∷ b ∷ c ∷ (lines_at when rest ++ new)) ≡ None
  fourth-plain c = by rest plain
    where
      by : (texts : List Text) → starts_plain texts ≡ true → fourth_fault (a ∷ b ∷ c ∷ (lines_at when texts ++ new)) ≡ None
      by [] h = absurd (cc h)
      by (text ∷ texts) h = head-none text h

  swapped-told : (p r : ℕ) (told : List Outside) → third_fault (lines_with told) ≡ Some (record { kind = faults.Bad; page = p }) → fourth_fault (lines_with told) ≡ Some (record { kind = faults.Null; page = r }) → are_swapped false told ≡ true
  swapped-told p r [] e f = some-none _ (sym third-plain ∙ e)
  swapped-told p r (o ∷ []) e f = some-none _ (sym (fourth-plain (record { when = when; text = says.Outside s0 o })) ∙ f)
  swapped-told p r (o ∷ n ∷ more) e f = ap (λ (k : FaultKind). are_swapped false ((record o { kind = k }) ∷ n ∷ more)) (ap (λ (z : Outside). z.kind) (the-same e))
      ∙ ap (λ (k : FaultKind). are_swapped false ((record o { kind = faults.Bad }) ∷ (record n { kind = k }) ∷ more)) (ap (λ (z : Outside). z.kind) (the-same f))

  one-told : (Q : Outside → Type 0) (fault : Outside) (told : List Outside) → AllTold Q told → third_fault (lines_with told) ≡ Some fault → Q fault
  one-told Q fault [] h e = some-none fault (sym third-plain ∙ e)
  one-told Q fault (o ∷ told) h e = subst Q (the-same e) h.0

-- ---- what a restart reports

-- it reports these faults, then something else
record TellsThese (s : State) (told : List Outside) (lines : List Line) : Type 0 where
  rest : List Text
  plain : starts_plain rest ≡ true
  lines_are : lines ≡ s.lines ++ lines_at (when_of s) (outside_texts_of told ++ rest)

-- from what waits, these calls
record CalledSo (wait : List Armed) (told : List Outside) : Type 0 where
  before : DeviceState
  after : DeviceState
  count : before.count ≡ 354
  waiting : before.waiting ≡ wait
  untold : before.told ≡ []
  happens : Happens before after
  told_is : told ≡ after.told

called-so : (h : Chance) (b : Bool) (wait : List Armed) (d e : DeviceState) → IsRecovery s0 (x1.counts s0) h b d e → Armed_so false wait d → CalledSo wait h.told
called-so h b wait d e r p = record {
  before = r.powered;
  after = r.called.last;
  count = r.power.count ∙ p.count;
  waiting = r.power.waiting ∙ p.waiting;
  untold = r.power.told ∙ p.told;
  happens = r.called.happens;
  told_is = r.called.told;
}

-- ---- two faults

module _ (epochs : ServerNo → ℕ) (last : Moment) (over : next_task last.state ≡ None) where
  abbrev null_waits : Armed
  null_waits = record { after = 1; kind = faults.Null }

  abbrev bad_waits : Armed
  bad_waits = record { after = 2; kind = faults.Bad }

  abbrev down_two : State
  down_two = crashed_by last over (at_up arms_in_order epochs)

  abbrev armed_one : State
  armed_one = armed_by last over 1 faults.Null down_two

  abbrev armed_two : State
  armed_two = armed_by last over 2 faults.Bad armed_one

  abbrev restarts_two : State
  restarts_two = begun_by last over (events.Restart s0) armed_two

  to-two : Stand x1 last (at_first arms_in_order epochs) IsWhole → Stand x1 last restarts_two (Armed_so false (null_waits ∷ bad_waits ∷ []))
  to-two h = begins-one x1 refl last over armed_two (events.Restart s0) (Armed_so false (null_waits ∷ bad_waits ∷ [])) refl
      (arms-dark last over armed_one 2 faults.Bad (null_waits ∷ []) refl refl refl refl
      (arms-dark last over down_two 1 faults.Null [] refl refl refl refl
      (crashes-one x1 refl last over (begun_by last over (events.Crash s0) (at_up arms_in_order epochs)) _ (Armed_so true []) (Armed_so false []) refl refl refl (off last over [])
      (begins-one x1 refl last over (at_up arms_in_order epochs) (events.Crash s0) (Armed_so true []) refl (comes-armed arms_in_order epochs last over h)))))

  not-swapped : (p r : ℕ) → Stand x1 last restarts_two (Armed_so false (null_waits ∷ bad_waits ∷ [])) → last.state.lines ≡ outside_swapped p r → ⊥
  not-swapped p r h e = by (drive x1 refl last over restarts_two (Meets (events.Restart s0)) h.moment h.leads h.state refl)
    where
      clash : true ≡ false → ⊥
      clash z = cc

      by : Driven x1 refl last over restarts_two (Meets (events.Restart s0)) h.moment → ⊥
      by d = at (by-stop d.chance.stop refl) (longer x1 d.next.state last.state (may-lead x1 d.next last d.leads)) (called d.chance.stop refl)
        where
          g : Chance
          g = d.chance

          w : World
          w = restarts_two.course.world

          its : {up : Bool} → Alone s0 (IsRecovery s0 (x1.counts s0) g up) h.moment.devices d.next.devices → CalledSo (null_waits ∷ bad_waits ∷ []) g.told
          its {up} a = called-so g up (null_waits ∷ bad_waits ∷ []) (h.moment.devices s0) (d.next.devices s0) a.its h.device

          befalls-by : (stop : Option (Pick → Left)) → g.stop ≡ stop → Befalls x1 g (restarting g w stop) w h.moment.devices d.next.devices
          befalls-by stop k = subst (λ (o : Option (Pick → Left)). Befalls x1 g (restarting g w o) w h.moment.devices d.next.devices) k d.befalls

          called : (stop : Option (Pick → Left)) → g.stop ≡ stop → CalledSo (null_waits ∷ bad_waits ∷ []) g.told
          called None k = let b = befalls-by None k in its b.used
          called (Some made') k = let b = befalls-by (Some made') k in its b.used

          lines-by : (stop : Option (Pick → Left)) → g.stop ≡ stop → d.next.state.lines ≡ (made x1 g (restarting g w stop) (begun (Meets (events.Restart s0)) restarts_two)).lines
          lines-by stop k = ap (λ (t : State). t.lines) d.state ∙ ap (λ (o : Option (Pick → Left)). (made x1 g (restarting g w o) (begun (Meets (events.Restart s0)) restarts_two)).lines) k

          own : Option (Pick → Left) → List Text
          own stop = own_texts w (go_on (recovering g s0 stop) restarts_two.course).world

          plainly : (texts : List Text) → restarts_two.lines ++ lines_at (when_of restarts_two) (outside_texts_of g.told ++ texts ++ [] ++ []) ≡ restarts_two.lines ++ lines_at (when_of restarts_two) (outside_texts_of g.told ++ texts)
          plainly texts = ap (λ (ts : List Text). restarts_two.lines ++ lines_at (when_of restarts_two) ts) (texts-plain (outside_texts_of g.told) texts)

          by-stop : (stop : Option (Pick → Left)) → g.stop ≡ stop → TellsThese restarts_two g.told d.next.state.lines
          by-stop None k = record { rest = own None; plain = refl; lines_are = lines-by None k ∙ plainly (own None) }
          by-stop (Some made') k = record { rest = own (Some made'); plain = refl; lines_are = lines-by (Some made') k ∙ plainly (own (Some made')) }

          at : TellsThese restarts_two g.told d.next.state.lines → Longer d.next.state last.state → CalledSo (null_waits ∷ bad_waits ∷ []) g.told → ⊥
          at t l c = clash (sym (swapped-told (when_of restarts_two) (line 0 (says.Up s0 1)) (line 1 (says.Down s0)) t.rest l.new t.plain p r g.told (ap third_fault here) (ap fourth_fault here))
              ∙ ap (are_swapped false) c.told_is ∙ told-in-order c.before c.after c.happens c.waiting c.untold)
            where
              here : (restarts_two.lines ++ lines_at (when_of restarts_two) (outside_texts_of g.told ++ t.rest)) ++ l.new ≡ outside_swapped p r
              here = ap (λ (ls : List Line). ls ++ l.new) (sym t.lines_are) ∙ sym l.lines ∙ e

-- ---- one fault

module _ (epochs : ServerNo → ℕ) (last : Moment) (over : next_task last.state ≡ None) where
  abbrev down_one : State
  down_one = crashed_by last over (at_up arms_null epochs)

  abbrev armed_null : State
  armed_null = armed_by last over 1 faults.Null down_one

  abbrev restarts_one : State
  restarts_one = begun_by last over (events.Restart s0) armed_null

  to-one : Stand x1 last (at_first arms_null epochs) IsWhole → Stand x1 last restarts_one (Armed_so false ((record { after = 1; kind = faults.Null }) ∷ []))
  to-one h = begins-one x1 refl last over armed_null (events.Restart s0) (Armed_so false ((record { after = 1; kind = faults.Null }) ∷ [])) refl
      (arms-dark last over down_one 1 faults.Null [] refl refl refl refl
      (crashes-one x1 refl last over (begun_by last over (events.Crash s0) (at_up arms_null epochs)) _ (Armed_so true []) (Armed_so false []) refl refl refl (off last over [])
      (begins-one x1 refl last over (at_up arms_null epochs) (events.Crash s0) (Armed_so true []) refl (comes-armed arms_null epochs last over h))))

  -- it reports a fault of this kind at a page that there is
  abbrev IsNullThere : Outside → Type 0
  IsNullThere fault = (fault.kind ≡ faults.Null) × (fault.page < 354)

  tells-null : (fault : Outside) → Stand x1 last restarts_one (Armed_so false ((record { after = 1; kind = faults.Null }) ∷ [])) → last.state.lines ≡ null_told fault.kind fault.page → IsNullThere fault
  tells-null fault h e = by (drive x1 refl last over restarts_one (Meets (events.Restart s0)) h.moment h.leads h.state refl)
    where
      by : Driven x1 refl last over restarts_one (Meets (events.Restart s0)) h.moment → IsNullThere fault
      by d = at (by-stop d.chance.stop refl) (longer x1 d.next.state last.state (may-lead x1 d.next last d.leads)) (called d.chance.stop refl)
        where
          g : Chance
          g = d.chance

          w : World
          w = restarts_one.course.world

          its : {up : Bool} → Alone s0 (IsRecovery s0 (x1.counts s0) g up) h.moment.devices d.next.devices → CalledSo ((record { after = 1; kind = faults.Null }) ∷ []) g.told
          its {up} a = called-so g up ((record { after = 1; kind = faults.Null }) ∷ []) (h.moment.devices s0) (d.next.devices s0) a.its h.device

          befalls-by : (stop : Option (Pick → Left)) → g.stop ≡ stop → Befalls x1 g (restarting g w stop) w h.moment.devices d.next.devices
          befalls-by stop k = subst (λ (o : Option (Pick → Left)). Befalls x1 g (restarting g w o) w h.moment.devices d.next.devices) k d.befalls

          called : (stop : Option (Pick → Left)) → g.stop ≡ stop → CalledSo ((record { after = 1; kind = faults.Null }) ∷ []) g.told
          called None k = let b = befalls-by None k in its b.used
          called (Some made') k = let b = befalls-by (Some made') k in its b.used

          lines-by : (stop : Option (Pick → Left)) → g.stop ≡ stop → d.next.state.lines ≡ (made x1 g (restarting g w stop) (begun (Meets (events.Restart s0)) restarts_one)).lines
          lines-by stop k = ap (λ (t : State). t.lines) d.state ∙ ap (λ (o : Option (Pick → Left)). (made x1 g (restarting g w o) (begun (Meets (events.Restart s0)) restarts_one)).lines) k

          own : Option (Pick → Left) → List Text
          own stop = own_texts w (go_on (recovering g s0 stop) restarts_one.course).world

          plainly : (texts : List Text) → restarts_one.lines ++ lines_at (when_of restarts_one) (outside_texts_of g.told ++ texts ++ [] ++ []) ≡ restarts_one.lines ++ lines_at (when_of restarts_one) (outside_texts_of g.told ++ texts)
          plainly texts = ap (λ (ts : List Text). restarts_one.lines ++ lines_at (when_of restarts_one) ts) (texts-plain (outside_texts_of g.told) texts)

          by-stop : (stop : Option (Pick → Left)) → g.stop ≡ stop → TellsThese restarts_one g.told d.next.state.lines
          by-stop None k = record { rest = own None; plain = refl; lines_are = lines-by None k ∙ plainly (own None) }
          by-stop (Some made') k = record { rest = own (Some made'); plain = refl; lines_are = lines-by (Some made') k ∙ plainly (own (Some made')) }

          all-there : CalledSo ((record { after = 1; kind = faults.Null }) ∷ []) g.told → AllTold IsNullThere g.told
          all-there c = let a = calls-hold (λ k. k ≡ faults.Null) IsNullThere 354 (λ p l k z. (z, subst (λ (f : FaultKind). struck_page p f < 354) (sym z) l)) c.before c.after c.happens
              (record { count = c.count; waits = subst (AllWait (λ k. k ≡ faults.Null)) (sym c.waiting) (refl, tt); told = subst (AllTold IsNullThere) (sym c.untold) tt }) in subst (AllTold IsNullThere) (sym c.told_is) a.told

          at : TellsThese restarts_one g.told d.next.state.lines → Longer d.next.state last.state → CalledSo ((record { after = 1; kind = faults.Null }) ∷ []) g.told → IsNullThere fault
          at t l c = one-told (when_of restarts_one) (line 0 (says.Up s0 1)) (line 1 (says.Down s0)) t.rest l.new t.plain IsNullThere fault g.told (all-there c) (ap third_fault here)
            where
              here : (restarts_one.lines ++ lines_at (when_of restarts_one) (outside_texts_of g.told ++ t.rest)) ++ l.new ≡ null_told fault.kind fault.page
              here = ap (λ (ls : List Line). ls ++ l.new) (sym t.lines_are) ∙ sym l.lines ∙ e

-- ---- reports

pub swapped : (p r : ℕ) → IsNoneOfGood arms_in_order (outside_swapped p r)
swapped p r = none-of-good arms_in_order (outside_swapped p r) (λ epochs last over h e. not-swapped epochs last over p r (to-two epochs last over h) e)

pub no-page : (page : ℕ) → nat_lt page 354 ≡ false → IsNoneOfGood arms_null (null_told faults.Null page)
no-page page far = none-of-good arms_null (null_told faults.Null page) (λ epochs last over h e. beyond far (let t = tells-null epochs last over (record { kind = faults.Null; page = page }) (to-one epochs last over h) e in t.1))
  where
    beyond : nat_lt page 354 ≡ false → page < 354 → ⊥
    beyond a b = grind (arith, nat_tests, a, b)

pub never-armed : (kind : FaultKind) → kind ≢ faults.Null → (page : ℕ) → IsNoneOfGood arms_null (null_told kind page)
never-armed kind other page = none-of-good arms_null (null_told kind page) (λ epochs last over h e. other (let t = tells-null epochs last over (record { kind = kind; page = page }) (to-one epochs last over h) e in t.0))
