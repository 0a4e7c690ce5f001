-- A show makes too few calls to come to a stop that waits for call 1,000,000.
use Rattle.jn_wrong.proofs.Common.{◌≡◌, ◌≤◌, ℕ, ◌+◌, ◌++◌, Bool, true, false, not, List, [], ◌∷◌, Option, Some, None, is_some, refl, sym, ◌∙◌, ap, subst, arith, if◌then◌else◌, ServerNo, Chance, allowed, Begins, Meets, ComesUp, Dismisses, State, next_task, TooManyArmed, Arms, Pick, IsCalled, IsRecovery, given_up, recovered, recovering, told_unless, done, made, run, Moment, ◌*◌, Armed, DeviceState, may_arm, FaultArmed, cleaned_get_calls, s0, IsOnlyOfGood, arms_far, quiet_report, Left, pages_by, pairs_view, heads_on, most_maps, maps_named, most_calls}
use Rattle.jn_wrong.proofs.StillRuns.{still}
use Rattle.jn_wrong.proofs.FewMaps.{few-maps}
use Rattle.jn_base.specs.declared.device.FaultKind.TheVariants as faults
use Rattle.jn_schedule.specs.declared.Event.TheVariants as events
use Rattle.jn_report.specs.declared.line.Text.TheVariants as says
use Rattle.jn_wrong.proofs.Calls.{StillFar, far-stop-waits}
use Rattle.jn_wrong.proofs.Computed.{pieces-so}
use Rattle.jn_wrong.proofs.Driving.{Stand, IsStill, begins-one, answered, answers-one, recovers-one, dismisses-one, shows-one, finishes}
use Rattle.jn_wrong.proofs.OneServer.{x1, at_first, at_up, only-of-good}
use Rattle.jn_wrong.proofs.Pairs.{IsWhole, both-good, recovery-pairs}

abbrev far : Armed
far = record { after = 1000000; kind = faults.StopBefore }

-- these wait, and few calls were made
record WaitsEarly (wait : List Armed) (d : DeviceState) : Type 0 where
  waiting : d.waiting ≡ wait
  told : d.told ≡ []
  power : d.power ≡ true
  calls : d.calls ≤ 10000

recovery-early : (h : Chance) (d e : DeviceState) → IsRecovery s0 (x1.counts s0) h true d e → IsWhole d → e.power ≡ true → WaitsEarly [] e
recovery-early h d e r w lit = let p = recovery-pairs (x1.counts s0) h d e r (both-good d w) lit in record {
  waiting = p.waiting;
  told = p.told;
  power = lit;
  calls = few (maps_named (heads_on (x1.counts s0) (pages_by (pairs_view d) r.pick))) (ap (λ (f : DeviceState). f.calls) (r.after ∙ r.called.after)) r.called.few (few-maps (x1.counts s0) (pages_by (pairs_view d) r.pick)) r.power.calls w.calls;
}
  where
    few : {a b c n : ℕ} (maps : ℕ) → a ≡ b → b ≤ c + most_calls (x1.counts s0) maps → maps ≤ most_maps * 16 → c ≡ n → n ≤ 16 → a ≤ 10000
    few maps i j h k l = omega (arith, i, j, h, k, l)

module _ (epochs : ServerNo → ℕ) (last : Moment) (over : next_task last.state ≡ None) where
  comes-early : Stand x1 last (at_first arms_far epochs) IsWhole → Stand x1 last (at_up arms_far epochs) (WaitsEarly [])
  comes-early h = recovers-one x1 refl last over (at_first arms_far epochs) (ComesUp s0) IsWhole (WaitsEarly [])
      (record { epoch = 0; below = refl; found = λ c. refl; not_last = refl }) refl refl
      (λ g e. ap (λ (b : Bool). if b then record (given_up g s0) { cuts = true } else recovered g s0) e) refl
      (λ d p. (p.told, p.waiting))
      (λ g e. ap (λ stop. is_some ((run (recovering g s0 stop) (at_first arms_far epochs).course.world).memory s0)) e)
      (λ g d e r p lit stop found. recovery-early g d e r p lit) h

  abbrev first : State
  first = done x1 still (Begins (events.Arm s0 1000000 faults.StopBefore)) (at_up arms_far epochs)

  abbrev armed : State
  armed = answered x1 first (events.Arm s0 1000000 faults.StopBefore) (Arms s0 1000000 faults.StopBefore) []

  abbrev second : State
  second = done x1 still (Begins (events.Show s0)) armed

  abbrev shown : State
  shown = done x1 still (Meets (events.Show s0)) second

  abbrev now : State
  now = done x1 still Dismisses shown

  arms-far : Stand x1 last first (WaitsEarly []) → Stand x1 last armed (WaitsEarly (far ∷ []))
  arms-far h = answers-one x1 refl last over first (events.Arm s0 1000000 faults.StopBefore) (Arms s0 1000000 faults.StopBefore) (λ b. told_unless b (says.RefusedEvent TooManyArmed)) true (WaitsEarly []) (WaitsEarly (far ∷ []))
      refl refl (λ g. refl) (λ told. refl) (λ g ds es used p. by (ds s0) (es s0) (allowed g.found) used.its p) h
    where
      by : (d e : DeviceState) (answer : Bool) → FaultArmed d 1000000 faults.StopBefore answer e → WaitsEarly [] d → (answer ≡ true) × WaitsEarly (far ∷ []) e
      by d e answer a p = (
        permitted,
        record {
          waiting = ap (λ (f : DeviceState). f.waiting) is ∙ ap (λ (ws : List Armed). ws ++ far ∷ []) p.waiting;
          told = ap (λ (f : DeviceState). f.told) is ∙ p.told;
          power = ap (λ (f : DeviceState). f.power) is ∙ p.power;
          calls = subst (λ (n : ℕ). n ≤ 10000) (sym (ap (λ (f : DeviceState). f.calls) is)) p.calls;
        },
      )
        where
          permitted : answer ≡ true
          permitted = a.answers ∙ ap (may_arm 1000000) p.waiting

          is : e ≡ record d { waiting = d.waiting ++ far ∷ [] }
          is = a.armed ∙ ap (λ (b : Bool). record d { waiting = if b then d.waiting ++ far ∷ [] else d.waiting }) permitted

  -- what is left of what waited goes at the end
  record IsLit (d : DeviceState) : Type 0 where
    told : d.told ≡ []
    power : d.power ≡ true

  calmly : (h : Chance) (d e : DeviceState) → IsCalled (cleaned_get_calls * (x1.counts s0).leaves) h d e → WaitsEarly (far ∷ []) d → (h.stop ≡ None) × (h.told ≡ []) × IsLit e
  calmly h d e c p = (unstopped h.stop refl, c.told ∙ waits.told, record { told = ap (λ (f : DeviceState). f.told) c.after; power = ap (λ (f : DeviceState). f.power) c.after ∙ waits.power })
    where
      waits : StillFar c.last
      waits = far-stop-waits 1000000 d.calls 3072 (room d.calls p.calls) d c.last c.happens refl p.power p.told p.waiting (omega arith) c.few (omega arith)
        where
          room : (n : ℕ) → n ≤ 10000 → n + 1000000 ≤ 18446744073709551615
          room n l = omega (arith, l)

      unstopped : (stop : Option (Pick → Left)) → h.stop ≡ stop → h.stop ≡ None
      unstopped None k = k
      unstopped (Some made) k = absurd (clash (sym (ap (λ (o : Option (Pick → Left)). is_some o) k) ∙ c.stop ∙ ap not waits.power))
        where
          clash : true ≡ false → ⊥
          clash z = cc

  pub far-off : Stand x1 last (at_first arms_far epochs) IsWhole → last.state.lines ≡ quiet_report
  far-off h = finishes x1 refl last over 17 now (pieces-so x1 (1 ∷ 12 ∷ 1 ∷ []) now (
    refl,
    record { epoch = 1; below = refl; found = λ c. refl; not_last = refl },
    (
      refl,
      record { memory = _; below = refl; up = refl; nothing = λ f. refl },
      (
        refl,
        refl,
        tt,
      ),
    ),
  )) refl
      (dismisses-one x1 refl last over shown IsLit IsStill refl (λ d p. record { waiting = refl; told = p.told; power = p.power })
      (shows-one x1 refl last over second (WaitsEarly (far ∷ [])) IsLit (record { memory = _; below = refl; up = refl; nothing = λ f. refl }) refl calmly
      (begins-one x1 refl last over armed (events.Show s0) (WaitsEarly (far ∷ [])) refl
      (arms-far
      (begins-one x1 refl last over (at_up arms_far epochs) (events.Arm s0 1000000 faults.StopBefore) (WaitsEarly []) refl (comes-early h))))))

pub far-only : IsOnlyOfGood arms_far quiet_report
far-only = only-of-good arms_far quiet_report (λ epochs last over h. far-off epochs last over h)
