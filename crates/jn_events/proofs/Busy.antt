-- Which server has something to do, and which one is first.
use Rattle.jn_events.proofs.Common.{same_Some, ServerNo, DeviceState, ReadsAt, TellsBusy, AreIdleBelow, IsFirstBusy, Setup, rubbish_on, next_in, Moment, waiting, has_work_at, is_up, Place, Slot, Up, Down, Gone, Counts, counts_by, pairs_view, StoreView, works-here, up-within, is_up_at, is_up_in, there-is, next-works, next-none, ReadsPages, IsIdleAt, Standing, Stands, ◌≡◌, Some, false, true≢false, refl, Option, sym, ◌∙◌, ap, subst, Bool, true, inl, inr, ◌<◌, ℕ, zero, suc, ◌+◌, arith, None, length, slice_get_within, List, slice_get, ◌⊎◌}
use Rattle.jn_schedule.specs.declared.Event.TheVariants as events

module _ {S : Type 0} (look : S → StoreView) (device : S → DeviceState) (seen : (s : S) → look s ≡ pairs_view (device s)) where
  -- ---- who has something to do

  idle-slot : (g : Counts) (slot : Slot S) → is_up slot ≡ false → ReadsPages look device g slot × (has_work_at look slot ≡ false)
  idle-slot g (Up p) e = absurd (true≢false e)
  idle-slot g (Down s) e = (tt, refl)
  idle-slot g Gone e = (tt, refl)

  -- one that is down has nothing to do
  pub down-idle : (q : ServerNo) (ps : List (Place S)) → is_up_at q.0 ps ≡ false → (p : Place S) → slice_get ps q.0 ≡ Some p → IsIdleAt look device p
  down-idle q ps down p at =
      let idle = idle-slot (counts_by p.counts) p.slot (sym (ap (λ (o : Option (Place S)). is_up_in o) at) ∙ down) in
      record { reads = idle.0; idle = idle.1 }

  same-reads : (q : ServerNo) (ps : List (Place S)) (p : Place S) → slice_get ps q.0 ≡ Some p → ReadsPages look device (counts_by p.counts) p.slot → ReadsAt look device q ps
  same-reads q ps p at h other e = subst (λ (x : Place S). ReadsPages look device (counts_by x.counts) x.slot) (same_Some p other (sym at ∙ e)) h

  -- one that is up tells it
  pub up-tells : (q : ServerNo) (ps : List (Place S)) (p : Place S) (b : Bool) → slice_get ps q.0 ≡ Some p → is_up_at q.0 ps ≡ true → ReadsPages look device (counts_by p.counts) p.slot → b ≡ has_work_at look p.slot → TellsBusy look device q ps b
  up-tells q ps p true at up reads is = record { up = up; works = works-here look ps q p at ∙ sym is; reads = same-reads q ps p at reads }
  up-tells q ps p false at up reads is = λ other e. subst (λ (x : Place S). IsIdleAt look device x) (same_Some p other (sym at ∙ e)) (record { reads = reads; idle = sym is })

  pub tells-false : (q : ServerNo) (ps : List (Place S)) (b : Bool) → b ≡ false → TellsBusy look device q ps b → (p : Place S) → slice_get ps q.0 ≡ Some p → IsIdleAt look device p
  tells-false q ps true is h = absurd (true≢false is)
  tells-false q ps false is h = h

  pub idle-more : (n : ℕ) (ps : List (Place S)) → AreIdleBelow look device n ps → ((p : Place S) → slice_get ps n ≡ Some p → IsIdleAt look device p) → AreIdleBelow look device (n + 1) ps
  idle-more n ps before here i p less at = by (below i n less)
    where
      below : (j k : ℕ) → j < k + 1 → (j < k) ⊎ (j ≡ k)
      below zero zero l = inr refl
      below zero (suc k) l = inl (omega arith)
      below (suc j) zero l = absurd (omega (arith, l))
      below (suc j) (suc k) l = next (below j k (omega (arith, l)))
        where
          next : (j < k) ⊎ (j ≡ k) → (suc j < suc k) ⊎ (suc j ≡ suc k)
          next (inl d) = inl (omega (arith, d))
          next (inr e) = inr (ap suc e)

      by : (i < n) ⊎ (i ≡ n) → IsIdleAt look device p
      by (inl l) = before i p l at
      by (inr e) = here p (subst (λ (j : ℕ). slice_get ps j ≡ Some p) e at)

  -- what a rest does next
  pub works-next : (w : Standing S) → waiting w.net ≡ None → (q : ServerNo) → IsFirstBusy look device q w.places → (x : Setup) (m : Moment) → Stands look device x w m → next_in x (rubbish_on x m.devices) m.state.course ≡ Some (events.Step q)
  works-next w none q first x m stands =
      let busy = first.busy in
      let (place, at) = there-is w.places q.0 (up-within w.places q.0 busy.up) in
      next-works look device seen x w m stands none q place at (busy.reads place at) (sym (works-here look w.places q place at) ∙ busy.works) first.before

  pub none-next : (w : Standing S) → waiting w.net ≡ None → AreIdleBelow look device (length w.places) w.places → (x : Setup) (m : Moment) → Stands look device x w m → next_in x (rubbish_on x m.devices) m.state.course ≡ None
  none-next w none idle x m stands = next-none look device seen x w m stands none (λ i p at. idle i p (slice_get_within w.places i p at) at)
