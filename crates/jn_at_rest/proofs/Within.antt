-- Every settle of every run that isn't cut short is within its bound, also as an event that begins.
use Rattle.jn_at_rest.proofs.Common.{◌≡◌, ℕ, ◌+◌, ◌*◌, ◌-◌, ◌≤◌, List, [], ◌∷◌, ◌++◌, append-nil, length, ◌∙◌, ap, subst, arith, drop-length, Sent, Event, servers_from, NextEvent, Course, go, numbered, deliveries, settle_bound, Setup, Task, Begins, Meets, Devices, settling, Moment, closed_world, IsWritten, IsWithinBound, over, ComesThrough}
use Rattle.jn_schedule.specs.declared.Event.TheVariants as events
use Rattle.jn_system_settling.specs.Settling.Weights.{going_works}
use Rattle.jn_system_settling.proofs.Settling.Courses.{deliveries-more}
use Rattle.jn_bounds.proofs.Sounds.{written-sound}
use Rattle.jn_bounds.proofs.Bounded.{is-bounded}
use Rattle.jn_at_rest.proofs.Whole.{its-steps, begun, met, written-on}

-- the next event begins before
next-within : (n : ℕ) (c last : Course) → IsWithinBound n (go NextEvent c) last → IsWithinBound n c last
next-within n c last b = record {
  handed = handed (deliveries last.steps) (deliveries (c.steps ++ NextEvent ∷ [])) (deliveries c.steps) (settle_bound n (go NextEvent c)) (settle_bound n c) b.handed (deliveries-more c.steps NextEvent) same;
  no_longer_waiting = longer (over last) (length c.world.sent - length (go NextEvent c).waiting) (over c) (settle_bound n (go NextEvent c)) (settle_bound n c) b.no_longer_waiting (ap (λ (k : ℕ). length c.world.sent - k) few) same;
  sent = sent (length last.world.sent) (length (go NextEvent c).waiting) (length c.waiting) (length c.world.sent) (settle_bound n (go NextEvent c)) (settle_bound n c) b.sent few same;
}
  where
    few : length (go NextEvent c).waiting ≡ length c.waiting
    few = ap (λ (ks : List ℕ). length ks) (ap (λ (ms : List Sent). c.waiting ++ numbered (length c.world.sent) ms) (drop-length c.world.sent) ∙ append-nil c.waiting)

    same : settle_bound n (go NextEvent c) ≡ settle_bound n c
    same = ap (λ (k : ℕ). 161 * (k + 8 + 640 * n) + going_works c.world (servers_from 0 n)) few

    handed : (d e f s t : ℕ) → d ≤ e + s → e ≡ f + 0 → s ≡ t → d ≤ f + t
    handed d e f s t l g h = omega (arith, l, g, h)

    longer : (d e f s t : ℕ) → d ≤ e + s → e ≡ f → s ≡ t → d ≤ f + t
    longer d e f s t l g h = omega (arith, l, g, h)

    sent : (d k j e s t : ℕ) → d + k ≤ e + s → k ≡ j → s ≡ t → d + j ≤ e + t
    sent d k j e s t l g h = omega (arith, l, g, h)

module _ (x : Setup) (behind : List Task) (b : Moment) (few : x.servers ≤ 8) (schedule : List Event) (images : Devices) where
  pub within-tasks : (a : Moment) → IsWritten x schedule images a → ComesThrough x (settling x) behind a b → IsWithinBound x.servers a.state.course b.state.course
  within-tasks a run s = is-bounded x few (closed_world x.servers run.files run.epochs) behind a b (written-sound x few schedule images a run) (record { begins = s.begins; steps = its-steps x behind b a s })

  pub within-met : (a : Moment) → IsWritten x schedule images a → ComesThrough x (Meets events.Settle ∷ []) behind a b → IsWithinBound x.servers a.state.course b.state.course
  within-met a run s = let f = met x behind b a s in
      subst (λ (c : Course). IsWithinBound x.servers c b.state.course) f.course.course (within-tasks f.next (written-on x behind b schedule images a f.next f.step run) f.done)

  pub within-begun : (a : Moment) → IsWritten x schedule images a → ComesThrough x (Begins events.Settle ∷ []) behind a b → IsWithinBound x.servers a.state.course b.state.course
  within-begun a run s = let f = begun x behind b a s in
      next-within x.servers a.state.course b.state.course (subst (λ (c : Course). IsWithinBound x.servers c b.state.course) f.course.course (within-met f.next (written-on x behind b schedule images a f.next f.step run) f.done))
