-- A world whose call settled is within the bound of a settle.
use Rattle.jn_settles.proofs.Common.{◌≡◌, ℕ, suc, ◌+◌, ◌*◌, ◌-◌, ◌≤◌, List, [], ◌∷◌, length, Option, Some, refl, sym, ◌∙◌, ap, arith, slice_get, ServerNo, DeviceState, Carried, Place, Slot, Up, Down, Gone, Counts, counts_by, StableState, Pick, stable, view_with, memory_of, StoreView, Memory, servers_from, Setup, Moment, Standing, StandsAt, Stands}
use Rattle.jn_system_settling.specs.Settling.Bounds.{settle_bound}
use Rattle.std.proofs.lemmas.List.{length-map}
use Rattle.jn_net.specs.declared.Sent.{Sent as Posted}
use Rattle.jn_world_refines.specs.Waiting.{Carries}
use Rattle.jn_rows.specs.Outcomes.{Sent}
use Rattle.jn_system.specs.WholeSystem.Course.{Course}
use Rattle.jn_row_ranges.specs.Weighing.{goings}
use Rattle.jn_system_settling.specs.Settling.Weights.{goings_at, sum_over, going_works}
use Rattle.jn_bounds.specs.Settles.{IsWithinBound, over as over_course}
use Rattle.jn_settles.specs.Bounded.{how_many_wait, how_many_wait_no_more, goings_on, goings_of, most_messages_of_a_settle, IsBoundedWorld}

-- ---- the network

module _ (net : Carried) (c : Course) (h : Carries net c) where
  sent-length : length c.world.sent ≡ length net.sent
  sent-length = ap (λ (xs : List Sent). length xs) h.sent ∙ length-map net.sent (λ (m : Posted). (m.to, m.message))

  wait-length : length c.waiting ≡ how_many_wait net
  wait-length = ap (λ (ks : List ℕ). length ks) h.waiting

  over-same : over_course c ≡ how_many_wait_no_more net
  over-same = ap (λ (n : ℕ). n - length c.waiting) sent-length ∙ ap (λ (n : ℕ). length net.sent - n) wait-length

-- ---- the works that go

module _ {S : Type 0} (look : S → StoreView) where
  goings-from : (f : ServerNo → ℕ) (places : List (Place S)) (first : ℕ) → ((i : ℕ) (p : Place S) → slice_get places i ≡ Some p → f (record { 0 = first + i }) ≡ goings_on look p.slot)
      → sum_over f (servers_from first (length places)) ≡ goings_of look places
  goings-from f [] first each = refl
  goings-from f (p ∷ places) first each = ap (λ (n : ℕ). n + sum_over f (servers_from (first + 1) (length places))) (ap (λ (k : ℕ). f (record { 0 = k })) (none first) ∙ each 0 p refl)
      ∙ ap (λ (n : ℕ). goings_on look p.slot + n) (goings-from f places (first + 1) (λ i q at. ap (λ (k : ℕ). f (record { 0 = k })) (next first i) ∙ each (suc i) q at))
    where
      none : (k : ℕ) → k ≡ k + 0
      none k = omega arith

      next : (k i : ℕ) → k + 1 + i ≡ k + suc i
      next k i = omega arith

  module _ (device : S → DeviceState) (x : Setup) (w : Standing S) (m : Moment) (h : Stands look device x w m) where
    goings-stand : (g : Counts) (slot : Slot S) (memory : Option Memory) (found : Pick → StableState) (d : DeviceState) → StandsAt look device g slot memory found d → goings_at (stable found) memory ≡ goings_on look slot
    goings-stand g (Up p) memory found d s = ap (λ (o : Option Memory). goings_at (stable found) o) s.0 ∙ ap (λ (f : Pick → StableState). goings (stable f).works (memory_of (view_with look p)).worker) s.1
    goings-stand g (Down t) memory found d s = ap (λ (o : Option Memory). goings_at (stable found) o) s.0
    goings-stand g Gone memory found d s = absurd s

    pub goings-same : going_works m.state.course.world (servers_from 0 x.servers) ≡ goings_of look w.places
    goings-same = ap (λ (n : ℕ). going_works m.state.course.world (servers_from 0 n)) (sym h.servers)
        ∙ goings-from (λ s. goings_at (stable (m.state.course.world.found s)) (m.state.course.world.memory s)) w.places 0
        (λ i p at. ap (λ (k : ℕ). goings_at (stable (m.state.course.world.found (record { 0 = k }))) (m.state.course.world.memory (record { 0 = k }))) (none i)
        ∙ (let it = h.places i p at in goings-stand (counts_by p.counts) p.slot (m.state.course.world.memory (record { 0 = i })) (m.state.course.world.found (record { 0 = i })) (m.devices (record { 0 = i })) it.stands))
      where
        none : (i : ℕ) → 0 + i ≡ i
        none i = omega arith

    pub bound-same : settle_bound x.servers m.state.course ≡ most_messages_of_a_settle look w
    bound-same = ap (λ (k : ℕ). 161 * (k + 8 + 640 * x.servers) + going_works m.state.course.world (servers_from 0 x.servers)) (wait-length w.net m.state.course h.net)
        ∙ ap (λ (k : ℕ). 161 * (how_many_wait w.net + 8 + 640 * k) + going_works m.state.course.world (servers_from 0 x.servers)) (sym h.servers)
        ∙ ap (λ (k : ℕ). 161 * (how_many_wait w.net + 8 + 640 * length w.places) + k) goings-same

-- ---- the bound

module _ {S : Type 0} (look : S → StoreView) (device : S → DeviceState) (x : Setup) (before after : Standing S) (m last : Moment) (stood : Stands look device x before m) (stands : Stands look device x after last) where
  pub bounded-world : IsWithinBound x.servers m.state.course last.state.course → IsBoundedWorld look before after
  bounded-world b = record {
    handed = least (over_course last.state.course) (how_many_wait_no_more after.net) (over_course m.state.course) (how_many_wait_no_more before.net) (settle_bound x.servers m.state.course) (most_messages_of_a_settle look before) b.no_longer_waiting
        (over-same after.net last.state.course stands.net) (over-same before.net m.state.course stood.net) (bound-same look device x before m stood);
    sent = both (length last.state.course.world.sent) (length after.net.sent) (length m.state.course.waiting) (how_many_wait before.net) (length m.state.course.world.sent) (length before.net.sent) (settle_bound x.servers m.state.course) (most_messages_of_a_settle look before) b.sent
        (sent-length after.net last.state.course stands.net) (wait-length before.net m.state.course stood.net) (sent-length before.net m.state.course stood.net) (bound-same look device x before m stood);
  }
    where
      least : (a a' c c' n n' : ℕ) → a ≤ c + n → a ≡ a' → c ≡ c' → n ≡ n' → a' ≤ c' + n'
      least a a' c c' n n' l e f g = omega (arith, l, e, f, g)

      both : (a a' k k' c c' n n' : ℕ) → a + k ≤ c + n → a ≡ a' → k ≡ k' → c ≡ c' → n ≡ n' → a' + k' ≤ c' + n'
      both a a' k k' c c' n n' l e d f g = omega (arith, l, e, d, f, g)
