-- The servers at their places are as the written machine has them.
use Rattle.jn_settles.proofs.Common.{◌≡◌, ℕ, zero, suc, ◌<◌, Bool, true, false, List, [], ◌∷◌, length, Option, Some, None, is_some, true≢false, refl, sym, ◌∙◌, ap, subst, arith, slice_get, nat_lt, if◌then◌else◌, ◌&&◌, slice_get_within, ServerNo, WorkId, DeviceState, Place, Slot, Up, Down, Gone, is_up, Counts, counts_by, Work, StableState, Pick, StoreView, Memory, AreUp, entry_in, live_at, Setup, Moment, Standing, StandsAt, Stands, memory_on, memory_in, memory_at, live_in, AllUp}
use Rattle.std.proofs.lemmas.Bool.Decides.{nat_tests}
use Rattle.jn_base.specs.Names.{work_eq}
use Rattle.jn_rows.specs.Worker.{WorkerTable, work_at}
use Rattle.jn_msgs.specs.Ranges.{is_near, are_both_near}
use Rattle.jn_row_ranges.specs.Naming.{are_works_within}

pub some-at : {A : Type 0} (xs : List A) (n : ℕ) → n < length xs → (x : A) × (slice_get xs n ≡ Some x)
some-at [] n lt = absurd (omega (arith, lt))
some-at (x ∷ xs) zero lt = (x, refl)
some-at (x ∷ xs) (suc n) lt = some-at xs n (omega (arith, lt))

module _ {S : Type 0} (look : S → StoreView) (device : S → DeviceState) (x : Setup) (w : Standing S) (m : Moment) (h : Stands look device x w m) where
  -- the place of each server that there is
  pub place-of : (q : ServerNo) → q.0 < x.servers → (p : Place S) × (slice_get w.places q.0 ≡ Some p)
  place-of q below = some-at w.places q.0 (subst (λ (n : ℕ). q.0 < n) (sym h.servers) below)

  pub below-of : (n : ℕ) (p : Place S) → slice_get w.places n ≡ Some p → n < x.servers
  below-of n p at = subst (λ (k : ℕ). n < k) h.servers (slice_get_within w.places n p at)

  memory-stands : (g : Counts) (slot : Slot S) (memory : Option Memory) (found : Pick → StableState) (d : DeviceState) → StandsAt look device g slot memory found d → memory ≡ memory_on look slot
  memory-stands g (Up p) memory found d s = s.0
  memory-stands g (Down t) memory found d s = s.0
  memory-stands g Gone memory found d s = absurd s

  pub memory-there : (q : ServerNo) → q.0 < x.servers → m.state.course.world.memory q ≡ memory_at look w.places q
  memory-there q below = let there = place-of q below in let stands = h.places q.0 there.0 there.1 in
      memory-stands (counts_by there.0.counts) there.0.slot (m.state.course.world.memory q) (m.state.course.world.found q) (m.devices q) stands.stands ∙ ap (memory_in look) (sym there.1)

  up-there : (slot : Slot S) → is_up slot ≡ true → is_some (memory_on look slot) ≡ true
  up-there (Up p) e = refl
  up-there (Down t) e = absurd (true≢false (sym e))
  up-there Gone e = absurd (true≢false (sym e))

  pub are-up : AllUp w.places → AreUp x.servers m.state.course.world
  are-up up q below = let there = place-of q below in ap is_some (memory-there q below ∙ ap (memory_in look) there.1) ∙ up-there there.0.slot (up q.0 there.0 there.1)

  -- no work is live at a server that there is not
  pub live-near : (W : WorkId) (v : Work) → live_in look w.places W ≡ Some v → W.server.0 < x.servers
  live-near W v e = by (slice_get w.places W.server.0) refl e
    where
      never : None ≡ Some v → ⊥
      never z = cc

      by : (o : Option (Place S)) → slice_get w.places W.server.0 ≡ o → entry_in (memory_in look o) W ≡ Some v → W.server.0 < x.servers
      by None at z = absurd (never z)
      by (Some p) at z = below-of W.server.0 p at

  pub live-there : (W : WorkId) → W.server.0 < x.servers → live_at m.state.course.world W ≡ live_in look w.places W
  live-there W below = ap (λ (o : Option Memory). entry_in o W) (memory-there W.server below)

  -- what is live then is of a transaction of a server that there is
  tid-within : (works : WorkerTable) (W : WorkId) (v : Work) → are_works_within x.servers works ≡ true → work_at W works ≡ Some v → is_near x.servers v.tid.server ≡ true
  tid-within [] W v within e = absurd (never e)
    where
      never : None ≡ Some v → ⊥
      never z = cc
  tid-within (u ∷ works) W v within e = by (work_eq u.name W) e (tid-within works W v (second (are_both_near x.servers u.tid u.name) (are_works_within x.servers works) within))
    where
      first : (a b c : Bool) → ((a && b) && c) ≡ true → a ≡ true
      first a b c z = grind arith

      second : (a b : Bool) → (a && b) ≡ true → b ≡ true
      second a b z = grind arith

      some : Some u ≡ Some v → u ≡ v
      some z = cc

      by : (b : Bool) → (if b then Some u else work_at W works) ≡ Some v → (work_at W works ≡ Some v → is_near x.servers v.tid.server ≡ true) → is_near x.servers v.tid.server ≡ true
      by true z again = ap (λ (y : Work). is_near x.servers y.tid.server) (sym (some z)) ∙ first (is_near x.servers u.tid.server) (is_near x.servers u.name.server) (are_works_within x.servers works) within
      by false z again = again z

  pub tid-near : (W : WorkId) (v : Work) → live_at m.state.course.world W ≡ Some v → v.tid.server.0 < x.servers
  tid-near W v e = by (m.state.course.world.memory W.server) refl e
    where
      never : None ≡ Some v → ⊥
      never z = cc

      less : (a n : ℕ) → nat_lt a n ≡ true → a < n
      less a n z = grind (arith, nat_tests, z)

      by : (o : Option Memory) → m.state.course.world.memory W.server ≡ o → entry_in o W ≡ Some v → v.tid.server.0 < x.servers
      by None at z = absurd (never z)
      by (Some memory) at z = less v.tid.server.0 x.servers (tid-within memory.worker W v (h.within.memory W.server memory at).works z)
