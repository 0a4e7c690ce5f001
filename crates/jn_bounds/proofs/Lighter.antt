-- What each task of a settle does to what waits and goes: it adds no more than it weighs itself, and each message that is handed over weighs less than before.
use Rattle.jn_bounds.proofs.Common.{◌≡◌, inl, inr, ◌≤◌, ◌<◌, ℕ, zero, suc, ◌+◌, Bool, true, false, List, [], ◌∷◌, append-nil, Option, Some, None, refl, sym, ap, arith, if◌then◌else◌, slice_get, ServerNo, ClientNo, World, Memory, servers_from, Again, Nudge, Work, StopWork, after, work, works, Course, go, go_on, handing, working, Sound, go-sound, go-balance, burden-after, deliveries-more, Bounded, Asked, asked, Setup, Chance, Deed, room, no_room, nothing, served, delivered, delivered_at, is_busy, working_steps, servers_of, first_busy, next_event, next_in, resting, ClientTable}
use Rattle.jn_system.specs.WholeSystem.Settle.{Chance as Befalling, first_busy as first_going, next_step}
use Rattle.jn_base.specs.declared.names.Party.TheVariants.{Client, Server}
use Rattle.jn_rows.specs.Stable.{Pick, stable, Left}
use Rattle.jn_rows.specs.Outcomes.{RowOutcome, Sent}
use Rattle.jn_system.specs.WholeSystem.Servers.{Room, server_step}
use Rattle.jn_system_settling.proofs.Settling.Burdens.{Leads, work-leads}
use Rattle.jn_system_settling.proofs.Settling.BoundedLoops.{list-bounded}
use Rattle.jn_storage.specs.DeviceCalls.{step_calls}

-- the first of these that has something to do is one of them
busy-within : (rubbish : ServerNo → Bool) (w : World) (n j : ℕ) (s : ServerNo) → first_busy rubbish w (servers_from j n) ≡ Some s → s.0 < j + n
busy-within rubbish w zero j s h = absurd (none h)
  where
    none : None ≡ Some s → ⊥
    none e = cc
busy-within rubbish w (suc n) j s h = by (is_busy rubbish w (record { 0 = j })) h (busy-within rubbish w n (j + 1) s)
  where
    some : (a b : ServerNo) → Some a ≡ Some b → a.0 ≡ b.0
    some a b e = cc

    by : (b : Bool) → (if b then Some (record { 0 = j }) else first_busy rubbish w (servers_from (j + 1) n)) ≡ Some s → (first_busy rubbish w (servers_from (j + 1) n) ≡ Some s → s.0 < j + 1 + n) → s.0 < j + suc n
    by true e again = let l = some (record { 0 = j }) s e in omega (arith, l)
    by false e again = let l = again e in omega (arith, l)

module _ (n : ℕ) (at_most : n ≤ 8) (start : World) where
  abbrev pub Within : Course → Course → Type 0
  Within c now = Bounded n at_most start c now

  idle : (c : Course) → Sound n start c → Within c c
  idle c h = record { sound = h; few = omega arith; balance = refl }

  -- ---- a message is handed over

  hands : (c : Course) → Sound n start c → (k : ℕ) (ks : List ℕ) → c.waiting ≡ k ∷ ks → (r : Room) (stop : Option (Pick → Left)) → Within c (go (handing k r stop) c)
  hands c h k ks waits r stop = list-bounded n at_most start (handing k r stop ∷ []) c h (inl (record { chance = chance; is_next = ap (λ (js : List ℕ). next_step chance js (first_going c.world (servers_from 0 n))) waits }), tt)
    where
      chance : Befalling
      chance = record { room = r; stop = stop }

  delivers : (h : Chance) (t : ClientNo → ClientTable) (c : Course) → Sound n start c → (k : ℕ) (ks : List ℕ) → c.waiting ≡ k ∷ ks → (o : Option Sent) → Within c (go_on (delivered h k t c.world o).steps c)
  delivers h t c sound k ks waits None = idle c sound
  delivers h t c sound k ks waits (Some (Client d, message)) = hands c sound k ks waits no_room None
  delivers h t c sound k ks waits (Some (Server q, message)) = by (c.world.memory q)
    where
      by : (o : Option Memory) → Within c (go_on (delivered_at h k q o).steps c)
      by None = hands c sound k ks waits (room h q) None
      by (Some m) = hands c sound k ks waits (room h q) h.stop

  -- ---- a server makes a step, of a work that goes or of a rubbish record

  module _ (c : Course) (h : Sound n start c) (s : ServerNo) (r : Room) (below : s.0 < n) where
    work-weighs : Leads n c.world (after (Work s r) c.world) 0 0
    work-weighs = by (c.world.memory s) refl
      where
        stays : Leads n c.world c.world 0 0
        stays = record { new = []; sent = sym (append-nil c.world.sent); goes = omega arith }

        at : (m : Memory) → c.world.memory s ≡ Some m → (o : Option (RowOutcome Memory)) → server_step m (stable (c.world.found s)) r ≡ o → Leads n c.world (works s None o c.world) 0 0
        at m up None e = stays
        at m up (Some row) e = work-leads n at_most c.world h.sizes h.locks s m r row up e below

        by : (o : Option Memory) → c.world.memory s ≡ o → Leads n c.world (work s r None o c.world) 0 0
        by None e = stays
        by (Some m) e = at m e (server_step m (stable (c.world.found s)) r) refl

    pub works-on : (stop : Option (Pick → Left)) → Within c (go (working s r stop) c)
    works-on None = record {
      sound = go-sound n at_most start c (Work s r) h tt;
      few = let more = deliveries-more c.steps (Work s r) in let lower = burden-after n at_most start c (Work s r) 0 0 h work-weighs in omega (arith, more, lower);
      balance = let more = deliveries-more c.steps (Work s r) in let sent = go-balance n at_most start c (Work s r) in omega (arith, more, sent);
    }
    works-on (Some made) = list-bounded n at_most start (StopWork s r made ∷ []) c h (inr (record { server = s; room = r; made = made; is = refl; below = below }), tt)

  -- ---- all send once more

  pub client-asks : (c : Course) (client : ClientNo) → Sound n start c → Asked n at_most start c (go (Again client) c) 161
  client-asks c client h = asked n at_most start (client ∷ []) [] c h

  pub server-asks : (c : Course) (s : ServerNo) → Sound n start c → Asked n at_most start c (go (Nudge s) c) 103040
  server-asks c s h = asked n at_most start [] (s ∷ []) c h

-- ---- a rest

module _ (x : Setup) (at_most : x.servers ≤ 8) (start : World) (h : Chance) (t : ClientNo → ClientTable) (c : Course) (sound : Sound x.servers start c) where
  abbrev WithinRest : Deed → Type 0
  WithinRest deed = Bounded x.servers at_most start c (go_on deed.steps c)

  busy : (b : Bool) (q : ServerNo) → q.0 < x.servers → WithinRest (if b then served q step_calls (working_steps h q) else nothing)
  busy true q below = works-on x.servers at_most start c sound q (room h q) below h.stop
  busy false q below = idle x.servers at_most start c sound

  whichever : (waiting : List ℕ) → c.waiting ≡ waiting → (o : Option ServerNo) → first_busy h.rubbish c.world (servers_of x) ≡ o → WithinRest (resting x h t c.world (next_event waiting o))
  whichever (k ∷ ks) waits o e = delivers x.servers at_most start h t c sound k ks waits (slice_get c.world.sent k)
  whichever [] waits (Some q) e = busy (is_busy h.rubbish c.world q) q (let l = busy-within h.rubbish c.world x.servers 0 q e in omega (arith, l))
  whichever [] waits None e = idle x.servers at_most start c sound

  pub rests : WithinRest (resting x h t c.world (next_in x h.rubbish c))
  rests = whichever c.waiting refl (first_busy h.rubbish c.world (servers_of x)) refl
