-- A step of a server that is up, by a row, done or stopped.
use Rattle.jn_world_refines.proofs.Common.{◌≡◌, ℕ, Bool, true, false, not, List, slice_get, Option, Some, None, is_some, sym, ◌∙◌, ap, subst, arith, if◌then◌else◌, fun_ext, nat_tests, ServerNo, Outside, server_eq, DeviceState, pool_on, Place, Slot, Up, Down, Gone, IsSpent, IsDoneAt, IsStoppedAt, done, stopped, World, Memory, at_server, Counts, counts_by, RowOutcome, StableState, Pick, stable, made_all, Parts, view_with, memory_of, room_of, free_on, has_rubbish, state, pairs_view, StoreView, Setup, Chance, room, Devices, Alone, IsCalled, IsServed, pages_of, rubbish_on, Moment, Standing, StandsAt, Stands, HasCounts, ReadsPages, Left, left_of, heads_on, maps_in}
use Rattle.jn_world_refines.proofs.Core.{chance-of}
use Rattle.jn_world_refines.proofs.Servers.{IsAlone}

pub same-server : (q : ServerNo) → server_eq q q ≡ true
same-server q = grind (arith, nat_tests)

-- ---- what is given

module _ {S : Type 0} (look : S → StoreView) (device : S → DeviceState) (seen : (s : S) → look s ≡ pairs_view (device s)) (x : Setup) (w : Standing S) (m : Moment) (stand : Stands look device x w m)
    (q : ServerNo) (place : Place S) (at : slice_get w.places q.0 ≡ Some place) where
  -- the device that stands at a slot
  abbrev device-at : Slot S → DeviceState
  device-at (Up p) = device p.storage.0
  device-at (Down s) = device s
  device-at Gone = m.devices q

  abbrev pub devices-with : Slot S → Devices
  devices-with slot = at_server m.devices q (device-at slot)

  module _ (p : Parts S) (is : place.slot ≡ Up p) (reads : ReadsPages look device (counts_by place.counts) place.slot) where
    pub here : StandsAt look device (counts_by place.counts) (Up p) (m.state.course.world.memory q) (m.state.course.world.found q) (m.devices q)
    here = let there = stand.places q.0 place at in subst (λ (slot : Slot S). StandsAt look device (counts_by place.counts) slot (m.state.course.world.memory q) (m.state.course.world.found q) (m.devices q)) is there.stands

    pub counts-are : x.counts q ≡ counts_by place.counts
    counts-are = let there = stand.places q.0 place at in there.counts

    reads-here : ReadsPages look device (counts_by place.counts) (Up p)
    reads-here = subst (λ (slot : Slot S). ReadsPages look device (counts_by place.counts) slot) is reads

    -- what befalls a step that reports these faults, and perhaps is stopped
    abbrev pub chance : List Outside → Option (Pick → Left) → Chance
    chance told stop = chance-of x m.devices (room_of (view_with look p).storage).free (room_of (view_with look p).storage).maps told stop

    pub rubbish-is : rubbish_on x m.devices q ≡ (room_of (view_with look p).storage).rubbish
    rubbish-is = ap (λ (g : Counts). has_rubbish (pool_on g (pages_of (m.devices q)))) counts-are ∙ ap (λ (d : DeviceState). has_rubbish (pool_on (counts_by place.counts) (pages_of d))) here.2 ∙ sym reads-here.1

    pub room-is : (told : List Outside) (stop : Option (Pick → Left)) → room (chance told stop) q ≡ room_of (view_with look p).storage
    room-is told stop = ap (λ (b : Bool). record { free = (room_of (view_with look p).storage).free; maps = (room_of (view_with look p).storage).maps; rubbish = b }) rubbish-is

    free-is : (room_of (view_with look p).storage).free ≡ free_on (x.counts q) (pages_of (m.devices q)) (stable (m.state.course.world.found q)) (memory_of (view_with look p))
    free-is = reads-here.0 ∙ ap (λ (d : DeviceState). free_on (counts_by place.counts) (pages_of d) (state (view_with look p).storage) (memory_of (view_with look p))) (sym here.2)
        ∙ ap (λ (g : Counts). free_on g (pages_of (m.devices q)) (state (view_with look p).storage) (memory_of (view_with look p))) (sym counts-are)
        ∙ ap (λ (f : Pick → StableState). free_on (x.counts q) (pages_of (m.devices q)) (stable f) (memory_of (view_with look p))) (sym here.1)

    maps-are : (room_of (view_with look p).storage).maps ≡ maps_in (heads_on (x.counts q) (pages_of (m.devices q)))
    maps-are = reads-here.2 ∙ ap (λ (d : DeviceState). maps_in (heads_on (counts_by place.counts) (pages_of d))) (sym here.2)
        ∙ ap (λ (g : Counts). maps_in (heads_on g (pages_of (m.devices q)))) (sym counts-are)

    devices-here : (slot : Slot S) → devices-with slot q ≡ device-at slot
    devices-here slot = ap (λ (b : Bool). if b then device-at slot else m.devices q) (same-server q)

    devices-there : (slot : Slot S) (s : ServerNo) → server_eq q s ≡ false → devices-with slot s ≡ m.devices s
    devices-there slot s e = ap (λ (b : Bool). if b then device-at slot else m.devices s) e

    pub called : (calls : ℕ) (told : List Outside) (stop : Option (Pick → Left)) (power : Bool) (slot : Slot S) → is_some stop ≡ not power → IsSpent calls told power (device p.storage.0) (device-at slot)
        → Alone q (IsServed (x.counts q) calls (chance told stop) m.state.course.world q) m.devices (devices-with slot)
    called calls told stop power slot e spent = record {
      its = record {
        memory = memory_of (view_with look p);
        up = here.0;
        free = free-is;
        maps = maps-are;
        called = subst (λ (d : DeviceState). IsCalled calls (chance told stop) d (devices-with slot q)) (sym here.2) (record {
          last = spent.last;
          happens = spent.happens;
          few = spent.few;
          whole = spent.whole;
          told = spent.told_is;
          stop = e ∙ ap not (sym spent.power_is);
          after = devices-here slot ∙ spent.after;
        });
      };
      others = devices-there slot;
    }

    -- ---- the server afterwards

    module _ (row : RowOutcome Memory) (k : Option ℕ) (calls : ℕ) (told : List Outside) where
      pub done-here : (last : Moment) (p' : Parts S) → IsDoneAt look device calls told row p p' → HasCounts look q (counts_by place.counts) (Up p')
          → last.state.course.world ≡ done q k row m.state.course.world → last.devices ≡ devices-with (Up p') → IsAlone look device seen x w m stand last q (counts_by place.counts) (Up p')
      done-here last p' e counts world ds = record {
        memory = λ s o. ap (λ (u : World). u.memory s) world ∙ ap (λ (b : Bool). if b then Some row.table else m.state.course.world.memory s) o;
        found = λ s o. ap (λ (u : World). u.found s) world ∙ fun_ext (λ c. ap (λ (b : Bool). if b then made_all row.changes (m.state.course.world.found q c) else m.state.course.world.found s c) o);
        devices = λ s o. ap (λ (f : Devices). f s) ds ∙ devices-there (Up p') s o;
        here = (
          ap (λ (u : World). u.memory q) world ∙ ap (λ (b : Bool). if b then Some row.table else m.state.course.world.memory q) (same-server q) ∙ ap (λ (t : Memory). Some t) (sym e.memory),
          ap (λ (u : World). u.found q) world ∙ fun_ext (λ c. ap (λ (b : Bool). if b then made_all row.changes (m.state.course.world.found q c) else m.state.course.world.found q c) (same-server q)
              ∙ ap (made_all row.changes) (ap (λ (f : Pick → StableState). f c) here.1 ∙ here.3 c) ∙ sym (e.found c)),
          ap (λ (f : Devices). f q) ds ∙ devices-here (Up p'),
          λ c. e.found c ∙ sym (e.found (λ n. false)),
        );
        counts = counts;
      }

      abbrev pub made-by : (s : S) → IsStoppedAt look device (counts_by place.counts) calls told row p s → Pick → Left
      made-by s e c = let some = e.some c in some.left

      pub stopped-here : (last : Moment) (s : S) (e : IsStoppedAt look device (counts_by place.counts) calls told row p s) → HasCounts look q (counts_by place.counts) (Down s)
          → last.state.course.world ≡ stopped q (made-by s e) row m.state.course.world → last.devices ≡ devices-with (Down s) → IsAlone look device seen x w m stand last q (counts_by place.counts) (Down s)
      stopped-here last s e counts world ds = record {
        memory = λ r o. ap (λ (u : World). u.memory r) world ∙ ap (λ (b : Bool). if b then None else m.state.course.world.memory r) o;
        found = λ r o. ap (λ (u : World). u.found r) world ∙ fun_ext (λ c. ap (λ (b : Bool). if b then left_of (made-by s e c) row.changes (m.state.course.world.found q c) else m.state.course.world.found r c) o);
        devices = λ r o. ap (λ (f : Devices). f r) ds ∙ devices-there (Down s) r o;
        here = (
          ap (λ (u : World). u.memory q) world ∙ ap (λ (b : Bool). if b then None else m.state.course.world.memory q) (same-server q),
          ap (λ (u : World). u.found q) world ∙ fun_ext (λ c. ap (λ (b : Bool). if b then left_of (made-by s e c) row.changes (m.state.course.world.found q c) else m.state.course.world.found q c) (same-server q)
              ∙ ap (left_of (made-by s e c) row.changes) (ap (λ (f : Pick → StableState). f c) here.1 ∙ here.3 c) ∙ sym (let some = e.some c in some.is_after)),
          ap (λ (f : Devices). f q) ds ∙ devices-here (Down s),
        );
        counts = counts;
      }
