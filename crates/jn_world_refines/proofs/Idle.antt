-- A server cleans its pages, or shows its files, and nothing else changes.
use Rattle.jn_world_refines.proofs.Common.{◌≡◌, ℕ, Bool, true, false, not, List, [], ◌∷◌, ◌++◌, slice_get, Option, Some, None, is_some, refl, sym, ◌∙◌, ap, subst, if◌then◌else◌, fun_ext, ServerNo, Outside, server_eq, DeviceState, found_on, Place, Slot, Up, Down, IsSpent, IsDoneAt, IsStoppedAt, idle_row, World, Memory, at_server, Room, server_step, of_step, Step, StopWork, after, work, works, counts_by, Carries, RowOutcome, StableState, Pick, Change, stable, Parts, view_with, memory_of, go_on, state, pairs_view, StoreView, Setup, Chance, no_room, free_on, Devices, IsCalled, rubbish_on, pages_of, Moment, HasCounts, Standing, StandsAt, Stands, Finding, Free, Left, whole_only, left_of, heads_on, maps_in}
use Rattle.jn_rows.specs.declared.worker.Work.{Work}
use Rattle.jn_rows.specs.Worker.{going_work, going_row}
use Rattle.jn_rows.proofs.Left.{left-none}
use Rattle.jn_report.specs.declared.line.Text.TheVariants as says
use Rattle.jn_world_refines.proofs.Servers.{IsAlone}
use Rattle.jn_world_refines.proofs.Moving.{same-server, carries-on, devices-now, device-here, device-there}

-- ---- no change at all

none-made : (changes : List Change) (y : StableState) → left_of (whole_only 0) changes y ≡ y
none-made [] y = refl
none-made (c ∷ changes) y = refl

abbrev pub idle_room : Room
idle_room = record no_room { rubbish = true }

-- where a rubbish record is left, a server has something to do
always-some : (k : Memory) (y : StableState) → is_some (server_step k y idle_room) ≡ true
always-some k y = by (going_work y k.worker)
  where
    by : (o : Option Work) → is_some (of_step k (going_row k.worker (record { state = y; free = no_room.free; maps = no_room.maps; next = k.next; rubbish = true }) k.tickets o)) ≡ true
    by (Some v) = refl
    by None = refl

-- it is stopped in that before any change
stopped-works : (q : ServerNo) (v : World) (o : Option (RowOutcome Memory)) → is_some o ≡ true
    → works q (Some (λ c. whole_only 0)) o v ≡ record v { memory = at_server v.memory q None; found = λ r c. if server_eq q r then v.found q c else v.found r c; lines = v.lines ++ says.Stopped q ∷ [] }
stopped-works q v None e = absurd (cc e)
stopped-works q v (Some row) e = ap (λ (f : Pick → StableState). record v { memory = at_server v.memory q None; found = λ r c. if server_eq q r then f c else v.found r c; lines = v.lines ++ says.Stopped q ∷ [] })
    (fun_ext (λ c. none-made row.changes (v.found q c)))

module _ {S : Type 0} (look : S → StoreView) (device : S → DeviceState) (seen : (s : S) → look s ≡ pairs_view (device s)) (x : Setup) (w : Standing S) (m : Moment) (stand : Stands look device x w m)
    (q : ServerNo) (place : Place S) (at : slice_get w.places q.0 ≡ Some place) (p : Parts S) (is : place.slot ≡ Up p) (told : List Outside) where
  abbrev world : World
  world = m.state.course.world

  pub here : StandsAt look device (counts_by place.counts) (Up p) (world.memory q) (world.found q) (m.devices q)
  here = let there = stand.places q.0 place at in subst (λ (slot : Slot S). StandsAt look device (counts_by place.counts) slot (world.memory q) (world.found q) (m.devices q)) is there.stands

  abbrev mem : Memory
  mem = memory_of (view_with look p)

  -- what is found, and where the step is stopped
  abbrev pub finding : Finding → Option (Pick → Left) → Chance
  finding found stop = record { rubbish = rubbish_on x m.devices; found = found; stop = stop; told = told }

  abbrev pub idling : Option (Pick → Left) → Chance
  idling stop = finding (Free (free_on (x.counts q) (pages_of (m.devices q)) (stable (world.found q)) mem) (maps_in (heads_on (x.counts q) (pages_of (m.devices q))))) stop

  pub calling : (calls : ℕ) (found : Finding) (stop : Option (Pick → Left)) (power : Bool) (e : DeviceState) → is_some stop ≡ not power → IsSpent calls told power (device p.storage.0) e
      → IsCalled calls (finding found stop) (m.devices q) (devices-now look device x w m stand seen q place at e q)
  calling calls found stop power e stops spent = subst (λ (d : DeviceState). IsCalled calls (finding found stop) d (devices-now look device x w m stand seen q place at e q)) (sym here.2)
      (record { last = spent.last; happens = spent.happens; few = spent.few; whole = spent.whole; told = spent.told_is; stop = stops ∙ ap not (sym spent.power_is); after = device-here look device x w m stand seen q place at e ∙ spent.after })

  -- ---- it is done

  pub done-alone : (calls : ℕ) (p' : Parts S) → IsDoneAt look device calls told (idle_row mem) p p' → HasCounts look q (counts_by place.counts) (Up p')
      → (now : Moment) → now.state.course.world ≡ world → now.devices ≡ devices-now look device x w m stand seen q place at (device p'.storage.0) → IsAlone look device seen x w m stand now q (counts_by place.counts) (Up p')
  done-alone calls p' e counts now same ds = record {
    memory = λ r o. ap (λ (u : World). u.memory r) same;
    found = λ r o. ap (λ (u : World). u.found r) same;
    devices = λ r o. ap (λ (f : Devices). f r) ds ∙ device-there look device x w m stand seen q place at (device p'.storage.0) r o;
    here = (
      ap (λ (u : World). u.memory q) same ∙ here.0 ∙ ap (λ (k : Memory). Some k) (sym e.memory),
      ap (λ (u : World). u.found q) same ∙ here.1 ∙ fun_ext (λ c. here.3 c ∙ sym (e.found c)),
      ap (λ (f : Devices). f q) ds ∙ device-here look device x w m stand seen q place at (device p'.storage.0),
      λ c. e.found c ∙ sym (e.found (λ n. false)),
    );
    counts = counts;
  }

  -- ---- it is stopped

  abbrev pub stopping : Step
  stopping = StopWork q idle_room (λ c. whole_only 0)

  pub after-stop : after stopping world ≡ record world { memory = at_server world.memory q None; found = λ r c. if server_eq q r then world.found q c else world.found r c; lines = world.lines ++ says.Stopped q ∷ [] }
  after-stop = ap (λ (o : Option Memory). work q idle_room (Some (λ c. whole_only 0)) o world) here.0 ∙ stopped-works q world (server_step mem (stable (world.found q)) idle_room) (always-some mem (stable (world.found q)))

  pub stopped-alone : (calls : ℕ) (s : S) → IsStoppedAt look device (counts_by place.counts) calls told (idle_row mem) p s → HasCounts look q (counts_by place.counts) (Down s)
      → (now : Moment) → now.state.course.world ≡ after stopping world → now.devices ≡ devices-now look device x w m stand seen q place at (device s) → IsAlone look device seen x w m stand now q (counts_by place.counts) (Down s)
  stopped-alone calls s e counts now same ds = record {
    memory = λ r o. ap (λ (u : World). u.memory r) (same ∙ after-stop) ∙ ap (λ (b : Bool). if b then None else world.memory r) o;
    found = λ r o. ap (λ (u : World). u.found r) (same ∙ after-stop) ∙ fun_ext (λ c. ap (λ (b : Bool). if b then world.found q c else world.found r c) o);
    devices = λ r o. ap (λ (f : Devices). f r) ds ∙ device-there look device x w m stand seen q place at (device s) r o;
    here = (
      ap (λ (u : World). u.memory q) (same ∙ after-stop) ∙ ap (λ (b : Bool). if b then None else world.memory q) (same-server q),
      ap (λ (u : World). u.found q) (same ∙ after-stop) ∙ fun_ext (λ c. ap (λ (b : Bool). if b then world.found q c else world.found q c) (same-server q)
          ∙ ap (λ (f : Pick → StableState). f c) here.1 ∙ here.3 c ∙ sym (found-there c)),
      ap (λ (f : Devices). f q) ds ∙ device-here look device x w m stand seen q place at (device s),
    );
    counts = counts;
  }
    where
      found-there : (c : Pick) → found_on (counts_by place.counts) (look s) c ≡ state (view_with look p).storage
      found-there c = let some = e.some c in some.is_after ∙ left-none some.left (state (view_with look p).storage)

  pub stop-carries : Carries w.net (go_on (stopping ∷ []) m.state.course)
  stop-carries = carries-on w.net m.state.course stopping refl (ap (λ (u : World). u.sent) after-stop) stand.net
