-- A part of a settle comes to rest: each delivery lowers its burden, and each background step has an intention less to carry
-- out, or leaves a message that waits.
use Rattle.jn_system_settling.proofs.Common.{◌≡◌, ◌≢◌, ◌⊎◌, inl, inr, ◌≤◌, ◌<◌, ℕ, zero, suc, ◌+◌, Bool, true, false, List, [], ◌∷◌, ◌++◌, length, Option, Some, None, is_some, refl, sym, ◌∙◌, ap, subst, arith, if◌then◌else◌, slice_get, slice_get_within, nat_tests, ServerNo, server_eq, server_tells, work_tells, WorkId, Files, change, intention_change, Intention, WorkEntry, StableState, Pick, CarryOut, made_all, stable, at_work, WorkerTable, going_work, intentions_of, World, Memory, servers_from, Step, after, ends, done, Course, numbered, still_waiting, go, Chance, is_busy, first_busy, working, next_step, onward, until_rest, burden, IsAtRest, Left}
use Rattle.jn_system_settling.proofs.Settling.Burdens.{busy-is}
use Rattle.jn_system_settling.proofs.Settling.Courses.{Sound, waiting-is}
use Rattle.jn_system_settling.proofs.Settling.Parts.{busy-has, row_of, works-as, handing-sound, handing-lowers, working-sound, working-lowers}

-- from some number of steps on the part is at rest, and no further step comes
pub record PartEnds (n : ℕ) (chances : ℕ → Chance) (c : Course) : Type 0 where
  pub steps : ℕ
  pub last : Course
  pub rests : IsAtRest n last
  pub each : (j : ℕ) → steps ≤ j → until_rest (servers_from 0 n) chances j c ≡ last

abbrev shifted : (ℕ → Chance) → ℕ → Chance
shifted chances j = chances (j + 1)

-- one step more
one-more : (n : ℕ) (chances : ℕ → Chance) (c : Course) (step : Step) → next_step (chances 0) c.waiting (first_busy c.world (servers_from 0 n)) ≡ Some step
    → PartEnds n (shifted chances) (go step c) → PartEnds n chances c
one-more n chances c step e h = record { steps = suc h.steps; last = h.last; rests = h.rests; each = λ j. by j }
  where
    by : (j : ℕ) → suc h.steps ≤ j → until_rest (servers_from 0 n) chances j c ≡ h.last
    by zero l = absurd (omega (arith, l))
    by (suc j) l = ap (λ o. onward o c (until_rest (servers_from 0 n) (shifted chances) j)) e ∙ h.each j (omega (arith, l))

at-rest : (n : ℕ) (chances : ℕ → Chance) (c : Course) → c.waiting ≡ [] → first_busy c.world (servers_from 0 n) ≡ None → PartEnds n chances c
at-rest n chances c waits idle = record { steps = 0; last = c; rests = record { waits = waits; idle = idle }; each = λ j l. by j }
  where
    none : next_step (chances 0) c.waiting (first_busy c.world (servers_from 0 n)) ≡ None
    none = ap (λ l. next_step (chances 0) l (first_busy c.world (servers_from 0 n))) waits ∙ ap (next_step (chances 0) []) idle

    by : (j : ℕ) → until_rest (servers_from 0 n) chances j c ≡ c
    by zero = refl
    by (suc j) = ap (λ o. onward o c (until_rest (servers_from 0 n) (shifted chances) j)) none

first-same : (w now : World) → ((q : ServerNo) → is_busy (stable (now.found q)) (now.memory q) ≡ is_busy (stable (w.found q)) (w.memory q)) → (servers : List ServerNo) → first_busy now servers ≡ first_busy w servers
first-same w now same [] = refl
first-same w now same (s ∷ servers) = let again = first-same w now same servers in let here = same s in grind arith

going-files : (x : StableState) (files : Files) (t : WorkerTable) → going_work (record x { files = files }) t ≡ going_work x t
going-files x files [] = refl
going-files x files (v ∷ vs) = let again = going-files x files vs in grind arith

at-work-here : (f : WorkId → ℕ) (W : WorkId) (k : ℕ) → at_work f W k W ≡ k
at-work-here f W k = grind (arith, work_tells)

module _ (n : ℕ) (at_most : n ≤ 8) (start : World) where
  -- every course of a smaller burden ends
  abbrev EndBelow : ℕ → Type 0
  EndBelow b = (chances : ℕ → Chance) (c : Course) → Sound n start c → burden (servers_from 0 n) c < b → PartEnds n chances c

  handing-ends : (b : ℕ) → EndBelow b → (chances : ℕ → Chance) (c : Course) → Sound n start c → burden (servers_from 0 n) c ≤ b → (k : ℕ) (ks : List ℕ) → c.waiting ≡ k ∷ ks → PartEnds n chances c
  handing-ends b below chances c h l k ks e = one-more n chances c _ (ap (λ z. next_step (chances 0) z (first_busy c.world (servers_from 0 n))) e)
      (below (shifted chances) _ (handing-sound n at_most start (chances 0) c h k ks e) (let lower = handing-lowers n at_most start (chances 0) c h k ks e in omega (arith, lower, l)))

  -- a server makes a step: a work goes with so many intentions left at most
  module _ (b : ℕ) (below : EndBelow b) where
    pub record Goes (c : Course) (s : ServerNo) (left : ℕ) : Type 0 where
      pub sound : Sound n start c
      pub light : burden (servers_from 0 n) c ≤ b
      pub waits : c.waiting ≡ []
      pub busy : first_busy c.world (servers_from 0 n) ≡ Some s
      pub memory : Memory
      pub up : c.world.memory s ≡ Some memory
      pub entry : WorkEntry
      pub goes : going_work (stable (c.world.found s)) memory.worker ≡ Some entry
      pub few : length (intentions_of ((stable (c.world.found s)).works entry.name)) ≤ memory.next entry.name + left

    module _ (chances : ℕ → Chance) (c : Course) (s : ServerNo) (left : ℕ) (g : Goes c s left) where
      abbrev x : StableState
      x = stable (c.world.found s)

      abbrev m : Memory
      m = g.memory

      abbrev it : Step
      it = working s (chances 0).room (chances 0).stop

      comes : next_step (chances 0) c.waiting (first_busy c.world (servers_from 0 n)) ≡ Some it
      comes = ap (λ l. next_step (chances 0) l (first_busy c.world (servers_from 0 n))) g.waits ∙ ap (next_step (chances 0) []) g.busy

      then-sound : Sound n start (go it c)
      then-sound = working-sound n at_most start (chances 0) c g.sound s g.busy m g.up g.entry g.goes

      lowers : burden (servers_from 0 n) (go it c) + (if is_some (chances 0).stop then 1 else 0) ≤ burden (servers_from 0 n) c
      lowers = working-lowers n at_most start (chances 0) c g.sound s g.busy m g.up g.entry g.goes

      -- it is stopped
      stopped-ends : is_some (chances 0).stop ≡ true → PartEnds n chances c
      stopped-ends e = one-more n chances c it comes (below (shifted chances) (go it c) then-sound (let l = lowers in let light = g.light in let one = ap {B = ℕ} (λ (z : Bool). if z then 1 else 0) e in omega (arith, l, light, one)))

      -- it is done
      module _ (calm : (chances 0).stop ≡ None) (o : Option Intention) (next : slice_get (intentions_of (x.works g.entry.name)) (m.next g.entry.name) ≡ o) where
        abbrev now : World
        now = done s None (row_of n at_most start (chances 0) c g.sound s g.busy m g.up g.entry g.goes o) c.world

        leads : after it c.world ≡ now
        leads = works-as n at_most start (chances 0) c g.sound s g.busy m g.up g.entry g.goes (chances 0).stop
            ∙ ap (λ z. ends s None z (row_of n at_most start (chances 0) c g.sound s g.busy m g.up g.entry g.goes (slice_get (intentions_of (x.works g.entry.name)) (m.next g.entry.name))) c.world) calm
            ∙ ap (λ z. done s None (row_of n at_most start (chances 0) c g.sound s g.busy m g.up g.entry g.goes z) c.world) next

        waits-now : (go it c).waiting ≡ numbered (length c.world.sent) (row_of n at_most start (chances 0) c g.sound s g.busy m g.up g.entry g.goes o).messages
        waits-now = waiting-is n at_most start c it (row_of n at_most start (chances 0) c g.sound s g.busy m g.up g.entry g.goes o).messages (ap (λ (w : World). w.sent) leads)
            ∙ ap (λ l. l ++ numbered (length c.world.sent) (row_of n at_most start (chances 0) c g.sound s g.busy m g.up g.entry g.goes o).messages) (still (chances 0).stop ∙ g.waits)
          where
            still : (stop : Option (Pick → Left)) → still_waiting (working s (chances 0).room stop) c.waiting ≡ c.waiting
            still None = refl
            still (Some made) = refl

        light-now : burden (servers_from 0 n) (go it c) ≤ b
        light-now = let l = lowers in let light = g.light in omega (arith, l, light)

      -- the work is over, and a message waits
      over-ends : (chances 0).stop ≡ None → slice_get (intentions_of (x.works g.entry.name)) (m.next g.entry.name) ≡ None → PartEnds n chances c
      over-ends calm next = one-more n chances c it comes (handing-ends b below (shifted chances) (go it c) then-sound (light-now calm None next) (length c.world.sent) [] (waits-now calm None next))

      -- an intention is carried out, and one less is left
      module _ (calm : (chances 0).stop ≡ None) (i : Intention) (next : slice_get (intentions_of (x.works g.entry.name)) (m.next g.entry.name) ≡ Some i) where
        abbrev then_world : World
        then_world = now calm (Some i) next

        itself : server_eq s s ≡ true
        itself = grind (arith, nat_tests)

        abbrev there : Memory
        there = record m { next = at_work m.next g.entry.name (m.next g.entry.name + 1) }

        stands : then_world.memory s ≡ Some there
        stands = ap (λ (z : Bool). if z then Some there else c.world.memory s) itself

        abbrev written : StableState
        written = record x { files = change (intention_change i) x.files }

        found : stable (then_world.found s) ≡ written
        found = ap (λ (z : Bool). if z then written else x) itself

        busy-as : (q : ServerNo) → is_busy (stable (then_world.found q)) (then_world.memory q) ≡ is_busy (stable (c.world.found q)) (c.world.memory q)
        busy-as q = by (server_tells s q)
          where
            at : Bool → ServerNo → Bool
            at z q = is_busy (stable (λ k. if z then made_all (CarryOut g.entry.name i ∷ []) (c.world.found s k) else c.world.found q k)) (if z then Some there else c.world.memory q)

            by : ((server_eq s q ≡ true) × (s ≡ q)) ⊎ ((server_eq s q ≡ false) × (s ≢ q)) → is_busy (stable (then_world.found q)) (then_world.memory q) ≡ is_busy (stable (c.world.found q)) (c.world.memory q)
            by (inl e) = ap (λ z. at z q) e.0 ∙ ap is_some (going-files x (change (intention_change i) x.files) m.worker) ∙ sym (ap (λ k. is_busy x k) g.up) ∙ ap (λ (z : ServerNo). is_busy (stable (c.world.found z)) (c.world.memory z)) e.1
            by (inr e) = ap (λ z. at z q) e.0

        pub one-less : (l : ℕ) → left ≡ suc l → Goes (go it c) s l
        one-less l is = record {
          sound = then-sound;
          light = light-now calm (Some i) next;
          waits = waits-now calm (Some i) next;
          busy = subst (λ (z : World). first_busy z (servers_from 0 n) ≡ Some s) (sym (leads calm (Some i) next)) (first-same c.world then_world busy-as (servers_from 0 n) ∙ g.busy);
          memory = there;
          up = subst (λ (z : World). z.memory s ≡ Some there) (sym (leads calm (Some i) next)) stands;
          entry = g.entry;
          goes = subst (λ (z : World). going_work (stable (z.found s)) m.worker ≡ Some g.entry) (sym (leads calm (Some i) next)) (ap (λ (y : StableState). going_work y m.worker) found ∙ going-files x (change (intention_change i) x.files) m.worker ∙ g.goes);
          few = subst (λ (z : World). length (intentions_of ((stable (z.found s)).works g.entry.name)) ≤ there.next g.entry.name + l) (sym (leads calm (Some i) next))
              (let same = ap (λ (y : StableState). length (intentions_of (y.works g.entry.name))) found in let few = g.few in let counted = at-work-here m.next g.entry.name (m.next g.entry.name + 1) in omega (arith, same, few, counted, is));
        }

        pub some-left : 1 ≤ left
        some-left = let inside = slice_get_within (intentions_of (x.works g.entry.name)) (m.next g.entry.name) i next in let few = g.few in omega (arith, inside, few)

        carries : next_step (chances 0) c.waiting (first_busy c.world (servers_from 0 n)) ≡ Some it
        carries = comes

    going-ends : (left : ℕ) (chances : ℕ → Chance) (c : Course) (s : ServerNo) → Goes c s left → PartEnds n chances c
    going-ends zero chances c s g = by (chances 0).stop refl (slice_get (intentions_of ((stable (c.world.found s)).works g.entry.name)) (g.memory.next g.entry.name)) refl
      where
        by : (stop : Option (Pick → Left)) → (chances 0).stop ≡ stop → (o : Option Intention) → slice_get (intentions_of ((stable (c.world.found s)).works g.entry.name)) (g.memory.next g.entry.name) ≡ o → PartEnds n chances c
        by (Some made) e o next = stopped-ends chances c s 0 g (ap is_some e)
        by None e None next = over-ends chances c s 0 g e next
        by None e (Some i) next = let some = some-left chances c s 0 g e i next in absurd (omega (arith, some))
    going-ends (suc left) chances c s g = by (chances 0).stop refl (slice_get (intentions_of ((stable (c.world.found s)).works g.entry.name)) (g.memory.next g.entry.name)) refl (λ d k. going-ends left (shifted chances) d s k)
      where
        by : (stop : Option (Pick → Left)) → (chances 0).stop ≡ stop → (o : Option Intention) → slice_get (intentions_of ((stable (c.world.found s)).works g.entry.name)) (g.memory.next g.entry.name) ≡ o
            → ((d : Course) → Goes d s left → PartEnds n (shifted chances) d) → PartEnds n chances c
        by (Some made) e o next again = stopped-ends chances c s (suc left) g (ap is_some e)
        by None e None next again = over-ends chances c s (suc left) g e next
        by None e (Some i) next again = one-more n chances c _ (carries chances c s (suc left) g e i next) (again _ (one-less chances c s (suc left) g e i next left refl))

  -- ---- every course

  pub part-ends : (b : ℕ) → EndBelow b
  part-ends zero chances c h l = absurd (omega (arith, l))
  part-ends (suc b) chances c h l = by c.waiting refl (first_busy c.world (servers_from 0 n)) refl (part-ends b)
    where
      by : (waiting : List ℕ) → c.waiting ≡ waiting → (o : Option ServerNo) → first_busy c.world (servers_from 0 n) ≡ o → EndBelow b → PartEnds n chances c
      by (k ∷ ks) e o f below = handing-ends b below chances c h (omega (arith, l)) k ks e
      by [] e None f below = at-rest n chances c e f
      by [] e (Some s) f below = let has = busy-has n at_most start (stable (c.world.found s)) (c.world.memory s) (busy-is c.world n 0 s f) in
          going-ends b below (length (intentions_of ((stable (c.world.found s)).works has.entry.name))) chances c s (record {
            sound = h;
            light = omega (arith, l);
            waits = e;
            busy = f;
            memory = has.memory;
            up = has.up;
            entry = has.entry;
            goes = has.goes;
            few = omega arith;
          })
