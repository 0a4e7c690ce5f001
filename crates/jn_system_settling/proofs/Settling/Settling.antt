-- Every settle after every run ends, and hands over no more than its bound.
use Rattle.jn_system_settling.proofs.Common.{◌≡◌, ◌≢◌, ◌⊎◌, inl, inr, ◌≤◌, ◌<◌, ℕ, zero, suc, ◌+◌, Bool, true, false, List, [], ◌∷◌, ◌++◌, append-nil, append_assoc, Option, Some, None, is_some, true≢false, refl, sym, ◌∙◌, ap, subst, arith, if◌then◌else◌, nat_tests, ServerNo, WorkId, server_eq, server_tells, work_tells, AllFiles, StableState, Prepared, stable, is_going, WorkerTable, going_work, work_at, World, opening, servers_from, Step, NextEvent, IsRun, run, UpFact, ServerFact, opening-keeps, Course, opening_course, go, go_on, Chance, Chances, is_busy, first_busy, clients_from, until_rest, ask_again, settled, Event, Does, Settles, Told, after_events, AreSteps, burden, Sizes, IsCourse, NothingGoes, Ends}
use Rattle.jn_system_settling.proofs.Settling.WorldSizes.{opening-sizes}
use Rattle.jn_system_settling.proofs.Settling.Courses.{Sound, go-sound, go-on-sound}
use Rattle.jn_system_settling.proofs.Settling.Parts.{part-bounded}
use Rattle.jn_system_settling.proofs.Settling.Asking.{asked}
use Rattle.jn_system_settling.proofs.Settling.Resting.{PartEnds, part-ends}

pub opening-sound : (n : ℕ) (files : AllFiles) (epochs : ServerNo → ℕ) → Sound n (opening n files epochs) (opening_course n files epochs)
opening-sound n files epochs = record {
  course = record { is_run = tt; stands = refl };
  locks = opening-keeps n files epochs;
  sizes = opening-sizes n files epochs;
  below = refl;
}

-- the course of a run
pub course-sound : (n : ℕ) → n ≤ 8 → (files : AllFiles) (epochs : ServerNo → ℕ) (steps : List Step) → IsRun steps (opening n files epochs) → Sound n (opening n files epochs) (go_on steps (opening_course n files epochs))
course-sound n at_most files epochs steps h = go-on-sound n at_most (opening n files epochs) steps (opening_course n files epochs) (opening-sound n files epochs) h

pub on-world : (steps : List Step) (c : Course) → (go_on steps c).world ≡ run steps c.world
on-world [] c = refl
on-world (step ∷ steps) c = on-world steps (go step c)

on-steps : (steps : List Step) (c : Course) → (go_on steps c).steps ≡ c.steps ++ steps
on-steps [] c = sym (append-nil c.steps)
on-steps (step ∷ steps) c = on-steps steps (go step c) ∙ append_assoc c.steps (step ∷ []) steps

pub course-is : (n : ℕ) (files : AllFiles) (epochs : ServerNo → ℕ) (steps : List Step) → (go_on steps (opening_course n files epochs)).steps ≡ steps
course-is n files epochs steps = on-steps steps (opening_course n files epochs)

pub run-sizes : (n : ℕ) → n ≤ 8 → (files : AllFiles) (epochs : ServerNo → ℕ) (steps : List Step) → IsRun steps (opening n files epochs) → Sizes n (run steps (opening n files epochs))
run-sizes n at_most files epochs steps h = let sound = course-sound n at_most files epochs steps h in subst (λ (w : World). Sizes n w) (on-world steps (opening_course n files epochs)) sound.sizes

-- ---- at rest nothing goes

not-busy : (w : World) (n j : ℕ) (s : ServerNo) → first_busy w (servers_from j n) ≡ None → j ≤ s.0 → s.0 < j + n → is_busy (stable (w.found s)) (w.memory s) ≡ false
not-busy w zero j s h l k = absurd (omega (arith, l, k))
not-busy w (suc n) j s h l k = by (is_busy (stable (w.found (record { 0 = j }))) (w.memory (record { 0 = j }))) refl h (server_tells s (record { 0 = j })) (not-busy w n (j + 1) s)
  where
    by : (b : Bool) → is_busy (stable (w.found (record { 0 = j }))) (w.memory (record { 0 = j })) ≡ b → (if b then Some (record { 0 = j }) else first_busy w (servers_from (j + 1) n)) ≡ None
        → ((server_eq s (record { 0 = j }) ≡ true) × (s ≡ record { 0 = j })) ⊎ ((server_eq s (record { 0 = j }) ≡ false) × (s ≢ record { 0 = j }))
        → (first_busy w (servers_from (j + 1) n) ≡ None → j + 1 ≤ s.0 → s.0 < j + 1 + n → is_busy (stable (w.found s)) (w.memory s) ≡ false) → is_busy (stable (w.found s)) (w.memory s) ≡ false
    by true is e t again = absurd (cc e)
    by false is e (inl t) again = subst (λ (z : ServerNo). is_busy (stable (w.found z)) (w.memory z) ≡ false) (sym t.1) is
    by false is e (inr t) again = again e (let ne = t.0 in grind (arith, nat_tests, l, ne)) (omega (arith, k))

none-going : (x : StableState) (t : WorkerTable) (W : WorkId) → is_some (going_work x t) ≡ false → is_some (work_at W t) ≡ true → is_going (x.works W) ≡ false
none-going x [] W h k = absurd (true≢false (sym k))
none-going x (v ∷ vs) W h k = let again = none-going x vs W in let t = work_tells v.name W in grind (arith, h, k)

unless-there : (o : Option Prepared) → (is_some o ≡ true → is_going o ≡ false) → is_going o ≡ false
unless-there None h = refl
unless-there (Some p) h = h refl

pub nothing-goes : (n : ℕ) (start : World) (c : Course) → Sound n start c → first_busy c.world (servers_from 0 n) ≡ None → NothingGoes n c.world
nothing-goes n start c h idle s m k W l up = let fact : UpFact s m (c.world.found s) = subst (λ o. ServerFact s o (c.world.found s)) up (h.locks s) in
    let calm : is_some (going_work (stable (c.world.found s)) m.worker) ≡ false = subst (λ o. is_busy (stable (c.world.found s)) o ≡ false) up (not-busy c.world n 0 s idle (omega arith) (omega (arith, l))) in
    subst (λ (x : StableState). is_going (x.works W) ≡ false) (sym (fact.same k)) (unless-there ((stable (c.world.found s)).works W) (λ is. none-going (stable (c.world.found s)) m.worker W calm (fact.table.live W is)))

-- ---- a settle

settle-sound : (n : ℕ) → n ≤ 8 → (start : World) (chances : Chances) (c : Course) → Sound n start c → Sound n start (settled n chances c)
settle-sound n at_most start chances c h = let first = part-bounded n at_most start chances.steps chances.first c h in
    let middle = asked n at_most start (clients_from 1 8) (servers_from 0 n) (until_rest (servers_from 0 n) chances.first chances.steps c) first.sound in
    let last = part-bounded n at_most start chances.steps chances.second (go_on (ask_again (clients_from 1 8) (servers_from 0 n)) (until_rest (servers_from 0 n) chances.first chances.steps c)) middle.sound in last.sound

pub settle-ends : (n : ℕ) → n ≤ 8 → (start : World) (first second : ℕ → Chance) (c : Course) → Sound n start c → Ends n first second c
settle-ends n at_most start first second c h = record {
  steps = one.steps + two.steps;
  last = two.last;
  rests = two.rests;
  quiet = nothing-goes n start two.last finally (let r = two.rests in r.idle);
  each = λ j l. ap (λ (z : Course). until_rest (servers_from 0 n) second j (go_on (ask_again (clients_from 1 8) (servers_from 0 n)) z)) (one.each j (omega (arith, l))) ∙ two.each j (omega (arith, l));
}
  where
    one : PartEnds n first c
    one = part-ends n at_most start (suc (burden (servers_from 0 n) c)) first c h (omega arith)

    still : Sound n start one.last
    still = let bounded = part-bounded n at_most start one.steps first c h in subst (λ (z : Course). Sound n start z) (one.each one.steps (omega arith)) bounded.sound

    middle : Course
    middle = go_on (ask_again (clients_from 1 8) (servers_from 0 n)) one.last

    asked-sound : Sound n start middle
    asked-sound = let a = asked n at_most start (clients_from 1 8) (servers_from 0 n) one.last still in a.sound

    two : PartEnds n second middle
    two = part-ends n at_most start (suc (burden (servers_from 0 n) middle)) second middle asked-sound (omega arith)

    finally : Sound n start two.last
    finally = let bounded = part-bounded n at_most start two.steps second middle asked-sound in subst (λ (z : Course). Sound n start z) (two.each two.steps (omega arith)) bounded.sound

-- ---- events

pub event-sound : (n : ℕ) → n ≤ 8 → (start : World) (events : List Event) (t : Told) → Sound n start t.course → AreSteps n events t.course → IsCourse start (after_events n events t).course
event-sound n at_most start [] t h steps = h.course
event-sound n at_most start (Does list ∷ events) t h steps = event-sound n at_most start events _ (go-on-sound n at_most start list (go_on (NextEvent ∷ []) t.course) (go-sound n at_most start t.course NextEvent h tt) steps.0) steps.1
event-sound n at_most start (Settles chances ∷ events) t h steps = event-sound n at_most start events _ (settle-sound n at_most start chances (go_on (NextEvent ∷ []) t.course) (go-sound n at_most start t.course NextEvent h tt)) steps
