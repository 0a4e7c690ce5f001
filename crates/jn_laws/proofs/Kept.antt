-- What is found of works, from one moment of a run to a later one.
use Rattle.jn_laws.proofs.Common.{◌≡◌, ◌⊎◌, inl, inr, ℕ, ◌≤◌, Bool, true, false, List, [], ◌∷◌, ◌++◌, Option, Some, None, is_some, refl, sym, ◌∙◌, ap, subst, ◌||◌, not, map, if◌then◌else◌, nat_lt, list_all, AllByRecursion, ServerNo, WorkId, AllFiles, Event, EventInRange, Text, StableState, Prepared, Pick, work_at, World, Memory, new_memory, opening, Step, NextEvent, after, run, IsRun, always, Setup, Devices, is_up, Moment, Leads, none, IsWritten, Work, ActiveWork}
use Rattle.jn_schedule.specs.declared.Event.TheVariants as events
use Rattle.jn_system_reports.specs.BetweenSteps.Sent.{HasCommitLine}
use Rattle.jn_system_reports.specs.BetweenSteps.Works.{IsPrepared, IsCarriedOut, IsActive}
use Rattle.jn_system_reports.specs.Reporting.Reported.{steps_of, world_of}
use Rattle.jn_system_reports.proofs.BetweenSteps.Standing.{stand, run-stands}
use Rattle.jn_system_reports.proofs.BetweenSteps.Laws.{as-prepared, reads-kept}
use Rattle.jn_between.proofs.Found.{Led, led-by}
use Rattle.jn_headline.proofs.Came.{stuck}
use Rattle.jn_machine_refines.specs.Retold.{behind, IsAsIn, IsRetold, IsRetoldInPart}
use Rattle.jn_machine_refines.proofs.Behind.{ups-name-none, run-behind}
use Rattle.jn_machine_refines.proofs.Forms.{as-behind, between, meeting, settling, cut, ended}
use Rattle.jn_machine_refines.proofs.Items.{run-both, is-run-both, one_more, world-more, reported-more}
use Rattle.jn_machine_refines.proofs.Partly.{partly, raised}
use Rattle.jn_machine_refines.proofs.Seen.{may-run}
use Rattle.jn_machine_refines.proofs.Whole.{So, starting, held, so-written}
use Rattle.jn_laws.specs.Works.{IsFoundWith, IsPreparedWithReads, WorksHoldReads, AreTheirReads}

-- ---- over the whole system

active-in : (w v : World) → IsAsIn w v → (W : WorkId) (a : ActiveWork) → IsActive v W a → IsActive w W a
active-in w v k W a s = record { memory = s.memory; up = k.memory W.server s.memory s.up; work = s.work; is = s.is; active = s.active }

found-in : (w v : World) → IsAsIn w v → (W : WorkId) (c : Pick) (p : Prepared) → (v.found W.server c).works W ≡ Some p → (w.found W.server c).works W ≡ Some p
found-in w v k W c p e = ap (λ (f : ServerNo → Pick → StableState). (f W.server c).works W) (sym k.found) ∙ e

-- so it is seen of worlds that are as those
seen-reads : (w v q u : World) → IsAsIn w v → IsAsIn q u → AreTheirReads w q → AreTheirReads v u
seen-reads w v q u k l h = record {
  as_prepared = λ W c d p y e f. h.as_prepared W c d p y (found-in w v k W c p e) (found-in q u l W d y f);
  kept = λ W a r s read. let t = h.kept W a r (active-in w v k W a s) read in (λ b z. t.0 b (active-in q u l W b z), λ c p e. t.1 c p (found-in q u l W c p e));
}

run-reads : (servers : ℕ) (files : AllFiles) (epochs : ServerNo → ℕ) (steps more : List Step) → IsRun steps (opening servers files epochs) → IsRun more (run steps (opening servers files epochs))
    → AreTheirReads (run steps (opening servers files epochs)) (run more (run steps (opening servers files epochs)))
run-reads servers files epochs steps more may on =
    let h = stand files epochs servers steps may in
    let l = run-stands files epochs more (run steps (opening servers files epochs)) h on in record {
      as_prepared = as-prepared files epochs (run steps (opening servers files epochs)) (run more (run steps (opening servers files epochs))) h l;
      kept = reads-kept files epochs (run steps (opening servers files epochs)) (run more (run steps (opening servers files epochs))) h l;
    }

-- ---- over a run of the machine

-- the steps that lead to a world, which has more lines before
record IsRunTo (servers : ℕ) (files : AllFiles) (epochs : ServerNo → ℕ) (v : World) : Type 0 where
  steps : List Step
  may : IsRun steps (opening servers files epochs)
  ups : List Text
  are_up : list_all is_up ups ≡ true
  world : v ≡ behind ups (run steps (opening servers files epochs))

from-run : (servers : ℕ) (files : AllFiles) (epochs : ServerNo → ℕ) (v u : World) → IsRunTo servers files epochs v → Led v u → AreTheirReads v u
from-run servers files epochs v u r l = seen-reads w v (run l.steps w) u (as-behind r.ups r.are_up w v r.world) (as-behind r.ups r.are_up (run l.steps w) u its) (run-reads servers files epochs r.steps l.steps r.may may)
  where
    w : World
    w = run r.steps (opening servers files epochs)

    its : u ≡ behind r.ups (run l.steps w)
    its = l.world ∙ ap (λ (z : World). run l.steps z) r.world ∙ run-behind r.ups (ups-name-none r.ups r.are_up) l.steps w

    may : IsRun l.steps w
    may = may-run r.ups (ups-name-none r.ups r.are_up) l.steps w (subst (λ (z : World). IsRun l.steps z) r.world l.may)

-- where servers still come up, no work was made
none-yet : (servers : ℕ) (files : AllFiles) (epochs : ServerNo → ℕ) (k : ℕ) (ups : List Text) (u : World) → AreTheirReads (partly servers files epochs k ups) u
none-yet servers files epochs k ups u = record {
  as_prepared = λ W c d p y e f. absurd (no-work p e);
  kept = λ W a r s read. absurd (no-active W a s);
}
  where
    no-work : (p : Prepared) → None ≡ Some p → ⊥
    no-work p e = cc

    no-active : (W : WorkId) (a : ActiveWork) → IsActive (partly servers files epochs k ups) W a → ⊥
    no-active W a s = by (nat_lt W.server.0 k || not (nat_lt W.server.0 servers)) s.up s.is
      where
        none-there : (w : Work) → None ≡ Some w → ⊥
        none-there w e = cc

        is-new : (m : Memory) (n : ℕ) → Some (new_memory W.server n) ≡ Some m → new_memory W.server n ≡ m
        is-new m n e = cc

        none-up : (m : Memory) → None ≡ Some m → ⊥
        none-up m e = cc

        by : (b : Bool) → (if b then Some (new_memory W.server (raised servers files epochs k W.server)) else None) ≡ Some s.memory → work_at W s.memory.worker ≡ Some s.work → ⊥
        by true e f = none-there s.work (ap (λ (m : Memory). work_at W m.worker) (is-new s.memory (raised servers files epochs k W.server) e) ∙ f)
        by false e f = none-up s.memory e

module _ (x : Setup) (schedule : List Event) (images : Devices) (m later : Moment) (few : x.servers ≤ 8) (ranges : AllByRecursion EventInRange schedule) (h : IsWritten x schedule images m) (leads : Leads x m later) where
  abbrev last : ServerNo → ℕ
  last = raised x.servers h.files h.epochs x.servers

  abbrev start : World
  start = opening x.servers h.files last

  goes-on : (epochs : ServerNo → ℕ) → IsRunTo x.servers h.files epochs m.state.course.world → AreTheirReads m.state.course.world later.state.course.world
  goes-on epochs r = from-run x.servers h.files epochs m.state.course.world later.state.course.world r (led-by x m later leads)

  -- what is cut short goes on no more
  of-cut : IsRetoldInPart x schedule h.files m → later ≡ m → AreTheirReads m.state.course.world later.state.course.world
  of-cut r e = subst (λ (n : Moment). AreTheirReads m.state.course.world n.state.course.world) (sym e) (seen-reads w m.state.course.world w m.state.course.world like like so)
    where
      nexts : List Step
      nexts = map (λ (e : Event). NextEvent) r.begun

      w : World
      w = run nexts (world_of r.items (opening x.servers h.files r.epochs))

      like : IsAsIn w m.state.course.world
      like = r.world

      may-begin : (es : List Event) (z : World) → IsRun (map (λ (e : Event). NextEvent) es) z
      may-begin [] z = tt
      may-begin (e ∷ es) z = (tt, may-begin es (after NextEvent z))

      steps : List Step
      steps = steps_of r.items ++ nexts

      so : AreTheirReads w w
      so = subst (λ (z : World). AreTheirReads z z) (run-both (steps_of r.items) nexts (opening x.servers h.files r.epochs))
          (run-reads x.servers h.files r.epochs steps [] (is-run-both (steps_of r.items) nexts (opening x.servers h.files r.epochs) r.reported.steps (may-begin r.begun (world_of r.items (opening x.servers h.files r.epochs)))) tt)

  of-ended : (r : IsRetold x schedule h.files m) → AreTheirReads m.state.course.world later.state.course.world
  of-ended r = goes-on r.epochs (by (led-by x r.last m r.leads))
    where
      o : World
      o = opening x.servers h.files r.epochs

      w : World
      w = world_of r.items o

      by : Led r.last.state.course.world m.state.course.world → IsRunTo x.servers h.files r.epochs m.state.course.world
      by l = record {
        steps = steps_of r.items ++ l.steps;
        may = is-run-both (steps_of r.items) l.steps o r.told.reported.steps (may-run r.told.ups (ups-name-none r.told.ups r.told.are_up) l.steps w (subst (λ (z : World). IsRun l.steps z) r.told.world l.may));
        ups = r.told.ups;
        are_up = r.told.are_up;
        world = l.world ∙ ap (λ (z : World). run l.steps z) r.told.world ∙ run-behind r.told.ups (ups-name-none r.told.ups r.told.are_up) l.steps w ∙ ap (λ (z : World). behind r.told.ups z) (sym (run-both (steps_of r.items) l.steps o));
      }

  by-form : So x few h.files h.epochs schedule ranges m → AreTheirReads m.state.course.world later.state.course.world
  by-form (starting k r s) = subst (λ (v : World). AreTheirReads v later.state.course.world) (sym s.world) (none-yet x.servers h.files h.epochs k s.ups later.state.course.world)
  by-form (held (between items rest b)) = goes-on last (record { steps = steps_of items; may = b.reported.steps; ups = b.at.ups; are_up = b.at.are_up; world = b.at.world })
  by-form (held (meeting items e rest b)) = goes-on last (record {
    steps = steps_of items ++ NextEvent ∷ [];
    may = is-run-both (steps_of items) (NextEvent ∷ []) start b.reported.steps (tt, tt);
    ups = b.at.ups;
    are_up = b.at.are_up;
    world = b.at.world ∙ ap (λ (z : World). behind b.at.ups z) (sym (run-both (steps_of items) (NextEvent ∷ []) start));
  })
  by-form (held (settling items acts task pending rest b are)) = goes-on last (record {
    steps = steps_of (one_more items (record { event = events.Settle; acts = acts }));
    may = (reported-more items (record { event = events.Settle; acts = acts }) start b.reported b.next).steps;
    ups = b.at.ups;
    are_up = b.at.are_up;
    world = b.at.world ∙ ap (λ (z : World). behind b.at.ups z) (sym (world-more items (record { event = events.Settle; acts = acts }) start));
  })
  by-form (held (cut c)) = of-cut c.part (stuck x m later leads c.cut)
  by-form (held (ended r)) = of-ended r

  pub their-reads : AreTheirReads m.state.course.world later.state.course.world
  their-reads = by-form (so-written x few h.files h.epochs schedule ranges images m h.are_images h.leads)

-- ---- at each moment

module _ (x : Setup) (schedule : List Event) (images : Devices) (m : Moment) (few : x.servers ≤ 8) (ranges : AllByRecursion EventInRange schedule) (h : IsWritten x schedule images m) where
  abbrev r : World
  r = m.state.course.world

  -- what one pick finds, each finds
  with-reads : (W : WorkId) → IsPrepared r W → IsPreparedWithReads r W
  with-reads W there = at ((r.found W.server (λ n. false)).works W) refl (there (λ n. false))
    where
      off : false ≡ true → ⊥
      off e = cc

      each : (p : Prepared) → (r.found W.server (λ n. false)).works W ≡ Some p → (c : Pick) (o : Option Prepared) → (r.found W.server c).works W ≡ o → is_some o ≡ true → IsFoundWith r W c p.list p.reads
      each p e c None f some = absurd (off some)
      each p e c (Some q) f some =
          let same = (their-reads x schedule images m m few ranges h (none m)).as_prepared W (λ n. false) c p q e f in
          record { prepared = q; is = f; list_is = same.0; reads_are = same.1 }

      at : (o : Option Prepared) → (r.found W.server (λ n. false)).works W ≡ o → is_some ((r.found W.server (λ n. false)).works W) ≡ true → IsPreparedWithReads r W
      at None e some = absurd (off (ap is_some (sym e) ∙ some))
      at (Some p) e some = record { list = p.list; reads = p.reads; found = λ c. each p e c ((r.found W.server c).works W) refl (there c) }

  pub hold-reads : WorksHoldReads m.state.course.world
  hold-reads T W k = by ((always x schedule images m few ranges h).0.works.stay T W k)
    where
      by : IsPrepared r W ⊎ (HasCommitLine r T × IsCarriedOut r W) → IsPreparedWithReads r W ⊎ (HasCommitLine r T × IsCarriedOut r W)
      by (inl there) = inl (with-reads W there)
      by (inr done) = inr done
