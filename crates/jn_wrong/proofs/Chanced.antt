-- A restart, a show and a settle where nothing strikes: what is found and what is free doesn't matter.
use Rattle.jn_wrong.proofs.Common.{◌≡◌, Bool, true, false, List, [], ◌∷◌, Option, Some, None, is_some, refl, sym, ◌∙◌, ap, subst, if◌then◌else◌, nat_eq, drop, ServerNo, FileNo, Tid, WorkId, File, file_eq, tid_eq, work_eq, file_tells, tid_tells, work_tells, Text, StableState, Pick, work_before, World, Memory, Printed, ArePrints, print_files, file_before, Step, Restart, tid_before, after, run, IsRun, restart, restart_with, prints_of, go_on, course_to, Setup, Chance, prints_found, works_found, tids_found, Meets, Acts, ComesUp, State, begun, Deed, Reads, last_epoch, stopped_idle, shown, showing, pick_read, recovering, recovered, given_up, is_used_up, brought_up, Devices, IsLookedOver, IsRecovery, Alone, Befalls, EventRefusal, NoSuchServer, ServerDown, unless, met, deed_of, made, IsQuiet, Raised, called-calm, recovered-calm, quiet-alone, quiet-called, restarted-up, no-faults, DeviceState, plain, Server, Left}
use Rattle.jn_wrong.proofs.StillRuns.{still, IsBlank, PrintsNothing}
use Rattle.jn_schedule.specs.declared.Event.TheVariants as events
use Rattle.jn_wrong.proofs.Bare.{bare_course, bare, made-same}
use Rattle.jn_wrong.proofs.Doing.{Follows, below, none-named, itself}

same-work : (W : WorkId) → work_eq W W ≡ true
same-work W = itself work_eq W (work_tells W W)

same-tid : (T : Tid) → tid_eq T T ≡ true
same-tid T = itself tid_eq T (tid_tells T T)

same-file : (f : FileNo) → file_eq f f ≡ true
same-file f = itself file_eq f (file_tells f f)

-- ---- a show of nothing

module _ (x : Setup) (h : Chance) (s : State) (q : ServerNo) (is : PrintsNothing x s.course.world q) where
  abbrev here : World
  here = s.course.world

  -- its task is begun
  abbrev begun_here : State
  begun_here = record s { tasks = drop 1 s.tasks }

  prints : (m : Memory) → here.memory q ≡ Some m → (f : FileNo) → prints_of q here m (File f) ≡ None
  prints m up f = subst (λ (n : Memory). prints_of q here n (File f) ≡ None) (one (sym is.up ∙ up)) (is.nothing f)
    where
      one : Some is.memory ≡ Some m → is.memory ≡ m
      one k = cc

  abbrev asked : List Text → Deed
  asked texts = record (plain (Server q) (stopped_idle q h.stop)) { device = Reads q; texts = texts }

  prints-none : (m : Memory) (list : List Printed) → here.memory q ≡ Some m → ArePrints (prints_of q here m) list → list ≡ []
  prints-none m list up are = are.printed
      ∙ ap (λ (fs : List FileNo). print_files (prints_of q here m) are.blocks fs) (none-named file_eq file_before (λ f. prints_of q here m (File f)) are.files are.are_files same-file (λ f. prints m up f))

  -- with no stop and no fault reported there is nothing to report
  pub looks-same : (d e : DeviceState) → h.stop ≡ None → h.told ≡ [] → IsLookedOver (x.counts q) h here q d e
      → bare (made x h (showing h q) begun_here) ≡ bare (made x still (showing still q) begun_here)
  looks-same d e stop untold looked = ap (λ (texts : List Text). bare (made x h (asked texts) begun_here))
      (ap (shown q (prints_found h.found)) stop ∙ ap (λ (list : List Printed). shown q list None) (prints-none looked.memory (prints_found h.found) looked.up (looked.prints stop)))
      ∙ made-same x h (asked []) [] begun_here (no-faults q h.told untold) refl (ap (λ (o : Option (Pick → Left)). bare_course (go_on (stopped_idle q o) s.course)) stop)

  pub is-met : (g : Chance) → deed_of x g (Meets (events.Show q)) s ≡ showing g q
  is-met g = ap (λ (o : Option EventRefusal). met x g (events.Show q) s.clients here o) (ap (λ (b : Bool). unless b NoSuchServer (unless (is_some (here.memory q)) ServerDown None)) is.below
      ∙ ap (λ (o : Option Memory). unless (is_some o) ServerDown None) is.up)

module _ (x : Setup) (h : Chance) (s : State) (ds es : Devices) (quiet : IsQuiet x s.course.world ds) where
  abbrev w : World
  w = s.course.world

  -- its task is begun
  abbrev u : State
  u = record s { tasks = drop 1 s.tasks }

  -- ---- a restart

  module _ (q : ServerNo) (is : IsBlank x w q) where
    pub not-used : (g : Chance) → is_used_up g q w ≡ false
    not-used g = by g.stop
      where
        by : (o : Option (Pick → Left)) → (if is_some o then false else nat_eq (w.found q (pick_read g)).epoch last_epoch) ≡ false
        by None = ap (λ (y : StableState). nat_eq y.epoch last_epoch) (is.found (pick_read g)) ∙ is.not_last
        by (Some made) = refl

    brings : (g : Chance) → brought_up g q w ≡ recovered g q
    brings g = ap (λ (b : Bool). if b then record (given_up g q) { cuts = true } else recovered g q) (not-used g)

    finds-same : (p r : Pick) → after (Restart q p [] []) w ≡ after (Restart q r [] []) w
    finds-same p r = by (w.memory q)
      where
        by : (o : Option Memory) → restart q p [] [] o w ≡ restart q r [] [] o w
        by (Some m) = refl
        by None = ap (λ (y : StableState). restart_with q y [] [] w) (is.found p ∙ sym (is.found r))

    abbrev Restarts : Pick → List WorkId → List Tid → Step
    Restarts p Ws Ts = Restart q p Ws Ts

    pub comes-so : Befalls x h (recovered h q) w ds es → (bare (made x h (recovered h q) u) ≡ bare (made x still (recovered still q) u)) × IsQuiet x (go_on (recovered h q).steps s.course).world es
    comes-so b = by b.used
      where
        by : Alone q (IsRecovery q (x.counts q) h (is_some ((run (recovering h q h.stop) w).memory q))) ds es
            → (bare (made x h (recovered h q) u) ≡ bare (made x still (recovered still q) u)) × IsQuiet x (go_on (recovering h q h.stop) s.course).world es
        by a = at (recovered-calm (x.counts q) h (is_some ((run (recovering h q h.stop) w).memory q)) (ds q) (es q) a.its (quiet.told q (below q.0 x.servers is.below)) (quiet.waiting q (below q.0 x.servers is.below)))
          where
            at : Raised h (is_some ((run (recovering h q h.stop) w).memory q)) (es q)
                → (bare (made x h (recovered h q) u) ≡ bare (made x still (recovered still q) u)) × IsQuiet x (go_on (recovering h q h.stop) s.course).world es
            at r = (made-same x h (recovered h q) (Restarts (pick_read still) [] [] ∷ []) u (no-faults q h.told r.told) refl course, subst (λ (steps : List Step). IsQuiet x (go_on steps s.course).world es) (sym steps) calm)
              where
                steps : recovering h q h.stop ≡ Restarts (pick_read h) (works_found h.found) (tids_found h.found) ∷ []
                steps = ap (λ (o : Option (Pick → Left)). recovering h q o) r.stop

                names : IsRun (Restarts (pick_read h) (works_found h.found) (tids_found h.found) ∷ []) w
                names = subst (λ (ss : List Step). IsRun ss w) steps b.steps

                no-works : works_found h.found ≡ []
                no-works = none-named work_eq work_before (w.found q (pick_read h)).works (works_found h.found) names.0.0 same-work (λ W. ap (λ (y : StableState). y.works W) (is.found (pick_read h)))

                no-flags : tids_found h.found ≡ []
                no-flags = none-named tid_eq tid_before (w.found q (pick_read h)).flags (tids_found h.found) names.0.1 same-tid (λ T. ap (λ (y : StableState). y.flags T) (is.found (pick_read h)))

                steps-now : recovering h q h.stop ≡ Restarts (pick_read h) [] [] ∷ []
                steps-now = steps ∙ ap (λ (Ws : List WorkId). Restarts (pick_read h) Ws (tids_found h.found) ∷ []) no-works ∙ ap (λ (Ts : List Tid). Restarts (pick_read h) [] Ts ∷ []) no-flags

                course : bare_course (go_on (recovering h q h.stop) s.course) ≡ bare_course (go_on (Restarts (pick_read still) [] [] ∷ []) s.course)
                course = ap (λ (ss : List Step). bare_course (go_on ss s.course)) steps-now
                    ∙ ap (λ (now : World). bare_course (course_to now (Restarts (pick_read still) [] []) s.course)) (finds-same (pick_read h) (pick_read still))

                calm : IsQuiet x (after (Restarts (pick_read h) (works_found h.found) (tids_found h.found)) w) es
                calm = quiet-alone x w (after (Restarts (pick_read h) (works_found h.found) (tids_found h.found)) w) ds es quiet q (λ p k. restarted-up w p q (pick_read h) (works_found h.found) (tids_found h.found) k) a.others
                    (λ z. r.power (ap (λ (ss : List Step). is_some ((run ss w).memory q)) steps ∙ z)) r.nothing_told r.nothing_waits

    pub comes-up : Befalls x h (deed_of x h (ComesUp q) s) w ds es → Follows x h (ComesUp q) s es
    comes-up b = let r = comes-so (subst (λ (deed : Deed). Befalls x h deed w ds es) (brings h) b) in record {
      same = ap (λ (deed : Deed). bare (made x h deed (begun (ComesUp q) s))) (brings h) ∙ r.0 ∙ ap (λ (deed : Deed). bare (made x still deed (begun (ComesUp q) s))) (sym (brings still));
      quiet = subst (λ (deed : Deed). IsQuiet x (go_on deed.steps s.course).world es) (sym (brings h)) r.1;
    }

  -- ---- a show

  module _ (q : ServerNo) (is : PrintsNothing x w q) where
    pub shows : Befalls x h (deed_of x h (Acts (events.Show q)) s) w ds es → Follows x h (Acts (events.Show q)) s es
    shows b = by b.used
      where
        by : Alone q (IsLookedOver (x.counts q) h w q) ds es → Follows x h (Acts (events.Show q)) s es
        by a = let calm = called-calm _ h (ds q) (es q) a.its.called (quiet.power q (below q.0 x.servers is.below) (ap is_some is.up)) (quiet.told q (below q.0 x.servers is.below)) (quiet.waiting q (below q.0 x.servers is.below)) in record {
          same = looks-same x h s q is (ds q) (es q) calm.stop calm.told a.its;
          quiet = subst (λ (o : Option (Pick → Left)). IsQuiet x (go_on (stopped_idle q o) s.course).world es) (sym calm.stop) (quiet-called x w w ds es quiet h q (λ p z. z) a.others calm);
        }

    pub meets : Befalls x h (deed_of x h (Meets (events.Show q)) s) w ds es → Follows x h (Meets (events.Show q)) s es
    meets b = by (shows (subst (λ (deed : Deed). Befalls x h deed w ds es) (is-met x h s q is h) b))
      where
        by : Follows x h (Acts (events.Show q)) s es → Follows x h (Meets (events.Show q)) s es
        by f = record {
          same = ap (λ (deed : Deed). bare (made x h deed (begun (Acts (events.Show q)) s))) (is-met x h s q is h) ∙ f.same ∙ ap (λ (deed : Deed). bare (made x still deed (begun (Acts (events.Show q)) s))) (sym (is-met x h s q is still));
          quiet = subst (λ (deed : Deed). IsQuiet x (go_on deed.steps s.course).world es) (sym (is-met x h s q is h)) f.quiet;
        }
