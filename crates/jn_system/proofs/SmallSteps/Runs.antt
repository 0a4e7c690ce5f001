-- Every step keeps the invariant, and so does every run.
use Rattle.jn_system.proofs.Common.{◌≡◌, inl, inr, ℕ, true, false, List, [], ◌∷◌, Some, None, is_some, if◌then◌else◌, refl, sym, ◌∙◌, ap, ServerNo, Tid, server_tells, AllFiles, Flag, Change, StableState, Pick, AddReady, MarkGoing, CarryOut, RemoveWork, AddFlag, DropFlag, made_by, flag_state, World, Prepare, lose, Atom, Begin, Open, Perform, Lose, End, Learn, NoteReady, NoteOver, Abort, Close, Make, Count, Name, Decide, Narrow, RaiseEpoch, Crash, Restart, server_of, put, with_epoch, always, after, run, opening_world, MayAbort, MayMake, MayRestart, May, MayRun, carried_at, CarryPart}
use Rattle.jn_system.proofs.SmallSteps.Invariant.{CoreFacts, Invariant, FlagFact, NamesFact, MayBeFound}
use Rattle.jn_system.proofs.SmallSteps.NameLemmas.{fresh_work, fresh_tid, names_kept}
use Rattle.jn_system.proofs.SmallSteps.FlagLemmas.{flags_kept}
use Rattle.jn_system.proofs.SmallSteps.Updates.{TellsServer, none_of, false_unless, not_both, none_some, at_tid_here}
use Rattle.jn_system.proofs.SmallSteps.Memory.{lose_kept, begin_kept, end_kept, learn_kept, ready_kept, over_kept, abort_kept, close_kept}
use Rattle.jn_system.proofs.SmallSteps.Performing.{open_kept, perform_kept}
use Rattle.jn_system.proofs.SmallSteps.Disks.{put_kept, part_kept, narrow_kept, prepared_found, flag_found, drop_found}
use Rattle.jn_system.proofs.SmallSteps.Carrying.{count_kept, going_found, carry_found, part_found, remove_found}
use Rattle.jn_system.proofs.SmallSteps.Crashes.{crash_kept, restart_kept}
use Rattle.jn_system.proofs.SmallSteps.Naming.{name_kept}

-- a change that may come keeps what holds of a state
made_found : (w : World) (step : Change) (x : StableState) → MayMake w x step → MayBeFound w (server_of step) x → MayBeFound w (server_of step) (made_by step x)
made_found w (AddReady head list reads) x may f = absurd may
made_found w (MarkGoing W) x may f = going_found w x W may f
made_found w (CarryOut W i) x may f = carry_found w x W i may f
made_found w (RemoveWork W) x may f = remove_found w x W may f
made_found w (AddFlag flag) x may f = flag_found w x flag may.0 f
made_found w (DropFlag T) x may f = drop_found w x T may f

-- a flag that is put is in each state
flag_put : (w : World) (flag : Flag) (c : Pick) → is_some (((put flag.tid.server always (made_by (AddFlag flag)) w).found flag.tid.server c).flags flag.tid) ≡ true
flag_put w flag c = by (server_tells flag.tid.server flag.tid.server)
  where
    by : TellsServer flag.tid.server flag.tid.server → is_some (((put flag.tid.server always (made_by (AddFlag flag)) w).found flag.tid.server c).flags flag.tid) ≡ true
    by (inl (t, e)) = ap (λ b. is_some ((if b then made_by (AddFlag flag) (w.found flag.tid.server c) else w.found flag.tid.server c).flags flag.tid)) t ∙ ap (λ o. is_some o) (at_tid_here (w.found flag.tid.server c).flags flag.tid (Some (flag_state flag)))
    by (inr (t, ne)) = absurd (ne refl)

-- a state whose epoch is raised is found
pub raised : (w : World) (s : ServerNo) (x : StableState) → MayRestart w s x → MayRestart (put s always with_epoch w) s (with_epoch x)
raised w s x may = record { down = may.down; one = λ c. by c (server_tells s s); all_named = may.all_named }
  where
    by : (c : Pick) → TellsServer s s → (put s always with_epoch w).found s c ≡ with_epoch x
    by c (inl (t, e)) = ap (λ b. if b then with_epoch (w.found s c) else w.found s c) t ∙ ap with_epoch (may.one c)
    by c (inr (t, ne)) = absurd (ne refl)

-- a server that is up has no flag of a transaction that hasn't committed
no_flag : (w : World) (T : Tid) → FlagFact w → MayAbort w T → (c : Pick) → (w.found T.server c).flags T ≡ None
no_flag w T flags may c = none_of ((w.found T.server c).flags T) (false_unless (is_some ((w.found T.server c).flags T)) (λ f. not_both (w.named T) (flags T.server c T may.up f) may.not_named))

core_kept : (a : Atom) (w : World) → May a w → NamesFact w → FlagFact w → CoreFacts w → CoreFacts (after a w)
core_kept (Begin T) w may names flags inv = begin_kept w T may.up (fresh_tid w T names may) inv
core_kept (Open W T) w may names flags inv = open_kept w W T (fresh_work w W T names may) may.up may.begun inv
core_kept (Perform W answered a) w may names flags inv = perform_kept w W answered a may inv
core_kept (Lose W) w may names flags inv = lose_kept w W inv
core_kept (Prepare done head list reads) w may names flags inv = let lost = lose_kept w head.work inv in put_kept (lose head.work w) head.work.server done (made_by (AddReady head list reads))
    (λ c. prepared_found w (w.found head.work.server c) head list reads inv (may c) (inv.states head.work.server c) (lost.states head.work.server c)) lost
core_kept (End T works) w may names flags inv = end_kept w T works may inv
core_kept (Learn T k) w may names flags inv = learn_kept w T k may inv
core_kept (NoteReady W) w may names flags inv = ready_kept w W may inv
core_kept (NoteOver W) w may names flags inv = over_kept w W may inv
core_kept (Abort T) w may names flags inv = abort_kept w T may (no_flag w T flags may) inv
core_kept (Close T) w may names flags inv = close_kept w T inv
core_kept (Make done step) w may names flags inv = put_kept w (server_of step) done (made_by step) (λ c. made_found w step (w.found (server_of step) c) (may c) (inv.states (server_of step) c)) inv
core_kept (CarryPart W i is) w may names flags inv = part_kept w W.server (λ c. carried_at (is c) i (w.found W.server c)) (λ c. part_found w (w.found W.server c) W i (is c) (may c) (inv.states W.server c)) inv
core_kept (Count W n) w may names flags inv = count_kept w W n may inv
core_kept (Name T) w may names flags inv = name_kept w T may inv
core_kept (Decide flag) w may names flags inv = name_kept (put flag.tid.server always (made_by (AddFlag flag)) w) flag.tid (record { flagged = λ c. flag_put w flag c; not_named = may.1 })
    (put_kept w flag.tid.server always (made_by (AddFlag flag)) (λ c. flag_found w (w.found flag.tid.server c) flag may.0 (inv.states flag.tid.server c)) inv)
core_kept (Narrow s g) w may names flags inv = narrow_kept w s g inv
core_kept (RaiseEpoch s done) w may names flags inv = put_kept w s done with_epoch (λ c. inv.states s c) inv
core_kept (Crash s) w may names flags inv = crash_kept w s inv
core_kept (Restart s x) w may names flags inv = restart_kept (put s always with_epoch w) s (with_epoch x) (raised w s x may) (put_kept w s always with_epoch (λ c. inv.states s c) inv)

pub step_kept : (a : Atom) (w : World) → May a w → Invariant w → Invariant (after a w)
step_kept a w may inv = record { core = core_kept a w may inv.names inv.flags inv.core; names = names_kept a w may (raised w) inv.names; flags = flags_kept a w may (raised w) inv.flags }

pub run_kept : (atoms : List Atom) (w : World) → MayRun atoms w → Invariant w → Invariant (run atoms w)
run_kept [] w may inv = inv
run_kept (a ∷ atoms) w may inv = run_kept atoms (after a w) may.1 (step_kept a w may.0 inv)

not_true : false ≡ true → ⊥
not_true e = not_both true refl (sym e)

opening_core : (files : AllFiles) (epochs : ServerNo → ℕ) → CoreFacts (opening_world files epochs)
opening_core files epochs = record {
  serial = tt;
  states = λ s c. record {
    prepared = λ W p is. absurd (none_some p is);
    apart = λ W V p q is. absurd (none_some p is);
    disk = λ u free. refl;
    no_reader = λ W V a q is. absurd (none_some a is);
    ready = λ W at r. absurd (not_true r);
    flag = λ T k is. absurd (none_some k is);
    aborted = λ T at d. refl;
    named = λ T at n. absurd (not_true n);
  };
  active = λ W a is. absurd (none_some a is);
  parts = λ T s W is. absurd (none_some W is);
  aborted = λ T d. absurd (not_true d);
  named = λ T n. absurd (not_true n);
  knowledge = λ T u c. absurd (not_true c);
  rest = record {
    no_trace = λ W b. refl;
    of_begun = λ W b. absurd (not_true b);
    no_end = λ T e s. refl;
    down = λ W d. refl;
    down_knowledge = λ T d. refl;
    not_begun = λ T c. refl;
    part_of = λ W r. absurd (not_true r);
    over = λ W o. absurd (not_true o);
  };
}

pub opening_kept : (files : AllFiles) (epochs : ServerNo → ℕ) → Invariant (opening_world files epochs)
opening_kept files epochs = record {
  core = opening_core files epochs;
  names = record { works = λ W c b. absurd (not_true b); tids = λ T c b. absurd (not_true b) };
  flags = λ s c T u f. absurd (not_true f);
}
