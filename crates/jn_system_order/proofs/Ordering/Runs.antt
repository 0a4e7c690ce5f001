-- Each run of the whole system is a run of the machine, and so its commits are in order.
use Rattle.jn_system_order.proofs.Common.{Text, restored, ◌≡◌, inl, ℕ, true, false, List, [], ◌∷◌, ◌++◌, Some, None, refl, sym, ◌∙◌, ap, subst, arith, list_any, ServerNo, LockUnit, Tid, tid_eq, AllFiles, Message, Outstanding, Pick, stable, Sent, Machine, replay, Invariant, Atom, run_atoms, opening_world, MayRun, Says, run_kept, opening_kept, run_grows, says_still, in_order, run_told, opening_told, World, Memory, opening, new_memory, Step, Tell, IsStep, IsRun, LockFacts, ServerFact, Mirrors, is_shown, locks-keep, opening-keeps, IsMoves, IsDone, IsInOrder, AreNamed, Quiet, client_repeats, server_repeats, StepCase, client_row, row_done, row_stopped, gone_late, gone_down, come_up, found_anew, dismissed, quietly, step-case, some-memory, after}
use Rattle.jn_base.specs.declared.op.Command.TheVariants.{End}
use Rattle.jn_msgs.specs.declared.message.Message.TheVariants as messages
use Rattle.jn_system.specs.WholeSystem.Steps.{run}
use Rattle.jn_system_order.proofs.Mirroring.Losing.{run-append, may-append}
use Rattle.jn_system_order.proofs.Mirroring.StepMoves.{step-moves, opening-mirrors, committed-any}
use Rattle.jn_system_order.proofs.Ordering.Named.{step-names}
use Rattle.jn_system_order.proofs.Ordering.Unlocked.{writes-nothing}
use Rattle.jn_system_order.proofs.Ordering.Openings.{openings, HaveOpenings}
use Rattle.jn_system_order.proofs.Ordering.RowOpenings.{restored-have}
use Rattle.jn_system_order.proofs.Ordering.Facts.{Facts}
use Rattle.jn_system_order.proofs.Ordering.ServerFacts.{still-facts, again-opens, up-tables, down-tables, late-tables, done-facts}
use Rattle.jn_system_order.proofs.Ordering.ClientSteps.{Next, row-facts, again-facts, dismiss-facts, end-next}

-- ---- one step

module _ (r : World) (w v : Machine) (mirrors : Mirrors r w) (facts : Facts r w) (inv : Invariant w) (ended : v.ended ≡ w.ended) (grow : (T : Tid) → w.begun T ≡ true → v.begun T ≡ true) (locks : LockFacts r) where
  still : (r' : World) → r'.clients ≡ r.clients → openings r'.sent ≡ openings r.sent → ((s : ServerNo) (m : Memory) → r'.memory s ≡ Some m → HaveOpenings (openings r.sent) m.coordinator.transactions) → Facts r' v
  still = still-facts r w v mirrors facts inv ended grow

  quiet-facts : (step : Step) (event : ℕ) (sent : List Sent) (lines : List Text) → Quiet r step event sent lines → Facts (record r { event = event; sent = sent; lines = lines }) v
  quiet-facts _ _ _ _ (client_repeats c) = again-facts r w v mirrors facts ended grow inv c
  quiet-facts _ _ _ _ (server_repeats s m is) = still _ refl (again-opens r w v mirrors facts inv ended grow s m) facts.tables
  quiet-facts _ _ _ _ _ = still _ refl refl facts.tables

  by-case : (step : Step) (now : World) → StepCase r step now → Facts now v
  by-case step _ (client_row _ c t sent lines row) = row-facts r w v mirrors facts ended grow inv c step t sent lines row
  by-case step _ (row_done _ s m k row is of) = done-facts r w v mirrors facts inv ended grow s m is (subst (λ o. ServerFact s o (r.found s)) is (locks s)) step k row of
  by-case step _ (row_stopped _ s m k row made is of) = still _ refl refl (down-tables r w v mirrors facts inv ended grow s)
  by-case _ _ (gone_late s m T is) = still _ refl refl (late-tables r w v mirrors facts inv ended grow s m T is)
  by-case _ _ (gone_down s m is) = still _ refl refl (down-tables r w v mirrors facts inv ended grow s)
  by-case _ _ (come_up s pick Ws Ts is) = still _ refl refl (up-tables r w v mirrors facts inv ended grow s (restored s (r.found s pick) Ws Ts) (restored-have (openings r.sent) (r.found s pick) Ts))
  by-case step _ (found_anew _ s found lines is of) = still _ refl refl facts.tables
  by-case _ _ dismissed = dismiss-facts r w v mirrors facts ended grow inv
  by-case step _ (quietly _ event sent lines of) = quiet-facts step event sent lines of

  pub step-facts : (step : Step) → Facts (after step r) v
  step-facts step = by-case step (after step r) (step-case r step)

module _ (files : AllFiles) (epochs : ServerNo → ℕ) (before : List Atom) (may : MayRun before (opening_world files epochs)) where
  abbrev w : Machine
  w = run_atoms before (opening_world files epochs)

  inv : Invariant w
  inv = run_kept before (opening_world files epochs) may (opening_kept files epochs)

  grow : (atoms : List Atom) → MayRun atoms w → (message : Message) → Says w message → Says (run_atoms atoms w) message
  grow atoms further message h = says_still w (run_atoms atoms w) (run_grows atoms w further inv) message h

  module _ (r : World) (mirrors : Mirrors r w) (facts : Facts r w) (locks : LockFacts r) where
    shown-next : (step : Step) → IsStep step r → is_shown step ≡ true → Next (after step r) w
    shown-next step i shown = let m = step-moves files epochs before r may mirrors locks step i shown in record {
      atoms = m.atoms;
      may = m.may;
      mirrors = m.mirrors;
      facts = step-facts r w (run_atoms m.atoms w) mirrors facts inv m.ended (λ T b. grow m.atoms m.may (messages.Open (record { 0 = 0 }) (record { 0 = 0 }) T) b) locks step;
      ends = λ T e. inl (subst (λ f. f T ≡ true) m.ended e);
    }

    -- every step
    pub step-next : (step : Step) → IsStep step r → Next (after step r) w
    step-next (Tell c End) i = end-next r w mirrors facts inv grow c
    step-next step i = shown-next step i refl

-- ---- every run

run-moves : (files : AllFiles) (epochs : ServerNo → ℕ) (steps : List Step) (r : World) (before : List Atom) (may : MayRun before (opening_world files epochs)) → Mirrors r (run_atoms before (opening_world files epochs)) → Facts r (run_atoms before (opening_world files epochs)) → LockFacts r
    → AreNamed [] r.lines → IsRun steps r → IsMoves files epochs (run steps r) × AreNamed [] (run steps r).lines
run-moves files epochs [] r before may mirrors facts locks names i = (record { atoms = before; may = may; mirrors = mirrors }, names)
run-moves files epochs (step ∷ steps) r before may mirrors facts locks names i =
    let next = step-next files epochs before may r mirrors facts locks step i.0 in let same = run-append before next.atoms (opening_world files epochs) in
    run-moves files epochs steps (after step r) (before ++ next.atoms) (may-append before next.atoms (opening_world files epochs) may next.may)
    (subst (λ (z : Machine). Mirrors (after step r) z) (sym same) next.mirrors) (subst (λ (z : Machine). Facts (after step r) z) (sym same) next.facts) (locks-keep step r i.0 locks)
    (step-names r (run_atoms before (opening_world files epochs)) mirrors
    (λ T. (run_told files before (opening_world files epochs) may (opening_kept files epochs) (opening_told files epochs)).1.named T ∙ committed-any T (run_atoms before (opening_world files epochs)).history ∙ ap (λ l. list_any (λ (V : Tid). tid_eq V T) l) mirrors.commits)
    names step) i.1

pub opening-facts : (servers : ℕ) (files : AllFiles) (epochs : ServerNo → ℕ) → Facts (opening servers files epochs) (opening_world files epochs)
opening-facts servers files epochs = record {
  unique = λ a b h k e. absurd h;
  tables = λ s m e. subst (λ (x : Memory). HaveOpenings [] x.coordinator.transactions) (some-memory (new_memory s (epochs s)) m e) tt;
  drawn = λ a h e. absurd h;
  clients = λ c. record { name = refl; current = λ T e. absurd (none-tid T e); fresh = λ T e k. absurd (none-tid T e); waits = λ o e. absurd (none-out o e) };
  begun = λ T e. absurd (no e);
}
  where
    none-tid : (T : Tid) → None ≡ Some T → ⊥
    none-tid T e = cc

    none-out : (o : Outstanding) → None ≡ Some o → ⊥
    none-out o e = cc

    no : false ≡ true → ⊥
    no q = grind arith

both : (servers : ℕ) (files : AllFiles) (epochs : ServerNo → ℕ) (steps : List Step) → IsRun steps (opening servers files epochs)
    → IsMoves files epochs (run steps (opening servers files epochs)) × AreNamed [] (run steps (opening servers files epochs)).lines
both servers files epochs steps i = run-moves files epochs steps (opening servers files epochs) [] tt (opening-mirrors servers files epochs) (opening-facts servers files epochs) (opening-keeps servers files epochs) tt i

pub runs-move : (servers : ℕ) (files : AllFiles) (epochs : ServerNo → ℕ) (steps : List Step) → IsRun steps (opening servers files epochs) → IsMoves files epochs (run steps (opening servers files epochs))
runs-move servers files epochs steps i = (both servers files epochs steps i).0

pub runs-name : (servers : ℕ) (files : AllFiles) (epochs : ServerNo → ℕ) (steps : List Step) → IsRun steps (opening servers files epochs) → AreNamed [] (run steps (opening servers files epochs)).lines
runs-name servers files epochs steps i = (both servers files epochs steps i).1

-- ---- the commits are in order

pub moves-in-order : (files : AllFiles) (epochs : ServerNo → ℕ) (r : World) → LockFacts r → IsMoves files epochs r → IsInOrder files r
moves-in-order files epochs r locks m = let w = run_atoms m.atoms (opening_world files epochs) in let order = in_order files epochs m.atoms m.may in
    let shown : (s : ServerNo) (c : Pick) (u : LockUnit) → IsDone r (r.found s c) u → (r.found s c).files u ≡ replay files w.history s u = λ s c u free. ap (λ x. x.files u) (sym (m.mirrors.found s c))
    ∙ order.shown s c u (λ W p e k. free W p (ap (λ x. x.works W) (sym (m.mirrors.found s c)) ∙ e) (ap (λ l. list_any (λ (V : Tid). tid_eq V p.tid) l) (sym m.mirrors.commits) ∙ sym (committed-any p.tid w.history) ∙ k)) in record {
      history = w.history;
      told = m.mirrors.commits;
      once = order.once;
      serial = order.serial;
      shown = shown;
      unlocked = λ s n u is none file. shown s (λ k. false) u (λ W p e k. writes-nothing n.worker n.tickets (stable (r.found s)).works (subst (λ o. ServerFact s o (r.found s)) is (locks s)).table u none file W p e);
    }
