-- Stable states change, or fewer may be found.
use Rattle.jn_system.proofs.Common.{◌≡◌, ◌≢◌, ◌⊎◌, inl, inr, Bool, true, false, List, Option, Some, None, is_some, if◌then◌else◌, refl, sym, ◌∙◌, subst, arith, ServerNo, LockUnit, Tid, WorkId, server_eq, server_tells, tid_tells, work_tells, Intention, Flag, list_change, StableState, Prepared, FlagState, Pick, AddReady, AddFlag, DropFlag, at_work, made_by, ready_work, flag_state, is_unit, asked, effects, FilesAnswer, commit_units, HoldsForCommit, HasRead, ReadsFiles, World, Working, AllOver, changed, put, lose, MayPrepare, MayFlag}
use Rattle.jn_system.specs.SmallSteps.Steps.{narrow}
use Rattle.jn_system.proofs.SmallSteps.Invariant.{CoreFacts, IsActive, IsPrepared, HasFlag, MayBeFound, base}
use Rattle.jn_records.specs.declared.work.WorkHead.{WorkHead}
use Rattle.jn_system.proofs.SmallSteps.Updates.{none_unless, false_unless, not_both, at_work_here, at_work_other, at_work_cases, at_tid_other, at_tid_cases, some_is, none_some}

-- A change of each state that may be found, in doubt or not.
module _ (w : World) (s : ServerNo) (done : Pick → Bool) (f : StableState → StableState) (each : (c : Pick) → MayBeFound w s (f (w.found s c))) (inv : CoreFacts w) where
  put_by : (c : Pick) → (b : Bool) → MayBeFound w s (if b then f (w.found s c) else w.found s c)
  put_by c true = each c
  put_by c false = inv.states s c

  put_at : (q : ServerNo) (c : Pick) → (((server_eq s q ≡ true) × (s ≡ q)) ⊎ ((server_eq s q ≡ false) × (s ≢ q))) → MayBeFound w q (changed w.found s done f q c)
  put_at q c (inl (t, e)) = subst (λ b. MayBeFound w q (if b then (if done c then f (w.found s c) else w.found s c) else w.found q c)) (sym t)
      (subst (λ q. MayBeFound w q (if done c then f (w.found s c) else w.found s c)) e (put_by c (done c)))
  put_at q c (inr (t, ne)) = subst (λ b. MayBeFound w q (if b then (if done c then f (w.found s c) else w.found s c) else w.found q c)) (sym t) (inv.states q c)

  pub put_kept : CoreFacts (put s done f w)
  put_kept = record {
    serial = inv.serial;
    states = λ q c. put_at q c (server_tells s q);
    active = inv.active;
    parts = inv.parts;
    aborted = inv.aborted;
    named = inv.named;
    knowledge = inv.knowledge;
    rest = inv.rest;
  }

-- Each pick finds another state at a server.
module _ (w : World) (s : ServerNo) (g : Pick → StableState) (each : (c : Pick) → MayBeFound w s (g c)) (inv : CoreFacts w) where
  part_at : (q : ServerNo) (c : Pick) → (((server_eq s q ≡ true) × (s ≡ q)) ⊎ ((server_eq s q ≡ false) × (s ≢ q))) → MayBeFound w q (if server_eq s q then g c else w.found q c)
  part_at q c (inl (t, e)) = subst (λ b. MayBeFound w q (if b then g c else w.found q c)) (sym t) (subst (λ q. MayBeFound w q (g c)) e (each c))
  part_at q c (inr (t, ne)) = subst (λ b. MayBeFound w q (if b then g c else w.found q c)) (sym t) (inv.states q c)

  pub part_kept : CoreFacts (record w { found = λ q c. if server_eq s q then g c else w.found q c })
  part_kept = record {
    serial = inv.serial;
    states = λ q c. part_at q c (server_tells s q);
    active = inv.active;
    parts = inv.parts;
    aborted = inv.aborted;
    named = inv.named;
    knowledge = inv.knowledge;
    rest = inv.rest;
  }

-- Fewer states may be found.
module _ (w : World) (s : ServerNo) (g : Pick → Pick) (inv : CoreFacts w) where
  narrow_at : (q : ServerNo) (c : Pick) → (((server_eq s q ≡ true) × (s ≡ q)) ⊎ ((server_eq s q ≡ false) × (s ≢ q))) → MayBeFound w q ((narrow s g w).found q c)
  narrow_at q c (inl (t, e)) = subst (λ b. MayBeFound w q (if b then w.found s (g c) else w.found q c)) (sym t) (subst (λ q. MayBeFound w q (w.found s (g c))) e (inv.states s (g c)))
  narrow_at q c (inr (t, ne)) = subst (λ b. MayBeFound w q (if b then w.found s (g c) else w.found q c)) (sym t) (inv.states q c)

  pub narrow_kept : CoreFacts (narrow s g w)
  narrow_kept = record {
    serial = inv.serial;
    states = λ q c. narrow_at q c (server_tells s q);
    active = inv.active;
    parts = inv.parts;
    aborted = inv.aborted;
    named = inv.named;
    knowledge = inv.knowledge;
    rest = inv.rest;
  }

-- A work becomes ready.
-- what holds of a work that is prepared now
pub record Prepares (w : World) (x : StableState) (W : WorkId) (p : Prepared) : Type 0 where
  pub opened : w.opened W ≡ true
  pub tid : p.tid ≡ w.owner W
  pub part : w.part (w.owner W) W.server ≡ Some W
  pub list : (u : LockUnit) → list_change p.list u ≡ effects (w.trace W) u
  pub reads : (u : LockUnit) → asked (w.trace W) u ≡ true → HasRead p.reads u
  pub reads_files : ReadsFiles p.list p.reads
  pub not_over : w.over W ≡ false
  pub not_active : w.active W ≡ None
  pub not_named : w.named (w.owner W) ≡ false
  pub not_going : p.going ≡ false
  pub agrees : FilesAnswer (base w W.server) (w.trace W)
  pub nowhere : x.works W ≡ None
  -- what it holds for commit no other work holds, and what another holds for commit it doesn't hold
  pub mine : (V : WorkId) (q : Prepared) → x.works V ≡ Some q → (u : LockUnit) → HoldsForCommit p.list u → (is_unit (commit_units q.list) u ≡ false) × (is_unit q.reads u ≡ false)
  pub others : (V : WorkId) (q : Prepared) → x.works V ≡ Some q → (u : LockUnit) → HoldsForCommit q.list u → (is_unit (commit_units p.list) u ≡ false) × (is_unit p.reads u ≡ false)
  pub no_reader : (V : WorkId) (a : Working) → w.active V ≡ Some a → V.server ≡ W.server → (u : LockUnit) → HoldsForCommit p.list u → is_unit a.reads u ≡ false

abbrev with_work : WorkId → Prepared → StableState → StableState
with_work W p x = record x { works = at_work x.works W (Some p) }

module _ (w : World) (x : StableState) (W : WorkId) (p : Prepared) (may : Prepares w x W p) (f : MayBeFound w W.server x) where
  abbrev Case : WorkId → Prepared → Type 0
  Case V q = ((W ≡ V) × (Some p ≡ Some q)) ⊎ ((W ≢ V) × (x.works V ≡ Some q))

  cases : (V : WorkId) (q : Prepared) → (with_work W p x).works V ≡ Some q → Case V q
  cases V q is = at_work_cases x.works W (Some p) V (Some q) is

  prepare_by : (V : WorkId) (q : Prepared) → Case V q → IsPrepared w W.server (with_work W p x) V q
  prepare_by V q (inl (e, k)) = subst (λ z. IsPrepared w W.server (with_work W p x) z q) e (subst (λ z. IsPrepared w W.server (with_work W p x) W z) (some_is p q k) (record {
    place = refl;
    opened = may.opened;
    tid = may.tid;
    part = may.part;
    list = may.list;
    reads = may.reads;
    reads_files = may.reads_files;
    not_over = may.not_over;
    not_active = may.not_active;
    going = λ g. absurd (not_both p.going g may.not_going);
    next = λ g. absurd (not_both p.going g may.not_going);
    agrees = λ n. may.agrees;
    written = λ n. absurd (not_both (w.named (w.owner W)) n may.not_named);
  }))
  prepare_by V q (inr (ne, k)) = f.prepared V q k

  abbrev AreApart : Prepared → Prepared → LockUnit → Type 0
  AreApart a b u = HoldsForCommit a.list u → (is_unit (commit_units b.list) u ≡ false) × (is_unit b.reads u ≡ false)

  apart_by : (A B : WorkId) (a b : Prepared) → Case A a → Case B b → A ≢ B → (u : LockUnit) → AreApart a b u
  apart_by A B a b (inl (e, k)) (inl (g, l)) ne u = absurd (ne (sym e ∙ g))
  apart_by A B a b (inl (e, k)) (inr (ng, l)) ne u = subst (λ (z : Prepared). AreApart z b u) (some_is p a k) (may.mine B b l u)
  apart_by A B a b (inr (nf, k)) (inl (g, l)) ne u = subst (λ (z : Prepared). AreApart a z u) (some_is p b l) (may.others A a k u)
  apart_by A B a b (inr (nf, k)) (inr (ng, l)) ne u = f.apart A B a b k l ne u

  reader_by : (A V : WorkId) (a : Working) (q : Prepared) → w.active A ≡ Some a → Case V q → A.server ≡ W.server → (u : LockUnit) → HoldsForCommit q.list u → is_unit a.reads u ≡ false
  reader_by A V a q is (inl (e, k)) at u h = may.no_reader A a is at u (subst (λ (z : Prepared). HoldsForCommit z.list u) (sym (some_is p q k)) h)
  reader_by A V a q is (inr (ne, k)) at u h = f.no_reader A V a q is k at u h

  is_there : (V : WorkId) → is_some (x.works V) ≡ true → is_some ((with_work W p x).works V) ≡ true
  is_there V h = grind (arith, work_tells)

  pub prepare_found : MayBeFound w W.server (with_work W p x)
  prepare_found = record {
    prepared = λ V q is. prepare_by V q (cases V q is);
    apart = λ A B a b i j. apart_by A B a b (cases A a i) (cases B b j);
    disk = λ u free. f.disk u (λ V q is n. free V q (at_work_other x.works W (Some p) V (λ e. not_both (w.named (w.owner V)) n (subst (λ z. w.named (w.owner z) ≡ false) e may.not_named)) ∙ is) n);
    no_reader = λ A V a q is i. reader_by A V a q is (cases V q i);
    ready = λ V at r d n. is_there V (f.ready V at r d n);
    flag = f.flag;
    aborted = f.aborted;
    named = f.named;
  }

-- It was active until now.
module _ (w : World) (x : StableState) (head : WorkHead) (list : List Intention) (reads : List LockUnit) (inv : CoreFacts w) (may : MayPrepare w x head list reads) (f : MayBeFound w head.work.server x) where
  abbrev W : WorkId
  W = head.work

  abbrev working : Working
  working = record { list = list; reads = reads }

  was : IsActive w W working
  was = inv.active W working may.active

  its_part : w.part (w.owner W) W.server ≡ Some W
  its_part = subst (λ T. w.part T W.server ≡ Some W) may.tid may.part

  readers : (V : WorkId) (a : Working) → (((W ≡ V) × (None ≡ Some a)) ⊎ ((W ≢ V) × (w.active V ≡ Some a))) → V.server ≡ W.server → (u : LockUnit) → HoldsForCommit list u → is_unit a.reads u ≡ false
  readers V a (inl (e, k)) = absurd (none_some a k)
  readers V a (inr (ne, k)) = may.no_reader V a k ne

  prepares : Prepares (lose W w) x W (ready_work head list reads)
  prepares = record {
    opened = was.opened;
    tid = may.tid;
    part = its_part;
    list = was.list;
    reads = was.reads;
    reads_files = was.reads_files;
    not_over = was.not_over;
    not_active = at_work_here w.active W None;
    not_named = false_unless (w.named (w.owner W)) (λ n. not_both (w.was_ready W) ((inv.named (w.owner W) n).ready W.server W its_part) was.not_ready);
    not_going = refl;
    agrees = was.agrees;
    nowhere = none_unless (x.works W) (λ p is. none_some working (sym (f.prepared W p is).not_active ∙ may.active));
    mine = may.mine;
    others = may.others;
    no_reader = λ V a is. readers V a (at_work_cases w.active W None V (Some a) is);
  }

  pub prepared_found : MayBeFound (lose W w) W.server x → MayBeFound (lose W w) W.server (made_by (AddReady head list reads) x)
  prepared_found g = prepare_found (lose W w) x W (ready_work head list reads) prepares g

-- A flag is put.
module _ (w : World) (x : StableState) (flag : Flag) (may : MayFlag w flag) (f : MayBeFound w flag.tid.server x) where
  abbrev T : Tid
  T = flag.tid

  abbrev flagged : StableState
  flagged = made_by (AddFlag flag) x

  flag_by : (U : Tid) (k : FlagState) → (((T ≡ U) × (Some (flag_state flag) ≡ Some k)) ⊎ ((T ≢ U) × (x.flags U ≡ Some k))) → HasFlag w T.server U k
  flag_by U k (inl (e, h)) = subst (λ z. HasFlag w T.server U z) (some_is (flag_state flag) k h) (subst (λ z. HasFlag w T.server z (flag_state flag)) e
      (record { place = refl; begun = may.begun; ended = may.ended; ready = may.ready; works = may.works }))
  flag_by U k (inr (ne, h)) = f.flag U k h

  flag_stays : (U : Tid) → is_some (x.flags U) ≡ true → is_some (flagged.flags U) ≡ true
  flag_stays U h = grind (arith, tid_tells)

  named_by : (U : Tid) → ((is_some (x.flags U) ≡ true) ⊎ AllOver w U) → ((is_some (flagged.flags U) ≡ true) ⊎ AllOver w U)
  named_by U (inl h) = inl (flag_stays U h)
  named_by U (inr h) = inr h

  pub flag_found : MayBeFound w T.server flagged
  flag_found = record {
    prepared = f.prepared;
    apart = f.apart;
    disk = f.disk;
    no_reader = f.no_reader;
    ready = f.ready;
    flag = λ U k h. flag_by U k (at_tid_cases x.flags T (Some (flag_state flag)) U (Some k) h);
    aborted = λ U at d. at_tid_other x.flags T (Some (flag_state flag)) U (λ e. not_both (w.aborted U) d (subst (λ z. w.aborted z ≡ false) e may.not_aborted)) ∙ f.aborted U at d;
    named = λ U at n. named_by U (f.named U at n);
  }

-- A flag is dropped: all its works are over.
module _ (w : World) (x : StableState) (T : Tid) (over : AllOver w T) (f : MayBeFound w T.server x) where
  abbrev dropped : StableState
  dropped = made_by (DropFlag T) x

  drop_by : (U : Tid) (o : Option FlagState) → (((T ≡ U) × (None ≡ o)) ⊎ ((T ≢ U) × (x.flags U ≡ o))) → ((is_some (x.flags U) ≡ true) ⊎ AllOver w U) → ((is_some o ≡ true) ⊎ AllOver w U)
  drop_by U o (inl (e, k)) h = inr (subst (λ z. AllOver w z) e over)
  drop_by U o (inr (ne, k)) (inl h) = inl (subst (λ z. is_some z ≡ true) k h)
  drop_by U o (inr (ne, k)) (inr h) = inr h

  was_flag : (U : Tid) (k : FlagState) → (((T ≡ U) × (None ≡ Some k)) ⊎ ((T ≢ U) × (x.flags U ≡ Some k))) → x.flags U ≡ Some k
  was_flag U k (inl (e, h)) = absurd (none_some k h)
  was_flag U k (inr (ne, h)) = h

  pub drop_found : MayBeFound w T.server dropped
  drop_found = record {
    prepared = f.prepared;
    apart = f.apart;
    disk = f.disk;
    no_reader = f.no_reader;
    ready = f.ready;
    flag = λ U k h. f.flag U k (was_flag U k (at_tid_cases x.flags T None U (Some k) h));
    aborted = λ U at d. let h = f.aborted U at d in grind (arith, tid_tells);
    named = λ U at n. drop_by U (dropped.flags U) (at_tid_cases x.flags T None U (dropped.flags U) refl) (f.named U at n);
  }
