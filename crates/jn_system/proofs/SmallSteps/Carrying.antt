-- A named work is carried out, and goes.
use Rattle.jn_system.proofs.Common.{◌≡◌, ◌≢◌, ◌⊎◌, inl, inr, ℕ, Bool, true, false, List, take, Option, Some, None, is_some, refl, sym, ◌∙◌, ap, subst, arith, ServerNo, LockUnit, WorkId, work_eq, work_tells, Files, or_else, change, Intention, intention_change, list_change, StableState, Prepared, Pick, MarkGoing, CarryOut, RemoveWork, made_by, gone_on, is_unit, commit_units, HoldsForCommit, Writes, World, count_to, MayGoOn, MayCarryOut, MayRemove, MayCount, carried_at, if◌then◌else◌}
use Rattle.jn_system.proofs.SmallSteps.Invariant.{CoreFacts, IsPrepared, MayBeFound, base}
use Rattle.jn_system.proofs.SmallSteps.TraceLemmas.{take_zero, take_writes}
use Rattle.jn_system.proofs.SmallSteps.HeldLemmas.{writes_apart}
use Rattle.jn_system.proofs.SmallSteps.Updates.{false_unless, not_both, at_work_other, at_work_cases, some_is, none_some, clash}

-- nothing is carried out by no intention
none_by : (is : List Intention) (u : LockUnit) (v : Option (List ℕ)) → list_change (take 0 is) u ≡ Some v → ⊥
none_by is u v h = none_some v (subst (λ l. list_change l u ≡ Some v) (take_zero is) h)

module _ (w : World) (W : WorkId) (n : ℕ) (may : MayCount w W n) (inv : CoreFacts w) where
  count_by : (s : ServerNo) (c : Pick) (V : WorkId) (p : Prepared) → V.server ≡ s → (w.found s c).works V ≡ Some p → p.going ≡ true → (k : ℕ) → (((W ≡ V) × (n ≡ k)) ⊎ ((W ≢ V) × (w.next V ≡ k)))
      → (u : LockUnit) (v : Option (List ℕ)) → list_change (take k p.list) u ≡ Some v → (w.found s c).files u ≡ v
  count_by s c V p at is g k (inl (e, q)) u v h = let p' = ap (λ (z : WorkId). z.server) e ∙ at in
      subst (λ t. (w.found t c).files u ≡ v) p' (may.counts c p (subst (λ t. (w.found t c).works W ≡ Some p) (sym p') (subst (λ z. (w.found s c).works z ≡ Some p) (sym e) is)) g u v (subst (λ m. list_change (take m p.list) u ≡ Some v) (sym q) h))
  count_by s c V p at is g k (inr (ne, q)) u v h = ((inv.states s c).prepared V p is).next g u v (subst (λ m. list_change (take m p.list) u ≡ Some v) (sym q) h)

  pub count_kept : CoreFacts (count_to W n w)
  count_kept = record {
    serial = inv.serial;
    states = λ s c. let f = inv.states s c in record {
      prepared = λ V p is. let h = f.prepared V p is in record {
        place = h.place;
        opened = h.opened;
        tid = h.tid;
        part = h.part;
        list = h.list;
        reads = h.reads;
        reads_files = h.reads_files;
        not_over = h.not_over;
        not_active = h.not_active;
        going = h.going;
        next = λ g. count_by s c V p h.place is g ((count_to W n w).next V) (at_work_cases w.next W n V ((count_to W n w).next V) refl);
        agrees = h.agrees;
        written = h.written;
      };
      apart = f.apart;
      disk = f.disk;
      no_reader = f.no_reader;
      ready = f.ready;
      flag = f.flag;
      aborted = f.aborted;
      named = f.named;
    };
    active = inv.active;
    parts = inv.parts;
    aborted = inv.aborted;
    named = inv.named;
    knowledge = inv.knowledge;
    rest = record {
      no_trace = inv.rest.no_trace;
      of_begun = inv.rest.of_begun;
      no_end = inv.rest.no_end;
      down = λ V d. at_work_other w.next W n V (λ e. not_both (w.up V.server) (subst (λ (z : WorkId). w.up z.server ≡ true) e may.up) d) ∙ inv.rest.down V d;
      down_knowledge = inv.rest.down_knowledge;
      not_begun = inv.rest.not_begun;
      part_of = inv.rest.part_of;
      over = inv.rest.over;
    };
  }

-- A work of a named transaction begins to be carried out.
gone_is : (o : Option Prepared) (q : Prepared) → gone_on o ≡ Some q → (p : Prepared) × (o ≡ Some p) × (record p { going = true } ≡ q)
gone_is None q e = absurd (none_some q e)
gone_is (Some p) q e = (p, refl, some_is (record p { going = true }) q e)

module _ (w : World) (x : StableState) (W : WorkId) (may : MayGoOn w W) (f : MayBeFound w W.server x) where
  abbrev y : StableState
  y = made_by (MarkGoing W) x

  -- each work is one that there was, with the same list
  abbrev Was : WorkId → Prepared → Type 0
  Was V q = (p : Prepared) × (x.works V ≡ Some p) × (q.list ≡ p.list) × (q.reads ≡ p.reads)

  was_by : (V : WorkId) (q : Prepared) → (((W ≡ V) × (gone_on (x.works W) ≡ Some q)) ⊎ ((W ≢ V) × (x.works V ≡ Some q))) → Was V q
  was_by V q (inl (e, k)) = let b = gone_is (x.works W) q k in subst (λ z. Was z q) e (b.0, b.1, ap (λ (z : Prepared). z.list) (sym b.2), ap (λ (z : Prepared). z.reads) (sym b.2))
  was_by V q (inr (ne, k)) = (q, k, refl, refl)

  was : (V : WorkId) (q : Prepared) → y.works V ≡ Some q → Was V q
  was V q is = was_by V q (at_work_cases x.works W (gone_on (x.works W)) V (Some q) is)

  going_by : (V : WorkId) (q : Prepared) → (((W ≡ V) × (gone_on (x.works W) ≡ Some q)) ⊎ ((W ≢ V) × (x.works V ≡ Some q))) → IsPrepared w W.server y V q
  going_by V q (inl (e, k)) = let b = gone_is (x.works W) q k in let h = f.prepared W b.0 b.1 in subst (λ z. IsPrepared w W.server y z q) e (subst (λ z. IsPrepared w W.server y W z) b.2 (record {
    place = refl;
    opened = h.opened;
    tid = h.tid;
    part = h.part;
    list = h.list;
    reads = h.reads;
    reads_files = h.reads_files;
    not_over = h.not_over;
    not_active = h.not_active;
    going = λ g. may.named;
    next = λ g u v k. absurd (none_by b.0.list u v (subst (λ m. list_change (take m b.0.list) u ≡ Some v) may.none k));
    agrees = h.agrees;
    written = h.written;
  }))
  going_by V q (inr (ne, k)) = f.prepared V q k

  stays : (o : Option Prepared) → is_some o ≡ true → is_some (gone_on o) ≡ true
  stays o h = grind arith

  ready_by : (V : WorkId) (o : Option Prepared) → (((W ≡ V) × (gone_on (x.works W) ≡ o)) ⊎ ((W ≢ V) × (x.works V ≡ o))) → is_some (x.works V) ≡ true → is_some o ≡ true
  ready_by V o (inl (e, k)) h = subst (λ z. is_some z ≡ true) k (stays (x.works W) (subst (λ z. is_some (x.works z) ≡ true) (sym e) h))
  ready_by V o (inr (ne, k)) h = subst (λ z. is_some z ≡ true) k h

  free_by : (u : LockUnit) → ((V : WorkId) (p : Prepared) → y.works V ≡ Some p → w.named (w.owner V) ≡ true → is_some (list_change p.list u) ≡ false) → (V : WorkId) (p : Prepared) → x.works V ≡ Some p
      → (o : Option Prepared) → (((W ≡ V) × (gone_on (x.works W) ≡ o)) ⊎ ((W ≢ V) × (x.works V ≡ o))) → y.works V ≡ o → w.named (w.owner V) ≡ true → is_some (list_change p.list u) ≡ false
  free_by u free V p is o (inl (e, k)) q n = free V (record p { going = true }) (q ∙ (sym k ∙ ap gone_on (ap x.works e ∙ is))) n
  free_by u free V p is o (inr (ne, k)) q n = free V p (q ∙ (sym k ∙ is)) n

  pub going_found : MayBeFound w W.server y
  going_found = record {
    prepared = λ V q is. going_by V q (at_work_cases x.works W (gone_on (x.works W)) V (Some q) is);
    apart = λ A B a b i j ne u h. let k = was A a i in let l = was B b j in
        let r = f.apart A B k.0 l.0 k.1 l.1 ne u (subst (λ l. HoldsForCommit l u) k.2 h) in (subst (λ l. is_unit (commit_units l) u ≡ false) (sym l.2) r.0, subst (λ g. is_unit g u ≡ false) (sym l.3) r.1);
    disk = λ u free. f.disk u (λ V p is n. free_by u free V p is (y.works V) (at_work_cases x.works W (gone_on (x.works W)) V (y.works V) refl) refl n);
    no_reader = λ A V a q e i at u h. let k = was V q i in f.no_reader A V a k.0 e k.1 at u (subst (λ l. HoldsForCommit l u) k.2 h);
    ready = λ V at r d n. ready_by V (y.works V) (at_work_cases x.works W (gone_on (x.works W)) V (y.works V) refl) (f.ready V at r d n);
    flag = f.flag;
    aborted = f.aborted;
    named = f.named;
  }

-- Of the registers that an intention writes, some are written.
kept_where : (i : Intention) (is : LockUnit → Bool) (fs : Files) (u : LockUnit) → is_some (intention_change i u) ≡ false → (if is u then change (intention_change i) fs u else fs u) ≡ fs u
kept_where i is fs u h = by (is u) (intention_change i u) (fs u) h
  where
    by : (b : Bool) (o : Option (Option (List ℕ))) (y : Option (List ℕ)) → is_some o ≡ false → (if b then or_else o y else y) ≡ y
    by b o y h = grind arith

module _ (w : World) (x : StableState) (W : WorkId) (i : Intention) (is_there : LockUnit → Bool) (may : MayCarryOut w x W i) (f : MayBeFound w W.server x) where
  apart_from : (V : WorkId) (q : Prepared) → x.works V ≡ Some q → W ≢ V → (u : LockUnit) → Writes q.list u → is_some (intention_change i u) ≡ false
  apart_from V q is ne u h = false_unless (is_some (intention_change i u)) (λ t. not_both (is_some (list_change q.list u)) h (writes_apart may.work.list q.list may.work.reads q.reads (f.apart W V may.work q may.is is ne) (λ v c. (f.apart V W q may.work is may.is (λ e. ne (sym e)) v c).1) (f.prepared W may.work may.is).reads_files (f.prepared V q is).reads_files u (may.writes u t)))

  some_writes : (l : List Intention) (u : LockUnit) (v : Option (List ℕ)) → list_change l u ≡ Some v → Writes l u
  some_writes l u v e = subst (λ o. is_some o ≡ true) (sym e) refl

  next_by : (V : WorkId) (q : Prepared) → x.works V ≡ Some q → ((W ≡ V) ⊎ (W ≢ V)) → q.going ≡ true → (u : LockUnit) (v : Option (List ℕ)) → list_change (take (w.next V) q.list) u ≡ Some v → (carried_at is_there i x).files u ≡ v
  next_by V q is (inl e) g u v k = absurd (none_by q.list u v (subst (λ m. list_change (take m q.list) u ≡ Some v) (ap w.next (sym e) ∙ may.none) k))
  next_by V q is (inr ne) g u v k = kept_where i is_there x.files u (apart_from V q is ne u (take_writes q.list (w.next V) u (some_writes (take (w.next V) q.list) u v k))) ∙ (f.prepared V q is).next g u v k

  same_or : (V : WorkId) → (W ≡ V) ⊎ (W ≢ V)
  same_or V = by (work_tells W V)
    where
      by : (((work_eq W V ≡ true) × (W ≡ V)) ⊎ ((work_eq W V ≡ false) × (W ≢ V))) → (W ≡ V) ⊎ (W ≢ V)
      by (inl h) = inl h.1
      by (inr h) = inr h.1

  pub part_found : MayBeFound w W.server (carried_at is_there i x)
  part_found = record {
    prepared = λ V q is. let h = f.prepared V q is in record {
      place = h.place;
      opened = h.opened;
      tid = h.tid;
      part = h.part;
      list = h.list;
      reads = h.reads;
      reads_files = h.reads_files;
      not_over = h.not_over;
      not_active = h.not_active;
      going = h.going;
      next = next_by V q is (same_or V);
      agrees = h.agrees;
      written = h.written;
    };
    apart = f.apart;
    disk = λ u free. f.disk u free ∙ sym (kept_where i is_there x.files u (false_unless (is_some (intention_change i u)) (λ t. not_both (is_some (list_change may.work.list u)) (may.writes u t) (free W may.work may.is ((f.prepared W may.work may.is).going may.going)))));
    no_reader = f.no_reader;
    ready = f.ready;
    flag = f.flag;
    aborted = f.aborted;
    named = f.named;
  }

-- an intention is carried out
pub carry_found : (w : World) (x : StableState) (W : WorkId) (i : Intention) → MayCarryOut w x W i → MayBeFound w W.server x → MayBeFound w W.server (made_by (CarryOut W i) x)
carry_found w x W i may f = part_found w x W i (λ u. true) may f

module _ (w : World) (x : StableState) (W : WorkId) (may : MayRemove w x W) (f : MayBeFound w W.server x) where
  was_there : (V : WorkId) (q : Prepared) → (((W ≡ V) × (None ≡ Some q)) ⊎ ((W ≢ V) × (x.works V ≡ Some q))) → x.works V ≡ Some q
  was_there V q (inl (e, k)) = absurd (none_some q k)
  was_there V q (inr (ne, k)) = k

  remains : (V : WorkId) (q : Prepared) → (made_by (RemoveWork W) x).works V ≡ Some q → x.works V ≡ Some q
  remains V q is = was_there V q (at_work_cases x.works W None V (Some q) is)

  still : (V : WorkId) (o : Option Prepared) → w.aborted (w.owner V) ≡ false → w.named (w.owner V) ≡ false → (((W ≡ V) × (None ≡ o)) ⊎ ((W ≢ V) × (x.works V ≡ o))) → is_some (x.works V) ≡ true → is_some o ≡ true
  still V o d n (inl (e, k)) h = absurd (by may.why)
    where
      by : ((w.named (w.owner W) ≡ true) ⊎ (w.aborted (w.owner W) ≡ true)) → ⊥
      by (inl q) = not_both (w.named (w.owner W)) q (subst (λ z. w.named (w.owner z) ≡ false) (sym e) n)
      by (inr q) = not_both (w.aborted (w.owner W)) q (subst (λ z. w.aborted (w.owner z) ≡ false) (sym e) d)
  still V o d n (inr (ne, k)) h = subst (λ z. is_some z ≡ true) k h

  abbrev Free : LockUnit → Type 0
  Free u = (V : WorkId) (q : Prepared) → (made_by (RemoveWork W) x).works V ≡ Some q → w.named (w.owner V) ≡ true → is_some (list_change q.list u) ≡ false

  -- all but W
  free_at : (u : LockUnit) → Free u → ((p : Prepared) → x.works W ≡ Some p → w.named (w.owner W) ≡ true → is_some (list_change p.list u) ≡ false)
      → (V : WorkId) (q : Prepared) → x.works V ≡ Some q → (((work_eq W V ≡ true) × (W ≡ V)) ⊎ ((work_eq W V ≡ false) × (W ≢ V))) → w.named (w.owner V) ≡ true → is_some (list_change q.list u) ≡ false
  free_at u free mine V q is (inl (t, e)) n = mine q (ap x.works e ∙ is) (subst (λ z. w.named (w.owner z) ≡ true) (sym e) n)
  free_at u free mine V q is (inr (t, ne)) n = free V q (at_work_other x.works W None V ne ∙ is) n

  disk_by : (u : LockUnit) → Free u → (o : Option Prepared) → x.works W ≡ o → (b : Bool) → w.named (w.owner W) ≡ b → base w W.server u ≡ x.files u
  disk_by u free None is b n = f.disk u (λ V q i m. free_at u free (λ p k r. absurd (clash (x.works W) p k is)) V q i (work_tells W V) m)
  disk_by u free (Some p) is false n = f.disk u (λ V q i m. free_at u free (λ p k r. absurd (not_both (w.named (w.owner W)) r n)) V q i (work_tells W V) m)
  disk_by u free (Some p) is true n = by (list_change p.list u) refl
    where
      by : (o : Option (Option (List ℕ))) → list_change p.list u ≡ o → base w W.server u ≡ x.files u
      by None e = f.disk u (λ V q i m. free_at u free (λ r k l. subst (λ (z : Prepared). is_some (list_change z.list u) ≡ false) (some_is p r (sym is ∙ k)) (subst (λ z. is_some z ≡ false) (sym e) refl)) V q i (work_tells W V) m)
      by (Some v) e = (f.prepared W p is).written n u v e ∙ sym (may.done p is n u v e)

  pub remove_found : MayBeFound w W.server (made_by (RemoveWork W) x)
  remove_found = record {
    prepared = λ V q is. f.prepared V q (remains V q is);
    apart = λ A B a b i j. f.apart A B a b (remains A a i) (remains B b j);
    disk = λ u free. disk_by u free (x.works W) refl (w.named (w.owner W)) refl;
    no_reader = λ A V a q e i. f.no_reader A V a q e (remains V q i);
    ready = λ V at r d n. still V ((made_by (RemoveWork W) x).works V) d n (at_work_cases x.works W None V ((made_by (RemoveWork W) x).works V) refl) (f.ready V at r d n);
    flag = f.flag;
    aborted = f.aborted;
    named = f.named;
  }
