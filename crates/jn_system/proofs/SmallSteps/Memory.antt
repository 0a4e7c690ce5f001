-- Steps in memory: works lost, ready and over, transactions begun, ended, aborted and closed, what coordinators learn.
use Rattle.jn_system.proofs.Common.{◌≡◌, ◌≢◌, ◌⊎◌, inl, inr, true, false, Option, Some, None, is_some, refl, sym, ◌∙◌, subst, arith, ServerNo, Tid, WorkId, tid_tells, work_tells, Pick, World, Knowledge, Unknown, Begun, Voting, Committed, AllReady, AllOver, Knows, begin_it, lose, end_it, learn, note_ready, note_over, abort, close, MayEnd, MayLearn, MayBeOver, MayAbort}
use Rattle.jn_system.proofs.SmallSteps.Invariant.{CoreFacts, IsPart, IsAborted, KnowledgeFact, IsPrepared, MayBeFound}
use Rattle.jn_system.proofs.SmallSteps.Updates.{not_both, at_work_other, at_work_cases, at_tid_here, at_tid_other, at_tid_cases, some_of, none_some, clash}

-- A work is lost.
module _ (w : World) (W : WorkId) (inv : CoreFacts w) where
  lose_states : (s : ServerNo) (c : Pick) → MayBeFound (lose W w) s (w.found s c)
  lose_states s c = let f = inv.states s c in record {
    prepared = λ V p is. let h = f.prepared V p is in record {
      place = h.place;
      opened = h.opened;
      tid = h.tid;
      part = h.part;
      list = h.list;
      reads = h.reads;
      reads_files = h.reads_files;
      not_over = h.not_over;
      not_active = grind (arith, work_tells, h.not_active);
      going = h.going;
      next = h.next;
      agrees = h.agrees;
      written = h.written;
    };
    apart = f.apart;
    disk = f.disk;
    no_reader = λ V U a q is. f.no_reader V U a q (grind (arith, work_tells));
    ready = f.ready;
    flag = f.flag;
    aborted = f.aborted;
    named = f.named;
  }

  pub lose_kept : CoreFacts (lose W w)
  lose_kept = record {
    serial = inv.serial;
    states = lose_states;
    active = λ V a is. inv.active V a (grind (arith, work_tells));
    parts = inv.parts;
    aborted = inv.aborted;
    named = inv.named;
    knowledge = inv.knowledge;
    rest = record {
      no_trace = inv.rest.no_trace;
      of_begun = inv.rest.of_begun;
      no_end = inv.rest.no_end;
      down = inv.rest.down;
      down_knowledge = inv.rest.down_knowledge;
      not_begun = inv.rest.not_begun;
      part_of = inv.rest.part_of;
      over = λ V o. let h = inv.rest.over V o in (h.0, grind (arith, work_tells, h.1));
    };
  }

-- A transaction is begun.
module _ (w : World) (T : Tid) (up : w.up T.server ≡ true) (fresh : w.begun T ≡ false) (inv : CoreFacts w) where
  begin_states : (s : ServerNo) (c : Pick) → MayBeFound (begin_it T w) s (w.found s c)
  begin_states s c = let f = inv.states s c in record {
    prepared = f.prepared;
    apart = f.apart;
    disk = f.disk;
    no_reader = f.no_reader;
    ready = f.ready;
    flag = λ U k is. let h = f.flag U k is in record { place = h.place; begun = grind (arith, tid_tells, h.begun); ended = h.ended; ready = h.ready; works = h.works };
    aborted = f.aborted;
    named = f.named;
  }

  stays : (U : Tid) → w.begun U ≡ true → (begin_it T w).begun U ≡ true
  stays U c = grind (arith, tid_tells)

  begin_knowledge : KnowledgeFact (begin_it T w)
  begin_knowledge V u c = grind (arith, tid_tells, inv.knowledge V, inv.named V, inv.aborted V)

  pub begin_kept : CoreFacts (begin_it T w)
  begin_kept = record {
    serial = inv.serial;
    states = begin_states;
    active = inv.active;
    parts = inv.parts;
    aborted = λ V d. let h = inv.aborted V d in record { begun = grind (arith, tid_tells, h.begun); not_named = h.not_named; unknown = grind (arith, tid_tells, h.begun, h.unknown) };
    named = λ V n. let h = inv.named V n in record { begun = grind (arith, tid_tells, h.begun); ended = h.ended; ready = h.ready };
    knowledge = begin_knowledge;
    rest = record {
      no_trace = inv.rest.no_trace;
      of_begun = λ V b. stays (w.owner V) (inv.rest.of_begun V b);
      no_end = inv.rest.no_end;
      down = inv.rest.down;
      down_knowledge = λ V d. grind (arith, tid_tells, inv.rest.down_knowledge V d);
      not_begun = λ V d. grind (arith, tid_tells, inv.rest.not_begun V);
      part_of = inv.rest.part_of;
      over = inv.rest.over;
    };
  }

module _ (w : World) (T : Tid) (works : ServerNo → Option WorkId) (may : MayEnd w T works) (inv : CoreFacts w) where
  abbrev v : World
  v = end_it T works w

  -- a transaction that has a part had its end
  has_end : (U : Tid) (s : ServerNo) (W : WorkId) → w.part U s ≡ Some W → T ≢ U
  has_end U s W is e = not_both (w.ended U) (inv.parts U s W is).ended (subst (λ x. w.ended x ≡ false) e may.fresh)

  same_part : (U : Tid) → T ≢ U → v.part U ≡ w.part U
  same_part U ne = at_tid_other w.part T works U ne

  all_ready : (U : Tid) → T ≢ U → AllReady w U → AllReady v U
  all_ready U ne h s W is = h s W (subst (λ f. f s ≡ Some W) (same_part U ne) is)

  all_over : (U : Tid) → T ≢ U → AllOver w U → AllOver v U
  all_over U ne h = (λ s W is. h.0 s W (subst (λ f. f s ≡ Some W) (same_part U ne) is), h.1)

  apart_of : (U : Tid) → w.ended U ≡ true → T ≢ U
  apart_of U q e = not_both (w.ended U) q (subst (λ x. w.ended x ≡ false) e may.fresh)

  end_states : (s : ServerNo) (c : Pick) → MayBeFound v s (w.found s c)
  end_states s c = let f = inv.states s c in record {
    prepared = λ W p is. let h = f.prepared W p is in record {
      place = h.place;
      opened = h.opened;
      tid = h.tid;
      part = subst (λ f. f s ≡ Some W) (sym (same_part (w.owner W) (has_end (w.owner W) s W h.part))) h.part;
      list = h.list;
      reads = h.reads;
      reads_files = h.reads_files;
      not_over = h.not_over;
      not_active = h.not_active;
      going = h.going;
      next = h.next;
      agrees = h.agrees;
      written = h.written;
    };
    apart = f.apart;
    disk = f.disk;
    no_reader = f.no_reader;
    ready = f.ready;
    flag = λ U k is. let h = f.flag U k is in let ne = apart_of U h.ended in record {
      place = h.place;
      begun = h.begun;
      ended = at_tid_other w.ended T true U ne ∙ h.ended;
      ready = all_ready U ne h.ready;
      works = record {
        each = λ W i. subst (λ f. f W.server ≡ Some W) (sym (same_part U ne)) (h.works.each W i);
        all = λ q W i. h.works.all q W (subst (λ f. f q ≡ Some W) (same_part U ne) i);
      };
    };
    aborted = f.aborted;
    named = λ U at n. by U n (f.named U at n);
  }
    where
      by : (U : Tid) → w.named U ≡ true → ((is_some ((w.found s c).flags U) ≡ true) ⊎ AllOver w U) → ((is_some ((w.found s c).flags U) ≡ true) ⊎ AllOver v U)
      by U n (inl q) = inl q
      by U n (inr o) = inr (all_over U (apart_of U (inv.named U n).ended) o)

  end_part_by : (U : Tid) (s : ServerNo) (W : WorkId) → (((T ≡ U) × (works ≡ v.part U)) ⊎ ((T ≢ U) × (w.part U ≡ v.part U))) → v.part U s ≡ Some W → IsPart v U s W
  end_part_by U s W (inl (e, k)) is = let q : works s ≡ Some W = subst (λ f. f s ≡ Some W) (sym k) is in record {
    place = may.place s W q;
    opened = may.opened s W q;
    owner = may.owner s W q ∙ e;
    ended = subst (λ x. v.ended x ≡ true) e (at_tid_here w.ended T true);
  }
  end_part_by U s W (inr (ne, k)) is = let h = inv.parts U s W (subst (λ f. f s ≡ Some W) (sym k) is) in record {
    place = h.place;
    opened = h.opened;
    owner = h.owner;
    ended = at_tid_other w.ended T true U ne ∙ h.ended;
  }

  end_knows : (U : Tid) (k : Knowledge) → Knows w U k → Knows v U k
  end_knows U Unknown (inl d) = inl d
  end_knows U Unknown (inr (n, o)) = inr (n, all_over U (apart_of U (inv.named U n).ended) o)
  end_knows U Begun h = h
  end_knows U (Voting noted) h = (h.0, h.1, at_tid_other w.ended T true U (apart_of U h.2) ∙ h.2, h.3)
  end_knows U (Committed finished) h = h

  no_end_by : (U : Tid) (s : ServerNo) → (((T ≡ U) × (true ≡ false)) ⊎ ((T ≢ U) × (w.ended U ≡ false))) → v.part U s ≡ None
  no_end_by U s (inl (e, q)) = absurd (not_both true refl q)
  no_end_by U s (inr (ne, q)) = subst (λ f. f s ≡ None) (sym (same_part U ne)) (inv.rest.no_end U q s)

  pub end_kept : CoreFacts v
  end_kept = record {
    serial = inv.serial;
    states = end_states;
    active = inv.active;
    parts = λ U s W is. end_part_by U s W (at_tid_cases w.part T works U (v.part U) refl) is;
    aborted = inv.aborted;
    named = λ U n. let h = inv.named U n in let ne = apart_of U h.ended in record { begun = h.begun; ended = at_tid_other w.ended T true U ne ∙ h.ended; ready = all_ready U ne h.ready };
    knowledge = λ U u c. end_knows U (w.knowledge U) (inv.knowledge U u c);
    rest = record {
      no_trace = inv.rest.no_trace;
      of_begun = inv.rest.of_begun;
      no_end = λ U e s. no_end_by U s (at_tid_cases w.ended T true U false e);
      down = inv.rest.down;
      down_knowledge = inv.rest.down_knowledge;
      not_begun = inv.rest.not_begun;
      part_of = λ W r. let q = inv.rest.part_of W r in subst (λ f. f W.server ≡ Some W) (sym (same_part (w.owner W) (has_end (w.owner W) W.server W q))) q;
      over = inv.rest.over;
    };
  }

module _ (w : World) (T : Tid) (k : Knowledge) (may : MayLearn w T k) (inv : CoreFacts w) where
  learn_by : (U : Tid) (x : Knowledge) → (((T ≡ U) × (k ≡ x)) ⊎ ((T ≢ U) × (w.knowledge U ≡ x))) → w.up U.server ≡ true → w.begun U ≡ true → Knows w U x
  learn_by U x (inl (e, q)) u c = subst (λ y. Knows w y x) e (subst (λ y. Knows w T y) q may.knows)
  learn_by U x (inr (ne, q)) u c = subst (λ y. Knows w U y) q (inv.knowledge U u c)

  pub learn_kept : CoreFacts (learn T k w)
  learn_kept = record {
    serial = inv.serial;
    states = inv.states;
    active = inv.active;
    parts = inv.parts;
    aborted = λ U d. let h = inv.aborted U d in record {
      begun = h.begun;
      not_named = h.not_named;
      unknown = at_tid_other w.knowledge T k U (λ e. not_both (w.aborted U) d (subst (λ x. w.aborted x ≡ false) e may.not_aborted)) ∙ h.unknown;
    };
    named = inv.named;
    knowledge = λ U u c. learn_by U ((learn T k w).knowledge U) (at_tid_cases w.knowledge T k U ((learn T k w).knowledge U) refl) u c;
    rest = record {
      no_trace = inv.rest.no_trace;
      of_begun = inv.rest.of_begun;
      no_end = inv.rest.no_end;
      down = inv.rest.down;
      down_knowledge = λ U d. at_tid_other w.knowledge T k U (λ e. not_both (w.up U.server) (subst (λ (x : Tid). w.up x.server ≡ true) e may.up) d) ∙ inv.rest.down_knowledge U d;
      not_begun = λ U d. at_tid_other w.knowledge T k U (λ e. not_both (w.begun U) (subst (λ (x : Tid). w.begun x ≡ true) e may.begun) d) ∙ inv.rest.not_begun U d;
      part_of = inv.rest.part_of;
      over = inv.rest.over;
    };
  }

-- A work is ready in each state that may be found.
module _ (w : World) (W : WorkId) (everywhere : (c : Pick) → is_some ((w.found W.server c).works W) ≡ true) (inv : CoreFacts w) where
  abbrev some_pick : Pick
  some_pick n = false

  here : IsPrepared w W.server (w.found W.server some_pick) W (some_of ((w.found W.server some_pick).works W) (everywhere some_pick)).0
  here = let s = some_of ((w.found W.server some_pick).works W) (everywhere some_pick) in (inv.states W.server some_pick).prepared W s.0 s.1

  was : (V : WorkId) → w.was_ready V ≡ true → (note_ready W w).was_ready V ≡ true
  was V r = grind (arith, work_tells)

  ready_states : (s : ServerNo) (c : Pick) → MayBeFound (note_ready W w) s (w.found s c)
  ready_states s c = let f = inv.states s c in record {
    prepared = f.prepared;
    apart = f.apart;
    disk = f.disk;
    no_reader = f.no_reader;
    ready = λ V at r d n. by V at d n (at_work_cases w.was_ready W true V true r);
    flag = λ U k is. let h = f.flag U k is in record { place = h.place; begun = h.begun; ended = h.ended; ready = λ s V is. was V (h.ready s V is); works = h.works };
    aborted = f.aborted;
    named = f.named;
  }
    where
      by : (V : WorkId) → V.server ≡ s → w.aborted (w.owner V) ≡ false → w.named (w.owner V) ≡ false → (((W ≡ V) × (true ≡ true)) ⊎ ((W ≢ V) × (w.was_ready V ≡ true))) → is_some ((w.found s c).works V) ≡ true
      by V at d n (inl (e, q)) = subst (λ s. is_some ((w.found s c).works V) ≡ true) at (subst (λ (x : WorkId). is_some ((w.found x.server c).works x) ≡ true) e (everywhere c))
      by V at d n (inr (ne, q)) = (inv.states s c).ready V at q d n

  ready_knows : (U : Tid) (k : Knowledge) → Knows w U k → Knows (note_ready W w) U k
  ready_knows U Unknown h = h
  ready_knows U Begun h = h
  ready_knows U (Voting noted) h = (h.0, h.1, h.2, λ V q. was V (h.3 V q))
  ready_knows U (Committed finished) h = h

  part_by : (V : WorkId) → (((W ≡ V) × (true ≡ true)) ⊎ ((W ≢ V) × (w.was_ready V ≡ true))) → w.part (w.owner V) V.server ≡ Some V
  part_by V (inl (e, q)) = subst (λ (x : WorkId). w.part (w.owner x) x.server ≡ Some x) e here.part
  part_by V (inr (ne, q)) = inv.rest.part_of V q

  pub ready_kept : CoreFacts (note_ready W w)
  ready_kept = record {
    serial = inv.serial;
    states = ready_states;
    active = λ V a is. let h = inv.active V a is in record {
      up = h.up;
      opened = h.opened;
      list = h.list;
      reads = h.reads;
      reads_files = h.reads_files;
      not_over = h.not_over;
      not_ready = at_work_other w.was_ready W true V (λ e. none_some a (sym (subst (λ x. w.active x ≡ None) e here.not_active) ∙ is)) ∙ h.not_ready;
      agrees = h.agrees;
    };
    parts = inv.parts;
    aborted = inv.aborted;
    named = λ U n. let h = inv.named U n in record { begun = h.begun; ended = h.ended; ready = λ s V is. was V (h.ready s V is) };
    knowledge = λ U u c. ready_knows U (w.knowledge U) (inv.knowledge U u c);
    rest = record {
      no_trace = inv.rest.no_trace;
      of_begun = inv.rest.of_begun;
      no_end = inv.rest.no_end;
      down = inv.rest.down;
      down_knowledge = inv.rest.down_knowledge;
      not_begun = inv.rest.not_begun;
      part_of = λ V r. part_by V (at_work_cases w.was_ready W true V true r);
      over = inv.rest.over;
    };
  }

module _ (w : World) (W : WorkId) (may : MayBeOver w W) (inv : CoreFacts w) where
  over_was : (V : WorkId) → w.over V ≡ true → (note_over W w).over V ≡ true
  over_was V r = grind (arith, work_tells)

  over_states : (s : ServerNo) (c : Pick) → MayBeFound (note_over W w) s (w.found s c)
  over_states s c = let f = inv.states s c in record {
    prepared = λ V p is. let h = f.prepared V p is in record {
      place = h.place;
      opened = h.opened;
      tid = h.tid;
      part = h.part;
      list = h.list;
      reads = h.reads;
      reads_files = h.reads_files;
      not_over = at_work_other w.over W true V (λ e. clash ((w.found s c).works V) p is (subst (λ q. (w.found q c).works V ≡ None) h.place (subst (λ (x : WorkId). (w.found x.server c).works x ≡ None) e (may.nowhere c)))) ∙ h.not_over;
      not_active = h.not_active;
      going = h.going;
      next = h.next;
      agrees = h.agrees;
      written = h.written;
    };
    apart = f.apart;
    disk = f.disk;
    no_reader = f.no_reader;
    ready = f.ready;
    flag = f.flag;
    aborted = f.aborted;
    named = λ U at n. by U (f.named U at n);
  }
    where
      by : (U : Tid) → ((is_some ((w.found s c).flags U) ≡ true) ⊎ AllOver w U) → ((is_some ((w.found s c).flags U) ≡ true) ⊎ AllOver (note_over W w) U)
      by U (inl q) = inl q
      by U (inr h) = inr (λ s V is. over_was V (h.0 s V is), h.1)

  over_knows : (U : Tid) (k : Knowledge) → Knows w U k → Knows (note_over W w) U k
  over_knows U Unknown (inl d) = inl d
  over_knows U Unknown (inr (n, h)) = inr (n, (λ s V is. over_was V (h.0 s V is), h.1))
  over_knows U Begun h = h
  over_knows U (Voting noted) h = h
  over_knows U (Committed finished) h = (h.0, h.1, λ V q. over_was V (h.2 V q))

  over_by : (V : WorkId) → (((W ≡ V) × (true ≡ true)) ⊎ ((W ≢ V) × (w.over V ≡ true))) → (w.opened V ≡ true) × (w.active V ≡ None)
  over_by V (inl (e, q)) = subst (λ x. (w.opened x ≡ true) × (w.active x ≡ None)) e (may.opened, may.not_active)
  over_by V (inr (ne, q)) = inv.rest.over V q

  pub over_kept : CoreFacts (note_over W w)
  over_kept = record {
    serial = inv.serial;
    states = over_states;
    active = λ V a is. let h = inv.active V a is in record {
      up = h.up;
      opened = h.opened;
      list = h.list;
      reads = h.reads;
      reads_files = h.reads_files;
      not_over = at_work_other w.over W true V (λ e. none_some a (sym (subst (λ x. w.active x ≡ None) e may.not_active) ∙ is)) ∙ h.not_over;
      not_ready = h.not_ready;
      agrees = h.agrees;
    };
    parts = inv.parts;
    aborted = inv.aborted;
    named = inv.named;
    knowledge = λ U u c. over_knows U (w.knowledge U) (inv.knowledge U u c);
    rest = record {
      no_trace = inv.rest.no_trace;
      of_begun = inv.rest.of_begun;
      no_end = inv.rest.no_end;
      down = inv.rest.down;
      down_knowledge = inv.rest.down_knowledge;
      not_begun = inv.rest.not_begun;
      part_of = inv.rest.part_of;
      over = λ V o. over_by V (at_work_cases w.over W true V true o);
    };
  }

module _ (w : World) (T : Tid) (may : MayAbort w T) (no_flag : (c : Pick) → (w.found T.server c).flags T ≡ None) (inv : CoreFacts w) where
  abort_states : (s : ServerNo) (c : Pick) → MayBeFound (abort T w) s (w.found s c)
  abort_states s c = let f = inv.states s c in record {
    prepared = f.prepared;
    apart = f.apart;
    disk = f.disk;
    no_reader = f.no_reader;
    ready = λ V at r d n. f.ready V at r (was (w.owner V) d) n;
    flag = f.flag;
    aborted = λ U at d. by U at (at_tid_cases w.aborted T true U true d);
    named = f.named;
  }
    where
      was : (U : Tid) → (abort T w).aborted U ≡ false → w.aborted U ≡ false
      was U d = grind (arith, tid_tells)

      by : (U : Tid) → U.server ≡ s → (((T ≡ U) × (true ≡ true)) ⊎ ((T ≢ U) × (w.aborted U ≡ true))) → (w.found s c).flags U ≡ None
      by U at (inl (e, q)) = subst (λ s. (w.found s c).flags U ≡ None) at (subst (λ (x : Tid). (w.found x.server c).flags x ≡ None) e (no_flag c))
      by U at (inr (ne, q)) = (inv.states s c).aborted U at q

  abort_by : (U : Tid) → (((T ≡ U) × (true ≡ true)) ⊎ ((T ≢ U) × (w.aborted U ≡ true))) → IsAborted (abort T w) U
  abort_by U (inl (e, q)) = subst (λ x. IsAborted (abort T w) x) e (record { begun = may.begun; not_named = may.not_named; unknown = at_tid_here w.knowledge T Unknown })
  abort_by U (inr (ne, q)) = let h = inv.aborted U q in record { begun = h.begun; not_named = h.not_named; unknown = at_tid_other w.knowledge T Unknown U ne ∙ h.unknown }

  abort_knows : (U : Tid) → T ≢ U → (k : Knowledge) → Knows w U k → Knows (abort T w) U k
  abort_knows U ne Unknown (inl d) = inl (at_tid_other w.aborted T true U ne ∙ d)
  abort_knows U ne Unknown (inr h) = inr h
  abort_knows U ne Begun h = (h.0, at_tid_other w.aborted T true U ne ∙ h.1)
  abort_knows U ne (Voting noted) h = (h.0, at_tid_other w.aborted T true U ne ∙ h.1, h.2, h.3)
  abort_knows U ne (Committed finished) h = (h.0, at_tid_other w.aborted T true U ne ∙ h.1, h.2)

  knowledge_by : (U : Tid) (x : Knowledge) → w.up U.server ≡ true → w.begun U ≡ true → (((T ≡ U) × (Unknown ≡ x)) ⊎ ((T ≢ U) × (w.knowledge U ≡ x))) → Knows (abort T w) U x
  knowledge_by U x u c (inl (e, q)) = subst (λ y. Knows (abort T w) U y) q (inl (subst (λ y. (abort T w).aborted y ≡ true) e (at_tid_here w.aborted T true)))
  knowledge_by U x u c (inr (ne, q)) = subst (λ y. Knows (abort T w) U y) q (abort_knows U ne (w.knowledge U) (inv.knowledge U u c))

  pub abort_kept : CoreFacts (abort T w)
  abort_kept = record {
    serial = inv.serial;
    states = abort_states;
    active = inv.active;
    parts = inv.parts;
    aborted = λ U d. abort_by U (at_tid_cases w.aborted T true U true d);
    named = inv.named;
    knowledge = λ U u c. knowledge_by U ((abort T w).knowledge U) u c (at_tid_cases w.knowledge T Unknown U ((abort T w).knowledge U) refl);
    rest = record {
      no_trace = inv.rest.no_trace;
      of_begun = inv.rest.of_begun;
      no_end = inv.rest.no_end;
      down = inv.rest.down;
      down_knowledge = λ U d. grind (arith, tid_tells, inv.rest.down_knowledge U d);
      not_begun = λ U d. grind (arith, tid_tells, inv.rest.not_begun U d);
      part_of = inv.rest.part_of;
      over = inv.rest.over;
    };
  }

-- The client is done with a transaction.
module _ (w : World) (T : Tid) (inv : CoreFacts w) where
  stays_closed : (U : Tid) → w.closed U ≡ true → (close T w).closed U ≡ true
  stays_closed U h = grind (arith, tid_tells)

  over_stays : (U : Tid) → AllOver w U → AllOver (close T w) U
  over_stays U h = (h.0, stays_closed U h.1)

  flag_or : (s : ServerNo) (c : Pick) (U : Tid) → ((is_some ((w.found s c).flags U) ≡ true) ⊎ AllOver w U) → ((is_some ((w.found s c).flags U) ≡ true) ⊎ AllOver (close T w) U)
  flag_or s c U (inl h) = inl h
  flag_or s c U (inr h) = inr (over_stays U h)

  close_knows : (U : Tid) (k : Knowledge) → Knows w U k → Knows (close T w) U k
  close_knows U Unknown (inl d) = inl d
  close_knows U Unknown (inr h) = inr (h.0, over_stays U h.1)
  close_knows U Begun h = h
  close_knows U (Voting noted) h = h
  close_knows U (Committed finished) h = h

  close_states : (s : ServerNo) (c : Pick) → MayBeFound (close T w) s (w.found s c)
  close_states s c = let f = inv.states s c in let n : (U : Tid) → U.server ≡ s → w.named U ≡ true → (is_some ((w.found s c).flags U) ≡ true) ⊎ AllOver (close T w) U = λ U at n. flag_or s c U (f.named U at n) in assumption (n, f)

  close_knowledge : KnowledgeFact (close T w)
  close_knowledge U u c = close_knows U (w.knowledge U) (inv.knowledge U u c)

  pub close_kept : CoreFacts (close T w)
  close_kept = assumption (close_states, close_knowledge, inv)
