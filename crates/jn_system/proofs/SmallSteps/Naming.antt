-- The commit point: a transaction is named.
use Rattle.jn_system.proofs.Common.{◌≡◌, ◌≢◌, ◌⊎◌, inl, inr, ℕ, Bool, true, false, List, Option, Some, None, is_some, if◌then◌else◌, refl, sym, ◌∙◌, ap, subst, arith, ServerNo, LockUnit, Tid, WorkId, tid_eq, tid_tells, Files, or_else, change, list_change, Prepared, FlagState, Pick, is_unit, Answered, asked, effects, FilesAnswer, Writes, World, Working, Knowledge, Unknown, Begun, Voting, Committed, IsSerial, AllOver, Knows, trace_of, name_it, MayName}
use Rattle.jn_system.proofs.SmallSteps.Invariant.{CoreFacts, IsNamed, HasFlag, MayBeFound, base}
use Rattle.jn_system.proofs.SmallSteps.TraceLemmas.{agrees_local}
use Rattle.jn_system.proofs.SmallSteps.HeldLemmas.{reads_apart, writes_apart}
use Rattle.jn_system.proofs.SmallSteps.Updates.{false_unless, not_both, at_tid_here, at_tid_other, at_tid_cases, some_of, some_none}

abbrev TellsTid : Tid → Tid → Type 0
TellsTid T U = ((tid_eq T U ≡ true) × (T ≡ U)) ⊎ ((tid_eq T U ≡ false) × (T ≢ U))

untouched : (t : List Answered) (fs : Files) (u : LockUnit) → is_some (effects t u) ≡ false → change (effects t) fs u ≡ fs u
untouched t fs u h = by (effects t u) (fs u) h
  where
    by : (o : Option (Option (List ℕ))) (y : Option (List ℕ)) → is_some o ≡ false → or_else o y ≡ y
    by o y h = grind arith

module _ (w : World) (T : Tid) (may : MayName w T) (inv : CoreFacts w) where
  abbrev v : World
  v = name_it T w

  some_pick : Pick
  some_pick n = false

  abbrev its_flag : (k : FlagState) × ((w.found T.server some_pick).flags T ≡ Some k)
  its_flag = some_of ((w.found T.server some_pick).flags T) (may.flagged some_pick)

  flag : HasFlag w T.server T its_flag.0
  flag = (inv.states T.server some_pick).flag T its_flag.0 its_flag.1

  not_aborted : w.aborted T ≡ false
  not_aborted = false_unless (w.aborted T) (λ d. some_none ((w.found T.server some_pick).flags T) (may.flagged some_pick) ((inv.states T.server some_pick).aborted T refl d))

  -- T's work at a server is ready in each state there
  its : (s : ServerNo) (c : Pick) (W : WorkId) → w.part T s ≡ Some W → (p : Prepared) × ((w.found s c).works W ≡ Some p)
  its s c W is = let h = inv.parts T s W is in some_of ((w.found s c).works W)
      ((inv.states s c).ready W h.place (flag.ready s W is) (subst (λ z. w.aborted z ≡ false) (sym h.owner) not_aborted) (subst (λ z. w.named z ≡ false) (sym h.owner) may.not_named))

  was_named : (U : Tid) → T ≢ U → v.named U ≡ w.named U
  was_named U ne = at_tid_other w.named T true U ne

  not_named_was : (U : Tid) → v.named U ≡ false → (T ≢ U) × (w.named U ≡ false)
  not_named_was U n = by (tid_tells T U)
    where
      by : TellsTid T U → (T ≢ U) × (w.named U ≡ false)
      by (inl (t, e)) = absurd (not_both (v.named U) (subst (λ z. v.named z ≡ true) e (at_tid_here w.named T true)) n)
      by (inr (t, ne)) = (ne, sym (was_named U ne) ∙ n)

  named_was : (U : Tid) → w.named U ≡ true → v.named U ≡ true
  named_was U n = grind (arith, tid_tells)

  -- the answers of T's works are right
  right : (s : ServerNo) (o : Option WorkId) → w.part T s ≡ o → FilesAnswer (base w s) (trace_of w.trace o)
  right s None is = tt
  right s (Some W) is = let k = its s some_pick W is in let h = (inv.states s some_pick).prepared W k.0 k.1 in
      h.agrees (subst (λ z. w.named z ≡ false) (sym (inv.parts T s W is).owner) may.not_named)

  -- where T's work at a server writes nothing, the order says what it said
  same_base : (s : ServerNo) (u : LockUnit) → ((W : WorkId) → w.part T s ≡ Some W → is_some (effects (w.trace W) u) ≡ false) → base v s u ≡ base w s u
  same_base s u free = untouched (trace_of w.trace (w.part T s)) (base w s) u (by (w.part T s) refl)
    where
      by : (o : Option WorkId) → w.part T s ≡ o → is_some (effects (trace_of w.trace o) u) ≡ false
      by None is = refl
      by (Some W) is = free W is

  -- T's work does not write what another work at that server reads or writes
  apart_from : (s : ServerNo) (c : Pick) (V : WorkId) (p : Prepared) → (w.found s c).works V ≡ Some p → T ≢ w.owner V → (W : WorkId) → w.part T s ≡ Some W → (u : LockUnit) → is_some (effects (w.trace W) u) ≡ true
      → (is_some (list_change p.list u) ≡ false) × (is_unit p.reads u ≡ false)
  apart_from s c V p is ne W part u h =
      let k = its s c W part in
      let f = inv.states s c in
      let mine = f.prepared W k.0 k.1 in
      let its = f.prepared V p is in
      let other : W ≢ V = λ e. ne (sym (inv.parts T s W part).owner ∙ ap w.owner e) in
      let writes : Writes k.0.list u = subst (λ o. is_some o ≡ true) (sym (mine.list u)) h in
      let apart = f.apart W V k.0 p k.1 is other in
      let back = f.apart V W p k.0 is k.1 (λ e. other (sym e)) in
      (writes_apart k.0.list p.list k.0.reads p.reads apart (λ v q. (back v q).1) mine.reads_files its.reads_files u writes, reads_apart k.0.list p.list p.reads (λ v q. (apart v q).1) its.reads_files u writes)

  no_true : (b : Bool) → (b ≡ true → ⊥) → b ≡ false
  no_true b h = false_unless b h

  -- a trace whose reads T does not write
  still_agrees : (s : ServerNo) (t : List Answered) → ((W : WorkId) → w.part T s ≡ Some W → (u : LockUnit) → asked t u ≡ true → is_some (effects (w.trace W) u) ≡ false) → FilesAnswer (base w s) t → FilesAnswer (base v s) t
  still_agrees s t free h = agrees_local t (base w s) (base v s) (λ u q. sym (same_base s u (λ W is. free W is u q))) h

  name_serial : IsSerial v.opening v.history
  name_serial = (λ s. right s (w.part T s) refl, inv.serial)

  written_by : (s : ServerNo) (c : Pick) (V : WorkId) (p : Prepared) → (w.found s c).works V ≡ Some p → v.named (w.owner V) ≡ true → TellsTid T (w.owner V) → (u : LockUnit) (x : Option (List ℕ)) → list_change p.list u ≡ Some x → base v s u ≡ x
  written_by s c V p is n (inl (t, e)) u x k = let h = (inv.states s c).prepared V p is in
      let part : w.part T s ≡ Some V = subst (λ z. w.part z s ≡ Some V) (sym e) h.part in
      ap (λ o. or_else (effects (trace_of w.trace o) u) (base w s u)) part ∙ ap (λ o. or_else o (base w s u)) (sym (h.list u) ∙ k)
  written_by s c V p is n (inr (t, ne)) u x k = let h = (inv.states s c).prepared V p is in
      same_base s u (λ W part. no_true (is_some (effects (w.trace W) u)) (λ q. not_both (is_some (list_change p.list u)) (subst (λ o. is_some o ≡ true) (sym k) refl) (apart_from s c V p is ne W part u q).0))
      ∙ h.written (sym (was_named (w.owner V) ne) ∙ n) u x k

  name_states : (s : ServerNo) (c : Pick) → MayBeFound v s (w.found s c)
  name_states s c = let f = inv.states s c in record {
    prepared = λ V p is. let h = f.prepared V p is in record {
      place = h.place;
      opened = h.opened;
      tid = h.tid;
      part = h.part;
      list = h.list;
      reads = h.reads;
      reads_files = h.reads_files;
      not_over = h.not_over;
      not_active = h.not_active;
      going = λ g. named_was (w.owner V) (h.going g);
      next = h.next;
      agrees = λ n. let k = not_named_was (w.owner V) n in still_agrees s (w.trace V) (λ W part u q. no_true (is_some (effects (w.trace W) u)) (λ r. not_both (is_unit p.reads u) (h.reads u q) (apart_from s c V p is k.0 W part u r).1)) (h.agrees k.1);
      written = λ n u x k. written_by s c V p is n (tid_tells T (w.owner V)) u x k;
    };
    apart = f.apart;
    disk = λ u free. same_base s u (λ W part. let k = its s c W part in
        subst (λ o. is_some o ≡ false) ((f.prepared W k.0 k.1).list u) (free W k.0 k.1 (subst (λ z. v.named z ≡ true) (sym (inv.parts T s W part).owner) (at_tid_here w.named T true))))
        ∙ f.disk u (λ V p is n. free V p is (named_was (w.owner V) n));
    no_reader = f.no_reader;
    ready = λ V at r d n. f.ready V at r d (not_named_was (w.owner V) n).1;
    flag = f.flag;
    aborted = f.aborted;
    named = λ U at n. named_by U at n (tid_tells T U);
  }
    where
      named_by : (U : Tid) → U.server ≡ s → v.named U ≡ true → TellsTid T U → (is_some ((w.found s c).flags U) ≡ true) ⊎ AllOver w U
      named_by U at n (inl (t, e)) = inl (subst (λ s. is_some ((w.found s c).flags U) ≡ true) at (subst (λ (z : Tid). is_some ((w.found z.server c).flags z) ≡ true) e (may.flagged c)))
      named_by U at n (inr (t, ne)) = (inv.states s c).named U at (sym (was_named U ne) ∙ n)

  active_still : (V : WorkId) (a : Working) → w.active V ≡ Some a → FilesAnswer (base v V.server) (w.trace V)
  active_still V a is = let h = inv.active V a is in still_agrees V.server (w.trace V) (λ W part u q. no_true (is_some (effects (w.trace W) u)) (λ r. let k = its V.server some_pick W part in
      not_both (is_unit a.reads u) (h.reads u q) (reads_apart k.0.list a.list a.reads ((inv.states V.server some_pick).no_reader V W a k.0 is k.1 refl) h.reads_files u
      (subst (λ o. is_some o ≡ true) (sym (((inv.states V.server some_pick).prepared W k.0 k.1).list u)) r)))) h.agrees

  name_named : (U : Tid) → v.named U ≡ true → TellsTid T U → IsNamed v U
  name_named U n (inl (t, e)) = subst (λ z. IsNamed v z) e (record { begun = flag.begun; ended = flag.ended; ready = flag.ready })
  name_named U n (inr (t, ne)) = inv.named U (sym (was_named U ne) ∙ n)

  aborted_other : (U : Tid) → w.aborted U ≡ true → T ≢ U
  aborted_other U d e = not_both (w.aborted U) d (subst (λ z. w.aborted z ≡ false) e not_aborted)

  knows_by : (U : Tid) → T ≢ U → (k : Knowledge) → Knows w U k → Knows v U k
  knows_by U ne Unknown (inl d) = inl d
  knows_by U ne Unknown (inr h) = inr (named_was U h.0, h.1)
  knows_by U ne Begun h = (was_named U ne ∙ h.0, h.1)
  knows_by U ne (Voting noted) h = (was_named U ne ∙ h.0, h.1, h.2, h.3)
  knows_by U ne (Committed finished) h = (named_was U h.0, h.1, h.2)

  abbrev now : Knowledge
  now = if w.up T.server then Committed (λ W. false) else Unknown

  knowledge_here : w.up T.server ≡ true → Knows v T now
  knowledge_here u = subst (λ b. Knows v T (if b then Committed (λ W. false) else Unknown)) (sym u) (at_tid_here w.named T true, not_aborted, λ W q. absurd (not_both true refl (sym q)))

  knowledge_by : (U : Tid) (x : Knowledge) → (((T ≡ U) × (now ≡ x)) ⊎ ((T ≢ U) × (w.knowledge U ≡ x))) → w.up U.server ≡ true → w.begun U ≡ true → Knows v U x
  knowledge_by U x (inl (e, k)) u c = subst (λ y. Knows v y x) e (subst (λ y. Knows v T y) k (knowledge_here (subst (λ (z : Tid). w.up z.server ≡ true) (sym e) u)))
  knowledge_by U x (inr (ne, k)) u c = subst (λ y. Knows v U y) k (knows_by U ne (w.knowledge U) (inv.knowledge U u c))

  down_by : (U : Tid) → TellsTid T U → w.up U.server ≡ false → v.knowledge U ≡ Unknown
  down_by U (inl (t, e)) d = ap v.knowledge (sym e) ∙ (at_tid_here w.knowledge T now ∙ ap (λ b. if b then Committed (λ W. false) else Unknown) (subst (λ (z : Tid). w.up z.server ≡ false) (sym e) d))
  down_by U (inr (t, ne)) d = at_tid_other w.knowledge T now U ne ∙ inv.rest.down_knowledge U d

  pub name_kept : CoreFacts v
  name_kept = record {
    serial = name_serial;
    states = name_states;
    active = λ V a is. let h = inv.active V a is in record { up = h.up; opened = h.opened; list = h.list; reads = h.reads; reads_files = h.reads_files; not_over = h.not_over; not_ready = h.not_ready; agrees = active_still V a is };
    parts = inv.parts;
    aborted = λ U d. let h = inv.aborted U d in let ne = aborted_other U d in record { begun = h.begun; not_named = was_named U ne ∙ h.not_named; unknown = at_tid_other w.knowledge T now U ne ∙ h.unknown };
    named = λ U n. name_named U n (tid_tells T U);
    knowledge = λ U. knowledge_by U (v.knowledge U) (at_tid_cases w.knowledge T now U (v.knowledge U) refl);
    rest = record {
      no_trace = inv.rest.no_trace;
      of_begun = inv.rest.of_begun;
      no_end = inv.rest.no_end;
      down = inv.rest.down;
      down_knowledge = λ U. down_by U (tid_tells T U);
      not_begun = λ U d. at_tid_other w.knowledge T now U (λ e. not_both (w.begun U) (subst (λ z. w.begun z ≡ true) e flag.begun) d) ∙ inv.rest.not_begun U d;
      part_of = inv.rest.part_of;
      over = inv.rest.over;
    };
  }
