-- A work is opened, and an operation is answered.
use Rattle.jn_system.proofs.Common.{◌≡◌, ◌≢◌, ◌⊎◌, inl, inr, ℕ, Bool, true, false, List, [], ◌∷◌, ◌++◌, Option, Some, None, is_some, refl, sym, ◌∙◌, ap, subst, arith, ServerNo, LockUnit, Tid, WorkId, work_tells, Files, change, answer_to, or_also, list_change, Prepared, Pick, at_work, is_unit, Answered, asks, asked, effect_of, effects, FilesAnswer, HoldsForCommit, HasRead, file_unit, World, Working, open_work, perform, MayPerform}
use Rattle.jn_system.proofs.SmallSteps.Invariant.{CoreFacts, IsActive, MayBeFound, base}
use Rattle.jn_system.specs.SmallSteps.Steps.{new_work}
use Rattle.jn_order.specs.Files.{Change}
use Rattle.jn_system.proofs.SmallSteps.TraceLemmas.{effects_more, asked_more, agrees_more, answer_local}
use Rattle.jn_system.proofs.SmallSteps.HeldLemmas.{reads_apart}
use Rattle.jn_system.proofs.SmallSteps.Updates.{unless, false_unless, not_both, at_work_here, at_work_other, at_work_cases, some_is, none_some}

-- A work is opened.
module _ (w : World) (W : WorkId) (T : Tid) (fresh : w.opened W ≡ false) (up : w.up W.server ≡ true) (made : w.begun T ≡ true) (inv : CoreFacts w) where
  new_over : w.over W ≡ false
  new_over = false_unless (w.over W) (λ o. not_both (w.opened W) (inv.rest.over W o).0 fresh)

  new_ready : w.was_ready W ≡ false
  new_ready = false_unless (w.was_ready W) (λ o. not_both (w.opened W) (inv.parts (w.owner W) W.server W (inv.rest.part_of W o)).opened fresh)

  reader_by : (s : ServerNo) (c : Pick) (A V : WorkId) (a : Working) (q : Prepared) → (((W ≡ A) × (Some new_work ≡ Some a)) ⊎ ((W ≢ A) × (w.active A ≡ Some a))) → (w.found s c).works V ≡ Some q → A.server ≡ s
      → (u : LockUnit) → HoldsForCommit q.list u → is_unit a.reads u ≡ false
  reader_by s c A V a q (inl (e, k)) is at u h = subst (λ (x : Working). is_unit x.reads u ≡ false) (some_is new_work a k) refl
  reader_by s c A V a q (inr (ne, k)) is at u h = (inv.states s c).no_reader A V a q k is at u h

  open_states : (s : ServerNo) (c : Pick) → MayBeFound (open_work W T w) s (w.found s c)
  open_states s c = let f = inv.states s c in record {
    prepared = λ V p is. let h = f.prepared V p is in record {
      place = h.place;
      opened = grind (arith, work_tells, h.opened);
      tid = grind (arith, work_tells, h.opened, h.tid);
      part = grind (arith, work_tells, h.opened, h.part);
      list = h.list;
      reads = h.reads;
      reads_files = h.reads_files;
      not_over = h.not_over;
      not_active = grind (arith, work_tells, h.opened, h.not_active);
      going = grind (arith, work_tells, h.opened, h.going);
      next = h.next;
      agrees = grind (arith, work_tells, h.opened, h.agrees);
      written = grind (arith, work_tells, h.opened, h.written);
    };
    apart = f.apart;
    disk = λ u free. f.disk u (λ V p is n. free V p is (grind (arith, work_tells, (f.prepared V p is).opened)));
    no_reader = λ A V a q is. reader_by s c A V a q (at_work_cases w.active W (Some new_work) A (Some a) is);
    ready = λ V at r d n. let h = new_ready in grind (arith, work_tells, f.ready V at r);
    flag = f.flag;
    aborted = f.aborted;
    named = f.named;
  }

  no_units : (u : LockUnit) → HasRead [] u ⊎ HoldsForCommit [] u → HasRead [] (file_unit u)
  no_units u (inl h) = absurd (not_both false h refl)
  no_units u (inr h) = absurd (not_both false h refl)

  open_here : IsActive (open_work W T w) W new_work
  open_here = let e = inv.rest.no_trace W fresh in record {
    up = up;
    opened = at_work_here w.opened W true;
    list = λ u. subst (λ t. None ≡ effects t u) (sym e) refl;
    reads = λ u q. absurd (not_both (asked (w.trace W) u) q (subst (λ t. asked t u ≡ false) (sym e) refl));
    reads_files = no_units;
    not_over = new_over;
    not_ready = new_ready;
    agrees = subst (λ t. FilesAnswer (base w W.server) t) (sym e) tt;
  }

  open_by : (V : WorkId) (a : Working) → (((W ≡ V) × (Some new_work ≡ Some a)) ⊎ ((W ≢ V) × (w.active V ≡ Some a))) → IsActive (open_work W T w) V a
  open_by V a (inl (e, k)) = subst (λ x. IsActive (open_work W T w) x a) e (subst (λ x. IsActive (open_work W T w) W x) (some_is new_work a k) open_here)
  open_by V a (inr (ne, k)) = let h = inv.active V a k in record {
    up = h.up;
    opened = at_work_other w.opened W true V ne ∙ h.opened;
    list = h.list;
    reads = h.reads;
    reads_files = h.reads_files;
    not_over = h.not_over;
    not_ready = h.not_ready;
    agrees = h.agrees;
  }

  pub open_kept : CoreFacts (open_work W T w)
  open_kept = record {
    serial = inv.serial;
    states = open_states;
    active = λ V a is. open_by V a (at_work_cases w.active W (Some new_work) V (Some a) is);
    parts = λ U s V is. let h = inv.parts U s V is in record { place = h.place; opened = grind (arith, work_tells, h.opened); owner = grind (arith, work_tells, h.opened, h.owner); ended = h.ended };
    aborted = inv.aborted;
    named = inv.named;
    knowledge = inv.knowledge;
    rest = record {
      no_trace = λ V b. inv.rest.no_trace V (grind (arith, work_tells));
      of_begun = λ V b. grind (arith, work_tells, inv.rest.of_begun V);
      no_end = inv.rest.no_end;
      down = inv.rest.down;
      down_knowledge = inv.rest.down_knowledge;
      not_begun = inv.rest.not_begun;
      part_of = λ V r. let h = new_ready in grind (arith, work_tells, inv.rest.part_of V r);
      over = λ V o. let h = new_over in grind (arith, work_tells, inv.rest.over V o);
    };
  }

through : (c d : Change) (f g : Files) (u : LockUnit) → c u ≡ d u → f u ≡ g u → change c f u ≡ change d g u
through c d f g u p q = grind arith

more_change : (c d : Change) (x y : Option (Option (List ℕ))) (u : LockUnit) → c u ≡ d u → y ≡ or_also x (d u) → y ≡ or_also x (c u)
more_change c d x y u p q = grind arith

reads_more : (t : List Answered) (l : Answered) (a b : LockUnit → Bool) (u : LockUnit) → (asked t u ≡ true → b u ≡ true) → (b u ≡ true → a u ≡ true) → (asks l u ≡ true → a u ≡ true) → asked (t ++ l ∷ []) u ≡ true → a u ≡ true
reads_more t l a b u p q r h = grind (arith, asked_more t l u)

module _ (w : World) (W : WorkId) (l : Answered) (a : Working) (may : MayPerform w W l a) (inv : CoreFacts w) where
  -- the order so far and the disk agree on what is asked
  same : (u : LockUnit) → HasRead a.reads u → base w W.server u ≡ (w.found W.server may.seen).files u
  same u r = (inv.states W.server may.seen).disk u (λ V p is n. unless (is_some (list_change p.list u)) (is_unit a.reads u) (λ t. reads_apart p.list a.list a.reads (may.no_commit may.seen V p is) may.reads_files u t) r)

  right : answer_to l.op (change (effects (w.trace W)) (base w W.server)) ≡ l.answer
  right = let h = inv.active W may.before may.is in
      answer_local l (change (list_change may.before.list) (w.found W.server may.seen).files) (change (effects (w.trace W)) (base w W.server))
      (λ u q. sym (through (effects (w.trace W)) (list_change may.before.list) (base w W.server) (w.found W.server may.seen).files u (sym (h.list u)) (same u (may.reads u q)))) (sym may.answers)

  abbrev trace : List Answered
  trace = w.trace W ++ l ∷ []

  perform_for : (t : List Answered) → t ≡ trace → record {
    list : (u : LockUnit) → list_change a.list u ≡ effects t u;
    reads : (u : LockUnit) → asked t u ≡ true → HasRead a.reads u;
    agrees : FilesAnswer (base w W.server) t;
  }
  perform_for t e = let h = inv.active W may.before may.is in subst (λ t. record {
    list : (u : LockUnit) → list_change a.list u ≡ effects t u;
    reads : (u : LockUnit) → asked t u ≡ true → HasRead a.reads u;
    agrees : FilesAnswer (base w W.server) t;
  }) (sym e) (record {
    list = λ u. more_change (effects (w.trace W)) (list_change may.before.list) (effect_of l u) (list_change a.list u) u (sym (h.list u)) (may.list u) ∙ sym (effects_more (w.trace W) l u);
    reads = λ u q. reads_more (w.trace W) l (λ v. is_unit a.reads v) (λ v. is_unit may.before.reads v) u (h.reads u) (may.kept u) (may.reads u) q;
    agrees = agrees_more (w.trace W) l (base w W.server) h.agrees right;
  })

  perform_by : (V : WorkId) (b : Working) → (((W ≡ V) × (Some a ≡ Some b)) ⊎ ((W ≢ V) × (w.active V ≡ Some b))) → IsActive (perform W l a w) V b
  perform_by V b (inl (e, k)) = subst (λ x. IsActive (perform W l a w) x b) e (subst (λ x. IsActive (perform W l a w) W x) (some_is a b k)
      (let h = inv.active W may.before may.is in let k = perform_for (at_work w.trace W trace W) (at_work_here w.trace W trace) in record {
        up = h.up;
        opened = h.opened;
        list = k.list;
        reads = k.reads;
        reads_files = may.reads_files;
        not_over = h.not_over;
        not_ready = h.not_ready;
        agrees = k.agrees;
      }))
  perform_by V b (inr (ne, k)) = let h = inv.active V b k in let e = sym (at_work_other w.trace W trace V ne) in record {
    up = h.up;
    opened = h.opened;
    list = λ u. subst (λ t. list_change b.list u ≡ effects t u) e (h.list u);
    reads = λ u. subst (λ t. asked t u ≡ true → HasRead b.reads u) e (h.reads u);
    reads_files = h.reads_files;
    not_over = h.not_over;
    not_ready = h.not_ready;
    agrees = subst (λ t. FilesAnswer (base w V.server) t) e h.agrees;
  }

  reader_now : (s : ServerNo) (c : Pick) (A V : WorkId) (x : Working) (q : Prepared) → (((W ≡ A) × (Some a ≡ Some x)) ⊎ ((W ≢ A) × (w.active A ≡ Some x))) → (w.found s c).works V ≡ Some q → A.server ≡ s
      → (u : LockUnit) → HoldsForCommit q.list u → is_unit x.reads u ≡ false
  reader_now s c A V x q (inl (e, k)) is at u h = subst (λ (z : Working). is_unit z.reads u ≡ false) (some_is a x k)
      (may.no_commit c V q (subst (λ s. (w.found s c).works V ≡ Some q) (sym at ∙ ap (λ (z : WorkId). z.server) (sym e)) is) u h)
  reader_now s c A V x q (inr (ne, k)) is at u h = (inv.states s c).no_reader A V x q k is at u h

  perform_states : (s : ServerNo) (c : Pick) → MayBeFound (perform W l a w) s (w.found s c)
  perform_states s c = let f = inv.states s c in record {
    prepared = λ V p is. let h = f.prepared V p is in
        let ne : W ≢ V = λ e. none_some may.before (sym (subst (λ x. w.active x ≡ None) (sym e) h.not_active) ∙ may.is) in
        let e = sym (at_work_other w.trace W trace V ne) in record {
          place = h.place;
          opened = h.opened;
          tid = h.tid;
          part = h.part;
          list = λ u. subst (λ t. list_change p.list u ≡ effects t u) e (h.list u);
          reads = λ u. subst (λ t. asked t u ≡ true → HasRead p.reads u) e (h.reads u);
          reads_files = h.reads_files;
          not_over = h.not_over;
          not_active = at_work_other w.active W (Some a) V ne ∙ h.not_active;
          going = h.going;
          next = h.next;
          agrees = λ n. subst (λ t. FilesAnswer (base w s) t) e (h.agrees n);
          written = h.written;
        };
    apart = f.apart;
    disk = f.disk;
    no_reader = λ A V x q is. reader_now s c A V x q (at_work_cases w.active W (Some a) A (Some x) is);
    ready = f.ready;
    flag = f.flag;
    aborted = f.aborted;
    named = f.named;
  }

  pub perform_kept : CoreFacts (perform W l a w)
  perform_kept = record {
    serial = inv.serial;
    states = perform_states;
    active = λ V b is. perform_by V b (at_work_cases w.active W (Some a) V (Some b) is);
    parts = inv.parts;
    aborted = inv.aborted;
    named = inv.named;
    knowledge = inv.knowledge;
    rest = record {
      no_trace = λ V b. at_work_other w.trace W trace V (λ e. not_both (w.opened V) (subst (λ x. w.opened x ≡ true) e (inv.active W may.before may.is).opened) b) ∙ inv.rest.no_trace V b;
      of_begun = inv.rest.of_begun;
      no_end = inv.rest.no_end;
      down = inv.rest.down;
      down_knowledge = inv.rest.down_knowledge;
      not_begun = inv.rest.not_begun;
      part_of = inv.rest.part_of;
      over = λ V o. let h = inv.rest.over V o in (h.0, at_work_other w.active W (Some a) V (λ e. not_both (w.over V) o (subst (λ x. w.over x ≡ false) e (inv.active W may.before may.is).not_over)) ∙ h.1);
    };
  }
