-- What a worker does with a Drop, as steps of the machine: its work goes from memory, or from the stable state.
use Rattle.jn_system_order.proofs.Common.{◌≡◌, ◌≢◌, ◌⊎◌, inl, inr, Bool, true, false, List, [], ◌∷◌, Some, None, refl, sym, ◌∙◌, ap, subst, if◌then◌else◌, All-nil, ServerNo, Tid, WorkId, work_eq, work_tells, Message, Work, Prepared, Pick, RemoveWork, at_work, stable, work_at, at-less, Machine, IsPrepared, Invariant, Atom, Count, Make, NoteOver, Lose, always, run, MayRun, MayRemove, Says, not_both, World, Memory, UpFact, Mirrors, IsTrue, IsAddressed, working_of, next_in}
use Rattle.jn_msgs.specs.declared.message.Message.TheVariants as messages
use Rattle.jn_rows.specs.Worker.{without}
use Rattle.jn_system_order.proofs.Mirroring.GrantMoves.{active-here, found-same}
use Rattle.jn_system_order.proofs.Mirroring.QuietMoves.{RowMoves, still-stops}
use Rattle.jn_system_order.proofs.Mirroring.CarryMoves.{prepared, remove-moves}

module _ (r : World) (w : Machine) (s : ServerNo) (m : Memory) (mirrors : Mirrors r w) (is : r.memory s ≡ Some m) (up : UpFact s m (r.found s))
    (grow : (atoms : List Atom) → MayRun atoms w → (message : Message) → Says w message → Says (run atoms w) message) (inv : Invariant w)
    (T : Tid) (W : WorkId) (said : Says w (messages.Drop T W)) (at : W.server ≡ s) where
  -- ---- a work in memory alone

  may-lose : MayRun (Lose W ∷ []) w
  may-lose = (tt, tt)

  abbrev Is : WorkId → Type 0
  Is V = ((work_eq W V ≡ true) × (W ≡ V)) ⊎ ((work_eq W V ≡ false) × (W ≢ V))

  lost-here : (V : WorkId) → V.server ≡ s → (b : Bool) → (if b then None else w.active V) ≡ working_of (if b then None else work_at V m.worker)
  lost-here V e true = refl
  lost-here V e false = active-here r w s m mirrors is up V e

  lost-there : (V : WorkId) → s ≢ V.server → Is V → at_work w.active W None V ≡ w.active V
  lost-there V ne (inl f) = absurd (ne (sym at ∙ ap (λ (U : WorkId). U.server) f.1))
  lost-there V ne (inr f) = ap (λ (b : Bool). if b then None else w.active V) f.0

  owner-left : (V : WorkId) (v : Work) (b : Bool) → (if b then None else work_at V m.worker) ≡ Some v → Says w (messages.Inquire v.tid V)
  owner-left V v true h = absurd (no h)
    where
      no : None ≡ Some v → ⊥
      no q = cc
  owner-left V v false h = mirrors.owner s m V v is h

  pub lose-moves : RowMoves s m (record { table = without W m.worker; changes = []; messages = []; notes = []; tickets = m.tickets }) w
  lose-moves = record {
    atoms = Lose W ∷ [];
    may = may-lose;
    does = record {
      up = λ q. refl;
      found = λ q k. found-same r w s m mirrors is up q k;
      here = λ V e. lost-here V e (work_eq W V) ∙ sym (ap working_of (at-less V W m.worker up.table.rising));
      elsewhere = λ V ne. lost-there V ne (work_tells W V);
      next_here = λ V e. mirrors.next V ∙ ap (λ (q : ServerNo). next_in (r.memory q) V) e ∙ ap (λ o. next_in o V) is;
      next_elsewhere = λ V ne. refl;
      ticket_here = mirrors.ticket s m is;
      ticket_elsewhere = λ q ne. refl;
      knowledge = λ U. refl;
      history = refl;
      ended = refl;
      owner = λ V v h. grow (Lose W ∷ []) may-lose (messages.Inquire v.tid V) (owner-left V v (work_eq W V) (sym (at-less V W m.worker up.table.rising) ∙ h));
      grows = λ message h. grow (Lose W ∷ []) may-lose message h;
      says = All-nil (IsTrue (run (Lose W ∷ []) w));
      addressed = All-nil IsAddressed;
    };
    stops = still-stops r w s m mirrors is up _ refl;
  }

  -- ---- a ready work, whose transaction won't commit

  module _ (p : Prepared) (stored : (stable (r.found s)).works W ≡ Some p) where
    its : (c : Pick) → IsPrepared w W.server (w.found W.server c) W p
    its c = prepared r w s m mirrors is up grow inv W p stored c

    aborted : w.aborted (w.owner W) ≡ true
    aborted = subst (λ (U : Tid). w.aborted U ≡ true) (sym said.0.1) (by said.1)
      where
        by : (w.aborted T ≡ true) ⊎ ((w.over W ≡ true) ⊎ ((w.ended T ≡ true) × (w.part T W.server ≢ Some W))) → w.aborted T ≡ true
        by (inl h) = h
        by (inr (inl h)) = absurd (not_both (w.over W) h (its (λ n. false)).not_over)
        by (inr (inr h)) = absurd (h.1 (subst (λ (U : Tid). w.part U W.server ≡ Some W) said.0.1 (its (λ n. false)).part))

    may-remove : (c : Pick) → MayRemove (run (Count W 0 ∷ []) w) (w.found W.server c) W
    may-remove c = record {
      why = inr aborted;
      done = λ q e n u v h. absurd (not_both (w.named (w.owner W)) n (inv.core.aborted (w.owner W) aborted).not_named);
    }

  pub drop-moves : (p : Prepared) → (stable (r.found s)).works W ≡ Some p → RowMoves s m (record { table = without W m.worker; changes = RemoveWork W ∷ []; messages = []; notes = []; tickets = m.tickets }) w
  drop-moves p stored = remove-moves r w s m mirrors is up grow inv W p stored (may-remove p stored) [] (All-nil (IsTrue (run (Count W 0 ∷ Make always (RemoveWork W) ∷ NoteOver W ∷ []) w))) (All-nil IsAddressed)
