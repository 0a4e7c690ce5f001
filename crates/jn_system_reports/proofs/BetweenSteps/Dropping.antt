-- What is dropped of a named transaction is over, or none of its own.
use Rattle.jn_system_reports.proofs.Common.{◌≡◌, ◌≢◌, ◌⊎◌, inl, inr, ℕ, true, false, Option, Some, None, refl, sym, ◌∙◌, ap, subst, ServerNo, Tid, WorkId, work_eq, work_tells, AllFiles, Work, Phase, Active, Broken, Stored, StableState, Prepared, Pick, stable, is_work, work_at, Machine, run_atoms, opening_world, not_both, false_unless, clash, none_some, some_is, World, Memory, IsSoundWork, working_in, WasSent, HasCommitLine, IsNoPart, IsOver}
use Rattle.jn_msgs.specs.declared.message.Message.TheVariants as messages
use Rattle.jn_system_reports.proofs.BetweenSteps.Breaking.{is_broken, is_stored}
use Rattle.jn_system_reports.proofs.BetweenSteps.Broken.{NeverReady, goes-on}
use Rattle.jn_system_reports.proofs.BetweenSteps.Standing.{Standing}
use Rattle.jn_system_reports.proofs.BetweenSteps.Laws.{inv, named, said, up-fact, not-aborted, its-part, was-ended}

module _ (files : AllFiles) (epochs : ServerNo → ℕ) (r : World) (h : Standing files epochs r) (T : Tid) (W : WorkId) (is-named : HasCommitLine r T) (sent : WasSent r (messages.Drop T W)) where
  abbrev w : Machine
  w = run_atoms h.atoms (opening_world files epochs)

  now-named : (run_atoms h.atoms (opening_world files epochs)).named T ≡ true
  now-named = named files epochs r h T ∙ is-named

  clear : (run_atoms h.atoms (opening_world files epochs)).aborted T ≡ false
  clear = not-aborted files epochs r h T now-named

  module _ (part : (run_atoms h.atoms (opening_world files epochs)).part T W.server ≡ Some W) (over : (run_atoms h.atoms (opening_world files epochs)).over W ≡ true) where
    nowhere : (c : Pick) → (r.found W.server c).works W ≡ None
    nowhere c = by ((r.found W.server c).works W) refl
      where
        by : (o : Option Prepared) → (r.found W.server c).works W ≡ o → o ≡ None
        by None e = refl
        by (Some p) e = absurd (not_both (w.over W) over (((inv files epochs r h).core.states W.server c).prepared W p (ap (λ (x : StableState). x.works W) (h.mirrors.found W.server c) ∙ e)).not_over)

    no-table : (m : Memory) → r.memory W.server ≡ Some m → work_at W m.worker ≡ None
    no-table m is = by (work_at W m.worker) refl
      where
        phase : (x : Work) → work_at W m.worker ≡ Some x → (p : Phase) → x.phase ≡ p → ⊥
        phase x e (Active a) k = clash (w.active W) (record { list = a.list; reads = a.reads }) (goes-on r w h.mirrors h.locks W.server m is W x e (ap is_stored k) ∙ ap working_in k) ((inv files epochs r h).core.rest.over W over).1
        phase x e (Stored p) k = let f = subst (λ (z : Phase). IsSoundWork ((stable (r.found W.server)).works W) x.tid z) k ((up-fact files epochs r h W.server m is).table.sound W x e) in clash ((stable (r.found W.server)).works W) f.work f.is (nowhere (λ n. false))
        phase x e (Broken u by) k = by-fact (h.broken W.server m W x is e (ap is_broken k))
          where
            same : x.tid ≡ T
            same = sym (h.mirrors.owner W.server m W x is e).1 ∙ (said files epochs r h (messages.Drop T W) sent).0.1

            by-fact : NeverReady w x.tid W → ⊥
            by-fact (inl a) = not_both (w.aborted T) (subst (λ (U : Tid). w.aborted U ≡ true) same a) clear
            by-fact (inr n) = not_both (w.was_ready W) (((inv files epochs r h).core.named T now-named).ready W.server W part) n

        by : (o : Option Work) → work_at W m.worker ≡ o → o ≡ None
        by None e = refl
        by (Some x) e = absurd (phase x e x.phase refl)

  -- its end doesn't have the work
  none-of-its-own : (w.part T W.server ≡ Some W → ⊥) → IsNoPart r T W
  none-of-its-own none = let end = was-ended files epochs r h T is-named in (end, false_unless (is_work W end.works) (λ e. none (its-part files epochs r h T W (end, e))))

  pub dropped : IsOver r W ⊎ IsNoPart r T W
  dropped = by (w.part T W.server) refl
    where
      of-part : w.part T W.server ≡ Some W → IsOver r W ⊎ IsNoPart r T W
      of-part part = why (said files epochs r h (messages.Drop T W) sent).1
        where
          why : (w.aborted T ≡ true) ⊎ ((w.over W ≡ true) ⊎ ((w.ended T ≡ true) × (w.part T W.server ≢ Some W))) → IsOver r W ⊎ IsNoPart r T W
          why (inl a) = absurd (not_both (w.aborted T) a clear)
          why (inr (inl over)) = inl (record { found = nowhere part over; table = no-table part over })
          why (inr (inr n)) = absurd (n.1 part)

      by : (o : Option WorkId) → w.part T W.server ≡ o → IsOver r W ⊎ IsNoPart r T W
      by None e = inr (none-of-its-own (λ k. none_some W (sym e ∙ k)))
      by (Some V) e = at (work_tells V W)
        where
          at : ((work_eq V W ≡ true) × (V ≡ W)) ⊎ ((work_eq V W ≡ false) × (V ≢ W)) → IsOver r W ⊎ IsNoPart r T W
          at (inl k) = of-part (e ∙ ap (λ (U : WorkId). Some U) k.1)
          at (inr k) = inr (none-of-its-own (λ f. k.1 (some_is V W (sym e ∙ f))))
