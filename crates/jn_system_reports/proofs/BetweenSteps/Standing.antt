-- After any steps from an opening the machine stands where the whole system does.
use Rattle.jn_system_reports.proofs.Common.{◌≡◌, ◌⊎◌, inl, inr, ℕ, true, List, [], ◌∷◌, ◌++◌, refl, sym, ◌∙◌, ap, subst, list_any, ServerNo, Tid, tid_eq, AllFiles, work_at, Machine, Invariant, Atom, run_atoms, opening_world, MayRun, run_kept, opening_kept, run_told, opening_told, not_both, some_is, none_some, World, Memory, opening, has_line, new_memory, Step, IsStep, IsRun, after, run, LockFacts, locks-keep, opening-keeps, Mirrors, run-append, may-append, opening-mirrors, committed-any, Facts, opening-facts, WasEnded}
use Rattle.jn_system_reports.proofs.BetweenSteps.Ending.{NextEnds, next-ends, step-sends, ended-still}
use Rattle.jn_system_reports.proofs.BetweenSteps.Breaking.{step-breaks}
use Rattle.jn_system_reports.proofs.BetweenSteps.Broken.{BrokenFact, broken-on}

pub record Standing (files : AllFiles) (epochs : ServerNo → ℕ) (r : World) : Type 0 where
  pub atoms : List Atom
  pub may : MayRun atoms (opening_world files epochs)
  pub locks : LockFacts r
  pub mirrors : Mirrors r (run_atoms atoms (opening_world files epochs))
  pub facts : Facts r (run_atoms atoms (opening_world files epochs))
  pub broken : BrokenFact r (run_atoms atoms (opening_world files epochs))
  -- what has ended was ended by a message
  pub ended : (T : Tid) → (run_atoms atoms (opening_world files epochs)).ended T ≡ true → WasEnded r T

module _ (files : AllFiles) (epochs : ServerNo → ℕ) where
  named-by : (r : World) (atoms : List Atom) → MayRun atoms (opening_world files epochs) → Mirrors r (run_atoms atoms (opening_world files epochs)) → (T : Tid) → (run_atoms atoms (opening_world files epochs)).named T ≡ has_line T r.lines
  named-by r atoms may mirrors T = (run_told files atoms (opening_world files epochs) may (opening_kept files epochs) (opening_told files epochs)).1.named T ∙ committed-any T (run_atoms atoms (opening_world files epochs)).history
      ∙ ap (λ l. list_any (λ (V : Tid). tid_eq V T) l) mirrors.commits

  -- a transaction is named where its commit has its line
  pub named-is : (r : World) (h : Standing files epochs r) (T : Tid) → (run_atoms h.atoms (opening_world files epochs)).named T ≡ has_line T r.lines
  named-is r h T = named-by r h.atoms h.may h.mirrors T

  pub invariant : (r : World) (h : Standing files epochs r) → Invariant (run_atoms h.atoms (opening_world files epochs))
  invariant r h = run_kept h.atoms (opening_world files epochs) h.may (opening_kept files epochs)

  -- it stands there later too, after more steps
  pub record Later (r : World) (h : Standing files epochs r) (q : World) : Type 0 where
    pub stands : Standing files epochs q
    pub more : List Atom
    pub further : MayRun more (run_atoms h.atoms (opening_world files epochs))
    pub same : run_atoms stands.atoms (opening_world files epochs) ≡ run_atoms more (run_atoms h.atoms (opening_world files epochs))

  next-stands : (r : World) (step : Step) → IsStep step r → (h : Standing files epochs r) → Later r h (after step r)
  next-stands r step i h = record {
    stands = record {
      atoms = h.atoms ++ next.atoms;
      may = may;
      locks = locks;
      mirrors = mirrors;
      facts = subst (λ (z : Machine). Facts (after step r) z) (sym same) next.facts;
      ended = λ T e. now T (next.ends T (subst (λ (z : Machine). z.ended T ≡ true) same e));
      broken = subst (λ (z : Machine). BrokenFact (after step r) z) (sym same) (broken-on r w next.atoms next.may (invariant r h) h.mirrors h.locks (named-is r h) h.broken (after step r) (step-breaks r h.locks step) next.mirrors locks
          (λ T. ap (λ (z : Machine). z.named T) (sym same) ∙ named-by (after step r) (h.atoms ++ next.atoms) may mirrors T));
    };
    more = next.atoms;
    further = next.may;
    same = same;
  }
    where
      w : Machine
      w = run_atoms h.atoms (opening_world files epochs)

      next : NextEnds (after step r) (run_atoms h.atoms (opening_world files epochs))
      next = next-ends files epochs h.atoms h.may r h.mirrors h.facts h.locks step i

      same : run_atoms (h.atoms ++ next.atoms) (opening_world files epochs) ≡ run_atoms next.atoms (run_atoms h.atoms (opening_world files epochs))
      same = run-append h.atoms next.atoms (opening_world files epochs)

      now : (T : Tid) → (w.ended T ≡ true) ⊎ WasEnded (after step r) T → WasEnded (after step r) T
      now T (inl e) = ended-still r (after step r) (step-sends r step) T (h.ended T e)
      now T (inr e) = e

      may : MayRun (h.atoms ++ next.atoms) (opening_world files epochs)
      may = may-append h.atoms next.atoms (opening_world files epochs) h.may next.may

      locks : LockFacts (after step r)
      locks = locks-keep step r i h.locks

      mirrors : Mirrors (after step r) (run_atoms (h.atoms ++ next.atoms) (opening_world files epochs))
      mirrors = subst (λ (z : Machine). Mirrors (after step r) z) (sym same) next.mirrors

  pub run-stands : (steps : List Step) (r : World) (h : Standing files epochs r) → IsRun steps r → Later r h (run steps r)
  run-stands [] r h i = record { stands = h; more = []; further = tt; same = refl }
  run-stands (step ∷ steps) r h i = let one = next-stands r step i.0 h in let rest = run-stands steps (after step r) one.stands i.1 in record {
    stands = rest.stands;
    more = one.more ++ rest.more;
    further = may-append one.more rest.more (run_atoms h.atoms (opening_world files epochs)) one.further (subst (λ (z : Machine). MayRun rest.more z) one.same rest.further);
    same = rest.same ∙ ap (λ (z : Machine). run_atoms rest.more z) one.same ∙ sym (run-append one.more rest.more (run_atoms h.atoms (opening_world files epochs)));
  }

  pub opening-stands : (servers : ℕ) → Standing files epochs (opening servers files epochs)
  opening-stands servers = record {
    atoms = [];
    may = tt;
    locks = opening-keeps servers files epochs;
    mirrors = opening-mirrors servers files epochs;
    facts = opening-facts servers files epochs;
    ended = λ T e. absurd (not_both true refl (sym e));
    broken = λ s m W x is found broken. absurd (none_some x (ap (λ (z : Memory). work_at W z.worker) (some_is (new_memory s (epochs s)) m is) ∙ found));
  }

  pub stand : (servers : ℕ) (steps : List Step) → IsRun steps (opening servers files epochs) → Standing files epochs (run steps (opening servers files epochs))
  stand servers steps i = (run-stands steps (opening servers files epochs) (opening-stands servers) i).stands
