-- How a run shows that its commits aren't in order.
use Rattle.jn_system.proofs.Common.{◌≡◌, ℕ, false, List, Some, None, sym, ◌∙◌, ServerNo, LockUnit, WorkId, no_files, Prepared, World, replay, IsInOrder}

-- a register isn't as the commits left it, and no work is there that would write it
pub is-lost : (w : World) (s : ServerNo) (u : LockUnit) (v : List ℕ) → ((W : WorkId) → (w.found s (λ n. false)).works W ≡ None) → (w.found s (λ n. false)).files u ≡ None → replay no_files w.history s u ≡ Some v
    → IsInOrder no_files w → ⊥
is-lost w s u v works files base h = both (sym files ∙ h.shown s (λ n. false) u (λ W p e n. absurd (none p (sym (works W) ∙ e))) ∙ base)
  where
    both : None ≡ Some v → ⊥
    both q = cc

    none : (p : Prepared) → None ≡ Some p → ⊥
    none p q = cc
