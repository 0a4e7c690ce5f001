use Rattle.jn_system_settling.proofs.Common.{◌≡◌, ◌⊎◌, inl, inr, ℕ, true, None, true≢false, refl, sym, arith, list_any, ServerNo, AllFiles, new_work, holds_undecided, tells_outcome, own_texts, live_at}
use Rattle.jn_system_settling.specs.AtRest.Example.{first_work, no_one's, forgotten_work}
use Rattle.jn_system_settling.proofs.settled.a_forgotten_work_is_not_settled.Goals as goal

pub returns : goal.returns
returns c = λ files epochs h. by files epochs (h first_work (new_work first_work no_one's) (omega arith) refl)
  where
    by : (files : AllFiles) (epochs : ServerNo → ℕ)
        → (holds_undecided ((forgotten_work files epochs).memory no_one's.server) no_one's ≡ true) ⊎ ((list_any (tells_outcome no_one's) (own_texts (forgotten_work files epochs) (forgotten_work files epochs)) ≡ true) ⊎ (live_at (forgotten_work files epochs) first_work ≡ None)) → ⊥
    by files epochs (inl e) = true≢false (sym e)
    by files epochs (inr (inl e)) = true≢false (sym e)
    by files epochs (inr (inr e)) = cc e
