-- Changing one work of a list.
use Rattle.std.proofs.Common.{◌≡◌, ℕ, zero, suc, true, ◌≤◌, ◌<◌, List, [], ◌∷◌, ◌++◌, length, take, drop, slice_set, slice_index_or, Some, None, refl, sym, ◌∙◌, ap, subst, arith}
use Rattle.jn_base.specs.declared.names.WorkId.{WorkId}
use Rattle.jn_base.specs.Names.{work_eq}
use Rattle.jn_rows.specs.declared.worker.Work.{Work}
use Rattle.jn_rows.specs.declared.worker.Phase.{Phase}
use Rattle.jn_rows.specs.Worker.{work_at}
use Rattle.jn_lock_rows.proofs.Edits.{rephased_at, same_there}
use Rattle.jn_lock_rows.specs.Calls.{rephased}

-- the work that was read at place i is changed there
pub changed_here : (W : WorkId) (f : Phase → Phase) (ws : List Work) (i : ℕ) (x d : Work) (phase : Phase) → i < length ws → x ≡ slice_index_or ws i x → d ≡ slice_index_or ws i d → work_eq x.name W ≡ true → phase ≡ f d.phase
    → slice_set ws i (record d { phase = phase }) ≡ take i ws ++ rephased W f (drop i ws)
changed_here W f ws i x d phase lt a b e is = ap (λ phase. slice_set ws i (record d { phase = phase })) is ∙ (ap (λ (y : Work). slice_set ws i (record y { phase = f y.phase })) b
    ∙ rephased_at W f d ws i lt (subst (λ (y : Work). work_eq y.name W ≡ true) (a ∙ same_there ws i x d lt) e))

found-at : (W : WorkId) (d : Work) (ws : List Work) (i : ℕ) → i < length ws → work_eq (slice_index_or ws i d).name W ≡ true → work_at W (drop i ws) ≡ Some (slice_index_or ws i d)
found-at W d [] i h e = absurd (omega (arith, h))
found-at W d (w ∷ ws) zero h e = grind (arith, e)
found-at W d (w ∷ ws) (suc i) h e = found-at W d ws i (omega (arith, h)) e

-- and it is the one that is found
pub found_here : (W : WorkId) (ws : List Work) (i : ℕ) (x d : Work) → i < length ws → x ≡ slice_index_or ws i x → d ≡ slice_index_or ws i d → work_eq x.name W ≡ true → work_at W (drop i ws) ≡ Some d
found_here W ws i x d lt a b e = found-at W d ws i lt (subst (λ (y : Work). work_eq y.name W ≡ true) (a ∙ same_there ws i x d lt) e) ∙ ap (λ (y : Work). Some y) (sym b)

pub none_further : (W : WorkId) (ws : List Work) (i : ℕ) → length ws ≤ i → work_at W (drop i ws) ≡ None
none_further W [] zero h = refl
none_further W [] (suc i) h = refl
none_further W (w ∷ ws) zero h = absurd (omega (arith, h))
none_further W (w ∷ ws) (suc i) h = none_further W ws i (omega (arith, h))
