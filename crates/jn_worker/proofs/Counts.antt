-- What a row's changes leave of the accounts.
use Rattle.jn_worker.proofs.Common.{◌≡◌, ℕ, Bool, true, false, List, [], ◌∷◌, length, Option, Some, None, if◌then◌else◌, refl, sym, ◌∙◌, ap, subst, arith, inl, inr, not, ◌+◌, ◌⊎◌, ◌||◌, LockUnit, Tid, WorkId, work_eq, work_is, Intention, WorkHead, ActiveWork, Active, Change, StableState, Prepared, AddReady, CarryOut, RemoveWork, next_after, IsActive, is_in, Accounts, StorageView, intentions_of, list_of, state, with_work, CountsOn, CountsOff, CountsErased, is_none, WorkerView, Fits, WorkFits, PhaseFits, CountsBy, Beside, beside_of, left_by, needed, HoldsBy}
use Rattle.std.proofs.Math.Path.{fun_ext}
use Rattle.jn_records.specs.MapPlaces.{lacking}

pub filled : {c : Change} {cs : List Change} → c ∷ cs ≡ [] → ⊥
filled e = cc e

pub no_changes : (changes : List Change) → not (is_none changes) ≡ false → changes ≡ []
no_changes [] e = refl
no_changes (c ∷ changes) e = cc e

first-same : (d c : Change) → d ∷ [] ≡ c ∷ [] → d ≡ c
first-same d c e = cc e

-- what the only change leaves
pub left_only : (x : StableState) (d c : Change) (b : Beside) → d ∷ [] ≡ c ∷ [] → left_by x d b ≡ left_by x c b
left_only x d c b e = ap (λ (y : Change). left_by x y b) (first-same d c e)

-- and what works hold
pub holds_only : (a b : Accounts) (d c : Change) → d ∷ [] ≡ c ∷ [] → HoldsBy a d b → HoldsBy a c b
holds_only a b d c e h = subst (λ (y : Change). HoldsBy a y b) (first-same d c e) h

-- the accounts are as they were, and no intention is counted
pub counts_same : (x : StableState) (changes : List Change) (a b : Accounts) → b ≡ a → next_after changes a.next ≡ a.next → ((c : Change) → changes ≡ c ∷ [] → left_by x c (beside_of a) ≡ beside_of a) → ((c : Change) → changes ≡ c ∷ [] → HoldsBy a c a) → CountsBy x changes a b
counts_same x changes a b is next left holds = record { holds = λ c e. subst (HoldsBy a c) (sym is) (holds c e); beside = λ c e. ap beside_of is ∙ sym (left c e); promised_records = ap (λ (x : Accounts). x.promised_records) is; next = ap (λ (x : Accounts). x.next) is ∙ sym next; rubbish = λ n h. inl (ap (λ (x : Accounts). is_in work_eq n x.rubbish) (sym is) ∙ h) }

pub counts_kept : (x : StableState) (changes : List Change) (a : Accounts) → changes ≡ [] → CountsBy x changes a a
counts_kept x changes a none = counts_same x changes a a refl (ap (λ cs. next_after cs a.next) none) (λ c e. absurd (filled (sym e ∙ none))) (λ c e. absurd (filled (sym e ∙ none)))

pub counts_ready : (x : StableState) (head : WorkHead) (list : List Intention) (reads : List LockUnit) (a b : Accounts) → a.next head.work ≡ 0 → b ≡ with_work a head.work (needed a.maps x list) (lacking a.maps list) → CountsBy x (AddReady head list reads ∷ []) a b
counts_ready x head list reads a b zero is = record {
  holds = λ c e. holds_only a b (AddReady head list reads) c e (ap (λ (x : Accounts). x.held) is);
  beside = λ c e. ap beside_of is ∙ left_only x (AddReady head list reads) c (beside_of a) e;
  promised_records = ap (λ (x : Accounts). x.promised_records) is;
  next = ap (λ (x : Accounts). x.next) is ∙ fun_ext (λ V. by V (work_eq head.work V) refl);
  rubbish = λ n h. inl (ap (λ (x : Accounts). is_in work_eq n x.rubbish) (sym is) ∙ h);
}
  where
    by : (V : WorkId) (b : Bool) → work_eq head.work V ≡ b → (if b then 0 else a.next V) ≡ a.next V
    by V true e = sym zero ∙ ap a.next (work_is head.work V e)
    by V false e = refl

-- none of an active work's intentions has been carried out
pub none_carried : (t : WorkerView) (v : StorageView) (T : Tid) (W : WorkId) (a : ActiveWork) → Fits t v → IsActive t.table T W a → v.accounts.next W ≡ 0
none_carried t v T W a h i = let few = h.serving.next_fits W in
    omega (arith, few, none ((state v).works W) (subst (λ phase. PhaseFits phase i.work.tid ((state v).works W)) i.phase (subst (λ o. WorkFits o ((state v).works W)) i.found (h.stored W))))
  where
    none : (p : Option Prepared) → PhaseFits (Active a) i.work.tid p → length (intentions_of p) ≡ 0
    none None f = refl
    none (Some p) f = absurd f

pub counts_on : (x : StableState) (W : WorkId) (i : Intention) (a b : Accounts) → CountsOn a W i b → CountsBy x (CarryOut W i ∷ []) a b
counts_on x W i a b c = record { holds = λ d e. holds_only a b (CarryOut W i) d e c.others_hold; beside = λ d e. carried ∙ left_only x (CarryOut W i) d (beside_of a) e; promised_records = c.promised_records; next = c.next; rubbish = λ n h. inl (ap (λ r. is_in work_eq n r) (sym c.rubbish) ∙ h) }
  where
    carried : beside_of b ≡ left_by x (CarryOut W i) (beside_of a)
    carried = λ j. record { rubbish = length (c.rubbish j); maps = c.maps j; supplied = c.supplied j }

pub counts_off : (x : StableState) (W : WorkId) (a b : Accounts) → CountsOff a W (length (list_of x W)) b → CountsBy x (RemoveWork W ∷ []) a b
counts_off x W a b c = record { holds = λ d e. holds_only a b (RemoveWork W) d e c.held; beside = λ d e. removed ∙ left_only x (RemoveWork W) d (beside_of a) e; promised_records = c.promised_records; next = c.next; rubbish = λ n h. by (work_eq W n) (is_in work_eq n a.rubbish) (c.rubbish_names n h) }
  where
    removed : beside_of b ≡ left_by x (RemoveWork W) (beside_of a)
    removed = λ j. record { rubbish = c.rubbish_more j; maps = c.maps j; supplied = c.supplied j }

    by : (x y : Bool) → (x || y) ≡ true → (y ≡ true) ⊎ ((x || false) ≡ true)
    by true y h = inr refl
    by false y h = inl h

pub counts_erased : (x : StableState) (a b : Accounts) → CountsErased a b → CountsBy x [] a b
counts_erased x a b c = record { holds = λ d e. absurd (filled (sym e)); beside = λ d e. absurd (filled (sym e)); promised_records = ap (λ (x : Accounts). x.promised_records) c.others; next = ap (λ (x : Accounts). x.next) c.others; rubbish = λ n h. inl (c.rubbish_names n h) }
