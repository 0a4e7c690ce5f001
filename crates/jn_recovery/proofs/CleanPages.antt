-- A store is cleaned, page by page.
use Rattle.jn_recovery.proofs.Common.{◌≡◌, ◌⊎◌, inl, inr, ⊎_elim, ◌<◌, ◌≤◌, ◌+◌, ℕ, Bool, true, false, Result, Ok, Err, sym, ◌∙◌, subst, true≢false, arith, cases_eq, is_ok, OnOk, OnErr, cleaned_fewer, fewer_trans, StoreView, StoreCleaned, IsClean, IsSamePage, IsWholePage, later_trans, same_trans, Cleans}
use Rattle.jn_base.specs.declared.device.Stopped.{Stopped}

module _ (u v : StoreView) (from n : ℕ) (to : Cleans u from n v) (below : n < u.count) where
  below_now : n < v.count
  below_now = subst (λ k. n < k) (sym to.later.count) below

  -- what stands elsewhere is as it was, done or stopped
  pub others_more : (answer : Result Bool Stopped) (w : StoreView) → StoreCleaned v n answer w → (i : ℕ) → i < u.count → (i < from) ⊎ (n + 1 ≤ i) → IsSamePage u w i
  others_more answer w step i lt out = same_trans u v w i (to.others i lt (⊎_elim (λ low. inl low) (λ past. inr (omega (arith, past))) out))
      (step.others i (subst (λ k. i < k) (sym to.later.count) lt) (let o = to.order in ⊎_elim (λ low e. omega (arith, low, e, o)) (λ past e. omega (arith, past, e)) out))

  pub cleans_more : (answer : Result Bool Stopped) (w : StoreView) → is_ok answer ≡ true → StoreCleaned v n answer w → Cleans u from (n + 1) w
  cleans_more answer w ok step = record {
    order = let o = to.order in omega (arith, o);
    later = later_trans u v w to.later step.later;
    calls = let a = to.calls in let b = step.calls in let o = to.order in omega (arith, a, b, o);
    fewer = fewer_trans u v w to.fewer (cleaned_fewer v n answer w step);
    clean = λ i low lt. ⊎_elim (λ e. subst (IsClean w) (sym e) (step.clean ok))
        (λ ne. let same = step.others i (omega (arith, lt, ne, below_now)) ne in same.first ∙ to.clean i low (omega (arith, lt, ne)) ∙ sym same.second) (cases_eq i n);
    whole = λ calm i low lt. ⊎_elim (λ e. subst (IsWholePage w) (sym e) (step.calm (to.later.calm calm)).1)
        (λ ne. step.later.whole (to.later.calm calm) i (omega (arith, lt, ne, below_now)) (to.whole calm i low (omega (arith, lt, ne)))) (cases_eq i n);
    others = others_more answer w step;
    stops = (step.served ok).stops ∙ to.stops;
    power = λ power. (step.served ok).power;
    powered = λ lt. (step.served ok).power;
  }

pub on_ok : {X E : Type 0} (r : Result X E) (P : Type 0) → OnOk r P → is_ok r ≡ true → P
on_ok (Ok x) P h e = h
on_ok (Err x) P h e = absurd (true≢false (sym e))

pub on_err : {X E : Type 0} (r : Result X E) (P : Type 0) → OnErr r P → is_ok r ≡ false → P
on_err (Ok x) P h e = absurd (true≢false e)
on_err (Err x) P h e = h

-- the pages of root, records and heads, where there are so many
pub front_cleaned : (v w : StoreView) (n k : ℕ) → n ≡ k → {X E : Type 0} (r : Result X E) → OnOk r (Cleans v 0 n w) → is_ok r ≡ true → Cleans v 0 k w
front_cleaned v w n k e r h ok = subst (λ m. Cleans v 0 m w) e (on_ok r (Cleans v 0 n w) h ok)
