-- What works hold goes on with each row.
use Rattle.jn_server.proofs.Common.{◌≡◌, ◌≤◌, ◌+◌, ℕ, Bool, true, false, true≢false, List, [], ◌∷◌, length, Option, Some, None, is_some, refl, sym, ◌∙◌, ap, subst, arith, if◌then◌else◌, WorkId, work_eq, StableState, Prepared, Change, AddReady, MarkGoing, CarryOut, RemoveWork, AddFlag, DropFlag, made_by, made_all, at_work, Accounts, state, Beside, beside_of, left_by, CountsBy, ServerView, epoch-all, work_tells, lacking, Intention, gone_on, next_after, next_by, ready_work, HoldsBy, pages_named, HoldsAll}

-- of these works in this epoch
abbrev Holds : ℕ → StableState → Accounts → Type 0
Holds e x a = (W : WorkId) (p : Prepared) → x.works W ≡ Some p → W.epoch ≡ e → a.next W ≡ 0 → a.held W ≡ pages_named p.list (a.supplied W)

same-work : (V W : WorkId) → work_eq V W ≡ true → V ≡ W
same-work V W h = let tells = work_tells V W in grind (arith, h)

some-same : (p q : Prepared) → Some p ≡ Some q → p ≡ q
some-same p q e = cc

no-name : (n : ℕ) → n + 1 ≡ 0 → ⊥
no-name n e = omega (arith, e)

-- a work that goes now was there
record WasThere (o : Option Prepared) (p : Prepared) : Type 0 where
  was : Prepared
  is : o ≡ Some was
  list : was.list ≡ p.list

was-there : (o : Option Prepared) (p : Prepared) → gone_on o ≡ Some p → WasThere o p
was-there None p e = absurd (true≢false (sym (ap is_some e)))
was-there (Some q) p e = record { was = q; is = refl; list = ap (λ (z : Prepared). z.list) (some-same (record q { going = true }) p e) }

module _ (e : ℕ) (x : StableState) (a b : Accounts) (old : Holds e x a) where
  -- nothing of a work changes
  holds-still : b.held ≡ a.held → b.next ≡ a.next → b.supplied ≡ a.supplied → Holds e x b
  holds-still h n s W p there own zero = ap (λ f. f W) h ∙ old W p there own (sym (ap (λ f. f W) n) ∙ zero) ∙ ap (λ f. pages_named p.list (f W)) (sym s)

  holds-by : (c : Change) → HoldsBy a c b → b.next ≡ next_by c a.next → beside_of b ≡ left_by x c (beside_of a) → Holds e (made_by c x) b
  holds-by (AddReady head list reads) h n s W p there own zero =
      ap (λ f. f W) h ∙ by (work_eq head.work W) there ∙ ap (λ (z : Beside). pages_named p.list (z.supplied W)) (sym s)
    where
      by : (t : Bool) → (if t then Some (ready_work head list reads) else x.works W) ≡ Some p
          → (if t then pages_named list (lacking a.maps list) else a.held W) ≡ pages_named p.list (if t then lacking a.maps list else a.supplied W)
      by true q = ap (λ (z : Prepared). pages_named z.list (lacking a.maps list)) (some-same (ready_work head list reads) p q)
      by false q = old W p q own (sym (ap (λ f. f W) n) ∙ zero)
  holds-by (MarkGoing V) h n s W p there own zero = ap (λ f. f W) h ∙ by (work_eq V W) refl there ∙ ap (λ (z : Beside). pages_named p.list (z.supplied W)) (sym s)
    where
      none-yet : a.next W ≡ 0
      none-yet = sym (ap (λ f. f W) n) ∙ zero

      by : (t : Bool) → work_eq V W ≡ t → (if t then gone_on (x.works V) else x.works W) ≡ Some p → a.held W ≡ pages_named p.list (a.supplied W)
      by true t q = let was = was-there (x.works V) p q in
          old W was.was (ap x.works (sym (same-work V W t)) ∙ was.is) own none-yet ∙ ap (λ (l : List Intention). pages_named l (a.supplied W)) was.list
      by false t q = old W p q own none-yet
  holds-by (CarryOut V i) h n s W p there own zero = by (work_eq V W) refl (sym (ap (λ f. f W) n) ∙ zero)
    where
      by : (t : Bool) → work_eq V W ≡ t → (if t then a.next V + 1 else a.next W) ≡ 0 → b.held W ≡ pages_named p.list (b.supplied W)
      by true t q = absurd (no-name (a.next V) q)
      by false t q = h W t ∙ old W p there own q ∙ ap (λ (z : Beside). pages_named p.list (z.supplied W)) (sym s)
  holds-by (RemoveWork V) h n s W p there own zero = ap (λ f. f W) h ∙ by (work_eq V W) there (sym (ap (λ f. f W) n) ∙ zero) ∙ ap (λ (z : Beside). pages_named p.list (z.supplied W)) (sym s)
    where
      by : (t : Bool) → (if t then None else x.works W) ≡ Some p → (if t then 0 else a.next W) ≡ 0 → (if t then 0 else a.held W) ≡ pages_named p.list (if t then [] else a.supplied W)
      by true q z = absurd (true≢false (sym (ap is_some q)))
      by false q z = old W p q own z
  holds-by (AddFlag flag) h n s W p there own zero = holds-still h n (ap (λ (z : Beside). z.supplied) s) W p there own zero
  holds-by (DropFlag T) h n s W p there own zero = holds-still h n (ap (λ (z : Beside). z.supplied) s) W p there own zero

  holds-row : (changes : List Change) → length changes ≤ 1 → CountsBy x changes a b → (changes ≡ [] → (b.held ≡ a.held) × (b.supplied ≡ a.supplied)) → Holds e (made_all changes x) b
  holds-row [] few counts still = holds-still (still refl).0 counts.next (still refl).1
  holds-row (c ∷ []) few counts still = holds-by c (counts.holds c refl) counts.next (counts.beside c refl)
  holds-row (c ∷ d ∷ cs) few counts still = absurd (omega (arith, few))

-- a row of the worker
pub holds-on : (v w : ServerView) (changes : List Change) → length changes ≤ 1 → state w.storage ≡ made_all changes (state v.storage) → CountsBy (state v.storage) changes v.storage.accounts w.storage.accounts
    → (changes ≡ [] → (w.storage.accounts.held ≡ v.storage.accounts.held) × (w.storage.accounts.supplied ≡ v.storage.accounts.supplied)) → HoldsAll v → HoldsAll w
holds-on v w changes few made counts still old W p there own zero =
    holds-row (state v.storage).epoch (state v.storage) v.storage.accounts w.storage.accounts old changes few counts still W p (sym (ap (λ (x : StableState). x.works W) made) ∙ there)
    (own ∙ ap (λ (x : StableState). x.epoch) made ∙ epoch-all changes (state v.storage)) zero

-- a row that changes no work
pub holds-flags : (v w : ServerView) → (state w.storage).works ≡ (state v.storage).works → (state w.storage).epoch ≡ (state v.storage).epoch → w.storage.accounts.held ≡ v.storage.accounts.held
    → w.storage.accounts.next ≡ v.storage.accounts.next → w.storage.accounts.supplied ≡ v.storage.accounts.supplied → HoldsAll v → HoldsAll w
holds-flags v w works epoch h n s old W p there own zero =
    ap (λ f. f W) h ∙ old W p (sym (ap (λ f. f W) works) ∙ there) (own ∙ epoch) (sym (ap (λ f. f W) n) ∙ zero) ∙ ap (λ f. pages_named p.list (f W)) (sym s)
