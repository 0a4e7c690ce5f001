-- Tests that hold or fail, and lists of transactions as sets.
use Rattle.jn_judged.proofs.Common.{◌≡◌, inl, inr, Bool, true, false, not, ◌&&◌, ◌||◌, List, [], ◌∷◌, ◌++◌, refl, sym, ◌∙◌, subst, list_any, Tid, tid_eq, arith, nat_tests, has_tid, has_tid-append, NamesOnce}
use Rattle.jn_base.proofs.Tells.{tid_tells}

pub or-false : (a b : Bool) → (a || b) ≡ false → (a ≡ false) × (b ≡ false)
or-false true b h = cc h
or-false false b h = (refl, h)

pub or-both : (a b : Bool) → a ≡ false → b ≡ false → (a || b) ≡ false
or-both a b g h = rw (g, h) refl

pub both-true : (a b : Bool) → (a && b) ≡ true → (a ≡ true) × (b ≡ true)
both-true true b h = (refl, h)
both-true false b h = cc h

pub not-false : (b : Bool) → not b ≡ false → b ≡ true
not-false true h = refl
not-false false h = cc h

pub not-true : (b : Bool) → not b ≡ true → b ≡ false
not-true true h = cc h
not-true false h = refl

pub clash : {A : Type 0} (b : Bool) → b ≡ true → b ≡ false → A
clash b h k = cc (h, k)

-- what isn't so can't be
pub not-so : (b : Bool) → (b ≡ true → ⊥) → b ≡ false
not-so true h = absurd (h refl)
not-so false h = refl

-- ---- transactions

abbrev pub In : List Tid → Tid → Type 0
In ts t = has_tid ts t ≡ true

abbrev pub Out : List Tid → Tid → Type 0
Out ts t = has_tid ts t ≡ false

pub out-parts : (xs ys : List Tid) (t : Tid) → Out (xs ++ ys) t → Out xs t × Out ys t
out-parts xs ys t h = or-false (has_tid xs t) (has_tid ys t) (sym (has_tid-append xs ys t) ∙ h)

pub out-join : (xs ys : List Tid) (t : Tid) → Out xs t → Out ys t → Out (xs ++ ys) t
out-join xs ys t g h = has_tid-append xs ys t ∙ or-both (has_tid xs t) (has_tid ys t) g h

pub in-left : (xs ys : List Tid) (t : Tid) → In xs t → In (xs ++ ys) t
in-left xs ys t h = has_tid-append xs ys t ∙ rw h refl

pub in-right : (xs ys : List Tid) (t : Tid) → In ys t → In (xs ++ ys) t
in-right xs ys t h = has_tid-append xs ys t ∙ by (has_tid xs t)
  where
    by : (b : Bool) → (b || has_tid ys t) ≡ true
    by true = refl
    by false = h

same-tid : (t : Tid) → tid_eq t t ≡ true
same-tid t = grind (arith, nat_tests)

pub each-out : (p : Tid → Bool) (xs : List Tid) → list_any p xs ≡ false → (t : Tid) → In xs t → p t ≡ false
each-out p [] h t i = cc i
each-out p (u ∷ us) h t i = elim (tid_tells u t) [ inl e ↦ subst (λ (x : Tid). p x ≡ false) e.1 (or-false (p u) (list_any p us) h).0 | inr e ↦ each-out p us (or-false (p u) (list_any p us) h).1 t (further e.0 i) ]
  where
    further : tid_eq u t ≡ false → In (u ∷ us) t → In us t
    further e i = cc (e, i)

pub all-out : (p : Tid → Bool) (xs : List Tid) → ((t : Tid) → In xs t → p t ≡ false) → list_any p xs ≡ false
all-out p [] h = refl
all-out p (u ∷ us) h = or-both (p u) (list_any p us) (h u (in-left (u ∷ []) us u (rw (same-tid u) refl))) (all-out p us (λ t i. h t (in-right (u ∷ []) us t i)))

-- ---- each of them once

pub once-front : (xs ys : List Tid) → NamesOnce (xs ++ ys) → (t : Tid) → In ys t → Out xs t
once-front [] ys once t i = refl
once-front (x ∷ xs) ys once t i = or-both (tid_eq x t) (has_tid xs t) (elim (tid_tells x t) [ inl e ↦ clash (has_tid (xs ++ ys) t) (in-right xs ys t i) (subst (λ (z : Tid). Out (xs ++ ys) z) e.1 once.0) | inr e ↦ e.0 ]) (once-front xs ys once.1 t i)

pub once-back : (xs ys : List Tid) → NamesOnce (xs ++ ys) → NamesOnce ys
once-back [] ys once = once
once-back (x ∷ xs) ys once = once-back xs ys once.1

pub once-join : (xs ys : List Tid) → NamesOnce xs → NamesOnce ys → ((t : Tid) → In xs t → Out ys t) → NamesOnce (xs ++ ys)
once-join [] ys g h apart = h
once-join (x ∷ xs) ys g h apart = (out-join xs ys x g.0 (apart x (in-left (x ∷ []) xs x (rw (same-tid x) refl))), once-join xs ys g.1 h (λ t i. apart t (in-right (x ∷ []) xs t i)))
