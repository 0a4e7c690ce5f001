-- The least of the collisions' keys.
use Rattle.jn_locks.proofs.Common.{◌≡◌, ◌⊎◌, inl, inr, Bool, true, false, List, [], ◌∷◌, ◌++◌, Option, Some, None, refl, sym, ◌∙◌, subst, arith, if◌then◌else◌, Broken, lesser, least_of}
use Rattle.jn_locks.proofs.Collisions.{Among, Every}

-- the key is one of the collisions that pass, or was the best before, and none comes before it
pub record IsLeast {A : Type 0} (test : Broken → Bool) (key : Broken → A) (before : A → A → Bool) (best : Option A) (ls : List Broken) (c : A) : Type 0 where
  pub from : (best ≡ Some c) ⊎ ((l : Broken) × Among l ls × (test l ≡ true) × (key l ≡ c))
  pub best_not : (d : A) → best ≡ Some d → before d c ≡ false
  pub none : Every (λ l. test l ≡ true → before (key l) c ≡ false) ls

module _ {A : Type 0} (test : Broken → Bool) (key : Broken → A) (before : A → A → Bool) (irreflexive : (a : A) → before a a ≡ false)
    (transitive : (a b c : A) → before a b ≡ true → before b c ≡ true → before a c ≡ true)
    (onward : (a b c : A) → before a c ≡ true → before b c ≡ false → before a b ≡ true) where
  same : (x y : A) → Some x ≡ Some y → x ≡ y
  same x y e = cc

  unless : (b : Bool) → (b ≡ true → ⊥) → b ≡ false
  unless b k = grind arith

  not_both : {B : Type 0} → true ≡ false → B
  not_both e = absurd (cc e)

  -- no collision passes
  pub none_passes : (best : Option A) (ls : List Broken) → least_of test key before best ls ≡ None → (best ≡ None) × Every (λ l. test l ≡ false) ls
  none_passes best [] h = (h, tt)
  none_passes best (l ∷ ls) h = by (λ b. none_passes b ls) (test l) refl h
    where
      by : ((b : Option A) → least_of test key before b ls ≡ None → (b ≡ None) × Every (λ l. test l ≡ false) ls) → (b : Bool) → test l ≡ b → least_of test key before (if b then Some (lesser before best (key l)) else best) ls ≡ None → (best ≡ None) × Every (λ l. test l ≡ false) (l ∷ ls)
      by rest true e k = absurd (cc (rest (Some (lesser before best (key l))) k).0)
      by rest false e k = let r = rest best k in (r.0, (e, r.1))

  pub least_is : (best : Option A) (ls : List Broken) (c : A) → least_of test key before best ls ≡ Some c → IsLeast test key before best ls c
  least_is best [] c h = record { from = inl h; best_not = λ d e. subst (λ (x : A). before d x ≡ false) (same d c (sym e ∙ h)) (irreflexive d); none = tt }
  least_is best (l ∷ ls) c h = by (λ b. least_is b ls c) (test l) refl h
    where
      choose : (d : A) → best ≡ Some d → test l ≡ true → (t : Bool) → before (key l) d ≡ t → IsLeast test key before (Some (if t then key l else d)) ls c → IsLeast test key before best (l ∷ ls) c
      choose d is pass true e r = record {
        from = elim r.from [ inl q ↦ inr (l, inl refl, pass, same (key l) c q) | inr q ↦ inr (q.0, inr q.1, q.2, q.3) ];
        best_not = λ x p. unless (before x c) (λ k. not_both (sym (transitive (key l) d c e (subst (λ (z : A). before z c ≡ true) (same x d (sym p ∙ is)) k)) ∙ r.best_not (key l) refl));
        none = (λ _. r.best_not (key l) refl, r.none);
      }
      choose d is pass false e r = record {
        from = elim r.from [ inl q ↦ inl (is ∙ q) | inr q ↦ inr (q.0, inr q.1, q.2, q.3) ];
        best_not = λ x p. rw (same x d (sym p ∙ is)) (r.best_not d refl);
        none = (λ _. unless (before (key l) c) (λ k. not_both (sym (onward (key l) d c k (r.best_not d refl)) ∙ e)), r.none);
      }

      passing : (b : Option A) → best ≡ b → test l ≡ true → IsLeast test key before (Some (lesser before b (key l))) ls c → IsLeast test key before best (l ∷ ls) c
      passing None is pass r = record {
        from = elim r.from [ inl q ↦ inr (l, inl refl, pass, same (key l) c q) | inr q ↦ inr (q.0, inr q.1, q.2, q.3) ];
        best_not = λ x p. absurd (cc (sym is ∙ p));
        none = (λ _. r.best_not (key l) refl, r.none);
      }
      passing (Some d) is pass r = choose d is pass (before (key l) d) refl r

      by : ((b : Option A) → least_of test key before b ls ≡ Some c → IsLeast test key before b ls c) → (b : Bool) → test l ≡ b → least_of test key before (if b then Some (lesser before best (key l)) else best) ls ≡ Some c → IsLeast test key before best (l ∷ ls) c
      by rest true e k = passing best refl e (rest (Some (lesser before best (key l))) k)
      by rest false e k = let r = rest best k in record {
        from = elim r.from [ inl q ↦ inl q | inr q ↦ inr (q.0, inr q.1, q.2, q.3) ];
        best_not = r.best_not;
        none = (λ p. not_both (sym p ∙ e), r.none);
      }

pub least_of-append : {A : Type 0} (test : Broken → Bool) (key : Broken → A) (before : A → A → Bool) (best : Option A) (xs ys : List Broken)
    → least_of test key before best (xs ++ ys) ≡ least_of test key before (least_of test key before best xs) ys
least_of-append test key before best [] ys = refl
least_of-append test key before best (x ∷ xs) ys = least_of-append test key before (if test x then Some (lesser before best (key x)) else best) xs ys
