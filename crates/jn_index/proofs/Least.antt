-- The least of what passes one test or another.
use Rattle.jn_index.proofs.Common.{◌≡◌, ◌≤◌, ◌<◌, ℕ, Bool, true, false, Option, Some, None, if◌then◌else◌, refl, ◌∙◌, arith, nat_lt, nat_tests, ◌||◌}
use Rattle.jn_index.specs.Least.{LeastFrom, lesser}

one-of : {C : Type 0} (b c : Bool) → (b || c) ≡ true → (b ≡ true → C) → (c ≡ true → C) → C
one-of true c h x y = x refl
one-of false c h x y = y h

or-left : (b c : Bool) → b ≡ true → (b || c) ≡ true
or-left b c h = grind arith

or-right : (b c : Bool) → c ≡ true → (b || c) ≡ true
or-right b c h = grind arith

module _ {A : Type 0} (number : A → ℕ) where
  pub lesser_none : (a : Option A) → lesser number a None ≡ a
  lesser_none None = refl
  lesser_none (Some a) = refl

  assoc : (a b c : Option A) → lesser number (lesser number a b) c ≡ lesser number a (lesser number b c)
  assoc None b c = refl
  assoc (Some a) None c = refl
  assoc (Some a) (Some b) None = grind arith
  assoc (Some a) (Some b) (Some c) = grind arith

  pub lesser_step : (least x rest all : Option A) → lesser number least (lesser number x rest) ≡ all → lesser number (lesser number least x) rest ≡ all
  lesser_step least x rest all h = assoc least x rest ∙ h

  module _ (p q : A → Bool) (n : ℕ) where
    not-below : {C : Type 0} (k : ℕ) → k < n → n ≤ k → C
    not-below k a b = absurd (omega arith)

    pub least_join : (a b : Option A) → LeastFrom number p n a → LeastFrom number q n b → LeastFrom number (λ x. p x || q x) n (lesser number a b)
    least_join None None h k = λ x e. one-of (p x) (q x) e (h x) (k x)
    least_join None (Some b) h k = record {
      here = or-right (p b) (q b) k.here;
      from_there = k.from_there;
      least = λ x e le. one-of (p x) (q x) e (λ e. not-below (number x) (h x e) le) (λ e. k.least x e le);
    }
    least_join (Some a) None h k = record {
      here = or-left (p a) (q a) h.here;
      from_there = h.from_there;
      least = λ x e le. one-of (p x) (q x) e (λ e. h.least x e le) (λ e. not-below (number x) (k x e) le);
    }
    least_join (Some a) (Some b) h k = by (nat_lt (number b) (number a)) refl
      where
        by : (c : Bool) → nat_lt (number b) (number a) ≡ c → LeastFrom number (λ x. p x || q x) n (if c then Some b else Some a)
        by true e = record {
          here = or-right (p b) (q b) k.here;
          from_there = k.from_there;
          least = λ x s le. one-of (p x) (q x) s (λ s. let m = h.least x s le in grind (arith, nat_tests, e, m)) (λ s. k.least x s le);
        }
        by false e = record {
          here = or-left (p a) (q a) h.here;
          from_there = h.from_there;
          least = λ x s le. one-of (p x) (q x) s (λ s. h.least x s le) (λ s. let m = k.least x s le in grind (arith, nat_tests, e, m));
        }
