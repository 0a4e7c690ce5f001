-- Names in rising order, as far as a number.
use Rattle.jn_server.proofs.Common.{◌≡◌, ◌≢◌, ◌⊎◌, inl, inr, ℕ, ◌+◌, ◌<◌, ◌≤◌, Bool, true, false, ◌&&◌, ◌||◌, List, [], ◌∷◌, ◌++◌, Option, is_some, refl, sym, ◌∙◌, subst, arith, nat_lt, list_any, list_all, nat_tests, first-of, second-of}
use Rattle.jn_system.specs.WholeSystem.Steps.{are_rising, AreNames}
use Rattle.std.proofs.lemmas.List.Folds.{list_any-append, list_all-append}

both : {a b : Bool} → a ≡ true → b ≡ true → (a && b) ≡ true
both p q = grind (arith, p, q)

all-imply : {A : Type 0} (p q : A → Bool) → ((a : A) → p a ≡ true → q a ≡ true) → (xs : List A) → list_all p xs ≡ true → list_all q xs ≡ true
all-imply p q h [] k = refl
all-imply p q h (x ∷ xs) k = both (h x (first-of (p x) (list_all p xs) k)) (all-imply p q h xs (second-of (p x) (list_all p xs) k))

one-more-all : {A : Type 0} (p : A → Bool) (xs : List A) (a : A) → list_all p xs ≡ true → p a ≡ true → list_all p (xs ++ a ∷ []) ≡ true
one-more-all p xs a h k = list_all-append p xs (a ∷ []) ∙ both h (both k refl)

rising-more : {A : Type 0} (before : A → A → Bool) (xs : List A) (a : A) → are_rising before xs ≡ true → list_all (λ b. before b a) xs ≡ true → are_rising before (xs ++ a ∷ []) ≡ true
rising-more before [] a h k = refl
rising-more before (x ∷ xs) a h k = both
    (one-more-all (before x) xs a (first-of (list_all (before x) xs) (are_rising before xs) h) (first-of (before x a) (list_all (λ b. before b a) xs) k))
    (rising-more before xs a (second-of (list_all (before x) xs) (are_rising before xs) h) (second-of (before x a) (list_all (λ b. before b a) xs) k))

-- the names below a number of what is there
pub record ListsBelow {A B : Type 0} (eq : A → A → Bool) (number : A → ℕ) (there : A → Option B) (n : ℕ) (names : List A) : Type 0 where
  pub each : (a : A) → list_any (λ b. eq b a) names ≡ (is_some (there a) && nat_lt (number a) n)
  pub below : list_all (λ a. nat_lt (number a) n) names ≡ true
  pub rising : are_rising (λ a b. nat_lt (number a) (number b)) names ≡ true

less-more : (m n k : ℕ) → n ≤ k → nat_lt m n ≡ true → nat_lt m k ≡ true
less-more m n k h e = grind (arith, nat_tests, e)

less-next : (n : ℕ) → nat_lt n (n + 1) ≡ true
less-next n = grind (arith, nat_tests)

none-below : (n : ℕ) → nat_lt n 0 ≡ false
none-below n = grind (arith, nat_tests)

module _ {A B : Type 0} (eq : A → A → Bool) (number : A → ℕ) (tells : (a b : A) → ((eq a b ≡ true) × (a ≡ b)) ⊎ ((eq a b ≡ false) × (a ≢ b))) (same : (a b : A) → number a ≡ number b → a ≡ b) (there : A → Option B) where
  pub lists-nothing : ListsBelow eq number there 0 []
  lists-nothing = record { each = λ a. by (is_some (there a)) (nat_lt (number a) 0) (none-below (number a)); below = refl; rising = refl }
    where
      by : (b c : Bool) → c ≡ false → false ≡ (b && c)
      by b c e = grind arith

  -- none has a number between
  pub lists-on : (n m : ℕ) (names : List A) → ListsBelow eq number there n names → n ≤ m → ((a : A) → is_some (there a) ≡ true → n ≤ number a → m ≤ number a) → ListsBelow eq number there m names
  lists-on n m names h le none = record {
    each = λ a. h.each a ∙ by a (is_some (there a)) refl;
    below = all-imply (λ a. nat_lt (number a) n) (λ a. nat_lt (number a) m) (λ a e. less-more (number a) n m le e) names h.below;
    rising = h.rising;
  }
    where
      same-test : (k : ℕ) → (n ≤ k → m ≤ k) → nat_lt k n ≡ nat_lt k m
      same-test k f = grind (arith, nat_tests, le, f)

      by : (a : A) (b : Bool) → is_some (there a) ≡ b → (b && nat_lt (number a) n) ≡ (b && nat_lt (number a) m)
      by a false e = refl
      by a true e = same-test (number a) (none a e)

  -- the next one
  pub lists-more : (a : A) (names : List A) → ListsBelow eq number there (number a) names → is_some (there a) ≡ true → ListsBelow eq number there (number a + 1) (names ++ a ∷ [])
  lists-more a names h stands = record {
    each = λ b. list_any-append (λ c. eq c b) names (a ∷ []) ∙ by b (list_any (λ c. eq c b) names) (h.each b) (tells a b);
    below = one-more-all (λ b. nat_lt (number b) (number a + 1)) names a (all-imply (λ b. nat_lt (number b) (number a)) (λ b. nat_lt (number b) (number a + 1)) (λ b e. less-more (number b) (number a) (number a + 1) (omega arith) e) names h.below) (less-next (number a));
    rising = rising-more (λ a b. nat_lt (number a) (number b)) names a h.rising h.below;
  }
    where
      is-it : (t c : Bool) → t ≡ true → (c || (true || false)) ≡ (t && true)
      is-it t c e = grind arith

      isnt-it : (k m : ℕ) (t c : Bool) → (k ≢ m) → c ≡ (t && nat_lt m k) → (c || (false || false)) ≡ (t && nat_lt m (k + 1))
      isnt-it k m t c other e = grind (arith, nat_tests, e)

      by : (b : A) (c : Bool) → c ≡ (is_some (there b) && nat_lt (number b) (number a)) → ((eq a b ≡ true) × (a ≡ b)) ⊎ ((eq a b ≡ false) × (a ≢ b)) → (c || (eq a b || false)) ≡ (is_some (there b) && nat_lt (number b) (number a + 1))
      by b c e (inl t) = subst (λ (x : Bool). (c || (x || false)) ≡ (is_some (there b) && nat_lt (number b) (number a + 1))) (sym t.0)
          (subst (λ (x : A). (c || (true || false)) ≡ (is_some (there x) && nat_lt (number x) (number a + 1))) t.1
          (subst (λ (x : Bool). (c || (true || false)) ≡ (is_some (there a) && x)) (sym (less-next (number a))) (is-it (is_some (there a)) c stands)))
      by b c e (inr t) = subst (λ (x : Bool). (c || (x || false)) ≡ (is_some (there b) && nat_lt (number b) (number a + 1))) (sym t.0)
          (isnt-it (number a) (number b) (is_some (there b)) c (λ k. t.1 (same a b k)) e)

  -- all
  pub lists-all : (n : ℕ) (names : List A) → ListsBelow eq number there n names → ((a : A) → is_some (there a) ≡ true → number a < n) → AreNames eq (λ a b. nat_lt (number a) (number b)) there names
  lists-all n names h low = record { each = λ a. h.each a ∙ by a (is_some (there a)) refl; rising = h.rising }
    where
      less : (m : ℕ) → m < n → nat_lt m n ≡ true
      less m k = grind (arith, nat_tests)

      by : (a : A) (b : Bool) → is_some (there a) ≡ b → (b && nat_lt (number a) n) ≡ b
      by a false e = refl
      by a true e = less (number a) (low a e)
