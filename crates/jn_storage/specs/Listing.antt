-- Where something holds, as a list of the keys.
use Rattle.std.specs.Prelude.{◌≡◌, ◌≤◌, ◌+◌, ℕ, Bool, true, false, not, ◌&&◌, ◌||◌, List, [], ◌∷◌, length}

abbrev pub is_in : {A : Type 0} → (A → A → Bool) → A → List A → Bool
is_in eq a [] = false
is_in eq a (x ∷ xs) = eq x a || is_in eq a xs

-- no key stands twice
abbrev pub are_different : {A : Type 0} → (A → A → Bool) → List A → Bool
are_different eq [] = true
are_different eq (x ∷ xs) = not (is_in eq x xs) && are_different eq xs

-- each key at which it holds, once, and no other
pub record IsListing {A : Type 0} (eq : A → A → Bool) (holds : A → Bool) (keys : List A) : Type 0 where
  pub different : are_different eq keys ≡ true
  pub all : (a : A) → is_in eq a keys ≡ holds a

-- it holds at so many keys or fewer
pub record AtMost {A : Type 0} (n : ℕ) (eq : A → A → Bool) (holds : A → Bool) : Type 0 where
  pub keys : List A
  pub listing : IsListing eq holds keys
  pub few : length keys ≤ n

abbrev pub total : {A : Type 0} → (A → ℕ) → List A → ℕ
total f [] = 0
total f (x ∷ xs) = f x + total f xs
