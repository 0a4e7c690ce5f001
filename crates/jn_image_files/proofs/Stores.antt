-- The stores of images, one after another.
use Rattle.jn_image_files.proofs.Common.{◌≡◌, ℕ, zero, suc, ◌<◌, ◌≤◌, Bool, true, false, List, [], ◌∷◌, ◌++◌, length, slice_get, Option, Some, None, Result, Err, Vec, refl, sym, ◌∙◌, ap, subst, arith, nat_tests, nat_lt, get_or, ServerNo, DeviceState, PageCounts, StoreView, found_bytes, AreStoresOf, IsStoreOf, found_at}
use Rattle.std.specs.declared.alloc.Global.{Global}
use Rattle.jn_image_files.specs.Examined.{IsAccepted, IsFirstRefused, IsRefused}
use Rattle.jn_image_files.specs.declared.examining.ExamineFault.{ExamineFault}
use Rattle.jn_image_files.specs.declared.examining.ExamineFault.TheVariants as faults
use Rattle.jn_image_files.specs.declared.refusal.Refusal.{Refusal}

abbrev server_of : ℕ → ServerNo
server_of n = record { 0 = n }

-- what stands at a place, whatever would stand past the end
get_or-any : {A : Type 0} (xs : List A) (k : ℕ) (d e : A) → k < length xs → get_or xs k d ≡ get_or xs k e
get_or-any [] k d e lt = absurd (omega (arith, lt))
get_or-any (x ∷ xs) zero d e lt = refl
get_or-any (x ∷ xs) (suc k) d e lt = get_or-any xs k d e (omega (arith, lt))

-- a place in front of what is added, and the one that is added
get-front : {A : Type 0} (xs ys : List A) (n : ℕ) → n < length xs → slice_get (xs ++ ys) n ≡ slice_get xs n
get-front [] ys n lt = absurd (omega (arith, lt))
get-front (x ∷ xs) ys zero lt = refl
get-front (x ∷ xs) ys (suc n) lt = get-front xs ys n (omega (arith, lt))

at-end : {A : Type 0} (xs : List A) (x : A) (n : ℕ) (y : A) → length xs ≤ n → slice_get (xs ++ x ∷ []) n ≡ Some y → (n ≡ length xs) × (Some y ≡ Some x)
at-end [] x zero y ge at = (refl, sym at)
at-end [] x (suc n) y ge at = absurd (none-some at)
  where
    none-some : None ≡ Some y → ⊥
    none-some e = cc
at-end (z ∷ xs) x zero y ge at = absurd (omega (arith, ge))
at-end (z ∷ xs) x (suc n) y ge at = let here = at-end xs x n y (omega (arith, ge)) at in (omega (arith, here.0), here.1)

-- what stands at each place, with one more
pub one-more-at : {A : Type 0} (P : ℕ → A → Type 0) (xs : List A) (x : A) → ((n : ℕ) (y : A) → slice_get xs n ≡ Some y → P n y) → P (length xs) x → (n : ℕ) (y : A) → slice_get (xs ++ x ∷ []) n ≡ Some y → P n y
one-more-at {A} P xs x all last n y at = by (nat_lt n (length xs)) refl
  where
    some : (a b : A) → Some a ≡ Some b → a ≡ b
    some a b e = cc

    by : (b : Bool) → nat_lt n (length xs) ≡ b → P n y
    by true lt = all n y (sym (get-front xs (x ∷ []) n (grind (arith, nat_tests, lt))) ∙ at)
    by false ge =
        let here = at-end xs x n y (grind (arith, nat_tests, ge)) at in
        subst (λ (k : ℕ). P k y) (sym here.0) (subst (λ (z : A). P (length xs) z) (some x y (sym here.1)) last)

-- a store of an image is that of one that is accepted
pub accepted : {S : Type 0} (look : S → StoreView) (device : S → DeviceState) (q : ServerNo) (content : Option (List ℕ)) (x : S × PageCounts) → IsStoreOf look device q content x → IsAccepted q content
accepted look device q content x is = (is.disk.image, is.disk.is_sound, is.disk.bytes)

-- ---- as they are examined

is-at : (found : List (Option (Vec ℕ Global))) (k : ℕ) (item : Option (Vec ℕ Global)) → k < length found → item ≡ get_or found k item → found_at found k ≡ found_bytes item
is-at found k item lt is = ap (λ (o : Option (Vec ℕ Global)). found_bytes o) (get_or-any found k None item lt ∙ sym is)

pub next-store : {S : Type 0} (look : S → StoreView) (device : S → DeviceState) (found : List (Option (Vec ℕ Global))) (stores : List (S × PageCounts)) (k own : ℕ) → own ≡ length stores → (item : Option (Vec ℕ Global)) (x : S × PageCounts) → k < length found → length stores ≡ k → item ≡ get_or found k item
    → AreStoresOf look device (found_at found) stores → IsStoreOf look device (server_of own) (found_bytes item) x → AreStoresOf look device (found_at found) (stores ++ x ∷ [])
next-store {S} look device found stores k own place item x lt count is all given = let one = subst (λ (n : ℕ). IsStoreOf look device (server_of n) (found_bytes item) x) place given in one-more-at (λ (n : ℕ) (y : S × PageCounts). IsStoreOf look device (record { 0 = n }) (found_at found n) y) stores x all
    (subst (λ (content : Option (List ℕ)). IsStoreOf look device (record { 0 = length stores }) content x) (sym (ap (λ (n : ℕ). found_at found n) count ∙ is-at found k item lt is)) one)

some-at : {A : Type 0} (xs : List A) (n : ℕ) → n < length xs → (x : A) × (slice_get xs n ≡ Some x)
some-at [] n lt = absurd (omega (arith, lt))
some-at (x ∷ xs) zero lt = (x, refl)
some-at (x ∷ xs) (suc n) lt = some-at xs n (omega (arith, lt))

same-fault : {W : Type 0} (answer : Result W ExamineFault) (a b : ExamineFault) → answer ≡ Err a → answer ≡ Err b → a ≡ b
same-fault answer a b x y = cc

handed-on : {V W : Type 0} (one : Result V ExamineFault) (answer : Result W ExamineFault) (e f : ExamineFault) → one ≡ Err e → answer ≡ Err e → answer ≡ Err f → one ≡ Err f
handed-on one answer e f is same told = is ∙ ap (λ (x : ExamineFault). Err x) (same-fault answer e f same told)

pub first-refused : {S : Type 0} {V W : Type 0} (look : S → StoreView) (device : S → DeviceState) (found : List (Option (Vec ℕ Global))) (stores : List (S × PageCounts)) (k own : ℕ) → own ≡ length stores → (item : Option (Vec ℕ Global)) (one : Result V ExamineFault) (answer : Result W ExamineFault) (e : ExamineFault) (r : Refusal)
    → k < length found → length stores ≡ k → item ≡ get_or found k item → AreStoresOf look device (found_at found) stores → one ≡ Err e → answer ≡ Err e → answer ≡ Err (faults.Refused r)
    → ((s : Refusal) → one ≡ Err (faults.Refused s) → (s.server ≡ server_of own) × IsRefused (server_of own) (found_bytes item) s.cause) → IsFirstRefused (found_at found) (length found) r
first-refused {S} {V} look device found stores k own place item one answer e r lt count is all failed same told refused =
    let which = moved refused r (handed-on one answer e (faults.Refused r) failed same told) in
    record {
      there = subst (λ (n : ℕ). n < length found) (sym (ap (λ (q : ServerNo). q.0) which.0 ∙ count)) lt;
      before = λ n less.
          let (x, at) = some-at stores n (subst (λ (m : ℕ). n < m) (ap (λ (q : ServerNo). q.0) which.0) less) in
          accepted look device (record { 0 = n }) (found_at found n) x (all n x at);
      cause = subst (λ (q : ServerNo). IsRefused q (found_at found q.0) r.cause) (sym which.0)
          (subst (λ (content : Option (List ℕ)). IsRefused (server_of (length stores)) content r.cause) (sym (ap (λ (n : ℕ). found_at found n) count ∙ is-at found k item lt is)) which.1);
    }
  where
    moved : ((s : Refusal) → one ≡ Err (faults.Refused s) → (s.server ≡ server_of own) × IsRefused (server_of own) (found_bytes item) s.cause) → (s : Refusal) → one ≡ Err (faults.Refused s) → (s.server ≡ server_of (length stores)) × IsRefused (server_of (length stores)) (found_bytes item) s.cause
    moved h s e = subst (λ (n : ℕ). (s.server ≡ server_of n) × IsRefused (server_of n) (found_bytes item) s.cause) place (h s e)
