-- The stores of servers, one after another.
use Rattle.jn_run.proofs.Common.{◌≡◌, ℕ, zero, suc, ◌+◌, ◌<◌, ◌≤◌, Bool, true, false, List, [], ◌∷◌, ◌++◌, length, slice_get, Option, Some, None, refl, sym, ◌∙◌, subst, arith, nat_lt, ServerNo, sound_pages, IsStoreOf, Geometry, HasRoot, Counts, image_of, DeviceState, MemDisk, PageCounts, pairs_view, StoreView, AreStores, IsDisk, AreDisks, IsStore}
use Rattle.jn_image_files.specs.Opened.{AreStoresOf}

-- a place in front of what is added, and the one that is added
get-front : {A : Type 0} (xs ys : List A) (n : ℕ) → n < length xs → slice_get (xs ++ ys) n ≡ slice_get xs n
get-front [] ys n lt = absurd (omega (arith, lt))
get-front (x ∷ xs) ys zero lt = refl
get-front (x ∷ xs) ys (suc n) lt = get-front xs ys n (omega (arith, lt))

at-end : {A : Type 0} (xs : List A) (x : A) (n : ℕ) (y : A) → length xs ≤ n → slice_get (xs ++ x ∷ []) n ≡ Some y → (n ≡ length xs) × (Some y ≡ Some x)
at-end [] x zero y ge at = (refl, sym at)
at-end [] x (suc n) y ge at = absurd (none-some at)
  where
    none-some : None ≡ Some y → ⊥
    none-some e = cc
at-end (z ∷ xs) x zero y ge at = absurd (omega (arith, ge))
at-end (z ∷ xs) x (suc n) y ge at = let here = at-end xs x n y (omega (arith, ge)) at in (omega (arith, here.0), here.1)

-- what is seen of pairs of pages on a disk in memory
abbrev pub look : MemDisk → StoreView
look s = pairs_view ((Rattle.jn_memdisk.specs.contracts.disk.MemDiskPhysDisk.TheImpl.ghosts).state s)

-- and the device below them
abbrev pub device : MemDisk → DeviceState
device s = (Rattle.jn_memdisk.specs.contracts.disk.MemDiskPhysDisk.TheImpl.ghosts).state s

at-place : {S : Type 0} (see : S → StoreView) (x : S × PageCounts) (k m : ℕ) → k ≡ m → IsStore see k x → IsStore see m x
at-place see x k m same is = subst (λ (j : ℕ). IsStore see j x) same is

pub one-more-store : {S : Type 0} (see : S → StoreView) (n : ℕ) (xs : List (S × PageCounts)) (x : S × PageCounts) → AreStores see n xs → IsStore see (n + length xs) x → AreStores see n (xs ++ x ∷ [])
one-more-store see n [] x h is = let here = at-place see x (n + 0) n (omega arith) is in (here.0, here.1, tt)
one-more-store see n (y ∷ xs) x h is = (h.0, h.1, one-more-store see (n + 1) xs x h.2 (at-place see x (n + suc (length xs)) (n + 1 + length xs) (omega arith) is))

-- one more new disk
pub one-more-disk : {S : Type 0} (see : S → StoreView) (g : Geometry) (xs : List (S × PageCounts)) (x : S × PageCounts) → AreDisks see g xs → IsDisk see g (length xs) x → AreDisks see g (xs ++ x ∷ [])
one-more-disk {S} see g xs x h is n y at = by (nat_lt n (length xs)) refl
  where
    some : (a b : S × PageCounts) → Some a ≡ Some b → a ≡ b
    some a b e = cc

    by : (b : Bool) → nat_lt n (length xs) ≡ b → IsDisk see g n y
    by true lt = h n y (sym (get-front xs (x ∷ []) n (grind (arith, lt))) ∙ at)
    by false ge =
        let here = at-end xs x n y (grind (arith, ge)) at in
        subst (λ (k : ℕ). IsDisk see g k y) (sym here.0) (subst (λ (z : S × PageCounts). IsDisk see g (length xs) z) (some x y (sym here.1)) is)

-- ---- the stores of images

pub all-stores : {S : Type 0} (see : S → StoreView) (n : ℕ) (xs : List (S × PageCounts)) → ((k : ℕ) (x : S × PageCounts) → slice_get xs k ≡ Some x → IsStore see (n + k) x) → AreStores see n xs
all-stores see n [] h = tt
all-stores see n (x ∷ xs) h = let here = at-place see x (n + 0) n (omega arith) (h 0 x refl) in
    (here.0, here.1, all-stores see (n + 1) xs (λ k y at. at-place see y (n + suc k) (n + 1 + k) (omega arith) (h (suc k) y at)))

store-is : {S : Type 0} (see : S → StoreView) (dev : S → DeviceState) (q : ServerNo) (content : Option (List ℕ)) (x : S × PageCounts) → IsStoreOf see dev q content x → IsStore see q.0 x
store-is see dev q content x s =
    let root = subst (λ (g : Counts). HasRoot (image_of s.disk.image.version q g s.disk.image.pages)) s.disk.counts (sound_pages s.disk.image q s.disk.is_sound.form s.disk.is_sound.sound).sound.root in
    ((s.store.fresh root.0 root.1 root.2).recoverable, s.store.untouched.told)

zero-more : (n : ℕ) → n ≡ 0 + n
zero-more n = omega arith

pub stores-of-images : {S : Type 0} (see : S → StoreView) (dev : S → DeviceState) (found : ℕ → Option (List ℕ)) (xs : List (S × PageCounts)) → AreStoresOf see dev found xs → AreStores see 0 xs
stores-of-images see dev found xs are = all-stores see 0 xs (λ k x at. at-place see x k (0 + k) (zero-more k) (store-is see dev (record { 0 = k }) (found k) x (are k x at)))
