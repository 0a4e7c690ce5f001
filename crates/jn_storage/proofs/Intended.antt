-- What one intention of a prepared work does to the files that prepared works need.
use Rattle.jn_storage.proofs.Common.{◌≡◌, inr, ◌+◌, ℕ, zero, suc, Bool, true, false, not, ◌&&◌, ◌||◌, if◌then◌else◌, List, [], ◌∷◌, Option, Some, None, refl, sym, subst, arith, map, slice_get, is_some, nat_eq, list_all, FileNo, LockUnit, File, Block, file_eq, Files, change, What, Fresh, Gone, Cut, Put, Intention, intention_change, intention_place, in_order, entry, is_fresh, needs_a_head, Mode, Read, Commit, unit_eq, together, rebuilt, is_unit, unit_of, file_there, heads_of, sum_by-cons}
use Rattle.std.proofs.lemmas.Bool.Decides.{nat_tests}
use Rattle.jn_records.proofs.NetLemmas.{no_entry}

-- ---- an intention of a list

-- it is what its file has at its place
pub entry-of : (list : List Intention) (n : ℕ) (i : Intention) (last : Option Intention) → in_order last list ≡ true → slice_get list n ≡ Some i → entry list i.file (intention_place i) ≡ Some i
entry-of [] n i last h e = absurd (cc e)
entry-of (x ∷ xs) zero i last h e = grind (arith, nat_tests, e)
entry-of (x ∷ xs) (suc n) i last h e = let again = entry-of xs n i (Some x) (grind arith) e in let none = no_entry x xs i.file (intention_place i) (grind arith) in grind (arith, nat_tests)

-- and its unit is one of the list's
pub unit-of : (list : List Intention) (n : ℕ) (i : Intention) → slice_get list n ≡ Some i → is_unit (map unit_of list) (unit_of i) ≡ true
unit-of [] n i e = absurd (cc e)
unit-of (x ∷ xs) zero i e = same (unit_of x) (unit_of i) _ (grind (arith, e))
  where
    same : (u v : LockUnit) (b : Bool) → u ≡ v → (unit_eq u v || b) ≡ true
    same (File f) v b e = subst (λ v. (unit_eq (File f) v || b) ≡ true) e (grind (arith, nat_tests))
    same (Block f p) v b e = subst (λ v. (unit_eq (Block f p) v || b) ≡ true) e (grind (arith, nat_tests))
unit-of (x ∷ xs) (suc n) i e = let again = unit-of xs n i e in grind arith

pub all-by : {A : Type 0} (p q r : A → Bool) (xs : List A) → ((x : A) → p x ≡ true → q x ≡ true → r x ≡ true) → list_all p xs ≡ true → list_all q xs ≡ true → list_all r xs ≡ true
all-by p q r [] h a b = refl
all-by p q r (x ∷ xs) h a b = let here = h x in let again = all-by p q r xs h in grind (arith, a, b)

-- ---- whether a file is there

abbrev pub made_there : What → Bool → Bool → Bool
made_there Fresh same there = same || there
made_there Gone same there = not same && there
made_there _ same there = there

pub there-after : (i : Intention) (files : Files) (f : FileNo) → file_there (change (intention_change i) files) f ≡ made_there i.what (file_eq i.file f) (file_there files f)
there-after i files f = by i.what refl
  where
    by : (w : What) → i.what ≡ w → is_some (change (intention_change i) files (File f)) ≡ made_there w (file_eq i.file f) (is_some (files (File f)))
    by Fresh e = grind (arith, e)
    by Gone e = grind (arith, e)
    by Cut e = grind (arith, e)
    by Put e = grind (arith, e)

-- ---- the heads that a list needs

abbrev pub needs : (FileNo → Bool) → List Intention → ℕ
needs there list = heads_of list there

abbrev pub one_if : Bool → ℕ
one_if true = 1
one_if false = 0

pub needs-cons : (there : FileNo → Bool) (x : Intention) (xs : List Intention) → needs there (x ∷ xs) ≡ one_if (needs_a_head (there x.file) x) + needs there xs
needs-cons there x xs = let e = sum_by-cons (λ i. if needs_a_head (there i.file) i then 1 else 0) x xs in grind (arith, e)

-- whether no intention makes the file
abbrev pub makes_not : FileNo → Intention → Bool
makes_not f x = not (is_fresh x.what && file_eq f x.file)

abbrev pub is_not_fresh : Option Intention → Bool
is_not_fresh None = true
is_not_fresh (Some i) = not (is_fresh i.what)

makes-step : (x : Intention) (xs : List Intention) (f : FileNo) (w : What) → x.what ≡ w → in_order (Some x) xs ≡ true → (is_not_fresh (entry xs f zero) ≡ true → list_all (λ y. makes_not f y) xs ≡ true) → is_not_fresh (entry (x ∷ xs) f zero) ≡ true → list_all (λ y. makes_not f y) (x ∷ xs) ≡ true
makes-step x xs f Fresh is h again e = let none = no_entry x xs f zero h in grind (arith, nat_tests, is, e)
makes-step x xs f Gone is h again e = let none = no_entry x xs f zero h in grind (arith, nat_tests, is, e)
makes-step x xs f Cut is h again e = let none = no_entry x xs f zero h in grind (arith, nat_tests, is, e)
makes-step x xs f Put is h again e = let none = no_entry x xs f zero h in grind (arith, nat_tests, is, e)

pub makes-none : (list : List Intention) (f : FileNo) (last : Option Intention) → in_order last list ≡ true → is_not_fresh (entry list f zero) ≡ true → list_all (λ x. makes_not f x) list ≡ true
makes-none [] f last h e = refl
makes-none (x ∷ xs) f last h e = let tail : in_order (Some x) xs ≡ true = grind (arith, h) in makes-step x xs f x.what refl tail (λ q. makes-none xs f (Some x) tail q) e

-- a list that doesn't make the intention's file needs what it needed
pub needs-else : (i : Intention) (there after : FileNo → Bool) (list : List Intention) → ((f : FileNo) → after f ≡ made_there i.what (file_eq i.file f) (there f)) → list_all (λ x. makes_not i.file x) list ≡ true → needs after list ≡ needs there list
needs-else i there after [] is h = refl
needs-else i there after (x ∷ xs) is h = let again = needs-else i there after xs is in let a = needs-cons there x xs in let b = needs-cons after x xs in let at = is x.file in grind (arith, nat_tests, h)

-- a file that the list makes is there now: one head less is needed
fewer : (a b c d : ℕ) (p q : Bool) → a ≡ one_if p + c → b ≡ one_if q + d → p ≡ true → q ≡ false → d ≡ c → b + 1 ≡ a
fewer a b c d true q e f g h t = grind (arith, h)
fewer a b c d false q e f g h t = absurd (cc g)

as_few : (a b c d : ℕ) (p q : Bool) → a ≡ one_if p + c → b ≡ one_if q + d → p ≡ q → d + 1 ≡ c → b + 1 ≡ a
as_few a b c d true q e f g t = grind (arith, g)
as_few a b c d false q e f g t = grind (arith, g)

fresh-step : (x : Intention) (xs : List Intention) (i : Intention) (there after : FileNo → Bool) (w : What) → x.what ≡ w → i.what ≡ Fresh → there i.file ≡ false
    → ((f : FileNo) → after f ≡ made_there Fresh (file_eq i.file f) (there f))
    → ((file_eq x.file i.file && nat_eq (intention_place x) zero) ≡ true → needs after xs ≡ needs there xs)
    → (entry xs i.file zero ≡ Some i → needs after xs + 1 ≡ needs there xs) → (b : Bool) → (file_eq x.file i.file && nat_eq (intention_place x) zero) ≡ b → (if b then Some x else entry xs i.file zero) ≡ Some i → needs after (x ∷ xs) + 1 ≡ needs there (x ∷ xs)
fresh-step x xs i there after w is fresh absent f same again true m e = fewer _ _ _ _ _ _ (needs-cons there x xs) (needs-cons after x xs) one none (same m)
  where
    own : x ≡ i
    own = grind (arith, e)

    one : needs_a_head (there x.file) x ≡ true
    one = subst (λ y. needs_a_head (there y.file) y ≡ true) (sym own) (grind (arith, fresh, absent))

    none : needs_a_head (after x.file) x ≡ false
    none = subst (λ y. needs_a_head (after y.file) y ≡ false) (sym own) (let at = f i.file in grind (arith, nat_tests, fresh))
fresh-step x xs i there after Fresh is fresh absent f same again false m e = as_few _ _ _ _ _ _ (needs-cons there x xs) (needs-cons after x xs) (let at = f x.file in grind (arith, nat_tests, m, is)) (again e)
fresh-step x xs i there after Gone is fresh absent f same again false m e = as_few _ _ _ _ _ _ (needs-cons there x xs) (needs-cons after x xs) (grind (arith, is)) (again e)
fresh-step x xs i there after Cut is fresh absent f same again false m e = as_few _ _ _ _ _ _ (needs-cons there x xs) (needs-cons after x xs) (grind (arith, is)) (again e)
fresh-step x xs i there after Put is fresh absent f same again false m e = as_few _ _ _ _ _ _ (needs-cons there x xs) (needs-cons after x xs) (grind (arith, is)) (again e)

none-behind : (x : Intention) (xs : List Intention) (f : FileNo) → in_order (Some x) xs ≡ true → (file_eq x.file f && nat_eq (intention_place x) zero) ≡ true → is_not_fresh (entry xs f zero) ≡ true
none-behind x xs f h m = let none = no_entry x xs f zero h (inr (grind (arith, nat_tests, m), omega arith)) in subst (λ o. is_not_fresh o ≡ true) (sym none) refl

pub needs-fresh : (i : Intention) (there after : FileNo → Bool) (list : List Intention) (last : Option Intention) → i.what ≡ Fresh → there i.file ≡ false
    → ((f : FileNo) → after f ≡ made_there Fresh (file_eq i.file f) (there f)) → in_order last list ≡ true → entry list i.file zero ≡ Some i → needs after list + 1 ≡ needs there list
needs-fresh i there after [] last fresh absent f h e = absurd (cc e)
needs-fresh i there after (x ∷ xs) last fresh absent f h e = let tail : in_order (Some x) xs ≡ true = grind (arith, h) in
    fresh-step x xs i there after x.what refl fresh absent f
    (λ m. needs-else i there after xs (λ g. subst (λ w. after g ≡ made_there w (file_eq i.file g) (there g)) (sym fresh) (f g)) (makes-none xs i.file (Some x) tail (none-behind x xs i.file tail m)))
    (λ q. needs-fresh i there after xs (Some x) fresh absent f tail q) _ refl e

-- ---- what other works hold

-- a work that goes together with the intention's has no intention of the file that it writes
pub apart-files : (i : Intention) (commits reads units others : List LockUnit) (list : List Intention)
    → ((u : LockUnit) (m n : Mode) → rebuilt commits reads u m ≡ true → rebuilt units others u n ≡ true → together m n ≡ true)
    → is_unit commits (File i.file) ≡ true → list_all (λ x. is_unit others (File x.file)) list ≡ true → list_all (λ x. not (file_eq i.file x.file)) list ≡ true
apart-files i commits reads units others [] apart c h = refl
apart-files i commits reads units others (x ∷ xs) apart c h = let again = apart-files i commits reads units others xs apart c in let here = not_it (file_eq i.file x.file) refl in grind (arith, h)
  where
    not_it : (b : Bool) → file_eq i.file x.file ≡ b → not b ≡ true
    not_it false e = refl
    not_it true e = let at = apart (File x.file) Commit Read in grind (arith, nat_tests, h, c, e)
