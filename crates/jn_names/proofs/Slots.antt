-- A bucket's places as a map, and that a changed bucket is a bucket.
use Rattle.std.proofs.Common.{◌≡◌, ℕ, zero, suc, ◌≤◌, ◌<◌, ◌^◌, Bool, true, false, List, [], ◌∷◌, length, Option, Some, None, option_map, inl, inr, refl, sym, ◌∙◌, ap, subst, arith, eq-eqb}
use Rattle.std.specs.Prelude.{bytes_eq, ◌&&◌, ◌⊎◌, slice_set, nat_eq, is_none, is_some, if◌then◌else◌}
use Rattle.std.proofs.lemmas.Bool.{cases_Bool}
use Rattle.jn_base.specs.declared.names.FileNo.{FileNo}
use Rattle.jn_order.specs.Changes.{or_also}
use Rattle.jn_names.specs.declared.entry.Entry.{Entry}
use Rattle.jn_base.specs.Names.{is_name}
use Rattle.jn_names.specs.Names.{bucket_of}
use Rattle.jn_names.specs.Buckets.{Slot, find_in, belongs, all_belong, FileFits, AllFit, IsBucket, name_in, place_of, bound_in, unbound_in}
use Rattle.jn_names.specs.Calls.{entries_of}
use Rattle.jn_names.proofs.Bytes.{name-some}
use Rattle.jn_names.proofs.Tests.{left, right, both, eq-true, same-test, turned}

abbrev pub entry : List ℕ → FileNo → Entry
entry name file = record { name = name; file = file }

-- a slot stands in the place of a name, where the name stands first
pub data Puts (name : List ℕ) (new : Slot) : List Slot → List Slot → Type 0 where
  Here : (slot : Slot) (slots : List Slot) → bytes_eq (name_in slot) name ≡ true → Puts name new (slot ∷ slots) (new ∷ slots)
  Behind : (slot : Slot) (slots now : List Slot) → bytes_eq (name_in slot) name ≡ false → Puts name new slots now → Puts name new (slot ∷ slots) (slot ∷ now)

pub puts : (name : List ℕ) (new : Slot) (slots : List Slot) (place : ℕ) → place_of name slots ≡ Some place → Puts name new slots (slice_set slots place new)
puts name new [] place h = absurd (cc h)
puts name new (slot ∷ slots) place h = elim (cases_Bool (bytes_eq (name_in slot) name)) [
  | inl k ↦ first k place (rw k at h)
  | inr k ↦ others k (place_of name slots) place refl (rw k at h) (λ p e. puts name new slots p e)
]
  where
    first : bytes_eq (name_in slot) name ≡ true → (p : ℕ) → Some 0 ≡ Some p → Puts name new (slot ∷ slots) (slice_set (slot ∷ slots) p new)
    first k zero e = Here slot slots k
    first k (suc p) e = absurd (let z : 0 ≡ suc p = cc in omega (arith, z))

    others : bytes_eq (name_in slot) name ≡ false → (o : Option ℕ) (p : ℕ) → place_of name slots ≡ o → option_map suc o ≡ Some p → ((q : ℕ) → place_of name slots ≡ Some q → Puts name new slots (slice_set slots q new))
        → Puts name new (slot ∷ slots) (slice_set (slot ∷ slots) p new)
    others k None p e g more = absurd (cc g)
    others k (Some q) p e g more = let z : suc q ≡ p = cc in subst (λ (n : ℕ). Puts name new (slot ∷ slots) (slice_set (slot ∷ slots) n new)) z (Behind slot slots (slice_set slots q new) k (more q e))

-- ---- what is found

same-none : {A : Type 0} (o : Option A) → is_none o ≡ true → o ≡ None
same-none None h = refl
same-none (Some x) h = absurd (cc h)

-- names that are one and another one
apart : (a b other : List ℕ) → bytes_eq a b ≡ false → bytes_eq a other ≡ true → bytes_eq b other ≡ false
apart a b other h k = ap (λ (x : List ℕ). bytes_eq b x) (sym (eq-true a other k)) ∙ turned a b h

passes : (slot : Slot) (slots : List Slot) (name other : List ℕ) → bytes_eq (name_in slot) name ≡ true → bytes_eq name other ≡ false → find_in other (slot ∷ slots) ≡ find_in other slots
passes None slots name other h m = refl
passes (Some e) slots name other h m = rw (same-test e.name name other h, m) refl

-- a place in front, whose name isn't the one
module _ (name other : List ℕ) (r : Option FileNo) where
  front-kept : (slot : Slot) (slots now : List Slot) → bytes_eq (name_in slot) name ≡ false → find_in other now ≡ (if bytes_eq name other then r else find_in other slots)
      → find_in other (slot ∷ now) ≡ (if bytes_eq name other then r else find_in other (slot ∷ slots))
  front-kept None slots now h same = same
  front-kept (Some e) slots now h same = elim (cases_Bool (bytes_eq e.name other)) [
    | inl k ↦ rw (k, apart e.name name other h k) refl
    | inr k ↦ rw k same
  ]

pub find-bound : (name other : List ℕ) (file : FileNo) (slots now : List Slot) → Puts name (Some (entry name file)) slots now → find_in other now ≡ (if bytes_eq name other then Some file else find_in other slots)
find-bound name other file _ _ (Here slot slots k) = elim (cases_Bool (bytes_eq name other)) [
  | inl m ↦ rw m refl
  | inr m ↦ rw m (sym (passes slot slots name other k m))
]
find-bound name other file _ _ (Behind slot slots now k more) = front-kept name other (Some file) slot slots now k (find-bound name other file slots now more)

pub no-name : (k : ℕ) (e : Entry) (slots : List Slot) → belongs k (Some e) slots ≡ true → is_name e.name ≡ true
no-name k e slots h = left (is_name e.name) _ (left _ (is_none (find_in e.name slots)) h)

-- a place with the empty name is free
free : (k : ℕ) (slot : Slot) (slots : List Slot) → belongs k slot slots ≡ true → bytes_eq (name_in slot) [] ≡ true → slot ≡ None
free k None slots h e = refl
free k (Some x) slots h e = absurd (let s = name-some x.name (no-name k x slots h) in let z : length x.name ≡ 0 = ap length (eq-true x.name [] e) in omega (arith, s, z))

-- a name that isn't there isn't the first one's
not-first : (e : Entry) (slots : List Slot) (name : List ℕ) → find_in name (Some e ∷ slots) ≡ None → bytes_eq e.name name ≡ false
not-first e slots name h = elim (cases_Bool (bytes_eq e.name name)) [
  | inl k ↦ absurd (cc (rw k at h))
  | inr k ↦ k
]

not-behind : (slot : Slot) (slots : List Slot) (name : List ℕ) → find_in name (slot ∷ slots) ≡ None → find_in name slots ≡ None
not-behind None slots name h = h
not-behind (Some e) slots name h = rw (not-first e slots name h) at h

pub find-added : (k : ℕ) (name other : List ℕ) (file : FileNo) (slots now : List Slot) → all_belong k slots ≡ true → find_in name slots ≡ None → Puts [] (Some (entry name file)) slots now
    → find_in other now ≡ (if bytes_eq name other then Some file else find_in other slots)
find-added k name other file _ _ h none (Here slot slots e) = subst (λ (s : Slot). find_in other (Some (entry name file) ∷ slots) ≡ (if bytes_eq name other then Some file else find_in other (s ∷ slots))) (sym (free k slot slots (left _ _ h) e)) refl
find-added k name other file _ _ h none (Behind None slots now e more) = absurd (cc e)
find-added k name other file _ _ h none (Behind (Some x) slots now e more) = front-kept name other (Some file) (Some x) slots now (not-first x slots name none) (find-added k name other file slots now (right _ _ h) (not-behind (Some x) slots name none) more)

pub find-unbound : (k : ℕ) (name other : List ℕ) (slots now : List Slot) → all_belong k slots ≡ true → 1 ≤ length name → Puts name None slots now → find_in other now ≡ (if bytes_eq name other then None else find_in other slots)
find-unbound k name other _ _ h some (Here None slots e) = absurd (let z : 0 ≡ length name = ap length (eq-true [] name e) in omega (arith, some, z))
find-unbound k name other _ _ h some (Here (Some x) slots e) = elim (cases_Bool (bytes_eq name other)) [
  | inl m ↦ rw m (ap (λ (y : List ℕ). find_in y slots) (sym (eq-true name other m) ∙ sym (eq-true x.name name e)) ∙ same-none (find_in x.name slots) (right _ _ (left _ (all_belong k slots) h)))
  | inr m ↦ rw m (sym (passes (Some x) slots name other e m))
]
find-unbound k name other _ _ h some (Behind slot slots now e more) = front-kept name other None slot slots now e (find-unbound k name other slots now (right _ _ h) some more)

-- ---- what stays of a bucket

length-put : (name : List ℕ) (new : Slot) (slots now : List Slot) → Puts name new slots now → length now ≡ length slots
length-put name new _ _ (Here slot slots k) = refl
length-put name new _ _ (Behind slot slots now k more) = ap suc (length-put name new slots now more)

fits-put : (name : List ℕ) (new : Slot) (slots now : List Slot) → FileFits new → AllFit slots → Puts name new slots now → AllFit now
fits-put name new _ _ f all (Here slot slots k) = (f, all.1)
fits-put name new _ _ f all (Behind slot slots now k more) = (all.0, fits-put name new slots now f all.1 more)

-- a place in front still belongs, where its name is found as before
belongs-still : (k : ℕ) (slot : Slot) (slots now : List Slot) → ((e : Entry) → slot ≡ Some e → find_in e.name slots ≡ None → find_in e.name now ≡ None) → belongs k slot slots ≡ true → belongs k slot now ≡ true
belongs-still k None slots now f h = refl
belongs-still k (Some e) slots now f h = both (is_name e.name && nat_eq (bucket_of e.name) k) (is_none (find_in e.name now)) (left _ (is_none (find_in e.name slots)) h) (rw (f e refl (same-none (find_in e.name slots) (right (is_name e.name && nat_eq (bucket_of e.name) k) (is_none (find_in e.name slots)) h))) refl)

belong-bound : (name : List ℕ) (file : FileNo) (slots now : List Slot) → is_name name ≡ true → all_belong (bucket_of name) slots ≡ true → Puts name (Some (entry name file)) slots now → all_belong (bucket_of name) now ≡ true
belong-bound name file _ _ n h (Here None slots e) = absurd (let s = name-some name n in let z : 0 ≡ length name = ap length (eq-true [] name e) in omega (arith, s, z))
belong-bound name file _ _ n h (Here (Some x) slots e) = both _ _ (subst (λ (y : List ℕ). (is_name y && nat_eq (bucket_of y) (bucket_of name) && is_none (find_in y slots)) ≡ true) (eq-true x.name name e) (left _ (all_belong (bucket_of name) slots) h)) (right _ _ h)
belong-bound name file _ _ n h (Behind slot slots now e more) = both _ _ (belongs-still (bucket_of name) slot slots now by (left _ _ h)) (belong-bound name file slots now n (right _ _ h) more)
  where
    by : (x : Entry) → slot ≡ Some x → find_in x.name slots ≡ None → find_in x.name now ≡ None
    by x s none = let d : bytes_eq x.name name ≡ false = subst (λ (y : Slot). bytes_eq (name_in y) name ≡ false) s e in find-bound name x.name file slots now more ∙ rw (turned x.name name d) none

is-of : (name : List ℕ) (slots : List Slot) (file : FileNo) → is_name name ≡ true → find_in name slots ≡ None → belongs (bucket_of name) (Some (entry name file)) slots ≡ true
is-of name slots file n none = both (is_name name && nat_eq (bucket_of name) (bucket_of name)) (is_none (find_in name slots)) (both (is_name name) (nat_eq (bucket_of name) (bucket_of name)) n (eq-eqb (bucket_of name) (bucket_of name) refl)) (rw none refl)

belong-added : (name : List ℕ) (file : FileNo) (slots now : List Slot) → is_name name ≡ true → all_belong (bucket_of name) slots ≡ true → find_in name slots ≡ None → Puts [] (Some (entry name file)) slots now → all_belong (bucket_of name) now ≡ true
belong-added name file _ _ n h none (Here slot slots e) = both _ _ (is-of name slots file n (not-behind slot slots name none)) (right _ _ h)
belong-added name file _ _ n h none (Behind None slots now e more) = absurd (cc e)
belong-added name file _ _ n h none (Behind (Some x) slots now e more) = both _ _ (belongs-still (bucket_of name) (Some x) slots now by (left _ _ h)) (belong-added name file slots now n (right _ _ h) (not-behind (Some x) slots name none) more)
  where
    by : (y : Entry) → Some x ≡ Some y → find_in y.name slots ≡ None → find_in y.name now ≡ None
    by y s gone = let d : bytes_eq y.name name ≡ false = subst (λ (z : Slot). bytes_eq (name_in z) name ≡ false) s (not-first x slots name none) in
        find-added (bucket_of name) name y.name file slots now (right (belongs (bucket_of name) (Some x) slots) (all_belong (bucket_of name) slots) h) (not-behind (Some x) slots name none) more ∙ rw (turned y.name name d) gone

either-none : (b : Bool) (o : Option FileNo) → o ≡ None → (if b then None else o) ≡ None
either-none true o h = refl
either-none false o h = h

belong-unbound : (k : ℕ) (name : List ℕ) (slots now : List Slot) → 1 ≤ length name → all_belong k slots ≡ true → Puts name None slots now → all_belong k now ≡ true
belong-unbound k name _ _ some h (Here slot slots e) = right _ _ h
belong-unbound k name _ _ some h (Behind slot slots now e more) = both _ _ (belongs-still k slot slots now by (left _ _ h)) (belong-unbound k name slots now some (right _ _ h) more)
  where
    by : (x : Entry) → slot ≡ Some x → find_in x.name slots ≡ None → find_in x.name now ≡ None
    by x s none = find-unbound k name x.name slots now (right (belongs k slot slots) (all_belong k slots) h) some more ∙ either-none (bytes_eq name x.name) (find_in x.name slots) none

-- ---- binding and unbinding

pub place-none : (name : List ℕ) (slots : List Slot) → place_of name slots ≡ None → find_in name slots ≡ None
place-none name [] h = refl
place-none name (slot ∷ slots) h = elim (cases_Bool (bytes_eq (name_in slot) name)) [
  | inl k ↦ absurd (cc (rw k at h))
  | inr k ↦ by slot k (place-none name slots (none (place_of name slots) (rw k at h)))
]
  where
    none : (o : Option ℕ) → option_map suc o ≡ None → o ≡ None
    none None e = refl
    none (Some p) e = absurd (cc e)

    by : (s : Slot) → bytes_eq (name_in s) name ≡ false → find_in name slots ≡ None → find_in name (s ∷ slots) ≡ None
    by None k e = e
    by (Some x) k e = rw k e

-- a name that has a place is there
pub found-put : (name : List ℕ) (new : Slot) (slots now : List Slot) → 1 ≤ length name → Puts name new slots now → is_some (find_in name slots) ≡ true
found-put name new _ _ some (Here None slots e) = absurd (let z : 0 ≡ length name = ap length (eq-true [] name e) in omega (arith, some, z))
found-put name new _ _ some (Here (Some x) slots e) = rw e refl
found-put name new _ _ some (Behind None slots now e more) = found-put name new slots now some more
found-put name new _ _ some (Behind (Some x) slots now e more) = rw e (found-put name new slots now some more)

-- the new places are put where the name stands, or where no name does
pub data Binds (name : List ℕ) (file : FileNo) (slots : List Slot) : Option (List Slot) → Type 0 where
  Replaced : (now : List Slot) → Puts name (Some (entry name file)) slots now → Binds name file slots (Some now)
  Added : (now : List Slot) → find_in name slots ≡ None → Puts [] (Some (entry name file)) slots now → Binds name file slots (Some now)
  Full : find_in name slots ≡ None → place_of [] slots ≡ None → Binds name file slots None

pub binds : (name : List ℕ) (file : FileNo) (slots : List Slot) → Binds name file slots (bound_in name file slots)
binds name file slots = by (place_of name slots) (place_of [] slots) refl refl
  where
    by : (o f : Option ℕ) → place_of name slots ≡ o → place_of [] slots ≡ f → Binds name file slots (option_map (λ place. slice_set slots place (Some (entry name file))) (or_also o f))
    by (Some p) f e g = Replaced (slice_set slots p (Some (entry name file))) (puts name (Some (entry name file)) slots p e)
    by None (Some p) e g = Added (slice_set slots p (Some (entry name file))) (place-none name slots e) (puts [] (Some (entry name file)) slots p g)
    by None None e g = Full (place-none name slots e) g

-- the place of the name is freed, or there is none
pub data Frees (name : List ℕ) (slots : List Slot) : Option (List Slot) → Type 0 where
  Freed : (now : List Slot) → Puts name None slots now → Frees name slots (Some now)
  Absent : find_in name slots ≡ None → Frees name slots None

pub frees : (name : List ℕ) (slots : List Slot) → Frees name slots (unbound_in name slots)
frees name slots = by (place_of name slots) refl
  where
    by : (o : Option ℕ) → place_of name slots ≡ o → Frees name slots (option_map (λ place. slice_set slots place None) o)
    by (Some p) e = Freed (slice_set slots p None) (puts name None slots p e)
    by None e = Absent (place-none name slots e)

-- ---- buckets

pub bucket-replaced : (name : List ℕ) (file : FileNo) (slots now : List Slot) → is_name name ≡ true → file.0 < 2 ^ 32 → IsBucket (bucket_of name) slots → Puts name (Some (entry name file)) slots now → IsBucket (bucket_of name) now
bucket-replaced name file slots now n f b h = record {
  six = length-put name (Some (entry name file)) slots now h ∙ b.six;
  belong = belong-bound name file slots now n b.belong h;
  fit = fits-put name (Some (entry name file)) slots now f b.fit h;
}

pub bucket-added : (name : List ℕ) (file : FileNo) (slots now : List Slot) → is_name name ≡ true → file.0 < 2 ^ 32 → IsBucket (bucket_of name) slots → find_in name slots ≡ None → Puts [] (Some (entry name file)) slots now → IsBucket (bucket_of name) now
bucket-added name file slots now n f b none h = record {
  six = length-put [] (Some (entry name file)) slots now h ∙ b.six;
  belong = belong-added name file slots now n b.belong none h;
  fit = fits-put [] (Some (entry name file)) slots now f b.fit h;
}

pub bucket-freed : (k : ℕ) (name : List ℕ) (slots now : List Slot) → 1 ≤ length name → IsBucket k slots → Puts name None slots now → IsBucket k now
bucket-freed k name slots now some b h = record {
  six = length-put name None slots now h ∙ b.six;
  belong = belong-unbound k name slots now some b.belong h;
  fit = fits-put name None slots now tt b.fit h;
}

pub bucket-bound : (slots now : List Slot) (name : List ℕ) (file : FileNo) → is_name name ≡ true → file.0 < 2 ^ 32 → IsBucket (bucket_of name) slots → bound_in name file slots ≡ Some now → IsBucket (bucket_of name) now
bucket-bound slots now name file n f b h = by (bound_in name file slots) (binds name file slots) h
  where
    by : (o : Option (List Slot)) → Binds name file slots o → o ≡ Some now → IsBucket (bucket_of name) now
    by _ (Replaced next p) e = let z : next ≡ now = cc in subst (λ (x : List Slot). IsBucket (bucket_of name) x) z (bucket-replaced name file slots next n f b p)
    by _ (Added next none p) e = let z : next ≡ now = cc in subst (λ (x : List Slot). IsBucket (bucket_of name) x) z (bucket-added name file slots next n f b none p)
    by _ (Full none none') e = absurd (cc e)

pub bucket-unbound : (k : ℕ) (slots now : List Slot) (name : List ℕ) → 1 ≤ length name → IsBucket k slots → unbound_in name slots ≡ Some now → IsBucket k now
bucket-unbound k slots now name some b h = by (unbound_in name slots) (frees name slots) h
  where
    by : (o : Option (List Slot)) → Frees name slots o → o ≡ Some now → IsBucket k now
    by _ (Freed next p) e = let z : next ≡ now = cc in subst (λ (x : List Slot). IsBucket k x) z (bucket-freed k name slots next some b p)
    by _ (Absent none) e = absurd (cc e)

-- ---- full buckets

pub full-counts : (slots : List Slot) → place_of [] slots ≡ None → length (entries_of slots) ≡ length slots
full-counts [] h = refl
full-counts (None ∷ slots) h = absurd (cc h)
full-counts (Some e ∷ slots) h = elim (cases_Bool (bytes_eq e.name [])) [
  | inl k ↦ absurd (cc (rw k at h))
  | inr k ↦ ap suc (full-counts slots (none (place_of [] slots) (rw k at h)))
]
  where
    none : (o : Option ℕ) → option_map suc o ≡ None → o ≡ None
    none None e = refl
    none (Some p) e = absurd (cc e)

few-entries : (slots : List Slot) → length (entries_of slots) ≤ length slots
few-entries [] = omega arith
few-entries (None ∷ slots) = let h = few-entries slots in let n : length (entries_of slots) ≤ suc (length slots) = omega (arith, h) in n
few-entries (Some e ∷ slots) = let h = few-entries slots in let n : suc (length (entries_of slots)) ≤ suc (length slots) = omega (arith, h) in n

pub counted-full : (k : ℕ) (slots : List Slot) → all_belong k slots ≡ true → length (entries_of slots) ≡ length slots → place_of [] slots ≡ None
counted-full k [] b h = refl
counted-full k (None ∷ slots) b h = absurd (let f = few-entries slots in let z : length (entries_of slots) ≡ suc (length slots) = h in omega (arith, f, z))
counted-full k (Some e ∷ slots) b h = let n : bytes_eq e.name [] ≡ false = some (cases_Bool (bytes_eq e.name [])) in rw (n, counted-full k slots (right (belongs k (Some e) slots) (all_belong k slots) b) (let z : suc (length (entries_of slots)) ≡ suc (length slots) = h in omega (arith, z))) refl
  where
    some : ((bytes_eq e.name [] ≡ true) ⊎ (bytes_eq e.name [] ≡ false)) → bytes_eq e.name [] ≡ false
    some (inl q) = absurd (cc (free k (Some e) slots (left _ _ b) q))
    some (inr q) = q

-- what is put is put somewhere
pub put-somewhere : (name : List ℕ) (new : Slot) (slots now : List Slot) → Puts name new slots now → place_of name slots ≡ None → ⊥
put-somewhere name new _ _ (Here slot slots k) h = cc (rw k at h)
put-somewhere name new _ _ (Behind slot slots now k more) h = put-somewhere name new slots now more (none (place_of name slots) (rw k at h))
  where
    none : (o : Option ℕ) → option_map suc o ≡ None → o ≡ None
    none None e = refl
    none (Some p) e = absurd (cc e)
